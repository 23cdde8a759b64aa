-- Which tests lead to which answer of a search's refusal, one book after the other. Assumes nothing.
use mathlib.Core.Path.{◌≡◌, refl, sym, ◌∙◌}
use mathlib.Core.Logic.{◌⊎◌, inl, inr}
use mathlib.Core.List.{List}
use Prim.Native.Nat.{ℕ, zero, suc, ◌*◌, ◌≤◌, ◌<◌}
use native.Mathlib.Omega.{arith}
use borrow.Author.Tests.{eq-eqb, ne_eqb, le-leb, lt-leb}
use lib.Dec.{eqb, leb, eqb→eq, leb→le}
use Rattle.book.proofs.Choosing.{passed, passes_if, fails_if, first-earlier, first-later, first-none, lt-or_ge}
use Rattle.work_area.specs.Work.{work_words}
use Rattle.work_area.proofs.Zeroing.{work-short, work-enough, enough-work}
use Rattle.road_layout.specs.Road.{junctions}
use Rattle.road.specs.Refusal.{road_refusal}
use Rattle.tree_layout.specs.Decode.{junction_count}
use Rattle.tree.specs.Shape.{tree_refusal}
use Rattle.query.specs.Query.{query_refusal}
use Rattle.search_call.specs.Call.{Want, most_yards, tree_refusal_in, areas_refusal, search_refusal}

-- ---- the tree book

module _ (tree : List ℕ) (n : ℕ) where
  pub tree_turned_back : 1 ≤ tree_refusal tree → tree_refusal_in tree n ≡ tree_refusal tree
  unfolding tree_refusal_in
  tree_turned_back h = first-earlier (tree_refusal tree) _ h

  module _ (ok : tree_refusal tree ≡ 0) where
    pub counts_differ : (junction_count tree ≡ n → ⊥) → tree_refusal_in tree n ≡ 8
    unfolding tree_refusal_in
    counts_differ h = first-later (tree_refusal tree) _ ok ∙ fails_if (eqb (junction_count tree) n) 8 0 (ne_eqb _ _ h)

    pub counts_agree : junction_count tree ≡ n → tree_refusal_in tree n ≡ 0
    unfolding tree_refusal_in
    counts_agree e = first-later (tree_refusal tree) _ ok ∙ passes_if (eqb (junction_count tree) n) 8 0 (eq-eqb _ _ e)

  -- and back: a tree book that none turns back
  pub tree-passed : tree_refusal_in tree n ≡ 0 → (tree_refusal tree ≡ 0) × (junction_count tree ≡ n)
  unfolding tree_refusal_in
  tree-passed e =
      let a = first-none _ _ e in
      (a.0, eqb→eq (junction_count tree) n (passed _ _ _ a.1 (omega arith)).0)

-- ---- the areas

module _ (k work results : ℕ) where
  pub short-work : work < work_words → areas_refusal k work results ≡ 12
  unfolding areas_refusal
  short-work h = first-earlier _ _ (omega (arith, work-short work h)) ∙ work-short work h

  module _ (full : work_words ≤ work) where
    pub short-results : results < 2 * k → areas_refusal k work results ≡ 12
    unfolding areas_refusal
    short-results h = first-later _ _ (work-enough work full) ∙ fails_if (leb (2 * k) results) 12 0 (lt-leb _ _ h)

    pub long_enough : 2 * k ≤ results → areas_refusal k work results ≡ 0
    unfolding areas_refusal
    long_enough h = first-later _ _ (work-enough work full) ∙ passes_if (leb (2 * k) results) 12 0 (le-leb _ _ h)

  -- and back: areas that none turns back
  pub areas-passed : areas_refusal k work results ≡ 0 → (work_words ≤ work) × (2 * k ≤ results)
  unfolding areas_refusal
  areas-passed e =
      let a = first-none _ _ e in
      (enough-work work a.0, leb→le (2 * k) results (passed _ _ _ a.1 (omega arith)).0)

-- ---- the call

module _ (road tree query : List ℕ) (want : Want) (work results : ℕ) where
  pub by_road : 1 ≤ road_refusal road → search_refusal road tree query want work results ≡ road_refusal road
  unfolding search_refusal
  by_road h = first-earlier (road_refusal road) _ h

  module _ (a : road_refusal road ≡ 0) where
    pub by_tree : 1 ≤ tree_refusal_in tree (junctions road) → search_refusal road tree query want work results ≡ tree_refusal_in tree (junctions road)
    unfolding search_refusal
    by_tree h = first-later _ _ a ∙ first-earlier (tree_refusal_in tree (junctions road)) _ h

    module _ (b : tree_refusal_in tree (junctions road) ≡ 0) where
      pub by_query : 1 ≤ query_refusal query (junctions road) → search_refusal road tree query want work results ≡ query_refusal query (junctions road)
      unfolding search_refusal
      by_query h = first-later _ _ a ∙ first-later _ _ b ∙ first-earlier (query_refusal query (junctions road)) _ h

      module _ (c : query_refusal query (junctions road) ≡ 0) where
        pub by_kinds : want.kinds < 1 → search_refusal road tree query want work results ≡ 13
        unfolding search_refusal
        by_kinds h = first-later _ _ a ∙ first-later _ _ b ∙ first-later _ _ c ∙ fails_if (leb 1 want.kinds) 13 _ (lt-leb _ _ h)

        pub by_areas : 1 ≤ want.kinds → search_refusal road tree query want work results ≡ areas_refusal (most_yards tree query want) work results
        unfolding search_refusal
        by_areas h = first-later _ _ a ∙ first-later _ _ b ∙ first-later _ _ c ∙ passes_if (leb 1 want.kinds) 13 _ (le-leb _ _ h)

  -- and back: a call that none turns back
  pub none-refused : search_refusal road tree query want work results ≡ 0
      → (road_refusal road ≡ 0) × (tree_refusal_in tree (junctions road) ≡ 0) × (query_refusal query (junctions road) ≡ 0) × (1 ≤ want.kinds)
      × (areas_refusal (most_yards tree query want) work results ≡ 0)
  none-refused e =
      let a = none (road_refusal road) by_road in
      let b = none (tree_refusal_in tree (junctions road)) (by_tree a) in
      let c = none (query_refusal query (junctions road)) (by_query a b) in
      let k = some-kind a b c (lt-or_ge want.kinds 1) in
      (a, b, c, k, sym (by_areas a b c k) ∙ e)
    where
      none : (n : ℕ) → (1 ≤ n → search_refusal road tree query want work results ≡ n) → n ≡ 0
      none zero f = refl
      none (suc n) f = absurd (omega (arith, f (omega arith), e))

      some-kind : road_refusal road ≡ 0 → tree_refusal_in tree (junctions road) ≡ 0 → query_refusal query (junctions road) ≡ 0
          → (want.kinds < 1) ⊎ (1 ≤ want.kinds) → 1 ≤ want.kinds
      some-kind a b c (inl h) = absurd (omega (arith, by_kinds a b c h, e))
      some-kind a b c (inr h) = h
