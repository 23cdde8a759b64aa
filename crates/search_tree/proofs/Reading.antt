-- What reading a district answers for what its steps found, and what it leaves in the arrays. Assumes nothing.
use mathlib.Core.Path.{◌≡◌, refl, sym, ap, ◌∙◌}
use mathlib.Core.List.{List}
use Prim.Native.Nat.{ℕ, zero, suc, ◌≤◌}
use native.Mathlib.Omega.{arith}
use lib.ListN.{length, take}
use lib.Seq.{length-take-le}
use Rattle.std.specs.Prelude.{Result, Ok, Err, OnOk}
use Rattle.book.specs.Refusals.{answer_number}
use Rattle.book.specs.declared.refusal.Refusal.{Refusal}
use Rattle.book.proofs.Choosing.{first-earlier, first-later}
use Rattle.road_layout.specs.Road.{junctions, road_count}
use Rattle.road_layout.specs.Layout.{Sound, Refused, told}
use Rattle.adjacency.specs.Adjacency.{Adjacency}
use Rattle.road.specs.Refusal.{road_refusal}
use Rattle.road.proofs.Answering.{read_sound, read_refused}
use Rattle.tree_layout.specs.Decode.{junction_count, region_count}
use Rattle.tree_layout.specs.Facts.{TreeLayout}
use Rattle.tree_layout.specs.Reading.{header_of}
use Rattle.tree_layout.specs.declared.Header.{Header}
use Rattle.tree_layout.proofs.Reading.{header-junctions, header-regions}
use Rattle.tree.specs.Shape.{tree_refusal}
use Rattle.tree.specs.Answer.{Shaped, Refused as tree-refused, tree_of, places_after, ends_after}
use Rattle.tree.proofs.Answering.{shaped-found, turned_back, accepted-laid, accepted-room, accepted-ends}
use Rattle.search_call.specs.Call.{Want, tree_refusal_in, search_refusal}
use Rattle.search_call.proofs.Refusing.{tree_turned_back, counts_differ, counts_agree, tree-passed, by_road, by_tree}
use Rattle.search_tree.specs.code.District.{district_refusal, District}

-- what follows of the number 0 holds of an accepted answer
pub on_accepted : {P : Type 0} (r : Result (Unit {0}) Refusal) → (answer_number r ≡ 0 → P) → OnOk r P
on_accepted (Ok x) f = f refl
on_accepted (Err why) f = tt

-- ---- the tree book's tests

module _ (tree : List ℕ) (n : ℕ) where
  -- its own tests turn it back
  pub tree_own : (why : ℕ) → tree-refused why ≡ tree_of tree → why ≡ tree_refusal_in tree n
  tree_own why e = let x = turned_back tree why e in sym (tree_turned_back tree n (omega (arith, x.0, x.1)) ∙ x.0)

  module _ (h : Header) (e : Shaped h ≡ tree_of tree) where
    junctions_are : h.junctions ≡ junction_count tree
    junctions_are = ap (λ (x : Header). x.junctions) (sym (shaped-found tree h e).1) ∙ header-junctions tree

    pub tree_differs : (h.junctions ≡ n → ⊥) → 8 ≡ tree_refusal_in tree n
    tree_differs d = sym (counts_differ tree n (shaped-found tree h e).0 (λ q. d (junctions_are ∙ q)))

    pub tree_agrees : h.junctions ≡ n → 0 ≡ tree_refusal_in tree n
    tree_agrees q = sym (counts_agree tree n (shaped-found tree h e).0 (sym junctions_are ∙ q))

-- ---- both books' tests

module _ (road tree : List ℕ) where
  -- the road book's turn it back
  pub road-back : (why : ℕ) → Refused why ≡ told (road_refusal road) (junctions road) (road_count road) → why ≡ district_refusal road tree
  unfolding district_refusal
  road-back why e = let q = read_refused road why e in sym (first-earlier (road_refusal road) _ (omega (arith, q.0, q.1)) ∙ q.0)

  -- the tree book's tests are left
  module _ (n m : ℕ) (e : Sound n m ≡ told (road_refusal road) (junctions road) (road_count road)) (s : ℕ) (g : s ≡ tree_refusal_in tree n) where
    roads : (road_refusal road ≡ 0) × (n ≡ junctions road)
    roads = let x = read_sound road n m e in (x.0, x.1)

    pub tree_last : s ≡ district_refusal road tree
    unfolding district_refusal
    tree_last = g ∙ ap (tree_refusal_in tree) roads.1 ∙ sym (first-later (road_refusal road) _ roads.0)

    -- and none turns one back
    module _ (adj : List ℕ) (kept : road_refusal road ≡ 0 → Adjacency road adj) (places places' : List ℕ) (wide : 511 ≤ length places)
        (placed : places' ≡ places_after tree places) (ends ends' : List ℕ) (wider : 511 ≤ length ends) (ended : ends' ≡ ends_after tree ends) where
      pub is-district : s ≡ 0 → District road tree adj (take (region_count tree) places') (take (region_count tree) ends')
      is-district z =
          let (shape, counts) = tree-passed tree n (sym g ∙ z) in
          let size : length (take (region_count tree) ends') ≡ region_count tree =
          length-take-le (region_count tree) ends' (accepted-room tree shape (region_count tree) refl ends ends' wider ended) in
          record {
            roads = roads.0;
            shape = shape;
            counts = counts ∙ roads.1;
            adjacent = kept roads.0;
            laid = accepted-laid tree shape (region_count tree) refl places places' wide placed;
            ended = record {
              count = size;
              held = λ j h. accepted-ends tree shape (region_count tree) refl ends ends' wider ended j (omega (arith, size));
            };
          }

-- ---- for the call: a district that is turned back turns the call back

pub district-back : (road tree query : List ℕ) (want : Want) (work results why : ℕ) → why ≡ district_refusal road tree → 1 ≤ why
    → why ≡ search_refusal road tree query want work results
unfolding district_refusal
district-back road tree query want work results why e h = go (road_refusal road) refl
  where
    go : (x : ℕ) → x ≡ road_refusal road → why ≡ search_refusal road tree query want work results
    go zero q =
        let f = e ∙ first-later (road_refusal road) (tree_refusal_in tree (junctions road)) (sym q) in
        f ∙ sym (by_tree road tree query want work results (sym q) (omega (arith, f)))
    go (suc x) q =
        let z : 1 ≤ road_refusal road = omega arith in
        e ∙ first-earlier (road_refusal road) (tree_refusal_in tree (junctions road)) z ∙ sym (by_road road tree query want work results z)

-- ---- the arrays' entries, one for each region

module _ {road tree adj places ends : List ℕ} (d : District road tree adj places ends) where
  layout : TreeLayout tree
  layout = d.laid.layout

  pub header-room : 12 ≤ length tree
  header-room = omega (arith, layout.opens.headed)

  module _ (h : Header) (e : h ≡ header_of tree) (r : ℕ) (f : r ≡ h.regions) where
    pub regions_are : r ≡ region_count tree
    regions_are = f ∙ ap (λ (x : Header). x.regions) e ∙ header-regions tree

    pub few-regions : (w : ℕ) → w ≡ 511 → r ≤ w
    few-regions w g = omega (arith, regions_are, layout.regions.1)

    pub part_length : {A : Type 0} (l : List A) → length l ≡ 511 → r ≡ length (take r l)
    part_length l g = sym (length-take-le r l (few-regions (length l) g))

-- as they are lent
pub same-district : (road tree adj places ends : List ℕ) (n r : ℕ) → r ≡ n → District road tree adj (take n places) (take n ends)
    → District road tree adj (take r places) (take r ends)
same-district road tree adj places ends n r e d = rw e d
