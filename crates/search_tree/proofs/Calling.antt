-- What a query over a district returns and leaves in the areas, by its tests. Assumes nothing.
use mathlib.Core.Path.{◌≡◌, refl, sym, ap, ◌∙◌}
use mathlib.Core.Logic.{◌⊎◌, inl, inr}
use mathlib.Core.Bool.{not}
use mathlib.Core.List.{List}
use mathlib.Core.Option.{Option}
use Prim.Native.Nat.{ℕ, ◌≤◌}
use native.Mathlib.Omega.{arith}
use lib.ListN.{length}
use lib.Dec.{T}
use Rattle.book.proofs.Choosing.{choose_yes, choose_no, T-split}
use Rattle.work_area.specs.Work.{work_words, zeroed, work_after}
use Rattle.work_area.proofs.Zeroing.{accepted-zeroed, refused-kept}
use Rattle.adjacency.specs.Adjacency.{count_in}
use Rattle.road_layout.specs.Road.{junctions}
use Rattle.query.specs.Query.{aggregate_of, k_of, query_refusal, query_of, Asked, Refused, query_book}
use Rattle.query.specs.declared.Query.{Query}
use Rattle.query.proofs.Reading.{read_asked, read_refused, its_aggregate, its_k}
use Rattle.tree_layout.specs.Decode.{tree_yard_count}
use Rattle.tree_layout.specs.Reading.{header_of}
use Rattle.tree_layout.specs.declared.Header.{Header}
use Rattle.tree_layout.proofs.Accessing.{its_yards}
use Rattle.search_rules.specs.Rule.{Rule, Asking}
use Rattle.search_rules.specs.Run.{Answer}
use Rattle.search_call.specs.Call.{Want, rule_by, asking_by, most_by, Found, refused, accepted, tree_refusal_in, areas_refusal, search_refusal, search_answer, search_found, results_after}
use Rattle.search_call.proofs.Refusing.{counts_agree, by_query, by_kinds, by_areas}
use Rattle.search_call.proofs.Calls.{tests, found-accepted, found-refused, settled-writes, spent_keeps, refused_keeps}
use Rattle.search_tree.specs.code.District.{District}
use Rattle.search_tree.specs.code.Asking.{AcceptedBy, answer_by}
use Rattle.search_tree.specs.Found.{written_by}

-- ---- a query's tests over a district

module _ {road tree adj places ends : List ℕ} (d : District road tree adj places ends) (query : List ℕ) (want : Want) (work results : ℕ) (n : ℕ) (count : n ≡ count_in adj) where
  n_is : n ≡ junctions road
  n_is = count ∙ d.adjacent.count

  tree-none : tree_refusal_in tree (junctions road) ≡ 0
  tree-none = counts_agree tree (junctions road) d.shape d.counts

  -- its own turn it back
  pub query-back : (why : ℕ) → Refused why ≡ query_book (query_refusal query n) (query_of query) → why ≡ search_refusal road tree query want work results
  query-back why e =
      let x = rw n_is at (read_refused (query_refusal query n) (query_of query) why (sym e)) in
      sym (by_query road tree query want work results d.roads tree-none (omega (arith, x.0, x.1)) ∙ x.0)

  module _ (asked : Query) (e : Asked asked ≡ query_book (query_refusal query n) (query_of query)) where
    found : (query_refusal query (junctions road) ≡ 0) × (query_of query ≡ asked)
    found = rw n_is at (read_asked (query_refusal query n) (query_of query) asked (sym e))

    pub asked_of : asked ≡ query_of query
    asked_of = sym found.1

    -- a wanted byte of 0 does
    pub kinds-back : want.kinds ≡ 0 → 13 ≡ search_refusal road tree query want work results
    kinds-back z = sym (by_kinds road tree query want work results d.roads tree-none found.0 (omega (arith, z)))

    -- the areas' are left
    pub areas_last : (want.kinds ≡ 0 → ⊥) → (m s : ℕ) → m ≡ most_by asked.k (tree_yard_count tree) want.drive → s ≡ areas_refusal m work results → s ≡ search_refusal road tree query want work results
    areas_last w m s l h =
        h ∙ ap (λ (x : ℕ). areas_refusal x work results) (l ∙ ap (λ (k : ℕ). most_by k (tree_yard_count tree) want.drive) (its_k query asked asked_of))
        ∙ sym (by_areas road tree query want work results d.roads tree-none found.0 (omega (arith, w)))

-- how many yards the result area must hold, by the tree book's header
pub most_of : (tree : List ℕ) (h : Header) (k m : ℕ) (drive : Option ℕ) → h ≡ header_of tree → m ≡ most_by k h.yards drive
    → m ≡ most_by k (tree_yard_count tree) drive
most_of tree h k m drive e l = l ∙ ap (λ (y : ℕ). most_by k y drive) (its_yards tree h e)

-- ---- the call

module _ (road tree query : List ℕ) (want : Want) (work results : List ℕ) where
  -- that is turned back
  module _ (why : ℕ) (e : why ≡ search_refusal road tree query want (length work) (length results)) (h : 1 ≤ why) where
    turned : search_refusal road tree query want (length work) (length results) ≡ 0 → ⊥
    turned z = omega (arith, e, z)

    pub turned_found : refused why ≡ search_found road tree query want (length work) (length results)
    turned_found = ap refused e ∙ sym (found-refused road tree query want (length work) (length results) turned)

    pub turned_work : work ≡ work_after (search_refusal road tree query want (length work) (length results)) work
    turned_work = sym (refused-kept (search_refusal road tree query want (length work) (length results)) work turned)

    pub turned_results : results ≡ results_after road tree query want (length work) results
    turned_results = sym (refused_keeps road tree query want (length work) results turned)

  -- that is accepted
  module _ (e : 0 ≡ search_refusal road tree query want (length work) (length results)) where
    none : search_refusal road tree query want (length work) (length results) ≡ 0
    none = sym e

    pub taken-facts : (a : Asking) → a ≡ asking_by query want → AcceptedBy road tree query a (length work) (length results)
    taken-facts a e = record {
      want = want;
      is = e;
      accepted = tests road tree query want (length work) (length results) none;
    }

    -- what is asked for is answered
    same_answer : (a : Asking) → a ≡ asking_by query want → answer_by road tree query a ≡ search_answer road tree query want
    same_answer a e = ap (λ (x : Asking). answer_by road tree query x) e

    pub taken-found : (a : Asking) → a ≡ asking_by query want → (f : Found) → f ≡ accepted (answer_by road tree query a) → f ≡ search_found road tree query want (length work) (length results)
    taken-found a e f g = g ∙ ap accepted (same_answer a e) ∙ sym (found-accepted road tree query want (length work) (length results) none)

    pub taken-work : (out : List ℕ) → out ≡ zeroed work_words work → out ≡ work_after (search_refusal road tree query want (length work) (length results)) work
    taken-work out g = g ∙ sym (accepted-zeroed (search_refusal road tree query want (length work) (length results)) work none)

    pub taken-results : (a : Asking) → a ≡ asking_by query want → (out : List ℕ) → out ≡ written_by (answer_by road tree query a) results → out ≡ results_after road tree query want (length work) results
    unfolding written_by
    taken-results a e out f = go (T-split (search_answer road tree query want).settled)
      where
        g : out ≡ written_by (search_answer road tree query want) results
        g = f ∙ ap (λ (x : Answer). written_by x results) (same_answer a e)

        go : T (search_answer road tree query want).settled ⊎ T (not (search_answer road tree query want).settled)
            → out ≡ results_after road tree query want (length work) results
        go (inl t) = g ∙ choose_yes (search_answer road tree query want).settled _ results t ∙ sym (settled-writes road tree query want (length work) results none t)
        go (inr t) = g ∙ choose_no (search_answer road tree query want).settled _ results t ∙ sym (spent_keeps road tree query want (length work) results none t)

-- what the code asks for is what the query and the call do
pub asking-is : (query : List ℕ) (asked : Query) (want : Want) (rule : Rule) → asked ≡ query_of query → rule ≡ rule_by asked.k want.drive
    → record { code = asked.aggregate; rule = rule; wanted = want.kinds } ≡ asking_by query want
asking-is query asked want rule e r =
    let g : asked.aggregate ≡ aggregate_of query = its_aggregate query asked e in
    let k : asked.k ≡ k_of query = its_k query asked e in
    rw (r, g, k) refl
