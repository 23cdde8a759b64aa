-- A leaf's landmarks, one element and one landmark at a time. Assumes nothing.
use mathlib.Core.Path.{◌≡◌, refl, sym, ap, ◌∙◌}
use mathlib.Core.Bool.{Bool, true, false}
use mathlib.Core.List.{List}
use Prim.Native.Nat.{ℕ, ◌+◌, ◌-◌, ◌≤◌, ◌<◌}
use native.Mathlib.Omega.{arith}
use borrow.Author.Tests.{eq-eqb, ne_eqb}
use lib.ListN.{get_or, drop}
use lib.Dec.{eqb}
use Rattle.book.specs.Bytes.{u16_at}
use Rattle.book.specs.Open.{version}
use Rattle.adjacency.specs.Adjacency.{count_in}
use Rattle.road.specs.Dijkstra.{at, dist}
use Rattle.road.specs.code.Rows.{distances_from}
use Rattle.road.proofs.Theorems.{dist-at}
use Rattle.tree_layout.specs.Values.{Element, Mark, no_mark}
use Rattle.tree_layout.specs.Sizes.{junction_size, list_size}
use Rattle.tree_layout.specs.Decode.{element_at, read_list, list_part, landmark_count}
use Rattle.tree_layout.specs.code.Accessors.{fields_at, listed_at}
use Rattle.tree_layout.specs.code.Marks.{marks_at, mark_place}
use Rattle.tree_layout.specs.Refusal.{all}
use Rattle.tree_layout.specs.declared.Fields.{Fields}
use Rattle.tree_layout.specs.declared.Listed.{Listed}
use Rattle.tree_layout.proofs.Accessing.{listed-yard}
use Rattle.tree_layout.proofs.Turns.{all_same, all_goes, all_stops}
use Rattle.check_rules.specs.Truth.{true_element, true_list}
use Rattle.check_rules.proofs.Testing.{element-test, list-test}
use Rattle.check_rules.proofs.Records.{mark_number, mark_mem}
use Rattle.check_rules.proofs.Elements.{list-is, place_is}
use Rattle.check_distances.specs.code.Row.{element_in, list_in}
use Rattle.check_distances.specs.code.Beside.{Marked}

-- ---- what a row says of a list is what test 9 says

element-same : (road : List ℕ) (u : ℕ) (e : Element) → element_in (distances_from road u) e ≡ true_element (dist road) u e
unfolding element_in
element-same road u e = ap (λ (x : ℕ). eqb e.distance x) (dist-at road u e.yard) ∙ sym (element-test (dist road) u e)

list_same : (road : List ℕ) (m : Mark) → list_in (distances_from road m.place) m.list ≡ true_list (dist road) m
unfolding list_in
list_same road m = all_same _ _ m.list (element-same road m.place) ∙ sym (list-test (dist road) m)

-- ---- landmark j of a leaf, at place p

module _ (adj tree : List ℕ) (f : Fields) (k : Marked adj tree f.at) (ef : f ≡ fields_at tree f.at) (z : f.children ≡ 0)
    (j : ℕ) (h : j < landmark_count tree) (p : ℕ) (ep : p ≡ mark_place tree f.at j) where
  abbrev mark : Mark
  mark = get_or (marks_at tree f.at) j no_mark

  -- its place is a junction
  pub list-placed : (u : ℕ) → u ≡ u16_at tree p → u < count_in adj
  list-placed u e = omega (arith, place_is tree f k.stands ef z j h p ep, e, k.placed mark (mark_mem tree f.at j h))

  module _ (road ds l : List ℕ) (u v : ℕ) (r : Bool) (eu : u ≡ u16_at tree p) (ev : v ≡ version tree) (d : ds ≡ distances_from road u)
      (el : l ≡ list_part (version tree) tree f.yards (p + junction_size)) (e : r ≡ list_in ds (read_list v l f.yards 0)) where
    answer : r ≡ true_list (dist road) mark
    answer =
        let q : u ≡ mark.place = eu ∙ sym (place_is tree f k.stands ef z j h p ep) in
        let g : r ≡ list_in (distances_from road mark.place) mark.list = rw (list-is tree f k.stands ef z j h p ep v ev l el, ← q, ← d) e in
        g ∙ list_same road mark

    pub lists_on : r ≡ true → all (true_list (dist road)) (drop (j + 1) (marks_at tree f.at)) ≡ all (true_list (dist road)) (drop j (marks_at tree f.at))
    lists_on t = all_goes (true_list (dist road)) (marks_at tree f.at) no_mark j (mark_number tree f.at j h) (sym answer ∙ t)

    pub lists_off : r ≡ false → all (true_list (dist road)) (drop j (marks_at tree f.at)) ≡ false
    lists_off t = all_stops (true_list (dist road)) (marks_at tree f.at) no_mark j (mark_number tree f.at j h) (sym answer ∙ t)
