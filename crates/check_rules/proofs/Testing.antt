-- Test 9, one equation for each of its definitions. Assumes nothing.
use mathlib.Core.Path.{◌≡◌, refl}
use mathlib.Core.Bool.{Bool, ◌&&◌}
use mathlib.Core.List.{List}
use Prim.Native.Nat.{ℕ}
use lib.Dec.{eqb}
use Rattle.book.specs.Choose.{choose}
use Rattle.kinds.specs.Kinds.{together}
use Rattle.tree_layout.specs.Values.{Element, Mark, Region, Tree}
use Rattle.tree_layout.specs.Refusal.{all}
use Rattle.check_rules.specs.Truth.{least, greatest, true_element, true_list, true_span, true_region, within, true_beside_region, true_beside}
use Rattle.check_rules.specs.Truth.{kinds_element, kinds_list, kinds_region, kinds_beside_region, kinds_beside}

module _ (d : ℕ → ℕ → ℕ) where
  pub element-test : (place : ℕ) (e : Element) → true_element d place e ≡ eqb e.distance (d place e.yard)
  unfolding true_element
  element-test place e = refl

  pub list-test : (m : Mark) → true_list d m ≡ all (true_element d m.place) m.list
  unfolding true_list
  list-test m = refl

  module _ (ys : List ℕ) where
    pub span-test : (m : Mark) → true_span d ys m ≡ (eqb m.least (least (d m.place) ys) && eqb m.greatest (greatest (d m.place) ys))
    unfolding true_span
    span-test m = refl

    pub beside_region_test : (r : Region) → true_beside_region d ys r
        ≡ choose (eqb r.children 0) (all (true_list d) r.marks) (all (true_span d (within r.first r.after ys)) r.marks)
    unfolding true_beside_region true_region
    beside_region_test r = refl

    pub beside-test : (t : Tree) → true_beside d ys t ≡ all (true_beside_region d ys) t.regions
    unfolding true_beside
    beside-test t = refl

module _ (kinds : ℕ → ℕ) where
  pub kinds-element-test : (e : Element) → kinds_element kinds e ≡ eqb e.kinds (kinds e.yard)
  unfolding kinds_element
  kinds-element-test e = refl

  pub kinds-list-test : (m : Mark) → kinds_list kinds m ≡ all (kinds_element kinds) m.list
  unfolding kinds_list
  kinds-list-test m = refl

  module _ (ys : List ℕ) where
    pub kinds-beside_region_test : (r : Region) → kinds_beside_region kinds ys r
        ≡ (eqb r.kinds (together kinds (within r.first r.after ys)) && all (kinds_list kinds) r.marks)
    unfolding kinds_beside_region kinds_region
    kinds-beside_region_test r = refl

    pub kinds-beside-test : (t : Tree) → kinds_beside kinds ys t ≡ all (kinds_beside_region kinds ys) t.regions
    unfolding kinds_beside
    kinds-beside-test t = refl
