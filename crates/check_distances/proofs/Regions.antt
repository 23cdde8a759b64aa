-- A region's numbers, and a tree's: from what is found of landmarks. Assumes nothing.
use mathlib.Core.Path.{◌≡◌, sym, ap, ◌∙◌}
use mathlib.Core.Bool.{Bool}
use mathlib.Core.List.{List}
use Prim.Native.Nat.{ℕ, ◌+◌, ◌<◌}
use native.Mathlib.Omega.{arith}
use lib.ListN.{length}
use lib.Dec.{eqb}
use Rattle.book.specs.Bytes.{u16_at}
use Rattle.book.proofs.Choosing.{choose_yes, choose_no}
use Rattle.book.proofs.Lists.{eq→eqb, ne→neqb}
use Rattle.yard.specs.Yards.{yards_of}
use Rattle.tree_layout.specs.Values.{Region, region_at}
use Rattle.tree_layout.specs.Decode.{read_region, region_count, landmark_count, place_of, decode}
use Rattle.tree_layout.specs.code.Accessors.{fields_at}
use Rattle.tree_layout.specs.code.Marks.{marks_at}
use Rattle.tree_layout.specs.Refusal.{all}
use Rattle.tree_layout.specs.declared.Fields.{Fields}
use Rattle.tree_layout.proofs.Accepting.{layout-facts}
use Rattle.tree_layout.proofs.Reading.{region_first, region_after}
use Rattle.tree_layout.proofs.RegionRecords.{layout_region, layout_member, layout-placed, layout_record}
use Rattle.check_rules.specs.Truth.{true_list, true_span, within, true_beside_region, true_beside}
use Rattle.check_rules.proofs.Testing.{beside_region_test, beside-test}
use Rattle.check_rules.proofs.Records.{marks_are, children_are, first-is, after_is, own_place}
use Rattle.check_distances.specs.code.Beside.{Marked, Beside}

-- ---- the region whose record is at a place, by its fields

module _ (tree : List ℕ) (i m : ℕ) (em : m ≡ landmark_count tree) (f : Fields) (ef : f ≡ fields_at tree i) (d : ℕ → ℕ → ℕ) (ys : List ℕ) where
  abbrev r : Region
  r = read_region tree m i

  pub region_leaf : (t : Bool) → f.children ≡ 0 → t ≡ all (true_list d) (marks_at tree f.at) → t ≡ true_beside_region d ys r
  region_leaf t z e =
      e ∙ ap (all (true_list d)) (marks_are tree i m em f ef)
      ∙ sym (beside_region_test d ys r ∙ choose_yes (eqb r.children 0) _ _ (eq→eqb r.children 0 (children_are tree i m em f ef ∙ z)))

  pub region_inner : (t : Bool) → (f.children ≡ 0 → ⊥)
      → t ≡ all (true_span d (within f.first.number f.after ys)) (marks_at tree f.at) → t ≡ true_beside_region d ys r
  region_inner t z e =
      let g : t ≡ all (true_span d (within r.first r.after ys)) r.marks = rw (first-is tree i m em f ef, after_is tree i m em f ef, ← marks_are tree i m em f ef) e in
      g ∙ sym (beside_region_test d ys r ∙ choose_no (eqb r.children 0) _ _ (ne→neqb r.children 0 (λ q. z (sym (children_are tree i m em f ef) ∙ q))))

-- what is known at the place is known at the fields' own
module _ (tree : List ℕ) (i : ℕ) (f : Fields) (ef : f ≡ fields_at tree i) where
  pub marked_own : (adj : List ℕ) → Marked adj tree i → Marked adj tree f.at
  marked_own adj k = rw (own_place tree i f ef) k

  pub held_own : (ys : List ℕ) → 0 < length (within (u16_at tree i) (u16_at tree (i + 2)) ys) → 0 < length (within f.first.number f.after ys)
  held_own ys h =
      let a : f.first.number ≡ u16_at tree i = ap (λ (x : Fields). x.first.number) ef in
      let z : f.after ≡ u16_at tree (i + 2) = ap (λ (x : Fields). x.after) ef in
      rw (a, z) h

-- ---- region k beside the other books

module _ (adj yard tree : List ℕ) (b : Beside adj yard tree) (k : ℕ) (h : k < region_count tree) (i : ℕ) (place : i ≡ place_of tree k) where
  pub region_marked : Marked adj tree i
  region_marked = record {
    roads = b.roads;
    stands = layout_record tree (layout-facts tree b.regions) k h i place;
    placed = λ m j. omega (arith, b.counts, layout-placed tree (layout-facts tree b.regions) k h i place m j);
  }

  pub region_held : 0 < length (within (u16_at tree i) (u16_at tree (i + 2)) (yards_of yard))
  region_held =
      let e = layout_region tree (layout-facts tree b.regions) k h i place in
      let g : 0 < length (within (read_region tree (landmark_count tree) i).first (read_region tree (landmark_count tree) i).after (yards_of yard))
      = rw e at (b.held (region_at (decode tree).regions k) (layout_member tree (layout-facts tree b.regions) k h i place)) in
      rw (region_first tree (landmark_count tree) i, region_after tree (landmark_count tree) i) at g

-- all regions' tests are the tree's
pub tree-test : (d : ℕ → ℕ → ℕ) (ys tree : List ℕ) → all (true_beside_region d ys) (decode tree).regions ≡ true_beside d ys (decode tree)
tree-test d ys tree = sym (beside-test d ys (decode tree))
