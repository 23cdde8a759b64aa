-- A region's kinds, and a tree's: from what is found of its byte and of its lists. Assumes nothing.
use mathlib.Core.Path.{◌≡◌, refl, sym, ap, ◌∙◌}
use mathlib.Core.Bool.{Bool, true, false, ◌&&◌}
use mathlib.Core.List.{List, Memᴰ as Mem}
use Prim.Native.Nat.{ℕ, ◌<◌}
use native.Mathlib.Omega.{arith}
use borrow.Author.Tests.{eq-eqb, ne_eqb}
use lib.Dec.{T, eqb}
use Rattle.book.proofs.Choosing.{true_T, T_true}
use Rattle.kinds.specs.Kinds.{together}
use Rattle.tree_layout.specs.Values.{Mark, Region}
use Rattle.tree_layout.specs.Decode.{read_region, landmark_count, decode}
use Rattle.tree_layout.specs.code.Accessors.{fields_at}
use Rattle.tree_layout.specs.code.Marks.{marks_at}
use Rattle.tree_layout.specs.Refusal.{all}
use Rattle.tree_layout.specs.declared.Fields.{Fields}
use Rattle.tree_layout.proofs.Ends.{inner-is}
use Rattle.tree_layout.proofs.Formed.{region_formed}
use Rattle.tree_layout.proofs.Reading.{all_none}
use Rattle.tree_layout.proofs.Tests.{all_intro}
use Rattle.yard.specs.Yards.{kind_table, kind_of}
use Rattle.yard.proofs.Tables.{kinds_by}
use Rattle.check_rules.specs.Truth.{kinds_element, kinds_list, within, kinds_beside_region, kinds_beside}
use Rattle.check_rules.proofs.Testing.{kinds-list-test, kinds-beside_region_test, kinds-beside-test}
use Rattle.check_rules.proofs.Records.{marks_are, children_are, first-is, after_is, kinds_are}
use Rattle.check_kinds.proofs.Listing.{by}

-- the table of a book's kinds gives them by junction
by_table : (yard table : List ℕ) → table ≡ kind_table yard → by table ≡ kind_of yard
by_table yard table e = rw e (kinds_by yard)

-- ---- the region whose record is at a place, by its fields

module _ (tree : List ℕ) (i m : ℕ) (em : m ≡ landmark_count tree) (f : Fields) (ef : f ≡ fields_at tree i) (kinds : ℕ → ℕ) (ys : List ℕ) where
  abbrev r : Region
  r = read_region tree m i

  byte : (x : ℕ) → x ≡ together kinds (within f.first.number f.after ys)
      → kinds_beside_region kinds ys r ≡ (eqb f.kinds x && all (kinds_list kinds) r.marks)
  byte x e =
      let g : x ≡ together kinds (within r.first r.after ys) = rw (first-is tree i m em f ef, after_is tree i m em f ef) e in
      kinds-beside_region_test kinds ys r ∙ rw (← g, kinds_are tree i m em f ef) refl

  module _ (x : ℕ) (e : x ≡ together kinds (within f.first.number f.after ys)) where
    -- its byte is another
    pub byte_other : (f.kinds ≡ x → ⊥) → false ≡ kinds_beside_region kinds ys r
    byte_other n = sym (byte x e ∙ simp (ne_eqb _ _ n))

    -- it is that one: the lists decide
    decide : f.kinds ≡ x → (t : Bool) → t ≡ all (kinds_list kinds) r.marks → t ≡ kinds_beside_region kinds ys r
    decide q t g = sym (byte x e ∙ simp (eq-eqb _ _ q) (sym g))

    -- a leaf's lists
    leaf-lists : f.kinds ≡ x → (t : Bool) → t ≡ all (kinds_list kinds) (marks_at tree f.at) → t ≡ kinds_beside_region kinds ys r
    leaf-lists q t g = decide q t (g ∙ ap (all (kinds_list kinds)) (marks_are tree i m em f ef))

    -- an inner region has none
    pub inner-lists : f.kinds ≡ x → (f.children ≡ 0 → ⊥) → true ≡ kinds_beside_region kinds ys r
    inner-lists q n = decide q true (sym (T_true (all (kinds_list kinds) r.marks) (all_intro (kinds_list kinds) r.marks (λ k j. each k j))))
      where
        inner : 0 < r.children
        inner = omega (arith, children_are tree i m em f ef)

        each : (k : Mark) → Mem k r.marks → T (kinds_list kinds k)
        each k j =
            let g = (region_formed tree m i).spans inner k j ∙ inner-is k.place k.least k.greatest in
            true_T (kinds-list-test kinds k ∙ ap (λ (x : Mark). all (kinds_element kinds) x.list) g ∙ all_none (kinds_element kinds))

-- by a table of the book's kinds
pub leaf_by_table : (yard tree : List ℕ) (i m : ℕ) (em : m ≡ landmark_count tree) (f : Fields) (ef : f ≡ fields_at tree i) (ys : List ℕ)
    (x : ℕ) (e : x ≡ together (kind_of yard) (within f.first.number f.after ys)) → f.kinds ≡ x
    → (t : Bool) (table : List ℕ) → table ≡ kind_table yard → t ≡ all (kinds_list (by table)) (marks_at tree f.at)
    → t ≡ kinds_beside_region (kind_of yard) ys (read_region tree m i)
leaf_by_table yard tree i m em f ef ys x e q t table et g =
    leaf-lists tree i m em f ef (kind_of yard) ys x e q t (g ∙ ap (λ kinds. all (kinds_list kinds) (marks_at tree f.at)) (by_table yard table et))

-- all regions' tests are the tree's
pub tree-test : (kinds : ℕ → ℕ) (ys tree : List ℕ) → all (kinds_beside_region kinds ys) (decode tree).regions ≡ kinds_beside kinds ys (decode tree)
tree-test kinds ys tree = sym (kinds-beside-test kinds ys (decode tree))
