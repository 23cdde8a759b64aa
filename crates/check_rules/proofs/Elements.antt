-- The landmarks of a leaf, as they are read. Assumes nothing.
use mathlib.Core.Path.{◌≡◌, refl, sym, ap, ◌∙◌}
use mathlib.Core.List.{List}
use Prim.Native.Nat.{ℕ, ◌+◌, ◌≤◌, ◌<◌}
use native.Mathlib.Omega.{arith}
use lib.ListN.{length, get_or}
use Rattle.book.specs.Bytes.{u8_at, u16_at}
use Rattle.book.specs.Open.{version}
use Rattle.tree_layout.specs.Values.{no_mark}
use Rattle.tree_layout.specs.Sizes.{junction_size, list_size, leaf_mark_size}
use Rattle.tree_layout.specs.Decode.{read_list, list_part, landmark_count}
use Rattle.tree_layout.specs.code.Accessors.{fields_at}
use Rattle.tree_layout.specs.code.Marks.{marks_at, mark_place, RecordAt}
use Rattle.tree_layout.specs.declared.Fields.{Fields}
use Rattle.tree_layout.proofs.Accessing.{part_length}
use Rattle.tree_layout.proofs.MarkPlaces.{list_mark}
use Rattle.tree_layout.proofs.MarkFields.{leaf-place, leaf-pairs}
use Rattle.tree_layout.proofs.RecordFields.{list_inside}
use Rattle.check_rules.proofs.Records.{mark_listed}

-- ---- landmark j of a leaf, at place p, by the fields of its record

module _ (tree : List ℕ) (f : Fields) (s : RecordAt tree f.at) (ef : f ≡ fields_at tree f.at) (z : f.children ≡ 0)
    (j : ℕ) (h : j < landmark_count tree) (p : ℕ) (ep : p ≡ mark_place tree f.at j) where
  childless : u8_at tree (f.at + 4) ≡ 0
  childless = sym (ap (λ (x : Fields). x.children) ef) ∙ z

  yards_are : f.yards ≡ u16_at tree (f.at + 5)
  yards_are = ap (λ (x : Fields). x.yards) ef

  -- its list lies in the book
  pub list-fits : p + leaf_mark_size (version tree) f.yards ≤ length tree
  list-fits = list_inside tree f.at s j h p ep (u8_at tree (f.at + 4)) f.yards refl childless yards_are

  -- the landmark, as it is read from there
  mark_is : get_or (marks_at tree f.at) j no_mark ≡ list_mark tree f.yards p
  mark_is = mark_listed tree f.at j h s p f.yards ep childless yards_are

  pub place_is : (get_or (marks_at tree f.at) j no_mark).place ≡ u16_at tree p
  place_is = rw mark_is (leaf-place (u16_at tree p) (read_list (version tree) (list_part (version tree) tree f.yards (p + junction_size)) f.yards 0))

  module _ (v : ℕ) (ev : v ≡ version tree) (l : List ℕ) (el : l ≡ list_part (version tree) tree f.yards (p + junction_size)) where
    pub list_length : list_size v f.yards ≤ length l
    list_length = rw (el, ev) (omega (arith, part_length (version tree) tree f.yards p list-fits))

    pub list-is : (get_or (marks_at tree f.at) j no_mark).list ≡ read_list v l f.yards 0
    list-is = rw (mark_is, el, ev) (leaf-pairs (u16_at tree p) (read_list (version tree) (list_part (version tree) tree f.yards (p + junction_size)) f.yards 0))
