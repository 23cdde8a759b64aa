-- A tree book's regions, one at a time, and their landmarks. Assumes nothing.
use mathlib.Core.Path.{◌≡◌, refl, sym, ap, ◌∙◌}
use mathlib.Core.List.{List, Memᴰ as Mem}
use Prim.Native.Nat.{ℕ, ◌+◌, ◌*◌, ◌<◌}
use native.Mathlib.Omega.{arith}
use lib.ListN.{length, get_or}
use Rattle.book.specs.Bytes.{u8_at, u16_at}
use Rattle.book.specs.Open.{version}
use Rattle.book.proofs.Lists.{get_d_mem}
use Rattle.tree_layout.specs.Values.{Region, no_mark}
use Rattle.tree_layout.specs.Sizes.{fields_size}
use Rattle.tree_layout.specs.Decode.{read_region, mark_size, landmark_count}
use Rattle.tree_layout.specs.code.Accessors.{fields_at}
use Rattle.tree_layout.specs.code.Marks.{marks_at, mark_place, RecordAt}
use Rattle.tree_layout.specs.declared.Fields.{Fields}
use Rattle.tree_layout.proofs.Reading.{region_first, region_after, region_children, region_kinds}
use Rattle.tree_layout.proofs.RecordFields.{marks-count, marks_read, place_is}
use Rattle.tree_layout.proofs.MarkPlaces.{list_mark, leaf_mark_at}

-- ---- a record's landmarks

module _ (b : List ℕ) (at : ℕ) where
  module _ (j : ℕ) (h : j < landmark_count b) where
    -- landmark j is one of them
    pub mark_number : j < length (marks_at b at)
    mark_number = omega (arith, marks-count b at)

    pub mark_mem : Mem (get_or (marks_at b at) j no_mark) (marks_at b at)
    mark_mem = get_d_mem (marks_at b at) j no_mark mark_number

    -- it is the one that stands at its place, of a leaf
    pub mark_listed : RecordAt b at → (p yards : ℕ) → p ≡ mark_place b at j → u8_at b (at + 4) ≡ 0 → yards ≡ u16_at b (at + 5)
        → get_or (marks_at b at) j no_mark ≡ list_mark b yards p
    mark_listed r p yards e z y =
        let s : p ≡ (at + fields_size (version b)) + j * mark_size (version b) (u8_at b (at + 4)) (u16_at b (at + 5)) =
        e ∙ sym (place_is b at r j h (mark_size (version b) (u8_at b (at + 4)) (u16_at b (at + 5))) refl) in
        rw (marks_read b at, y) (leaf_mark_at b (landmark_count b) at j p no_mark h s z)

-- ---- the region whose record is at a place, by its fields

module _ (b : List ℕ) (i m : ℕ) (em : m ≡ landmark_count b) (f : Fields) (ef : f ≡ fields_at b i) where
  abbrev r : Region
  r = read_region b m i

  pub marks_are : marks_at b f.at ≡ r.marks
  marks_are = rw (ap (λ (x : Fields). x.at) ef, em) (marks_read b i)

  pub children_are : r.children ≡ f.children
  children_are = region_children b m i ∙ sym (ap (λ (x : Fields). x.children) ef)

  pub first-is : r.first ≡ f.first.number
  first-is = region_first b m i ∙ sym (ap (λ (x : Fields). x.first.number) ef)

  pub after_is : r.after ≡ f.after
  after_is = region_after b m i ∙ sym (ap (λ (x : Fields). x.after) ef)

  pub kinds_are : r.kinds ≡ f.kinds
  kinds_are = region_kinds b m i ∙ sym (ap (λ (x : Fields). x.kinds) ef)

-- what is known at the place is known at the fields' own
module _ (b : List ℕ) (i : ℕ) (f : Fields) (ef : f ≡ fields_at b i) where
  pub own_place : f.at ≡ i
  own_place = ap (λ (x : Fields). x.at) ef

  pub fields_own : f ≡ fields_at b f.at
  fields_own = ef ∙ ap (λ (x : ℕ). fields_at b x) (sym own_place)

  pub record_own : RecordAt b i → RecordAt b f.at
  record_own s = rw own_place s
