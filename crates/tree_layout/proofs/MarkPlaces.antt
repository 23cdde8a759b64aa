-- Landmark j of a record, by the place where it stands. Assumes nothing.
use mathlib.Core.Path.{◌≡◌, sym, ap, ◌∙◌}
use mathlib.Core.List.{List}
use Prim.Native.Nat.{ℕ, zero, suc, ◌+◌, ◌*◌, ◌<◌}
use native.Mathlib.Nat.{suc-mul}
use native.Mathlib.Omega.{arith}
use lib.ListN.{length, get_or}
use Rattle.book.specs.Bytes.{u8_at, u16_at, u32_at}
use Rattle.book.specs.Open.{version}
use Rattle.tree_layout.specs.Sizes.{fields_size, leaf_mark_size}
use Rattle.tree_layout.specs.Values.{Mark, leaf_mark, inner_mark}
use Rattle.tree_layout.specs.Decode.{read_list, list_part, read_lists, read_spans, read_region, mark_size}
use Rattle.tree_layout.proofs.Formed.{marks-spans, region_formed}
use Rattle.tree_layout.proofs.Places.{mark_size-leaf, mark_size-inner}
use Rattle.tree_layout.proofs.Reading.{region_lists}

-- the landmark of a leaf whose record puts it at a place
abbrev pub list_mark : List ℕ → ℕ → ℕ → Mark
list_mark b yards p = leaf_mark (u16_at b p) (read_list (version b) (list_part (version b) b yards (p + 2)) yards 0)

-- the landmark of an inner region at a place
abbrev pub span_mark : List ℕ → ℕ → Mark
span_mark b p = inner_mark (u16_at b p) (u32_at b (p + 2)) (u32_at b (p + 6))

further : (at j size : ℕ) → (at + size) + j * size ≡ at + suc j * size
further at j size = omega (arith, suc-mul j size)

lists_at : (b : List ℕ) (yards n at j : ℕ) (d : Mark) → j < n → get_or (read_lists b yards n at) j d ≡ list_mark b yards (at + j * leaf_mark_size (version b) yards)
unfolding read_lists
lists_at b yards zero at j d h = absurd (omega arith)
lists_at b yards (suc n) at zero d h = let e : at ≡ at + 0 * leaf_mark_size (version b) yards = omega arith in ap (list_mark b yards) e
lists_at b yards (suc n) at (suc j) d h =
    lists_at b yards n (at + leaf_mark_size (version b) yards) j d (omega arith) ∙ ap (list_mark b yards) (further at j (leaf_mark_size (version b) yards))

spans-at : (b : List ℕ) (n at j : ℕ) (d : Mark) → j < n → get_or (read_spans b n at) j d ≡ span_mark b (at + j * 10)
unfolding read_spans
spans-at b zero at j d h = absurd (omega arith)
spans-at b (suc n) at zero d h = let e : at ≡ at + 0 * 10 = omega arith in ap (span_mark b) e
spans-at b (suc n) at (suc j) d h = spans-at b n (at + 10) j d (omega arith) ∙ ap (span_mark b) (further at j 10)

module _ (b : List ℕ) (m at : ℕ) where
  pub region_spans : 0 < u8_at b (at + 4) → (read_region b m at).marks ≡ read_spans b m (at + fields_size (version b))
  unfolding read_region
  region_spans h = marks-spans b m (u8_at b (at + 4)) (u16_at b (at + 5)) (at + fields_size (version b)) h

  -- a record has m landmarks
  pub region_marks : length (read_region b m at).marks ≡ m
  region_marks = (region_formed b m at).count

  module _ (j p : ℕ) (d : Mark) (h : j < m) (e : p ≡ (at + fields_size (version b)) + j * mark_size (version b) (u8_at b (at + 4)) (u16_at b (at + 5))) where
    -- of a leaf
    pub leaf_mark_at : u8_at b (at + 4) ≡ 0 → get_or (read_region b m at).marks j d ≡ list_mark b (u16_at b (at + 5)) p
    leaf_mark_at z =
        let s : (at + fields_size (version b)) + j * leaf_mark_size (version b) (u16_at b (at + 5)) ≡ p = rw (← mark_size-leaf (version b) (u8_at b (at + 4)) (u16_at b (at + 5)) z) (sym e) in
        rw (region_lists b m at z) (lists_at b (u16_at b (at + 5)) m (at + fields_size (version b)) j d h ∙ ap (list_mark b (u16_at b (at + 5))) s)

    -- of an inner region
    pub inner_mark_at : 0 < u8_at b (at + 4) → get_or (read_region b m at).marks j d ≡ span_mark b p
    inner_mark_at z =
        let s : (at + fields_size (version b)) + j * 10 ≡ p = rw (← mark_size-inner (version b) (u8_at b (at + 4)) (u16_at b (at + 5)) z) (sym e) in
        rw (region_spans z) (spans-at b m (at + fields_size (version b)) j d h ∙ ap (span_mark b) s)
