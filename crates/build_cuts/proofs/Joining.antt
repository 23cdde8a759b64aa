-- Regions written one list after another, and the room that they take. Assumes nothing.
use mathlib.Core.Path.{◌≡◌, refl, sym, ap, ◌∙◌}
use mathlib.Core.List.{List, [], ◌∷◌, ◌++◌, append-nil}
use Prim.Native.Nat.{ℕ, ◌+◌, ◌≤◌}
use native.Mathlib.Omega.{arith}
use lib.ListN.{length, length-append}
use Rattle.book.specs.Writing.{u16_bytes, write}
use Rattle.book.proofs.Writing.{u16_length, write-append, write-none}
use Rattle.tree_layout.specs.Values.{Region}
use Rattle.tree_encode.specs.Encode.{kind_bytes, encode_marks, encode_region, encode_regions}
use Rattle.tree_encode.proofs.Sizes.{encode-none, encode-cons, encode-append, region_is}
use Rattle.build_cuts.specs.code.Writing.{WrittenRegions}

-- in a version v book
module _ (v : ℕ) where
  -- ---- lengths

  none-length : length (encode_regions v []) ≡ 0
  none-length = rw (encode-none v) refl

  pub one-bytes : (r : Region) → encode_regions v (r ∷ []) ≡ encode_region v r
  one-bytes r = encode-cons v r [] ∙ rw (encode-none v) (append-nil (encode_region v r))

  joined_length : (rs ss : List Region) → length (encode_regions v (rs ++ ss)) ≡ length (encode_regions v rs) + length (encode_regions v ss)
  joined_length rs ss = rw (encode-append v rs ss) (length-append (encode_regions v rs) (encode_regions v ss))

  region_some : (r : Region) → 1 ≤ length (encode_region v r)
  region_some r =
      let rest = u16_bytes r.after ++ (r.children ∷ (u16_bytes r.yards ++ (kind_bytes v r.kinds ++ encode_marks v r.children r.marks))) in
      omega (arith, ap length (region_is v r), length-append (u16_bytes r.first) rest, u16_length r.first)

  -- each region takes a byte at least
  pub few : (rs : List Region) → length rs ≤ length (encode_regions v rs)
  few [] = omega arith
  few (r ∷ rs) = omega (arith, ap length (encode-cons v r rs), length-append (encode_region v r) (encode_regions v rs), region_some r, few rs)

  -- ---- what is written

  pub written_none : (tree : List ℕ) (at : ℕ) → WrittenRegions v tree at [] tree at 0
  written_none tree at = record { bytes = rw (encode-none v) (sym (write-none tree at)); end = omega (arith, none-length); number = refl }

  pub written_one : (tree : List ℕ) (at : ℕ) (r : Region) (after : List ℕ) (n : ℕ) → after ≡ write tree at (encode_region v r)
      → length (encode_region v r) ≡ n → WrittenRegions v tree at (r ∷ []) after (at + n) 1
  written_one tree at r after n e h = record { bytes = rw (one-bytes r) e; end = rw (one-bytes r) (omega arith); number = refl }

  pub written_join : (tree : List ℕ) (at : ℕ) (rs ss : List Region) (mid : List ℕ) (p c : ℕ) (after : List ℕ) (q d : ℕ)
      → WrittenRegions v tree at rs mid p c → WrittenRegions v mid p ss after q d → WrittenRegions v tree at (rs ++ ss) after q (c + d)
  written_join tree at rs ss mid p c after q d x y = record {
    bytes = y.bytes ∙ rw (x.bytes, x.end) (sym (ap (write tree at) (encode-append v rs ss) ∙ write-append (encode_regions v rs)
        (encode_regions v ss) tree at));
    end = omega (arith, joined_length rs ss, x.end, y.end);
    number = omega (arith, length-append rs ss, x.number, y.number);
  }

  -- the same regions, named otherwise
  pub written_same : (tree : List ℕ) (at : ℕ) (rs ss : List Region) (after : List ℕ) (p c : ℕ) → ss ≡ rs → WrittenRegions v tree at rs after p c
      → WrittenRegions v tree at ss after p c
  written_same tree at rs ss after p c e x = rw e x

  -- as many regions as bytes at most
  pub written-few : (tree : List ℕ) (at : ℕ) (rs : List Region) (after : List ℕ) (p c : ℕ) → WrittenRegions v tree at rs after p c → at + c ≤ p
  written-few tree at rs after p c x = omega (arith, x.end, x.number, few rs)

  -- ---- the room of two lists is that of the first and, after it, that of the second

  module _ (at room : ℕ) (all rs ss : List Region) (e : all ≡ rs ++ ss) (fits : at + length (encode_regions v all) ≤ room) where
    both : at + (length (encode_regions v rs) + length (encode_regions v ss)) ≤ room
    both = omega (arith, joined_length rs ss, ap (λ (l : List Region). length (encode_regions v l)) e)

    pub fits-first : at + length (encode_regions v rs) ≤ room
    fits-first = omega (arith, both)

    pub fits-rest : (tree : List ℕ) (after : List ℕ) (p c : ℕ) → WrittenRegions v tree at rs after p c → p + length (encode_regions v ss) ≤ room
    fits-rest tree after p c x = omega (arith, both, x.end)

-- room in an area of the same length
pub room-kept : (x m n : ℕ) → x ≤ n → m ≡ n → x ≤ m
room-kept x m n h e = omega arith
