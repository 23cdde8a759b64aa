-- A tree book's parts, written one field after the other; how long they are, and that a tree's bytes begin with them. Assumes nothing.
use mathlib.Core.Path.{◌≡◌, refl, sym, ap, ◌∙◌}
use mathlib.Core.List.{List, [], ◌∷◌, ◌++◌, append_assoc}
use Prim.Native.Nat.{ℕ, ◌+◌, ◌-◌}
use native.Mathlib.Omega.{arith}
use lib.ListN.{length, set, length-append}
use Rattle.book.specs.Bytes.{put_u16, put_u32}
use Rattle.book.specs.Writing.{u16_bytes, u32_bytes, write}
use Rattle.book.proofs.Writing.{u16_length, u32_length, write_u8, write_u16, write_u32, write-append}
use Rattle.tree_layout.specs.Sizes.{fields_size}
use Rattle.tree_layout.specs.Values.{Region, Tree, inner_mark}
use Rattle.tree_layout.specs.Reading.{element}
use Rattle.tree_layout.proofs.Sizes.{fields_are}
use Rattle.tree_layout.proofs.MarkFields.{inner-place, inner-least, inner-greatest}
use Rattle.tree_encode.specs.Encode.{kind_bytes, encode_element, encode_inner_mark, encode_marks, encode_region, encode_regions, encode_body, encode}
use Rattle.tree_encode.specs.code.Parts.{tree_header, encode_fields}
use Rattle.tree_encode.proofs.KindBytes.{kind-length}
use Rattle.tree_encode.proofs.Sizes.{body_length, encode-length, encode-is}

-- ---- their bytes

pub element-bytes : (v d y k : ℕ) → encode_element v (element d y k) ≡ u32_bytes d ++ (u16_bytes y ++ kind_bytes v k)
unfolding encode_element
element-bytes v d y k = refl

pub span-bytes : (l a z : ℕ) → encode_inner_mark (inner_mark l a z) ≡ u16_bytes l ++ (u32_bytes a ++ u32_bytes z)
unfolding encode_inner_mark
span-bytes l a z = rw (inner-place l a z, inner-least l a z, inner-greatest l a z) refl

pub header-length : (count v j r y m : ℕ) → length (tree_header count v j r y m) ≡ 12
unfolding tree_header
header-length count v j r y m =
    let four = m ∷ [] in
    let three = u16_bytes y ++ four in
    let two = u16_bytes r ++ three in
    let one = u16_bytes j ++ two in
    omega (
      arith,
      length-append (u32_bytes count) (v ∷ one),
      length-append (u16_bytes j) two,
      length-append (u16_bytes r) three,
      length-append (u16_bytes y) four,
      u32_length count,
      u16_length j,
      u16_length r,
      u16_length y,
    )

pub fields_length : (v first after children yards kinds : ℕ) → length (encode_fields v first after children yards kinds) ≡ fields_size v
unfolding encode_fields
fields_length v first after children yards kinds =
    let byte = kind_bytes v kinds in
    let rest = children ∷ (u16_bytes yards ++ byte) in
    let one = length-append (u16_bytes first) (u16_bytes after ++ rest) in
    let two = length-append (u16_bytes after) rest in
    let three = length-append (u16_bytes yards) byte in
    omega (arith, one, two, three, u16_length first, u16_length after, u16_length yards, kind-length v kinds, fields_are v)

-- ---- a tree's bytes and a region's begin with them

header_then : (count v j r y m : ℕ) (rest : List ℕ)
    → u32_bytes count ++ (v ∷ (u16_bytes j ++ (u16_bytes r ++ (u16_bytes y ++ (m ∷ rest))))) ≡ tree_header count v j r y m ++ rest
unfolding tree_header
header_then count v j r y m rest = sym (simp append_assoc)

pub book-is : (t : Tree) → encode t ≡ tree_header (length (encode t) - 4) t.version t.junctions (length t.regions) t.yards t.landmarks
    ++ encode_regions t.version t.regions
book-is t =
    let e : length (encode_body t) ≡ length (encode t) - 4 = omega (arith, body_length t, encode-length t) in
    encode-is t ∙ header_then (length (encode_body t)) t.version t.junctions (length t.regions) t.yards t.landmarks (encode_regions t.version t.regions)
    ∙ rw e refl

pub fields_then : (v first after children yards kinds : ℕ) (rest : List ℕ)
    → u16_bytes first ++ (u16_bytes after ++ (children ∷ (u16_bytes yards ++ (kind_bytes v kinds ++ rest))))
    ≡ encode_fields v first after children yards kinds ++ rest
unfolding encode_fields
fields_then v first after children yards kinds rest = sym (simp append_assoc)

pub region_is : (v : ℕ) (r : Region) → encode_region v r
    ≡ encode_fields v r.first r.after r.children r.yards r.kinds ++ encode_marks v r.children r.marks
unfolding encode_region
region_is v r = fields_then v r.first r.after r.children r.yards r.kinds (encode_marks v r.children r.marks)

-- ---- one field more

module _ (tree : List ℕ) (i : ℕ) (w : List ℕ) (mid : List ℕ) (e : mid ≡ write tree i w) (at : ℕ) (h : i + length w ≡ at) where
  more : (u : List ℕ) → write mid at u ≡ write tree i (w ++ u)
  more u = rw (e, ← h) (sym (write-append w u tree i))

  then_bytes : (out u : List ℕ) → out ≡ write mid at u → out ≡ write tree i (w ++ u)
  then_bytes out u f = f ∙ more u

  then_u8 : (out : List ℕ) (x : ℕ) → out ≡ set mid at x → out ≡ write tree i (w ++ (x ∷ []))
  then_u8 out x f = f ∙ write_u8 mid at x ∙ more (x ∷ [])

  then_u16 : (out : List ℕ) (x : ℕ) → out ≡ put_u16 mid at x → out ≡ write tree i (w ++ u16_bytes x)
  then_u16 out x f = f ∙ write_u16 mid at x ∙ more (u16_bytes x)

  then_u32 : (out : List ℕ) (x : ℕ) → out ≡ put_u32 mid at x → out ≡ write tree i (w ++ u32_bytes x)
  then_u32 out x f = f ∙ write_u32 mid at x ∙ more (u32_bytes x)

-- the six fields of a header
pub header-written : (tree one two three four five out : List ℕ) (count v j r y m : ℕ)
    → one ≡ put_u32 tree 0 count → two ≡ set one 4 v → three ≡ put_u16 two 5 j → four ≡ put_u16 three 7 r → five ≡ put_u16 four 9 y → out ≡ set five 11 m
    → out ≡ write tree 0 (tree_header count v j r y m)
unfolding tree_header
header-written tree one two three four five out count v j r y m e1 e2 e3 e4 e5 e6 =
    let w1 = u32_bytes count in
    let w2 = w1 ++ (v ∷ []) in
    let w3 = w2 ++ u16_bytes j in
    let w4 = w3 ++ u16_bytes r in
    let w5 = w4 ++ u16_bytes y in
    let l1 : 0 + length w1 ≡ 4 = omega (arith, u32_length count) in
    let l2 : 0 + length w2 ≡ 5 = omega (arith, length-append w1 (v ∷ []), l1) in
    let l3 : 0 + length w3 ≡ 7 = omega (arith, length-append w2 (u16_bytes j), u16_length j, l2) in
    let l4 : 0 + length w4 ≡ 9 = omega (arith, length-append w3 (u16_bytes r), u16_length r, l3) in
    let l5 : 0 + length w5 ≡ 11 = omega (arith, length-append w4 (u16_bytes y), u16_length y, l4) in
    let f1 : one ≡ write tree 0 w1 = e1 ∙ write_u32 tree 0 count in
    let f2 = then_u8 tree 0 w1 one f1 4 l1 two v e2 in
    let f3 = then_u16 tree 0 w2 two f2 5 l2 three j e3 in
    let f4 = then_u16 tree 0 w3 three f3 7 l3 four r e4 in
    let f5 = then_u16 tree 0 w4 four f4 9 l4 five y e5 in
    then_u8 tree 0 w5 five f5 11 l5 out m e6 ∙ ap (write tree 0) (simp append_assoc)

-- the five fields of a region
pub fields_written : (tree one two three four out : List ℕ) (v at a z q n k : ℕ)
    → one ≡ put_u16 tree at a → two ≡ put_u16 one (at + 2) z → three ≡ set two (at + 4) q → four ≡ put_u16 three (at + 5) n
    → out ≡ write four (at + 7) (kind_bytes v k)
    → out ≡ write tree at (encode_fields v a z q n k)
unfolding encode_fields
fields_written tree one two three four out v at a z q n k e1 e2 e3 e4 e5 =
    let w1 = u16_bytes a in
    let w2 = w1 ++ u16_bytes z in
    let w3 = w2 ++ (q ∷ []) in
    let w4 = w3 ++ u16_bytes n in
    let l1 : at + length w1 ≡ at + 2 = omega (arith, u16_length a) in
    let l2 : at + length w2 ≡ at + 4 = omega (arith, length-append w1 (u16_bytes z), u16_length z, l1) in
    let l3 : at + length w3 ≡ at + 5 = omega (arith, length-append w2 (q ∷ []), l2) in
    let l4 : at + length w4 ≡ at + 7 = omega (arith, length-append w3 (u16_bytes n), u16_length n, l3) in
    let f1 : one ≡ write tree at w1 = e1 ∙ write_u16 tree at a in
    let f2 = then_u16 tree at w1 one f1 (at + 2) l1 two z e2 in
    let f3 = then_u8 tree at w2 two f2 (at + 4) l2 three q e3 in
    let f4 = then_u16 tree at w3 three f3 (at + 5) l3 four n e4 in
    then_bytes tree at w4 four f4 (at + 7) l4 out (kind_bytes v k) e5 ∙ ap (write tree at) (simp append_assoc)

-- the three of an inner region's landmark
pub span-written : (tree one two out : List ℕ) (at l a z : ℕ)
    → one ≡ put_u16 tree at l → two ≡ put_u32 one (at + 2) a → out ≡ put_u32 two (at + 6) z
    → out ≡ write tree at (encode_inner_mark (inner_mark l a z))
span-written tree one two out at l a z e1 e2 e3 =
    let w1 = u16_bytes l in
    let w2 = w1 ++ u32_bytes a in
    let l1 : at + length w1 ≡ at + 2 = omega (arith, u16_length l) in
    let l2 : at + length w2 ≡ at + 6 = omega (arith, length-append w1 (u32_bytes a), u32_length a, l1) in
    let f1 : one ≡ write tree at w1 = e1 ∙ write_u16 tree at l in
    let f2 = then_u32 tree at w1 one f1 (at + 2) l1 two a e2 in
    then_u32 tree at w2 two f2 (at + 6) l2 out z e3 ∙ ap (write tree at) (append_assoc w1 (u32_bytes a) (u32_bytes z) ∙ sym (span-bytes l a z))

-- the three of a list's element
pub element-written : (tree one two out : List ℕ) (v at d y k : ℕ) → one ≡ put_u32 tree at d → two ≡ put_u16 one (at + 4) y
    → out ≡ write two (at + 6) (kind_bytes v k)
    → out ≡ write tree at (encode_element v (element d y k))
element-written tree one two out v at d y k e1 e2 e3 =
    let w1 = u32_bytes d in
    let w2 = w1 ++ u16_bytes y in
    let l1 : at + length w1 ≡ at + 4 = omega (arith, u32_length d) in
    let l2 : at + length w2 ≡ at + 6 = omega (arith, length-append w1 (u16_bytes y), u16_length y, l1) in
    let f2 = then_u16 tree at w1 one (e1 ∙ write_u32 tree at d) (at + 4) l1 two y e2 in
    then_bytes tree at w2 two f2 (at + 6) l2 out (kind_bytes v k) e3
    ∙ ap (write tree at) (append_assoc w1 (u16_bytes y) (kind_bytes v k) ∙ sym (element-bytes v d y k))
