-- What is written are bytes, for a tree whose fields fit theirs. Assumes nothing.
use mathlib.Core.Path.{refl}
use mathlib.Core.List.Memᴰ.{head}
use mathlib.Core.List.Memᴰ.{tail}
use mathlib.Core.List.{List, [], ◌∷◌, ◌++◌, Memᴰ as Mem}
use Prim.Native.Nat.{ℕ, ◌<◌}
use native.Mathlib.Omega.{arith}
use lib.ListN.{length}
use lib.Dec.{eqb, eqb→eq}
use Rattle.book.specs.Bytes.{Bytes}
use Rattle.book.specs.Writing.{u16_bytes, u32_bytes}
use Rattle.book.proofs.Choosing.{choose_case}
use Rattle.book.proofs.Lists.{neqb→ne}
use Rattle.book.proofs.Writing.{bytes-none, bytes-cons, bytes-append, u16_bytes_lem, u32_bytes_lem}
use Rattle.tree_layout.specs.Values.{Element, Mark, Region, Tree}
use Rattle.tree_encode.specs.Encode.{kind_bytes, encode_element, encode_list, encode_leaf_mark, encode_inner_mark, encode_mark, encode_marks, encode_region, encode_regions}
use Rattle.tree_encode.specs.Encode.{encode_body, encode}
use Rattle.tree_encode.specs.code.Facts.{SmallRegion, SmallTree}
use Rattle.tree_encode.proofs.KindBytes.{kind-bytes}

list-bytes : (v : ℕ) (es : List Element) → ((e : Element) → Mem e es → (e.distance < 4294967296) × (e.yard < 65536) × (e.kinds < 256))
    → Bytes (encode_list v es)
unfolding encode_list encode_element
list-bytes v [] f = bytes-none
list-bytes v (e ∷ es) f =
    let h = f e (head refl) in
    let yard = u16_bytes e.yard in
    let kinds = kind_bytes v e.kinds in
    bytes-append (u32_bytes e.distance ++ (yard ++ kinds)) (encode_list v es)
    (bytes-append (u32_bytes e.distance) (yard ++ kinds) (u32_bytes_lem e.distance h.0)
    (bytes-append yard kinds (u16_bytes_lem e.yard h.1) (kind-bytes v e.kinds h.2)))
    (list-bytes v es (λ g k. f g (tail k)))

mark_bytes_lem : (v : ℕ) (r : Region) → SmallRegion r → (m : Mark) → Mem m r.marks → Bytes (encode_mark v r.children m)
unfolding encode_mark encode_leaf_mark encode_inner_mark
mark_bytes_lem v r s m k =
    choose_case (λ (l : List ℕ). Bytes l) (eqb r.children 0)
    (λ t. bytes-append (u16_bytes m.place) (encode_list v m.list) place (list-bytes v m.list (s.pairs (eqb→eq r.children 0 t) m k)))
    (λ t. bytes-append (u16_bytes m.place) (u32_bytes m.least ++ u32_bytes m.greatest) place (both (s.spans (omega (arith, neqb→ne r.children 0 t)) m
    k)))
  where
    place : Bytes (u16_bytes m.place)
    place = u16_bytes_lem m.place (s.places m k)

    both : (m.least < 4294967296) × (m.greatest < 4294967296) → Bytes (u32_bytes m.least ++ u32_bytes m.greatest)
    both h = bytes-append (u32_bytes m.least) (u32_bytes m.greatest) (u32_bytes_lem m.least h.0) (u32_bytes_lem m.greatest h.1)

marks-bytes : (v c : ℕ) (ms : List Mark) → ((m : Mark) → Mem m ms → Bytes (encode_mark v c m)) → Bytes (encode_marks v c ms)
unfolding encode_marks
marks-bytes v c [] f = bytes-none
marks-bytes v c (m ∷ ms) f = bytes-append (encode_mark v c m) (encode_marks v c ms) (f m (head refl)) (marks-bytes v c ms (λ k i. f k (tail i)))

region_bytes : (v : ℕ) (r : Region) → SmallRegion r → Bytes (encode_region v r)
unfolding encode_region
region_bytes v r s =
    let marks = encode_marks v r.children r.marks in
    let kinds = kind_bytes v r.kinds in
    let rest = u16_bytes r.yards ++ (kinds ++ marks) in
    bytes-append (u16_bytes r.first) (u16_bytes r.after ++ (r.children ∷ rest)) (u16_bytes_lem r.first s.first)
    (bytes-append (u16_bytes r.after) (r.children ∷ rest) (u16_bytes_lem r.after s.after)
    (bytes-cons r.children rest s.children
    (bytes-append (u16_bytes r.yards) (kinds ++ marks) (u16_bytes_lem r.yards s.yards)
    (bytes-append kinds marks (kind-bytes v r.kinds s.kinds) (marks-bytes v r.children r.marks (mark_bytes_lem v r s))))))

regions-bytes : (v : ℕ) (rs : List Region) → ((r : Region) → Mem r rs → SmallRegion r) → Bytes (encode_regions v rs)
unfolding encode_regions
regions-bytes v [] f = bytes-none
regions-bytes v (r ∷ rs) f =
    bytes-append (encode_region v r) (encode_regions v rs) (region_bytes v r (f r (head refl))) (regions-bytes v rs (λ q k. f q (tail k)))

pub encode-bytes : (t : Tree) → length (encode_body t) < 4294967296 → SmallTree t → Bytes (encode t)
unfolding encode encode_body
encode-bytes t h s =
    let regions = encode_regions t.version t.regions in
    let rest = t.landmarks ∷ regions in
    bytes-append (u32_bytes (length (encode_body t))) (encode_body t) (u32_bytes_lem (length (encode_body t)) h)
    (bytes-cons t.version (u16_bytes t.junctions ++ (u16_bytes (length t.regions) ++ (u16_bytes t.yards ++ rest))) s.version
    (bytes-append (u16_bytes t.junctions) (u16_bytes (length t.regions) ++ (u16_bytes t.yards ++ rest)) (u16_bytes_lem t.junctions s.junctions)
    (bytes-append (u16_bytes (length t.regions)) (u16_bytes t.yards ++ rest) (u16_bytes_lem (length t.regions) s.count)
    (bytes-append (u16_bytes t.yards) rest (u16_bytes_lem t.yards s.yards)
    (bytes-cons t.landmarks regions s.landmarks (regions-bytes t.version t.regions s.regions))))))
