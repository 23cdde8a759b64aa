-- The bytes of a tree book: what `decode` reads, written. Assumes nothing: these are definitions.
use Rattle.std.specs.Prelude.{List, [], ◌∷◌, ◌++◌, ℕ, length, eqb}
use Rattle.book.specs.Choose.{choose}
use Rattle.book.specs.Writing.{u16_bytes, u32_bytes}
use Rattle.tree_layout.specs.Values.{Element, Mark, Region, Tree}

-- ---- the parts of a version v book

-- a kind byte, which a version 1 book does not have
unfoldable pub kind_bytes : (v kinds : ℕ) → List ℕ
kind_bytes v kinds = choose (eqb v 1) [] (kinds ∷ [])

-- "one pair (distance u32, yard u16) per yard"; "a yard's kind byte after each of its list entries"
unfoldable pub encode_element : (v : ℕ) → Element → List ℕ
encode_element v e = u32_bytes e.distance ++ (u16_bytes e.yard ++ kind_bytes v e.kinds)

unfoldable pub encode_list : (v : ℕ) → List Element → List ℕ
encode_list v [] = []
encode_list v (e ∷ es) = encode_element v e ++ encode_list v es

-- a leaf's landmark: "its junction u16 and, in a leaf, one pair .. per yard"
unfoldable pub encode_leaf_mark : (v : ℕ) → Mark → List ℕ
encode_leaf_mark v m = u16_bytes m.place ++ encode_list v m.list

-- an inner region's: "least and greatest distance to its yards, u32 each"
unfoldable pub encode_inner_mark : Mark → List ℕ
encode_inner_mark m = u16_bytes m.place ++ (u32_bytes m.least ++ u32_bytes m.greatest)

unfoldable pub encode_mark : (v children : ℕ) → Mark → List ℕ
encode_mark v children m = choose (eqb children 0) (encode_leaf_mark v m) (encode_inner_mark m)

unfoldable pub encode_marks : (v children : ℕ) → List Mark → List ℕ
encode_marks v children [] = []
encode_marks v children (m ∷ ms) = encode_mark v children m ++ encode_marks v children ms

-- "A region: first junction u16, junction after the last u16, children u8 .., yards u16 ..; then per landmark .."; "a
-- region's byte after its yard count"
unfoldable pub encode_region : (v : ℕ) → Region → List ℕ
encode_region v r =
    u16_bytes r.first
    ++ (u16_bytes r.after
    ++ (r.children ∷ (u16_bytes r.yards ++ (kind_bytes v r.kinds ++ encode_marks v r.children r.marks))))

-- "then regions in preorder"
unfoldable pub encode_regions : (v : ℕ) → List Region → List ℕ
encode_regions v [] = []
encode_regions v (r ∷ rs) = encode_region v r ++ encode_regions v rs

-- ---- the book

-- "a version byte .., then fields": "junctions u16 .., regions u16 .., yards u16 .., landmarks per region m u8 ..;
-- then regions in preorder"
unfoldable pub encode_body : Tree → List ℕ
encode_body t = t.version ∷ (u16_bytes t.junctions ++ (u16_bytes (length t.regions) ++ (u16_bytes t.yards
    ++ (t.landmarks ∷ encode_regions t.version t.regions))))

-- "Each book is a 4-byte count of the bytes after it"
unfoldable pub encode : Tree → List ℕ
encode t = u32_bytes (length (encode_body t)) ++ encode_body t

-- a tree in version 2, with the values that it has
abbrev pub in_version2 : Tree → Tree
in_version2 t =
    record { version = 2; junctions = t.junctions; yards = t.yards; landmarks = t.landmarks; regions = t.regions }

-- "a built tree's area below 21,981 bytes"; "The version 2 build area must hold 23,516 bytes."
unfoldable pub tree_room : (version : ℕ) → ℕ
tree_room version = choose (eqb version 1) 21981 23516
