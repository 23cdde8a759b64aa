-- The bytes of a tree book's parts that are written by themselves. Assumes nothing: these are definitions.
use Rattle.std.specs.Prelude.{List, [], ◌∷◌, ◌++◌, ℕ}
use Rattle.book.specs.Writing.{u16_bytes, u32_bytes}
use Rattle.tree_encode.specs.Encode.{kind_bytes}

-- a tree book's header: "a 4-byte count of the bytes after it, a version byte",
-- "junctions u16 .., regions u16 .., yards u16 .., landmarks per region m u8"
unfoldable pub tree_header : (count version junctions regions yards m : ℕ) → List ℕ
tree_header count version junctions regions yards m =
    u32_bytes count ++ (version ∷ (u16_bytes junctions ++ (u16_bytes regions ++ (u16_bytes yards ++ (m ∷ [])))))

-- a region's fields before its landmarks:
-- "A region: first junction u16, junction after the last u16, children u8 .., yards u16 ..", and its kinds in version 2
unfoldable pub encode_fields : (v first after children yards kinds : ℕ) → List ℕ
encode_fields v first after children yards kinds =
    u16_bytes first ++ (u16_bytes after ++ (children ∷ (u16_bytes yards ++ kind_bytes v kinds)))
