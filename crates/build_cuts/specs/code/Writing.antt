-- What writing a range's own record leaves. Assumes nothing: these are definitions.
use Rattle.std.specs.Prelude.{◌≡◌, List, [], ◌∷◌, ℕ, ◌+◌, ◌-◌, length, eqb}
use Rattle.book.specs.Choose.{choose}
use Rattle.book.specs.Writing.{write}
use Rattle.yard.specs.Yards.{yards_from}
use Rattle.tree_layout.specs.Values.{Region}
use Rattle.tree_encode.specs.Encode.{encode_regions}
use Rattle.build_records.specs.Given.{given}
use Rattle.build_records.specs.code.Parts.{region_of}
use Rattle.build_records.specs.declared.Record.{Record}

-- the region over a range with q children, a leaf if q is 0; or nothing:
-- "a region with one child is replaced by the child"
unfoldable pub own_regions : (road yard : List ℕ) → ℕ → ℕ → ℕ → ℕ → ℕ → List ℕ → List Region
own_regions road yard m limit a s q ys = choose (eqb q 1) [] (region_of (given road yard m limit) a s q ys ∷ [])

-- the same by a record that is to be written
abbrev pub own_in : (road yard : List ℕ) → (limit : ℕ) → Record → List Region
own_in road yard limit r = own_regions road yard r.landmarks limit r.part.start.number r.part.size r.children
    (yards_from yard (r.part.end - r.part.from) r.part.from)

-- a tree area into which some regions were written, in a version v book, from place `at` on, the place after them, and
-- how many there are
pub record WrittenRegions (v : ℕ) (tree : List ℕ) (at : ℕ) (rs : List Region) (after : List ℕ)
    (place count : ℕ) : Type 0 where
  pub bytes : after ≡ write tree at (encode_regions v rs)
  pub end : place ≡ at + length (encode_regions v rs)
  pub number : count ≡ length rs
