-- What a test of a tree book's parts says of each, as code is given it. Assumes nothing: these are definitions.
use Rattle.std.specs.Prelude.{◌≡◌, Bool, List, ℕ, ◌<◌, get_or}
use Rattle.tree_layout.specs.Values.{Element, Mark, Region, no_mark}
use Rattle.tree_layout.specs.Sizes.{header_size}
use Rattle.tree_layout.specs.Decode.{read_region, place_from, region_count, landmark_count, place_of}
use Rattle.tree_layout.specs.Reading.{element}
use Rattle.tree_layout.specs.code.Marks.{mark_place}
use Rattle.tree_layout.specs.declared.Listed.{Listed}

-- of an element: what it may answer is whether `ok` holds
abbrev pub TestsElement : (Listed → Bool → Type 0) → (Element → Bool) → Type 0
TestsElement Answers ok = (e : Listed) (r : Bool) → Answers e r → r ≡ ok (element e.distance e.yard.number e.kinds)

-- of each of the m landmarks of the record at a place, by the landmark's place
abbrev pub TestsMark : List ℕ → (at m : ℕ) → (ℕ → Bool → Type 0) → (Mark → Bool) → Type 0
TestsMark b at m Answers ok =
    (j : ℕ) → j < m → (r : Bool) → Answers (mark_place b at j) r → r ≡ ok (get_or (read_region b m at).marks j no_mark)

-- of each of n records of m landmarks, by its place: what it may answer is whether `ok` holds of the region there
abbrev pub TestsRecord : List ℕ → (m n : ℕ) → (ℕ → Bool → Type 0) → (Region → Bool) → Type 0
TestsRecord b m n Answers ok =
    (k : ℕ) → k < n → (r : Bool) → Answers (place_from b m k header_size) r
    → r ≡ ok (read_region b m (place_from b m k header_size))

-- of each region of a book, by the place of its record: what it may answer is whether `ok` holds of the region there
abbrev pub TestsRegion : List ℕ → (ℕ → Bool → Type 0) → (Region → Bool) → Type 0
TestsRegion b Answers ok =
    (k : ℕ) → k < region_count b → (r : Bool) → Answers (place_of b k) r
    → r ≡ ok (read_region b (landmark_count b) (place_of b k))
