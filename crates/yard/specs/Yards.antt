-- The yard book: "yards u16 (1 to 256), then junctions u16, below 1,024, rising strictly."; "Yard book version 2 gives
-- each yard a kind byte after its junction, one bit per kind, not 0." Assumes nothing: these are definitions.
use Rattle.std.specs.Prelude.{◌≡◌, Bool, true, ◌&&◌, List, [], ◌∷◌, ℕ, zero, suc, ◌+◌, ◌*◌, ◌≤◌, ◌<◌, length, get_or, set, replicate, leb, ltb, eqb, Result, Ok, Err}
use Rattle.book.specs.Choose.{refuse, first_of}
use Rattle.book.specs.Bytes.{u16_at}
use Rattle.book.specs.Open.{Opens, version, open_refusal}
use Rattle.book.specs.Cases.{Case, accepted, refused}
use Rattle.book.specs.Refusals.{refusal_number}
use Rattle.book.specs.declared.refusal.Refusal.{Refusal}
use Rattle.kinds.specs.Kinds.{kind_size, kind_at}

-- the latest version of a yard book
abbrev pub latest_yards : ℕ
latest_yards = 2

-- "yards u16"
unfoldable pub yard_count : List ℕ → ℕ
yard_count b = u16_at b 5

-- the bytes of n yards in a book of a version: two of the junction, and those of the kind
unfoldable pub yards_size : (version n : ℕ) → ℕ
yards_size version n = n * (2 + kind_size version)

-- where yard number i of the book stands, counted from 0
unfoldable pub yard_place : List ℕ → ℕ → ℕ
yard_place b i = 7 + yards_size (version b) i

-- "then junctions u16": that of yard number i
unfoldable pub yard_at : List ℕ → ℕ → ℕ
yard_at b i = u16_at b (yard_place b i)

-- "a kind byte after its junction": that of yard number i; "Version 1 books are read with kind 255 throughout"
unfoldable pub yard_kind : List ℕ → ℕ → ℕ
yard_kind b i = kind_at (version b) b (yard_place b i + 2)

-- n yards, from yard number i on
unfoldable pub yards_from : List ℕ → ℕ → ℕ → List ℕ
yards_from b zero i = []
yards_from b (suc n) i = yard_at b i ∷ yards_from b n (suc i)

-- the book's yards, in its order
unfoldable pub yards_of : List ℕ → List ℕ
yards_of b = yards_from b (yard_count b) 0

-- "below 1,024, rising strictly": every yard is below 1,024 and above the one before; `low` is the least number that
-- the first may bear
unfoldable pub yards_rise : ℕ → List ℕ → Bool
yards_rise low [] = true
yards_rise low (y ∷ ys) = leb low y && (ltb y 1024 && yards_rise (suc y) ys)

-- "one bit per kind, not 0": of n yards, from yard number i on
unfoldable pub kinds_set : List ℕ → ℕ → ℕ → Bool
kinds_set b zero i = true
kinds_set b (suc n) i = leb 1 (yard_kind b i) && kinds_set b n (suc i)

-- every yard is a junction of a road book with so many junctions
unfoldable pub inside : ℕ → List ℕ → Bool
inside junctions [] = true
inside junctions (y ∷ ys) = ltb y junctions && inside junctions ys

-- the tests after the opening
unfoldable pub yard_body_refusal : List ℕ → ℕ
yard_body_refusal b =
    -- 3: "a .. yard .. count is outside its limits"
    refuse (leb 1 (yard_count b)) 3
    (refuse (leb (yard_count b) 256) 3
    -- 4: "A record is incomplete, or bytes follow the last one."
    (refuse (eqb (length b) (yard_place b (yard_count b))) 4
    -- 5: "A record's value is outside its range or order."
    (refuse (yards_rise 0 (yards_of b) && kinds_set b (yard_count b) 0) 5 0)))

-- the number of the first test that turns the book back, or 0
unfoldable pub yard_refusal : List ℕ → ℕ
yard_refusal b =
    -- 1, 2 and 3: the opening, with a header of two bytes
    first_of (open_refusal b latest_yards 2)
    (yard_body_refusal b)

-- the same beside a road book with so many junctions: "a test between books going with the later one"
unfoldable pub yard_refusal_in : List ℕ → ℕ → ℕ
yard_refusal_in b junctions =
    first_of (yard_refusal b)
    -- 8: "a yard isn't a junction of the road book"
    (refuse (inside junctions (yards_of b)) 8 0)

-- what reading a yard book finds: how many yards it has, or the number of the test that turns it back
pub data YardBook : Type 0 where
  Yards : ℕ → YardBook
  Refused : ℕ → YardBook

-- the answer for a refusal's number and a yard count: 0 gives the count
unfoldable pub yard_book : ℕ → ℕ → YardBook
yard_book zero count = Yards count
yard_book (suc n) count = Refused (suc n)

-- each case's number and value: the count of yards; "A refusal returns its number, with every other returned field 0"
unfoldable pub yard_case : YardBook → Case
yard_case (Yards count) = accepted (count ∷ [])
yard_case (Refused why) = refused why 1

-- what the code answers, in the paper's numbers
abbrev pub yard_answer : Result ℕ Refusal → YardBook
yard_answer (Ok count) = Yards count
yard_answer (Err why) = Refused (refusal_number why)

-- a yard book that no test turns back, sentence by sentence
pub record YardLayout (b : List ℕ) : Type 0 where
  -- "a 4-byte count of the bytes after it, a version byte .., then fields", two bytes of header among them
  pub opening : Opens b latest_yards 2
  -- "yards u16 (1 to 256)"
  pub least : 1 ≤ yard_count b
  pub most : yard_count b ≤ 256
  -- "then junctions u16", in version 2 each with a kind byte after it: the yards take up the book to its end
  pub sized : length b ≡ yard_place b (yard_count b)
  -- "below 1,024"
  pub below : (i : ℕ) → i < yard_count b → yard_at b i < 1024
  -- "rising strictly"
  pub rising : (i : ℕ) → i + 1 < yard_count b → yard_at b i < yard_at b (i + 1)
  -- "one bit per kind, not 0"
  pub kinds : (i : ℕ) → i < yard_count b → 1 ≤ yard_kind b i

-- what the list of yards of such a book is
pub record RisingYards (b : List ℕ) (ys : List ℕ) : Type 0 where
  -- as many as the header counts
  pub counted : length ys ≡ yard_count b
  -- each where the book has it
  pub each : (i : ℕ) → i < length ys → get_or ys i 0 ≡ yard_at b i
  pub below : (i : ℕ) → i < length ys → get_or ys i 0 < 1024
  pub rising : (i j : ℕ) → i < j → j < length ys → get_or ys i 0 < get_or ys j 0
  -- no yard stands at two places
  pub once : (i j : ℕ) → i < length ys → j < length ys → get_or ys i 0 ≡ get_or ys j 0 → i ≡ j

-- ---- kinds by junction

-- a table by junction with the kinds of n yards set, from yard number i on
unfoldable pub kinds_from : List ℕ → ℕ → ℕ → List ℕ → List ℕ
kinds_from b zero i table = table
kinds_from b (suc n) i table = kinds_from b n (suc i) (set table (yard_at b i) (yard_kind b i))

-- the kinds of the book's yards by junction, 0 where there is no yard
unfoldable pub kind_table : List ℕ → List ℕ
kind_table b = kinds_from b (yard_count b) 0 (replicate 1024 0)

-- the kinds of the yard at a junction, or 0 if there is none
unfoldable pub kind_of : List ℕ → ℕ → ℕ
kind_of b y = get_or (kind_table b) y 0

-- the book has yard y, of kinds k
pub record HasKinds (b : List ℕ) (y k : ℕ) : Type 0 where
  pub number : ℕ
  pub counted : number < yard_count b
  pub names : yard_at b number ≡ y
  pub bits : yard_kind b number ≡ k
