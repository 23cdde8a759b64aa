-- The opening that every book shares: "a 4-byte count of the bytes after it, a version byte .., then fields". Assumes
-- nothing: these are definitions.
use Rattle.std.specs.Prelude.{◌≡◌, ℕ, zero, suc, ◌+◌, ◌≤◌, List, [], length, leb, eqb, Result, Ok, Err}
use Rattle.book.specs.Choose.{refuse}
use Rattle.book.specs.Bytes.{u8_at, u32_at}
use Rattle.book.specs.Cases.{Case, accepted, refused}
use Rattle.book.specs.Refusals.{refusal_number}
use Rattle.book.specs.declared.refusal.Refusal.{Refusal}

-- the version byte
unfoldable pub version : List ℕ → ℕ
version b = u8_at b 4

-- a book that opens: its length is the count and the four bytes of it, its version is one from 1 up to the latest of
-- such books, and its header is whole
pub record Opens (b : List ℕ) (latest header : ℕ) : Type 0 where
  pub counted : length b ≡ 4 + u32_at b 0
  pub versioned : (1 ≤ version b) × (version b ≤ latest)
  pub headed : 5 + header ≤ length b

-- the first of the tests that fails, or 0, of a book of versions up to the latest, whose header has so many bytes after
-- the version
unfoldable pub open_refusal : List ℕ → (latest header : ℕ) → ℕ
open_refusal b latest header =
    -- 1: "Fewer than five bytes, or the length isn't the count of bytes after it."
    refuse (leb 5 (length b)) 1
    (refuse (eqb (length b) (4 + u32_at b 0)) 1
    -- 2: "The version isn't 1.", or none that such books have
    (refuse (leb 1 (version b)) 2
    (refuse (leb (version b) latest) 2
    -- 3: "The header is incomplete"
    (refuse (leb (5 + header) (length b)) 3 0))))

-- what opening a book finds: its body, or the number of the test that turns it back
pub data Opened : Type 0 where
  Body : Opened
  Refused : ℕ → Opened

-- a refusal's number as the answer: 0 opens the body
unfoldable pub opened : ℕ → Opened
opened zero = Body
opened (suc n) = Refused (suc n)

-- each case's number; there is no value beside it
unfoldable pub opened_case : Opened → Case
opened_case Body = accepted []
opened_case (Refused why) = refused why 0

-- what `book::open` answers, in the paper's numbers
abbrev pub opened_answer : Result (Unit {0}) Refusal → Opened
opened_answer (Ok x) = Body
opened_answer (Err why) = Refused (refusal_number why)
