-- The query book: "aggregate u8, k u8 (1 to 64), step limit u32, crews u8 (1 to 16), then crew junctions u16." Assumes
-- nothing: these are definitions.
use Rattle.std.specs.Prelude.{◌≡◌, Bool, true, ◌&&◌, List, [], ◌∷◌, ℕ, zero, suc, ◌+◌, ◌*◌, ◌≤◌, ◌<◌, length, leb, ltb, eqb, Result, Ok, Err}
use Rattle.book.specs.Choose.{refuse, first_of}
use Rattle.book.specs.Bytes.{u8_at, u16_at, u32_at}
use Rattle.book.specs.Open.{Opens, open_refusal}
use Rattle.book.specs.Cases.{Case, accepted, refused}
use Rattle.book.specs.Refusals.{refusal_number}
use Rattle.book.specs.declared.refusal.Refusal.{Refusal}
use Rattle.query.specs.declared.Query.{Query}

-- the header's fields, after the count and the version
unfoldable pub aggregate_of : List ℕ → ℕ
aggregate_of b = u8_at b 5

unfoldable pub k_of : List ℕ → ℕ
k_of b = u8_at b 6

unfoldable pub limit_of : List ℕ → ℕ
limit_of b = u32_at b 7

unfoldable pub crew_count : List ℕ → ℕ
crew_count b = u8_at b 11

-- "then crew junctions u16": the junction of crew number i, counted from 0
unfoldable pub crew_at : List ℕ → ℕ → ℕ
crew_at b i = u16_at b (12 + 2 * i)

-- n crews' junctions, from crew number i on
unfoldable pub crews_from : List ℕ → ℕ → ℕ → List ℕ
crews_from b zero i = []
crews_from b (suc n) i = crew_at b i ∷ crews_from b n (i + 1)

-- the crews' junctions; "two crews may stand at one junction and both count"
unfoldable pub crews_of : List ℕ → List ℕ
crews_of b = crews_from b (crew_count b) 0

-- every crew stands at a junction of a road book with so many junctions
unfoldable pub inside : ℕ → List ℕ → Bool
inside junctions [] = true
inside junctions (q ∷ qs) = ltb q junctions && inside junctions qs

-- 11: "k, the aggregate code .. is outside its range."
unfoldable pub value_refusal : ℕ → ℕ → ℕ
value_refusal aggregate k =
    refuse (leb aggregate 1) 11
    (refuse (leb 1 k) 11
    (refuse (leb k 64) 11 0))

-- the tests after the opening, beside a road book with so many junctions
unfoldable pub query_body_refusal : List ℕ → ℕ → ℕ
query_body_refusal b junctions =
    -- 4: "A record is incomplete, or bytes follow the last one."
    refuse (eqb (length b) (12 + 2 * crew_count b)) 4
    -- 10: "Crews are none, more than 16, or at no junction of the road book."
    (refuse (leb 1 (crew_count b)) 10
    (refuse (leb (crew_count b) 16) 10
    (refuse (inside junctions (crews_of b)) 10
    (value_refusal (aggregate_of b) (k_of b)))))

-- the number of the first test that turns the book back, or 0: "Query values fall to 10 and 11, never to 3 or 5."
unfoldable pub query_refusal : List ℕ → ℕ → ℕ
query_refusal b junctions = first_of (open_refusal b 1 7) (query_body_refusal b junctions)

-- what the book asks
unfoldable pub query_of : List ℕ → Query
query_of b = record { aggregate = aggregate_of b; k = k_of b; limit = limit_of b; crews = crew_count b }

-- what reading a query book finds: what it asks, or the number of the test that turns it back
pub data QueryBook : Type 0 where
  Asked : Query → QueryBook
  Refused : ℕ → QueryBook

-- the answer for a refusal's number: 0 gives what is asked
unfoldable pub query_book : ℕ → Query → QueryBook
query_book zero q = Asked q
query_book (suc n) q = Refused (suc n)

-- what a query asks, in the book's order
abbrev pub query_values : Query → List ℕ
query_values q = q.aggregate ∷ q.k ∷ q.limit ∷ q.crews ∷ []

-- each case's number and values: what is asked; "A refusal returns its number, with every other returned field 0"
unfoldable pub query_case : QueryBook → Case
query_case (Asked q) = accepted (query_values q)
query_case (Refused why) = refused why 4

-- what the code answers, in the paper's numbers
abbrev pub query_answer : Result Query Refusal → QueryBook
query_answer (Ok q) = Asked q
query_answer (Err why) = Refused (refusal_number why)

-- a query book that no test turns back, sentence by sentence
pub record QueryLayout (b : List ℕ) (junctions : ℕ) : Type 0 where
  -- "a 4-byte count of the bytes after it, a version byte (1), then fields", seven bytes of header among them
  pub opening : Opens b 1 7
  -- "then crew junctions u16": two bytes for each crew, and none after them
  pub sized : length b ≡ 12 + 2 * crew_count b
  -- "crews u8 (1 to 16)"
  pub some-crew : 1 ≤ crew_count b
  pub few-crews : crew_count b ≤ 16
  -- at junctions of the road book
  pub placed : (i : ℕ) → i < crew_count b → crew_at b i < junctions
  -- "the sum (code 0) or the maximum (code 1)"
  pub coded : aggregate_of b ≤ 1
  -- "k u8 (1 to 64)"
  pub some-k : 1 ≤ k_of b
  pub few-k : k_of b ≤ 64
