-- The books of the paper's examples, byte by byte, and what a search on them gives. Assumes nothing: these are
-- definitions.
use Rattle.std.proofs.Math.Option.{none}
use Rattle.std.specs.Prelude.{List, [], ◌∷◌, ◌++◌, ℕ, ◌+◌, ◌*◌, ◌/◌, length, drop, replicate}
use Rattle.search_call.specs.Call.{want_any, want_nearest, Found, refused, Call, Areas, found_on, call_on}

-- ---- net N

-- "junctions 0 to 4 in a chain, seconds 2, 3, 4, 1"
unfoldable pub road_n : List ℕ
road_n =
    0 ∷ 0 ∷ 0 ∷ 29 ∷ 1 ∷ 0 ∷ 5 ∷ 0 ∷ 4
    ∷ 0 ∷ 0 ∷ 0 ∷ 1 ∷ 0 ∷ 2
    ∷ 0 ∷ 1 ∷ 0 ∷ 2 ∷ 0 ∷ 3
    ∷ 0 ∷ 2 ∷ 0 ∷ 3 ∷ 0 ∷ 4
    ∷ 0 ∷ 3 ∷ 0 ∷ 4 ∷ 0 ∷ 1 ∷ []

-- "Its tree in hexadecimal: 00000023 01 0005 0001 0003 01 0000 0005 00 0003 0000 00000002 0001 00000009 0003 0000000a
-- 0004"
unfoldable pub tree_n : List ℕ
tree_n =
    0 ∷ 0 ∷ 0 ∷ 35 ∷ 1 ∷ 0 ∷ 5 ∷ 0 ∷ 1 ∷ 0 ∷ 3 ∷ 1
    ∷ 0 ∷ 0 ∷ 0 ∷ 5 ∷ 0 ∷ 0 ∷ 3 ∷ 0 ∷ 0
    ∷ 0 ∷ 0 ∷ 0 ∷ 2 ∷ 0 ∷ 1
    ∷ 0 ∷ 0 ∷ 0 ∷ 9 ∷ 0 ∷ 3
    ∷ 0 ∷ 0 ∷ 0 ∷ 10 ∷ 0 ∷ 4 ∷ []

-- the same tree in version 2, with kind 1 for yard 1, kind 2 for yard 3 and both for yard 4
unfoldable pub tree_kinds : List ℕ
tree_kinds =
    0 ∷ 0 ∷ 0 ∷ 39 ∷ 2 ∷ 0 ∷ 5 ∷ 0 ∷ 1 ∷ 0 ∷ 3 ∷ 1
    ∷ 0 ∷ 0 ∷ 0 ∷ 5 ∷ 0 ∷ 0 ∷ 3 ∷ 3 ∷ 0 ∷ 0
    ∷ 0 ∷ 0 ∷ 0 ∷ 2 ∷ 0 ∷ 1 ∷ 1
    ∷ 0 ∷ 0 ∷ 0 ∷ 9 ∷ 0 ∷ 3 ∷ 2
    ∷ 0 ∷ 0 ∷ 0 ∷ 10 ∷ 0 ∷ 4 ∷ 3 ∷ []

-- ---- "One junction, no road, yard 0"

unfoldable pub road_one : List ℕ
road_one = 0 ∷ 0 ∷ 0 ∷ 5 ∷ 1 ∷ 0 ∷ 1 ∷ 0 ∷ 0 ∷ []

unfoldable pub tree_one : List ℕ
tree_one =
    0 ∷ 0 ∷ 0 ∷ 23 ∷ 1 ∷ 0 ∷ 1 ∷ 0 ∷ 1 ∷ 0 ∷ 1 ∷ 1
    ∷ 0 ∷ 0 ∷ 0 ∷ 1 ∷ 0 ∷ 0 ∷ 1 ∷ 0 ∷ 0
    ∷ 0 ∷ 0 ∷ 0 ∷ 0 ∷ 0 ∷ 0 ∷ []

-- ---- "Chain of three, seconds 1 and 1, yards 0 and 2"

unfoldable pub road_three : List ℕ
road_three =
    0 ∷ 0 ∷ 0 ∷ 17 ∷ 1 ∷ 0 ∷ 3 ∷ 0 ∷ 2
    ∷ 0 ∷ 0 ∷ 0 ∷ 1 ∷ 0 ∷ 1
    ∷ 0 ∷ 1 ∷ 0 ∷ 2 ∷ 0 ∷ 1 ∷ []

unfoldable pub tree_three : List ℕ
tree_three =
    0 ∷ 0 ∷ 0 ∷ 29 ∷ 1 ∷ 0 ∷ 3 ∷ 0 ∷ 1 ∷ 0 ∷ 2 ∷ 1
    ∷ 0 ∷ 0 ∷ 0 ∷ 3 ∷ 0 ∷ 0 ∷ 2 ∷ 0 ∷ 0
    ∷ 0 ∷ 0 ∷ 0 ∷ 0 ∷ 0 ∷ 0
    ∷ 0 ∷ 0 ∷ 0 ∷ 2 ∷ 0 ∷ 2 ∷ []

-- ---- queries

-- crews' junctions, all below 256
unfoldable pub crew_bytes : List ℕ → List ℕ
crew_bytes [] = []
crew_bytes (q ∷ qs) = 0 ∷ q ∷ crew_bytes qs

-- a query book: the aggregate's code, k, the step limit (below 256) and the crews
unfoldable pub asking : (code k limit : ℕ) → List ℕ → List ℕ
asking code k limit crews = 0 ∷ 0 ∷ 0 ∷ (8 + 2 * length crews) ∷ 1 ∷ code ∷ k ∷ 0 ∷ 0 ∷ 0 ∷ limit ∷ length crews ∷
    crew_bytes crews

unfoldable pub on_n : List ℕ → Call
on_n query = record { road = road_n; tree = tree_n; query = query; want = want_any none }

-- net N's tree with kinds, for yards of some wanted kinds
unfoldable pub on_kinds : (wanted : ℕ) → List ℕ → Call
on_kinds wanted query = record { road = road_n; tree = tree_kinds; query = query; want = want_nearest wanted }

unfoldable pub on_one : List ℕ → Call
on_one query = record { road = road_one; tree = tree_one; query = query; want = want_any none }

unfoldable pub on_three : List ℕ → Call
on_three query = record { road = road_three; tree = tree_three; query = query; want = want_any none }

-- ---- what is seen of a call

-- areas of just the words that any k wants, all of them 7 before
unfoldable pub lent : Areas
lent = record { work = replicate 16384 7; results = replicate 128 7 }

-- what a call returns, and the result area after it
pub record Row : Type 0 where
  pub found : Found
  pub results : List ℕ

unfoldable pub row : Call → Row
row c = record { found = found_on c lent; results = (call_on c lent).results }

-- a settled search that wrote these (yard, distance) words
unfoldable pub settled_row : (measured taken : ℕ) → List ℕ → Row
settled_row measured taken words = record {
  found = record { refusal = 0; settled = 1; listed = length words / 2; taken = taken; measured = measured };
  results = words ++ drop (length words) (replicate 128 7);
}

unfoldable pub spent_row : (measured taken : ℕ) → Row
spent_row measured taken = record {
  found = record { refusal = 0; settled = 0; listed = 0; taken = taken; measured = measured };
  results = replicate 128 7;
}

unfoldable pub refused_row : ℕ → Row
refused_row why = record { found = refused why; results = replicate 128 7 }
