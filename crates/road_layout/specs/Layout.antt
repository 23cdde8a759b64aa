-- The road book's tests 1 to 5. Assumes nothing: these are definitions.
use Rattle.std.specs.Prelude.{ℕ, zero, suc, ◌+◌, ◌*◌, Bool, true, ◌&&◌, ◌||◌, List, [], ◌∷◌, length, ltb, leb, eqb, Result, Ok, Err}
use Rattle.book.specs.Choose.{refuse, first_of}
use Rattle.book.specs.Open.{open_refusal}
use Rattle.book.specs.Cases.{Case, accepted, refused}
use Rattle.book.specs.Refusals.{refusal_number}
use Rattle.book.specs.declared.refusal.Refusal.{Refusal}
use Rattle.road_layout.specs.Road.{Road, junctions, road_count, road_at}
use Rattle.road_layout.specs.declared.Counts.{Counts}

-- "pairs rise strictly": the pair (low, high) comes after the pair (l, h)
unfoldable pub after : ℕ → ℕ → ℕ → ℕ → Bool
after l h low high = ltb l low || (eqb l low && ltb h high)

-- "Ends are below the junction count, low below high", "seconds u16 (1 to 65,535)", and after the pair (l, h)
unfoldable pub road_ok : ℕ → ℕ → ℕ → Road → Bool
road_ok n l h r =
    ltb r.low r.high
    && (ltb r.high n && (leb 1 r.seconds && (leb r.seconds 65535 && after l h r.low r.high)))

-- so are as many roads as are left from number k on, each after the one before it
unfoldable pub roads_ok : List ℕ → ℕ → ℕ → ℕ → ℕ → ℕ → Bool
roads_ok b n zero k l h = true
roads_ok b n (suc left) k l h = road_ok n l h (road_at b k)
    && roads_ok b n left (k + 1) (road_at b k).low (road_at b k).high

-- the first of tests 1 to 5 that fails, or 0, each over the whole book before the next
unfoldable pub road_layout_refusal : List ℕ → ℕ
road_layout_refusal b =
    first_of (open_refusal b 1 4)
    -- 3: "a junction, road .. count is outside its limits": junctions 1 to 1,024, roads 0 to 4,096
    (refuse (leb 1 (junctions b)) 3
    (refuse (leb (junctions b) 1024) 3
    (refuse (leb (road_count b) 4096) 3
    -- 4: "A record is incomplete, or bytes follow the last one."
    (refuse (eqb (length b) (9 + 6 * road_count b)) 4
    -- 5: "A record's value is outside its range or order." The pair (0, 0) comes before every road's.
    (refuse (roads_ok b (junctions b) (road_count b) 0 0 0) 5 0)))))

-- what reading a road book finds: its counts, or the number of the test that turns it back
pub data RoadBook : Type 0 where
  Sound : (junctions roads : ℕ) → RoadBook
  Refused : ℕ → RoadBook

-- what a reader answers for a refusal's number: 0 is a sound book, with its counts
unfoldable pub told : ℕ → ℕ → ℕ → RoadBook
told zero j r = Sound j r
told (suc n) j r = Refused (suc n)

-- each case's number and values: a sound book's junctions and roads; "A refusal returns its number, with every other
-- returned field 0"
unfoldable pub road_case : RoadBook → Case
road_case (Sound j r) = accepted (j ∷ r ∷ [])
road_case (Refused why) = refused why 2

-- what the code answers, in the paper's numbers
abbrev pub road_answer : Result Counts Refusal → RoadBook
road_answer (Ok counts) = Sound counts.junctions counts.roads
road_answer (Err why) = Refused (refusal_number why)
