-- A search call: its answer and each lent area after it; and a list of calls on the same two areas. Assumes nothing:
-- these are definitions.
use Rattle.std.specs.Prelude.{List, [], ◌∷◌, ℕ, ◌*◌, length, eqb, leb}
use Rattle.std.proofs.Math.Option.{Option, none, some}
use Rattle.book.specs.Choose.{choose, refuse, first_of}
use Rattle.book.specs.Writing.{write}
use Rattle.work_area.specs.Work.{work_refusal, work_after}
use Rattle.road_layout.specs.Road.{junctions}
use Rattle.road.specs.Refusal.{road_refusal}
use Rattle.tree_layout.specs.Decode.{junction_count, tree_yard_count}
use Rattle.tree.specs.Shape.{tree_refusal}
use Rattle.query.specs.Query.{aggregate_of, k_of, limit_of, crews_of, query_refusal}
use Rattle.search_rules.specs.Rule.{Rule, nearest, in_drive, Asking}
use Rattle.search_rules.specs.Instance.{Instance}
use Rattle.search_rules.specs.Books.{search_of}
use Rattle.search_rules.specs.Run.{Answer, words, answer}

-- ---- what a call asks for

-- what a call wants beside its books: "a byte of wanted kinds", and of a drive search its seconds
pub record Want : Type 0 where
  pub kinds : ℕ
  pub drive : Option ℕ

-- what a search for k yards wants, and one within a drive
abbrev pub want_nearest : (kinds : ℕ) → Want
want_nearest kinds = record { kinds = kinds; drive = none }

abbrev pub want_within : (kinds seconds : ℕ) → Want
want_within kinds seconds = record { kinds = kinds; drive = some seconds }

-- what a call wants for which any kind will do: "The list program wants 255."
abbrev pub want_any : (drive : Option ℕ) → Want
want_any drive = record { kinds = 255; drive = drive }

-- A search for k yards brings no drive, and a drive search its seconds. The first k yards, or all within the drive:
-- "The query's k is tested but otherwise unused."
abbrev pub rule_by : (k : ℕ) → (drive : Option ℕ) → Rule
rule_by k none = nearest k
rule_by k (some seconds) = in_drive seconds

-- what a query and a call ask for
abbrev pub asking_by : (query : List ℕ) → (want : Want) → Asking
asking_by query want =
    record { code = aggregate_of query; rule = rule_by (k_of query) want.drive; wanted = want.kinds }

-- how many yards the result area must hold: k, or "each yard in the tree"
abbrev pub most_by : (k yards : ℕ) → (drive : Option ℕ) → ℕ
most_by k yards none = k
most_by k yards (some seconds) = yards

abbrev pub most_yards : (tree query : List ℕ) → (want : Want) → ℕ
most_yards tree query want = most_by (k_of query) (tree_yard_count tree) want.drive

-- ---- one call

-- a tree book's tests in a search, beside a road book with so many junctions: "a test between books going with the
-- later one"
unfoldable pub tree_refusal_in : List ℕ → ℕ → ℕ
tree_refusal_in tree junctions =
    -- 1 to 5, and 7
    first_of (tree_refusal tree)
    -- 8: "Junction counts .. disagree between books"
    (refuse (eqb (junction_count tree) junctions) 8 0)

-- 12: "A lent area is too short: work below 16,384 words, results below 2 × k words", or below "two words for each yard
-- in the tree": so many yards
unfoldable pub areas_refusal : (yards work results : ℕ) → ℕ
areas_refusal yards work results = first_of (work_refusal work) (refuse (leb (2 * yards) results) 12 0)

-- "Books are tested in the order road, yard, tree, query, each through its own tests, ..; then the call's .. areas.":
-- the number of the first test that fails, or 0, with so many work words and result words
unfoldable pub search_refusal : (road tree query : List ℕ) → (want : Want) → (work results : ℕ) → ℕ
search_refusal road tree query want work results =
    -- 1 to 6
    first_of (road_refusal road)
    -- 1 to 5, 7 and 8
    (first_of (tree_refusal_in tree (junctions road))
    -- 1 to 4, 10 and 11
    (first_of (query_refusal query (junctions road))
    -- 13: "the wanted byte is 0, tested directly after 11"
    (refuse (leb 1 want.kinds) 13
    -- 12
    (areas_refusal (most_yards tree query want) work results))))

-- the search that the books ask for
abbrev pub search_in : (road tree query : List ℕ) → (want : Want) → Instance
search_in road tree query want =
    search_of road tree (asking_by query want) (crews_of query)

-- its answer under the query's step limit, by the step rules
abbrev pub search_answer : (road tree query : List ℕ) → (want : Want) → Answer
search_answer road tree query want = answer (search_in road tree query want) (limit_of query)

-- What a search returns. Settled is 1 or 0; spent is refusal 0 and settled 0.
pub record Found : Type 0 where
  pub refusal : ℕ
  pub settled : ℕ
  pub listed : ℕ
  pub taken : ℕ
  pub measured : ℕ

-- "A refusal returns its number, with every other returned field 0"
unfoldable pub refused : ℕ → Found
refused why = record { refusal = why; settled = 0; listed = 0; taken = 0; measured = 0 }

-- "Both return taken and measured, and settled also the number of yards listed." "The number of an accepted call is 0."
unfoldable pub accepted : Answer → Found
accepted a = record {
  refusal = 0;
  settled = choose a.settled 1 0;
  listed = length a.listed;
  taken = a.taken;
  measured = a.measured;
}

unfoldable pub search_found : (road tree query : List ℕ) → (want : Want) → (work results : ℕ) → Found
search_found road tree query want work results =
    let why = search_refusal road tree query want work results in
    let found = accepted (search_answer road tree query want) in
    choose (eqb why 0) found (refused why)

-- "(yard, distance) words .. and nothing after them": a list of words written over the start of the result area
abbrev pub over_start : List ℕ → List ℕ → List ℕ
over_start list results = write results 0 list

-- The result area after a call with so many work words: "Settled writes (yard, distance) words into the result area and
-- nothing after them; spent writes nothing there." "A refusal .. changes no lent byte or word."
unfoldable pub results_after : (road tree query : List ℕ) → (want : Want) → (work : ℕ) → List ℕ → List ℕ
results_after road tree query want work results =
    let a = search_answer road tree query want in
    let written = choose a.settled (over_start (words a.listed) results) results in
    choose (eqb (search_refusal road tree query want work (length results)) 0) written results

-- ---- a list of calls

-- a search's own books, and what it wants
pub record Call : Type 0 where
  pub road : List ℕ
  pub tree : List ℕ
  pub query : List ℕ
  pub want : Want

-- the two lent areas, of words
pub record Areas : Type 0 where
  pub work : List ℕ
  pub results : List ℕ

-- what a call returns on two areas
unfoldable pub found_on : Call → Areas → Found
found_on c a = search_found c.road c.tree c.query c.want (length a.work) (length a.results)

-- both areas after it
unfoldable pub call_on : Call → Areas → Areas
call_on c a = record {
  work = work_after (search_refusal c.road c.tree c.query c.want (length a.work) (length a.results))
      a.work;
  results = results_after c.road c.tree c.query c.want (length a.work) a.results;
}

-- a search of a list: its call, and both areas as the one before left them
pub record Search : Type 0 where
  pub call : Call
  pub areas : Areas

-- the searches of a list of calls, from two areas on
unfoldable pub searches : List Call → Areas → List Search
searches [] a = []
searches (c ∷ cs) a = record { call = c; areas = a } ∷ searches cs (call_on c a)

-- both areas at the end
unfoldable pub areas_after : List Call → Areas → Areas
areas_after [] a = a
areas_after (c ∷ cs) a = areas_after cs (call_on c a)
