-- What the calls promise, to be held against the mission's words and the paper's. Assumes nothing: these are
-- statements.
--
-- A call is lent books, lists of bytes, and a work area, a list of words; a build also the area of its tree, and a
-- search a result area of words. The contracts in src/lib.rt say that a check answers `check_answer` of them, that a
-- build answers `build_answer` and `built_length` and leaves `tree_after` in the tree's area, that a search answers
-- `search_found` and leaves `results_after` in the result area, and that each leaves `work_after` in the work area; the
-- statements here are about these, for all lists.
use Rattle.std.specs.Prelude.{◌≡◌, ◌≢◌, ◌↔◌, ℕ, ◌*◌, ◌≤◌, ◌<◌, length, drop}
use mathlib.Core.List.{List, [], ◌∷◌, ◌++◌, Memᴰ as Mem}
use Rattle.book.specs.Open.{version}
use Rattle.book.specs.Tests.{Test, test, FirstFailing}
use Rattle.work_area.specs.Work.{work_words, zeroed, work_after}
use Rattle.road_layout.specs.Road.{junctions}
use Rattle.road_layout.specs.Facts.{RoadLayout}
use Rattle.adjacency.specs.Arcs.{net}
use Rattle.road.specs.Walk.{Least}
use Rattle.road.specs.Dijkstra.{dist}
use Rattle.road.specs.Facts.{Passing, IsJunction}
use Rattle.road.specs.Tests.{road_tests, CutOff}
use Rattle.yard.specs.Yards.{YardLayout, yard_count, yard_at, yards_of}
use Rattle.yard.specs.Tests.{yard_tests_in}
use Rattle.tree_layout.specs.Values.{Element, Mark, Region, Tree}
use Rattle.tree_layout.specs.Decode.{junction_count, decode}
use Rattle.tree_layout.specs.Facts.{TreeLayout}
use Rattle.tree.specs.Facts.{TreeShape}
use Rattle.tree.specs.Theorems.{TreeFacts}
use Rattle.tree.specs.Tests.{tree_tests}
use Rattle.tree_encode.specs.Encode.{encode, in_version2, tree_room}
use Rattle.check_tree.specs.Check.{check_answer}
use Rattle.check_tree.specs.Facts.{HoldsEach, TrueTotals, TrueBytes}
use Rattle.build_tree.specs.Build.{build_answer, built_tree, built_length, tree_after}
use Rattle.build_tree.specs.Building.{BuiltFrom}
use Rattle.build_tree.specs.Facts.{InRange, BuildAreas, written_book}
use Rattle.query.specs.Query.{QueryLayout}
use Rattle.query.specs.Tests.{query_tests}
use Rattle.search_rules.specs.Rule.{Asking}
use Rattle.search_rules.specs.Books.{search_of}
use Rattle.search_rules.specs.Ceiling.{CeilingsTrue, AboveKept}
use Rattle.search_rules.specs.Fairness.{TiesFair}
use Rattle.search_measure.specs.Facts.{WaysTrue}
use Rattle.search_measure.specs.Crews.{MeasuresTrue}
use Rattle.search_call.specs.Call.{Want, most_yards, Call, Found, found_on, call_on, Areas as Lent, refused as refusedWith}
use Rattle.search_call.specs.Demand.{Promised, OfBytes, AnyTree, KeysTrue, WorkUnread, SearchesAgree, VersionsAgree}

-- ---- sound books

-- "a sound road book and yard book"
pub record SoundBooks (road yard : List ℕ) : Type 0 where
  -- the paper's "Road book", sentence by sentence, and a walk from junction 0 to each junction
  pub roads : Passing road
  -- the paper's "Yard book", sentence by sentence
  pub yards : YardLayout yard
  -- each yard is a junction of the road book
  pub inside : (i : ℕ) → i < yard_count yard → yard_at yard i < junctions road

-- "a tree of sound layout and shape and of the road book's junction count"
pub record SoundTreeBook (road tree : List ℕ) : Type 0 where
  -- the paper's "Tree book" and "Tree shape", sentence by sentence
  pub facts : TreeFacts tree
  pub counts : junction_count tree ≡ junctions road

-- "its leaves hold each yard of the yard book once and no other"
abbrev pub YardsHeld : (yard tree : List ℕ) → Type 0
YardsHeld yard tree = HoldsEach (decode tree).regions (yards_of yard)

-- "each stored distance is the least total of any walk through the roads, as the COLT paper defines it, with each least
-- and greatest true of its region's yards"
abbrev pub NumbersTrue : (road tree : List ℕ) → Type 0
NumbersTrue road tree = TrueTotals (net road) (decode tree).regions

-- "every kind byte is the yard book's, and every region's byte has exactly the bits of its yards"
abbrev pub KindsTrue : (yard tree : List ℕ) → Type 0
KindsTrue yard tree = TrueBytes yard (decode tree).regions

-- ---- demand 1, of check
--
-- Nothing handed in can make a call read or write outside what is lent, wrap, or fail to end. That is no statement
-- here: the prover shows it of every function, for every input that meets its `requires`, before it looks at a
-- contract, and the calls have no `requires`. Books are lent as `&[u8]`, which no code can write.
--
-- The rest of the demand: "input outside the layouts gets exactly the refusal listed", and the areas.

-- "Turned back, in this order": a check's tests, each number with the fact that it asks for. Those of a book alone
-- stand in specs/Tests.antt of its crate (road, yard, tree, query), and those of every opening in crates/book.
abbrev pub check_tests : (road yard tree : List ℕ) (words : ℕ) → List Test
check_tests road yard tree words =
    -- "Books are tested in the order road, yard, tree": the road book's 1 to 6
    road_tests road
    -- the yard book's 1 to 5, and 8: "a yard isn't a junction of the road book"
    ++ yard_tests_in yard (junctions road)
    -- the tree book's 1 to 5, and 7
    ++ tree_tests tree
    -- 8: "Junction counts or yards disagree between books"
    ++ test 8 (junction_count tree ≡ junctions road)
    ∷ test 8 (YardsHeld yard tree)
    -- 9: "In a check only: a stored distance, least or greatest isn't the true one."; "a false kind byte in a tree
    -- fails the check by 9"
    ∷ test 9 (NumbersTrue road tree)
    ∷ test 9 (KindsTrue yard tree)
    -- 12: "A lent area is too short: work below 16,384 words"
    ∷ test 12 (work_words ≤ words)
    ∷ []

-- the answer of a check is the number of the first test that fails
pub record FirstRefusal (road yard tree : List ℕ) (words answer : ℕ) : Type 0 where
  -- it is n exactly if n is the number of the first of the tests that fails, and 0 exactly if none does
  pub first : (n : ℕ) → (answer ≡ n) ↔ FirstFailing (check_tests road yard tree words) n
  -- 6 exactly if the road book's layout is sound and some junction has no walk from junction 0
  pub six : (answer ≡ 6) ↔ (RoadLayout road × CutOff road)
  -- 7 exactly if the two books before the tree are sound and so is its layout, but "Tree shape" does not hold
  pub seven : (answer ≡ 7) ↔ (SoundBooks road yard × TreeLayout tree × (TreeShape (decode tree) → ⊥))

-- "The number of an accepted call is 0": what holds whenever the answer is 0
pub record AcceptedCheck (road yard tree : List ℕ) (words : ℕ) : Type 0 where
  pub books : SoundBooks road yard
  pub tree_sound : SoundTreeBook road tree
  pub yards : YardsHeld yard tree
  pub numbers : NumbersTrue road tree
  pub kinds : KindsTrue yard tree
  pub full : work_words ≤ words

-- a check's answer, and its work area before and after
pub record CheckKept (road yard tree work : List ℕ) (answer : ℕ) (after : List ℕ) : Type 0 where
  -- a refused call gets exactly the refusal listed, and a call that gets none is accepted
  pub refused : FirstRefusal road yard tree (length work) answer
  pub accepted : (answer ≡ 0) ↔ AcceptedCheck road yard tree (length work)
  -- "A refusal .. changes no lent byte or word."
  pub kept : answer ≢ 0 → after ≡ work
  -- "zero the first 16,384 words of the work area and leave any after them"
  pub emptied : answer ≡ 0 → after ≡ zeroed work_words work

abbrev pub CheckSafe : Type 0
CheckSafe = (road yard tree work : List ℕ)
    → CheckKept road yard tree work (check_answer road yard tree (length work)) (work_after (check_answer road yard tree
    (length work)) work)

-- ---- demand 2, of check
--
-- "Beside a sound road book and yard book, with full areas, a tree of sound layout and shape and of the road book's
-- junction count passes the check if and only if its leaves hold each yard of the yard book once and no other, and each
-- stored distance is the least total of any walk through the roads, as the COLT paper defines it, with each least and
-- greatest true of its region's yards.", and also every kind byte is the yard book's, and every region's byte has
-- exactly the bits of its yards
abbrev pub CheckTrue : Type 0
CheckTrue = (road yard tree : List ℕ) (words : ℕ) → SoundBooks road yard → work_words ≤ words → SoundTreeBook road tree
    → (check_answer road yard tree words ≡ 0) ↔ (YardsHeld yard tree × NumbersTrue road tree × KindsTrue yard tree)

-- ---- demand 1, of build

-- "Turned back, in this order": a build's tests
abbrev pub build_tests : (road yard : List ℕ) (m limit words room : ℕ) → List Test
build_tests road yard m limit words room =
    -- "Books are tested in the order road, yard": the road book's 1 to 6
    road_tests road
    -- the yard book's 1 to 5, and 8
    ++ yard_tests_in yard (junctions road)
    -- "then the call's m, leaf limit and areas", 11: "m or the leaf limit is outside its range"
    ++ test 11 (1 ≤ m)
    ∷ test 11 (m ≤ 4)
    ∷ test 11 (1 ≤ limit)
    ∷ test 11 (limit ≤ 256)
    -- 12: "work below 16,384 words, .. a built tree's area below 21,981 bytes", or 23,516 in version 2
    ∷ test 12 (work_words ≤ words)
    ∷ test 12 (tree_room (version yard) ≤ room)
    ∷ []

-- the answer of a build is the number of the first test that fails
pub record FirstBuildRefusal (road yard : List ℕ) (m limit words room answer : ℕ) : Type 0 where
  pub first : (n : ℕ) → (answer ≡ n) ↔ FirstFailing (build_tests road yard m limit words room) n
  -- 6 exactly if the road book's layout is sound and some junction has no walk from junction 0
  pub six : (answer ≡ 6) ↔ (RoadLayout road × CutOff road)

-- what holds whenever a build's answer is 0
pub record BuildAccepted (road yard : List ℕ) (m limit words room : ℕ) : Type 0 where
  pub books : SoundBooks road yard
  pub range : InRange m limit
  pub areas : BuildAreas (version yard) words room

-- a build's answer and length, and its work area and its tree's area before and after
pub record BuildKept (road yard : List ℕ) (m limit : ℕ) (work tree : List ℕ) (answer size : ℕ) (workLater treeLater :
    List ℕ) : Type 0 where
  pub refused : FirstBuildRefusal road yard m limit (length work) (length tree) answer
  pub accepted : (answer ≡ 0) ↔ BuildAccepted road yard m limit (length work) (length tree)
  -- "A refusal returns its number, with every other returned field 0, and changes no lent byte or word."
  pub kept : answer ≢ 0 → (size ≡ 0) × (workLater ≡ work) × (treeLater ≡ tree)
  -- "zero the first 16,384 words of the work area and leave any after them"
  pub emptied : answer ≡ 0 → workLater ≡ zeroed work_words work

abbrev pub BuildSafe : Type 0
BuildSafe = (road yard : List ℕ) (m limit : ℕ) (work tree : List ℕ)
    → BuildKept road yard m limit work tree (build_answer road yard m limit (length work) (length tree)) (built_length
    road yard m limit (length work) (length tree))
    (work_after (build_answer road yard m limit (length work) (length tree)) work) (tree_after road yard m limit (length
    work) tree)

-- ---- demand 2, of build
--
-- "Building writes the one tree that the stated cuts give; it passes, and reading it back gives the regions and numbers
-- that were written."
pub record BuildWrites (road yard : List ℕ) (m limit : ℕ) (work tree : List ℕ) : Type 0 where
  -- the book that is written, and "Bytes after a built tree stay."
  pub one : tree_after road yard m limit (length work) tree
      ≡ encode (built_tree road yard m limit) ++ drop (length (encode (built_tree road yard m limit))) tree
  -- "the one tree that the stated cuts give": the tree of the bytes that were written is cut as the paper's "Building"
  -- says, and no other tree is
  pub cuts : BuiltFrom road yard m limit (decode (written_book road yard m limit (length work) tree))
  pub one-tree : (t : Tree) → BuiltFrom road yard m limit t
      → t ≡ decode (written_book road yard m limit (length work) tree)
  -- "Build returns the tree's length.", and no tree is longer than the area that is asked for
  pub size : built_length road yard m limit (length work) (length tree) ≡ length (encode (built_tree road yard m limit))
  pub short : length (encode (built_tree road yard m limit)) ≤ tree_room (version yard)
  -- "it passes": the bytes that were written, so many as are returned, beside the two books, with any full work area
  pub passes : (words : ℕ) → work_words ≤ words
      → check_answer road yard (written_book road yard m limit (length work) tree) words ≡ 0
  -- "reading it back gives the regions and numbers that were written"
  pub back : decode (written_book road yard m limit (length work) tree) ≡ built_tree road yard m limit

abbrev pub BuildTrue : Type 0
BuildTrue = (road yard : List ℕ) (m limit : ℕ) (work tree : List ℕ) → SoundBooks road yard → InRange m limit
    → BuildAreas (version yard) (length work) (length tree)
    → BuildWrites road yard m limit work tree

-- ---- demand 1, of search

-- "work below 16,384 words, results below 2 × k words", or, of a drive search, below "two words for each yard in the
-- tree": both areas are long enough
pub record SearchAreas (tree query : List ℕ) (want : Want) (words room : ℕ) : Type 0 where
  pub work : work_words ≤ words
  pub results : 2 * most_yards tree query want ≤ room

-- "Turned back, in this order": a search's tests. A drive search has its seconds, and a search for k yards none.
abbrev pub search_tests : (road tree query : List ℕ) (want : Want) (words room : ℕ) → List Test
search_tests road tree query want words room =
    -- "Books are tested in the order road, .., tree, query": the road book's 1 to 6
    road_tests road
    -- the tree book's 1 to 5, and 7
    ++ tree_tests tree
    -- 8: "Junction counts .. disagree between books"
    ++ test 8 (junction_count tree ≡ junctions road)
    -- the query book's 1 to 4, 10 and 11
    ∷ query_tests query (junctions road)
    -- 13: "the wanted byte is 0, tested directly after 11"
    ++ test 13 (1 ≤ want.kinds)
    -- 12: "work below 16,384 words, results below 2 × k words", or below "two words for each yard in the tree"
    ∷ test 12 (work_words ≤ words)
    ∷ test 12 (2 * most_yards tree query want ≤ room)
    ∷ []

-- the refusal of a search is the number of the first test that fails
pub record FirstSearchRefusal (road tree query : List ℕ) (want : Want) (words room answer : ℕ) : Type 0 where
  pub first : (n : ℕ) → (answer ≡ n) ↔ FirstFailing (search_tests road tree query want words room) n
  -- 6 exactly if the road book's layout is sound and some junction has no walk from junction 0
  pub six : (answer ≡ 6) ↔ (RoadLayout road × CutOff road)
  -- 7 exactly if the road book is sound and so is the tree's layout, but "Tree shape" does not hold
  pub seven : (answer ≡ 7) ↔ (Passing road × TreeLayout tree × (TreeShape (decode tree) → ⊥))

-- what holds whenever a search's refusal is 0
pub record SearchAccepted (road tree query : List ℕ) (want : Want) (words room : ℕ) : Type 0 where
  pub roads : Passing road
  pub tree_sound : SoundTreeBook road tree
  pub asked : QueryLayout query (junctions road)
  pub kinds : 1 ≤ want.kinds
  pub areas : SearchAreas tree query want words room

-- a search's answer, and both areas before and after
pub record SearchKept (c : Call) (a : Lent) (found : Found) (after : Lent) : Type 0 where
  pub refused : FirstSearchRefusal c.road c.tree c.query c.want (length a.work)
      (length a.results) found.refusal
  pub accepted : (found.refusal ≡ 0) ↔ SearchAccepted c.road c.tree c.query c.want (length a.work)
      (length a.results)
  -- "A refusal returns its number, with every other returned field 0, and changes no lent byte or word."
  pub kept : found.refusal ≢ 0 → (found ≡ refusedWith found.refusal) × (after ≡ a)
  -- "zero the first 16,384 words of the work area and leave any after them"
  pub emptied : found.refusal ≡ 0 → after.work ≡ zeroed work_words a.work

abbrev pub SearchSafe : Type 0
SearchSafe = (c : Call) (a : Lent) → SearchKept c a (found_on c a) (call_on c a)

-- ---- demand 3
--
-- Any list of searches of both kinds, mixed, on one work area and one result area, which hold anything at first: each
-- is given both areas as the one before left them, and brings its own books. `Promised`
-- (crates/search_call/specs/Demand.antt) has the demand's sentences: a settled search on a tree that passes lists
-- exactly the first k wanted yards, or exactly those within its drive, in yard order; none of these measured a yard
-- whose bound exceeds the last listed distance of a full list, or the seconds; measured are exactly the wanted yards
-- whose key is not above it, each once, or all of them if the list is short of k; enough steps always settle; at the
-- end the result area is what it held at first with all the settled lists written over its start in turn. A tree book
-- is asked to be of bytes, which a lent book is.
abbrev pub SearchesTrue : Type 0
SearchesTrue = (calls : List Call) → OfBytes calls → (first : Lent) → Promised calls first

-- Beside it: what holds of every search, on a tree that "check would refuse by 9" too; that the work area's contents
-- never matter; that the two kinds of search agree; and that trees which differ in their version alone are searched
-- alike, one of version 1 by the steps without kinds.
abbrev pub SearchesDecided : Type 0
SearchesDecided = AnyTree × WorkUnread × SearchesAgree × VersionsAgree

-- ---- distance
--
-- "Distance d(u, v) is the least total of seconds over all walks from u to v": `dist` is that total, from any junction
-- of a road book that passes to any other. A search's distance, by which every bound and every key goes, is `dist`,
-- whatever the tree, what is asked for and the crews are.
abbrev pub DistancesLeast : Type 0
DistancesLeast = (road : List ℕ) → Passing road → (u v : ℕ) → IsJunction road u → IsJunction road v
    → Least (net road) u v (dist road u v)
    × ((tree : List ℕ) (a : Asking) (crews : List ℕ) → (search_of road tree a crews).d u v ≡ dist road u v)

-- ---- the yards worth measuring
--
-- "For a settled search for k yards on a tree that passes, promise that the measured yards are exactly the wanted yards
-- whose key is not above the last listed distance, or all wanted yards when the list is short of k.": `measured-full`
-- and `measured-short` of demand 3, and `measured-inside` of a drive search. A yard's key (`yard_key`, of
-- crates/search_rules/specs/Keys.antt) is a value of the tree, the roads and the query alone, in which no run is named;
-- a run queues each yard with it, on any tree; and on a tree that passes it is the yard's bound.
abbrev pub YardsKeyed : Type 0
YardsKeyed = KeysTrue

-- ---- yard order
--
-- "Of two yards with the same sum, the one whose furthest crew is nearer now comes first, and only then the lower
-- junction number. Yard order, and demand 3's order with it, reads so everywhere": `YardBefore`
-- (crates/search_rules/specs/Order.antt), by which demand 3's lists go, with both numbers by the walks' own least
-- totals (`TrueEntry`, of crates/search_rules/specs/Walks.antt). It is total: of two different yards exactly one comes
-- first. Beside the order that was before (`NumberBefore`): under the maximum the lists are the same, and under the sum
-- they have the same aggregates, place by place, by the same steps (crates/search_rules/specs/Fairness.antt).
abbrev pub YardsOrdered : Type 0
YardsOrdered = TiesFair

-- ---- measuring
--
-- "measuring finds distances by walks of its own, also takes a ceiling and answers either the true aggregate or
-- "above", which it gives exactly when the aggregate exceeds the ceiling. .. Each of its walks keeps in its state the
-- junctions it has walked on from, and none of them is further than the ceiling along that walk.": `Measures`
-- (crates/search_measure/specs/Crews.antt) has these sentences, by the walks' own least totals: a walk for each crew,
-- back from the yard along a least way (`WaysTrue`, of Facts.antt, has what one of them promises); with the aggregate
-- stands the distance of the furthest crew, since a yard whose aggregate equals the ceiling still competes. "Search uses
-- the k-th held distance, or no ceiling until k are held; the drive search its seconds.": that is what `ceiling_by` is
-- (`CeilingsTrue`), and a yard that is above it changes nothing in what is held: so "Lists and counts come out as they
-- did", by the same steps.
abbrev pub YardsMeasured : Type 0
YardsMeasured = WaysTrue × MeasuresTrue × CeilingsTrue × AboveKept

-- ---- version 1
--
-- "Version 1 books are read with kind 255 throughout", and for them all is as it was before there were kinds.

-- every kind byte of a tree is 255
pub record AnyKind (t : Tree) : Type 0 where
  pub regions : (r : Region) → Mem r t.regions → r.kinds ≡ 255
  pub lists : (r : Region) → Mem r t.regions → (m : Mark) → Mem m r.marks → (e : Element) → Mem e m.list
      → e.kinds ≡ 255

-- a tree book's tree as a version 2 book
abbrev pub version2 : (tree : List ℕ) → List ℕ
version2 tree = encode (in_version2 (decode tree))

-- the same call on it
abbrev pub on_version2 : Call → Call
on_version2 c = record { road = c.road; tree = version2 c.tree; query = c.query; want = c.want }

pub record VersionOne : Type 0 where
  -- no kind byte of a version 1 tree that holds the yards of a version 1 yard book is false: its check is what it was
  pub checked : (road yard tree : List ℕ) → SoundBooks road yard → SoundTreeBook road tree → version yard ≡ 1
      → version tree ≡ 1 → YardsHeld yard tree → KindsTrue yard tree
  -- a tree, written as a version 2 book, is accepted and read back; one of version 1 then has 255 throughout
  pub accepted : (tree : List ℕ) → TreeFacts tree → TreeFacts (version2 tree)
  pub back : (tree : List ℕ) → TreeFacts tree → decode (version2 tree) ≡ in_version2 (decode tree)
  pub any : (tree : List ℕ) → TreeFacts tree → version tree ≡ 1 → AnyKind (decode (version2 tree))
  -- and its search is the search of that version 2 tree
  pub searched : (c : Call) (a : Lent) → TreeFacts c.tree
      → (found_on c a ≡ found_on (on_version2 c) a) × (call_on c a ≡ call_on (on_version2 c) a)
