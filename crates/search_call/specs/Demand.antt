-- Demand 3: what is promised of any list of searches on one work area and one result area, to be held against the
-- paper; and what is promised beside it. Assumes nothing: these are statements.
use Rattle.std.specs.Prelude.{◌≡◌, not, ℕ, ◌+◌, ◌*◌, ◌≤◌, ◌<◌, length, take, drop, T, eqb, leb}
use mathlib.Core.List.{List, [], ◌∷◌, ◌++◌, map, Memᴰ as Mem}
use Rattle.std.proofs.Math.Option.{none, some}
use Rattle.book.specs.Choose.{choose}
use Rattle.book.specs.Bytes.{Bytes}
use Rattle.book.specs.Open.{version}
use Rattle.book.specs.Lists.{Distinct, keep_if}
use Rattle.work_area.specs.Work.{work_words, zeroed}
use Rattle.adjacency.specs.Arcs.{Arc, net}
use Rattle.yard.specs.Yards.{yards_of}
use Rattle.kinds.specs.Kinds.{shares}
use Rattle.tree_layout.specs.Values.{Element, Tree, region_at}
use Rattle.tree_layout.specs.Decode.{decode}
use Rattle.tree.specs.Shape.{tree_refusal}
use Rattle.tree.specs.Yards.{tree_yards, kinds_of, inners}
use Rattle.check_rules.specs.Facts.{Same}
use Rattle.check_tree.specs.Check.{check_answer}
use Rattle.query.specs.Query.{aggregate_of, k_of, limit_of, crews_of}
use Rattle.search_rules.specs.Instance.{Instance, without_kinds, size, leaf}
use Rattle.search_rules.specs.Bounds.{chosen, yard_bound}
use Rattle.search_rules.specs.Keys.{yard_key}
use Rattle.search_rules.specs.Order.{Entry}
use Rattle.search_rules.specs.Queue.{unqueued, word_at}
use Rattle.search_rules.specs.Held.{greatest_held}
use Rattle.search_rules.specs.Run.{words, run, answer}
use Rattle.search_rules.specs.Theorems.{Sorted, KeysOf}
use Rattle.search_rules.specs.Walks.{TrueEntry, FirstYards, DriveYards}
use Rattle.search_call.specs.Call.{Found, refused, Want, Call, Areas, Search, search_in, search_answer, over_start}
use Rattle.search_call.specs.Call.{found_on, call_on, searches, areas_after}

-- ---- the words of the demand

-- "A tree passes beside a road book if check gives 0 for the two with some yard book and a full work area"
pub record Passes (road tree : List ℕ) : Type 0 where
  pub yard : List ℕ
  pub work : ℕ
  pub full : work_words ≤ work
  pub zero : check_answer road yard tree work ≡ 0

-- a search "on a tree that passes"
abbrev pub OnPassing : Search → Type 0
OnPassing s = Passes s.call.road s.call.tree

-- what it returned, and both areas after it
abbrev pub found : Search → Found
found s = found_on s.call s.areas

abbrev pub after : Search → Areas
after s = call_on s.call s.areas

abbrev pub NotRefused : Search → Type 0
NotRefused s = (found s).refusal ≡ 0

abbrev pub Settled : Search → Type 0
Settled s = (found s).settled ≡ 1

-- its query: the aggregate's code, "k", the crews and the step limit
abbrev pub code : Search → ℕ
code s = aggregate_of s.call.query

abbrev pub k : Search → ℕ
k s = k_of s.call.query

abbrev pub crews : Search → List ℕ
crews s = crews_of s.call.query

-- what it is for: the first k yards, or, of a drive search, those within so many seconds
abbrev pub ForYards : Search → Type 0
ForYards s = s.call.want.drive ≡ none

abbrev pub ForDrive : Search → ℕ → Type 0
ForDrive s seconds = s.call.want.drive ≡ some seconds

abbrev pub limit : Search → ℕ
limit s = limit_of s.call.query

-- its roads, both ways; "the tree's yards", and those that are wanted: "a yard is wanted if its byte in its leaf's
-- first list shares a bit"; "an inner region has children": how many there are
abbrev pub arcs : Search → List Arc
arcs s = net s.call.road

abbrev pub yards : Search → List ℕ
yards s = tree_yards (decode s.call.tree)

abbrev pub wanted_yards : Search → List ℕ
wanted_yards s = keep_if (λ y. shares s.call.want.kinds (kinds_of (decode s.call.tree) y)) (yards s)

abbrev pub inner_regions : Search → ℕ
inner_regions s = inners (decode s.call.tree)

-- the search that its books ask for
abbrev pub instance_of : Search → Instance
instance_of s = search_in s.call.road s.call.tree s.call.query s.call.want

-- the yards that it lists, with their distances, by the step rules; the result area gets their words
abbrev pub list : Search → List Entry
list s = (search_answer s.call.road s.call.tree s.call.query s.call.want).listed

-- "a settled list is full if it has k yards"
abbrev pub Full : Search → Type 0
Full s = length (list s) ≡ k s

-- "the last listed distance"
abbrev pub last_distance : Search → ℕ
last_distance s = greatest_held (list s)

-- the yards that its state has as measured when it ends
abbrev pub measured : Search → List ℕ
measured s = (run (instance_of s) (limit s)).state.measured

-- "A yard's bound takes per crew the greatest of these differences over the landmark table's landmarks and l (for l
-- with the list's distance), then aggregates.": b is yard y's, which stands in the list of the landmark that its leaf
-- picks
pub record BoundIn (i : Instance) (y b : ℕ) : Type 0 where
  pub home : ℕ
  pub number : home < size i
  pub is_leaf : T (leaf i home)
  pub element : Element
  pub in_list : Mem element (chosen i home).list
  pub names : element.yard ≡ y
  pub value : b ≡ yard_bound i (chosen i home) element

abbrev pub BoundOf : Search → ℕ → ℕ → Type 0
BoundOf s y b = BoundIn (instance_of s) y b

-- its key, the greater of its bound and its leaf's first key, which is the greatest bound on the way from the root: a
-- value of the tree, the roads and the query alone
abbrev pub key_of : Search → ℕ → ℕ
key_of s y = yard_key (instance_of s) y

-- "the wanted yards whose key is not above" so many seconds
abbrev pub worth_measuring : Search → ℕ → List ℕ
worth_measuring s seconds = keep_if (λ y. leb (key_of s y) seconds) (wanted_yards s)

-- the measured yards are exactly those of a list, each once, and so many are returned
pub record MeasuredAre (s : Search) (ys : List ℕ) : Type 0 where
  pub same : Same (measured s) ys
  pub once : Distinct (measured s)
  pub count : (found s).measured ≡ length ys

-- the lists of the settled searches
unfoldable pub settled_lists : List Search → List (List Entry)
settled_lists [] = []
settled_lists (s ∷ ss) = choose (eqb (found s).settled 1) (list s ∷ settled_lists ss) (settled_lists ss)

-- "with all the settled lists written over its start in turn"
unfoldable pub overwritten : List (List Entry) → List ℕ → List ℕ
overwritten [] results = results
overwritten (l ∷ ls) results = overwritten ls (over_start (words l) results)

-- ---- demand 3

-- of any list of calls, and what the two areas hold before the first
pub record Promised (calls : List Call) (first : Areas) : Type 0 where
  -- "each settled search on a tree that passes has listed exactly the first k of the tree's" wanted "yards, or all if
  -- fewer, by aggregate least distance", then the distance of the furthest crew, "and then junction number, each with
  -- that distance; so no yard left out comes before one listed"
  pub exact : (s : Search) → Mem s (searches calls first) → OnPassing s → Settled s → ForYards s
      → FirstYards (arcs s) (code s) (k s) (crews s) (wanted_yards s) (list s)
  -- "a settled list holds exactly the tree's" wanted "yards within the drive", in yard order, each with its distance
  pub exact-drive : (s : Search) → Mem s (searches calls first) → OnPassing s → Settled s
      → (seconds : ℕ) → ForDrive s seconds → DriveYards (arcs s) (code s) seconds (crews s) (wanted_yards s) (list s)
  -- "none of these measured a yard whose bound exceeds the last listed distance of a full list"
  pub measured-within : (s : Search) → Mem s (searches calls first) → OnPassing s → Settled s → ForYards s
      → Full s → (y b : ℕ) → Mem y (measured s) → BoundOf s y b → b ≤ last_distance s
  -- "no yard whose bound exceeds the seconds is measured", whether the search has settled or is spent
  pub measured-drive : (s : Search) → Mem s (searches calls first) → OnPassing s → NotRefused s
      → (seconds : ℕ) → ForDrive s seconds → (y b : ℕ) → Mem y (measured s) → BoundOf s y b → b ≤ seconds
  -- "the measured yards are exactly the wanted yards whose key is not above the last listed distance, or all wanted
  -- yards when the list is short of k"
  pub measured-full : (s : Search) → Mem s (searches calls first) → OnPassing s → Settled s → ForYards s
      → Full s → MeasuredAre s (worth_measuring s (last_distance s))
  pub measured-short : (s : Search) → Mem s (searches calls first) → OnPassing s → Settled s → ForYards s
      → length (list s) < k s → MeasuredAre s (wanted_yards s)
  -- of a drive search exactly those whose key is not above the seconds
  pub measured-inside : (s : Search) → Mem s (searches calls first) → OnPassing s → Settled s
      → (seconds : ℕ) → ForDrive s seconds → MeasuredAre s (worth_measuring s seconds)
  -- "every search on such a tree, not refused, with a limit of inner regions plus twice the" wanted "yards or more has
  -- settled"
  pub ends : (s : Search) → Mem s (searches calls first) → OnPassing s → NotRefused s
      → inner_regions s + 2 * length (wanted_yards s) ≤ limit s → Settled s
  -- "at the end the result area is what it held at first with all the settled lists written over its start in turn"
  pub results : (areas_after calls first).results ≡ overwritten (settled_lists (searches calls first)) first.results

-- a book is a list of bytes (of the tree book this is asked, so that its numbers are of 32 bits)
abbrev pub OfBytes : List Call → Type 0
OfBytes calls = (c : Call) → Mem c calls → Bytes c.tree

abbrev pub Demand3 : Type 0
Demand3 = (calls : List Call) → OfBytes calls → (first : Areas) → Promised calls first

-- ---- beside it

-- what a settled list has on any tree: "true distances, distinct yards and yard order"; its yards are wanted ones
-- of the tree, and no more than k, or within the seconds
pub record TrueList (s : Search) : Type 0 where
  pub entries : (e : Entry) → Mem e (list s) → TrueEntry (arcs s) (code s) (crews s) e
  pub distinct : Distinct (map (λ (e : Entry). e.yard) (list s))
  pub sorted : Sorted (list s)
  pub in_tree : (e : Entry) → Mem e (list s) → Mem e.yard (wanted_yards s)
  pub few : ForYards s → length (list s) ≤ k s
  pub inside : (seconds : ℕ) → ForDrive s seconds → (e : Entry) → Mem e (list s) → e.distance ≤ seconds

-- a search, whether its tree passes or is one "that check would refuse by 9"
pub record DecidedSearch (s : Search) : Type 0 where
  -- a settled list is true, and the returned number is that of its yards
  pub listed : Settled s → TrueList s
  pub count : Settled s → (found s).listed ≡ length (list s)
  -- "Settled writes (yard, distance) words into the result area and nothing after them", where there is room for them;
  -- what hasn't settled writes nothing there
  pub room : Settled s → length (words (list s)) ≤ length s.areas.results
  pub writes : Settled s → (after s).results ≡ words (list s) ++ drop (length (words (list s))) s.areas.results
  pub leaves : (Settled s → ⊥) → (after s).results ≡ s.areas.results
  -- "spent exactly if the limit's number of steps was taken and it isn't settled"
  pub spent : NotRefused s → (Settled s → ⊥)
      → ((found s).settled ≡ 0) × ((found s).listed ≡ 0) × ((found s).taken ≡ limit s)
  pub within : NotRefused s → (found s).taken ≤ limit s
  -- the returned number of measured yards is that of its state's; each is a wanted yard of the tree and is
  -- measured once
  pub counted : NotRefused s → (found s).measured ≡ length (measured s)
  pub once : NotRefused s → Distinct (measured s)
  pub in_tree : NotRefused s → (y : ℕ) → Mem y (measured s) → Mem y (wanted_yards s)
  -- inner regions plus twice the yards of the tree, wanted or not, settle a search of any tree
  pub ends : NotRefused s → inner_regions s + 2 * length (yards s) ≤ limit s → Settled s
  -- "Regions and yards without a wanted bit never enter the queue": after any number of steps a queued region's byte
  -- shares a bit with the wanted byte, and a queued yard is a wanted one
  pub queued-regions : NotRefused s → (steps r : ℕ)
      → word_at (run (instance_of s) steps).state.region_keys r < unqueued
      → T (shares s.call.want.kinds (region_at (decode s.call.tree).regions r).kinds)
  pub queued-yards : NotRefused s → (steps y : ℕ) → word_at (run (instance_of s) steps).state.yard_keys y < unqueued
      → Mem y (wanted_yards s)
  -- "so such a root settles empty with 0 taken."
  pub unwanted_root : NotRefused s
      → T (not (shares s.call.want.kinds (region_at (decode s.call.tree).regions 0).kinds))
      → found s ≡ record { refusal = 0; settled = 1; listed = 0; taken = 0; measured = 0 }
  -- a yard of the tree has exactly one bound
  pub bounded : NotRefused s → (y : ℕ) → Mem y (yards s) → (b : ℕ) × BoundOf s y b
  pub one-bound : NotRefused s → (y b c : ℕ) → BoundOf s y b → BoundOf s y c → b ≡ c
  -- "Check, build and search zero the first 16,384 words of the work area and leave any after them."
  pub zeroes : NotRefused s → (work_words ≤ length s.areas.work)
      × ((after s).work ≡ zeroed work_words s.areas.work)
  -- "A refusal returns its number, with every other returned field 0, and changes no lent byte or word."
  pub unchanged : (NotRefused s → ⊥) → (found s ≡ refused (found s).refusal) × (after s ≡ s.areas)

abbrev pub AnyTree : Type 0
AnyTree = (calls : List Call) → OfBytes calls → (first : Areas) → (s : Search) → Mem s (searches calls first)
    → DecidedSearch s

-- what holds of keys beside demand 3
pub record KeysTrue : Type 0 where
  -- they are values of the tree, the roads and the query alone: neither the wanted byte nor the seconds matter
  pub alone : (road tree query : List ℕ) (v w : Want) (y : ℕ)
      → yard_key (search_in road tree query v) y ≡ yard_key (search_in road tree query w) y
  -- on any tree that the search's own tests accept: what a run queues a yard with is its key, and a leaf's first key is
  -- the greatest bound on the way from the root
  pub queued : (s : Search) → Bytes s.call.tree → NotRefused s → KeysOf (instance_of s)
  -- on a tree that passes, no bound on the way to a wanted yard is above its own: its key is its bound
  pub bounds : (s : Search) → Bytes s.call.tree → OnPassing s → NotRefused s → (y b : ℕ) → Mem y (wanted_yards s)
      → BoundOf s y b → key_of s y ≡ b

-- the work area's contents never matter: only its length does
abbrev pub WorkUnread : Type 0
WorkUnread = (calls : List Call) (a b : Areas) → length a.work ≡ length b.work → a.results ≡ b.results
    → (map found (searches calls a) ≡ map found (searches calls b))
    × ((areas_after calls a).results ≡ (areas_after calls b).results)

-- whatever yard book a tree passes with has the tree's own yards
abbrev pub OwnYards : Type 0
OwnYards = (road tree : List ℕ) → (p : Passes road tree) → Same (tree_yards (decode tree)) (yards_of p.yard)

-- "The two searches agree": of the same roads, tree, aggregate and crews, a drive search whose seconds are the last
-- listed distance of a full list of k yards lists that list first
abbrev pub SearchesAgree : Type 0
SearchesAgree = (s d : Search) → Bytes s.call.tree → s.call.road ≡ d.call.road → s.call.tree ≡ d.call.tree
    → s.call.want.kinds ≡ d.call.want.kinds → code s ≡ code d → crews s ≡ crews d → OnPassing s → Settled s
    → Settled d → ForYards s → Full s → ForDrive d (last_distance s)
    → take (k s) (list d) ≡ list s

-- two trees that differ at most in their version
pub record Alike (s t : Tree) : Type 0 where
  pub junctions : s.junctions ≡ t.junctions
  pub yards : s.yards ≡ t.yards
  pub landmarks : s.landmarks ≡ t.landmarks
  pub regions : s.regions ≡ t.regions

-- "Version 1 books are read with kind 255 throughout"
pub record VersionsAgree : Type 0 where
  -- a search of a version 1 tree is the search of a version 2 tree with 255 throughout
  pub same : (c d : Call) (a : Areas) → c.road ≡ d.road → c.query ≡ d.query → c.want ≡ d.want
      → tree_refusal c.tree ≡ 0 → tree_refusal d.tree ≡ 0 → Alike (decode c.tree) (decode d.tree)
      → (found_on c a ≡ found_on d a) × (call_on c a ≡ call_on d a)
  -- it takes the steps that it took before there were kinds, whatever byte it wants, and answers what it answered
  pub steps : (s : Search) → NotRefused s → s.call.want.kinds < 256 → version s.call.tree ≡ 1
      → (n : ℕ) → run (instance_of s) n ≡ run (without_kinds (instance_of s)) n
  pub answers : (s : Search) → NotRefused s → s.call.want.kinds < 256 → version s.call.tree ≡ 1
      → answer (instance_of s) (limit s) ≡ answer (without_kinds (instance_of s)) (limit s)
  -- and every yard is wanted
  pub every : (s : Search) → NotRefused s → s.call.want.kinds < 256 → version s.call.tree ≡ 1
      → wanted_yards s ≡ yards s
