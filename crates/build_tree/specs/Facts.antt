-- What a build promises, to be held against the paper. Assumes nothing: these are statements.
use Rattle.std.specs.Prelude.{◌≡◌, ◌↔◌, ◌≢◌, ℕ, ◌≤◌, length, take, drop}
use mathlib.Core.List.{List, [], ◌∷◌, ◌++◌, Memᴰ as Mem}
use Rattle.book.specs.Bytes.{Bytes}
use Rattle.book.specs.Open.{version}
use Rattle.work_area.specs.Work.{work_words, zeroed, work_after}
use Rattle.road_layout.specs.Road.{junctions}
use Rattle.adjacency.specs.Adjacency.{Adjacency}
use Rattle.road.specs.Refusal.{road_refusal}
use Rattle.yard.specs.Yards.{yard_refusal_in}
use Rattle.tree_layout.specs.Values.{Region, Tree}
use Rattle.tree_layout.specs.Decode.{decode}
use Rattle.tree.specs.Facts.{Preorder}
use Rattle.tree_encode.specs.Encode.{encode, tree_room}
use Rattle.check_tree.specs.Check.{check_answer}
use Rattle.build_tree.specs.Build.{build_answer, built_tree, built_length, tree_after}
use Rattle.build_tree.specs.Building.{BuiltFrom}

-- "m (1 to 4) and a leaf limit (1 to 256)"
pub record InRange (m limit : ℕ) : Type 0 where
  pub landmarks : (1 ≤ m) × (m ≤ 4)
  pub leaf : (1 ≤ limit) × (limit ≤ 256)

-- both areas are long enough for a tree of a version
pub record BuildAreas (version words room : ℕ) : Type 0 where
  pub work : work_words ≤ words
  pub tree : tree_room version ≤ room

-- a call that is accepted
pub record AcceptedBuild (road yard : List ℕ) (m limit words room : ℕ) : Type 0 where
  pub roads : road_refusal road ≡ 0
  pub yards : yard_refusal_in yard (junctions road) ≡ 0
  pub range : InRange m limit
  pub areas : BuildAreas (version yard) words room

-- a call that is accepted with some road book, which adj is the adjacency of
pub record AcceptedBy (adj yard : List ℕ) (m limit words room : ℕ) : Type 0 where
  pub book : List ℕ
  pub adjacent : Adjacency book adj
  pub accepted : AcceptedBuild book yard m limit words room

-- which call each number turns back
pub record Refusals (road yard : List ℕ) (m limit words room : ℕ) : Type 0 where
  -- the road book's own first
  pub road-first : road_refusal road ≢ 0 → build_answer road yard m limit words room ≡ road_refusal road
  -- then the yard book's
  pub yard-next : road_refusal road ≡ 0 → yard_refusal_in yard (junctions road) ≢ 0
      → build_answer road yard m limit words room ≡ yard_refusal_in yard (junctions road)
  -- 11, then 12, of two sound books
  pub eleven : road_refusal road ≡ 0 → yard_refusal_in yard (junctions road) ≡ 0
      → (build_answer road yard m limit words room ≡ 11) ↔ (InRange m limit → ⊥)
  pub twelve : road_refusal road ≡ 0 → yard_refusal_in yard (junctions road) ≡ 0 → InRange m limit
      → (build_answer road yard m limit words room ≡ 12) ↔ (BuildAreas (version yard) words room → ⊥)
  -- and no other call is turned back
  pub none : (build_answer road yard m limit words room ≡ 0) ↔ AcceptedBuild road yard m limit words room

-- a call that is turned back returns no length and changes no byte and no word
pub record Kept (road yard : List ℕ) (m limit : ℕ) (work tree : List ℕ) : Type 0 where
  pub length_none : built_length road yard m limit (length work) (length tree) ≡ 0
  pub tree-kept : tree_after road yard m limit (length work) tree ≡ tree
  pub work-kept : work_after (build_answer road yard m limit (length work) (length tree)) work ≡ work

-- the book that an accepted call writes: the first bytes of the tree area, as many as are returned
abbrev pub written_book : (road yard : List ℕ) (m limit words : ℕ) (tree : List ℕ) → List ℕ
written_book road yard m limit words tree =
    take (built_length road yard m limit words (length tree)) (tree_after road yard m limit words tree)

-- an accepted call
pub record Writes (road yard : List ℕ) (m limit : ℕ) (work tree : List ℕ) : Type 0 where
  -- the tree's book, and after it what stood there; "Build returns the tree's length."
  pub one : tree_after road yard m limit (length work) tree
      ≡ encode (built_tree road yard m limit) ++ drop (length (encode (built_tree road yard m limit))) tree
  pub size : built_length road yard m limit (length work) (length tree) ≡ length (encode (built_tree road yard m limit))
  -- "reading it back gives the regions and numbers that were written"
  pub back : decode (written_book road yard m limit (length work) tree) ≡ built_tree road yard m limit
  -- the written tree passes the check beside the two books, with a full work area
  pub passes : (words : ℕ) → work_words ≤ words
      → check_answer road yard (written_book road yard m limit (length work) tree) words ≡ 0
  -- it is a book of bytes if the yard book is, as long as is returned, and that is at most 21,981, or 23,516 in version
  -- 2
  pub bytes : Bytes yard → Bytes (written_book road yard m limit (length work) tree)
  pub sized : length (written_book road yard m limit (length work) tree)
      ≡ built_length road yard m limit (length work) (length tree)
  pub short : built_length road yard m limit (length work) (length tree) ≤ tree_room (version yard)
  -- "Bytes after a built tree stay."
  pub rest : drop (built_length road yard m limit (length work) (length tree))
      (tree_after road yard m limit (length work) tree)
      ≡ drop (built_length road yard m limit (length work) (length tree)) tree
  -- at most 511 regions, and six levels
  pub few : length (built_tree road yard m limit).regions ≤ 511
  pub six : Preorder (built_tree road yard m limit).regions 6 0 (0 ∷ []) (length (built_tree road yard m limit).regions)
  -- no leaf has more yards than the limit
  pub leaf-limit : (r : Region) → Mem r (built_tree road yard m limit).regions → r.children ≡ 0 → r.yards ≤ limit
  -- "the one tree that the stated cuts give": the written tree is one that they give, and it is the only one
  pub cuts : BuiltFrom road yard m limit (decode (written_book road yard m limit (length work) tree))
  pub one-tree : (t : Tree) → BuiltFrom road yard m limit t
      → t ≡ decode (written_book road yard m limit (length work) tree)
  -- "zero the first 16,384 words of the work area and leave any after them"
  pub zeroes : work_after (build_answer road yard m limit (length work) (length tree)) work ≡ zeroed work_words work

-- Demand 2, of build: what each call is turned back for; a call that is turned back changes nothing;
-- an accepted one writes a tree that passes the check
pub record BuildExact (road yard : List ℕ) (m limit : ℕ) (work tree : List ℕ) : Type 0 where
  pub refusals : Refusals road yard m limit (length work) (length tree)
  pub refused : build_answer road yard m limit (length work) (length tree) ≢ 0 → Kept road yard m limit work tree
  pub accepted : build_answer road yard m limit (length work) (length tree) ≡ 0 → Writes road yard m limit work tree
