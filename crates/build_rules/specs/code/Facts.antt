-- What holds of the tree that building gives. Assumes nothing: these are statements.
use Rattle.std.specs.Prelude.{◌≡◌, true, ℕ, suc, ◌≤◌, ◌<◌, length, get_or, ltb}
use mathlib.Core.List.{List, [], ◌∷◌, Memᴰ as Mem}
use Rattle.book.specs.Choose.{choose}
use Rattle.book.specs.Bytes.{Bytes}
use Rattle.tree_layout.specs.Values.{Region}
use Rattle.tree_layout.specs.Sizes.{latest_tree}
use Rattle.tree_layout.specs.Decode.{decode}
use Rattle.tree.specs.Shape.{tree_refusal}
use Rattle.tree.specs.Yards.{tree_yards}
use Rattle.tree.specs.Facts.{Preorder}
use Rattle.tree_encode.specs.Encode.{encode, tree_room}
use Rattle.check_rules.specs.Truth.{true_tree, true_beside, kinds_tree}
use Rattle.check_rules.specs.Facts.{TrueNumbers, TrueKinds, Same}
use Rattle.build_rules.specs.Cut.{Given, cut_tree}
use Rattle.build_rules.specs.Cuts.{Terms, CutRange}

-- what building is asked for, in its limits: the version, junctions of a road book, yards of a yard book, m, the leaf
-- limit, distances as roads have them, and kinds as a yard book has them
pub record InLimits (g : Given) (junctions : ℕ) (ys : List ℕ) : Type 0 where
  pub version_in : (1 ≤ g.version) × (g.version ≤ latest_tree)
  pub junctions_in : (1 ≤ junctions) × (junctions ≤ 1024)
  pub yards_in_lem : (1 ≤ length ys) × (length ys ≤ 256)
  -- "rising strictly"
  pub rising : (i j : ℕ) → i < j → j < length ys → get_or ys i 0 < get_or ys j 0
  -- each is a junction
  pub below : (i : ℕ) → i < length ys → get_or ys i 0 < junctions
  -- "m (1 to 4) and a leaf limit (1 to 256)"
  pub landmarks_in : (1 ≤ g.landmarks) × (g.landmarks ≤ 4)
  pub limit_in : (1 ≤ g.limit) × (g.limit ≤ 256)
  -- "at most 67,042,305, which is 1,023 × 65,535"
  pub bounded : (u v : ℕ) → u < junctions → v < junctions → g.d u v ≤ 67042305
  -- "one bit per kind, not 0"; "Version 1 books are read with kind 255 throughout"
  pub kinded : (y : ℕ) → Mem y ys → 1 ≤ g.kinds y
  pub any : g.version ≡ 1 → (y : ℕ) → Mem y ys → g.kinds y ≡ 255

-- how many yards at the start of a list are below x
unfoldable pub count_below : ℕ → List ℕ → ℕ
count_below x [] = 0
count_below x (y ∷ ys) = let n = count_below x ys in choose (ltb y x) (suc n) 0

-- what the stated cuts go by, of what building is given: the same, any distance, and any kinds
abbrev pub terms_of : Given → (ℕ → ℕ → ℕ → Type 0) → (ℕ → ℕ → Type 0) → Terms
terms_of g D K = record { roads = g.roads; Distance = D; Kinds = K; landmarks = g.landmarks; limit = g.limit }

-- D says of two junctions below n which number is their distance, of one number only, and d gives it
pub record Measures (D : ℕ → ℕ → ℕ → Type 0) (d : ℕ → ℕ → ℕ) (n : ℕ) : Type 0 where
  pub reached : (u v : ℕ) → u < n → v < n → D u v (d u v)
  pub one : (u v s t : ℕ) → D u v s → D u v t → s ≡ t

-- K says of each of some yards which byte is that of its kinds, of one byte only, and `kinds` gives it
pub record Marks (K : ℕ → ℕ → Type 0) (kinds : ℕ → ℕ) (ys : List ℕ) : Type 0 where
  pub reached : (y : ℕ) → Mem y ys → K y (kinds y)
  pub one : (y j k : ℕ) → K y j → K y k → j ≡ k

-- "the one tree that the stated cuts give": the regions of the tree that building gives are cut as stated, from "The
-- first range is all junctions.", and no others are
pub record OneTree (g : Given) (D : ℕ → ℕ → ℕ → Type 0) (K : ℕ → ℕ → Type 0) (junctions : ℕ) (ys : List ℕ) : Type 0
  where
    pub cuts : CutRange (terms_of g D K) 0 junctions ys (cut_tree g junctions ys).regions
    pub one : (rs : List Region) → CutRange (terms_of g D K) 0 junctions ys rs → rs ≡ (cut_tree g junctions ys).regions

-- the tree that building gives
pub record Built (g : Given) (junctions : ℕ) (ys : List ℕ) : Type 0 where
  -- its book is accepted (tests 1 to 5 and 7), and reading it back gives the regions and numbers that were written
  pub accepted : tree_refusal (encode (cut_tree g junctions ys)) ≡ 0
  pub back : decode (encode (cut_tree g junctions ys)) ≡ cut_tree g junctions ys
  -- it is a book of bytes, if each yard's kinds are a byte, and no longer than a build's area has to be
  pub bytes : ((y : ℕ) → Mem y ys → g.kinds y ≤ 255) → Bytes (encode (cut_tree g junctions ys))
  pub short : length (encode (cut_tree g junctions ys)) ≤ tree_room g.version
  -- it holds exactly the given yards
  pub yards : Same (tree_yards (cut_tree g junctions ys)) ys
  -- its numbers are true, and test 9 says so
  pub numbers : TrueNumbers g.d (cut_tree g junctions ys)
  pub true_tree_lem : true_tree g.d (cut_tree g junctions ys) ≡ true
  pub true_beside_lem : true_beside g.d ys (cut_tree g junctions ys) ≡ true
  -- so are its kind bytes
  pub bits : TrueKinds g.kinds (cut_tree g junctions ys)
  pub kinds-tree : kinds_tree g.kinds (cut_tree g junctions ys) ≡ true
  -- it has at most 511 regions and six levels, and no leaf has more yards than the limit
  pub few : length (cut_tree g junctions ys).regions ≤ 511
  pub six : Preorder (cut_tree g junctions ys).regions 6 0 (0 ∷ []) (length (cut_tree g junctions ys).regions)
  pub leaf-limit : (r : Region) → Mem r (cut_tree g junctions ys).regions → r.children ≡ 0 → r.yards ≤ g.limit
