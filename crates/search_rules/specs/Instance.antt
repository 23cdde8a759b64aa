-- What is searched: a tree, the crews, the aggregate, the rule, the distance, and what is wanted. Assumes nothing:
-- these are definitions.
use Rattle.std.specs.Prelude.{Bool, true, List, ℕ, length, eqb}
use Rattle.book.specs.Lists.{keep_if}
use Rattle.tree_layout.specs.Values.{Mark, Tree, region_at}
use Rattle.tree.specs.Yards.{children_of}
use Rattle.search_rules.specs.Rule.{Rule}

-- The aggregate's code (0 is the sum, 1 the maximum), what the search is for, the crews' junctions (query vertices;
-- "two crews may stand at one junction and both count"), the tree, and d u v, "the least total of seconds over all
-- walks from u to v". "Regions and yards without a wanted bit never enter the queue": which regions may, and which
-- yards are wanted. On a tree of roads that have a direction (version 3): each region's landmarks with the distances
-- towards them, and each yard's distance towards its leaf's first landmark, as the tree says.
pub record Instance : Type 0 where
  pub code : ℕ
  pub rule : Rule
  pub crews : List ℕ
  pub tree : Tree
  pub d : ℕ → ℕ → ℕ
  pub admits : ℕ → Bool
  pub wants : ℕ → Bool
  pub one_way : Bool
  pub towards : ℕ → List Mark
  pub back : ℕ → ℕ

-- the same search without kinds: every region may enter the queue, and every yard is wanted
abbrev pub without_kinds : Instance → Instance
without_kinds i = record {
  code = i.code;
  rule = i.rule;
  crews = i.crews;
  tree = i.tree;
  d = i.d;
  admits = λ r. true;
  wants = λ y. true;
  one_way = i.one_way;
  towards = i.towards;
  back = i.back;
}

module _ (i : Instance) where
  -- how many regions (tree nodes) there are
  unfoldable pub size : ℕ
  size = length i.tree.regions

  -- the numbers of region r's children that may enter the queue
  unfoldable pub children : ℕ → List ℕ
  children r = keep_if i.admits (children_of i.tree.regions r)

  -- region r's landmarks
  unfoldable pub marks : ℕ → List Mark
  marks r = (region_at i.tree.regions r).marks

  -- "children u8 (0 for a leaf, else 2 to 4)"
  unfoldable pub leaf : ℕ → Bool
  leaf r = eqb (region_at i.tree.regions r).children 0
