-- What a step of a search is given. Assumes nothing: these are statements.
use Rattle.std.specs.Prelude.{List, ℕ}
use Rattle.adjacency.specs.Adjacency.{Adjacency}
use Rattle.search_rules.specs.Rule.{Asking}
use Rattle.search_leaf.specs.code.Ready.{Ready}

-- a search is ready beside some road book, whose adjacency an array is
pub record IsPrepared (adj tree : List ℕ) (a : Asking) (crews drives places table : List ℕ) : Type 0 where
  pub road : List ℕ
  pub ready : Ready road tree a crews drives places table
  pub adjacent : Adjacency road adj
