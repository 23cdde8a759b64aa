-- What a search is for. Assumes nothing: these are definitions.
use Rattle.std.specs.Prelude.{ℕ}

-- the first k yards; or "each yard whose aggregate is at most a given number of seconds"
pub data Rule : Type 0 where
  nearest : ℕ → Rule
  in_drive : ℕ → Rule

-- What a search asks for beside its crews: the aggregate's code (0 is the sum, 1 the maximum), the yards that it is to
-- list, and the byte of wanted kinds.
pub record Asking : Type 0 where
  pub code : ℕ
  pub rule : Rule
  pub wanted : ℕ
