-- What the code answers of the seconds, as the definition has it. Assumes nothing: these are definitions.
use Rattle.std.proofs.Math.Option.{Option as Maybe, none, some}
use Rattle.std.specs.Prelude.{ℕ, Option, Some, None}

abbrev pub given_by : Option ℕ → Maybe ℕ
given_by (Some n) = some n
given_by None = none
