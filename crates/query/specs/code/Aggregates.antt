-- "aggregate u8": the sum (code 0) or the maximum (code 1). Assumes nothing: these are definitions.
use Rattle.std.specs.Prelude.{ℕ, zero, suc}
use Rattle.query.specs.declared.aggregate.Aggregate.{Aggregate}
use Rattle.query.specs.declared.aggregate.Aggregate.TheVariants.{Sum, Furthest}

-- the aggregate that a code names; a query whose code is above 1 is turned back before
abbrev pub aggregate_by : ℕ → Aggregate
aggregate_by zero = Sum
aggregate_by (suc n) = Furthest

-- an aggregate's code
abbrev pub code_of : Aggregate → ℕ
code_of Sum = 0
code_of Furthest = 1
