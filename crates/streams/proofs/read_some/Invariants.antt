-- The part keeps its length, and a failed read takes nothing from the input.
use Rattle.std.proofs.Common.{◌≡◌, length}
use Rattle.std.specs.Io.KnownBytes.{Keeps}
use Rattle.streams.proofs.read_some.Given as goal

abbrev pub invariant-loop : goal.invariant-loop
invariant-loop g l = (length l.part ≡ length l.initial.part)
    × Keeps (g.S.Read.remaining l.initial.input) (g.S.Read.remaining l.input)
