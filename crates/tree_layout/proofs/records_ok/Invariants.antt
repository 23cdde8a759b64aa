use mathlib.Core.Path.{◌≡◌}
use Prim.Native.Nat.{◌-◌, ◌≤◌}
use lib.ListN.{length}
use Rattle.tree_layout.specs.Refusal.{records_ok}
use Rattle.tree_layout.proofs.records_ok.Given as goal

abbrev pub invariant-loop : goal.invariant-loop
invariant-loop l = (l.at ≤ length l.b) × (records_ok l.b l.m (l.n - l.counter) l.at ≡ records_ok l.b l.m l.n 12)
