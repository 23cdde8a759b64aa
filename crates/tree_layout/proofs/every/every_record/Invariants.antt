use mathlib.Core.Path.{◌≡◌}
use mathlib.Core.Bool.{Bool, true}
use Prim.Native.Nat.{◌-◌}
use Rattle.tree_layout.specs.Values.{Region}
use Rattle.tree_layout.specs.Decode.{read_regions, place_from}
use Rattle.tree_layout.specs.Refusal.{all, records_ok}
use Rattle.tree_layout.specs.code.Every.{TestsRecord}
use Rattle.tree_layout.proofs.every.every_record.Given as goal

abbrev pub invariant-loop : goal.invariant-loop
invariant-loop g l =
    (l.at ≡ place_from l.b l.m l.counter 12) × (records_ok l.b l.m (l.n - l.counter) l.at ≡ true)
    × ((ok : Region → Bool) → TestsRecord l.b l.m l.n (goal.F-post g l.test) ok
    → all ok (read_regions l.b l.m (l.n - l.counter) l.at) ≡ all ok (read_regions l.b l.m l.n 12))
