use mathlib.Core.Path.{ap, ◌∙◌}
use mathlib.Core.List.{List, ◌++◌}
use Prim.Native.Nat.{ℕ}
use Rattle.outline.proofs.Outlining.{region_is, five}
use Rattle.outline.proofs.region.Goals as goal

pub version-requires : goal.version-requires
version-requires g c = five _ _ _ c.requires.0

pub returns-clause-added : goal.returns-clause-added
returns-clause-added g c =
    let p = c.requires in
    c.line.ensures.added
    ∙ ap (λ (l : List ℕ). c.args.out.now ++ l) (region_is _ _ _ _ _ _ p.0 p.1 c.fields-f.ensures c.level-level.ensures _ c.version.ensures)
