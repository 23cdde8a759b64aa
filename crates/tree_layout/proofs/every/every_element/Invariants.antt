use mathlib.Core.Path.{◌≡◌}
use mathlib.Core.Bool.{Bool}
use Prim.Native.Nat.{◌-◌, ◌≤◌}
use Rattle.tree_layout.specs.Values.{Element}
use Rattle.tree_layout.specs.Sizes.{list_size}
use Rattle.tree_layout.specs.Decode.{read_list}
use Rattle.tree_layout.specs.Refusal.{all}
use Rattle.tree_layout.specs.code.Every.{TestsElement}
use Rattle.tree_layout.proofs.every.every_element.Given as goal

abbrev pub invariant-loop-k : goal.invariant-loop-k
invariant-loop-k g l =
    (ok : Element → Bool) → TestsElement (goal.F-post g l.test) ok → all ok (read_list l.v l.p (l.n - l.k) (list_size l.v l.k)) ≡ all ok (read_list l.v l.p l.n 0)
