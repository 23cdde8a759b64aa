use mathlib.Core.Path.{◌≡◌}
use Prim.Native.Nat.{◌-◌, ◌≤◌}
use Rattle.tree_layout.specs.Sizes.{list_size}
use Rattle.tree_layout.specs.Decode.{read_list}
use Rattle.tree_layout.specs.Refusal.{list_ok}
use Rattle.tree_layout.specs.Reading.{element}
use Rattle.tree_layout.proofs.Turns.{list_rest}
use Rattle.tree_layout.proofs.list_ok.Given as goal

abbrev pub invariant-loop-k : goal.invariant-loop-k
invariant-loop-k l =
    list_rest (element l.last.distance l.last.yard.number l.last.kinds) (read_list l.v l.p (l.n - l.k) (list_size l.v l.k)) ≡ list_ok (read_list l.v l.p l.n 0)
