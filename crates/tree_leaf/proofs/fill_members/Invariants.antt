use mathlib.Core.Path.{◌≡◌}
use mathlib.Core.Bool.{true}
use Prim.Native.Nat.{◌-◌}
use Rattle.tree_layout.specs.Sizes.{list_size}
use Rattle.tree_layout.specs.Decode.{read_list}
use Rattle.tree_leaf.specs.code.Members.{members_of, fits}
use Rattle.tree_leaf.proofs.fill_members.Given as goal

abbrev pub invariant-loop-k : goal.invariant-loop-k
invariant-loop-k l =
    (l.members ≡ members_of (read_list l.v l.p (l.f.yards - l.k) (list_size l.v l.k)))
    × (fits l.f.first.number l.f.after (read_list l.v l.p (l.f.yards - l.k) (list_size l.v l.k)) ≡ true)
