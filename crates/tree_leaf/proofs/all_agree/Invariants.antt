use mathlib.Core.Path.{◌≡◌}
use Prim.Native.Nat.{◌+◌, ◌*◌, ◌-◌, ◌≤◌}
use lib.ListN.{length}
use Rattle.book.specs.Open.{version}
use Rattle.tree_layout.specs.Sizes.{leaf_mark_size}
use Rattle.tree_layout.specs.Decode.{read_lists}
use Rattle.tree_leaf.specs.Leaf.{first_list, agreeing}
use Rattle.tree_leaf.proofs.all_agree.Given as goal

abbrev pub invariant-loop : goal.invariant-loop
invariant-loop l = (l.start ≤ l.at) × (l.at + (l.m - l.counter) * leaf_mark_size (version l.b) l.f.yards ≤ length l.b)
    × (agreeing l.f.first.number l.f.after (first_list (read_lists l.b l.f.yards l.m l.start)) (read_lists l.b l.f.yards (l.m - l.counter) l.at)
    ≡ agreeing l.f.first.number l.f.after (first_list (read_lists l.b l.f.yards l.m l.start)) (read_lists l.b l.f.yards l.m l.start))
