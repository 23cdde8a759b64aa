use mathlib.Core.Path.{◌≡◌, ap, ◌∙◌}
use Prim.Native.Nat.{ℕ, ◌+◌, ◌≤◌}
use native.Mathlib.Omega.{arith}
use lib.ListN.{length}
use Rattle.book.specs.Open.{version}
use Rattle.tree_layout.specs.Sizes.{list_size}
use Rattle.tree_layout.proofs.Sizes.{leaf_mark_are}
use Rattle.tree_layout.proofs.Reading.{list-part}
use Rattle.tree_layout.proofs.records.list.Goals.{After-list_size, Start}
use Rattle.tree_layout.proofs.records.list.Goals as goal

-- where the list ends
end : (c : After-list_size) → (c.args.at + 2) + c.list_size.result ≡ (c.args.at + 2) + list_size (version c.args.b.now) c.args.yards
end c = ap (λ (x : ℕ). (c.args.at + 2) + x) (c.list_size.ensures ∙ ap (λ (v : ℕ). list_size v c.args.yards) c.version.ensures)

-- the list lies in the book
inside : (c : Start) → (c.args.at + 2) + list_size (version c.args.b.now) c.args.yards ≤ length c.args.b.now
inside c = omega (arith, c.requires.2, leaf_mark_are (version c.args.b.now) c.args.yards)

pub overflow_add-start : goal.overflow_add-start
overflow_add-start c = omega (arith, inside (goal.at.overflow_add-start c).Start)

pub version-requires : goal.version-requires
version-requires c = omega (arith, c.requires.0)

pub list_size-requires : goal.list_size-requires
list_size-requires c = c.requires.1

pub overflow_add-end : goal.overflow_add-end
overflow_add-end c = omega (arith, inside (goal.at.overflow_add-end c).Start, end c)

pub slice_bounds-result-end : goal.slice_bounds-result-end
slice_bounds-result-end c = omega (arith, inside (goal.at.slice_bounds-result-end c).Start, end c)

pub returns : goal.returns
returns c = list-part _ _ _ _ _ (end (goal.at.returns c).After-list_size)
