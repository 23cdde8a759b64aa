use borrow.Author.Rules.{rules}
use mathlib.Core.Path.{refl}
use native.Mathlib.Omega.{arith}
use Rattle.tree.proofs.Fielding.{laid-header, laid-few}
use Rattle.search_run.proofs.Starts.{first-words, count-part, most-words}
use Rattle.search_run.proofs.run.Goals as goal

pub header-h-requires : goal.header-h-requires
header-h-requires c = laid-header _ _ c.requires.0.ready.laid

pub overflow_mul-count : goal.overflow_mul-count
overflow_mul-count c = record { fits = omega (arith, laid-few _ _ c.requires.0.ready.laid) }

pub overflow_add-count : goal.overflow_add-count
overflow_add-count c = record { fits = omega (arith, laid-few _ _ c.requires.0.ready.laid, c.struct_known-1) }

pub slice_bounds-words-end : goal.slice_bounds-words-end
slice_bounds-words-end c = most-words _ _ _ _ c.requires.0.ready.laid c.header-h.ensures refl

pub slice_bounds-steps-end : goal.slice_bounds-steps-end
slice_bounds-steps-end c = count-part 3581 _ (most-words _ _ _ _ c.requires.0.ready.laid c.header-h.ensures refl)

pub steps-requires : goal.steps-requires
steps-requires c =
    let h = c.header-h.ensures in (
      c.requires.0,
      c.requires.1,
      first-words c.args.tree.now c.args.places.now _ 3581 _ h refl (most-words _ _ _ _ c.requires.0.ready.laid h refl),
      search rules,
    )

pub returns : goal.returns
returns c = c.steps.ensures
