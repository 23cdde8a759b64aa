use mathlib.Core.Path.{sym}
use lib.Seq.{length-take-le}
use borrow.Author.Rules.{rules}
use Rattle.examples.proofs.crews.Goals as goal

pub slice_bounds-refusal-end-3 : goal.slice_bounds-refusal-end-3
slice_bounds-refusal-end-3 c = sym (length-take-le _ _ (search rules))
