use mathlib.Core.Path.{sym}
use lib.Seq.{length-take-le}
use borrow.Author.Rules.{rules}
use Rattle.examples.proofs.junctions.Goals as goal

pub slice_bounds-refusal-end : goal.slice_bounds-refusal-end
slice_bounds-refusal-end c = sym (length-take-le _ _ (search rules))
