use borrow.Author.Tests.{not-true, not-false}
use mathlib.Core.Path.{refl, sym, ◌∙◌}
use native.Mathlib.Omega.{arith}
use lib.ListN.{length-set}
use Rattle.book.proofs.Choosing.{true_T, false_T}
use Rattle.tree.proofs.Fielding.{laid-header, laid-few}
use Rattle.search_inner.proofs.Queueing.{counted}
use Rattle.search_run.proofs.Starts.{some-place, put_out, root_put}
use Rattle.search_run.proofs.queue_root.Goals as goal

pub header-h-requires : goal.header-h-requires
header-h-requires c = laid-header _ _ c.requires.0

pub wanted-requires : goal.wanted-requires
wanted-requires c = let s = c.requires in (s.0, some-place _ _ s.0)

pub returns-then-not-wanted : goal.returns-then-not-wanted
returns-then-not-wanted c = sym (put_out _ _ _ _ _ (false_T (sym c.wanted.ensures ∙ not-true _ c.if-not-wanted.true-raw)))

pub region_bound-w-requires : goal.region_bound-w-requires
region_bound-w-requires c =
    let s = c.requires in
    let k = counted c.args.tree.now c.args.places.now _ _ _ c.header-h.ensures refl refl in
    (s.0, some-place _ _ s.0, rw k.rows_are s.1, s.2)

pub bounds-words-0 : goal.bounds-words-0
bounds-words-0 c = let s = c.requires in omega (arith, some-place _ _ s.0, s.3)

pub overflow_add-first : goal.overflow_add-first
overflow_add-first c =
    record { fits = omega (arith, laid-few _ _ c.requires.0, c.struct_known-2-1) }

pub offset_bounds-words-first : goal.offset_bounds-words-first
offset_bounds-words-first c =
    record { fits = omega (arith, laid-few _ _ c.requires.0, c.struct_known-2-1) }

pub bounds-words-first : goal.bounds-words-first
bounds-words-first c =
    let s = c.requires in
    let k = counted c.args.tree.now c.args.places.now _ _ _ c.header-h.ensures refl refl in
    simp length-set (omega (arith, k.firsts_are, some-place _ _ s.0, s.3))

pub shape_of-words : goal.shape_of-words
shape_of-words c = simp (length-set, length-set)

pub returns : goal.returns
returns c =
    let k = counted c.args.tree.now c.args.places.now _ _ _ c.header-h.ensures refl refl in
    root_put _ _ _ _ _ _ _ _ _ _ _ (true_T (sym c.wanted.ensures ∙ not-false _ c.if-not-wanted.false-raw)) k.rows_are k.firsts_are
    c.region_bound-w.ensures
