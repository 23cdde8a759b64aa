use mathlib.Core.Path.{sym, ap, ◌∙◌}
use native.Mathlib.Omega.{arith}
use lib.ListN.{length, length-replicate}
use Rattle.tree.proofs.Fielding.{laid-header, laid-few}
use Rattle.search_leaf.proofs.Landmarks.{table_crews}
use Rattle.search_step.proofs.Taking.{picked}
use Rattle.search_run.proofs.Running.{queue-part, kept-allowed, least_of_lem, going, ends-settled, ends-limit, steps_on}
use Rattle.search_run.proofs.Starts.{queue-count, steps_start}
use Rattle.search_run.proofs.steps.Goals as goal

pub queue_root-requires : goal.queue_root-requires
queue_root-requires c =
    let s = c.requires in
    let ready = s.0.ready in
    (ready.laid, ready.tableed.limits, table_crews _ _ _ _ _ _ _ ready, ap length s.2 ∙ length-replicate _ _)

pub header-h-requires : goal.header-h-requires
header-h-requires c = laid-header _ _ c.requires.0.ready.laid

pub overflow_add-queue : goal.overflow_add-queue
overflow_add-queue c = record { fits = omega (arith, laid-few _ _ c.requires.0.ready.laid, c.struct_known-1) }

pub loop-asked-init : goal.loop-asked-init
loop-asked-init c =
    let s = c.requires in (
      queue-count _ _ _ c.header-h.ensures,
      steps_start _ _ _ _ _ _ _ _ _ _ _ s.2 c.queue_root.ensures s.3 c.none-progress.ensures,
    )

pub slice_bounds-pick-end : goal.slice_bounds-pick-end
slice_bounds-pick-end c = let l = c.loop-asked.invariant in omega (arith, l.0, l.1.size)

pub slice_bounds-pick-end-in-loop-asked : goal.slice_bounds-pick-end-in-loop-asked
slice_bounds-pick-end-in-loop-asked c = let l = c.loop-asked.invariant in queue-part _ _ _ _ l.0 l.1.size

pub pick-p-requires : goal.pick-p-requires
pick-p-requires c = tt

pub offset_bounds-words-p : goal.offset_bounds-words-p
offset_bounds-words-p c =
    let l = c.loop-asked.invariant in
    record { fits = omega (arith, (picked c.requires.0 l.1.size (least_of_lem _ _ _ _ _ l.0 l.1.size c.pick-p.ensures)).small) }

pub bounds-words-p : goal.bounds-words-p
bounds-words-p c =
    let l = c.loop-asked.invariant in
    (picked c.requires.0 l.1.size (least_of_lem _ _ _ _ _ l.0 l.1.size c.pick-p.ensures)).inside

pub shape_of-words-then-settled : goal.shape_of-words-then-settled
shape_of-words-then-settled c = c.loop-asked.invariant.1.size ∙ sym (ap length c.requires.2 ∙ length-replicate _ _)

pub shape_of-values-then-settled : goal.shape_of-values-then-settled
shape_of-values-then-settled c = c.loop-asked.invariant.1.value-size ∙ sym c.requires.3

pub returns-then-settled : goal.returns-then-settled
returns-then-settled c =
    let l = c.loop-asked.invariant in
    let e = least_of_lem _ _ _ _ _ l.0 l.1.size c.pick-p.ensures in record {
      answer = λ road ready. ends-settled l.1 _ e _ c.settled.ensures road ready c.if-settled.true;
      room = kept-allowed l.1 _ c.requires.0.ready;
    }

pub shape_of-words-then-taken-asked : goal.shape_of-words-then-taken-asked
shape_of-words-then-taken-asked c = c.loop-asked.invariant.1.size ∙ sym (ap length c.requires.2 ∙ length-replicate _ _)

pub shape_of-values-then-taken-asked : goal.shape_of-values-then-taken-asked
shape_of-values-then-taken-asked c = c.loop-asked.invariant.1.value-size ∙ sym c.requires.3

pub returns-then-taken-asked : goal.returns-then-taken-asked
returns-then-taken-asked c =
    let l = c.loop-asked.invariant in
    let e = least_of_lem _ _ _ _ _ l.0 l.1.size c.pick-p.ensures in record {
      answer = λ road ready. ends-limit l.1 _ e _ c.settled.ensures road ready c.if-settled.false (omega (arith, c.if-taken-asked.true));
      room = kept-allowed l.1 _ c.requires.0.ready;
    }

pub step-requires : goal.step-requires
step-requires c =
    let l = c.loop-asked.invariant in
    let s = c.requires in
    let e = least_of_lem _ _ _ _ _ l.0 l.1.size c.pick-p.ensures in (
      s.0,
      s.1,
      λ road ready. going l.1 _ e _ c.settled.ensures road ready c.if-settled.false,
      l.1.size,
      e,
    )

pub overflow_add-taken : goal.overflow_add-taken
overflow_add-taken c = record { fits = omega (arith, c.loop-asked.invariant.1.within, c.if-taken-asked.false, c.struct_known-in-loop-asked-1) }

pub loop-asked-smaller : goal.loop-asked-smaller
loop-asked-smaller c = omega (arith, c.loop-asked.invariant.1.within, c.if-taken-asked.false)

pub loop-asked-preserved : goal.loop-asked-preserved
loop-asked-preserved c =
    let l = c.loop-asked.invariant in
    let e = least_of_lem _ _ _ _ _ l.0 l.1.size c.pick-p.ensures in
    let t = c.step in (
      l.0,
      steps_on l.1 _ e _ c.settled.ensures c.if-settled.false (omega (arith, l.1.within, c.if-taken-asked.false)) _ _ _
          t.auto.words t.auto.values t.ensures.cached t.ensures.state,
    )
