use mathlib.Core.Path.{sym, ◌∙◌}
use native.Mathlib.Omega.{arith}
use lib.ListN.{length-set}
use Rattle.search_measure.proofs.Deciding.{over_yes, over_no}
use Rattle.search_measure.proofs.Standing.{over_up, over_down}
use Rattle.search_measure.proofs.Along.{Small, along_start, along-small, along-above, along-reached, along_on}
use Rattle.search_measure.proofs.way.Goals.{At-walking}
use Rattle.search_measure.proofs.way.Goals as goal

-- what is known of the numbers that the loop has come to
small : (c : At-walking) → Small c.args.adj.now c.walking.v c.walking.t c.walking.n
small c =
    let p = c.requires in
    let st = p.0.steers in
    along-small st _ _ p.1 _ _ _ _ (c.walking.invariant.1 _ st p.1)

pub walking-init : goal.walking-init
walking-init c = (c.requires.3, λ road st h. along_start road _ _ _ _)

pub over-requires : goal.over-requires
over-requires c = omega (arith, (small c).short, c.requires.4)

pub shape_of-walked-then-over : goal.shape_of-walked-then-over
shape_of-walked-then-over c = c.walking.invariant.0 ∙ sym c.requires.3

pub returns-then-over : goal.returns-then-over
returns-then-over c =
    let p = c.requires in
    let o = over_up _ _ (over_yes _ _ c.over.ensures c.if-over.true) c.walking.t (omega arith) in record {
      ways = (λ road st. (along-above st _ _ p.1 _ _ _ _ (c.walking.invariant.1 road st p.1) o).ways);
      walk = (λ road st.
          let a = along-above st _ _ p.1 _ _ _ _ (c.walking.invariant.1 road st p.1) o in
          (a.answer, a.written));
    }

pub shape_of-walked-then-v-q : goal.shape_of-walked-then-v-q
shape_of-walked-then-v-q c = c.walking.invariant.0 ∙ sym c.requires.3

pub returns-then-v-q : goal.returns-then-v-q
returns-then-v-q c =
    let p = c.requires in
    let e = c.if-v-q.true in
    let o = over_down _ _ (over_no _ _ c.over.ensures c.if-over.false) c.walking.t (omega arith) in record {
      ways = (λ road st. (along-reached st _ _ p.1 _ _ _ _ (c.walking.invariant.1 road st p.1) (omega (arith, e)) o).ways);
      walk = (λ road st.
          let a = along-reached st _ _ p.1 _ _ _ _ (c.walking.invariant.1 road st p.1) (omega (arith, e)) o in
          (a.answer, a.written));
    }

pub step-last-requires : goal.step-last-requires
step-last-requires c =
    let p = c.requires in
    (record { crew = _; steered = p.0; inside = (small (goal.at.step-last-requires c).At-walking).inside; apart = λ e. omega (arith, e, c.if-v-q.false) }, p.2)

pub offset_bounds-walked-n : goal.offset_bounds-walked-n
offset_bounds-walked-n c = record { fits = omega (arith, (small (goal.at.offset_bounds-walked-n c).At-walking).few) }

pub bounds-walked-n : goal.bounds-walked-n
bounds-walked-n c = omega (arith, (small (goal.at.bounds-walked-n c).At-walking).few, c.walking.invariant.0)

pub overflow_add-n : goal.overflow_add-n
overflow_add-n c = omega (arith, (small (goal.at.overflow_add-n c).At-walking).few)

pub overflow_add-t : goal.overflow_add-t
overflow_add-t c = omega (arith, (small (goal.at.overflow_add-t c).At-walking).short)

pub walking-smaller : goal.walking-smaller
walking-smaller c = omega (arith, (small (goal.at.walking-smaller c).At-walking).few)

pub walking-preserved : goal.walking-preserved
walking-preserved c =
    let p = c.requires in
    let n = c.if-v-q.false in
    let o = over_down _ _ (over_no _ _ c.over.ensures c.if-over.false) c.walking.t (omega arith) in (
      length-set c.walking.walked c.walking.n _ ∙ c.walking.invariant.0,
      λ road st h.
          let r = c.step-last.ensures road _ st (λ e. omega (arith, e, n)) in
          along_on st _ _ h _ _ _ _ (c.walking.invariant.1 road st h) (λ e. omega (arith, e, n)) o _ _ _ (omega arith) r.0 r.1
          (omega (arith, (small (goal.at.walking-preserved c).At-walking).few, c.walking.invariant.0)),
    )
