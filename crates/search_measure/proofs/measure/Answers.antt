use mathlib.Core.Path.{refl, sym, ap, ◌∙◌}
use mathlib.Core.List.{List}
use Prim.Native.Nat.{ℕ}
use native.Mathlib.Omega.{arith}
use Rattle.road.proofs.Filling.{part-size}
use Rattle.search_measure.specs.code.Cases.{ended_in, measured_of}
use Rattle.search_measure.proofs.Crewing.{so_far_start, measures_by, row_room, row-steers, so_far-end, so_far-room, so_far-above, reached-room, so_far_on}
use Rattle.search_measure.proofs.measure.Goals as goal

pub loop-j-init : goal.loop-j-init
loop-j-init c = (c.requires.1, λ road ms. so_far_start road _ _ _ _)

pub overflow_mul-at : goal.overflow_mul-at
overflow_mul-at c =
    record { fits = omega (arith, c.requires.0.measurable.driven.few, c.loop-j-test.true) }

pub overflow_add-at : goal.overflow_add-at
overflow_add-at c =
    record { fits = omega (arith, c.requires.0.measurable.driven.few, c.loop-j-test.true) }

pub slice_bounds-way-end : goal.slice_bounds-way-end
slice_bounds-way-end c =
    omega (arith, row_room c.requires.0.measurable c.loop-j.j c.loop-j-test.true)

pub way-arrival-requires : goal.way-arrival-requires
way-arrival-requires c =
    let m = c.requires.0.measurable in
    let h = c.loop-j-test.true in (
      record { road = c.requires.0.road; steers = row-steers m c.loop-j.j _ h refl },
      omega (arith, m.junction, m.adjacent.count),
      part-size c.args.rows.now _ (row_room m c.loop-j.j h),
      c.loop-j.invariant.0,
      so_far-room m _ _ _ _ _ (c.loop-j.invariant.1 _ m) h,
    )

pub shape_of-walked-in_err-seconds : goal.shape_of-walked-in_err-seconds
shape_of-walked-in_err-seconds c =
    c.way-arrival.auto.walked ∙ c.loop-j.invariant.0 ∙ sym c.requires.1

pub returns-in_err-seconds : goal.returns-in_err-seconds
returns-in_err-seconds c =
    let h = c.loop-j-test.true in
    let e : (road : List ℕ) → _ → _ = λ road ms.
    ap measured_of c.from_residual.ensures
    ∙ so_far-above ms _ _ _ _ _ (c.loop-j.invariant.1 road ms) h
    (sym (ap ended_in c.in_err-seconds.was) ∙ (c.way-arrival.ensures.walk road (row-steers ms _ _ h refl)).0) in record {
      measures = (λ road ms. measures_by ms _ _ _ (e road ms));
      run = e;
    }

pub combine-total-requires : goal.combine-total-requires
combine-total-requires c =
    let h = c.loop-j-test.true in
    let m = c.requires.0.measurable in
    reached-room m _ _ _ _ _ (c.loop-j.invariant.1 _ m) h _
    (sym (ap ended_in c.in_ok-seconds.was) ∙ (c.way-arrival.ensures.walk _ (row-steers m _ _ h refl)).0)

pub loop-j-preserved : goal.loop-j-preserved
loop-j-preserved c =
    let h = c.loop-j-test.true in (
      c.way-arrival.auto.walked ∙ c.loop-j.invariant.0,
      λ road ms.
          so_far_on ms _ _ _ _ _ (c.loop-j.invariant.1 road ms) h _
          (sym (ap ended_in c.in_ok-seconds.was) ∙ (c.way-arrival.ensures.walk road (row-steers ms _ _ h refl)).0) _ _
          (omega (arith, c.combine-total.ensures)) (omega (arith, c.max-furthest.ensures)),
    )

pub shape_of-walked : goal.shape_of-walked
shape_of-walked c = c.loop-j.invariant.0 ∙ sym c.requires.1

pub returns : goal.returns
returns c =
    let e : (road : List ℕ) → _ → _ = λ road ms. so_far-end ms _ _ _ _ _ (c.loop-j.invariant.1 road ms) c.loop-j-test.false in record {
      measures = (λ road ms. measures_by ms _ _ _ (e road ms));
      run = e;
    }
