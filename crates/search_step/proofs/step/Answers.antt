use native.Mathlib.Omega.{arith}
use Rattle.search_step.proofs.Taking.{readied, picked, measurable_in, yard-measurable, held_same, region_queued, region_is-taken, yard-room, yard-sorted, yard-cached, yard-is-taken}
use Rattle.search_step.proofs.step.Goals as goal

pub overflow_cast-region : goal.overflow_cast-region
overflow_cast-region c =
    let s = c.requires in
    record { fits = omega (arith, (picked s.0 s.3 s.4).small) }

pub offset_bounds-words-p : goal.offset_bounds-words-p
offset_bounds-words-p c =
    let s = c.requires in
    record { fits = omega (arith, (picked s.0 s.3 s.4).small) }

pub bounds-words-p : goal.bounds-words-p
bounds-words-p c =
    let s = c.requires in
    (picked s.0 s.3 s.4).inside

pub take-requires : goal.take-requires
take-requires c =
    let s = c.requires in
    (readied s.0, s.1, λ road ready. region_queued ready _ _ _ _ _ s.3 (s.2 road ready) _ s.4 c.if-p-r.true)

pub returns-then-p-r : goal.returns-then-p-r
returns-then-p-r c =
    let s = c.requires in
    let o = c.take.ensures in record {
      cached = o.cached;
      state = λ road ready. region_is-taken ready _ _ _ _ _ s.3 (s.2 road ready) _ s.4 c.if-p-r.true _ (o.state road ready);
    }

pub offset_bounds-words-p-2 : goal.offset_bounds-words-p-2
offset_bounds-words-p-2 c =
    let s = c.requires in
    record { fits = omega (arith, (picked s.0 s.3 s.4).small) }

pub bounds-words-p-2 : goal.bounds-words-p-2
bounds-words-p-2 c =
    let s = c.requires in
    (picked s.0 s.3 s.4).inside

pub overflow_cast-yard : goal.overflow_cast-yard
overflow_cast-yard c =
    let s = c.requires in
    record { fits = omega (arith, (picked s.0 s.3 s.4).small) }

pub take-requires-2 : goal.take-requires-2
take-requires-2 c =
    let s = c.requires in
    let h = c.if-p-r.false in (
      yard-measurable s.0 _ (omega (arith, (picked s.0 s.3 s.4).below)),
      yard-room s.0.ready _ _ _ _ _ s.3 (s.2 s.0.road s.0.ready) _ s.4 h (λ j. omega (arith, c.slice_known-1.given j)),
      yard-sorted s.0.ready _ _ _ _ _ s.3 (s.2 s.0.road s.0.ready) _ s.4 h (λ j. omega (arith, c.slice_known-1.given j)),
    )

pub returns : goal.returns
returns c =
    let s = c.requires in
    let h = c.if-p-r.false in
    let o = c.take-2.ensures in
    let known = c.slice_known-1.given in
    let below = (picked s.0 s.3 s.4).below in record {
      cached = λ road ready. yard-cached ready _ _ _ _ _ s.3 (s.2 road ready) _ s.4 h (λ j. omega (arith, known j));
      state = λ road ready. yard-is-taken ready _ _ _ _ _ s.3 (s.2 road ready) _ s.4 h (λ j. omega (arith, known j)) _ _ _ o.count o.measured
          (held_same s.0 road ready _ _ _ _ (omega (arith, below)) (o.held s.0.road (measurable_in s.0 _ (omega (arith, below)))));
    }
