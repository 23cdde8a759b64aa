use Rattle.std.proofs.Common.{◌≡◌, ◌&&◌, ◌<◌, ◌≤◌, leb, ltb, length, sym, ◌∙◌, rules}
use native.Mathlib.Omega.{arith}
use borrow.Author.Tests.{ne_eqb}
use Rattle.yard.specs.Yards.{yards_of}
use Rattle.yard.proofs.YardLayout.{yards-length}
use Rattle.check_distances.proofs.Spanning.{least-out, least_in, greatest-out, greatest_in, least-turn, least-end, greatest-turn, greatest-end, least_other, greatest_decides}
use Rattle.check_distances.proofs.spans.span_true.Goals.{After-contains, After-loop-k, then-contains, else-contains}
use Rattle.check_distances.proofs.spans.span_true.Goals as goal

-- after the loop no yard is left
done : (c : After-loop-k) → length (yards_of c.args.yard.now) ≤ c.loop-k.k
done c = omega (arith, c.loop-k-test.false, c.count-k-end.ensures, yards-length c.args.yard.now)

pub loop-k-preserved : goal.loop-k-preserved
loop-k-preserved c =
    let i = c.loop-k.invariant in
    let left : c.loop-k.k < length (yards_of c.args.yard.now) = omega (arith, c.loop-k-test.true, c.count-k-end.ensures, yards-length c.args.yard.now) in
    let t : c.contains.result ≡ (leb c.args.f.first.number c.yard_at-y.result.number && ltb c.yard_at-y.result.number c.args.f.after) = search rules in
    elim c.if-contains.branch [
      | then-contains w ↦ (
        least-turn _ _ _ _ _ _ _ _ left c.yard_at-y.ensures (least_in _ _ _ _ _ (sym t ∙ w.if-contains.true) _ (omega (arith, w.low-is, w.min-low.ensures, w.distance_to-d.ensures))) ∙ i.0,
        greatest-turn _ _ _ _ _ _ _ _ left c.yard_at-y.ensures (greatest_in _ _ _ _ _ (sym t ∙ w.if-contains.true) _ (omega (arith, w.high-is, w.max-high.ensures, w.distance_to-d.ensures))) ∙ i.1,
      )
      | else-contains w ↦ (
        least-turn _ _ _ _ _ _ _ _ left c.yard_at-y.ensures (w.low-is ∙ least-out _ _ _ _ _ (sym t ∙ w.if-contains.false)) ∙ i.0,
        greatest-turn _ _ _ _ _ _ _ _ left c.yard_at-y.ensures (w.high-is ∙ greatest-out _ _ _ _ _ (sym t ∙ w.if-contains.false)) ∙ i.1,
      )
    ]

pub returns-then-l-low : goal.returns-then-l-low
returns-then-l-low c =
    let i = c.loop-k.invariant in
    let d = done (goal.at.returns-then-l-low c).After-loop-k in
    greatest_decides _ _ _ _ _ _ (sym (least-end _ _ _ _ _ _ d) ∙ i.0) c.if-l-low.true (sym (greatest-end _ _ _ _ _ _ d) ∙ i.1)

pub returns-else-l-low : goal.returns-else-l-low
returns-else-l-low c =
    let i = c.loop-k.invariant in
    ne_eqb _ _ c.if-l-low.false ∙ least_other _ _ _ _ _ 0 (sym (least-end _ _ _ _ _ _ (done (goal.at.returns-else-l-low c).After-loop-k)) ∙ i.0) c.if-l-low.false
