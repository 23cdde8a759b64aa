use mathlib.Core.Path.{sym, ap, ◌∙◌}
use Prim.Native.Nat.{ℕ, ◌<◌}
use native.Mathlib.Omega.{arith}
use lib.ListN.{length, length-set, length-replicate}
use Rattle.yard.specs.Yards.{yard_count}
use Rattle.yard.proofs.YardLayout.{layout, yards-at}
use Rattle.yard.proofs.Tables.{begins, one_more, table_end}
use Rattle.yard.proofs.kind_table.Goals.{In-loop-i}
use Rattle.yard.proofs.kind_table.Goals as goal

-- i is a yard's number
counted : (c : In-loop-i) → c.loop-i.i < yard_count c.args.b.now
counted c = omega (arith, c.count-i-end.ensures, c.loop-i-test.true)

pub count-i-end-requires : goal.count-i-end-requires
count-i-end-requires c = c.requires.0

pub loop-i-init : goal.loop-i-init
loop-i-init c = (ap length c.requires.1 ∙ length-replicate {A = ℕ} 1024 0, begins _ _ c.requires.1)

pub yard_at-y-requires : goal.yard_at-y-requires
yard_at-y-requires c = (c.requires.0, counted (goal.at.yard_at-y-requires c).In-loop-i)

pub kinds_at-requires : goal.kinds_at-requires
kinds_at-requires c = (c.requires.0, omega (arith, counted (goal.at.kinds_at-requires c).In-loop-i))

pub bounds-table-y : goal.bounds-table-y
bounds-table-y c =
    let b = c.args.b.now in
    let i = c.loop-i.i in
    let h = counted (goal.at.bounds-table-y c).In-loop-i in
    omega (arith, c.yard_at-y.ensures, yards-at b i h, (layout b c.requires.0).below i h, c.loop-i.invariant.0)

pub loop-i-preserved : goal.loop-i-preserved
loop-i-preserved c =
    let l = c.loop-i in (
      length-set l.table c.yard_at-y.result.number c.kinds_at.result ∙ l.invariant.0,
      one_more _ _ _ _ _ (counted (goal.at.loop-i-preserved c).In-loop-i) c.yard_at-y.ensures c.kinds_at.ensures ∙ l.invariant.1,
    )

pub shape_of-table : goal.shape_of-table
shape_of-table c = c.loop-i.invariant.0 ∙ sym (ap length c.requires.1 ∙ length-replicate {A = ℕ} 1024 0)

pub returns : goal.returns
returns c = sym (table_end _ _ _ _ (omega (arith, c.count-i-end.ensures, c.loop-i-test.false))) ∙ c.loop-i.invariant.1
