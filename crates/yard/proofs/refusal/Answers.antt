use native.Mathlib.Omega.{arith}
use mathlib.Core.Path.{◌≡◌, sym, ◌∙◌}
use borrow.Author.Tests.{not-true, not-false}
use Rattle.book.specs.Open.{open_refusal}
use Rattle.book.proofs.Opening.{opened_body, opened-refused, opens}
use Rattle.book.proofs.Refusals.{passed_on}
use Rattle.yard.proofs.Refusing.{unopened, none, many, unsized, unordered, unkinded, sound}
use Rattle.yard.proofs.refusal.Goals.{In_ok-open}
use Rattle.yard.proofs.refusal.Goals as goal

-- the book has opened
body : (c : In_ok-open) → open_refusal c.args.b.now 2 2 ≡ 0
body c = opened_body _ (sym c.in_ok-open.ensures)

pub returns-in_err-open : goal.returns-in_err-open
returns-in_err-open c =
    let q = opened-refused _ _ (sym c.in_err-open.ensures) in
    rw (passed_on _ _ c.from_residual.ensures.1) (sym (unopened _ _ q.0 q.1))

pub u16_at-count-requires : goal.u16_at-count-requires
u16_at-count-requires c = (opens _ _ _ (body c)).headed

pub returns-then-count-lt1 : goal.returns-then-count-lt1
returns-then-count-lt1 c =
    sym (none _ (body (goal.at.returns-then-count-lt1 c).In_ok-open) _ c.u16_at-count.ensures (omega (arith, c.if-count-lt1.true)))

pub returns-then-count-gt256 : goal.returns-then-count-gt256
returns-then-count-gt256 c =
    sym (many _ (body (goal.at.returns-then-count-gt256 c).In_ok-open) _ c.u16_at-count.ensures (omega (arith, c.if-count-lt1.false)) (omega (arith, c.if-count-gt256.true)))

pub place-requires : goal.place-requires
place-requires c = (omega (arith, (opens _ _ _ (body (goal.at.place-requires c).In_ok-open)).headed), omega (arith, c.if-count-gt256.false))

pub returns-then-b-place : goal.returns-then-b-place
returns-then-b-place c =
    sym (unsized _ (body (goal.at.returns-then-b-place c).In_ok-open) _ c.u16_at-count.ensures (omega (arith, c.if-count-lt1.false)) (omega (arith, c.if-count-gt256.false))
    (λ e. c.if-b-place.true (e ∙ sym c.place.ensures)))

pub yards_rise-requires : goal.yards_rise-requires
yards_rise-requires c = (
  omega (arith, (opens _ _ _ (body (goal.at.yards_rise-requires c).In_ok-open)).headed),
  omega (arith, c.if-count-gt256.false),
  omega (arith, c.place.ensures, c.if-b-place.false),
)

pub returns-then-not-yards_rise : goal.returns-then-not-yards_rise
returns-then-not-yards_rise c =
    sym (unordered _ (body (goal.at.returns-then-not-yards_rise c).In_ok-open) _ c.u16_at-count.ensures (omega (arith, c.if-count-lt1.false)) (omega (arith, c.if-count-gt256.false))
    (c.if-b-place.false ∙ c.place.ensures)
    (sym c.yards_rise.ensures ∙ not-true _ c.if-not-yards_rise.true-raw))

pub kinds_set-requires : goal.kinds_set-requires
kinds_set-requires c = (
  omega (arith, (opens _ _ _ (body (goal.at.kinds_set-requires c).In_ok-open)).headed),
  omega (arith, c.if-count-gt256.false),
  omega (arith, c.place.ensures, c.if-b-place.false),
)

pub returns-then-not-kinds_set : goal.returns-then-not-kinds_set
returns-then-not-kinds_set c =
    sym (unkinded _ (body (goal.at.returns-then-not-kinds_set c).In_ok-open) _ c.u16_at-count.ensures (omega (arith, c.if-count-lt1.false)) (omega (arith, c.if-count-gt256.false))
    (c.if-b-place.false ∙ c.place.ensures)
    (sym c.yards_rise.ensures ∙ not-false _ c.if-not-yards_rise.false-raw)
    (sym c.kinds_set.ensures ∙ not-true _ c.if-not-kinds_set.true-raw))

pub returns : goal.returns
returns c =
    sym (sound _ (body (goal.at.returns c).In_ok-open) _ c.u16_at-count.ensures (omega (arith, c.if-count-lt1.false)) (omega (arith, c.if-count-gt256.false))
    (c.if-b-place.false ∙ c.place.ensures)
    (sym c.yards_rise.ensures ∙ not-false _ c.if-not-yards_rise.false-raw)
    (sym c.kinds_set.ensures ∙ not-false _ c.if-not-kinds_set.false-raw))
