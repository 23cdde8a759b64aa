use mathlib.Core.Path.{◌≡◌, sym, ◌∙◌}
use mathlib.Core.Bool.{true}
use Prim.Native.Nat.{◌≤◌}
use native.Mathlib.Omega.{arith}
use borrow.Author.Tests.{not-true, not-false}
use lib.ListN.{length}
use Rattle.book.specs.Open.{open_refusal}
use Rattle.book.proofs.Choosing.{true_T}
use Rattle.book.proofs.Opening.{opened_body, opened-refused, opens}
use Rattle.book.proofs.Refusals.{passed_on}
use Rattle.tree_layout.specs.Decode.{junction_count, region_count, tree_yard_count, landmark_count}
use Rattle.tree_layout.specs.Refusal.{between, records_ok}
use Rattle.tree_layout.proofs.Tests.{between_both}
use Rattle.tree_layout.proofs.Refusing.{unopened, junctions_out, regions_out, yards_out, landmarks_out, records_out, values_out, laid_out, limit}
use Rattle.tree_layout.proofs.Refusing.{records_read, values_read, junctions_read, regions_read, yards_read, landmarks_read}
use Rattle.tree_layout.proofs.layout.Goals.{Else-not-records_ok, Else-not-within, Else-not-within-2, Else-not-within-3, Else-not-within-4, In_ok-open}
use Rattle.tree_layout.proofs.layout.Goals as goal

-- the book has opened
body : (c : In_ok-open) → open_refusal c.args.b.now 2 7 ≡ 0
body c = opened_body _ (sym c.in_ok-open.ensures)

-- its header is whole
whole : (c : In_ok-open) → 12 ≤ length c.args.b.now
whole c = (opens _ _ _ (body c)).headed

-- the counts that are within their limits
junctions_in : (c : Else-not-within) → between 1 1024 (junction_count c.args.b.now) ≡ true
junctions_in c = limit _ _ _ _ _ _ c.within.ensures (c.u16_at-junctions.ensures
    ∙ junctions_read _) (not-false _ c.if-not-within.false-raw)

regions_in : (c : Else-not-within-2) → between 1 511 (region_count c.args.b.now) ≡ true
regions_in c = limit _ _ _ _ _ _ c.within-2.ensures (c.u16_at-regions.ensures
    ∙ regions_read _) (not-false _ c.if-not-within-2.false-raw)

yards_in_lem : (c : Else-not-within-3) → between 1 256 (tree_yard_count c.args.b.now) ≡ true
yards_in_lem c = limit _ _ _ _ _ _ c.within-3.ensures (c.u16_at.ensures ∙ yards_read _) (not-false _ c.if-not-within-3.false-raw)

landmarks_in : (c : Else-not-within-4) → between 1 4 (landmark_count c.args.b.now) ≡ true
landmarks_in c = limit _ _ _ _ _ _ c.within-4.ensures (c.u8_at-landmarks.ensures
    ∙ landmarks_read _) (not-false _ c.if-not-within-4.false-raw)

-- a region has at most four landmarks
few : (c : Else-not-within-4) → c.u8_at-landmarks.result ≤ 4
few c = omega (
  arith,
  between_both 1 4 _ (true_T (landmarks_in c)),
  c.u8_at-landmarks.ensures ∙
      landmarks_read _,
)

-- the records take up the book
records-in : (c : Else-not-records_ok) → records_ok c.args.b.now (landmark_count c.args.b.now) (region_count c.args.b.now) 12 ≡ true
records-in c =
    records_read _ _ _ (c.u8_at-landmarks.ensures
    ∙ landmarks_read _) (c.u16_at-regions.ensures
    ∙ regions_read _) _ _ (not-false _ c.if-not-records_ok.false-raw) c.records_ok.ensures

pub returns-in_err-open : goal.returns-in_err-open
returns-in_err-open c =
    let q = opened-refused _ _ (sym c.in_err-open.ensures) in
    rw (passed_on _ _ c.from_residual.ensures.1) (sym (unopened _ _ q.0 q.1))

pub u16_at-junctions-requires : goal.u16_at-junctions-requires
u16_at-junctions-requires c = omega (arith, whole c)

pub u16_at-regions-requires : goal.u16_at-regions-requires
u16_at-regions-requires c = omega (arith, whole (goal.at.u16_at-regions-requires c).In_ok-open)

pub u8_at-landmarks-requires : goal.u8_at-landmarks-requires
u8_at-landmarks-requires c = whole (goal.at.u8_at-landmarks-requires c).In_ok-open

pub returns-then-not-within : goal.returns-then-not-within
returns-then-not-within c =
    sym (junctions_out _ (body (goal.at.returns-then-not-within c).In_ok-open)
    (limit _ _ _ _ _ _ c.within.ensures (c.u16_at-junctions.ensures ∙ junctions_read _) (not-true _ c.if-not-within.true-raw)))

pub returns-then-not-within-2 : goal.returns-then-not-within-2
returns-then-not-within-2 c =
    sym (regions_out _ (body (goal.at.returns-then-not-within-2 c).In_ok-open) (junctions_in (goal.at.returns-then-not-within-2 c).Else-not-within)
    (limit _ _ _ _ _ _ c.within-2.ensures (c.u16_at-regions.ensures
    ∙ regions_read _) (not-true _ c.if-not-within-2.true-raw)))

pub u16_at-requires : goal.u16_at-requires
u16_at-requires c = omega (arith, whole (goal.at.u16_at-requires c).In_ok-open)

pub returns-then-not-within-3 : goal.returns-then-not-within-3
returns-then-not-within-3 c =
    sym (yards_out _ (body (goal.at.returns-then-not-within-3 c).In_ok-open) (junctions_in (goal.at.returns-then-not-within-3 c).Else-not-within) (regions_in (goal.at.returns-then-not-within-3 c).Else-not-within-2)
    (limit _ _ _ _ _ _ c.within-3.ensures (c.u16_at.ensures ∙ yards_read _) (not-true _ c.if-not-within-3.true-raw)))

pub returns-then-not-within-4 : goal.returns-then-not-within-4
returns-then-not-within-4 c =
    sym (landmarks_out _ (body (goal.at.returns-then-not-within-4 c).In_ok-open) (junctions_in (goal.at.returns-then-not-within-4 c).Else-not-within) (regions_in (goal.at.returns-then-not-within-4 c).Else-not-within-2) (yards_in_lem (goal.at.returns-then-not-within-4 c).Else-not-within-3)
    (limit _ _ _ _ _ _ c.within-4.ensures (c.u8_at-landmarks.ensures
    ∙ landmarks_read _) (not-true _ c.if-not-within-4.true-raw)))

pub records_ok-requires : goal.records_ok-requires
records_ok-requires c = (omega (arith, few c), whole (goal.at.records_ok-requires c).In_ok-open)

pub returns-then-not-records_ok : goal.returns-then-not-records_ok
returns-then-not-records_ok c =
    sym (records_out _ (body (goal.at.returns-then-not-records_ok c).In_ok-open) (junctions_in (goal.at.returns-then-not-records_ok c).Else-not-within) (regions_in (goal.at.returns-then-not-records_ok c).Else-not-within-2) (yards_in_lem (goal.at.returns-then-not-records_ok c).Else-not-within-3)
    (landmarks_in (goal.at.returns-then-not-records_ok c).Else-not-within-4)
    (records_read _ _ _ (c.u8_at-landmarks.ensures
    ∙ landmarks_read _) (c.u16_at-regions.ensures
    ∙ regions_read _) _ _ (not-true _ c.if-not-records_ok.true-raw) c.records_ok.ensures))

pub values_ok-requires : goal.values_ok-requires
values_ok-requires c = (
  omega (arith, few (goal.at.values_ok-requires c).Else-not-within-4),
  whole (goal.at.values_ok-requires c).In_ok-open,
  sym c.records_ok.ensures ∙ not-false _ c.if-not-records_ok.false-raw,
)

pub returns-then-not-values_ok : goal.returns-then-not-values_ok
returns-then-not-values_ok c =
    sym (values_out _ (body (goal.at.returns-then-not-values_ok c).In_ok-open) (junctions_in (goal.at.returns-then-not-values_ok c).Else-not-within) (regions_in (goal.at.returns-then-not-values_ok c).Else-not-within-2) (yards_in_lem (goal.at.returns-then-not-values_ok c).Else-not-within-3)
    (landmarks_in (goal.at.returns-then-not-values_ok c).Else-not-within-4) (records-in (goal.at.returns-then-not-values_ok c).Else-not-records_ok)
    (values_read _ _ _ (c.u8_at-landmarks.ensures
    ∙ landmarks_read _) (c.u16_at-regions.ensures
    ∙ regions_read _) _ _ (not-true _ c.if-not-values_ok.true-raw)
    _ (c.u16_at-junctions.ensures
    ∙ junctions_read _) c.values_ok.ensures))

pub returns : goal.returns
returns c =
    sym (laid_out _ (body (goal.at.returns c).In_ok-open) (junctions_in (goal.at.returns c).Else-not-within) (regions_in (goal.at.returns c).Else-not-within-2) (yards_in_lem (goal.at.returns c).Else-not-within-3)
    (landmarks_in (goal.at.returns c).Else-not-within-4) (records-in (goal.at.returns c).Else-not-records_ok)
    (values_read _ _ _ (c.u8_at-landmarks.ensures
    ∙ landmarks_read _) (c.u16_at-regions.ensures
    ∙ regions_read _) _ _ (not-false _ c.if-not-values_ok.false-raw)
    _ (c.u16_at-junctions.ensures
    ∙ junctions_read _) c.values_ok.ensures))
