use mathlib.Core.Path.{◌≡◌, sym, ◌∙◌}
use native.Mathlib.Omega.{arith}
use borrow.Author.Tests.{not-true, not-false}
use Rattle.book.specs.Open.{open_refusal}
use Rattle.book.proofs.Refusals.{passed_on}
use Rattle.book.proofs.Opening.{opened_body, opens}
use Rattle.road_layout.proofs.Reading.{unopened, refused, sound, no_junction, many_junctions, many_roads, misfit, wrong, right}
use Rattle.road_layout.proofs.read.Goals.{In_ok-open}
use Rattle.road_layout.proofs.read.Goals as goal

-- past the `?` the book opens
body : (c : In_ok-open) → open_refusal c.args.b.now 1 4 ≡ 0
body c = opened_body _ (sym c.in_ok-open.ensures)

pub returns-in_err-open : goal.returns-in_err-open
returns-in_err-open c = rw (passed_on _ _ c.from_residual.ensures.1) (unopened _ _ c.in_err-open.ensures)

pub junction_count-n-requires : goal.junction_count-n-requires
junction_count-n-requires c = omega (arith, (opens _ _ _ (body c)).headed)

pub road_count-roads-requires : goal.road_count-roads-requires
road_count-roads-requires c = omega (arith, (opens _ _ _ (body (goal.at.road_count-roads-requires c).In_ok-open)).headed)

pub returns-then-n-lt1 : goal.returns-then-n-lt1
returns-then-n-lt1 c =
    let o = body (goal.at.returns-then-n-lt1 c).In_ok-open in
    let n = c.junction_count-n.ensures in
    let r = c.road_count-roads.ensures in
    refused _ o _ _ n r 3 (no_junction _ o _ _ n r c.if-n-lt1.true) (omega arith)

pub returns-then-n-gt1024 : goal.returns-then-n-gt1024
returns-then-n-gt1024 c =
    let o = body (goal.at.returns-then-n-gt1024 c).In_ok-open in
    let n = c.junction_count-n.ensures in
    let r = c.road_count-roads.ensures in
    refused _ o _ _ n r 3 (many_junctions _ o _ _ n r (omega arith) (omega (arith, c.if-n-gt1024.true))) (omega arith)

pub returns-then-roads-gt4096 : goal.returns-then-roads-gt4096
returns-then-roads-gt4096 c =
    let o = body (goal.at.returns-then-roads-gt4096 c).In_ok-open in
    let n = c.junction_count-n.ensures in
    let r = c.road_count-roads.ensures in
    refused _ o _ _ n r 3 (many_roads _ o _ _ n r (omega arith) (omega arith) c.if-roads-gt4096.true) (omega arith)

pub returns-then-b-count : goal.returns-then-b-count
returns-then-b-count c =
    let o = body (goal.at.returns-then-b-count c).In_ok-open in
    let n = c.junction_count-n.ensures in
    let r = c.road_count-roads.ensures in
    refused _ o _ _ n r 4 (misfit _ o _ _ n r (omega arith) (omega arith) (omega arith) c.if-b-count.true) (omega arith)

pub returns-then-not-roads_ok : goal.returns-then-not-roads_ok
returns-then-not-roads_ok c =
    let o = body (goal.at.returns-then-not-roads_ok c).In_ok-open in
    let n = c.junction_count-n.ensures in
    let r = c.road_count-roads.ensures in
    let v = sym c.roads_ok.ensures ∙ not-true _ c.if-not-roads_ok.true-raw in
    refused _ o _ _ n r 5 (wrong _ o _ _ n r (omega arith) (omega arith) (omega arith) (omega arith) v) (omega arith)

pub returns : goal.returns
returns c =
    let o = body (goal.at.returns c).In_ok-open in
    let n = c.junction_count-n.ensures in
    let r = c.road_count-roads.ensures in
    let v = sym c.roads_ok.ensures ∙ not-false _ c.if-not-roads_ok.false-raw in
    sound _ o _ _ n r (right _ o _ _ n r (omega arith) (omega arith) (omega arith) (omega arith) v)
