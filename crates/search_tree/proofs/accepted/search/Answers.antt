use mathlib.Core.Path.{◌≡◌, refl, sym, ◌∙◌}
use mathlib.Core.List.{List, ◌++◌}
use Prim.Native.Nat.{ℕ}
use native.Mathlib.Omega.{arith}
use lib.ListN.{take, drop}
use Rattle.book.specs.Bytes.{Bytes}
use Rattle.work_area.specs.Work.{work_words}
use Rattle.search_run.specs.code.Answers.{answer_of}
use Rattle.search_held.specs.code.Rules.{asking_of}
use Rattle.search_leaf.specs.code.Ready.{Ready}
use Rattle.search_tree.specs.code.District.{District}
use Rattle.search_tree.specs.code.Asking.{answer_by}
use Rattle.search_tree.proofs.Reporting.{found_so, written_so}
use Rattle.search_tree.proofs.Preparing.{bytes-all, part_room, part_of, lent-size, back_full, back-part, back-taken, back-zeroed}
use Rattle.search_tree.proofs.Preparing.{crews_needs, few-crews, results-room, rows_need, same_search, ready}
use Rattle.search_tree.proofs.accepted.search.Goals.{After-prepare}
use Rattle.search_tree.proofs.accepted.search.Goals as goal

-- once the rows are walked, all is ready for the steps
ready_at : (c : After-prepare) (road : List ℕ)
    → District road c.args.tree.now c.args.adj.now c.args.places.now c.args.ends.now
    → Ready road c.args.tree.now (asking_of c.args.asked) (take c.crews-q.result c.crews-q.new.out)
    (take work_words (c.prepare.new.drives ++ drop work_words c.args.work.now)) c.args.places.now c.prepare.new.table
ready_at c road d =
    let a = c.requires.2 road d in
    let tree = c.args.tree.now in
    let bytes : Bytes tree = bytes-all tree (λ i. omega (arith, c.shared_slice_known-2-1.given i)) in
    let p = c.prepare in
    ready d a _ c.crews-q.ensures.count _ c.requires.1 _ c.crews-q.ensures.crews bytes _ _ _
    (back-taken c.args.work.now p.new.drives (p.auto.drives ∙ lent-size c.args.work.now a.accepted.work-full))
    (p.ensures.drives road d.adjacent) p.auto.table (p.ensures.table road d.adjacent)

pub crews-q-requires : goal.crews-q-requires
crews-q-requires c =
    let d = c.requires.0.district in
    let a = c.requires.2 c.requires.0.road d in
    crews_needs d a _ refl

pub slice_bounds-crews-end-2 : goal.slice_bounds-crews-end-2
slice_bounds-crews-end-2 c =
    let d = c.requires.0.district in
    let a = c.requires.2 c.requires.0.road d in
    part_room _ 16 _ (few-crews d a _ c.crews-q.ensures.count) c.crews-q.auto.out

pub slice_bounds-prepare-end : goal.slice_bounds-prepare-end
slice_bounds-prepare-end c =
    let d = c.requires.0.district in
    let a = c.requires.2 c.requires.0.road d in
    part_of _ 16 _ (few-crews d a _ c.crews-q.ensures.count) c.crews-q.auto.out

pub slice_bounds-prepare-end-3 : goal.slice_bounds-prepare-end-3
slice_bounds-prepare-end-3 c =
    let d = c.requires.0.district in
    let a = c.requires.2 c.requires.0.road d in
    a.accepted.work-full

pub slice_bounds-prepare-end-4 : goal.slice_bounds-prepare-end-4
slice_bounds-prepare-end-4 c =
    let d = c.requires.0.district in
    let a = c.requires.2 c.requires.0.road d in
    sym (lent-size c.args.work.now a.accepted.work-full)

pub prepare-requires : goal.prepare-requires
prepare-requires c =
    let d = c.requires.0.district in
    let a = c.requires.2 c.requires.0.road d in
    let tree = c.args.tree.now in
    let bytes : Bytes tree = bytes-all tree (λ i. omega (arith, c.shared_slice_known-2-1.given i)) in
    let lent = lent-size c.args.work.now a.accepted.work-full in
    rows_need d a _ c.crews-q.ensures.count _ c.requires.1 _ c.crews-q.ensures.crews bytes _ _ refl lent

pub slice_bounds-run-end-2 : goal.slice_bounds-run-end-2
slice_bounds-run-end-2 c =
    let d = c.requires.0.district in
    let a = c.requires.2 c.requires.0.road d in
    back_full c.args.work.now c.prepare.new.drives
    (c.prepare.auto.drives ∙ lent-size c.args.work.now a.accepted.work-full)

pub slice_bounds-run-end-3 : goal.slice_bounds-run-end-3
slice_bounds-run-end-3 c =
    let d = c.requires.0.district in
    let a = c.requires.2 c.requires.0.road d in
    back-part c.args.work.now c.prepare.new.drives
    (c.prepare.auto.drives ∙ lent-size c.args.work.now a.accepted.work-full)

pub slice_bounds-crews-end-3 : goal.slice_bounds-crews-end-3
slice_bounds-crews-end-3 c =
    let d = c.requires.0.district in
    let a = c.requires.2 c.requires.0.road d in
    part_room _ 16 _ (few-crews d a _ c.crews-q.ensures.count) c.crews-q.auto.out

pub slice_bounds-run-end-4 : goal.slice_bounds-run-end-4
slice_bounds-run-end-4 c =
    let d = c.requires.0.district in
    let a = c.requires.2 c.requires.0.road d in
    part_of _ 16 _ (few-crews d a _ c.crews-q.ensures.count) c.crews-q.auto.out

pub run-o-requires : goal.run-o-requires
run-o-requires c =
    let d = c.requires.0.district in (
      record { road = c.requires.0.road; ready = ready_at (goal.at.run-o-requires c).After-prepare c.requires.0.road d; adjacent = d.adjacent },
      d.ended,
    )

pub zero_words-requires : goal.zero_words-requires
zero_words-requires c =
    let d = c.requires.0.district in
    let a = c.requires.2 c.requires.0.road d in
    back_full c.args.work.now c.prepare.new.drives
    (c.prepare.auto.drives ∙ lent-size c.args.work.now a.accepted.work-full)

pub report-requires : goal.report-requires
report-requires c =
    let d = c.requires.0.district in
    let a = c.requires.2 c.requires.0.road d in
    let tree = c.args.tree.now in
    let bytes : Bytes tree = bytes-all tree (λ i. omega (arith, c.shared_slice_known-2-1.given i)) in
    let e = c.run-o.ensures.answer _ (ready_at (goal.at.report-requires c).After-prepare _ d) ∙ same_search d a _ c.crews-q.ensures.count _ c.requires.1 _ c.crews-q.ensures.crews in
    results-room d a _ c.crews-q.ensures.count _ c.requires.1 _ c.crews-q.ensures.crews bytes _ e

pub returns : goal.returns
returns c =
    let d = c.requires.0.district in
    let a = c.requires.2 c.requires.0.road d in
    let size = c.prepare.auto.drives ∙ lent-size c.args.work.now a.accepted.work-full in
    let so : (road : List ℕ) → District road c.args.tree.now c.args.adj.now c.args.places.now c.args.ends.now
    → answer_of c.run-o.result
    ≡ answer_by road c.args.tree.now c.args.query.now (asking_of c.args.asked)
    = λ road e. c.run-o.ensures.answer road (ready_at (goal.at.returns c).After-prepare road e)
    ∙ same_search e (c.requires.2 road e) _ c.crews-q.ensures.count _ c.requires.1 _ c.crews-q.ensures.crews in record {
      found = λ road e. found_so _ _ _ c.report.ensures.found (so road e);
      work = back-zeroed c.args.work.now c.prepare.new.drives size _ c.zero_words.ensures;
      results = λ road e. written_so _ _ _ _ c.report.ensures.results (so road e);
    }
