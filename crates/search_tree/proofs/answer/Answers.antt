use mathlib.Core.Path.{refl}
use lib.ListN.{length}
use Rattle.book.proofs.Refusals.{passed_on, refusal_some}
use Rattle.search_tree.specs.Found.{want_of}
use Rattle.search_tree.proofs.Reading.{district-back, header-room, regions_are, few-regions, part_length, same-district}
use Rattle.search_tree.proofs.Calling.{turned_found, turned_work, turned_results}
use Rattle.search_tree.proofs.answer.Goals as goal

pub returns-in_err-read : goal.returns-in_err-read
returns-in_err-read c =
    let s = c.args in
    let b = district-back _ _ _ (want_of s.want) (length s.work.now) (length s.results.now) _ c.in_err-read.ensures.answer (refusal_some _) in record {
      found = rw (passed_on _ _ c.from_residual.ensures.1) (turned_found _ _ _ _ s.work.now s.results.now _ b (refusal_some _));
      work = turned_work _ _ _ _ s.work.now s.results.now _ b (refusal_some _);
      results = turned_results _ _ _ _ s.work.now s.results.now _ b (refusal_some _);
    }

pub header-header-requires : goal.header-header-requires
header-header-requires c = header-room (c.in_ok-read.ensures.district)

pub slice_bounds-places-end : goal.slice_bounds-places-end
slice_bounds-places-end c =
    let r = c.read in
    few-regions (c.in_ok-read.ensures.district) _ c.header-header.ensures _ refl _ r.auto.places

pub slice_bounds-answer-end-2 : goal.slice_bounds-answer-end-2
slice_bounds-answer-end-2 c =
    let r = c.read in
    part_length (c.in_ok-read.ensures.district) _ c.header-header.ensures _ refl _ r.auto.places

pub slice_bounds-ends-end : goal.slice_bounds-ends-end
slice_bounds-ends-end c =
    let r = c.read in
    few-regions (c.in_ok-read.ensures.district) _ c.header-header.ensures _ refl _ r.auto.ends

pub slice_bounds-answer-end-3 : goal.slice_bounds-answer-end-3
slice_bounds-answer-end-3 c =
    let r = c.read in
    part_length (c.in_ok-read.ensures.district) _ c.header-header.ensures _ refl _ r.auto.ends

pub answer-requires : goal.answer-requires
answer-requires c =
    let d = c.in_ok-read.ensures.district in
    record { road = _; district = same-district _ _ _ _ _ _ _ (regions_are d _ c.header-header.ensures _ refl) d }

pub returns : goal.returns
returns c =
    let d = c.in_ok-read.ensures.district in
    let e = same-district _ _ _ _ _ _ _ (regions_are d _ c.header-header.ensures _ refl) d in
    let f = c.answer.ensures in record {
      found = f.found _ e;
      work = f.work _ e;
      results = f.results _ e;
    }
