use native.Mathlib.Omega.{arith}
use Rattle.book.proofs.Refusals.{passed_on, refusal_some}
use Rattle.query.proofs.Reading.{its_limit}
use Rattle.tree.proofs.Fielding.{laid-header}
use Rattle.search_tree.specs.Found.{drive_of, want_of}
use Rattle.search_tree.proofs.Calling.{query-back, asked_of, kinds-back, areas_last, most_of, turned_found, turned_work, turned_results}
use Rattle.search_tree.proofs.Calling.{asking-is, taken-facts, taken-found, taken-work, taken-results}
use Rattle.search_tree.proofs.answering.answer.Goals as goal

pub junctions-requires : goal.junctions-requires
junctions-requires c = c.requires.district.adjacent.size

pub returns-in_err-asked : goal.returns-in_err-asked
returns-in_err-asked c =
    let s = c.args in
    let n = c.junctions.ensures in
    let e = c.in_err-asked.ensures in record {
      found = λ road d. rw (passed_on _ _ c.from_residual.ensures.1) (turned_found _ _ _ _ s.work.now s.results.now _ (query-back d _ _ _ _ _ n _ e) (refusal_some _));
      work = λ road d. turned_work _ _ _ _ s.work.now s.results.now _ (query-back d _ _ _ _ _ n _ e) (refusal_some _);
      results = λ road d. turned_results _ _ _ _ s.work.now s.results.now _ (query-back d _ _ _ _ _ n _ e) (refusal_some _);
    }

pub returns-then-wanted-eq0 : goal.returns-then-wanted-eq0
returns-then-wanted-eq0 c =
    let s = c.args in
    let n = c.junctions.ensures in
    let e = c.in_ok-asked.ensures in
    let t = c.if-wanted-eq0.true in record {
      found = λ road d. turned_found _ _ _ _ s.work.now s.results.now _ (kinds-back d _ (want_of s.want) _ _ _ n _ e t) (omega arith);
      work = λ road d. turned_work _ _ _ _ s.work.now s.results.now _ (kinds-back d _ (want_of s.want) _ _ _ n _ e t) (omega arith);
      results = λ road d. turned_results _ _ _ _ s.work.now s.results.now _ (kinds-back d _ (want_of s.want) _ _ _ n _ e t) (omega arith);
    }

pub header-h-requires : goal.header-h-requires
header-h-requires c = laid-header _ _ c.requires.district.laid

pub returns-in_err-areas_refusal : goal.returns-in_err-areas_refusal
returns-in_err-areas_refusal c =
    let s = c.args in
    let n = c.junctions.ensures in
    let e = c.in_ok-asked.ensures in
    let w = c.if-wanted-eq0.false in
    let l = most_of _ _ c.in_ok-asked.asked.k _ (drive_of s.want.goal) c.header-h.ensures c.most_yards-most.ensures in
    let a = c.in_err-areas_refusal.ensures in record {
      found = λ road d. rw (passed_on _ _ c.from_residual-in_err-areas_refusal.ensures.1)
          (turned_found _ _ _ _ s.work.now s.results.now _ (areas_last d _ (want_of s.want) _ _ _ n _ e w _ _ l a) (refusal_some _));
      work = λ road d. turned_work _ _ _ _ s.work.now s.results.now _ (areas_last d _ (want_of s.want) _ _ _ n _ e w _ _ l a) (refusal_some _);
      results = λ road d. turned_results _ _ _ _ s.work.now s.results.now _ (areas_last d _ (want_of s.want) _ _ _ n _ e w _ _ l a) (refusal_some _);
    }

pub search-requires : goal.search-requires
search-requires c =
    let n = c.junctions.ensures in
    let e = c.in_ok-asked.ensures in
    let w = c.if-wanted-eq0.false in
    let l = most_of _ _ c.in_ok-asked.asked.k _ (drive_of c.args.want.goal) c.header-h.ensures c.most_yards-most.ensures in
    let a = c.in_ok-areas_refusal.ensures in
    let o = asked_of c.requires.district _ (want_of c.args.want) 0 0 _ n _ e in (
      c.requires,
      its_limit _ _ o,
      λ road d. taken-facts _ _ _ (want_of c.args.want) c.args.work.now c.args.results.now
          (areas_last d _ (want_of c.args.want) _ _ _ n _ e w _ _ l a) _
          (asking-is _ _ (want_of c.args.want) _ o c.rule_of-rule.ensures),
    )

pub returns : goal.returns
returns c =
    let s = c.args in
    let n = c.junctions.ensures in
    let e = c.in_ok-asked.ensures in
    let w = c.if-wanted-eq0.false in
    let l = most_of _ _ c.in_ok-asked.asked.k _ (drive_of s.want.goal) c.header-h.ensures c.most_yards-most.ensures in
    let a = c.in_ok-areas_refusal.ensures in
    let f = c.search.ensures in
    let o = asking-is _ _ (want_of s.want) _ (asked_of c.requires.district _ (want_of s.want) 0 0 _ n _ e) c.rule_of-rule.ensures in record {
      found = λ road d. taken-found _ _ _ (want_of s.want) s.work.now s.results.now (areas_last d _ (want_of s.want) _ _ _ n _ e w _ _ l a) _ o _ (f.found road d);
      work = λ road d. taken-work _ _ _ (want_of s.want) s.work.now s.results.now (areas_last d _ (want_of s.want) _ _ _ n _ e w _ _ l a) _ f.work;
      results = λ road d. taken-results _ _ _ (want_of s.want) s.work.now s.results.now (areas_last d _ (want_of s.want) _ _ _ n _ e w _ _ l a) _ o _ (f.results road d);
    }
