use mathlib.Core.Path.{◌∙◌}
use native.Mathlib.Omega.{arith}
use Rattle.listing.proofs.Taking.{within, sized, found-is, results_are}
use Rattle.listing.proofs.books.find.Goals as goal

pub slice_bounds-rest-count : goal.slice_bounds-rest-count
slice_bounds-rest-count c = omega (arith, within _ _ c.book_end-end.ensures)

pub slice_bounds-rest-start : goal.slice_bounds-rest-start
slice_bounds-rest-start c = omega (arith, within _ _ c.book_end-end.ensures)

pub slice_bounds-search-end : goal.slice_bounds-search-end
slice_bounds-search-end c = sized _ _ c.book_end-end.ensures

pub slice_bounds-search-end-2 : goal.slice_bounds-search-end-2
slice_bounds-search-end-2 c = sized _ _ c.book_end-stop.ensures

pub slice_bounds-search-count : goal.slice_bounds-search-count
slice_bounds-search-count c = within _ _ c.book_end-stop.ensures

pub slice_bounds-search-start : goal.slice_bounds-search-start
slice_bounds-search-start c = within _ _ c.book_end-stop.ensures

pub returns : goal.returns
returns c =
    let e = c.search.ensures in
    let first = c.book_end-end.ensures in
    let second = c.book_end-stop.ensures in record {
      found = e.found ∙ found-is _ _ _ first second _ _;
      results = e.results ∙ results_are _ _ _ first second _ _;
      room = e.room;
    }
