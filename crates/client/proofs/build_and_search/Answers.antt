use Rattle.client.proofs.Built.{book-is, book-length, book-room}
use Rattle.client.proofs.Calls.{in_turn_as}
use Rattle.client.proofs.build_and_search.Goals as goal

pub slice_bounds-search_twice-end : goal.slice_bounds-search_twice-end
slice_bounds-search_twice-end c =
    let e = c.build_checked-built.ensures in book-room _ _ _ _ c.args.work.now c.args.tree.now _ _ e.length e.tree

pub slice_bounds-search_twice-end-2 : goal.slice_bounds-search_twice-end-2
slice_bounds-search_twice-end-2 c =
    let e = c.build_checked-built.ensures in book-length _ _ _ _ c.args.work.now c.args.tree.now _ _ e.length e.tree

pub returns : goal.returns
returns c =
    let e = c.build_checked-built.ensures in
    let same = book-is _ _ _ _ c.args.work.now c.args.tree.now _ _ e.length e.tree in record {
      searches = in_turn_as _ _ _ _ _ _ _ _ _ _ _ _ same e.work c.search_twice.ensures;
      tree = e.tree;
    }
