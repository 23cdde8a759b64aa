use mathlib.Core.Path.{◌∙◌}
use Rattle.client.proofs.Built.{kept_again, book-length, book-room, check_is, work-is}
use Rattle.client.proofs.build_checked.Goals as goal

pub returns-then-built-ne0 : goal.returns-then-built-ne0
returns-then-built-ne0 c =
    let e = c.finder_build-built.ensures in record {
      refusal = e.refusal;
      length = e.length;
      work = kept_again _ _ _ _ c.args.work.now c.args.tree.now _ e.refusal c.if-built-ne0.true _ e.work;
      tree = e.tree;
    }

pub slice_bounds-finder_check-end : goal.slice_bounds-finder_check-end
slice_bounds-finder_check-end c =
    let e = c.finder_build-built.ensures in book-room _ _ _ _ c.args.work.now c.args.tree.now _ _ e.length e.tree

pub slice_bounds-finder_check-end-2 : goal.slice_bounds-finder_check-end-2
slice_bounds-finder_check-end-2 c =
    let e = c.finder_build-built.ensures in book-length _ _ _ _ c.args.work.now c.args.tree.now _ _ e.length e.tree

pub returns : goal.returns
returns c =
    let f = c.finder_build-built in
    let e = f.ensures in
    let k = c.finder_check-why.ensures in
    let later = f.new.work in
    let kept = f.auto.work in
    let same = check_is _ _ _ _ c.args.work.now c.args.tree.now _ _ e.length e.tree _ e.refusal c.if-built-ne0.false later kept in record {
      refusal = k.answer ∙ same;
      length = e.length;
      work = work-is _ _ _ _ c.args.work.now c.args.tree.now _ _ e.length e.tree _ e.refusal c.if-built-ne0.false later kept _
          e.work k.work;
      tree = e.tree;
    }
