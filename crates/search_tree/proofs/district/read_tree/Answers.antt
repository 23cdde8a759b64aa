use Rattle.book.proofs.Refusals.{passed_on}
use Rattle.search_tree.proofs.Reading.{tree_own, tree_differs, tree_agrees}
use Rattle.search_tree.proofs.district.read_tree.Goals as goal

pub returns-in_err-header : goal.returns-in_err-header
returns-in_err-header c =
    let r = c.in_err-header.ensures in
    record { answer = rw (passed_on _ _ c.from_residual.ensures.1) (tree_own _ _ _ r.answer); places = r.places; ends = r.ends }

pub returns-then-header-n : goal.returns-then-header-n
returns-then-header-n c =
    let r = c.in_ok-header.ensures in
    record { answer = tree_differs _ _ _ r.answer c.if-header-n.true; places = r.places; ends = r.ends }

pub returns : goal.returns
returns c =
    let r = c.in_ok-header.ensures in
    record { answer = tree_agrees _ _ _ r.answer c.if-header-n.false; places = r.places; ends = r.ends }
