use Rattle.book.proofs.Refusals.{passed_on}
use Rattle.search_tree.proofs.Reading.{on_accepted, road-back, tree_last, is-district}
use Rattle.search_tree.proofs.district.read.Goals as goal

pub read-requires : goal.read-requires
read-requires c = c.requires.0

pub returns-in_err-counts : goal.returns-in_err-counts
returns-in_err-counts c =
    let p = passed_on _ _ c.from_residual.ensures.1 in record {
      answer = rw p (road-back _ _ _ c.in_err-counts.ensures.answer);
      district = rw p tt;
    }

pub read_tree-requires : goal.read_tree-requires
read_tree-requires c =
    let s = c.requires in
    (s.1, s.2)

pub returns : goal.returns
returns c =
    let s = c.requires in
    let r = c.in_ok-counts.ensures in
    let t = c.read_tree.ensures in record {
      answer = tree_last _ _ _ _ r.answer _ t.answer;
      district = on_accepted _ (is-district _ _ _ _ r.answer _ t.answer _ r.adjacency _ _ s.1 t.places _ _ s.2 t.ends);
    }
