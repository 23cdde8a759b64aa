use native.Mathlib.Omega.{arith}
use Rattle.book.proofs.Refusals.{passed_on, refusal_some}
use Rattle.build_tree.specs.Facts.{AcceptedBuild}
use lib.ListN.{length}
use Rattle.build_tree.proofs.Limits.{short-most}
use Rattle.build_tree.proofs.Answering.{turned_length, turned_work, turned_tree, taken-facts, taken-length, taken-work, taken-tree, other-work}
use Rattle.build_tree.proofs.build.Goals.{In_ok-refusal}
use Rattle.build_tree.proofs.build.Goals as goal

-- the call that no test turns back
accepted : (c : In_ok-refusal) → AcceptedBuild c.args.road.now c.args.yard.now c.args.m c.args.limit (length c.args.work.now) (length c.args.tree.now)
accepted c = taken-facts _ _ _ _ c.args.work.now c.args.tree.now c.in_ok-refusal.ensures.answer

pub returns-in_err-refusal : goal.returns-in_err-refusal
returns-in_err-refusal c =
    let e = c.in_err-refusal.ensures.answer in
    let p = passed_on _ _ c.from_residual.ensures.1 in record {
      refusal = rw p e;
      length = rw p (turned_length _ _ _ _ c.args.work.now c.args.tree.now _ e (refusal_some _));
      work = turned_work _ _ _ _ c.args.work.now c.args.tree.now _ e (refusal_some _);
      tree = turned_tree _ _ _ _ c.args.work.now c.args.tree.now _ e (refusal_some _);
    }

pub put_tree-end-requires : goal.put_tree-end-requires
put_tree-end-requires c =
    let a = accepted (goal.at.put_tree-end-requires c).In_ok-refusal in
    record { book = c.args.road.now; adjacent = c.in_ok-refusal.ensures.adjacency a.roads; accepted = other-work _ _ _ _ _ _ a }

pub zero_words-requires : goal.zero_words-requires
zero_words-requires c = (accepted (goal.at.zero_words-requires c).In_ok-refusal).areas.work

pub overflow_cast-result : goal.overflow_cast-result
overflow_cast-result c =
    let a = accepted (goal.at.overflow_cast-result c).In_ok-refusal in
    omega (arith, c.put_tree-end.ensures.answer c.args.road.now (c.in_ok-refusal.ensures.adjacency a.roads), short-most _ _ _ _ _ _ a)

pub returns : goal.returns
returns c =
    let e = c.in_ok-refusal.ensures in
    let a = accepted (goal.at.returns c).In_ok-refusal in
    let d = e.adjacency a.roads in
    let w = c.put_tree-end.ensures in record {
      refusal = e.answer;
      length = taken-length _ _ _ _ c.args.work.now c.args.tree.now e.answer _ (w.answer c.args.road.now d);
      work = taken-work _ _ _ _ c.args.work.now c.args.tree.now e.answer _ c.zero_words.ensures;
      tree = taken-tree _ _ _ _ c.args.work.now c.args.tree.now e.answer _ (w.tree c.args.road.now d);
    }
