use Rattle.book.proofs.Refusals.{passed_on, refusal_some}
use Rattle.check_tree.proofs.Answering.{check_road, check_yard, road-kept, road-adjacent, yard_sound, check_tree_lem, check_short, check_passes}
use Rattle.adjacency.specs.Adjacency.{Adjacency}
use Rattle.check_tree.proofs.refusal.Goals.{In_ok-counts}
use Rattle.check_tree.proofs.refusal.Goals as goal

-- the adjacency that the road book's reader keeps
kept : (c : In_ok-counts) → Adjacency c.args.road.now c.read.new.adj
kept c = road-kept _ _ _ c.in_ok-counts.ensures.answer _ c.in_ok-counts.ensures.adjacency

pub returns-in_err-counts : goal.returns-in_err-counts
returns-in_err-counts c = rw (passed_on _ _ c.from_residual.ensures.1) (check_road _ _ _ _ _ c.in_err-counts.ensures.answer)

pub returns-in_err-read_in : goal.returns-in_err-read_in
returns-in_err-read_in c =
    rw (passed_on _ _ c.from_residual-in_err-read_in.ensures.1) (check_yard _ _ _ _ _ _ c.in_ok-counts.ensures.answer _ c.in_err-read_in.ensures)

pub tree_refusal-requires : goal.tree_refusal-requires
tree_refusal-requires c = (
  road-adjacent _ _ _ c.in_ok-counts.ensures.answer _ c.in_ok-counts.ensures.adjacency,
  yard_sound _ _ _ c.in_ok-counts.ensures.answer _ _ c.in_ok-read_in.ensures,
)

pub returns-in_err-tree_refusal : goal.returns-in_err-tree_refusal
returns-in_err-tree_refusal c =
    rw (passed_on _ _ c.from_residual-in_err-tree_refusal.ensures.1) (check_tree_lem _ _ _ _ _ _ c.in_ok-counts.ensures.answer _ c.in_ok-read_in.ensures _
    (c.in_err-tree_refusal.ensures _ (kept (goal.at.returns-in_err-tree_refusal c).In_ok-counts)) (refusal_some _))

pub returns-then-words-lt-WORDS : goal.returns-then-words-lt-WORDS
returns-then-words-lt-WORDS c =
    check_short _ _ _ _ _ _ c.in_ok-counts.ensures.answer _ c.in_ok-read_in.ensures
    (c.in_ok-tree_refusal.ensures _ (kept (goal.at.returns-then-words-lt-WORDS c).In_ok-counts)) c.if-words-lt-WORDS.true

pub returns : goal.returns
returns c =
    check_passes _ _ _ _ _ _ c.in_ok-counts.ensures.answer _ c.in_ok-read_in.ensures
    (c.in_ok-tree_refusal.ensures _ (kept (goal.at.returns c).In_ok-counts)) c.if-words-lt-WORDS.false
