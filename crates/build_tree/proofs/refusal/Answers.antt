use native.Mathlib.Omega.{arith}
use Rattle.book.proofs.Refusals.{passed_on, refusal_some}
use Rattle.build_tree.proofs.Answering.{build_road, build_yard, build_range, build_work, yard_five, build_room, build_passes}
use Rattle.build_tree.proofs.refusal.Goals as goal

pub returns-in_err-counts : goal.returns-in_err-counts
returns-in_err-counts c =
    let r = c.in_err-counts.ensures in record {
      answer = rw (passed_on _ _ c.from_residual.ensures.1) (build_road _ _ _ _ _ _ _ r.answer);
      adjacency = r.adjacency;
    }

pub returns-in_err-read_in : goal.returns-in_err-read_in
returns-in_err-read_in c =
    let r = c.in_ok-counts.ensures in record {
      answer = rw (passed_on _ _ c.from_residual-in_err-read_in.ensures.1) (build_yard _ _ _ _ _ _ _ _ r.answer _ c.in_err-read_in.ensures);
      adjacency = r.adjacency;
    }

pub returns-in_err-range_refusal : goal.returns-in_err-range_refusal
returns-in_err-range_refusal c =
    let r = c.in_ok-counts.ensures in record {
      answer = rw (passed_on _ _ c.from_residual-in_err-range_refusal.ensures.1) (build_range _ _ _ _ _ _ _ _ r.answer _ c.in_ok-read_in.ensures _
          c.in_err-range_refusal.ensures (refusal_some _));
      adjacency = r.adjacency;
    }

pub returns-then-words-lt-WORDS : goal.returns-then-words-lt-WORDS
returns-then-words-lt-WORDS c =
    let r = c.in_ok-counts.ensures in record {
      answer = build_work _ _ _ _ _ _ _ _ r.answer _ c.in_ok-read_in.ensures c.in_ok-range_refusal.ensures (omega (arith, c.if-words-lt-WORDS.true));
      adjacency = r.adjacency;
    }

pub version-requires : goal.version-requires
version-requires c = yard_five _ _ _ c.in_ok-read_in.ensures

pub returns-then-room-tree_room : goal.returns-then-room-tree_room
returns-then-room-tree_room c =
    let r = c.in_ok-counts.ensures in record {
      answer = build_room _ _ _ _ _ _ _ _ r.answer _ c.in_ok-read_in.ensures c.in_ok-range_refusal.ensures _ _
          c.version.ensures c.tree_room.ensures (omega (arith, c.if-words-lt-WORDS.false)) (omega (arith, c.if-room-tree_room.true));
      adjacency = r.adjacency;
    }

pub returns : goal.returns
returns c =
    let r = c.in_ok-counts.ensures in record {
      answer = build_passes _ _ _ _ _ _ _ _ r.answer _ c.in_ok-read_in.ensures c.in_ok-range_refusal.ensures _ _
          c.version.ensures c.tree_room.ensures (omega (arith, c.if-words-lt-WORDS.false)) (omega (arith, c.if-room-tree_room.false));
      adjacency = r.adjacency;
    }
