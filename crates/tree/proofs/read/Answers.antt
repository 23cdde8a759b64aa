use mathlib.Core.Path.{sym}
use Rattle.book.proofs.Refusals.{passed_on, refusal_some}
use Rattle.tree_layout.proofs.Refusing.{laid-number}
use Rattle.tree.proofs.Answering.{refused-answer, unshaped_answer, shaped-answer}
use Rattle.tree.proofs.read.Goals as goal

pub returns-in_err-h : goal.returns-in_err-h
returns-in_err-h c =
    let h = refused-answer c.args.b.now c.args.places.now c.args.ends.now _ c.in_err-h.ensures in
    record { answer = rw (passed_on _ _ c.from_residual.ensures.1) h.0; places = h.1.0; ends = h.1.1 }

pub shape_refusal-requires : goal.shape_refusal-requires
shape_refusal-requires c = ((laid-number _ _ _ (sym c.in_ok-h.ensures)).0, c.requires.0, c.requires.1)

pub returns-in_err-shape_refusal : goal.returns-in_err-shape_refusal
returns-in_err-shape_refusal c =
    let h = c.in_err-shape_refusal.ensures in
    record {
      answer = rw (passed_on _ _ c.from_residual-in_err-shape_refusal.ensures.1) (unshaped_answer _ _ h.answer (refusal_some _));
      places = h.places;
      ends = h.ends;
    }

pub returns : goal.returns
returns c =
    let h = c.in_ok-shape_refusal.ensures in
    record {
      answer = shaped-answer _ _ h.answer (laid-number _ _ _ (sym c.in_ok-h.ensures)).1;
      places = h.places;
      ends = h.ends;
    }
