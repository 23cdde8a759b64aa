use Rattle.book.proofs.Refusals.{passed_on, refusal_some}
use Rattle.check_tree.proofs.Answering.{work-kept, work-enough_for, work-zeroed}
use Rattle.check_tree.proofs.check.Goals as goal

pub returns-in_err-refusal : goal.returns-in_err-refusal
returns-in_err-refusal c =
    let e = c.in_err-refusal.ensures in record {
      answer = rw (passed_on _ _ c.from_residual.ensures.1) e;
      work = work-kept _ _ _ c.args.work.now _ e (refusal_some _);
    }

pub zero_words-requires : goal.zero_words-requires
zero_words-requires c = work-enough_for _ _ _ c.args.work.now c.in_ok-refusal.ensures

pub returns : goal.returns
returns c =
    let e = c.in_ok-refusal.ensures in record {
      answer = e;
      work = work-zeroed _ _ _ c.args.work.now e _ c.zero_words.ensures;
    }
