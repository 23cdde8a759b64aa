use mathlib.Core.Path.{sym, ◌∙◌}
use borrow.Author.Tests.{not-true, not-false}
use Rattle.book.proofs.Refusals.{passed_on}
use Rattle.road.proofs.Answering.{layout-refused, layout_fails, layout_sound, cut_off, sound}
use Rattle.road.proofs.read.Goals as goal

pub returns-in_err-counts : goal.returns-in_err-counts
returns-in_err-counts c =
    let e = c.in_err-counts.ensures in record {
      answer = rw (passed_on _ _ c.from_residual.ensures.1) (layout-refused _ _ e);
      adjacency = λ z. absurd (layout_fails _ _ e z);
    }

pub fill-requires : goal.fill-requires
fill-requires c = (
  (layout_sound _ _ _ c.in_ok-counts.ensures).0,
  c.requires,
)

pub returns-then-not-connected : goal.returns-then-not-connected
returns-then-not-connected c =
    let s = layout_sound _ _ _ c.in_ok-counts.ensures in
    let a = c.fill.ensures in record {
      answer = cut_off _ s.0 (sym (c.connected.ensures _ a) ∙ not-true _ c.if-not-connected.true-raw);
      adjacency = λ z. a;
    }

pub returns : goal.returns
returns c =
    let s = layout_sound _ _ _ c.in_ok-counts.ensures in
    let a = c.fill.ensures in record {
      answer = sound _ s.0 _ _ (sym (c.connected.ensures _ a) ∙ not-false _ c.if-not-connected.false-raw) s.1 s.2;
      adjacency = λ z. a;
    }
