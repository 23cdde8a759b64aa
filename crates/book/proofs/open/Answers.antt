use mathlib.Core.Path.{sym, ap}
use native.Mathlib.Omega.{arith}
use Rattle.book.specs.Open.{opened}
use Rattle.book.proofs.Opening.{short, miscounted, unversioned, later, headless, whole}
use Rattle.book.proofs.open.Goals as goal

pub returns-then-n-lt5 : goal.returns-then-n-lt5
unfolding opened
returns-then-n-lt5 c = sym (ap opened (short _ _ _ c.if-n-lt5.true))

pub returns-then-u32_at-n : goal.returns-then-u32_at-n
unfolding opened
returns-then-u32_at-n c = sym (ap opened (miscounted _ _ _ (omega arith) (λ e. c.if-u32_at-n.true (omega arith))))

pub returns-then-given-lt1 : goal.returns-then-given-lt1
unfolding opened
returns-then-given-lt1 c = sym (ap opened (unversioned _ _ _ (omega arith) (omega arith) (omega arith)))

pub returns-then-latest-given : goal.returns-then-latest-given
unfolding opened
returns-then-latest-given c = sym (ap opened (later _ _ _ (omega arith) (omega arith) (omega arith) (omega arith)))

pub returns-then-n-header : goal.returns-then-n-header
unfolding opened
returns-then-n-header c = sym (ap opened (headless _ _ _ (omega arith) (omega arith) (omega arith) (omega arith) (omega arith)))

pub returns : goal.returns
unfolding opened
returns c = sym (ap opened (whole _ _ _ (omega arith) (omega arith) (omega arith) (omega arith) (omega arith)))
