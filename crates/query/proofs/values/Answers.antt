use mathlib.Core.Path.{sym}
use native.Mathlib.Omega.{arith}
use Rattle.query.proofs.Reading.{other-code, no_k, large_k, good_values}
use Rattle.query.proofs.values.Goals as goal

pub returns-then-aggregate-gt1 : goal.returns-then-aggregate-gt1
returns-then-aggregate-gt1 c = sym (other-code _ _ (omega arith))

pub returns-then-k-lt1 : goal.returns-then-k-lt1
returns-then-k-lt1 c = sym (no_k _ _ (omega arith) (omega arith))

pub returns-then-k-gt64 : goal.returns-then-k-gt64
returns-then-k-gt64 c = sym (large_k _ _ (omega arith) (omega arith) (omega arith))

pub returns : goal.returns
returns c = sym (good_values _ _ (omega arith) (omega arith) (omega arith))
