-- An aggregate and its code. Assumes nothing.
use mathlib.Core.Path.{◌≡◌, refl}
use Prim.Native.Nat.{ℕ, zero, suc, min}
use native.Mathlib.Omega.{arith}
use Rattle.query.specs.code.Aggregates.{aggregate_by, code_of}

-- a code is that of its aggregate, and each above 1 is taken for 1
pub code_kept : (code : ℕ) → code_of (aggregate_by code) ≡ min code 1
code_kept zero = refl
code_kept (suc zero) = refl
code_kept (suc (suc n)) = omega arith
