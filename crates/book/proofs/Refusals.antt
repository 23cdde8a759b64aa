-- No refusal has the number 0, and what a `?` passes on. Assumes nothing.
use mathlib.Core.Path.{◌≡◌, ap}
use Prim.Native.Nat.{ℕ, ◌≤◌}
use native.Mathlib.Omega.{arith}
use Rattle.std.specs.Result.{IsErrAnd}
use Rattle.std.specs.Prelude.{Result, Err, Ok}
use Rattle.book.specs.Refusals.{refusal_number}
use Rattle.book.specs.declared.refusal.Refusal.{Refusal}
use Rattle.book.specs.declared.refusal.Refusal.TheVariants.{Length, Version, Header, Records, Value, Unreached, Shape, Disagree, Distance, Crews, Number, Area, Wanted}

pub refusal_some : (why : Refusal) → 1 ≤ refusal_number why
refusal_some why =
    elim why as (λ w. 1 ≤ refusal_number w) [
      | Length ↦ omega arith
      | Version ↦ omega arith
      | Header ↦ omega arith
      | Records ↦ omega arith
      | Value ↦ omega arith
      | Unreached ↦ omega arith
      | Shape ↦ omega arith
      | Disagree ↦ omega arith
      | Distance ↦ omega arith
      | Crews ↦ omega arith
      | Number ↦ omega arith
      | Area ↦ omega arith
      | Wanted ↦ omega arith
    ]

-- a refusal that a `?` passes on is the callee's
pub passed_on : {A : Type 0} (r : Result A Refusal) (why : Refusal) → IsErrAnd r (λ e. e ≡ why) → r ≡ Err why
passed_on (Ok x) why h = absurd h
passed_on (Err e) why h = ap Err h
