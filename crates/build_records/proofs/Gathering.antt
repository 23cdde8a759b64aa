-- One turn of taking the kinds of yards together. Assumes nothing.
use mathlib.Core.Path.{◌≡◌, refl, sym, ap, ◌∙◌}
use mathlib.Core.List.{List}
use Prim.Native.Nat.{ℕ, ◌+◌, ◌-◌, ◌≤◌, ◌<◌}
use native.Mathlib.Omega.{arith}
use lib.Bits.{bit_or}
use Rattle.kinds.specs.Kinds.{together_from, together}
use Rattle.kinds.proofs.Together.{from-none, from_next, together-from}
use Rattle.yard.specs.Yards.{yard_at, yard_kind, yards_from, kind_of}
use Rattle.yard.proofs.Turns.{yards-none}
use Rattle.build_records.specs.code.Parts.{YardsUpTo}
use Rattle.build_records.proofs.Numbered.{yards-turn, kind_read}

-- the kinds so far, and the yards that are left
pub record Gathering (yb : List ℕ) (from end k x : ℕ) : Type 0 where
  pub low : from ≤ k
  pub high : k ≤ end
  pub same : together_from (kind_of yb) x (yards_from yb (end - k) k) ≡ together (kind_of yb) (yards_from yb (end - from) from)

module _ (yb : List ℕ) (from end : ℕ) (u : YardsUpTo yb from end) where
  pub gathering_start : Gathering yb from end from 0
  gathering_start = record { low = omega arith; high = u.order; same = sym (together-from (kind_of yb) (yards_from yb (end - from) from)) }

  pub gathering_turn : (k x byte next : ℕ) → Gathering yb from end k x → k < end → byte ≡ yard_kind yb k → next ≡ bit_or x byte
      → Gathering yb from end (k + 1) next
  gathering_turn k x byte next g h e f =
      let b : byte ≡ kind_of yb (yard_at yb k) = kind_read yb from end u k (yard_at yb k) byte h refl e in
      let rest = yards_from yb (end - (k + 1)) (k + 1) in
      let a : together_from (kind_of yb) x (yards_from yb (end - k) k) ≡ together_from (kind_of yb) next rest =
      ap (together_from (kind_of yb) x) (yards-turn yb end k (yard_at yb k) h refl) ∙ from_next (kind_of yb) x (yard_at yb k) rest ∙ rw (f, ← b) refl in
      record { low = omega (arith, g.low); high = omega arith; same = sym a ∙ g.same }

  pub gathering_end : (k x : ℕ) → Gathering yb from end k x → end ≤ k → x ≡ together (kind_of yb) (yards_from yb (end - from) from)
  gathering_end k x g h =
      let z : end - k ≡ 0 = omega arith in
      sym (from-none (kind_of yb) x) ∙ (rw (z, yards-none yb k) at g.same)
