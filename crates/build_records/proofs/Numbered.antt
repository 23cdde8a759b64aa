-- The yards of a book by their numbers. Assumes nothing.
use mathlib.Core.Path.{◌≡◌, refl, sym, ap, ◌∙◌}
use mathlib.Core.List.{List, ◌∷◌, Memᴰ as Mem}
use Prim.Native.Nat.{ℕ, suc, ◌+◌, ◌-◌, ◌≤◌, ◌<◌}
use native.Mathlib.Numerals.{add-one}
use native.Mathlib.Omega.{arith}
use lib.ListN.{get_or}
use Rattle.book.proofs.Lists.{mem_get_d}
use Rattle.yard.specs.Yards.{yard_at, yard_kind, yards_from, yards_of, kind_of}
use Rattle.yard.proofs.YardLayout.{layout, yards-at}
use Rattle.yard.proofs.Listing.{from-length, from_at}
use Rattle.yard.proofs.Tables.{kind_of_lem}
use Rattle.yard.proofs.Turns.{yards-next}
use Rattle.build_records.specs.code.Parts.{YardsUpTo}

-- the yard of number k, then those after it
pub yards-turn : (yb : List ℕ) (to k y : ℕ) → k < to → y ≡ yard_at yb k → yards_from yb (to - k) k ≡ y ∷ yards_from yb (to - (k + 1)) (k + 1)
yards-turn yb to k y h e =
    let s : to - k ≡ suc (to - (k + 1)) = omega arith in
    rw s (yards-next yb (to - (k + 1)) k ∙ rw (← e, add-one k) refl)

module _ (yb : List ℕ) (from to : ℕ) (u : YardsUpTo yb from to) where
  -- a yard that is read, and that it is a junction below 1,024
  pub yard_read : (k y : ℕ) → k < to → y ≡ get_or (yards_of yb) k 0 → y ≡ yard_at yb k
  yard_read k y h e = e ∙ yards-at yb k (omega (arith, u.most))

  pub yard-low : (k : ℕ) → k < to → yard_at yb k < 1024
  yard-low k h = (layout yb u.passes).below k (omega (arith, u.most))

  pub yard-fits : (k y : ℕ) → k < to → y ≡ get_or (yards_of yb) k 0 → y < 1024
  yard-fits k y h e = rw (yard_read k y h e) (yard-low k h)

  -- the kinds that are read with it
  pub kind_read : (k y x : ℕ) → k < to → y ≡ yard_at yb k → x ≡ yard_kind yb k → x ≡ kind_of yb y
  kind_read k y x h e f = f ∙ sym (kind_of_lem yb u.passes k (omega (arith, u.most))) ∙ ap (kind_of yb) (sym e)

  -- each of the yards has a number
  pub yard-number : (y : ℕ) → Mem y (yards_from yb (to - from) from) → (k : ℕ) × (k < to) × (y ≡ yard_at yb k)
  yard-number y m =
      let x = mem_get_d (yards_from yb (to - from) from) 0 y m in
      let i : x.0 < to - from = omega (arith, x.1, from-length yb (to - from) from) in
      (from + x.0, omega arith, x.2 ∙ from_at yb (to - from) from x.0 i)

  -- there are no more than 256
  pub yards-few : to ≤ 256
  yards-few = omega (arith, u.most, (layout yb u.passes).most)
