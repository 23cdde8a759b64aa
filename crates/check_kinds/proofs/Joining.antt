-- The bits of the yards in a range together, one yard at a time. Assumes nothing.
use mathlib.Core.Path.{◌≡◌, sym, ap, ◌∙◌}
use mathlib.Core.Bool.{true, false, ◌&&◌}
use mathlib.Core.List.{List, [], ◌∷◌}
use Prim.Native.Nat.{ℕ, ◌+◌, ◌≤◌, ◌<◌}
use native.Mathlib.Omega.{arith}
use lib.ListN.{get_or, drop}
use lib.Bits.{bit_or}
use lib.Dec.{ltb, leb}
use Rattle.kinds.specs.Kinds.{together_from, together}
use Rattle.yard.specs.Yards.{yard_count, yard_at, yard_kind, yards_of, kind_of, yard_refusal}
use Rattle.yard.proofs.YardLayout.{yards-at, yards-length}
use Rattle.yard.proofs.Tables.{kind_of_lem}
use Rattle.check_rules.specs.Truth.{within}
use Rattle.check_rules.proofs.Folding.{outside, inside, turn, ended}
use Rattle.kinds.proofs.Together.{from-none, from_next, together-from}

-- ---- yard number i of a book

module _ (b : List ℕ) (e : yard_refusal b ≡ 0) (low high i x y : ℕ) (h : i < yard_count b) (g : y ≡ get_or (yards_of b) i 0) where
  abbrev next : ℕ → ℕ → ℕ
  next x y = bit_or x (kind_of b y)

  read : y ≡ yard_at b i
  read = g ∙ yards-at b i h

  -- it lies out of the range
  pub join_out : (leb low y && ltb y high) ≡ false → x ≡ together_from (kind_of b) x (within low high (yard_at b i ∷ []))
  join_out l = rw (← read) (outside (together_from (kind_of b)) next (from-none (kind_of b)) (from_next (kind_of b)) low high x y l)

  -- it lies in the range
  pub join_in : (leb low y && ltb y high) ≡ true → (k z : ℕ) → k ≡ yard_kind b i → z ≡ bit_or x k → z ≡ together_from (kind_of b) x (within low high (yard_at b i ∷ []))
  join_in l k z q t =
      let c : kind_of b y ≡ k = ap (kind_of b) read ∙ kind_of_lem b e i h ∙ sym q in
      let w : z ≡ bit_or x (kind_of b y) = rw c t in
      rw (← read) (w ∙ inside (together_from (kind_of b)) next (from-none (kind_of b)) (from_next (kind_of b)) low high x y l)

-- ---- with i of a book's yards done

module _ (b : List ℕ) (low high : ℕ) where
  pub join_first : together_from (kind_of b) 0 (within low high (yards_of b)) ≡ together (kind_of b) (within low high (yards_of b))
  join_first = sym (together-from (kind_of b) (within low high (yards_of b)))

  pub join_turn : (i x z : ℕ) → i < yard_count b → z ≡ together_from (kind_of b) x (within low high (yard_at b i ∷ []))
      → together_from (kind_of b) z (within low high (drop (i + 1) (yards_of b))) ≡ together_from (kind_of b) x (within low high (drop i (yards_of b)))
  join_turn i x z h e =
      turn (together_from (kind_of b)) (λ a c. bit_or a (kind_of b c)) (from-none (kind_of b)) (from_next (kind_of b)) low high (yards_of b) i x z (yard_at b i)
      (omega (arith, h, yards-length b)) (sym (yards-at b i h)) e

  pub join_end : (i x : ℕ) → yard_count b ≤ i → together_from (kind_of b) x (within low high (drop i (yards_of b))) ≡ x
  join_end i x h =
      ended (together_from (kind_of b)) (λ a c. bit_or a (kind_of b c)) (from-none (kind_of b)) (from_next (kind_of b)) low high (yards_of b) i x
      (omega (arith, h, yards-length b))
