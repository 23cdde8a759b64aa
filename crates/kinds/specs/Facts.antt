-- What a byte of kinds says, bit by bit. Assumes nothing: these are definitions and statements.
use Rattle.std.specs.Prelude.{◌≡◌, ◌↔◌, ℕ, ◌/◌, ◌%◌, ◌^◌, T}
use mathlib.Core.List.{List, Memᴰ as Mem}
use Rattle.kinds.specs.Kinds.{shares, together}

-- bit j of a byte is set, counted from the lowest, which is bit 0
abbrev pub HasBit : ℕ → ℕ → Type 0
HasBit j byte = byte / 2 ^ j % 2 ≡ 1

-- "a bit is set exactly if some yard in that region has it": of a byte, and of some yards, whose kinds `Kind y k` gives
pub record BitsOf (Yard : ℕ → Type 0) (Kind : ℕ → ℕ → Type 0) (byte : ℕ) : Type 0 where
  pub some : (j : ℕ) → HasBit j byte → (y : ℕ) × (k : ℕ) × Yard y × Kind y k × HasBit j k
  pub every : (j y k : ℕ) → Yard y → Kind y k → HasBit j k → HasBit j byte

-- what is proved of them
pub record KindLaws : Type 0 where
  -- two bytes share a bit if and only if some bit is set in both
  pub shared : (a b : ℕ) → T (shares a b) ↔ ((j : ℕ) × HasBit j a × HasBit j b)
  -- the bits of yards together are set exactly if some yard has them, and no other byte has just these
  pub joined : (f : ℕ → ℕ) (ys : List ℕ) → BitsOf (λ y. Mem y ys) (λ y k. f y ≡ k) (together f ys)
  pub one : (a b : ℕ) → ((j : ℕ) → HasBit j a ↔ HasBit j b) → a ≡ b
