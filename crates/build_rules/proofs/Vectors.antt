-- What building asks of what is given can be met: net N's, whose tree is then accepted, true, read back, and the one that the stated cuts give. Assumes nothing.
use mathlib.Core.Path.{◌≡◌, refl}
use mathlib.Core.Bool.{true}
use mathlib.Core.Logic.{◌⊎◌, inl, inr}
use mathlib.Core.List.Memᴰ.{cases_cons}
use mathlib.Core.List.Memᴰ.{not-nil}
use mathlib.Core.List.{List, [], ◌∷◌, Memᴰ as Mem}
use Prim.Native.Nat.{ℕ, zero, suc, ◌-◌, ◌≤◌, ◌<◌}
use native.Mathlib.Omega.{arith}
use lib.ListN.{get_or}
use lib.Dec.{eqb}
use Rattle.book.specs.Bytes.{Bytes}
use Rattle.book.proofs.Choosing.{choose_case, choose_yes}
use Rattle.book.proofs.Lists.{eq→eqb}
use Rattle.tree_layout.specs.Values.{Region}
use Rattle.tree_layout.proofs.Vectors.{net_n, net_kinds}
use Rattle.tree_encode.specs.Encode.{encode}
use Rattle.build_rules.specs.Cut.{cut_tree}
use Rattle.build_rules.specs.Cuts.{CutRange}
use Rattle.build_rules.specs.code.Facts.{InLimits, terms_of, OneTree, Built}
use Rattle.build_rules.proofs.WorkedCuts.{chain, kinds_n, given_n, tree_n, net-N, net-kinds}
use Rattle.build_rules.proofs.Theorems.{built, one-tree}

-- ---- what is asked of the given can be met

chain_most : (u : ℕ) → get_or chain u 0 ≤ 10
unfolding chain
chain_most zero = omega arith
chain_most (suc zero) = omega arith
chain_most (suc (suc zero)) = omega arith
chain_most (suc (suc (suc zero))) = omega arith
chain_most (suc (suc (suc (suc zero)))) = omega arith
chain_most (suc (suc (suc (suc (suc u))))) = omega arith

rises : (i j : ℕ) → i < j → j < 3 → get_or (1 ∷ 3 ∷ 4 ∷ []) i 0 < get_or (1 ∷ 3 ∷ 4 ∷ []) j 0
rises zero zero h k = absurd (omega arith)
rises zero (suc zero) h k = omega arith
rises zero (suc (suc zero)) h k = omega arith
rises zero (suc (suc (suc j))) h k = absurd (omega arith)
rises (suc zero) zero h k = absurd (omega arith)
rises (suc zero) (suc zero) h k = absurd (omega arith)
rises (suc zero) (suc (suc zero)) h k = omega arith
rises (suc zero) (suc (suc (suc j))) h k = absurd (omega arith)
rises (suc (suc i)) j h k = absurd (omega arith)

low : (i : ℕ) → i < 3 → get_or (1 ∷ 3 ∷ 4 ∷ []) i 0 < 5
low zero h = omega arith
low (suc zero) h = omega arith
low (suc (suc zero)) h = omega arith
low (suc (suc (suc i))) h = absurd (omega arith)

-- the kinds of one of its yards
kinds_in_lem : (v y : ℕ) → Mem y (1 ∷ 3 ∷ 4 ∷ []) → (1 ≤ kinds_n v y) × (kinds_n v y ≤ 255)
unfolding kinds_n
kinds_in_lem v y k = choose_case (λ n. (1 ≤ n) × (n ≤ 255)) (eqb v 1) (λ t. (omega arith, omega arith)) (λ t. go (cases_cons k))
  where
    byte : ℕ → ℕ
    byte z = get_or (0 ∷ 1 ∷ 0 ∷ 2 ∷ 4 ∷ []) z 0

    last : (y ≡ 4) ⊎ Mem y [] → (1 ≤ byte y) × (byte y ≤ 255)
    last (inl e) = rw e (omega arith, omega arith)
    last (inr j) = absurd (not-nil j)

    next : (y ≡ 3) ⊎ Mem y (4 ∷ []) → (1 ≤ byte y) × (byte y ≤ 255)
    next (inl e) = rw e (omega arith, omega arith)
    next (inr j) = last (cases_cons j)

    go : (y ≡ 1) ⊎ Mem y (3 ∷ 4 ∷ []) → (1 ≤ byte y) × (byte y ≤ 255)
    go (inl e) = rw e (omega arith, omega arith)
    go (inr j) = next (cases_cons j)

kinds-any : (v y : ℕ) → v ≡ 1 → kinds_n v y ≡ 255
unfolding kinds_n
kinds-any v y e = choose_yes (eqb v 1) _ _ (eq→eqb v 1 e)

in_limits : (v : ℕ) → 1 ≤ v → v ≤ 2 → InLimits (given_n v 3) 5 (1 ∷ 3 ∷ 4 ∷ [])
unfolding given_n
in_limits v a z = record {
  version_in = (a, z);
  junctions_in = (omega arith, omega arith);
  yards_in_lem = (omega arith, omega arith);
  rising = rises;
  below = low;
  landmarks_in = (omega arith, omega arith);
  limit_in = (omega arith, omega arith);
  bounded = λ u v h k. omega (arith, chain_most u, chain_most v);
  kinded = λ y k. (kinds_in_lem v y k).0;
  any = λ e y k. kinds-any v y e;
}

-- net N's tree is accepted, true, and read back, in version 1 and in version 2
pub built_N : (v : ℕ) → 1 ≤ v → v ≤ 2 → Built (given_n v 3) 5 (1 ∷ 3 ∷ 4 ∷ [])
built_N v a z = built (given_n v 3) 5 (1 ∷ 3 ∷ 4 ∷ []) (in_limits v a z)

-- and a book of bytes
pub bytes-N : (v : ℕ) → 1 ≤ v → v ≤ 2 → Bytes (encode (tree_n v 3))
unfolding tree_n given_n
bytes-N v a z = (built_N v a z).bytes (λ y k. (kinds_in_lem v y k).1)

-- it is the one that the stated cuts give: whatever regions they give for net N, the book is 01's
abbrev net_distance : ℕ → ℕ → ℕ → Type 0
net_distance u v t = t ≡ (given_n 1 3).d u v

abbrev net_kind : (version yard byte : ℕ) → Type 0
net_kind version yard byte = byte ≡ kinds_n version yard

one-N : (v : ℕ) → 1 ≤ v → v ≤ 2 → OneTree (given_n v 3) net_distance (net_kind v) 5 (1 ∷ 3 ∷ 4 ∷ [])
unfolding given_n
one-N v a z =
    one-tree (given_n v 3) net_distance (net_kind v) 5 (1 ∷ 3 ∷ 4 ∷ []) (in_limits v a z) (record { reached = λ u v h k. refl; one = λ u v s t p q. cc })
    (record { reached = λ y m. refl; one = λ y j k p q. cc })

pub stated_N : (rs : List Region) → CutRange (terms_of (given_n 1 3) net_distance (net_kind 1)) 0 5 (1 ∷ 3 ∷ 4 ∷ []) rs
    → encode (record { version = 1; junctions = 5; yards = 3; landmarks = 1; regions = rs }) ≡ net_n
unfolding tree_n cut_tree given_n
stated_N rs c = rw ((one-N 1 (omega arith) (omega arith)).one rs c) net-N

pub stated_kinds : (rs : List Region) → CutRange (terms_of (given_n 2 3) net_distance (net_kind 2)) 0 5 (1 ∷ 3 ∷ 4 ∷ []) rs
    → encode (record { version = 2; junctions = 5; yards = 3; landmarks = 1; regions = rs }) ≡ net_kinds
unfolding tree_n cut_tree given_n
stated_kinds rs c = rw ((one-N 2 (omega arith) (omega arith)).one rs c) net-kinds
