-- Lists as sets: membership by a test, and lists of distinct members that are as long. Assumes nothing.
use mathlib.Core.Path.{◌≡◌, refl, sym, ap, ◌∙◌}
use mathlib.Core.Logic.{◌⊎◌, inl, inr}
use mathlib.Core.Bool.{not, ◌||◌}
use mathlib.Core.List.Memᴰ.{head}
use mathlib.Core.List.Memᴰ.{not-nil}
use mathlib.Core.List.Memᴰ.{tail}
use mathlib.Core.List.{List, [], ◌∷◌, Memᴰ as Mem}
use mathlib.Core.List.Memᴰ.{cases_cons}
use Prim.Native.Nat.{ℕ, suc, ◌≤◌}
use native.Mathlib.Omega.{arith}
use lib.ListN.{length}
use lib.Dec.{T, eqb, eqb→eq, T_not}
use Rattle.book.specs.Lists.{Distinct}
use Rattle.book.proofs.Choosing.{and_left, and_right, and_both, T-split}
use Rattle.book.proofs.Lists.{or_left, or_right, or_cases, eq→eqb}
use Rattle.tree_layout.specs.Refusal.{all}
use Rattle.tree_layout.proofs.Tests.{all-mem, all_intro}
use Rattle.check_rules.specs.Facts.{Same}
use Rattle.check_tree.specs.Check.{has, same_set}

-- ---- membership by a test

pub has-mem : (ys : List ℕ) (y : ℕ) → T (has ys y) → Mem y ys
unfolding has
has-mem [] y t = absurd t
has-mem (z ∷ zs) y t = go (or_cases (eqb z y) (has zs y) t) (λ s. has-mem zs y s)
  where
    go : T (eqb z y) ⊎ T (has zs y) → (T (has zs y) → Mem y zs) → Mem y (z ∷ zs)
    go (inl s) rec = head (sym (eqb→eq z y s))
    go (inr s) rec = tail (rec s)

pub mem-has : (ys : List ℕ) (y : ℕ) → Mem y ys → T (has ys y)
unfolding has
mem-has [] y k = absurd (not-nil k)
mem-has (z ∷ zs) y k = go (cases_cons k) (λ j. mem-has zs y j)
  where
    go : (y ≡ z) ⊎ Mem y zs → (Mem y zs → T (has zs y)) → T (eqb z y || has zs y)
    go (inl e) rec = or_left (eqb z y) (has zs y) (eq→eqb z y (sym e))
    go (inr j) rec = or_right (eqb z y) (has zs y) (rec j)

-- ---- the same members

pub set_same : (ys zs : List ℕ) → T (same_set ys zs) → Same ys zs
unfolding same_set
set_same ys zs t = record {
  to = λ y k. has-mem zs y (all-mem (has zs) ys (and_left (all (has zs) ys) _ t) y k);
  from = λ y k. has-mem ys y (all-mem (has ys) zs (and_right (all (has zs) ys) _ t) y k);
}

pub same_set_lem : (ys zs : List ℕ) → Same ys zs → T (same_set ys zs)
unfolding same_set
same_set_lem ys zs s = and_both (all (has zs) ys) _ (all_intro (has zs) ys (λ y k. mem-has zs y (s.to y k)))
    (all_intro (has ys) zs (λ y k. mem-has ys y (s.from y k)))

-- ---- how many members

-- a list without one of its members: one shorter, with every other member
taken : (y : ℕ) (zs : List ℕ) → Mem y zs → (ws : List ℕ) × (length zs ≡ suc (length ws)) × ((x : ℕ) → Mem x zs → (x ≡ y → ⊥) → Mem x ws)
taken y [] k = absurd (not-nil k)
taken y (z ∷ zs) k = go (cases_cons k) (λ j. taken y zs j)
  where
    go : (y ≡ z) ⊎ Mem y zs
        → (Mem y zs → (ws : List ℕ) × (length zs ≡ suc (length ws)) × ((x : ℕ) → Mem x zs → (x ≡ y → ⊥) → Mem x ws))
        → (ws : List ℕ) × (length (z ∷ zs) ≡ suc (length ws)) × ((x : ℕ) → Mem x (z ∷ zs) → (x ≡ y → ⊥) → Mem x ws)
    go (inl e) rec = (zs, refl, λ x j n. other x n (cases_cons j))
      where
        other : (x : ℕ) → (x ≡ y → ⊥) → (x ≡ z) ⊎ Mem x zs → Mem x zs
        other x n (inl f) = absurd (n (f ∙ sym e))
        other x n (inr j) = j
    go (inr j) rec =
        let (ws, l, f) = rec j in
        (z ∷ ws, ap suc l, λ x i n. other ws f x n (cases_cons i))
      where
        other : (ws : List ℕ) → ((x : ℕ) → Mem x zs → (x ≡ y → ⊥) → Mem x ws) → (x : ℕ) → (x ≡ y → ⊥) → (x ≡ z) ⊎ Mem x zs → Mem x (z ∷ ws)
        other ws f x n (inl q) = head q
        other ws f x n (inr i) = tail (f x i n)

-- distinct members of another list are at most as many (the pigeonhole principle)
pub at_most : (xs ys : List ℕ) → Distinct xs → ((x : ℕ) → Mem x xs → Mem x ys) → length xs ≤ length ys
at_most [] ys d f = omega arith
at_most (x ∷ xs) ys d f =
    let (ws, l, g) = taken x ys (f x (head refl)) in
    let h = at_most xs ws d.1 (λ z k. g z (f z (tail k)) (λ e. d.0 (rw (← e) k))) in
    omega (arith, l, h)

-- and if they are as many, they are all of them
pub all_of : (xs ys : List ℕ) → Distinct xs → ((x : ℕ) → Mem x xs → Mem x ys) → length ys ≤ length xs → (y : ℕ) → Mem y ys → Mem y xs
all_of xs ys d f l y k = go (T-split (has xs y))
  where
    inside : (z : ℕ) → (z ≡ y) ⊎ Mem z xs → Mem z ys
    inside z (inl e) = rw e k
    inside z (inr j) = f z j

    go : T (has xs y) ⊎ T (not (has xs y)) → Mem y xs
    go (inl t) = has-mem xs y t
    go (inr t) = absurd (omega (arith, at_most (y ∷ xs) ys ((λ j. T_not (has xs y) t (mem-has xs y j)), d) (λ z j. inside z (cases_cons j))))
