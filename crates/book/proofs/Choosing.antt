-- Laws of `choose` and of a list of tests. Assumes nothing.
use mathlib.Core.Path.{◌≡◌, refl, sym, ◌∙◌}
use mathlib.Core.Logic.{◌⊎◌, inl, inr}
use mathlib.Core.Bool.{Bool, true, false, not, ◌&&◌, ◌||◌}
use Prim.Native.Nat.{ℕ, zero, suc, ◌≤◌, ◌<◌}
use native.Mathlib.Omega.{arith}
use lib.Dec.{T, eqb, ltb, ltb→lt, nltb→le}
use Rattle.book.specs.Choose.{choose, refuse, first_of}
pub use Rattle.book.proofs.Tests.{or_left, or_right, or_cases, eq→eqb}

-- a fact of a choice, from the fact of each side
pub choose_case : {A : Type 0} (P : A → Type 0) (b : Bool) {x y : A} → (T b → P x) → (T (not b) → P y) → P (choose b x y)
unfolding choose
choose_case P true f g = f tt
choose_case P false f g = g tt

pub choose_yes : {A : Type 0} (b : Bool) (x y : A) → T b → choose b x y ≡ x
unfolding choose
choose_yes true x y t = refl
choose_yes false x y t = absurd t

pub choose_no : {A : Type 0} (b : Bool) (x y : A) → T (not b) → choose b x y ≡ y
unfolding choose
choose_no true x y t = absurd t
choose_no false x y t = refl

-- a function of a choice is a choice of its values
pub choose-map : {A B : Type 0} (f : A → B) (b : Bool) (x y : A) → f (choose b x y) ≡ choose b (f x) (f y)
unfolding choose
choose-map f true x y = refl
choose-map f false x y = refl

-- a test holds or not
pub T-split : (b : Bool) → T b ⊎ T (not b)
T-split true = inl tt
T-split false = inr tt

pub true_T : {b : Bool} → b ≡ true → T b
true_T e = rw e tt

pub T_true : (b : Bool) → T b → b ≡ true
T_true true t = refl
T_true false t = absurd t

pub false_T : {b : Bool} → b ≡ false → T (not b)
false_T e = rw e tt

pub T_false : (b : Bool) → T (not b) → b ≡ false
T_false true t = absurd t
T_false false t = refl

pub and_left : (a b : Bool) → T (a && b) → T a
and_left true b t = tt
and_left false b t = t

pub and_right : (a b : Bool) → T (a && b) → T b
and_right true b t = t
and_right false b t = absurd t

pub and_both : (a b : Bool) → T a → T b → T (a && b)
and_both true b s t = t
and_both false b s t = s

-- a test that holds leaves the answer to the later ones
pub passes : (ok : Bool) (number later : ℕ) → T ok → refuse ok number later ≡ later
unfolding refuse
passes ok number later t = choose_yes ok later number t

-- a test that fails gives its number
pub fails : (ok : Bool) (number later : ℕ) → T (not ok) → refuse ok number later ≡ number
unfolding refuse
fails ok number later t = choose_no ok later number t

-- no test fails: this one holds, and no later one fails
pub passed : (ok : Bool) (number later : ℕ) → refuse ok number later ≡ 0 → 1 ≤ number → T ok × (later ≡ 0)
unfolding refuse choose
passed true number later e h = (tt, e)
passed false number later e h = absurd (omega arith)

-- what holds of a test's number and of the later answer holds of the answer
pub refuse_case : (P : ℕ → Type 0) (ok : Bool) {number later : ℕ} → (T (not ok) → P number) → (T ok → P later) → P (refuse ok number later)
unfolding refuse
refuse_case P ok f g = choose_case P ok g f

-- neither answer is a refusal exactly if the two together are none
pub first-none : (a b : ℕ) → first_of a b ≡ 0 → (a ≡ 0) × (b ≡ 0)
unfolding first_of
first-none zero b e = (refl, e)
first-none (suc a) b e = absurd (omega arith)

pub first-later : (a b : ℕ) → a ≡ 0 → first_of a b ≡ b
unfolding first_of
first-later zero b e = refl
first-later (suc a) b e = absurd (omega arith)

pub first-earlier : (a b : ℕ) → 1 ≤ a → first_of a b ≡ a
unfolding first_of
first-earlier zero b h = absurd (omega arith)
first-earlier (suc a) b h = refl

-- the same, by the test's value
pub passes_if : (ok : Bool) (number later : ℕ) → ok ≡ true → refuse ok number later ≡ later
unfolding refuse choose
passes_if ok number later e = simp e

pub fails_if : (ok : Bool) (number later : ℕ) → ok ≡ false → refuse ok number later ≡ number
unfolding refuse choose
fails_if ok number later e = simp e

-- no answer is above m
pub refuse-low : (ok : Bool) (number later m : ℕ) → number ≤ m → later ≤ m → refuse ok number later ≤ m
refuse-low ok number later m p q = refuse_case (λ x. x ≤ m) ok (λ t. p) (λ t. q)

pub first-low : (a b m : ℕ) → a ≤ m → b ≤ m → first_of a b ≤ m
unfolding first_of
first-low zero b m p q = q
first-low (suc a) b m p q = p

-- what holds of an earlier number and of the later answer holds of the answer
pub first_case : (P : ℕ → Type 0) (n : ℕ) {later : ℕ} → (1 ≤ n → P n) → (n ≡ 0 → P later) → P (first_of n later)
unfolding first_of
first_case P zero f g = g refl
first_case P (suc n) f g = f (omega arith)

pub lt-or_ge : (m n : ℕ) → (m < n) ⊎ (n ≤ m)
lt-or_ge m n = go (T-split (ltb m n))
  where
    go : T (ltb m n) ⊎ T (not (ltb m n)) → (m < n) ⊎ (n ≤ m)
    go (inl t) = inl (ltb→lt m n t)
    go (inr t) = inr (nltb→le m n t)
