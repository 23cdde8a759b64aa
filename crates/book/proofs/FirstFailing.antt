-- The number of the first test that fails: of computed tests, of two lists, and of one test among others. Assumes nothing.
use mathlib.Core.Path.{◌≡◌, refl, sym, ◌∙◌}
use mathlib.Core.Logic.{◌↔◌, ◌≢◌, ◌⊎◌, inl, inr}
use mathlib.Core.Bool.{Bool, true, not, ◌&&◌}
use mathlib.Core.List.{List, [], ◌∷◌, ◌++◌}
use Prim.Native.Nat.{ℕ, ◌+◌, ◌≤◌}
use native.Mathlib.Omega.{arith}
use lib.ListN.{length}
use lib.Dec.{T, T_not, leb, eqb, leb→le, le→leb, eqb→eq}
use Rattle.book.specs.Bytes.{u32_at}
use Rattle.book.specs.Choose.{refuse, first_of}
use Rattle.book.specs.Open.{version, open_refusal}
use Rattle.book.specs.Tests.{Test, test, FirstFailing, open_tests}
use Rattle.book.proofs.Choosing.{refuse_case, first-later, first-earlier, and_left, and_right, eq→eqb}
use Rattle.book.proofs.Lists.{neqb→ne}

-- ---- computed tests

pub first-end : FirstFailing [] 0
unfolding FirstFailing
first-end = refl

-- a test that is computed, and holds exactly if its fact does
pub first-test : (ok : Bool) (number later : ℕ) (ts : List Test) {fact : Type 0} → (T ok → fact) → (fact → T ok) → (fact → FirstFailing ts later)
    → FirstFailing (test number fact ∷ ts) (refuse ok number later)
unfolding FirstFailing
first-test ok number later ts {fact} there back rest =
    refuse_case (FirstFailing (test number fact ∷ ts)) ok (λ t. inl ((λ f. T_not ok t (back f)), refl)) (λ t. inr (there t, rest (there t)))

pub first-le : (m n number later : ℕ) (ts : List Test) → (m ≤ n → FirstFailing ts later)
    → FirstFailing (test number (m ≤ n) ∷ ts) (refuse (leb m n) number later)
first-le m n number later ts rest = first-test (leb m n) number later ts (leb→le m n) (le→leb m n) rest

pub first_eq : (m n number later : ℕ) (ts : List Test) → (m ≡ n → FirstFailing ts later)
    → FirstFailing (test number (m ≡ n) ∷ ts) (refuse (eqb m n) number later)
first_eq m n number later ts rest = first-test (eqb m n) number later ts (eqb→eq m n) (eq→eqb m n) rest

-- ---- one number for each list

pub first_unique : (ts : List Test) (m n : ℕ) → FirstFailing ts m → FirstFailing ts n → m ≡ n
unfolding FirstFailing
first_unique [] m n e f = e ∙ sym f
first_unique (t ∷ ts) m n (inl x) (inl y) = x.1 ∙ sym y.1
first_unique (t ∷ ts) m n (inl x) (inr y) = absurd (x.0 y.0)
first_unique (t ∷ ts) m n (inr x) (inl y) = absurd (y.0 x.0)
first_unique (t ∷ ts) m n (inr x) (inr y) = first_unique ts m n x.1 y.1

pub first-exact : (ts : List Test) (answer : ℕ) → FirstFailing ts answer → (n : ℕ) → (answer ≡ n) ↔ FirstFailing ts n
first-exact ts answer f n = ((λ e. rw e at f), first_unique ts answer n f)

-- ---- one list after the other

-- no test has the number n
abbrev pub lacks : ℕ → List Test → Bool
lacks n [] = true
lacks n (t ∷ ts) = not (eqb n t.number) && lacks n ts

module _ (n : ℕ) (t : Test) (ts : List Test) (l : T (lacks n (t ∷ ts))) where
  other : n ≢ t.number
  other = neqb→ne n t.number (and_left (not (eqb n t.number)) (lacks n ts) l)

  others : T (lacks n ts)
  others = and_right (not (eqb n t.number)) (lacks n ts) l

pub first_join : (ts us : List Test) (a b : ℕ) → T (lacks 0 ts) → FirstFailing ts a → (a ≡ 0 → FirstFailing us b) → FirstFailing (ts ++ us) (first_of a b)
unfolding FirstFailing
first_join [] us a b l f rest = rw (first-later a b f) (rest f)
first_join (t ∷ ts) us a b l (inl x) rest = inl (x.0, first-earlier a b (omega (arith, x.1, other 0 t ts l)) ∙ x.1)
first_join (t ∷ ts) us a b l (inr x) rest = inr (x.0, first_join ts us a b (others 0 t ts l) x.1 rest)

-- and back: the earlier list gives the number, or all of its facts hold and the later list gives it
pub first_split : (ts us : List Test) (n : ℕ) → FirstFailing (ts ++ us) n → FirstFailing ts n ⊎ (FirstFailing ts 0 × FirstFailing us n)
unfolding FirstFailing
first_split [] us n f = inr (refl, f)
first_split (t ∷ ts) us n (inl x) = inl (inl x)
first_split (t ∷ ts) us n (inr x) = go (first_split ts us n x.1)
  where
    go : FirstFailing ts n ⊎ (FirstFailing ts 0 × FirstFailing us n) → FirstFailing (t ∷ ts) n ⊎ (FirstFailing (t ∷ ts) 0 × FirstFailing us n)
    go (inl f) = inl (inr (x.0, f))
    go (inr f) = inr (inr (x.0, f.0), f.1)

pub first_late : (ts us : List Test) (n : ℕ) → T (lacks 0 ts) → FirstFailing ts 0 → FirstFailing us n → FirstFailing (ts ++ us) n
first_late ts us n l f g = rw (first-later 0 n refl) at (first_join ts us 0 n l f (λ e. g))

-- no test of two lists fails
pub first-none_split : (ts us : List Test) → T (lacks 0 ts) → FirstFailing (ts ++ us) 0 → FirstFailing ts 0 × FirstFailing us 0
unfolding FirstFailing
first-none_split [] us l f = (refl, f)
first-none_split (t ∷ ts) us l (inl x) = absurd (other 0 t ts l x.1)
first-none_split (t ∷ ts) us l (inr x) = let y = first-none_split ts us (others 0 t ts l) x.1 in (inr (x.0, y.0), y.1)

-- ---- a test whose number no other has

first_lacks : (ts : List Test) (n : ℕ) → T (lacks n ts) → 1 ≤ n → FirstFailing ts n → ⊥
unfolding FirstFailing
first_lacks [] n l h f = omega arith
first_lacks (t ∷ ts) n l h (inl x) = other n t ts l x.1
first_lacks (t ∷ ts) n l h (inr x) = first_lacks ts n (others n t ts l) h x.1

-- its number is given exactly if all earlier facts hold and its own does not
pub first-at : (ts us : List Test) (n : ℕ) (fact : Type 0) → 1 ≤ n → T (lacks 0 ts) → T (lacks n ts) → T (lacks n us)
    → FirstFailing (ts ++ (test n fact ∷ us)) n ↔ (FirstFailing ts 0 × (fact → ⊥))
unfolding FirstFailing
first-at ts us n fact h z before after =
    ((λ f. go (first_split ts (test n fact ∷ us) n f)), (λ x. first_late ts (test n fact ∷ us) n z x.0 (inl (x.1, refl))))
  where
    go : FirstFailing ts n ⊎ (FirstFailing ts 0 × FirstFailing (test n fact ∷ us) n) → FirstFailing ts 0 × (fact → ⊥)
    go (inl f) = absurd (first_lacks ts n before h f)
    go (inr (f, inl x)) = (f, x.0)
    go (inr (f, inr x)) = absurd (first_lacks us n after h x.1)

-- ---- the opening

pub open_tests_lem : (b : List ℕ) (latest header : ℕ) → FirstFailing (open_tests b latest header) (open_refusal b latest header)
unfolding open_refusal
open_tests_lem b latest header =
    first-le 5 (length b) 1 _ _ (λ _.
    first_eq (length b) (4 + u32_at b 0) 1 _ _ (λ _.
    first-le 1 (version b) 2 _ _ (λ _.
    first-le (version b) latest 2 _ _ (λ _.
    first-le (5 + header) (length b) 3 0 _ (λ _. first-end)))))
