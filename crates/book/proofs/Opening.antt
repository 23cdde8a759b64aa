-- Which facts lead to which answer of `open_refusal`, and what a book that opens is. Assumes nothing.
use mathlib.Core.Path.{◌≡◌, refl}
use mathlib.Core.List.{List, []}
use Prim.Native.Nat.{ℕ, zero, suc, ◌+◌, ◌≤◌, ◌<◌}
use native.Mathlib.Omega.{arith}
use borrow.Author.Tests.{le-leb, lt-leb, eq-eqb, ne_eqb}
use lib.ListN.{length}
use lib.Dec.{leb→le, eqb→eq}
use Rattle.book.specs.Choose.{refuse, choose}
use Rattle.book.specs.Bytes.{u8_at, u32_at}
use Rattle.book.specs.Cases.{case_of}
use Rattle.book.specs.Open.{Opens, version, open_refusal, Body, Refused, opened, opened_case}
use Rattle.book.proofs.Choosing.{passed, refuse_case}

-- where the version stands
pub version_byte : (b : List ℕ) → version b ≡ u8_at b 4
unfolding version
version_byte b = refl

module _ (b : List ℕ) (latest h : ℕ) where
  pub short : length b < 5 → open_refusal b latest h ≡ 1
  unfolding open_refusal refuse choose
  short p = simp lt-leb

  pub miscounted : 5 ≤ length b → (length b ≡ 4 + u32_at b 0 → ⊥) → open_refusal b latest h ≡ 1
  unfolding open_refusal refuse choose
  miscounted p q = simp (le-leb, ne_eqb)

  module _ (five : 5 ≤ length b) (counted : length b ≡ 4 + u32_at b 0) where
    pub unversioned : version b < 1 → open_refusal b latest h ≡ 2
    unfolding open_refusal refuse choose
    unversioned p = simp (le-leb, lt-leb, eq-eqb)

    pub later : 1 ≤ version b → latest < version b → open_refusal b latest h ≡ 2
    unfolding open_refusal refuse choose
    later p q = simp (le-leb, lt-leb, eq-eqb)

    pub headless : 1 ≤ version b → version b ≤ latest → length b < 5 + h → open_refusal b latest h ≡ 3
    unfolding open_refusal refuse choose
    headless p q r = simp (le-leb, lt-leb, eq-eqb)

    pub whole : 1 ≤ version b → version b ≤ latest → 5 + h ≤ length b → open_refusal b latest h ≡ 0
    unfolding open_refusal refuse choose
    whole p q r = simp (le-leb, eq-eqb)

  -- no test fails exactly if the book opens
  pub opens : open_refusal b latest h ≡ 0 → Opens b latest h
  unfolding open_refusal
  opens e =
      let p = passed _ _ _ e (omega arith) in
      let q = passed _ _ _ p.1 (omega arith) in
      let r = passed _ _ _ q.1 (omega arith) in
      let s = passed _ _ _ r.1 (omega arith) in
      let t = passed _ _ _ s.1 (omega arith) in
      record {
        counted = eqb→eq _ _ q.0;
        versioned = (leb→le _ _ r.0, leb→le _ _ s.0);
        headed = leb→le _ _ t.0;
      }

  -- the tests of an opening are 1, 2 and 3
  pub open_most : open_refusal b latest h ≤ 3
  unfolding open_refusal
  open_most =
      refuse_case (λ n. n ≤ 3) _ (λ _. omega arith) (λ _.
      refuse_case (λ n. n ≤ 3) _ (λ _. omega arith) (λ _.
      refuse_case (λ n. n ≤ 3) _ (λ _. omega arith) (λ _.
      refuse_case (λ n. n ≤ 3) _ (λ _. omega arith) (λ _.
      refuse_case (λ n. n ≤ 3) _ (λ _. omega arith) (λ _. omega arith)))))

  pub open_zero : Opens b latest h → open_refusal b latest h ≡ 0
  open_zero o = whole (omega (arith, o.headed)) o.counted o.versioned.0 o.versioned.1 o.headed

-- the answer's cases, back to the number
pub opened_body : (n : ℕ) → opened n ≡ Body → n ≡ 0
unfolding opened
opened_body zero e = refl
opened_body (suc n) e = let z : ◌≡◌ {A = ℕ} 0 1 = cc in absurd (omega arith)

pub opened-refused : (n why : ℕ) → opened n ≡ Refused why → (n ≡ why) × (1 ≤ why)
unfolding opened
opened-refused zero why e = let z : ◌≡◌ {A = ℕ} 0 1 = cc in absurd (omega arith)
opened-refused (suc n) why e =
    let q : suc n ≡ why = cc in
    (q, omega arith)

-- an answer in the paper's numbers
pub opened_case_lem : (n : ℕ) → opened_case (opened n) ≡ case_of n []
unfolding opened opened_case
opened_case_lem zero = refl
opened_case_lem (suc n) = refl
