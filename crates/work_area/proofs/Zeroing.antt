-- The work area's test, and the area after a call. Assumes nothing.
use mathlib.Core.Path.{◌≡◌, refl, sym, ap, ◌∙◌}
use mathlib.Core.List.{List, ◌++◌}
use Prim.Native.Nat.{ℕ, ◌≤◌, ◌<◌}
use native.Mathlib.Omega.{arith}
use lib.ListN.{length, replicate, take, drop, length-append, length-take, length-drop}
use lib.Seq.{drop_at}
use lib.Dec.{leb, eqb, leb→le, le→leb, not_T}
use Rattle.book.proofs.Choosing.{passes, fails, passed, choose_yes, choose_no, choose-map}
use Rattle.book.proofs.Lists.{eq→eqb, ne→neqb}
use Rattle.work_area.specs.Work.{work_words, work_refusal, zeroed, work_after}

-- an area of which the first n words are filled with 0 is zeroed
pub zeroed_part : (n : ℕ) (part work : List ℕ) → n ≤ length work → part ≡ replicate (length (take n work)) 0 → part ++ drop n work ≡ zeroed n work
unfolding zeroed
zeroed_part n part work h e =
    let m : length (take n work) ≡ n = omega (arith, length-take n work) in
    rw (e, m) refl

-- what was in the words that are zeroed does not matter
pub zeroed-over : (n : ℕ) (part work : List ℕ) → length part ≡ n → zeroed n (part ++ drop n work) ≡ zeroed n work
unfolding zeroed
zeroed-over n part work e = ap (λ (l : List ℕ). replicate n 0 ++ l) (drop_at part (drop n work) n e)

module _ (words : ℕ) where
  pub work-short : words < work_words → work_refusal words ≡ 12
  unfolding work_refusal
  work-short h = fails (leb work_words words) 12 0 (not_T (leb work_words words) (λ t. omega (arith, leb→le work_words words t)))

  pub work-enough : work_words ≤ words → work_refusal words ≡ 0
  unfolding work_refusal
  work-enough h = passes (leb work_words words) 12 0 (le→leb work_words words h)

  pub enough-work : work_refusal words ≡ 0 → work_words ≤ words
  unfolding work_refusal
  enough-work e = leb→le work_words words (passed (leb work_words words) 12 0 e (omega arith)).0

module _ (refusal : ℕ) (work : List ℕ) where
  pub accepted-zeroed : refusal ≡ 0 → work_after refusal work ≡ zeroed work_words work
  unfolding work_after
  accepted-zeroed e = choose_yes (eqb refusal 0) (zeroed work_words work) work (eq→eqb refusal 0 e)

  pub refused-kept : (refusal ≡ 0 → ⊥) → work_after refusal work ≡ work
  unfolding work_after
  refused-kept h = choose_no (eqb refusal 0) (zeroed work_words work) work (ne→neqb refusal 0 h)

-- areas of one length have one length after a call
zeroed-length : (n : ℕ) (v w : List ℕ) → length v ≡ length w → length (zeroed n v) ≡ length (zeroed n w)
unfolding zeroed
zeroed-length n v w e = omega (arith, length-append (replicate n 0) (drop n v), length-append (replicate n 0) (drop n w), length-drop n v, length-drop n w)

pub after-length : (refusal : ℕ) (v w : List ℕ) → length v ≡ length w → length (work_after refusal v) ≡ length (work_after refusal w)
unfolding work_after
after-length refusal v w e =
    choose-map length (eqb refusal 0) (zeroed work_words v) v
    ∙ rw (zeroed-length work_words v w e, e) (sym (choose-map length (eqb refusal 0) (zeroed work_words w) w))
