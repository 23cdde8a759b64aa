-- What a search returns and writes when its steps have ended. Assumes nothing.
use mathlib.Core.Path.{◌≡◌, refl, sym, ap, ◌∙◌}
use mathlib.Core.Bool.{true, false, not}
use mathlib.Core.List.{List, []}
use Prim.Native.Nat.{ℕ}
use lib.ListN.{length}
use lib.Dec.{T}
use Rattle.book.specs.Writing.{write}
use Rattle.book.proofs.Choosing.{choose_yes, choose_no, true_T, false_T}
use Rattle.search_rules.specs.Order.{Entry}
use Rattle.search_rules.specs.Run.{Answer, words}
use Rattle.search_run.specs.declared.Outcome.{Outcome}
use Rattle.search_run.specs.code.Answers.{answer_of}
use Rattle.search_run.proofs.Answering.{answered}
use Rattle.search_call.specs.Call.{Found, accepted}
use Rattle.search_call.proofs.Calls.{accepted-is}
use Rattle.search_tree.specs.Found.{found_of, written_by}

same-found : (s l t m s' l' t' m' : ℕ) → s ≡ s' → l ≡ l' → t ≡ t' → m ≡ m'
    → ◌≡◌ {A = Found} (record { refusal = 0; settled = s; listed = l; taken = t; measured = m })
    (record { refusal = 0; settled = s'; listed = l'; taken = t'; measured = m' })
same-found s l t m s' l' t' m' e f g h = rw (e, f, g, h) refl

-- ---- of an outcome

module _ (o : Outcome) where
  -- a settled search lists what it keeps
  pub listed-is : o.settled ≡ true → (answer_of o).listed ≡ o.progress.kept
  listed-is z = rw (answered o) (choose_yes o.settled o.progress.kept [] (true_T z))

  pub spent-found : (m : ℕ) → o.settled ≡ false → m ≡ o.progress.measured
      → found_of (record { refusal = 0; settled = 0; listed = 0; taken = o.taken; measured = m }) ≡ accepted (answer_of o)
  unfolding found_of
  spent-found m z e =
      let t : T (not o.settled) = false_T z in
      rw (answered o) (same-found 0 0 o.taken m _ _ _ _ (sym (choose_no o.settled 1 0 t)) (sym (ap length (choose_no o.settled o.progress.kept [] t))) refl e
      ∙ sym (accepted-is _))

  pub settled-found : (n m : ℕ) → o.settled ≡ true → n ≡ length o.progress.kept → m ≡ o.progress.measured
      → found_of (record { refusal = 0; settled = 1; listed = n; taken = o.taken; measured = m }) ≡ accepted (answer_of o)
  unfolding found_of
  settled-found n m z f e =
      let t : T o.settled = true_T z in
      rw (answered o) (same-found 1 n o.taken m _ _ _ _ (sym (choose_yes o.settled 1 0 t))
      (f ∙ sym (ap length (choose_yes o.settled o.progress.kept [] t))) refl e
      ∙ sym (accepted-is _))

  pub spent-written : (results : List ℕ) → o.settled ≡ false → results ≡ written_by (answer_of o) results
  unfolding written_by
  spent-written results z = rw (answered o) (sym (choose_no o.settled _ results (false_T z)))

  pub settled-written : (results out : List ℕ) → o.settled ≡ true → out ≡ write results 0 (words o.progress.kept) → out ≡ written_by (answer_of o) results
  unfolding written_by
  settled-written results out z e =
      let t : T o.settled = true_T z in
      rw (answered o) (e ∙ ap (λ (l : List Entry). write results 0 (words l)) (sym (choose_yes o.settled o.progress.kept [] t))
      ∙ sym (choose_yes o.settled _ results t))

-- what is reported of them
pub found_so : (f : Found) (a b : Answer) → f ≡ accepted a → a ≡ b → f ≡ accepted b
found_so f a b e g = e ∙ ap accepted g

pub written_so : (out results : List ℕ) (a b : Answer) → out ≡ written_by a results → a ≡ b → out ≡ written_by b results
written_so out results a b e g = e ∙ ap (λ (x : Answer). written_by x results) g
