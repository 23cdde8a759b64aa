-- What a search answers when its steps have ended. Assumes nothing.
use mathlib.Core.Path.{◌≡◌, refl, sym, ap, ◌∙◌}
use mathlib.Core.Bool.{Bool}
use mathlib.Core.List.{List, []}
use Prim.Native.Nat.{ℕ}
use lib.ListN.{length}
use Rattle.book.specs.Choose.{choose}
use Rattle.book.proofs.Choosing.{choose_case}
use Rattle.search_rules.specs.Order.{Entry}
use Rattle.search_rules.specs.Instance.{Instance}
use Rattle.search_rules.specs.Step.{SearchState, settled}
use Rattle.search_rules.specs.Run.{Answer, run, answer}
use Rattle.search_rules.proofs.Theorems.{answer-settled, answer-taken, answer-measured, answer-listed, answer-spent}
use Rattle.search_state.specs.code.State.{state_of}
use Rattle.search_state.proofs.Cells.{parts_of_lem, state_by}
use Rattle.search_state.proofs.Newest.{newest-length}
use Rattle.search_run.specs.declared.Outcome.{Outcome}
use Rattle.search_run.specs.code.Answers.{answer_of}

same_answer : (a : Answer) (s : Bool) (l : List Entry) (t m : ℕ) → s ≡ a.settled → l ≡ a.listed → t ≡ a.taken → m ≡ a.measured
    → ◌≡◌ {A = Answer} (record { settled = s; listed = l; taken = t; measured = m }) a
same_answer a s l t m e f g h = rw (e, f, g, h) refl

module _ (i : Instance) (limit r n : ℕ) (words : List ℕ) (o : Outcome)
    (stood : state_of r n words o.progress.kept o.progress.yards o.progress.measured ≡ (run i limit).state)
    (taken : o.taken ≡ (run i limit).taken) (ended : o.settled ≡ settled i (run i limit).state) where
  held-is : o.progress.kept ≡ (run i limit).state.held
  held-is = ap (λ (s : SearchState). s.held) (sym (state_by (parts_of_lem r n words) o.progress.kept o.progress.yards o.progress.measured) ∙ stood)

  settled_is : o.settled ≡ (answer i limit).settled
  settled_is = ended ∙ sym (answer-settled i limit)

  listed-is : choose o.settled o.progress.kept [] ≡ (answer i limit).listed
  listed-is =
      choose_case (λ (l : List Entry). l ≡ (answer i limit).listed) o.settled (λ t. held-is ∙ sym (answer-listed i limit (rw settled_is at t)))
      (λ t. sym (answer-spent i limit (rw settled_is at t)).0)

  measured-is : o.progress.measured ≡ (answer i limit).measured
  measured-is =
      sym (newest-length o.progress.yards o.progress.measured)
      ∙ ap (λ (s : SearchState). length s.measured) (sym (state_by (parts_of_lem r n words) o.progress.kept o.progress.yards o.progress.measured) ∙ stood)
      ∙ sym (answer-measured i limit)

  pub answer-is : answer_of o ≡ answer i limit
  unfolding answer_of
  answer-is = same_answer (answer i limit) o.settled _ o.taken o.progress.measured settled_is listed-is (taken ∙ sym (answer-taken i limit)) measured-is

-- an outcome's answer, field by field
pub answered : (o : Outcome) → answer_of o ≡ record {
  settled = o.settled;
  listed = choose o.settled o.progress.kept [];
  taken = o.taken;
  measured = o.progress.measured;
}
unfolding answer_of
answered o = refl
