-- What is printed, by the numbers that a search returns. Assumes nothing.
use mathlib.Core.Path.{◌≡◌, ap, ◌∙◌}
use mathlib.Core.Option.{Option}
use mathlib.Core.List.{List, ◌++◌, append_assoc}
use Prim.Native.Nat.{ℕ}
use lib.ListN.{length}
use lib.Dec.{eqb}
use Rattle.book.proofs.Choosing.{choose_yes, choose_no}
use Rattle.book.proofs.Lists.{eq→eqb, ne→neqb}
use Rattle.text.specs.Text.{in_turn, refused_text}
use Rattle.search_call.specs.Call.{Found}
use Rattle.search_tree.specs.declared.Found.{Found as Returned}
use Rattle.search_tree.specs.Found.{found_of}
use Rattle.search_tree.proofs.Fields.{returned}
use Rattle.listing.specs.Input.{found_in, results_in}
use Rattle.listing.specs.Output.{word_spent, heading, counts_line, listed_line, spent_text, settled_text, answer_text, books_text}

module _ (f : Found) (results : List ℕ) where
  refused_text_lem : (f.refusal ≡ 0 → ⊥) → answer_text f results ≡ refused_text f.refusal
  unfolding answer_text
  refused_text_lem h = choose_no (eqb f.refusal 0) _ _ (ne→neqb f.refusal 0 h)

  spent_text_lem : f.refusal ≡ 0 → f.settled ≡ 0 → answer_text f results ≡ spent_text f
  unfolding answer_text
  spent_text_lem e s = choose_yes (eqb f.refusal 0) _ _ (eq→eqb f.refusal 0 e) ∙ choose_yes (eqb f.settled 0) _ _ (eq→eqb f.settled 0 s)

  settled_text_lem : f.refusal ≡ 0 → (f.settled ≡ 0 → ⊥) → answer_text f results ≡ settled_text f results
  unfolding answer_text
  settled_text_lem e s = choose_yes (eqb f.refusal 0) _ _ (eq→eqb f.refusal 0 e) ∙ choose_no (eqb f.settled 0) _ _ (ne→neqb f.settled 0 s)

-- by what was returned
module _ (r : Returned) (results : List ℕ) where
  same : (t : List ℕ)
      → answer_text (record { refusal = r.refusal; settled = r.settled; listed = r.listed; taken = r.taken; measured = r.measured }) results ≡ t
      → answer_text (found_of r) results ≡ t
  same t e = ap (λ (f : Found). answer_text f results) (returned r) ∙ e

  pub refused_is : (r.refusal ≡ 0 → ⊥) → answer_text (found_of r) results ≡ refused_text r.refusal
  refused_is h = same _ (refused_text_lem _ results h)

  pub spent_is : r.refusal ≡ 0 → r.settled ≡ 0 → answer_text (found_of r) results ≡ word_spent ++ counts_line r.measured r.taken
  unfolding spent_text
  spent_is e s = same _ (spent_text_lem _ results e s)

  pub settled_is : r.refusal ≡ 0 → (r.settled ≡ 0 → ⊥)
      → answer_text (found_of r) results ≡ (heading ++ in_turn (listed_line results) r.listed) ++ counts_line r.measured r.taken
  unfolding settled_text
  settled_is e s = same _ (settled_text_lem _ results e s)

-- what a search's answer asks
pub ruleset answers = (refused_is, spent_is, settled_is, append_assoc)

-- what the answer to a search by books leads to is what is printed for them
pub printed : (s : List ℕ) (drive : Option ℕ) (results later : List ℕ) (r : Returned) → found_of r ≡ found_in s drive (length results)
    → later ≡ results_in s drive results → answer_text (found_of r) later ≡ books_text s drive results
unfolding books_text
printed s drive results later r e f = cc
