-- One turn of the scan for the least word. Assumes nothing.
use mathlib.Core.Path.{◌≡◌, sym, ◌∙◌}
use mathlib.Core.List.{List}
use Prim.Native.Nat.{ℕ, ◌+◌, ◌≤◌, ◌<◌}
use native.Mathlib.Numerals.{add-one}
use native.Mathlib.Omega.{arith}
use borrow.Author.Tests.{lt-ltb, le-ltb}
use lib.ListN.{length, get_or}
use lib.Dec.{ltb}
use Rattle.book.proofs.Choosing.{choose_yes, choose_no, true_T, false_T}
use Rattle.search_rules.specs.Queue.{word_at, pick}
use Rattle.search_rules.proofs.Queue.{pick-range}
use Rattle.search_rules.proofs.Turns.{word-at, pick-none, pick_more}

-- of the first j words p is the number of the least, and w is that word
pub record Picked (ws : List ℕ) (j p w : ℕ) : Type 0 where
  pub number : p ≡ pick ws j
  pub word : w ≡ word_at ws p

module _ (ws : List ℕ) where
  pub picked_none : length ws ≡ 0 → 0 ≡ pick ws (length ws)
  picked_none e = rw e (sym (pick-none ws))

  -- one more word is less, or not
  module _ (j p w : ℕ) (k : Picked ws j p w) (h : j < length ws) (q v : ℕ) where
    pub picked_less : q ≡ j → v ≡ get_or ws j 0 → get_or ws j 0 < w → Picked ws (j + 1) q v
    picked_less a b l = record {
      number = rw a (sym (rw (add-one, pick_more, ← k.number)
          (choose_yes (ltb (word_at ws j) (word_at ws p)) j p
          (true_T (lt-ltb (word_at ws j) (word_at ws p) (omega (arith, word-at ws j 0 h, k.word)))))));
      word = rw a (b ∙ sym (word-at ws j 0 h));
    }

    pub picked_same : q ≡ p → v ≡ w → w ≤ get_or ws j 0 → Picked ws (j + 1) q v
    picked_same a b l = record {
      number = rw a (sym (rw (add-one, pick_more, ← k.number)
          (choose_no (ltb (word_at ws j) (word_at ws p)) j p
          (false_T (le-ltb (word_at ws j) (word_at ws p) (omega (arith, word-at ws j 0 h, k.word)))))));
      word = rw a (b ∙ k.word);
    }

  -- the first word
  pub picked_first : 0 < length ws → Picked ws 1 0 (get_or ws 0 0)
  picked_first h = record { number = omega (arith, pick-range ws 1 (omega arith)); word = sym (word-at ws 0 0 h) }

  pub picked_all : (j p w : ℕ) → Picked ws j p w → j ≡ length ws → p ≡ pick ws (length ws)
  picked_all j p w k e = rw (← e) k.number
