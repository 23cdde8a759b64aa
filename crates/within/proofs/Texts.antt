-- The seconds before the first line end, and what is printed for an input that has them or not. Assumes nothing.
use mathlib.Core.Path.{◌≡◌, sym, ap, ◌∙◌}
use mathlib.Core.Logic.{◌⊎◌, inl, inr}
use mathlib.Core.Bool.{not}
use mathlib.Core.Option.{Option, none, some}
use mathlib.Core.List.{List}
use Prim.Native.Nat.{ℕ, ◌+◌, ◌≤◌, ◌<◌}
use native.Mathlib.Omega.{arith}
use lib.ListN.{length, take, drop, replicate}
use lib.Dec.{T, ltb, ltb→lt, nltb→le, lt→ltb, not_T}
use Rattle.book.proofs.Choosing.{choose_yes, choose_no, T-split}
use Rattle.text.specs.Text.{refused_text}
use Rattle.listing.specs.Output.{books_text}
use Rattle.listing.proofs.Taking.{from, from_is}
use Rattle.within.specs.Input.{line_length, number_of, seconds_in, books_in}
use Rattle.within.specs.Output.{result_words, text_by, within_text}

module _ (s : List ℕ) where
  pub line_missing : length s ≤ line_length s → none ≡ seconds_in s
  unfolding seconds_in
  line_missing h =
      let test = ltb (line_length s) (length s) in
      sym (choose_no test _ _ (not_T test (λ t. omega (arith, ltb→lt (line_length s) (length s) t))))

  pub line_there : (end : ℕ) → end ≡ line_length s → end < length s → number_of (take end s) ≡ seconds_in s
  unfolding seconds_in
  line_there end e h =
      ap (λ (n : ℕ). number_of (take n s)) e ∙ sym (choose_yes (ltb (line_length s) (length s)) _ _ (lt→ltb (line_length s) (length s) (omega arith)))

  -- seconds are given only if there is a line end
  pub line_given : (n : ℕ) → some n ≡ seconds_in s → line_length s < length s
  line_given n e = go (T-split (ltb (line_length s) (length s)))
    where
      go : T (ltb (line_length s) (length s)) ⊎ T (not (ltb (line_length s) (length s))) → line_length s < length s
      go (inl t) = ltb→lt (line_length s) (length s) t
      go (inr t) =
          let m : none ≡ seconds_in s = line_missing (nltb→le (line_length s) (length s) t) in
          let z : ◌≡◌ {A = ℕ} 0 1 = cc in
          absurd (omega arith)

  -- what is printed
  pub refused-is : (why : ℕ) → why ≡ 1 → none ≡ seconds_in s → refused_text why ≡ within_text s
  unfolding within_text text_by
  refused-is why w e = ap refused_text w ∙ ap (λ (o : Option ℕ). text_by o (books_in s)) e

  pub listed-is : (n start : ℕ) (results : List ℕ) → some n ≡ seconds_in s → start ≡ line_length s + 1 → results ≡ replicate result_words 0
      → books_text (from s start) (some n) results ≡ within_text s
  unfolding within_text text_by books_in
  listed-is n start results e f g =
      ap (books_text (from s start) (some n)) g
      ∙ ap (λ (b : List ℕ). books_text b (some n) (replicate result_words 0)) (from_is s start ∙ ap (λ (k : ℕ). drop k s) f)
      ∙ ap (λ (o : Option ℕ). text_by o (drop (line_length s + 1) s)) e
