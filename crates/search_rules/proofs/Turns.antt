-- The definitions that run over a list, one member further: what a loop's turn adds. Assumes nothing.
use mathlib.Core.Path.{◌≡◌, refl, sym, ap, ◌∙◌}
use mathlib.Core.Bool.{Bool, true, false, not, ◌||◌}
use mathlib.Core.List.{List, [], ◌∷◌, ◌++◌}
use Prim.Native.Nat.{ℕ, zero, suc, ◌+◌, ◌<◌, min, max}
use native.Mathlib.Omega.{arith}
use lib.ListN.{length, get_or, take}
use lib.Seq.{take-suc}
use lib.Dec.{T, ltb, ltb→lt}
use Rattle.book.specs.Choose.{choose}
use Rattle.book.proofs.Choosing.{choose_case, choose_yes, choose_no}
use Rattle.tree_layout.specs.Values.{Mark, no_mark}
use Rattle.search_rules.specs.Order.{Entry, yard_first}
use Rattle.search_rules.specs.Instance.{Instance}
use Rattle.search_rules.specs.Bounds.{combine, aggregate, greatest_of, least_from, least_of, weight, best, best_of}
use Rattle.search_rules.specs.Queue.{word_at, pick}
use Rattle.search_rules.specs.Held.{insert, hold, last_distance, greatest_held}
use Rattle.search_rules.specs.Step.{step, settled, start_search}
use Rattle.search_rules.specs.Run.{words, advance, run}
use Rattle.search_rules.proofs.Choices.{choose-two}
use Rattle.search_rules.proofs.Bounds.{combine-zero, combine_assoc}
use Rattle.search_rules.proofs.Queue.{pick-least}

-- ---- over crews

zero-combine : (code a : ℕ) → combine code 0 a ≡ a
unfolding combine
zero-combine code a = choose_case (λ x. x ≡ a) _ (λ t. omega arith) (λ t. omega arith)

aggregate-more : (code : ℕ) (g : ℕ → ℕ) (qs : List ℕ) (q : ℕ) → aggregate code g (qs ++ (q ∷ [])) ≡ combine code (aggregate code g qs) (g q)
unfolding aggregate
aggregate-more code g [] q = combine-zero code (g q) ∙ sym (zero-combine code (g q))
aggregate-more code g (p ∷ qs) q = ap (combine code (g p)) (aggregate-more code g qs q) ∙ sym (combine_assoc code (g p) (aggregate code g qs) (g q))

pub aggregate-take : (code : ℕ) (g : ℕ → ℕ) (qs : List ℕ) (j : ℕ) → j < length qs
    → aggregate code g (take (suc j) qs) ≡ combine code (aggregate code g (take j qs)) (g (get_or qs j 0))
aggregate-take code g qs j h = ap (aggregate code g) (take-suc qs j 0 h) ∙ aggregate-more code g (take j qs) (get_or qs j 0)

-- ---- over landmarks

greatest-more : (g : Mark → ℕ) (ms : List Mark) (m : Mark) → greatest_of g (ms ++ (m ∷ [])) ≡ max (greatest_of g ms) (g m)
unfolding greatest_of
greatest-more g [] m = omega arith
greatest-more g (n ∷ ms) m = omega (arith, greatest-more g ms m)

pub greatest-take : (g : Mark → ℕ) (ms : List Mark) (j : ℕ) → j < length ms
    → greatest_of g (take (suc j) ms) ≡ max (greatest_of g (take j ms)) (g (get_or ms j no_mark))
greatest-take g ms j h = ap (greatest_of g) (take-suc ms j no_mark h) ∙ greatest-more g (take j ms) (get_or ms j no_mark)

least_more : (g : Mark → ℕ) (n : Mark) (ms : List Mark) (m : Mark) → least_from g n (ms ++ (m ∷ [])) ≡ min (least_from g n ms) (g m)
unfolding least_from
least_more g n [] m = refl
least_more g n (k ∷ ms) m = omega (arith, least_more g k ms m)

-- the least of the first, and of one more
pub least_first : (g : Mark → ℕ) (ms : List Mark) → 0 < length ms → least_of g (take 1 ms) ≡ g (get_or ms 0 no_mark)
unfolding least_of least_from
least_first g [] h = absurd (omega arith)
least_first g (m ∷ ms) h = refl

pub least-take : (g : Mark → ℕ) (ms : List Mark) (j : ℕ) → 0 < j → j < length ms
    → least_of g (take (suc j) ms) ≡ min (least_of g (take j ms)) (g (get_or ms j no_mark))
unfolding least_of
least-take g ms zero s h = absurd (omega arith)
least-take g [] (suc j) s h = absurd (omega arith)
least-take g (n ∷ ms) (suc j) s h = ap (least_from g n) (take-suc ms j no_mark (omega arith)) ∙ least_more g n (take j ms) (get_or ms j no_mark)

module _ (i : Instance) where
  best-more : (n : Mark) (ms : List Mark) (m : Mark) → best i n (ms ++ (m ∷ [])) ≡ choose (ltb (weight i (best i n ms)) (weight i m)) m (best i n ms)
  unfolding best
  best-more n [] m = refl
  best-more n (k ∷ ms) m = let p = best-more k ms m in let q = best-more n ms m in
      choose-two (λ (x y : Mark). x ≡ choose (ltb (weight i y) (weight i m)) m y) (ltb (weight i n) (weight i k)) (λ t. p) (λ t. q)

  -- the landmark picked of the first, and of one more
  pub best-first : (ms : List Mark) → 0 < length ms → best_of i (take 1 ms) ≡ get_or ms 0 no_mark
  unfolding best_of best
  best-first [] h = absurd (omega arith)
  best-first (m ∷ ms) h = refl

  pub best-take : (ms : List Mark) (j : ℕ) → 0 < j → j < length ms
      → best_of i (take (suc j) ms) ≡ choose (ltb (weight i (best_of i (take j ms))) (weight i (get_or ms j no_mark))) (get_or ms j no_mark) (best_of i (take j ms))
  unfolding best_of
  best-take ms zero s h = absurd (omega arith)
  best-take [] (suc j) s h = absurd (omega arith)
  best-take (n ∷ ms) (suc j) s h = ap (best i n) (take-suc ms j no_mark (omega arith)) ∙ best-more n (take j ms) (get_or ms j no_mark)

-- ---- held yards

pub insert-none : (e : Entry) → insert e [] ≡ e ∷ []
unfolding insert
insert-none e = refl

pub insert-more : (e h : Entry) (hs : List Entry) → insert e (h ∷ hs) ≡ choose (yard_first e h) (e ∷ h ∷ hs) (h ∷ insert e hs)
unfolding insert
insert-more e h hs = refl

pub hold-is : (k : ℕ) (e : Entry) (held : List Entry) → hold k e held ≡ take k (insert e held)
unfolding hold
hold-is k e held = refl

pub greatest-is : (held : List Entry) → greatest_held held ≡ last_distance 0 held
unfolding greatest_held
greatest-is held = refl

-- an insertion as one pass that carries an element: from where it belongs on, each place takes what is carried and its own is carried on
unfoldable pub carried : Bool → Entry → List Entry → List Entry
carried placed c [] = c ∷ []
carried placed c (h ∷ hs) = choose (placed || yard_first c h) (c ∷ carried true h hs) (h ∷ carried false c hs)

carried_placed : (c : Entry) (l : List Entry) → carried true c l ≡ c ∷ l
unfolding carried
carried_placed c [] = refl
carried_placed c (h ∷ hs) = choose_yes true _ _ tt ∙ ap (λ l. c ∷ l) (carried_placed h hs)

pub carried_insert : (e : Entry) (l : List Entry) → carried false e l ≡ insert e l
unfolding carried insert
carried_insert e [] = refl
carried_insert e (h ∷ hs) = let p = carried_placed h hs in let q = carried_insert e hs in
    choose-two (λ (x y : List Entry). x ≡ y) (yard_first e h) (λ t. ap (λ l. e ∷ l) p) (λ t. ap (λ l. h ∷ l) q)

-- ---- the queue's least

-- a word that is read at its place
pub word-at : (ws : List ℕ) (j d : ℕ) → j < length ws → word_at ws j ≡ get_or ws j d
unfolding word_at
word-at [] j d h = absurd (omega arith)
word-at (w ∷ ws) zero d h = refl
word-at (w ∷ ws) (suc j) d h = word-at ws j d (omega arith)

pub pick-none : (ws : List ℕ) → pick ws 0 ≡ 0
unfolding pick
pick-none ws = refl

pub pick_more : (ws : List ℕ) (j : ℕ) → pick ws (suc j) ≡ choose (ltb (word_at ws j) (word_at ws (pick ws j))) j (pick ws j)
unfolding pick
pick_more ws j = refl

-- every number before it has a greater word: "lower number first"
pub pick_first : (ws : List ℕ) (j v : ℕ) → v < pick ws j → word_at ws (pick ws j) < word_at ws v
pick_first ws zero v h = absurd (omega (arith, pick-none ws))
pick_first ws (suc j) v h = rw pick_more (choose_case (λ p. v < p → word_at ws p < word_at ws v) (ltb (word_at ws j) (word_at ws (pick ws j)))
    (λ t k. omega (arith, ltb→lt (word_at ws j) (word_at ws (pick ws j)) t, pick-least ws j v k))
    (λ t k. pick_first ws j v k) (rw pick_more at h))

-- ---- a search's turn

module _ (i : Instance) where
  pub run_start : run i 0 ≡ record { state = start_search i; taken = 0 }
  unfolding run
  run_start = refl

  -- a search that isn't settled takes a step
  pub run_on : (limit : ℕ) → T (not (settled i (run i limit).state))
      → run i (suc limit) ≡ record { state = step i (run i limit).state; taken = suc (run i limit).taken }
  unfolding run advance
  run_on limit t = choose_no (settled i (run i limit).state) (run i limit) (record { state = step i (run i limit).state; taken = suc (run i limit).taken }) t

-- ---- the written words

pub words-none : words [] ≡ []
unfolding words
words-none = refl

pub words_append : (es : List Entry) (e : Entry) → words (es ++ (e ∷ [])) ≡ words es ++ (e.yard ∷ e.distance ∷ [])
unfolding words
words_append [] e = refl
words_append (g ∷ es) e = ap (λ l. g.yard ∷ g.distance ∷ l) (words_append es e)
