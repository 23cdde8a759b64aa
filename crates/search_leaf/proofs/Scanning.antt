-- The next element of a leaf's list, by a scan. Assumes nothing.
use mathlib.Core.Path.{◌≡◌, refl, sym, ap, ◌∙◌}
use mathlib.Core.Bool.{Bool, true, false, not, ◌||◌}
use mathlib.Core.List.Memᴰ.{head}
use mathlib.Core.List.Memᴰ.{tail}
use mathlib.Core.List.{List, [], ◌∷◌, Memᴰ as Mem}
use Prim.Native.Nat.{ℕ, zero, suc, ◌+◌, ◌≤◌, ◌<◌}
use native.Mathlib.Numerals.{add-one}
use native.Mathlib.Omega.{arith}
use lib.ListN.{length, get_or}
use lib.Dec.{ltb, eqb, lt→ltb}
use borrow.Author.Tests.{le-ltb, eq-eqb, ne_eqb}
use Rattle.book.specs.Choose.{choose}
use Rattle.book.proofs.Choosing.{choose_yes, choose_no, choose_case, false_T, true_T}
use Rattle.tree_layout.specs.Values.{Element, Mark}
use Rattle.tree_layout.specs.Decode.{read_list}
use Rattle.tree_layout.specs.Reading.{element}
use Rattle.tree_layout.specs.code.Accessors.{listed_at}
use Rattle.tree_layout.specs.declared.Listed.{Listed}
use Rattle.tree_layout.proofs.Formed.{read_list-length}
use Rattle.search_rules.specs.Instance.{Instance}
use Rattle.search_rules.specs.Bounds.{f}
use Rattle.search_rules.specs.Queue.{unqueued, word_at, pick}
use Rattle.search_rules.specs.Step.{left, passed, waiting, next_place, next_f}
use Rattle.search_rules.proofs.Queue.{passed_is}
use Rattle.search_rules.proofs.Turns.{word-at, pick-none, pick_more}
use Rattle.search_rules.proofs.Measures.{left_is, waiting_none, waiting-cons, next-place-is, next-f-is}
use Rattle.search_state.specs.code.State.{word_count, gone_at, fs_in, gone_in}
use Rattle.search_state.proofs.Cells.{part_at, gone_at_lem}
use Rattle.search_leaf.specs.code.Leaves.{unwanted_f, f_word, element_word, words_of}
use Rattle.search_leaf.proofs.Numbering.{listed-at}

-- ---- a word

-- of what stands among the f's
pub mark_word : (x : ℕ) → x ≡ unwanted_f → f_word x ≡ unqueued
unfolding f_word
mark_word x e = choose_yes (eqb x unwanted_f) unqueued x (true_T (eq-eqb x unwanted_f e))

pub other_word : (x : ℕ) → (x ≡ unwanted_f → ⊥) → f_word x ≡ x
unfolding f_word
other_word x n = choose_no (eqb x unwanted_f) unqueued x (false_T (ne_eqb x unwanted_f n))

module _ (r n : ℕ) (ws vs : List ℕ) (y : ℕ) (count : length ws ≡ word_count r n) (h : y < n) (g : ℕ) (eg : g ≡ gone_at r n + y) where
  pub word-gone : get_or ws g 0 ≡ 0 → unqueued ≡ element_word (fs_in n vs) (gone_in r n ws) y
  unfolding element_word
  word-gone e = sym (choose_yes (left (gone_in r n ws) y) unqueued (f_word (get_or (fs_in n vs) y 0))
      (true_T (left_is (gone_in r n ws) y ∙ (gone_at_lem r n ws y g 0 count eg h ∙ eq-eqb (get_or ws g 0) 0 e))))

  pub word-there : (get_or ws g 0 ≡ 0 → ⊥) → (x : ℕ) → x ≡ f_word (get_or vs y 0) → x ≡ element_word (fs_in n vs) (gone_in r n ws) y
  unfolding element_word
  word-there e x ex = ex ∙ sym (choose_no (left (gone_in r n ws) y) unqueued (f_word (get_or (fs_in n vs) y 0))
      (false_T (left_is (gone_in r n ws) y ∙ (gone_at_lem r n ws y g 0 count eg h ∙ ne_eqb (get_or ws g 0) 0 e)))
      ∙ ap f_word (part_at vs 0 n y y 0 (omega arith) h))

-- ---- the words

module _ (fs : List ℕ) (gone : List Bool) where
  pub words-length : (es : List Element) → length (words_of fs gone es) ≡ length es
  unfolding words_of
  words-length [] = refl
  words-length (e ∷ es) = ap suc (words-length es)

  -- the word of element number k
  words_read : (es : List Element) (k : ℕ) (d : Element) → k < length es → get_or (words_of fs gone es) k 0 ≡ element_word fs gone (get_or es k d).yard
  unfolding words_of
  words_read [] k d h = absurd (omega arith)
  words_read (e ∷ es) zero d h = refl
  words_read (e ∷ es) (suc k) d h = words_read es k d (omega arith)

  -- by the yard and the word that were read
  pub words_by : (v : ℕ) (p : List ℕ) (n k x : ℕ) (e : Listed) → k < n → e ≡ listed_at v p k → x ≡ element_word fs gone e.yard.number
      → x ≡ word_at (words_of fs gone (read_list v p n 0)) k
  words_by v p n k x e h l q =
      let inside : k < length (read_list v p n 0) = omega (arith, read_list-length v p n 0) in
      q ∙ sym (word-at (words_of fs gone (read_list v p n 0)) k 0 (omega (arith, words-length (read_list v p n 0)))
      ∙ (words_read (read_list v p n 0) k (element 0 0 0) inside
      ∙ ap (λ (g : Element). element_word fs gone g.yard) (listed-at v p n k h e l (element 0 0 0))))

-- ---- a scan, with k of n elements done

pub record Scanned (ws : List ℕ) (k place word : ℕ) : Type 0 where
  pub picked : place ≡ pick ws k
  pub of : word ≡ word_at ws place

pub scanned_first : (ws : List ℕ) (word : ℕ) → word ≡ word_at ws 0 → Scanned ws 1 0 word
scanned_first ws word e = record
    { picked = sym (pick_more ws 0 ∙ choose_case (λ p. p ≡ 0) (ltb (word_at ws 0) (word_at ws (pick ws 0))) (λ t. refl) (λ t. pick-none ws)); of = e }

module _ {ws : List ℕ} {k place word : ℕ} (s : Scanned ws k place word) (w : ℕ) (e : w ≡ word_at ws k) where
  least : word ≡ word_at ws (pick ws k)
  least = s.of ∙ ap (word_at ws) s.picked

  scanned_less : w < word → Scanned ws (k + 1) k w
  scanned_less h = record {
    picked = sym (ap (pick ws) (add-one k) ∙ pick_more ws k
        ∙ choose_yes (ltb (word_at ws k) (word_at ws (pick ws k))) k (pick ws k) (lt→ltb (word_at ws k) (word_at ws (pick ws k)) (omega (arith, least))));
    of = e;
  }

  scanned_stays : word ≤ w → Scanned ws (k + 1) place word
  scanned_stays h = record {
    picked = s.picked ∙ sym (ap (pick ws) (add-one k) ∙ pick_more ws k
        ∙ choose_no (ltb (word_at ws k) (word_at ws (pick ws k))) k (pick ws k)
        (false_T (le-ltb (word_at ws k) (word_at ws (pick ws k)) (omega (arith, least)))));
    of = s.of;
  }

  -- by what is kept after the test
  pub scanned_on : (place' word' : ℕ) → place' ≡ k → word' ≡ w → w < word → Scanned ws (k + 1) place' word'
  scanned_on place' word' p q h = rw (p, q) (scanned_less h)

  pub scanned_still : (place' word' : ℕ) → place' ≡ place → word' ≡ word → word ≤ w → Scanned ws (k + 1) place' word'
  scanned_still place' word' p q h = rw (p, q) (scanned_stays h)

pub scanned_all : (ws : List ℕ) (n k place word : ℕ) → Scanned ws k place word → k ≤ n → n ≤ k → (place ≡ pick ws n) × (word ≡ word_at ws place)
scanned_all ws n k place word s h j = let z : k ≡ n = omega arith in (rw (← z) s.picked, s.of)

-- ---- of a search

module _ (i : Instance) (fs : List ℕ) (gone : List Bool) (m : Mark) where
  -- an element's word is `unqueued` if it has left or is not wanted, else its f, which is no mark
  word-waiting : (e : Element) → f i m e < unwanted_f → get_or fs e.yard 0 ≡ choose (i.wants e.yard) (f i m e) unwanted_f
      → element_word fs gone e.yard ≡ choose (passed i gone e.yard) unqueued (f i m e)
  unfolding element_word
  word-waiting e small q = rw (passed_is i gone e.yard, q) (go (left gone e.yard) (i.wants e.yard))
    where
      go : (l w : Bool) → choose l unqueued (f_word (choose w (f i m e) unwanted_f)) ≡ choose (l || not w) unqueued (f i m e)
      go true w = choose_yes true unqueued _ tt ∙ sym (choose_yes true unqueued (f i m e) tt)
      go false true = choose_no false unqueued _ tt
          ∙ (ap f_word (choose_yes true (f i m e) unwanted_f tt) ∙ (other_word (f i m e) (λ z. omega arith) ∙ sym (choose_no false unqueued (f i m e) tt)))
      go false false = choose_no false unqueued _ tt
          ∙ (ap f_word (choose_no false (f i m e) unwanted_f tt) ∙ (mark_word unwanted_f refl ∙ sym (choose_yes true unqueued (f i m e) tt)))

  words-waiting : (es : List Element) → ((e : Element) → Mem e es → f i m e < unwanted_f)
      → ((e : Element) → Mem e es → get_or fs e.yard 0 ≡ choose (i.wants e.yard) (f i m e) unwanted_f) → words_of fs gone es ≡ waiting i gone m es
  unfolding words_of
  words-waiting [] small h = sym (waiting_none i gone m)
  words-waiting (e ∷ es) small h =
      rw (word-waiting e (small e (head refl)) (h e (head refl)), words-waiting es (λ x k. small x (tail k)) (λ x k. h x (tail k)))
      (sym (waiting-cons i gone m e es))

  module _ (small : (e : Element) → Mem e m.list → f i m e < unwanted_f)
      (h : (e : Element) → Mem e m.list → get_or fs e.yard 0 ≡ choose (i.wants e.yard) (f i m e) unwanted_f) (place word : ℕ)
      (p : place ≡ pick (words_of fs gone m.list) (length m.list)) (q : word ≡ word_at (words_of fs gone m.list) place) where
    pub next_place_lem : place ≡ next_place i gone m
    next_place_lem = p ∙ rw (words-waiting m.list small h) (sym (next-place-is i gone m))

    pub next-f : word ≡ next_f i gone m
    next-f = q ∙ rw (words-waiting m.list small h, next_place_lem) (sym (next-f-is i gone m))
