-- One pick over all keys is the definition's choice: the region of least key, or the yard if its key is less. Assumes nothing.
use mathlib.Core.Path.{◌≡◌, refl, sym, ap, ◌∙◌}
use mathlib.Core.List.{List}
use Prim.Native.Nat.{ℕ, ◌+◌, ◌-◌, ◌≤◌, ◌<◌, min}
use native.Mathlib.Decide.{dec_lt}
use native.Mathlib.Omega.{arith}
use lib.ListN.{length, get_or}
use Rattle.search_rules.specs.Instance.{Instance, size}
use Rattle.search_rules.specs.Queue.{unqueued, word_at, pick}
use Rattle.search_rules.specs.Step.{SearchState, next_region, next_yard, least_key}
use Rattle.search_rules.proofs.Queue.{pick-least, pick-range}
use Rattle.search_rules.proofs.Turns.{word-at, pick_first}
use Rattle.search_rules.proofs.Steps.{next_region_is, next-yard-is, least_key_is}
use Rattle.search_rules.specs.Order.{Entry}
use Rattle.search_state.specs.code.State.{word_count, part, region_keys_in, yard_keys_in, state_of}
use Rattle.search_state.proofs.Cells.{part_length, part_at, parts_of_lem, state_by}

-- the least word, and of equal ones the first, is one
pick_unique : (ws : List ℕ) (j p : ℕ) → 0 < j → p < j → ((v : ℕ) → v < j → word_at ws p ≤ word_at ws v)
    → ((v : ℕ) → v < p → word_at ws p < word_at ws v) → p ≡ pick ws j
pick_unique ws j p s h low first = go (dec_lt p (pick ws j)) (dec_lt (pick ws j) p)
  where
    go : Dec (p < pick ws j) → Dec (pick ws j < p) → p ≡ pick ws j
    go (yes k) d = absurd (omega (arith, low (pick ws j) (pick-range ws j s), pick_first ws j p k))
    go (no k) (yes l) = absurd (omega (arith, first (pick ws j) l, pick-least ws j p h))
    go (no k) (no l) = omega (arith, k, l)

module _ (r n : ℕ) (ws : List ℕ) (size_is : length ws ≡ word_count r n) (some_region : 0 < r) (some-junction : 0 < n) where
  abbrev all : List ℕ
  all = part ws 0 (r + n)

  abbrev keys : List ℕ
  keys = region_keys_in r n ws

  abbrev yards : List ℕ
  yards = yard_keys_in r n ws

  -- a word of each of the two parts
  key_there : (v : ℕ) → v < r → word_at all v ≡ word_at keys v
  key_there v h =
      word-at all v 0 (omega (arith, part_length ws 0 (r + n) (omega arith)))
      ∙ (part_at ws 0 (r + n) v v 0 (omega arith) (omega arith) ∙ (sym (part_at ws 0 r v v 0 (omega arith) h)
      ∙ sym (word-at keys v 0 (omega (arith, part_length ws 0 r (omega arith))))))

  yard-there : (v : ℕ) → v < n → word_at all (r + v) ≡ word_at yards v
  yard-there v h =
      word-at all (r + v) 0 (omega (arith, part_length ws 0 (r + n) (omega arith)))
      ∙ (part_at ws 0 (r + n) (r + v) (r + v) 0 (omega arith) (omega arith) ∙ (sym (part_at ws r n v (r + v) 0 refl h)
      ∙ sym (word-at yards v 0 (omega (arith, part_length ws r n (omega arith))))))

  abbrev a : ℕ
  a = word_at keys (pick keys r)

  abbrev b : ℕ
  b = word_at yards (pick yards n)

  key_low : (v : ℕ) → v < r → a ≤ word_at all v
  key_low v h = omega (arith, key_there v h, pick-least keys r v h)

  yard-low : (v : ℕ) → r ≤ v → v < r + n → b ≤ word_at all v
  yard-low v g h = go (v - r) (omega arith)
    where
      go : (u : ℕ) → v ≡ r + u → b ≤ word_at all v
      go u e = rw e (omega (arith, yard-there u (omega arith), pick-least yards n u (omega arith)))

  -- the two cases
  yard-chosen : b < a → r + pick yards n ≡ pick all (r + n)
  yard-chosen h = pick_unique all (r + n) (r + pick yards n) (omega arith) (omega (arith, inside)) low first
    where
      inside : pick yards n < n
      inside = pick-range yards n some-junction

      is : word_at all (r + pick yards n) ≡ b
      is = yard-there (pick yards n) inside

      low : (v : ℕ) → v < r + n → word_at all (r + pick yards n) ≤ word_at all v
      low v k = go (dec_lt v r)
        where
          go : Dec (v < r) → word_at all (r + pick yards n) ≤ word_at all v
          go (yes l) = omega (arith, is, key_low v l)
          go (no l) = omega (arith, is, yard-low v (omega (arith, l)) k)

      first : (v : ℕ) → v < r + pick yards n → word_at all (r + pick yards n) < word_at all v
      first v k = go (dec_lt v r)
        where
          later : (u : ℕ) → v ≡ r + u → word_at all (r + pick yards n) < word_at all v
          later u e =
              let w : word_at all v ≡ word_at yards u = rw e (yard-there u (omega (arith, inside))) in
              omega (arith, is, w, pick_first yards n u (omega arith))

          go : Dec (v < r) → word_at all (r + pick yards n) < word_at all v
          go (yes l) = omega (arith, is, key_low v l)
          go (no l) = later (v - r) (omega (arith, l))

  region_chosen : a ≤ b → pick keys r ≡ pick all (r + n)
  region_chosen h = pick_unique all (r + n) (pick keys r) (omega arith) (omega (arith, inside)) low first
    where
      inside : pick keys r < r
      inside = pick-range keys r some_region

      is : word_at all (pick keys r) ≡ a
      is = key_there (pick keys r) inside

      low : (v : ℕ) → v < r + n → word_at all (pick keys r) ≤ word_at all v
      low v k = go (dec_lt v r)
        where
          go : Dec (v < r) → word_at all (pick keys r) ≤ word_at all v
          go (yes l) = omega (arith, is, key_low v l)
          go (no l) = omega (arith, is, yard-low v (omega (arith, l)) k)

      first : (v : ℕ) → v < pick keys r → word_at all (pick keys r) < word_at all v
      first v k = omega (arith, is, key_there v (omega (arith, inside)), pick_first keys r v k)

  pub picked-inside : (p : ℕ) → p ≡ pick all (r + n) → p < r + n
  picked-inside p e = omega (arith, pick-range all (r + n) (omega arith))

  -- ---- by the definition

  module _ (i : Instance) (er : size i ≡ r) (en : i.tree.junctions ≡ n) (held : List Entry) (measured : List ℕ) (count : ℕ) where
    abbrev st : SearchState
    st = state_of r n ws held measured count

    keys_of : st.region_keys ≡ keys
    keys_of = ap (λ (s : SearchState). s.region_keys) (state_by (parts_of_lem r n ws) held measured count)

    yards_of_lem : st.yard_keys ≡ yards
    yards_of_lem = ap (λ (s : SearchState). s.yard_keys) (state_by (parts_of_lem r n ws) held measured count)

    region_is : next_region i st ≡ pick keys r
    region_is = next_region_is i st ∙ rw (keys_of, er) refl

    yard-is : next_yard i st ≡ pick yards n
    yard-is = next-yard-is i st ∙ rw (yards_of_lem, en) refl

    region_word : word_at st.region_keys (next_region i st) ≡ a
    region_word = ap (word_at st.region_keys) region_is ∙ ap (λ (l : List ℕ). word_at l (pick keys r)) keys_of

    yard-word : word_at st.yard_keys (next_yard i st) ≡ b
    yard-word = ap (word_at st.yard_keys) yard-is ∙ ap (λ (l : List ℕ). word_at l (pick yards n)) yards_of_lem

    least-is : least_key i st ≡ min a b
    least-is = least_key_is i st ∙ rw (region_word, yard-word) refl

    -- the region's word is one of the array's
    pub region_low : ((j : ℕ) → get_or ws j 0 ≤ unqueued) → word_at st.region_keys (next_region i st) ≤ unqueued
    region_low h =
        let k : pick keys r < r = pick-range keys r some_region in
        omega (
          arith,
          region_word,
          word-at keys (pick keys r) 0 (omega (arith, part_length ws 0 r (omega arith))),
          part_at ws 0 r (pick keys r) (pick keys r) 0 (omega arith) k,
          h (pick keys r),
        )

    module _ (p : ℕ) (e : p ≡ pick all (r + n)) where
      -- its word is the least key
      pub picked-word : get_or ws p 0 ≡ least_key i st
      picked-word = sym (part_at ws 0 (r + n) p p 0 (omega arith) (picked-inside p e))
          ∙ (sym (word-at all p 0 (omega (arith, picked-inside p e, part_length ws 0 (r + n) (omega arith)))) ∙ (go (dec_lt b a) ∙ sym least-is))
        where
          go : Dec (b < a) → word_at all p ≡ min a b
          go (yes h) = let q : p ≡ r + pick yards n = e ∙ sym (yard-chosen h) in
              rw q (yard-there (pick yards n) (pick-range yards n some-junction) ∙ omega arith)
          go (no h) = let k : a ≤ b = omega (arith, h) in let q : p ≡ pick keys r = e ∙ sym (region_chosen k) in
              rw q (key_there (pick keys r) (pick-range keys r some_region) ∙ omega arith)

      -- a region
      module _ (h : p < r) where
        pub picked-most : word_at st.region_keys (next_region i st) ≤ word_at st.yard_keys (next_yard i st)
        picked-most = omega (arith, region_word, yard-word, go (dec_lt b a))
          where
            go : Dec (b < a) → a ≤ b
            go (yes k) = absurd (omega (arith, yard-chosen k))
            go (no k) = omega (arith, k)

        pub picked_region : p ≡ next_region i st
        picked_region = e ∙ (sym (region_chosen (omega (arith, picked-most, region_word, yard-word))) ∙ sym region_is)

      -- a yard
      module _ (h : r ≤ p) where
        pub picked_less : word_at st.yard_keys (next_yard i st) < word_at st.region_keys (next_region i st)
        picked_less = omega (arith, region_word, yard-word, go (dec_lt b a))
          where
            go : Dec (b < a) → b < a
            go (yes k) = k
            go (no k) = absurd (omega (arith, region_chosen (omega (arith, k)), pick-range keys r some_region))

        pub picked-yard : p - r ≡ next_yard i st
        picked-yard = omega (arith, yard-chosen (omega (arith, picked_less, region_word, yard-word)), yard-is)
