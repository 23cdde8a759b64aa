-- The parts of a search's words: their lengths and words, and what a store changes. Assumes nothing.
use mathlib.Core.Path.{◌≡◌, refl, ap, ◌∙◌}
use mathlib.Core.Bool.{Bool, true, false}
use mathlib.Core.List.{List, [], ◌∷◌}
use Prim.Native.Nat.{ℕ, zero, suc, ◌+◌, ◌-◌, ◌≤◌, ◌<◌}
use native.Mathlib.Omega.{arith}
use borrow.Author.Tests.{ne_eqb}
use lib.ListN.{length, get_or, take, drop, set, replicate, length-take, length-drop}
use lib.Seq.{take-set-le, take-set-lt, drop-set-lt, drop-set-add, get_or-take, get_or-drop}
use lib.Dec.{eqb}
use Rattle.search_rules.specs.Order.{Entry}
use Rattle.search_state.specs.code.State.{word_count, firsts_at, picks_at, gone_at, part, zeros, newest, state_of}
use Rattle.search_state.specs.code.State.{region_keys_in, yard_keys_in, firsts_in, picks_in, gone_in}

-- ---- one part

module _ (ws : List ℕ) (at n : ℕ) where
  pub part_length : at + n ≤ length ws → length (part ws at n) ≡ n
  unfolding part
  part_length h = simp (length-take, length-drop) (omega arith)

  -- its word number i, which stands at place j
  pub part_at : (i j d : ℕ) → j ≡ at + i → i < n → get_or (part ws at n) i d ≡ get_or ws j d
  unfolding part
  part_at i j d e h = rw e (get_or-take n (drop at ws) i d h ∙ get_or-drop at ws i d)

  -- a store to its word number i, before it, and past it
  pub part_in : (i j x : ℕ) → j ≡ at + i → i < n → part (set ws j x) at n ≡ set (part ws at n) i x
  unfolding part
  part_in i j x e h = rw (e, drop-set-add at ws i x, take-set-lt n (drop at ws) i x h) refl

  pub part_before : (j x : ℕ) → j < at → part (set ws j x) at n ≡ part ws at n
  unfolding part
  part_before j x h = rw (drop-set-lt at ws j x h) refl

  pub part_past : (j x : ℕ) → at + n ≤ j → part (set ws j x) at n ≡ part ws at n
  unfolding part
  part_past j x h = go (j - at) (omega arith) (omega arith)
    where
      go : (i : ℕ) → j ≡ at + i → n ≤ i → part (set ws j x) at n ≡ part ws at n
      go i e k = rw (e, drop-set-add at ws i x, take-set-le n (drop at ws) i x k) refl

-- the first words
pub part-all : (ws : List ℕ) (n : ℕ) → part ws 0 n ≡ take n ws
unfolding part
part-all ws n = refl

-- equal words
drop-replicate : (m k x : ℕ) → drop m (replicate k x) ≡ replicate (k - m) x
drop-replicate zero k x = let z : k - 0 ≡ k = omega arith in rw z refl
drop-replicate (suc m) zero x = let z : 0 - suc m ≡ 0 = omega arith in rw z refl
drop-replicate (suc m) (suc k) x = drop-replicate m k x ∙ (let z : suc k - suc m ≡ k - m = omega arith in rw z refl)

take-replicate : (m k x : ℕ) → m ≤ k → take m (replicate k x) ≡ replicate m x
take-replicate zero k x h = refl
take-replicate (suc m) zero x h = absurd (omega arith)
take-replicate (suc m) (suc k) x h = ap (λ (l : List ℕ). x ∷ l) (take-replicate m k x (omega arith))

pub part-replicate : (m x at n : ℕ) → at + n ≤ m → part (replicate m x) at n ≡ replicate n x
unfolding part
part-replicate m x at n h = ap (take n) (drop-replicate at m x) ∙ take-replicate n (m - at) x (omega arith)

-- ---- the words that are 0

zeros-length : (ws : List ℕ) → length (zeros ws) ≡ length ws
unfolding zeros
zeros-length [] = refl
zeros-length (w ∷ ws) = ap suc (zeros-length ws)

zeros-at : (ws : List ℕ) (i d : ℕ) → i < length ws → get_or (zeros ws) i false ≡ eqb (get_or ws i d) 0
unfolding zeros
zeros-at [] i d h = absurd (omega arith)
zeros-at (w ∷ ws) zero d h = refl
zeros-at (w ∷ ws) (suc i) d h = zeros-at ws i d (omega arith)

zeros-set : (ws : List ℕ) (i : ℕ) → zeros (set ws i 0) ≡ set (zeros ws) i true
unfolding zeros
zeros-set [] i = refl
zeros-set (w ∷ ws) zero = refl
zeros-set (w ∷ ws) (suc i) = ap (λ (l : List Bool). eqb w 0 ∷ l) (zeros-set ws i)

zeros-replicate : (n x : ℕ) → (x ≡ 0 → ⊥) → zeros (replicate n x) ≡ replicate n false
unfolding zeros
zeros-replicate zero x h = refl
zeros-replicate (suc n) x h = rw (ne_eqb x 0 h, zeros-replicate n x h) refl

-- ---- all parts

-- what the parts of some words are
pub record Parts (r n : ℕ) (ws keys yards firsts picks : List ℕ) (gone : List Bool) : Type 0 where
  pub keys_are : region_keys_in r n ws ≡ keys
  pub yards_are : yard_keys_in r n ws ≡ yards
  pub firsts_are : firsts_in r n ws ≡ firsts
  pub picks_are : picks_in r n ws ≡ picks
  pub gone_are : gone_in r n ws ≡ gone

pub parts_of_lem : (r n : ℕ) (ws : List ℕ)
    → Parts r n ws (region_keys_in r n ws) (yard_keys_in r n ws) (firsts_in r n ws) (picks_in r n ws) (gone_in r n ws)
parts_of_lem r n ws = record { keys_are = refl; yards_are = refl; firsts_are = refl; picks_are = refl; gone_are = refl }

-- the state by its parts
pub state_by : {r n : ℕ} {ws keys yards firsts picks : List ℕ} {gone : List Bool} → Parts r n ws keys yards firsts picks gone
    → (held : List Entry) (measured : List ℕ) (count : ℕ) → state_of r n ws held measured count ≡ record {
      region_keys = keys;
      yard_keys = yards;
      firsts = firsts;
      gone = gone;
      held = held;
      measured = newest measured count;
    }
unfolding state_of
state_by p held measured count = rw (p.keys_are, p.yards_are, p.firsts_are, p.gone_are) refl

-- one store, at a place j that holds the word of a region or of a junction
module _ {r n : ℕ} {ws keys yards firsts picks : List ℕ} {gone : List Bool} (p : Parts r n ws keys yards firsts picks gone) (j x : ℕ) where
  pub store_key : (v : ℕ) → j ≡ v → v < r → Parts r n (set ws j x) (set keys v x) yards firsts picks gone
  store_key v e h = record {
    keys_are = part_in ws 0 r v j x (omega arith) h ∙ ap (λ (l : List ℕ). set l v x) p.keys_are;
    yards_are = part_before ws r n j x (omega arith) ∙ p.yards_are;
    firsts_are = part_before ws (firsts_at r n) r j x (omega arith) ∙ p.firsts_are;
    picks_are = part_before ws (picks_at r n) r j x (omega arith) ∙ p.picks_are;
    gone_are = ap zeros (part_before ws (gone_at r n) n j x (omega arith)) ∙ p.gone_are;
  }

  pub store_yard : (v : ℕ) → j ≡ r + v → v < n → Parts r n (set ws j x) keys (set yards v x) firsts picks gone
  store_yard v e h = record {
    keys_are = part_past ws 0 r j x (omega arith) ∙ p.keys_are;
    yards_are = part_in ws r n v j x e h ∙ ap (λ (l : List ℕ). set l v x) p.yards_are;
    firsts_are = part_before ws (firsts_at r n) r j x (omega arith) ∙ p.firsts_are;
    picks_are = part_before ws (picks_at r n) r j x (omega arith) ∙ p.picks_are;
    gone_are = ap zeros (part_before ws (gone_at r n) n j x (omega arith)) ∙ p.gone_are;
  }

  pub store_first : (v : ℕ) → j ≡ firsts_at r n + v → v < r → Parts r n (set ws j x) keys yards (set firsts v x) picks gone
  store_first v e h = record {
    keys_are = part_past ws 0 r j x (omega arith) ∙ p.keys_are;
    yards_are = part_past ws r n j x (omega arith) ∙ p.yards_are;
    firsts_are = part_in ws (firsts_at r n) r v j x e h ∙ ap (λ (l : List ℕ). set l v x) p.firsts_are;
    picks_are = part_before ws (picks_at r n) r j x (omega arith) ∙ p.picks_are;
    gone_are = ap zeros (part_before ws (gone_at r n) n j x (omega arith)) ∙ p.gone_are;
  }

  pub store_pick : (v : ℕ) → j ≡ picks_at r n + v → v < r → Parts r n (set ws j x) keys yards firsts (set picks v x) gone
  store_pick v e h = record {
    keys_are = part_past ws 0 r j x (omega arith) ∙ p.keys_are;
    yards_are = part_past ws r n j x (omega arith) ∙ p.yards_are;
    firsts_are = part_past ws (firsts_at r n) r j x (omega arith) ∙ p.firsts_are;
    picks_are = part_in ws (picks_at r n) r v j x e h ∙ ap (λ (l : List ℕ). set l v x) p.picks_are;
    gone_are = ap zeros (part_before ws (gone_at r n) n j x (omega arith)) ∙ p.gone_are;
  }

-- yard v leaves its leaf
pub store_gone : {r n : ℕ} {ws keys yards firsts picks : List ℕ} {gone : List Bool} → Parts r n ws keys yards firsts picks gone
    → (j v : ℕ) → j ≡ gone_at r n + v → v < n → Parts r n (set ws j 0) keys yards firsts picks (set gone v true)
store_gone {r} {n} {ws} p j v e h = record {
  keys_are = part_past ws 0 r j 0 (omega arith) ∙ p.keys_are;
  yards_are = part_past ws r n j 0 (omega arith) ∙ p.yards_are;
  firsts_are = part_past ws (firsts_at r n) r j 0 (omega arith) ∙ p.firsts_are;
  picks_are = part_past ws (picks_at r n) r j 0 (omega arith) ∙ p.picks_are;
  gone_are = ap zeros (part_in ws (gone_at r n) n v j 0 e h) ∙ (zeros-set (part ws (gone_at r n) n) v ∙ ap (λ (l : List Bool). set l v true) p.gone_are);
}

-- every word is that of what is not queued
pub parts-replicate : (r n x : ℕ) → (x ≡ 0 → ⊥)
    → Parts r n (replicate (word_count r n) x) (replicate r x) (replicate n x) (replicate r x)
    (replicate r x) (replicate n false)
parts-replicate r n x h = record {
  keys_are = part-replicate (word_count r n) x 0 r (omega arith);
  yards_are = part-replicate (word_count r n) x r n (omega arith);
  firsts_are = part-replicate (word_count r n) x (firsts_at r n) r (omega arith);
  picks_are = part-replicate (word_count r n) x (picks_at r n) r (omega arith);
  gone_are = ap zeros (part-replicate (word_count r n) x (gone_at r n) n (omega arith)) ∙ zeros-replicate n x h;
}

-- ---- the lengths of the parts

pub record Counts (r n : ℕ) (ws : List ℕ) : Type 0 where
  pub keys : length (region_keys_in r n ws) ≡ r
  pub yards : length (yard_keys_in r n ws) ≡ n
  pub firsts : length (firsts_in r n ws) ≡ r
  pub picks : length (picks_in r n ws) ≡ r
  pub gone : length (gone_in r n ws) ≡ n

pub counts_of : (r n : ℕ) (ws : List ℕ) → length ws ≡ word_count r n → Counts r n ws
counts_of r n ws e = record {
  keys = part_length ws 0 r (omega arith);
  yards = part_length ws r n (omega arith);
  firsts = part_length ws (firsts_at r n) r (omega arith);
  picks = part_length ws (picks_at r n) r (omega arith);
  gone = zeros-length (part ws (gone_at r n) n) ∙ part_length ws (gone_at r n) n (omega arith);
}

-- yard v has left
pub gone_at_lem : (r n : ℕ) (ws : List ℕ) (v j d : ℕ) → length ws ≡ word_count r n → j ≡ gone_at r n + v → v < n
    → get_or (gone_in r n ws) v false ≡ eqb (get_or ws j d) 0
gone_at_lem r n ws v j d e f h =
    zeros-at (part ws (gone_at r n) n) v d (omega (arith, part_length ws (gone_at r n) n (omega arith)))
    ∙ ap (λ (w : ℕ). eqb w 0) (part_at ws (gone_at r n) n v j d f h)
