-- Laws of the arrays that are filled in, and of the steps that fill them. Assumes nothing.
use mathlib.Core.Path.{◌≡◌, refl, sym, ap, ◌∙◌}
use mathlib.Core.Bool.{Bool, true, false}
use mathlib.Core.List.{List}
use Prim.Native.Nat.{ℕ, zero, suc, ◌+◌, ◌-◌, ◌≤◌, ◌<◌}
use native.Mathlib.Decide.{ℕ_discrete}
use native.Mathlib.Numerals.{add-one}
use native.Mathlib.Omega.{arith}
use lib.ListN.{length, get_or, set, take, drop, length-set}
use lib.Dec.{ltb}
use Rattle.book.specs.Choose.{choose}
use Rattle.book.proofs.Choosing.{choose_yes, choose_no, choose_case}
use lib.Seq.{get_or-set_same, get_or-set_other}
use Rattle.std.proofs.Common.{cond, count_by}
use Rattle.std.proofs.lemmas.List.Sums.{sum_by-cons}
use Rattle.book.specs.Open.{version}
use Rattle.tree_layout.specs.Sizes.{header_size, fields_size}
use Rattle.tree_layout.specs.Decode.{place_of, size_at, region_count, landmark_count}
use Rattle.tree_layout.specs.Facts.{TreeLayout}
use Rattle.tree_layout.proofs.Turns.{drop-next}
use Rattle.tree_layout.proofs.Places.{place_after, record_inside, size-least}
use Rattle.tree.specs.Yards.{hops, holders, level_by}
use Rattle.tree.specs.Arrays.{overwrite}

-- ---- a list whose first n numbers are replaced

module _ (f : ℕ → ℕ) (l : List ℕ) where
  pub overwrite-length : (n : ℕ) → length (overwrite f n l) ≡ length l
  unfolding overwrite
  overwrite-length zero = refl
  overwrite-length (suc n) = length-set (overwrite f n l) n (f n) ∙ overwrite-length n

  pub overwrite_new : (n j : ℕ) → j < n → n ≤ length l → get_or (overwrite f n l) j 0 ≡ f j
  unfolding overwrite
  overwrite_new zero j h k = absurd (omega arith)
  overwrite_new (suc n) j h k = go (ℕ_discrete n j) (λ p. overwrite_new n j p (omega arith))
    where
      go : Dec (n ≡ j) → (j < n → get_or (overwrite f n l) j 0 ≡ f j) → get_or (set (overwrite f n l) n (f n)) j 0 ≡ f j
      go (yes e) rec = rw (← e) (get_or-set_same (overwrite f n l) n (f n) 0 (omega (arith, overwrite-length n)))
      go (no e) rec = get_or-set_other (overwrite f n l) n j (f n) 0 (λ z. e (sym z)) ∙ rec (omega arith)

  pub overwrite_old : (n j : ℕ) → n ≤ j → get_or (overwrite f n l) j 0 ≡ get_or l j 0
  unfolding overwrite
  overwrite_old zero j h = refl
  overwrite_old (suc n) j h = get_or-set_other (overwrite f n l) n j (f n) 0 (λ z. omega arith) ∙ overwrite_old n j (omega arith)

  pub overwrite-none : overwrite f 0 l ≡ l
  unfolding overwrite
  overwrite-none = refl

  pub overwrite-next : (n : ℕ) → set (overwrite f n l) n (f n) ≡ overwrite f (n + 1) l
  unfolding overwrite
  overwrite-next n = rw add-one refl

-- ---- the places, one record at a time

module _ (b : List ℕ) (layout : TreeLayout b) (n m : ℕ) (n_is : n ≡ region_count b) (m-is : m ≡ landmark_count b) where
  -- the record of region i lies in the book
  module _ (i at : ℕ) (inside : i < n) (place : at ≡ place_of b i) where
    whole : at + size_at b m at ≤ length b
    whole = rw (place, m-is) (record_inside b layout.filled i (omega (arith, n_is)))

    pub place-room : (m ≤ 4) × (header_size ≤ length b) × (at + fields_size (version b) ≤ length b)
    place-room = (omega (arith, m-is, layout.landmarks.1), layout.opens.headed, omega (arith, whole, size-least b m at))

    pub place_end : (size : ℕ) → size ≡ size_at b m at → at + size ≤ length b
    place_end size e = omega (arith, whole)

    -- the next one stands after it
    pub place-next : (size : ℕ) → size ≡ size_at b m at → at + size ≡ place_of b (i + 1)
    place-next size e =
        let z : size_at b m at ≡ size_at b (landmark_count b) (place_of b i) = rw (place, m-is) refl in
        rw add-one (omega (arith, place_after b i))

  -- there is room for it in the array
  pub place_slot : (i : ℕ) (f : ℕ → ℕ) (l l₀ : List ℕ) → i < n → region_count b ≤ length l₀ → l ≡ overwrite f i l₀ → i < length l
  place_slot i f l l₀ h k e = omega (arith, n_is, ap length e, overwrite-length f l₀ i)

  -- all are filled in
  pub places-done : (i : ℕ) (f : ℕ → ℕ) (l : List ℕ) → i ≤ n → n ≤ i → overwrite f i l ≡ overwrite f (region_count b) l
  places-done i f l h k = let z : i ≡ region_count b = omega (arith, n_is) in rw z refl

-- ---- hops

pub hops-none : (f : ℕ → ℕ) (i : ℕ) → hops f 0 i ≡ i
unfolding hops
hops-none f i = refl

hops-after : (f : ℕ → ℕ) (k i : ℕ) → f (hops f k i) ≡ hops f (suc k) i
unfolding hops
hops-after f zero i = refl
hops-after f (suc k) i = hops-after f k (f i)

pub hops-next : (f : ℕ → ℕ) (k i : ℕ) → f (hops f k i) ≡ hops f (k + 1) i
hops-next f k i = hops-after f k i ∙ rw add-one refl

-- ---- levels

one-more : (t : Bool) (a b : ℕ) → a ≡ b → cond t 1 0 + a ≡ choose t 1 0 + b
one-more true a b e = rw (choose_yes {A = ℕ} true 1 0 tt, e) refl
one-more false a b e = rw (choose_no {A = ℕ} false 1 0 tt, e) refl

-- how many of the ends of n subtrees from number j on are above i
ends-above : (i : ℕ) (ends : List ℕ) (n j : ℕ) → j + n ≤ length ends → count_by (λ x. ltb i x) (take n (drop j ends)) ≡ holders (λ k. get_or ends k 0) n j i
unfolding holders
ends-above i ends zero j h = refl
ends-above i ends (suc n) j h =
    let s : j + 1 ≡ suc j = omega arith in
    let k : j < length ends = omega arith in
    rw (drop-next ends 0 j k, s) (sum_by-cons (λ x. cond (ltb i x) 1 0) (get_or ends j 0) (take n (drop (suc j) ends)) ∙ one-more (ltb i (get_or ends j 0)) _ _ (ends-above i ends n (suc j) (omega arith)))

-- a region's level is how many of the ends up to it are above its number
pub level-counted : (i : ℕ) (ends : List ℕ) → i < length ends → count_by (λ x. ltb i x) (take (i + 1) ends) ≡ level_by (λ j. get_or ends j 0) i
unfolding level_by
level-counted i ends h = rw add-one (ends-above i ends (suc i) 0 (omega arith))

module _ (f : ℕ → ℕ) (i : ℕ) where
  holders-most : (n j : ℕ) → holders f n j i ≤ n
  unfolding holders
  holders-most zero j = omega arith
  holders-most (suc n) j = omega (
    arith,
    choose_case (λ (x : ℕ). x ≤ 1) (ltb i (f j)) {x = 1} {y = 0} (λ t. omega arith) (λ t. omega arith),
    holders-most n
        (suc j),
  )

  -- a level is at most the region's number and 1
  pub level_few : level_by f i ≤ i + 1
  unfolding level_by
  level_few = omega (arith, holders-most (suc i) 0)

  -- and so is a count on the way
  pub level_most : (n j : ℕ) → n + holders f ((i + 1) - j) j i ≡ level_by f i → n ≤ i + 1
  level_most n j z = omega (arith, level_few)

-- two functions that agree up to a region give it the same level
holders-same : (f g : ℕ → ℕ) (i n j : ℕ) → ((x : ℕ) → j ≤ x → x < j + n → f x ≡ g x) → holders f n j i ≡ holders g n j i
unfolding holders
holders-same f g i zero j h = refl
holders-same f g i (suc n) j h = rw (h j (omega arith) (omega arith), holders-same f g i n (suc j) (λ x p q. h x (omega arith) (omega arith))) refl

pub level-same : (f g : ℕ → ℕ) (i : ℕ) → ((x : ℕ) → x ≤ i → f x ≡ g x) → level_by f i ≡ level_by g i
unfolding level_by
level-same f g i h = holders-same f g i (suc i) 0 (λ x p q. h x (omega arith))
