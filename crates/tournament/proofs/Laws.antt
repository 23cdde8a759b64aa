-- Laws of the tournament tree: what a put leaves, and that the top word is the least leaf's. Assumes nothing.
use mathlib.Core.Path.{◌≡◌, refl, sym, ◌∙◌}
use mathlib.Core.List.{List}
use Prim.Native.Nat.{ℕ, zero, suc, ◌+◌, ◌-◌, ◌*◌, ◌/◌, ◌≤◌, ◌<◌}
use native.Mathlib.Decide.{ℕ_discrete, dec_le}
use native.Mathlib.Omega.{arith}
use lib.ListN.{length, get_or, set, length-set, replicate, length-replicate, get_or-replicate}
use lib.Seq.{get_or-set_same, get_or-set_other}
use Rattle.tournament.specs.code.Tournament.{queue_words, lesser_of, mend, repair, put_leaf, leaf, top, Tournament}

-- word i is one of the four below word j
abbrev pub Child : ℕ → ℕ → Type 0
Child j i = (4 * j ≤ i) × (i < 4 * j + 4)

-- which of the four
pub child_case : (P : ℕ → Type 0) (j i : ℕ) → Child j i → P (4 * j) → P (4 * j + 1) → P (4 * j + 2) → P (4 * j + 3) → P i
child_case P j i c p q r s = go (ℕ_discrete i (4 * j)) (ℕ_discrete i (4 * j + 1)) (ℕ_discrete i (4 * j + 2))
  where
    go : Dec (i ≡ 4 * j) → Dec (i ≡ 4 * j + 1) → Dec (i ≡ 4 * j + 2) → P i
    go (yes e) _ _ = rw e p
    go (no _) (yes e) _ = rw e q
    go (no _) (no _) (yes e) = rw e r
    go (no a) (no b) (no d) =
        let e : i ≡ 4 * j + 3 = omega arith in
        rw e s

-- m is at most each of the four words below word j, and is one of them
abbrev pub Low : List ℕ → ℕ → ℕ → Type 0
Low t j m = (i : ℕ) → Child j i → m ≤ get_or t i 0

abbrev pub Found : List ℕ → ℕ → ℕ → Type 0
Found t j m = (i : ℕ) × Child j i × (m ≡ get_or t i 0)

pub least-low : (t : List ℕ) (j : ℕ) → Low t j (lesser_of t j)
least-low t j i c = child_case (λ k. lesser_of t j ≤ get_or t k 0) j i c (omega arith) (omega arith) (omega arith) (omega arith)

pub least-found : (t : List ℕ) (j : ℕ) → Found t j (lesser_of t j)
least-found t j = go (dec_le (get_or t (4 * j) 0) (lesser_of t j)) (dec_le (get_or t (4 * j + 1) 0) (lesser_of t j)) (dec_le (get_or t (4 * j + 2) 0) (lesser_of t j))
  where
    go : Dec (get_or t (4 * j) 0 ≤ lesser_of t j) → Dec (get_or t (4 * j + 1) 0 ≤ lesser_of t j) → Dec (get_or t (4 * j + 2) 0 ≤ lesser_of t j)
        → Found t j (lesser_of t j)
    go (yes a) _ _ = (4 * j, (omega arith, omega arith), omega arith)
    go (no a) (yes b) _ = (4 * j + 1, (omega arith, omega arith), omega arith)
    go (no a) (no b) (yes d) = (4 * j + 2, (omega arith, omega arith), omega arith)
    go (no a) (no b) (no d) = (4 * j + 3, (omega arith, omega arith), omega arith)

-- it depends on those four alone
pub alike : (t s : List ℕ) (j : ℕ) → ((i : ℕ) → Child j i → get_or t i 0 ≡ get_or s i 0) → lesser_of t j ≡ lesser_of s j
alike t s j h =
    rw (
      h (4 * j) (omega arith, omega arith),
      h (4 * j + 1) (omega arith, omega arith),
      h (4 * j + 2) (omega arith, omega arith),
      h (4 * j + 3) (omega arith, omega arith),
    ) refl

-- word j of t is the least of its four
abbrev pub Good : List ℕ → ℕ → Type 0
Good t j = get_or t j 0 ≡ lesser_of t j

-- every inner word is
abbrev pub Least : List ℕ → Type 0
Least t = (j : ℕ) → 1 ≤ j → j < 512 → Good t j

-- every inner word is, but perhaps the one above word i
abbrev pub LeastBut : List ℕ → ℕ → Type 0
LeastBut t i = (j : ℕ) → 1 ≤ j → j < 512 → (Child j i → ⊥) → Good t j

still : (t : List ℕ) (i j x : ℕ) → (j ≡ i → ⊥) → (Child j i → ⊥) → Good t j → Good (set t i x) j
still t i j x a n g =
    get_or-set_other t i j x 0 a ∙ g
    ∙ sym (alike (set t i x) t j (λ k c. get_or-set_other t i k x 0 (λ e. n (omega arith, omega arith))))

-- a store at word i leaves all but the word above it
pub stored : (t : List ℕ) (i x : ℕ) → 512 ≤ i → Least t → LeastBut (set t i x) i
stored t i x h g j a b n = still t i j x (λ e. omega arith) n (g j a b)

mends : (t : List ℕ) (p : ℕ) → 1 ≤ p → p < length t → Good (mend t p) p
mends t p a h =
    get_or-set_same t p (lesser_of t p) 0 h
    ∙ sym (alike (mend t p) t p (λ k c. get_or-set_other t p k (lesser_of t p) 0 (λ e. omega arith)))

-- the word above i mended, only the one above that may be wrong
pub higher : (t : List ℕ) (i p : ℕ) → p ≡ i / 4 → length t ≡ queue_words → LeastBut t i → LeastBut (mend t p) p
higher t i p e h g j a b n = go (ℕ_discrete j p)
  where
    go : Dec (j ≡ p) → Good (mend t p) j
    go (yes q) = rw q (mends t p (omega arith) (omega arith))
    go (no q) = still t p j (lesser_of t p) q n (g j a b (λ c. q (omega arith)))

-- ---- levels

-- the first of the words that f steps lead from to the top
unfoldable pub first : ℕ → ℕ
first zero = 1
first (suc f) = 4 * first f

-- f steps lead from word i to the top
abbrev pub Level : ℕ → ℕ → Type 0
Level f i = (first f ≤ i) × (i < 2 * first f)

first_some : (f : ℕ) → 1 ≤ first f
unfolding first
first_some zero = omega arith
first_some (suc f) = omega (arith, first_some f)

-- the word above, which is one of the tree's
pub level_up : (f i : ℕ) → Level (suc f) i → (1 ≤ i / 4) × Level f (i / 4)
unfolding first
level_up f i l = (omega (arith, first_some f), (omega arith, omega arith))

level_top : (i : ℕ) → Level 0 i → i ≡ 1
unfolding first
level_top i l = omega arith

pub level_leaf : (v : ℕ) → v < 1024 → Level 5 (1024 + v)
unfolding first
level_leaf v h = (omega arith, omega arith)

-- ---- what a put leaves

repaired : (f : ℕ) (t : List ℕ) (i : ℕ) → length t ≡ queue_words → Level f i → LeastBut t i → Least (repair f t i)
unfolding repair
repaired zero t i h l g = λ j a b. g j a b (λ c. omega (arith, level_top i l))
repaired (suc f) t i h l g = repaired f (mend t (i / 4)) (i / 4) (simp length-set h) (level_up f i l).1 (higher t i (i / 4) refl h g)

put_least : (t : List ℕ) (v x : ℕ) → length t ≡ queue_words → v < 1024 → Least t → Least (put_leaf t v x)
unfolding put_leaf
put_least t v x h b g = repaired 5 (set t (1024 + v) x) (1024 + v) (simp length-set h) (level_leaf v b) (stored t (1024 + v) x (omega arith) g)

module _ (t : List ℕ) (g : Least t) where
  -- the top word is at most each word of the tree; f steps lead from word i to the top
  top-le : (f i : ℕ) → Level f i → i < queue_words → get_or t 1 0 ≤ get_or t i 0
  top-le zero i l b = rw (level_top i l) (omega arith)
  top-le (suc f) i l b =
      let (a, u) = level_up f i l in
      omega (arith, top-le f (i / 4) u (omega arith), g (i / 4) a (omega arith), least-low t (i / 4) i (omega arith, omega arith))

  top_below : (v : ℕ) → v < 1024 → get_or t 1 0 ≤ get_or t (1024 + v) 0
  top_below v h = top-le 5 (1024 + v) (level_leaf v h) (omega arith)

  -- a word of the level from n on is also one of the level below
  abbrev Below : ℕ → ℕ → Type 0
  Below n x = (i : ℕ) × (n ≤ i) × (i < 2 * n) × (x ≡ get_or t i 0)

  below : (n x : ℕ) → 1 ≤ n → n ≤ 256 → Below n x → Below (4 * n) x
  below n x a b (i, l, h, e) =
      let (k, c, f) = least-found t i in
      (k, omega arith, omega arith, e ∙ g i (omega arith) (omega arith) ∙ f)

  -- so the top word is that of some leaf
  top-found : Below 1024 (get_or t 1 0)
  top-found =
      below 256 _ (omega arith) (omega arith)
      (below 64 _ (omega arith) (omega arith)
      (below 16 _ (omega arith) (omega arith)
      (below 4 _ (omega arith) (omega arith) (below 1 _ (omega arith) (omega arith) (1, omega arith, omega arith, refl)))))

-- ---- what others use

-- all words alike are a tournament
pub cleared : (x : ℕ) → Tournament (replicate queue_words x)
cleared x = record {
  size = length-replicate queue_words x;
  least = λ j a b. omega (
    arith,
    at j (omega arith),
    at (4 * j) (omega arith),
    at (4 * j + 1) (omega arith),
    at (4 * j + 2) (omega arith),
    at (4 * j + 3) (omega arith),
  );
}
  where
    at : (j : ℕ) → j < queue_words → get_or (replicate queue_words x) j 0 ≡ x
    at j h = get_or-replicate queue_words j x 0 h

pub cleared_leaf : (x v : ℕ) → v < 1024 → leaf (replicate queue_words x) v ≡ x
unfolding leaf
cleared_leaf x v h = get_or-replicate queue_words (1024 + v) x 0 (omega arith)

length-repair : (f : ℕ) (t : List ℕ) (i : ℕ) → length (repair f t i) ≡ length t
unfolding repair
length-repair zero t i = refl
length-repair (suc f) t i = length-repair f (mend t (i / 4)) (i / 4) ∙ length-set t (i / 4) (lesser_of t (i / 4))

pub put_length : (t : List ℕ) (v x : ℕ) → length (put_leaf t v x) ≡ length t
unfolding put_leaf
put_length t v x = length-repair 5 (set t (1024 + v) x) (1024 + v) ∙ length-set t (1024 + v) x

-- a tournament stays one
pub put_tournament : (t : List ℕ) (v x : ℕ) → v < 1024 → Tournament t → Tournament (put_leaf t v x)
put_tournament t v x h g = record { size = put_length t v x ∙ g.size; least = put_least t v x g.size h g.least }

-- repairs keep the leaves
repair-leaf : (f : ℕ) (t : List ℕ) (i w : ℕ) → i < queue_words → get_or (repair f t i) (1024 + w) 0 ≡ get_or t (1024 + w) 0
unfolding repair
repair-leaf zero t i w h = refl
repair-leaf (suc f) t i w h =
    repair-leaf f (mend t (i / 4)) (i / 4) w (omega arith)
    ∙ get_or-set_other t (i / 4) (1024 + w) (lesser_of t (i / 4)) 0 (λ e. omega arith)

-- the leaf that was put, and every other leaf
pub put_same : (t : List ℕ) (v x : ℕ) → v < 1024 → length t ≡ queue_words → leaf (put_leaf t v x) v ≡ x
unfolding leaf put_leaf
put_same t v x h l = repair-leaf 5 (set t (1024 + v) x) (1024 + v) v (omega arith) ∙ get_or-set_same t (1024 + v) x 0 (omega arith)

pub put_other : (t : List ℕ) (v x w : ℕ) → v < 1024 → (w ≡ v → ⊥) → leaf (put_leaf t v x) w ≡ leaf t w
unfolding leaf put_leaf
put_other t v x w h n =
    repair-leaf 5 (set t (1024 + v) x) (1024 + v) w (omega arith) ∙ get_or-set_other t (1024 + v) (1024 + w) x 0 (λ e. n (omega arith))

-- the top word is at most each leaf's
pub top_least : (t : List ℕ) → Tournament t → (v : ℕ) → v < 1024 → top t ≤ leaf t v
unfolding leaf top
top_least t g v h = top_below t g.least v h

-- and is some leaf's
pub top-leaf : (t : List ℕ) → Tournament t → (v : ℕ) × (v < 1024) × (top t ≡ leaf t v)
unfolding leaf top
top-leaf t g =
    let (j, a, b, e) = top-found t g.least in
    let z : 1024 + (j - 1024) ≡ j = omega arith in
    (j - 1024, omega arith, rw z e)
