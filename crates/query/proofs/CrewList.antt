-- Whether the crews stand inside, one crew at a time, as a loop counts: `count - k` crews are left. Assumes nothing.
use mathlib.Core.Path.{◌≡◌, refl, sym, ap, ◌∙◌}
use mathlib.Core.Logic.{◌⊎◌, inl, inr}
use mathlib.Core.Bool.{true, false}
use mathlib.Core.List.Memᴰ.{cases_cons}
use mathlib.Core.List.Memᴰ.{not-nil}
use mathlib.Core.List.{List, Memᴰ as Mem}
use Prim.Native.Nat.{ℕ, zero, suc, ◌+◌, ◌-◌, ◌*◌, ◌≤◌, ◌<◌}
use native.Mathlib.Decide.{ℕ_discrete}
use native.Mathlib.Omega.{arith}
use borrow.Author.Tests.{lt-ltb, le-ltb}
use lib.ListN.{length, get_or, set, take}
use lib.Seq.{get_or-set_same, get_or-set_other, ext_get_or, length-take-le, get_or-take}
use lib.Dec.{T, ltb, ltb→lt, lt→ltb}
use Rattle.book.specs.Bytes.{u16_at}
use Rattle.book.proofs.Choosing.{and_left, and_right, and_both}
use Rattle.query.specs.Query.{crew_count, crew_at, crews_from, crews_of, inside}

-- what stands at a crew's place is its junction
pub read_crew : (b : List ℕ) (i x : ℕ) → x ≡ u16_at b (12 + 2 * i) → x ≡ crew_at b i
unfolding crew_at
read_crew b i x e = e

module _ (b : List ℕ) (n count k x : ℕ) (read : x ≡ crew_at b k) where
  pub goes_on : k < count → x < n → inside n (crews_from b (count - (k + 1)) (k + 1)) ≡ inside n (crews_from b (count - k) k)
  unfolding crews_from inside
  goes_on p h =
      let s : count - k ≡ suc (count - (k + 1)) = omega arith in
      simp (s, ← read, lt-ltb x n h)

  pub stops : k < count → n ≤ x → inside n (crews_from b (count - k) k) ≡ false
  unfolding crews_from inside
  stops p h =
      let s : count - k ≡ suc (count - (k + 1)) = omega arith in
      simp (s, ← read, le-ltb x n h)

pub starts : (b : List ℕ) (n count : ℕ) → count ≡ crew_count b → inside n (crews_from b (count - 0) 0) ≡ inside n (crews_of b)
unfolding crews_of
starts b n count e =
    let s : count - 0 ≡ crew_count b = omega arith in
    ap (λ (k : ℕ). inside n (crews_from b k 0)) s

pub ends : (b : List ℕ) (n count k : ℕ) → count ≤ k → inside n (crews_from b (count - k) k) ≡ true
unfolding crews_from inside
ends b n count k p =
    let s : count - k ≡ 0 = omega arith in
    simp s

-- all stand inside exactly if each does
module _ (b : List ℕ) (n : ℕ) where
  pub each-inside : (left k : ℕ) → T (inside n (crews_from b left k)) → (i : ℕ) → k ≤ i → i < k + left → crew_at b i < n
  unfolding crews_from inside
  each-inside zero k t i p q = absurd (omega arith)
  each-inside (suc left) k t i p q =
      go (ℕ_discrete i k) (λ r. each-inside left (k + 1) (and_right (ltb (crew_at b k) n) (inside n (crews_from b left (k + 1))) t) i r (omega arith))
    where
      go : Dec (i ≡ k) → (k + 1 ≤ i → crew_at b i < n) → crew_at b i < n
      go (yes e) rest = rw e (ltb→lt (crew_at b k) n (and_left (ltb (crew_at b k) n) (inside n (crews_from b left (k + 1))) t))
      go (no e) rest = rest (omega arith)

  pub inside-all : (left k : ℕ) → ((i : ℕ) → k ≤ i → i < k + left → crew_at b i < n) → T (inside n (crews_from b left k))
  unfolding crews_from inside
  inside-all zero k f = tt
  inside-all (suc left) k f =
      and_both (ltb (crew_at b k) n) (inside n (crews_from b left (k + 1))) (lt→ltb (crew_at b k) n (f k (omega arith) (omega arith)))
      (inside-all left (k + 1) (λ i p q. f i (omega arith) (omega arith)))

-- ---- the list of crews

module _ (b : List ℕ) where
  count-from : (n i : ℕ) → length (crews_from b n i) ≡ n
  unfolding crews_from
  count-from zero i = refl
  count-from (suc n) i = ap suc (count-from n (i + 1))

  -- as many as the book counts
  pub crews-length : length (crews_of b) ≡ crew_count b
  unfolding crews_of
  crews-length = count-from (crew_count b) 0

  from-below : (n left k q : ℕ) → ((i : ℕ) → k ≤ i → i < k + left → crew_at b i < n) → Mem q (crews_from b left k) → q < n
  unfolding crews_from
  from-below n zero k q f m = absurd (not-nil m)
  from-below n (suc left) k q f m = go (cases_cons m) (λ j. from-below n left (k + 1) q (λ i p r. f i (omega arith) (omega arith)) j)
    where
      go : (q ≡ crew_at b k) ⊎ Mem q (crews_from b left (k + 1)) → (Mem q (crews_from b left (k + 1)) → q < n) → q < n
      go (inl e) rest = rw e (f k (omega arith) (omega arith))
      go (inr j) rest = rest j

  -- each at a junction below n if every place of the book has one
  pub crews-below : (n : ℕ) → ((i : ℕ) → i < crew_count b → crew_at b i < n) → (q : ℕ) → Mem q (crews_of b) → q < n
  unfolding crews_of
  crews-below n f q m = from-below n (crew_count b) 0 q (λ i p r. f i (omega arith)) m

  at_from : (n k j : ℕ) → j < n → get_or (crews_from b n k) j 0 ≡ crew_at b (k + j)
  unfolding crews_from
  at_from zero k j h = absurd (omega arith)
  at_from (suc n) k zero h = let e : k ≡ k + 0 = omega arith in ap (crew_at b) e
  at_from (suc n) k (suc j) h = let e : (k + 1) + j ≡ k + suc j = omega arith in at_from n (k + 1) j (omega arith) ∙ ap (crew_at b) e

  -- crew number j stands where the book says
  pub crews-at : (j : ℕ) → j < crew_count b → get_or (crews_of b) j 0 ≡ crew_at b j
  unfolding crews_of
  crews-at j h = let e : 0 + j ≡ j = omega arith in at_from (crew_count b) 0 j h ∙ ap (crew_at b) e

-- ---- copies of their junctions

module _ (b out : List ℕ) where
  -- one crew more
  pub copied_next : (i x : ℕ) → i < length out → x ≡ crew_at b i → ((j : ℕ) → j < i → get_or out j 0 ≡ crew_at b j)
      → (j : ℕ) → j < i + 1 → get_or (set out i x) j 0 ≡ crew_at b j
  copied_next i x room e f j h = go (ℕ_discrete i j)
    where
      go : Dec (i ≡ j) → get_or (set out i x) j 0 ≡ crew_at b j
      go (yes s) = rw (← s) (get_or-set_same out i x 0 room ∙ e)
      go (no s) = get_or-set_other out i j x 0 (λ z. s (sym z)) ∙ f j (omega arith)

  -- all of them
  pub copied_all : (n i : ℕ) → n ≡ crew_count b → n ≤ length out → ((j : ℕ) → j < i → get_or out j 0 ≡ crew_at b j) → n ≤ i
      → take (crew_count b) out ≡ crews_of b
  copied_all n i e room f h =
      let l : length (take (crew_count b) out) ≡ crew_count b = length-take-le (crew_count b) out (omega arith) in
      ext_get_or 0 (take (crew_count b) out) (crews_of b) (l ∙ sym (crews-length b))
      (λ j p. get_or-take (crew_count b) out j 0 (omega arith) ∙ f j (omega arith) ∙ sym (crews-at b j (omega arith)))
