-- The kinds of a book's yards by junction. Assumes nothing.
use mathlib.Core.Path.{◌≡◌, refl, sym, ap, ◌∙◌}
use mathlib.Core.List.{List, Memᴰ as Mem}
use Prim.Native.Nat.{ℕ, zero, suc, ◌+◌, ◌-◌, ◌≤◌, ◌<◌}
use native.Mathlib.Nat.{sub-zero}
use native.Mathlib.Omega.{arith}
use native.Mathlib.Numerals.{add-one}
use lib.ListN.{length, get_or, set, replicate, length-set, length-replicate}
use lib.Seq.{get_or-set_same, get_or-set_other}
use Rattle.book.specs.Bytes.{Bytes}
use Rattle.book.specs.Open.{version}
use Rattle.book.proofs.Lists.{mem_get_d}
use Rattle.kinds.proofs.Reading.{kind-any, kind-small}
use Rattle.yard.specs.Yards.{yard_count, yard_place, yard_at, yard_kind, yards_of, yard_refusal, kinds_from, kind_table, kind_of, HasKinds}
use Rattle.yard.proofs.YardLayout.{layout, yards-at, rising-yards, yards-length}

-- ---- a loop over the yards, of which `count - i` are left

pub table_on : (b : List ℕ) (count i : ℕ) (t : List ℕ) → i < count
    → kinds_from b (count - (i + 1)) (i + 1) (set t (yard_at b i) (yard_kind b i)) ≡ kinds_from b (count - i) i t
unfolding kinds_from
table_on b count i t p =
    let s : count - i ≡ suc (count - (i + 1)) = omega arith in
    simp (s, add-one)

pub table_end : (b : List ℕ) (count i : ℕ) (t : List ℕ) → count ≤ i → kinds_from b (count - i) i t ≡ t
unfolding kinds_from
table_end b count i t p =
    let s : count - i ≡ 0 = omega arith in
    simp s

pub table_start : (b : List ℕ) → kinds_from b (yard_count b) 0 (replicate 1024 0) ≡ kind_table b
unfolding kind_table
table_start b = refl

-- before the first turn, and one turn on, by what the code has read
pub begins : (b t : List ℕ) → t ≡ replicate 1024 0 → kinds_from b (yard_count b - 0) 0 t ≡ kind_table b
begins b t f = rw (sub-zero, f) (table_start b)

pub one_more : (b : List ℕ) (i : ℕ) (t : List ℕ) (y k : ℕ) → i < yard_count b → y ≡ get_or (yards_of b) i 0 → k ≡ yard_kind b i
    → kinds_from b (yard_count b - (i + 1)) (i + 1) (set t y k) ≡ kinds_from b (yard_count b - i) i t
one_more b i t y k h f g = rw (f, yards-at b i h, g) (table_on b (yard_count b) i t h)

-- ---- what stands there

-- a junction that is none of n yards from number i on keeps its kind
other-kept : (b : List ℕ) (n i : ℕ) (t : List ℕ) (y : ℕ) → ((k : ℕ) → k < n → yard_at b (i + k) ≡ y → ⊥)
    → get_or (kinds_from b n i t) y 0 ≡ get_or t y 0
unfolding kinds_from
other-kept b zero i t y f = refl
other-kept b (suc n) i t y f =
    other-kept b n (suc i) (set t (yard_at b i) (yard_kind b i)) y (λ k h. later k (f (suc k) (omega (arith, h))))
    ∙ get_or-set_other t (yard_at b i) y (yard_kind b i) 0 (λ e. first (f 0 (omega arith)) (sym e))
  where
    later : (k : ℕ) → (yard_at b (i + suc k) ≡ y → ⊥) → yard_at b (suc i + k) ≡ y → ⊥
    later k f =
        let z : i + suc k ≡ suc i + k = omega arith in
        rw z at f

    first : (yard_at b (i + 0) ≡ y → ⊥) → yard_at b i ≡ y → ⊥
    first f =
        let z : i + 0 ≡ i = omega arith in
        rw z at f

-- yard number i + k of n has its own
own_kind : (b : List ℕ) (n i : ℕ) (t : List ℕ) (k : ℕ) → k < n → length t ≡ 1024 → ((j : ℕ) → j < n → yard_at b (i + j) < 1024)
    → ((j l : ℕ) → j < l → l < n → yard_at b (i + j) < yard_at b (i + l))
    → get_or (kinds_from b n i t) (yard_at b (i + k)) 0 ≡ yard_kind b (i + k)
unfolding kinds_from
own_kind b zero i t k h e f g = absurd (omega (arith, h))
own_kind b (suc n) i t zero h e f g = rw z (other-kept b n (suc i) t' (yard_at b i) apart ∙ get_or-set_same t (yard_at b i) (yard_kind b i) 0 inside)
  where
    z : i + 0 ≡ i
    z = omega arith

    t' : List ℕ
    t' = set t (yard_at b i) (yard_kind b i)

    inside : yard_at b i < length t
    inside = omega (arith, e, rw z at (f 0 (omega arith)))

    apart : (k : ℕ) → k < n → yard_at b (suc i + k) ≡ yard_at b i → ⊥
    apart k h q =
        let s : i + suc k ≡ suc i + k = omega arith in
        let p : yard_at b i < yard_at b (suc i + k) = rw (z, s) at (g 0 (suc k) (omega arith) (omega (arith, h))) in
        omega (arith, p, q)
own_kind b (suc n) i t (suc k) h e f g =
    rw s (own_kind b n (suc i) (set t (yard_at b i) (yard_kind b i)) k (omega (arith, h)) (length-set t (yard_at b i) (yard_kind b i) ∙ e)
    (λ j p. below j (f (suc j) (omega (arith, p))))
    (λ j l p q. rising j l (g (suc j) (suc l) (omega (arith, p)) (omega (arith, q)))))
  where
    s : i + suc k ≡ suc i + k
    s = omega arith

    below : (j : ℕ) → yard_at b (i + suc j) < 1024 → yard_at b (suc i + j) < 1024
    below j h =
        let z : i + suc j ≡ suc i + j = omega arith in
        rw z at h

    rising : (j l : ℕ) → yard_at b (i + suc j) < yard_at b (i + suc l) → yard_at b (suc i + j) < yard_at b (suc i + l)
    rising j l h =
        let z : i + suc j ≡ suc i + j = omega arith in
        let w : i + suc l ≡ suc i + l = omega arith in
        rw (z, w) at h

module _ (b : List ℕ) (e : yard_refusal b ≡ 0) where
  rising-at : (j l : ℕ) → j < l → l < yard_count b → yard_at b j < yard_at b l
  rising-at j l h k = omega (
    arith,
    yards-at b j (omega (arith, h, k)),
    yards-at b l k,
    (rising-yards b e).rising j l h (omega (arith, k, yards-length b)),
  )

  -- yard number k's kind is found by its junction
  pub kind_of_lem : (k : ℕ) → k < yard_count b → kind_of b (yard_at b k) ≡ yard_kind b k
  unfolding kind_of kind_table
  kind_of_lem k h =
      rw (from_zero k) at (own_kind b (yard_count b) 0 (replicate 1024 0) k h (length-replicate {A = ℕ} 1024 0)
      (λ j p. rw (from_zero j) ((layout b e).below j p)) (λ j l p q. rw (from_zero j, from_zero l) (rising-at j l p q)))
    where
      from_zero : (j : ℕ) → 0 + j ≡ j
      from_zero j = omega arith

  -- the book has a yard of these kinds exactly if it has a yard there, and these are its kinds
  pub has-kinds : (y k : ℕ) → HasKinds b y k → kind_of b y ≡ k
  has-kinds y k h = ap (kind_of b) (sym h.names) ∙ kind_of_lem h.number h.counted ∙ h.bits

  pub kinds_had : (k : ℕ) → k < yard_count b → HasKinds b (yard_at b k) (kind_of b (yard_at b k))
  kinds_had k h = record { number = k; counted = h; names = refl; bits = sym (kind_of_lem k h) }

  -- each yard of the book has its kinds
  pub yards_had : (y : ℕ) → Mem y (yards_of b) → HasKinds b y (kind_of b y)
  yards_had y m =
      let (i, h, p) = mem_get_d (yards_of b) 0 y m in
      let n = rw (yards-length b) at h in
      rw (p ∙ yards-at b i n) (kinds_had i n)

  -- they are not 0, a byte in a book of bytes, and 255 in version 1
  pub had_some : (y k : ℕ) → HasKinds b y k → 1 ≤ k
  had_some y k h = omega (arith, h.bits, (layout b e).kinds h.number h.counted)

  pub had_small : (y k : ℕ) → HasKinds b y k → Bytes b → k < 256
  unfolding yard_kind
  had_small y k h bs = omega (arith, h.bits, kind-small (version b) b (yard_place b h.number + 2) bs)

  pub had_any : (y k : ℕ) → HasKinds b y k → version b ≡ 1 → k ≡ 255
  unfolding yard_kind
  had_any y k h one = sym h.bits ∙ kind-any (version b) b (yard_place b h.number + 2) one

-- the kinds by junction are the table's
pub kinds_by : (b : List ℕ) → (λ y. get_or (kind_table b) y 0) ≡ kind_of b
unfolding kind_of
kinds_by b = refl
