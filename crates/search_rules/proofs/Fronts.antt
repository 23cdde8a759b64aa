-- What a rule keeps of yards in yard order: laws of both rules. Assumes nothing.
use mathlib.Core.Path.{◌≡◌, refl, sym, ap, ◌∙◌}
use mathlib.Core.Logic.{◌⊎◌, inl, inr}
use mathlib.Core.Bool.{not}
use mathlib.Core.List.Memᴰ.{head}
use mathlib.Core.List.Memᴰ.{not-nil}
use mathlib.Core.List.Memᴰ.{tail}
use mathlib.Core.List.{List, [], ◌∷◌, Memᴰ as Mem}
use mathlib.Core.List.Memᴰ.{cases_cons}
use Prim.Native.Nat.{ℕ, zero, suc, ◌≤◌, ◌<◌}
use native.Mathlib.Omega.{arith}
use lib.ListN.{length, take, length-take}
use lib.Seq.{take_all}
use lib.Dec.{T, leb, leb→le, le→leb, nleb→lt, T_not, not_T}
use Rattle.book.proofs.Choosing.{choose_case, choose_yes, choose_no}
use Rattle.search_rules.specs.Order.{Entry, yard_first}
use Rattle.search_rules.specs.Rule.{Rule, nearest, in_drive}
use Rattle.search_rules.specs.Held.{insert, hold, greatest_held}
use Rattle.search_rules.specs.Keeping.{keep_by, up_to, front}
use Rattle.search_rules.specs.Theorems.{Sorted, LeftOut, Allowed, NotPast}
use Rattle.search_rules.proofs.Choices.{choose-two}
use Rattle.search_rules.proofs.Order.{first_before, before_first, before_le}
use Rattle.search_rules.proofs.Held.{take-mem, take-sorted, take_rest, take-insert}

-- ---- within the seconds

module _ (s : ℕ) where
  beyond : (e : Entry) → s < e.distance → T (not (leb e.distance s))
  beyond e h = not_T (leb e.distance s) (λ t. omega (arith, leb→le e.distance s t))

  up_mem : (h : Entry) (l : List Entry) → Mem h (up_to s l) → Mem h l
  unfolding up_to
  up_mem h [] = λ k. k
  up_mem h (g ∷ l) = choose_case (λ x. Mem h x → Mem h (g ∷ l)) (leb g.distance s) (λ t k. on (cases_cons k) (up_mem h l)) (λ t k. absurd (not-nil k))
    where
      on : (h ≡ g) ⊎ Mem h (up_to s l) → (Mem h (up_to s l) → Mem h l) → Mem h (g ∷ l)
      on (inl p) rec = head p
      on (inr j) rec = tail (rec j)

  up_sorted : (l : List Entry) → Sorted l → Sorted (up_to s l)
  unfolding up_to
  up_sorted [] o = tt
  up_sorted (g ∷ l) o = choose_case Sorted (leb g.distance s) (λ t. ((λ h k. o.0 h (up_mem h l k)), up_sorted l o.1)) (λ t. tt)

  up_allowed : (l : List Entry) (h : Entry) → Mem h (up_to s l) → h.distance ≤ s
  unfolding up_to
  up_allowed [] h = λ k. absurd (not-nil k)
  up_allowed (g ∷ l) h = choose_case (λ x. Mem h x → h.distance ≤ s) (leb g.distance s) (λ t k. on t (cases_cons k) (up_allowed l h))
      (λ t k. absurd (not-nil k))
    where
      on : T (leb g.distance s) → (h ≡ g) ⊎ Mem h (up_to s l) → (Mem h (up_to s l) → h.distance ≤ s) → h.distance ≤ s
      on t (inl p) rec = rw p (leb→le g.distance s t)
      on t (inr j) rec = rec j

  -- what is not among them is further than the seconds
  up_rest : (h : Entry) (l : List Entry) → Sorted l → Mem h l → Mem h (up_to s l) ⊎ (s < h.distance)
  unfolding up_to
  up_rest h [] o k = absurd (not-nil k)
  up_rest h (g ∷ l) o k = choose_case (λ x. Mem h x ⊎ (s < h.distance)) (leb g.distance s) (λ t. near (cases_cons k) (up_rest h l o.1)) (λ t. inr (far t
      (cases_cons k)))
    where
      near : (h ≡ g) ⊎ Mem h l → (Mem h l → Mem h (up_to s l) ⊎ (s < h.distance)) → Mem h (g ∷ up_to s l) ⊎ (s < h.distance)
      near (inl p) rec = inl (head p)
      near (inr j) rec = on (rec j)
        where
          on : Mem h (up_to s l) ⊎ (s < h.distance) → Mem h (g ∷ up_to s l) ⊎ (s < h.distance)
          on (inl m) = inl (tail m)
          on (inr f) = inr f

      far : T (not (leb g.distance s)) → (h ≡ g) ⊎ Mem h l → s < h.distance
      far t (inl p) = rw p (nleb→lt g.distance s t)
      far t (inr j) = omega (arith, nleb→lt g.distance s t, before_le (o.0 h j))

  -- a yard within the seconds goes to its place among them
  up_near : (e : Entry) (l : List Entry) → e.distance ≤ s → insert e (up_to s l) ≡ up_to s (insert e l)
  unfolding up_to insert
  up_near e [] h = sym (choose_yes (leb e.distance s) (e ∷ []) [] (le→leb e.distance s h))
  up_near e (g ∷ l) h = let rest = up_near e l h in
      choose_case (λ x. insert e (up_to s (g ∷ l)) ≡ up_to s x) (yard_first e g)
      (λ t. choose_case (λ x. insert e x ≡ e ∷ x) (leb g.distance s) (λ u. choose_yes (yard_first e g) _ _ t) (λ u. refl)
      ∙ sym (choose_yes (leb e.distance s) _ [] (le→leb e.distance s h)))
      (λ t. choose-two (λ (x y : List Entry). insert e x ≡ y) (leb g.distance s) (λ u. choose_no (yard_first e g) _ _ t ∙ ap (λ x. g ∷ x) rest)
      (λ u. absurd (T_not (yard_first e g) t (before_first e g (inl (omega (arith, nleb→lt g.distance s u)))))))

  -- one that is further changes nothing
  up_far : (e : Entry) (l : List Entry) → s < e.distance → up_to s l ≡ up_to s (insert e l)
  unfolding up_to insert
  up_far e [] h = sym (choose_no (leb e.distance s) (e ∷ []) [] (beyond e h))
  up_far e (g ∷ l) h = let rest = up_far e l h in
      choose_case (λ x. up_to s (g ∷ l) ≡ up_to s x) (yard_first e g)
      (λ t. choose_no (leb g.distance s) _ [] (beyond g (omega (arith, before_le (first_before e g t)))) ∙ sym (choose_no (leb e.distance s) _ [] (beyond e
      h)))
      (λ t. choose-two (λ (x y : List Entry). x ≡ y) (leb g.distance s) (λ u. ap (λ x. g ∷ x) rest) (λ u. refl))

-- ---- by either rule

pub front-none : (r : Rule) → front r [] ≡ []
unfolding front up_to
front-none (nearest zero) = refl
front-none (nearest (suc k)) = refl
front-none (in_drive s) = refl

pub front-mem : (r : Rule) (h : Entry) (l : List Entry) → Mem h (front r l) → Mem h l
unfolding front
front-mem (nearest k) h l = take-mem k h l
front-mem (in_drive s) h l = up_mem s h l

pub front-sorted : (r : Rule) (l : List Entry) → Sorted l → Sorted (front r l)
unfolding front
front-sorted (nearest k) l = take-sorted k l
front-sorted (in_drive s) l = up_sorted s l

pub front-allowed : (r : Rule) (l : List Entry) → Allowed r (front r l)
unfolding front
front-allowed (nearest k) l = omega (arith, length-take k l)
front-allowed (in_drive s) l = up_allowed s l

-- what is not at the front is left out
pub front_rest : (r : Rule) (h : Entry) (l : List Entry) → Sorted l → Mem h l → Mem h (front r l) ⊎ LeftOut r (front r l) h
unfolding front
front_rest (nearest k) h l = take_rest k h l
front_rest (in_drive s) h l = up_rest s h l

-- to keep one more of the front is to take the front with one more
pub front-keep : (r : Rule) (e : Entry) (l : List Entry) → keep_by r e (front r l) ≡ front r (insert e l)
unfolding front keep_by hold
front-keep (nearest k) e l = take-insert k e l
front-keep (in_drive s) e l = choose_case (λ x. x ≡ up_to s (insert e l)) (leb e.distance s) (λ t. up_near s e l (leb→le e.distance s t))
    (λ t. up_far s e l (nleb→lt e.distance s t))

up_length : (s : ℕ) (l : List Entry) → length (up_to s l) ≤ length l
unfolding up_to
up_length s [] = omega arith
up_length s (g ∷ l) =
    let rest = up_length s l in
    choose_case (λ (x : List Entry). length x ≤ suc (length l)) (leb g.distance s) {x = g ∷ up_to s l} {y = []} (λ t. omega arith) (λ t. omega arith)

-- it is no longer than the list
pub front_length : (r : Rule) (l : List Entry) → length (front r l) ≤ length l
unfolding front
front_length (nearest k) l = omega (arith, length-take k l)
front_length (in_drive s) l = up_length s l

-- the first k are within the seconds, if each of them is
pub up_take : (s k : ℕ) (l : List Entry) → ((h : Entry) → Mem h (take k l) → h.distance ≤ s) → take k (up_to s l) ≡ take k l
unfolding up_to
up_take s zero l h = refl
up_take s (suc k) [] h = refl
up_take s (suc k) (g ∷ l) h =
    let rest = up_take s k l (λ x m. h x (tail m)) in
    let near : T (leb g.distance s) = le→leb g.distance s (h g (head refl)) in
    rw (choose_yes (leb g.distance s) (g ∷ up_to s l) [] near) (ap (λ (x : List Entry). g ∷ x) rest)

-- ---- a rule that is known

pub nearest-allowed : (r : Rule) (k : ℕ) (l : List Entry) → r ≡ nearest k → Allowed r l → length l ≤ k
nearest-allowed r k l e a = rw e at a

pub drive-allowed : (r : Rule) (s : ℕ) (l : List Entry) → r ≡ in_drive s → Allowed r l → (h : Entry) → Mem h l → h.distance ≤ s
drive-allowed r s l e a = rw e at a

pub nearest-not_past : (r : Rule) (k : ℕ) (l : List Entry) (b : ℕ) → r ≡ nearest k → NotPast r l b → length l ≡ k → b ≤ greatest_held l
nearest-not_past r k l b e p = rw e at p

pub drive-not_past : (r : Rule) (s : ℕ) (l : List Entry) (b : ℕ) → r ≡ in_drive s → NotPast r l b → b ≤ s
drive-not_past r s l b e p = rw e at p

-- and back
pub nearest-within : (r : Rule) (k : ℕ) (l : List Entry) (b : ℕ) → r ≡ nearest k → b ≤ greatest_held l → NotPast r l b
nearest-within r k l b e h = rw e (λ full. h)

pub nearest-short : (r : Rule) (k : ℕ) (l : List Entry) (b : ℕ) → r ≡ nearest k → length l < k → NotPast r l b
nearest-short r k l b e h = rw e (λ full. absurd (omega arith))

pub drive-within : (r : Rule) (s : ℕ) (l : List Entry) (b : ℕ) → r ≡ in_drive s → b ≤ s → NotPast r l b
drive-within r s l b e h = rw e h

-- ---- what ends a search

-- the first of a list with one more are that one among others, or what they were
insert-front : (j : ℕ) (e : Entry) (l : List Entry) → Mem e (take j (insert e l)) ⊎ (take j (insert e l) ≡ take j l)
unfolding insert
insert-front zero e l = inr refl
insert-front (suc j) e [] = inl (head refl)
insert-front (suc j) e (g ∷ l) = choose_case (λ s. Mem e (take (suc j) s) ⊎ (take (suc j) s
    ≡ g ∷ take j l)) (yard_first e g) (λ t. inl (head refl)) (λ t. go (insert-front j e l))
  where
    go : Mem e (take j (insert e l)) ⊎ (take j (insert e l) ≡ take j l) → Mem e (g ∷ take j (insert e l)) ⊎ (g ∷ take j (insert e l) ≡ g ∷ take j l)
    go (inl k) = inl (tail k)
    go (inr p) = inr (ap (λ s. g ∷ s) p)

-- what is not past what is held is not past it with one more yard, which is no nearer
pub keep-not_past : (r : Rule) (e : Entry) (held : List Entry) (b : ℕ) → Allowed r held → NotPast r held b → (Mem e (keep_by r e held)
    → b ≤ greatest_held (keep_by r e held))
    → NotPast r (keep_by r e held) b
unfolding keep_by hold
keep-not_past (nearest k) e held b few past last = λ full. go full (insert-front k e held)
  where
    go : length (take k (insert e held)) ≡ k → Mem e (take k (insert e held)) ⊎ (take k (insert e held) ≡ take k held) → b ≤ greatest_held (take k (insert e held))
    go full (inl m) = last m
    go full (inr p) = let same : take k (insert e held) ≡ held = p ∙ take_all k held few in rw same (past (sym (ap length same) ∙ full))
keep-not_past (in_drive s) e held b few past last = past

pub not_past_less : (r : Rule) (held : List Entry) (a b : ℕ) → a ≤ b → NotPast r held b → NotPast r held a
not_past_less (nearest k) held a b h p = λ full. omega (arith, p full)
not_past_less (in_drive s) held a b h p = omega arith
