-- A region's landmarks: m of them, in its range. Assumes nothing.
use mathlib.Core.Path.{◌≡◌, refl, ap, ◌∙◌}
use mathlib.Core.Logic.{◌⊎◌, inl, inr}
use mathlib.Core.Bool.{true, false, ◌&&◌, ◌||◌}
use mathlib.Core.List.Memᴰ.{cases_cons}
use mathlib.Core.List.Memᴰ.{not-nil}
use mathlib.Core.List.{List, [], ◌∷◌, Memᴰ as Mem}
use Prim.Native.Nat.{ℕ, zero, suc, ◌+◌, ◌*◌, ◌/◌, ◌≤◌, ◌<◌}
use native.Mathlib.Nat.{mul_comm, mul-lt-mul_of_pos_right, div-lt_iff_lt-mul}
use native.Mathlib.Decide.{ℕ_discrete}
use native.Mathlib.Omega.{arith}
use lib.ListN.{length, get_or}
use lib.Dec.{T, ltb, leb, eqb, not_T, leb→le, ltb→lt, le→leb, lt→ltb}
use Rattle.book.specs.Choose.{choose}
use Rattle.book.proofs.Choosing.{choose_case, choose_yes, choose_no, T_true, T_false, true_T, false_T}
use Rattle.book.proofs.Lists.{or_left, or_right, or_cases, eq→eqb, ne→neqb, get_d_mem}
use Rattle.road_layout.specs.Road.{Road}
use Rattle.build_rules.specs.Cut.{Given, outside, leads_out, is_border, borders_from, borders, landmark, landmarks_from, landmarks_of}

pub borders-range : (roads : List Road) (a s n v b : ℕ) → Mem b (borders_from roads a s n v) → (v ≤ b) × (b < v + n)
unfolding borders_from
borders-range roads a s zero v b k = absurd (not-nil k)
borders-range roads a s (suc n) v b k =
    choose_case (λ (l : List ℕ). Mem b l → (v ≤ b)
    × (b < v + suc n)) (is_border roads a s v) (λ t j. go (cases_cons j) (λ i. borders-range roads a s n (suc v) b i)) (λ t j. wide (borders-range roads a s n
    (suc v) b j)) k
  where
    wide : (suc v ≤ b) × (b < suc v + n) → (v ≤ b) × (b < v + suc n)
    wide x = (omega (arith, x.0), omega (arith, x.1))

    go : (b ≡ v) ⊎ Mem b (borders_from roads a s n (suc v)) → (Mem b (borders_from roads a s n (suc v)) → (suc v ≤ b) × (b < suc v + n))
        → (v ≤ b) × (b < v + suc n)
    go (inl e) rec = (omega arith, omega arith)
    go (inr j) rec = wide (rec j)

-- ---- one landmark

module _ (m a s : ℕ) (bs : List ℕ) (j : ℕ) where
  landmark-is : landmark m a s bs j ≡ choose (eqb (length bs) 0) (a + j * s / m) (get_or bs (j * length bs / m) 0)
  unfolding landmark
  landmark-is = refl

  pub landmark-none : length bs ≡ 0 → landmark m a s bs j ≡ a + j * s / m
  landmark-none e = landmark-is ∙ choose_yes (eqb (length bs) 0) _ _ (eq→eqb (length bs) 0 e)

  pub landmark-some : 0 < length bs → landmark m a s bs j ≡ get_or bs (j * length bs / m) 0
  landmark-some h = landmark-is ∙ choose_no (eqb (length bs) 0) _ _ (ne→neqb (length bs) 0 (omega arith))

-- floor(j × x / m) is below x
pub share : (j m x : ℕ) → j < m → 0 < x → j * x / m < x
share j m x h k =
    let z : 0 < m = omega arith in
    (div-lt_iff_lt-mul {k = m} {x = j * x} {y = x} z).1 (rw (mul_comm x m) (mul-lt-mul_of_pos_right h k))

module _ (m a s : ℕ) (some : 0 < s) (bs : List ℕ) (f : (b : ℕ) → Mem b bs → (a ≤ b) × (b < a + s)) where
  landmark-range : (j : ℕ) → j < m → (a ≤ landmark m a s bs j) × (landmark m a s bs j < a + s)
  landmark-range j h = go (ℕ_discrete (length bs) 0)
    where
      go : Dec (length bs ≡ 0) → (a ≤ landmark m a s bs j) × (landmark m a s bs j < a + s)
      go (yes e) = rw (landmark-none m a s bs j e) (omega arith, omega (arith, share j m s h some))
      go (no e) =
          let p : 0 < length bs = omega arith in
          rw (landmark-some m a s bs j p) (f (get_or bs (j * length bs / m) 0) (get_d_mem bs (j * length bs / m) 0 (share j m (length bs) h p)))

  from-range : (n j : ℕ) → j + n ≤ m → (l : ℕ) → Mem l (landmarks_from m a s bs n j) → (a ≤ l) × (l < a + s)
  unfolding landmarks_from
  from-range zero j h l i = absurd (not-nil i)
  from-range (suc n) j h l i = go (cases_cons i) (λ e. from-range n (suc j) (omega arith) l e)
    where
      go : (l ≡ landmark m a s bs j) ⊎ Mem l (landmarks_from m a s bs n (suc j)) → (Mem l (landmarks_from m a s bs n (suc j)) → (a ≤ l) × (l < a + s))
          → (a ≤ l) × (l < a + s)
      go (inl e) rec = rw e (landmark-range j (omega arith))
      go (inr e) rec = rec e

from-length : (m a s : ℕ) (bs : List ℕ) (n j : ℕ) → length (landmarks_from m a s bs n j) ≡ n
unfolding landmarks_from
from-length m a s bs zero j = refl
from-length m a s bs (suc n) j = ap suc (from-length m a s bs n (suc j))

pub landmarks-range : (g : Given) (a s : ℕ) → 0 < s → (l : ℕ) → Mem l (landmarks_of g a s) → (a ≤ l) × (l < a + s)
unfolding landmarks_of borders
landmarks-range g a s some l k = from-range g.landmarks a s some (borders_from g.roads a s s a) (λ b i. borders-range g.roads a s s a b i) g.landmarks 0 (omega arith) l k

pub landmarks-length : (g : Given) (a s : ℕ) → length (landmarks_of g a s) ≡ g.landmarks
unfolding landmarks_of
landmarks-length g a s = from-length g.landmarks a s (borders g.roads a s) g.landmarks 0

-- ---- one junction, road or landmark at a time

pub outside_low : (a s v : ℕ) → v < a → outside a s v ≡ true
unfolding outside
outside_low a s v h = T_true (ltb v a || leb (a + s) v) (or_left (ltb v a) (leb (a + s) v) (lt→ltb v a h))

pub outside_high : (a s v : ℕ) → a + s ≤ v → outside a s v ≡ true
unfolding outside
outside_high a s v h = T_true (ltb v a || leb (a + s) v) (or_right (ltb v a) (leb (a + s) v) (le→leb (a + s) v h))

pub outside_no : (a s v : ℕ) → a ≤ v → v < a + s → outside a s v ≡ false
unfolding outside
outside_no a s v h k = T_false (ltb v a || leb (a + s) v) (not_T (ltb v a || leb (a + s) v) (λ t. go (or_cases (ltb v a) (leb (a + s) v) t)))
  where
    go : T (ltb v a) ⊎ T (leb (a + s) v) → ⊥
    go (inl t) = omega (arith, ltb→lt v a t)
    go (inr t) = omega (arith, leb→le (a + s) v t)

pub border_none : (a s v : ℕ) → is_border [] a s v ≡ false
unfolding is_border
border_none a s v = refl

pub border_next : (r : Road) (rs : List Road) (a s v : ℕ)
    → is_border (r ∷ rs) a s v ≡ (((eqb r.low v && outside a s r.high) || (eqb r.high v && outside a s r.low)) || is_border rs a s v)
unfolding is_border leads_out
border_next r rs a s v = refl

pub borders_are : (rs : List Road) (a s : ℕ) → borders rs a s ≡ borders_from rs a s s a
unfolding borders
borders_are rs a s = refl

pub borders-none : (rs : List Road) (a s v : ℕ) → borders_from rs a s 0 v ≡ []
unfolding borders_from
borders-none rs a s v = refl

pub borders_yes : (rs : List Road) (a s n v : ℕ) → is_border rs a s v ≡ true → borders_from rs a s (suc n) v ≡ v ∷ borders_from rs a s n (suc v)
unfolding borders_from
borders_yes rs a s n v e = choose_yes (is_border rs a s v) _ _ (true_T e)

pub borders_no : (rs : List Road) (a s n v : ℕ) → is_border rs a s v ≡ false → borders_from rs a s (suc n) v ≡ borders_from rs a s n (suc v)
unfolding borders_from
borders_no rs a s n v e = choose_no (is_border rs a s v) _ _ (false_T e)

-- a range's landmark lies in it
pub landmark_in : (roads : List Road) (m a s j : ℕ) → 0 < s → j < m
    → (a ≤ landmark m a s (borders roads a s) j) × (landmark m a s (borders roads a s) j < a + s)
unfolding borders
landmark_in roads m a s j some h = landmark-range m a s some (borders_from roads a s s a) (λ b i. borders-range roads a s s a b i) j h

pub landmarks-none : (m a s : ℕ) (bs : List ℕ) (j : ℕ) → landmarks_from m a s bs 0 j ≡ []
unfolding landmarks_from
landmarks-none m a s bs j = refl

pub landmarks-next : (m a s : ℕ) (bs : List ℕ) (n j : ℕ) → landmarks_from m a s bs (suc n) j ≡ landmark m a s bs j ∷ landmarks_from m a s bs n (suc j)
unfolding landmarks_from
landmarks-next m a s bs n j = refl

pub landmarks_are : (g : Given) (a s : ℕ) → landmarks_of g a s ≡ landmarks_from g.landmarks a s (borders g.roads a s) g.landmarks 0
unfolding landmarks_of
landmarks_are g a s = refl
