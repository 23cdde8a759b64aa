-- A range's border junctions and landmarks are those that are stated, and no others are. Assumes nothing.
use mathlib.Core.Path.{◌≡◌, refl, sym, ap, ◌∙◌}
use mathlib.Core.Logic.{◌⊎◌, inl, inr}
use mathlib.Core.Bool.{◌&&◌, ◌||◌}
use mathlib.Core.List.Memᴰ.{head}
use mathlib.Core.List.Memᴰ.{not-nil}
use mathlib.Core.List.Memᴰ.{tail}
use mathlib.Core.List.{List, [], ◌∷◌, map, Memᴰ as Mem}
use mathlib.Core.List.Memᴰ.{cases_cons}
use Prim.Native.Nat.{ℕ, zero, suc, ◌+◌, ◌≤◌, ◌<◌}
use native.Mathlib.Decide.{ℕ_discrete, dec_lt}
use native.Mathlib.Omega.{arith}
use lib.ListN.{length, get_or, length-map}
use lib.Seq.{ext_get_or}
use lib.Dec.{T, T_not, ltb, leb, eqb, eqb→eq, ltb→lt, leb→le, lt→ltb, le→leb}
use Rattle.book.specs.Choose.{choose}
use Rattle.book.proofs.Choosing.{choose_case, and_left, and_right, and_both}
use Rattle.book.proofs.Lists.{or_left, or_right, or_cases, eq→eqb, get_d_mem}
use Rattle.road_layout.specs.Road.{Road}
use Rattle.tree_layout.specs.Values.{Mark, no_mark}
use Rattle.build_rules.specs.Cut.{Given, outside, leads_out, is_border, borders_from, borders, landmark, landmarks_from, landmarks_of}
use Rattle.build_rules.specs.Cuts.{OfRange, Joins, IsBorder, Borders, IsLandmark, Landmarks}
use Rattle.build_rules.specs.code.Facts.{terms_of}
use Rattle.build_rules.proofs.Ordered.{ordered_same}
use Rattle.build_rules.proofs.Parts.{Rising, rising-places, places-rising}
use Rattle.build_rules.proofs.Landmarks.{borders-range, landmark-none, landmark-some, landmark_in, landmarks-next, landmarks_are}
use Rattle.build_rules.proofs.Landmarks.{landmarks-length, borders_are}

-- ---- a road out of the range

module _ (a s : ℕ) where
  out_of : (v : ℕ) → T (outside a s v) → OfRange a s v → ⊥
  unfolding outside
  out_of v t i = go (or_cases (ltb v a) (leb (a + s) v) t)
    where
      go : T (ltb v a) ⊎ T (leb (a + s) v) → ⊥
      go (inl x) = omega (arith, ltb→lt v a x)
      go (inr x) = omega (arith, leb→le (a + s) v x)

  of_out : (v : ℕ) → (OfRange a s v → ⊥) → T (outside a s v)
  unfolding outside
  of_out v f = go (dec_lt v a) (dec_lt v (a + s))
    where
      go : Dec (v < a) → Dec (v < a + s) → T (ltb v a || leb (a + s) v)
      go (yes x) z = or_left (ltb v a) (leb (a + s) v) (lt→ltb v a x)
      go (no x) (no z) = or_right (ltb v a) (leb (a + s) v) (le→leb (a + s) v (omega arith))
      go (no x) (yes z) = absurd (f (omega arith, z))

  -- a road of v whose other end is outside
  record WayOut (v : ℕ) (r : Road) : Type 0 where
    pub other : ℕ
    pub outer : OfRange a s other → ⊥
    pub joins : Joins r v other

  leads_way : (v : ℕ) (r : Road) → T (leads_out a s v r) → WayOut v r
  unfolding leads_out
  leads_way v r t = go (or_cases (eqb r.low v && outside a s r.high) (eqb r.high v && outside a s r.low) t)
    where
      go : T (eqb r.low v && outside a s r.high) ⊎ T (eqb r.high v && outside a s r.low) → WayOut v r
      go (inl x) = record {
        other = r.high;
        outer = out_of r.high (and_right (eqb r.low v) (outside a s r.high) x);
        joins = inl (eqb→eq r.low v (and_left (eqb r.low v) (outside a s r.high) x), refl);
      }
      go (inr x) = record {
        other = r.low;
        outer = out_of r.low (and_right (eqb r.high v) (outside a s r.low) x);
        joins = inr (refl, eqb→eq r.high v (and_left (eqb r.high v) (outside a s r.low) x));
      }

  way_leads : (v : ℕ) (r : Road) → WayOut v r → T (leads_out a s v r)
  unfolding leads_out
  way_leads v r w = go w.joins
    where
      go : Joins r v w.other → T ((eqb r.low v && outside a s r.high) || (eqb r.high v && outside a s r.low))
      go (inl x) =
          or_left (eqb r.low v && outside a s r.high) (eqb r.high v && outside a s r.low)
          (and_both (eqb r.low v) (outside a s r.high) (eq→eqb r.low v x.0) (of_out r.high (λ i. w.outer (rw x.1 at i))))
      go (inr x) =
          or_right (eqb r.low v && outside a s r.high) (eqb r.high v && outside a s r.low)
          (and_both (eqb r.high v) (outside a s r.low) (eq→eqb r.high v x.1) (of_out r.low (λ i. w.outer (rw x.0 at i))))

  -- some road of the list leads out
  border_way : (v : ℕ) (rs : List Road) → T (is_border rs a s v) → (r : Road) × Mem r rs × WayOut v r
  unfolding is_border
  border_way v [] t = absurd t
  border_way v (r ∷ rs) t = go (or_cases (leads_out a s v r) (is_border rs a s v) t) (border_way v rs)
    where
      go : T (leads_out a s v r) ⊎ T (is_border rs a s v) → (T (is_border rs a s v) → (x : Road) × Mem x rs × WayOut v x)
          → (x : Road) × Mem x (r ∷ rs) × WayOut v x
      go (inl x) rec = (r, head refl, leads_way v r x)
      go (inr x) rec = let y = rec x in (y.0, tail y.1, y.2)

  way_border : (v : ℕ) (rs : List Road) (r : Road) → Mem r rs → WayOut v r → T (is_border rs a s v)
  unfolding is_border
  way_border v [] r k w = absurd (not-nil k)
  way_border v (x ∷ rs) r k w = go (cases_cons k) (λ j. way_border v rs r j w)
    where
      go : (r ≡ x) ⊎ Mem r rs → (Mem r rs → T (is_border rs a s v)) → T (leads_out a s v x || is_border rs a s v)
      go (inl e) rec = or_left (leads_out a s v x) (is_border rs a s v) (way_leads v x (rw e at w))
      go (inr j) rec = or_right (leads_out a s v x) (is_border rs a s v) (rec j)

-- ---- the border junctions

module _ (roads : List Road) (a s : ℕ) where
  from_border : (n v b : ℕ) → Mem b (borders_from roads a s n v) → T (is_border roads a s b)
  unfolding borders_from
  from_border zero v b k = absurd (not-nil k)
  from_border (suc n) v b k =
      choose_case (λ (l : List ℕ). Mem b l → T (is_border roads a s b)) (is_border roads a s v) (λ t j. go t (cases_cons j) (from_border n (suc v) b))
      (λ t j. from_border n (suc v) b j) k
    where
      go : T (is_border roads a s v) → (b ≡ v) ⊎ Mem b (borders_from roads a s n (suc v)) → (Mem b (borders_from roads a s n (suc v)) → T (is_border roads a s b))
          → T (is_border roads a s b)
      go t (inl e) rec = rw e t
      go t (inr j) rec = rec j

  border_from : (n v b : ℕ) → v ≤ b → b < v + n → T (is_border roads a s b) → Mem b (borders_from roads a s n v)
  unfolding borders_from
  border_from zero v b h k t = absurd (omega arith)
  border_from (suc n) v b h k t = go (ℕ_discrete b v) (λ x. border_from n (suc v) b x (omega arith) t)
    where
      go : Dec (b ≡ v) → (suc v ≤ b → Mem b (borders_from roads a s n (suc v)))
          → Mem b (choose (is_border roads a s v) (v ∷ borders_from roads a s n (suc v)) (borders_from roads a s n (suc v)))
      go (yes e) rec = choose_case (λ (l : List ℕ). Mem b l) (is_border roads a s v) (λ x. head e) (λ x. absurd (T_not (is_border roads a s v) x (rw e at t)))
      go (no e) rec =
          let j = rec (omega arith) in choose_case (λ (l : List ℕ). Mem b l) (is_border roads a s v) (λ x. tail j) (λ x. j)

  from_rises : (n v : ℕ) → Rising (borders_from roads a s n v)
  unfolding borders_from
  from_rises zero v = tt
  from_rises (suc n) v =
      let r = from_rises n (suc v) in
      choose_case Rising (is_border roads a s v) (λ t. ((λ z k. omega (arith, (borders-range roads a s n (suc v) z k).0)), r)) (λ t. r)

  borders-rise : Rising (borders roads a s)
  borders-rise = rw (borders_are roads a s) (from_rises s a)

  -- the border junctions as they are stated
  pub borders-exact : Borders roads a s (borders roads a s)
  borders-exact = rw (borders_are roads a s) (record { exact = λ v. (there v, back v); rising = places-rising (borders_from roads a s s a) (from_rises s a) })
    where
      there : (v : ℕ) → Mem v (borders_from roads a s s a) → IsBorder roads a s v
      there v k =
          let (r, j, w) = border_way a s v roads (from_border s a v k) in
          record { inner = borders-range roads a s s a v k; other = w.other; outer = w.outer; road = r; listed = j; joins = w.joins }

      back : (v : ℕ) → IsBorder roads a s v → Mem v (borders_from roads a s s a)
      back v b =
          border_from s a v b.inner.0 b.inner.1
          (way_border a s v roads b.road b.listed (record { other = b.other; outer = b.outer; joins = b.joins }))

  pub borders-one : (bs : List ℕ) → Borders roads a s bs → bs ≡ borders roads a s
  borders-one bs b =
      ordered_same (λ x y. x < y) (λ x y h k. omega arith) bs (borders roads a s) (rising-places bs b.rising) borders-rise
      (λ v k. (borders-exact.exact v).1 ((b.exact v).0 k)) (λ v k. (b.exact v).1 ((borders-exact.exact v).0 k))

-- ---- the landmarks

pub landmark-exact : (m a s : ℕ) (bs : List ℕ) (j : ℕ) → IsLandmark m a s bs j (landmark m a s bs j)
landmark-exact m a s bs j = record { of_borders = landmark-some m a s bs j; of_range = landmark-none m a s bs j }

pub landmark-one : (m a s : ℕ) (bs : List ℕ) (j l : ℕ) → IsLandmark m a s bs j l → l ≡ landmark m a s bs j
landmark-one m a s bs j l i = go (ℕ_discrete (length bs) 0)
  where
    go : Dec (length bs ≡ 0) → l ≡ landmark m a s bs j
    go (yes e) = i.of_range e ∙ sym (landmark-none m a s bs j e)
    go (no e) = let h : 0 < length bs = omega arith in i.of_borders h ∙ sym (landmark-some m a s bs j h)

from_at : (m a s : ℕ) (bs : List ℕ) (n i j : ℕ) → j < n → get_or (landmarks_from m a s bs n i) j 0 ≡ landmark m a s bs (i + j)
from_at m a s bs zero i j h = absurd (omega arith)
from_at m a s bs (suc n) i zero h = rw (landmarks-next m a s bs n i) (ap (landmark m a s bs) (omega arith))
from_at m a s bs (suc n) i (suc j) h = rw (landmarks-next m a s bs n i) (from_at m a s bs n (suc i) j (omega arith) ∙ ap (landmark m a s bs) (omega arith))

map_at : (f : ℕ → Mark) (l : List ℕ) (j : ℕ) → j < length l → get_or (map f l) j no_mark ≡ f (get_or l j 0)
map_at f [] j h = absurd (omega arith)
map_at f (x ∷ xs) zero h = refl
map_at f (x ∷ xs) (suc j) h = map_at f xs j (omega arith)

module _ (g : Given) (D : ℕ → ℕ → ℕ → Type 0) (K : ℕ → ℕ → Type 0) (a s : ℕ) (f : ℕ → Mark) where
  abbrev bs : List ℕ
  bs = borders g.roads a s

  -- mark j of the marks that f makes
  at_mark : (j : ℕ) → j < g.landmarks → get_or (map f (landmarks_of g a s)) j no_mark ≡ f (landmark g.landmarks a s (borders g.roads a s) j)
  at_mark j h =
      map_at f (landmarks_of g a s) j (omega (arith, landmarks-length g a s))
      ∙ ap f (rw (landmarks_are g a s) (from_at g.landmarks a s bs g.landmarks 0 j h ∙ ap (landmark g.landmarks a s bs) (omega arith)))

  pub marks-placed : ((l : ℕ) → (f l).place ≡ l) → Landmarks (terms_of g D K) a s (map f (landmarks_of g a s))
  marks-placed p = record {
    borders = bs;
    exact = borders-exact g.roads a s;
    count = length-map (landmarks_of g a s) f ∙ landmarks-length g a s;
    each = λ j h. rw (at_mark j h, p (landmark g.landmarks a s bs j)) (landmark-exact g.landmarks a s bs j);
  }

  -- marks at the landmarks are those that f makes, if each is what f makes at its junction
  pub marks-one : 0 < s → (ks : List Mark) → Landmarks (terms_of g D K) a s ks
      → ((k : Mark) → Mem k ks → OfRange a s k.place → k ≡ f k.place) → ks ≡ map f (landmarks_of g a s)
  marks-one some ks l e = ext_get_or no_mark ks (map f (landmarks_of g a s)) (l.count ∙ sym (length-map (landmarks_of g a s) f ∙ landmarks-length g a s)) at
    where
      at : (j : ℕ) → j < length ks → get_or ks j no_mark ≡ get_or (map f (landmarks_of g a s)) j no_mark
      at j h =
          let i : j < g.landmarks = omega (arith, l.count) in
          let q = landmark-one g.landmarks a s bs j (get_or ks j no_mark).place (rw (borders-one g.roads a s l.borders l.exact) at (l.each j i)) in
          let r = landmark_in g.roads g.landmarks a s j some i in
          e (get_or ks j no_mark) (get_d_mem ks j no_mark h) (rw q r) ∙ (ap f q ∙ sym (at_mark j i))
