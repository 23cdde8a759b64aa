-- A range's record is the one that is stated: its kinds, its lists, its least and greatest, its landmarks. Assumes nothing.
use mathlib.Core.Path.{◌≡◌, refl, sym, ap, ◌∙◌}
use mathlib.Core.Logic.{◌⊎◌, inl, inr}
use mathlib.Core.List.Memᴰ.{cases_cons}
use mathlib.Core.List.Memᴰ.{cast}
use mathlib.Core.List.Memᴰ.{not-nil}
use mathlib.Core.List.{List, [], ◌∷◌, map, Memᴰ as Mem}
use Prim.Native.Nat.{ℕ, ◌+◌, ◌≤◌, ◌<◌}
use native.Mathlib.Omega.{arith}
use Rattle.kinds.specs.Kinds.{together}
use Rattle.kinds.specs.Facts.{BitsOf}
use Rattle.kinds.proofs.Laws.{together-bits, one_byte}
use Rattle.tree_layout.specs.Values.{Element, Region, leaf_mark, inner_mark}
use Rattle.tree_layout.specs.Facts.{Before, RisingFrom, Rising}
use Rattle.tree_layout.proofs.MarkFields.{leaf-place, inner-place}
use Rattle.tree_leaf.proofs.Named.{yards_of_lem, yards-from}
use Rattle.check_rules.specs.Truth.{least, greatest}
use Rattle.check_rules.specs.Extremes.{LeastOf, GreatestOf}
use Rattle.check_rules.proofs.Extremes.{least-is, greatest-is}
use Rattle.check_rules.proofs.ByDistance.{least_of_one, greatest_of_one, least_away, greatest_away}
use Rattle.build_rules.specs.Cut.{Given, landmarks_of, ranked_list, leaf_region, inner_region}
use Rattle.build_rules.specs.Cuts.{OfRange, ListOf, LeafLandmark, InnerLandmark, RecordOf}
use Rattle.build_rules.specs.code.Facts.{terms_of, Measures, Marks}
use Rattle.build_rules.proofs.Ordered.{Ordered, ordered_same}
use Rattle.build_rules.proofs.Ranked.{before_trans, ranked-is, ranked-yard, yard-ranked, ranked-distinct, ranked_rises}
use Rattle.build_rules.proofs.Landmarks.{landmarks-range}
use Rattle.build_rules.proofs.Parts.{rising-distinct}
use Rattle.build_rules.proofs.Bordering.{marks-placed, marks-one}
use Rattle.build_rules.proofs.Cutting.{Held}
use Rattle.build_rules.proofs.Regions.{size-some, leaf_mark_lem, inner_mark_lem}

-- ---- lists

pub before_apart : (e h : Element) → Before e h → Before h e → ⊥
before_apart e h (inl x) (inl y) = omega arith
before_apart e h (inl x) (inr y) = omega (arith, y.0)
before_apart e h (inr x) (inl y) = omega (arith, x.0)
before_apart e h (inr x) (inr y) = omega (arith, x.1, y.1)

chain_ordered : (e : Element) (es : List Element) → RisingFrom e es → Ordered Before (e ∷ es)
chain_ordered e [] r = ((λ z k. absurd (not-nil k)), tt)
chain_ordered e (h ∷ hs) r = let o = chain_ordered h hs r.1 in ((λ z k. go o z (cases_cons k)), o)
  where
    go : Ordered Before (h ∷ hs) → (z : Element) → (z ≡ h) ⊎ Mem z hs → Before e z
    go o z (inl p) = rw p r.0
    go o z (inr k) = before_trans e h z r.0 (o.0 z k)

pub ordered : (es : List Element) → Rising es → Ordered Before es
ordered [] r = tt
ordered (e ∷ es) r = chain_ordered e es r

pub element-same : (e h : Element) → e.distance ≡ h.distance → e.yard ≡ h.yard → e.kinds ≡ h.kinds → e ≡ h
element-same e h p q r = λ i. record { distance = p i; yard = q i; kinds = r i }

-- ---- kinds

-- what gives the kinds of some yards gives those of fewer
pub marks-part : (K : ℕ → ℕ → Type 0) (kinds : ℕ → ℕ) (ys zs : List ℕ) → ((y : ℕ) → Mem y zs → Mem y ys) → Marks K kinds ys → Marks K kinds zs
marks-part K kinds ys zs f o = record { reached = λ y m. o.reached y (f y m); one = o.one }

-- the bits of yards together, by what says a yard's kinds
bits-exact : (K : ℕ → ℕ → Type 0) (kinds : ℕ → ℕ) (ys : List ℕ) → Marks K kinds ys → BitsOf (λ y. Mem y ys) K (together kinds ys)
bits-exact K kinds ys o =
    let b = together-bits kinds ys in
    record {
      some = λ j h. let w = b.some j h in (w.0, w.1, w.2, rw w.3 at (o.reached w.0 w.2), w.4);
      every = λ j y k m c h. b.every j y k m (o.one y (kinds y) k (o.reached y m) c) h;
    }

module _ (g : Given) (D : ℕ → ℕ → ℕ → Type 0) (K : ℕ → ℕ → Type 0) (n : ℕ) (known : Measures D g.d n) where
  -- two lists of one landmark and the same yards have the same elements
  list-sub : (ys : List ℕ) (l : ℕ) (es hs : List Element) → Marks K g.kinds ys → ListOf (terms_of g D K) ys l es → ListOf (terms_of g D K) ys l hs → (e : Element) → Mem e es → Mem e hs
  list-sub ys l es hs o p q e k =
      let (h, j, y) = yards-from hs e.yard ((q.named e.yard).1 ((p.named e.yard).0 (yards_of_lem es e k))) in
      let c : D l e.yard h.distance = rw y at (q.measured h j) in
      let b : K e.yard h.kinds = rw y at (q.kinded h j) in
      cast (element-same e h (known.one l e.yard e.distance h.distance (p.measured e k) c) (sym y)
      (o.one e.yard e.kinds h.kinds (p.kinded e k) b)) j

  list-one : (ys : List ℕ) (l : ℕ) (es hs : List Element) → Marks K g.kinds ys → ListOf (terms_of g D K) ys l es → ListOf (terms_of g D K) ys l hs → es ≡ hs
  list-one ys l es hs o p q =
      ordered_same Before before_apart es hs (ordered es p.rising) (ordered hs q.rising) (list-sub ys l es hs o p q) (list-sub ys l hs es o q p)

  -- ---- the range from a with s junctions, and its yards

  module _ (a s : ℕ) (ys : List ℕ) (marked : Marks K g.kinds ys) (held : Held a s ys) (within : a + s ≤ n) where
    -- a distance from a junction of the range to one of its yards
    total : (l y : ℕ) → OfRange a s l → Mem y ys → D l y (g.d l y)
    total l y i k = known.reached l y (omega (arith, i.1)) (omega (arith, (held.in_range_lem y k).1))

    list-exact : (l : ℕ) → OfRange a s l → ListOf (terms_of g D K) ys l (ranked_list g l ys)
    list-exact l i =
        let u = rising-distinct ys held.rising in
        record {
          named = λ y. (ranked-yard g l ys y, yard-ranked g l ys y);
          once = ranked-distinct g l ys u;
          measured = λ e k. let x = ranked-is g l ys e k in rw x.away (total l e.yard i x.of_yard);
          kinded = λ e k. let x = ranked-is g l ys e k in rw x.byte (marked.reached e.yard x.of_yard);
          rising = ranked_rises g l ys u;
        }

    -- ---- least and greatest

    least-exact : (l : ℕ) → OfRange a s l → LeastOf (λ y. Mem y ys) (D l) (least (g.d l) ys)
    least-exact l i =
        least_away (g.d l) ys (D l) (λ y k. total l y i k) (λ y t u. known.one l y t u) (least (g.d l) ys) (least-is (g.d l) ys held.some)

    greatest-exact : (l : ℕ) → OfRange a s l → GreatestOf (λ y. Mem y ys) (D l) (greatest (g.d l) ys)
    greatest-exact l i =
        greatest_away (g.d l) ys (D l) (λ y k. total l y i k) (λ y t u. known.one l y t u) (greatest (g.d l) ys) (greatest-is (g.d l) ys held.some)

    -- ---- records

    some : 0 < s
    some = size-some a s ys held

    pub leaf-exact : RecordOf (terms_of g D K) a s 0 ys (LeafLandmark (terms_of g D K) ys) (leaf_region g a s ys)
    unfolding leaf_region
    leaf-exact = record {
      starts = refl;
      ends = refl;
      parts = refl;
      holds = refl;
      bits = bits-exact K g.kinds ys marked;
      placed = marks-placed g D K a s (λ l. leaf_mark l (ranked_list g l ys)) (λ l. leaf-place l (ranked_list g l ys));
      each = λ k i.
          let x = leaf_mark_lem g a s ys k i in
          record { form = x.form; pairs = rw x.list (list-exact k.place (landmarks-range g a s some k.place x.at)) };
    }

    pub inner-exact : (q : ℕ) → RecordOf (terms_of g D K) a s q ys (InnerLandmark (terms_of g D K) ys) (inner_region g a s q ys)
    unfolding inner_region
    inner-exact q = record {
      starts = refl;
      ends = refl;
      parts = refl;
      holds = refl;
      bits = bits-exact K g.kinds ys marked;
      placed = marks-placed g D K a s (λ l. inner_mark l (least (g.d l) ys) (greatest (g.d l) ys)) (λ l.
          inner-place l (least (g.d l) ys) (greatest (g.d l) ys));
      each = λ k i.
          let x = inner_mark_lem g a s q ys k i in
          let o = landmarks-range g a s some k.place x.at in
          record { form = x.form; lowest = rw x.low (least-exact k.place o); highest = rw x.high (greatest-exact k.place o) };
    }

    kinds-one : (byte : ℕ) → BitsOf (λ y. Mem y ys) K byte → byte ≡ together g.kinds ys
    kinds-one byte b = one_byte (λ y. Mem y ys) K byte (together g.kinds ys) b (bits-exact K g.kinds ys marked)

    pub leaf-one : (r : Region) → RecordOf (terms_of g D K) a s 0 ys (LeafLandmark (terms_of g D K) ys) r → r ≡ leaf_region g a s ys
    unfolding leaf_region
    leaf-one r x = λ i. record { first = x.starts i; after = x.ends i; children = x.parts i; yards = x.holds i; kinds = kinds-one r.kinds x.bits i; marks = marks i }
      where
        marks : r.marks ≡ map (λ l. leaf_mark l (ranked_list g l ys)) (landmarks_of g a s)
        marks = marks-one g D K a s (λ l. leaf_mark l (ranked_list g l ys)) some r.marks x.placed (λ k i o.
            let z = x.each k i in
            z.form ∙ ap (leaf_mark k.place) (list-one ys k.place k.list (ranked_list g k.place ys) marked z.pairs (list-exact k.place o)))

    pub inner-one : (q : ℕ) (r : Region) → RecordOf (terms_of g D K) a s q ys (InnerLandmark (terms_of g D K) ys) r → r ≡ inner_region g a s q ys
    unfolding inner_region
    inner-one q r x = λ i. record { first = x.starts i; after = x.ends i; children = x.parts i; yards = x.holds i; kinds = kinds-one r.kinds x.bits i; marks = marks i }
      where
        marks : r.marks ≡ map (λ l. inner_mark l (least (g.d l) ys) (greatest (g.d l) ys)) (landmarks_of g a s)
        marks = marks-one g D K a s (λ l. inner_mark l (least (g.d l) ys) (greatest (g.d l) ys)) some r.marks x.placed (λ k i o.
            let z = x.each k i in
            let place = k.place in
            let low = least_of_one (λ y. Mem y ys) (D place) k.least (least (g.d place) ys) z.lowest (least-exact place o) in
            let high = greatest_of_one (λ y. Mem y ys) (D place) k.greatest (greatest (g.d place) ys) z.highest (greatest-exact place o) in
            z.form ∙ λ i. inner_mark k.place (low i) (high i))
