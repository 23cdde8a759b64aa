-- A built region's form, values and lists. Assumes nothing.
use mathlib.Core.Path.{◌≡◌, refl, ap, ◌∙◌}
use mathlib.Core.Logic.{◌⊎◌, inl, inr}
use mathlib.Core.List.Memᴰ.{cases_cons}
use mathlib.Core.List.Memᴰ.{head}
use mathlib.Core.List.Memᴰ.{not-nil}
use mathlib.Core.List.{List, [], ◌∷◌, Memᴰ as Mem}
use mathlib.Core.List.Memᴰ.{append_cases}
use mathlib.Core.List.Memᴰ.{append_left}
use mathlib.Core.List.Memᴰ.{append_right}
use mathlib.Core.List.{◌++◌}
use Prim.Native.Nat.{ℕ, ◌+◌, ◌≤◌, ◌<◌}
use native.Mathlib.Omega.{arith}
use lib.ListN.{length, length-map, length-append}
use lib.Dec.{T}
use Rattle.book.proofs.Lists.{map-mem}
use Rattle.kinds.specs.Kinds.{together}
use Rattle.kinds.proofs.Together.{together-most, together-least, together-any}
use Rattle.tree_layout.specs.Values.{Element, Mark, Region, leaf_mark, inner_mark}
use Rattle.tree_layout.specs.Facts.{RegionValues}
use Rattle.tree_layout.specs.code.Formed.{Formed}
use Rattle.tree_layout.proofs.MarkFields.{leaf-place, leaf-pairs, leaf-form, inner-place, inner-least, inner-greatest, inner-form}
use Rattle.tree_layout.proofs.Ends.{inner-is}
use Rattle.tree_leaf.specs.Leaf.{first_list, leaf_ok}
use Rattle.tree_leaf.specs.Leaf.{yards_in}
use Rattle.tree_leaf.specs.Facts.{LeafLists}
use Rattle.tree_leaf.proofs.Named.{first_mark_lem, lists-leaf}
use Rattle.tree_encode.specs.code.Facts.{SmallRegion}
use Rattle.check_rules.specs.Truth.{least, greatest}
use Rattle.check_rules.specs.Facts.{Same}
use Rattle.check_rules.proofs.Extremes.{least-is, greatest-is, least-greatest}
use Rattle.check_rules.proofs.KindBytes.{RegionKinds}
use Rattle.check_rules.proofs.Theorems.{RegionTrue}
use Rattle.build_rules.specs.Cut.{Given, landmarks_of, ranked_list, leaf_region, inner_region}
use Rattle.build_rules.proofs.Ranked.{IsElement, ranked-length, ranked-is, ranked-yard, yard-ranked, ranked-distinct, ranked_rises}
use Rattle.build_rules.proofs.Landmarks.{landmarks-range, landmarks-length}
use Rattle.build_rules.proofs.Parts.{rising-distinct}
use Rattle.build_rules.proofs.Cutting.{Held, CutForest, none, leaf, inner, widen, join}

-- a range that holds a yard has a junction
pub size-some : (a s : ℕ) (ys : List ℕ) → Held a s ys → 0 < s
size-some a s [] v = absurd (omega (arith, v.some))
size-some a s (y ∷ ys) v = omega (arith, (v.in_range_lem y (head refl)).0, (v.in_range_lem y (head refl)).1)

-- each yard's kinds are not 0, and 255 in version 1
pub record Kinded (g : Given) (ys : List ℕ) : Type 0 where
  pub some : (y : ℕ) → Mem y ys → 1 ≤ g.kinds y
  pub any : g.version ≡ 1 → (y : ℕ) → Mem y ys → g.kinds y ≡ 255

-- they are a byte
abbrev KindBytes : Given → List ℕ → Type 0
KindBytes g ys = (y : ℕ) → Mem y ys → g.kinds y ≤ 255

module _ (g : Given) where
  -- ---- kinds

  kinded-left : (ys zs : List ℕ) → Kinded g (ys ++ zs) → Kinded g ys
  kinded-left ys zs x = record { some = λ y k. x.some y (append_left zs k); any = λ e y k. x.any e y (append_left zs k) }

  kinded_right : (ys zs : List ℕ) → Kinded g (ys ++ zs) → Kinded g zs
  kinded_right ys zs x = record { some = λ y k. x.some y (append_right ys k); any = λ e y k. x.any e y (append_right ys k) }

  module _ (a s : ℕ) (ys : List ℕ) (v : Held a s ys) (kd : Kinded g ys) where
    byte_least : 1 ≤ together g.kinds ys
    byte_least = together-least g.kinds ys v.some kd.some

    byte_any : g.version ≡ 1 → together g.kinds ys ≡ 255
    byte_any e = together-any g.kinds ys v.some (kd.any e)

  -- ---- landmarks

  -- what a leaf's landmark is, and an inner region's
  pub record LeafMark (a s : ℕ) (ys : List ℕ) (k : Mark) : Type 0 where
    pub at : Mem k.place (landmarks_of g a s)
    pub list : k.list ≡ ranked_list g k.place ys
    pub form : k ≡ leaf_mark k.place k.list

  pub record InnerMark (a s : ℕ) (ys : List ℕ) (k : Mark) : Type 0 where
    pub at : Mem k.place (landmarks_of g a s)
    pub low : k.least ≡ least (g.d k.place) ys
    pub high : k.greatest ≡ greatest (g.d k.place) ys
    pub form : k ≡ inner_mark k.place k.least k.greatest
    pub bare : k.list ≡ []

  pub leaf_mark_lem : (a s : ℕ) (ys : List ℕ) (k : Mark) → Mem k (leaf_region g a s ys).marks → LeafMark a s ys k
  unfolding leaf_region
  leaf_mark_lem a s ys k i =
      let x = map-mem (λ l. leaf_mark l (ranked_list g l ys)) (landmarks_of g a s) k i in
      let p = leaf-place x.0 (ranked_list g x.0 ys) in
      let q = leaf-pairs x.0 (ranked_list g x.0 ys) in
      rw x.2 (record { at = rw p x.1; list = rw (p, q) refl; form = leaf-form x.0 (ranked_list g x.0 ys) })

  pub inner_mark_lem : (a s q : ℕ) (ys : List ℕ) (k : Mark) → Mem k (inner_region g a s q ys).marks → InnerMark a s ys k
  unfolding inner_region
  inner_mark_lem a s q ys k i =
      let x = map-mem (λ l. inner_mark l (least (g.d l) ys) (greatest (g.d l) ys)) (landmarks_of g a s) k i in
      let p = inner-place x.0 (least (g.d x.0) ys) (greatest (g.d x.0) ys) in
      let u = inner-least x.0 (least (g.d x.0) ys) (greatest (g.d x.0) ys) in
      let v = inner-greatest x.0 (least (g.d x.0) ys) (greatest (g.d x.0) ys) in
      rw x.2 (record {
        at = rw p x.1;
        low = rw (p, u) refl;
        high = rw (p, v) refl;
        form = inner-form x.0 (least (g.d x.0) ys) (greatest (g.d x.0) ys);
        bare = ap (λ (z : Mark). z.list) (inner-is x.0 (least (g.d x.0) ys) (greatest (g.d x.0) ys));
      })

  -- an element of a leaf's list, and of an inner region's, which has none
  leaf-listed : (a s : ℕ) (ys : List ℕ) (k : Mark) → Mem k (leaf_region g a s ys).marks → (e : Element) → Mem e k.list → IsElement g k.place ys e
  leaf-listed a s ys k i e j = ranked-is g k.place ys e (rw (leaf_mark_lem a s ys k i).list at j)

  inner-listed : (a s q : ℕ) (ys : List ℕ) (k : Mark) → Mem k (inner_region g a s q ys).marks → (e : Element) → Mem e k.list → ⊥
  inner-listed a s q ys k i e j = not-nil (rw (inner_mark_lem a s q ys k i).bare at j)

  -- ---- form

  pub leaf-count : (a s : ℕ) (ys : List ℕ) → length (leaf_region g a s ys).marks ≡ g.landmarks
  unfolding leaf_region
  leaf-count a s ys = length-map (landmarks_of g a s) (λ l. leaf_mark l (ranked_list g l ys)) ∙ landmarks-length g a s

  pub leaf_long : (a s : ℕ) (ys : List ℕ) (k : Mark) → Mem k (leaf_region g a s ys).marks → length k.list ≡ length ys
  leaf_long a s ys k i = rw (leaf_mark_lem a s ys k i).list (ranked-length g k.place ys)

  leaf-formed : (a s : ℕ) (ys : List ℕ) → Held a s ys → Kinded g ys → Formed g.version g.landmarks (leaf_region g a s ys)
  unfolding leaf_region
  leaf-formed a s ys v kd = record {
    count = leaf-count a s ys;
    lists = λ e k i. ((leaf_mark_lem a s ys k i).form, leaf_long a s ys k i);
    spans = λ h k i. absurd (omega arith);
    any = byte_any a s ys v kd;
    any-listed = λ e k i x j. let z = leaf-listed a s ys k i x j in z.byte ∙ kd.any e x.yard z.of_yard;
  }

  pub inner-count : (a s q : ℕ) (ys : List ℕ) → length (inner_region g a s q ys).marks ≡ g.landmarks
  unfolding inner_region
  inner-count a s q ys = length-map (landmarks_of g a s) (λ l. inner_mark l (least (g.d l) ys) (greatest (g.d l) ys)) ∙ landmarks-length g a s

  inner-formed : (a s q : ℕ) (ys : List ℕ) → Held a s ys → Kinded g ys → 0 < q → Formed g.version g.landmarks (inner_region g a s q ys)
  unfolding inner_region
  inner-formed a s q ys v kd h = record {
    count = inner-count a s q ys;
    lists = λ e k i. absurd (omega arith);
    spans = λ z k i. (inner_mark_lem a s q ys k i).form;
    any = byte_any a s ys v kd;
    any-listed = λ e k i x j. absurd (inner-listed a s q ys k i x j);
  }

  -- ---- truth

  -- a leaf's numbers, and an inner region's with its yards
  pub leaf_true : (a s : ℕ) (ys zs : List ℕ) → RegionTrue g.d zs (leaf_region g a s ys)
  unfolding leaf_region
  leaf_true a s ys zs = record {
    list = λ c k i e j. (leaf-listed a s ys k i e j).away;
    low = λ h k i. absurd (omega arith);
    high = λ h k i. absurd (omega arith);
  }

  pub inner_true : (a s q : ℕ) (ys : List ℕ) → 0 < q → 0 < length ys → RegionTrue g.d ys (inner_region g a s q ys)
  unfolding inner_region
  inner_true a s q ys h some = record {
    list = λ c k i e j. absurd (omega arith);
    low = λ z k i. rw (inner_mark_lem a s q ys k i).low (least-is (g.d k.place) ys some);
    high = λ z k i. rw (inner_mark_lem a s q ys k i).high (greatest-is (g.d k.place) ys some);
  }

  -- their kind bytes
  pub leaf-kinds : (a s : ℕ) (ys : List ℕ) → RegionKinds g.kinds ys (leaf_region g a s ys)
  unfolding leaf_region
  leaf-kinds a s ys = record { byte = refl; list = λ k i e j. (leaf-listed a s ys k i e j).byte }

  pub inner-kinds : (a s q : ℕ) (ys : List ℕ) → RegionKinds g.kinds ys (inner_region g a s q ys)
  unfolding inner_region
  inner-kinds a s q ys = record { byte = refl; list = λ k i e j. absurd (inner-listed a s q ys k i e j) }

  -- ---- lists

  to-yards : (a s : ℕ) (ys : List ℕ) (m : Mark) → Mem m (leaf_region g a s ys).marks → (y : ℕ) → Mem y (yards_in m.list) → Mem y ys
  to-yards a s ys m i y x = ranked-yard g m.place ys y (rw (leaf_mark_lem a s ys m i).list at x)

  from-yards : (a s : ℕ) (ys : List ℕ) (m : Mark) → Mem m (leaf_region g a s ys).marks → (y : ℕ) → Mem y ys → Mem y (yards_in m.list)
  from-yards a s ys m i y x = rw (leaf_mark_lem a s ys m i).list (yard-ranked g m.place ys y x)

  leaf-lists : (a s : ℕ) (ys : List ℕ) → Held a s ys → LeafLists (leaf_region g a s ys)
  unfolding leaf_region
  leaf-lists a s ys v = record {
    same = λ m k i j y x. from-yards a s ys k j y (to-yards a s ys m i y x);
    once = λ m i. rw (leaf_mark_lem a s ys m i).list (ranked-distinct g m.place ys (rising-distinct ys v.rising));
    inside = λ m i y x. v.in_range_lem y (to-yards a s ys m i y x);
  }

  -- the test of a leaf's lists holds
  pub leaf-passes : (a s : ℕ) (ys : List ℕ) → Held a s ys → T (leaf_ok (leaf_region g a s ys))
  leaf-passes a s ys v = lists-leaf (leaf_region g a s ys) (leaf-lists a s ys v)

  -- the first list names the leaf's yards
  pub leaf-same : (a s : ℕ) (ys : List ℕ) → 1 ≤ g.landmarks → Same (yards_in (first_list (leaf_region g a s ys).marks)) ys
  leaf-same a s ys h =
      let x = first_mark_lem (leaf_region g a s ys).marks (omega (arith, leaf-count a s ys)) in
      rw x.2 (record { to = to-yards a s ys x.0 x.1; from = from-yards a s ys x.0 x.1 })

  -- ---- values

  module _ (junctions : ℕ) (bounded : (u v : ℕ) → u < junctions → v < junctions → g.d u v ≤ 67042305) where
    leaf-values : (a s : ℕ) (ys : List ℕ) → Held a s ys → Kinded g ys → a + s ≤ junctions → RegionValues junctions (leaf_region g a s ys)
    unfolding leaf_region
    leaf-values a s ys v kd b = record {
      range = omega (arith, size-some a s ys v);
      within = b;
      kind = inl refl;
      some = v.some;
      placed = λ k i. placed k i;
      near = λ c k i e j.
          let x = leaf-listed a s ys k i e j in
          omega (arith, x.away, bounded k.place e.yard (omega (arith, (placed k i).1)) (omega (arith, (v.in_range_lem e.yard x.of_yard).1)));
      rising = λ c k i. rw (leaf_mark_lem a s ys k i).list (ranked_rises g k.place ys (rising-distinct ys v.rising));
      kinds = byte_least a s ys v kd;
      kinded = λ c k i e j. let x = leaf-listed a s ys k i e j in omega (arith, x.byte, kd.some e.yard x.of_yard);
      span = λ h k i. absurd (omega arith);
    }
      where
        placed : (k : Mark) → Mem k (leaf_region g a s ys).marks → (a ≤ k.place) × (k.place < a + s)
        placed k i = landmarks-range g a s (size-some a s ys v) k.place (leaf_mark_lem a s ys k i).at

    inner-values : (a s q : ℕ) (ys : List ℕ) → Held a s ys → Kinded g ys → a + s ≤ junctions → 2 ≤ q → q ≤ 4 → RegionValues junctions (inner_region g a s q ys)
    unfolding inner_region
    inner-values a s q ys v kd b c e = record {
      range = omega (arith, size-some a s ys v);
      within = b;
      kind = inr (c, e);
      some = v.some;
      placed = λ k i. landmarks-range g a s (size-some a s ys v) k.place (inner_mark_lem a s q ys k i).at;
      near = λ z k i f j. absurd (omega arith);
      rising = λ z k i. absurd (omega arith);
      kinds = byte_least a s ys v kd;
      kinded = λ z k i f j. absurd (omega arith);
      span = λ h k i. let x = inner_true a s q ys (omega arith) v.some in
          least-greatest (g.d k.place) ys k.least k.greatest (x.low (omega arith) k i) (x.high (omega arith) k i);
    }

    -- every region of a cut forest
    pub forest_regions : {k n low high : ℕ} {ys : List ℕ} {rs : List Region} → CutForest g junctions k n low high ys rs → Kinded g ys → (r : Region) → Mem r rs
        → Formed g.version g.landmarks r × RegionValues junctions r
    forest_regions (none h) kd r i = absurd (not-nil i)
    forest_regions (leaf {a = a} {s = s} {ys = ys} v b c) kd r i = go (cases_cons i)
      where
        go : (r ≡ leaf_region g a s ys) ⊎ Mem r [] → Formed g.version g.landmarks r × RegionValues junctions r
        go (inl e) = rw e (leaf-formed a s ys v kd, leaf-values a s ys v kd b)
        go (inr j) = absurd (not-nil j)
    forest_regions (inner {a = a} {s = s} {q = q} {ys = ys} {rs = rs} v b c e f) kd r i = go (cases_cons i) (λ j. forest_regions f kd r j)
      where
        go : (r ≡ inner_region g a s q ys) ⊎ Mem r rs → (Mem r rs → Formed g.version g.landmarks r × RegionValues junctions r)
            → Formed g.version g.landmarks r × RegionValues junctions r
        go (inl z) rec = rw z (inner-formed a s q ys v kd (omega arith), inner-values a s q ys v kd b c e)
        go (inr j) rec = rec j
    forest_regions (widen a b c f) kd r i = forest_regions f kd r i
    forest_regions (join {ys = ys} {zs = zs} {rs = rs} {ss = ss} h f t) kd r i =
        go (append_cases rs i) (λ j. forest_regions f (kinded-left ys zs kd) r j) (λ j. forest_regions t (kinded_right ys zs kd) r j)
      where
        go : Mem r rs ⊎ Mem r ss → (Mem r rs → Formed g.version g.landmarks r × RegionValues junctions r) → (Mem r ss
            → Formed g.version g.landmarks r × RegionValues junctions r) → Formed g.version g.landmarks r × RegionValues junctions r
        go (inl j) x y = x j
        go (inr j) x y = y j

    -- their fields fit their bytes
    leaf-small : (a s : ℕ) (ys : List ℕ) → Held a s ys → Kinded g ys → KindBytes g ys → a + s ≤ junctions → junctions ≤ 1024 → length ys ≤ 256
        → SmallRegion (leaf_region g a s ys)
    unfolding leaf_region
    leaf-small a s ys v kd most b j n =
        let w = leaf-values a s ys v kd b in
        record {
          first = omega (arith, size-some a s ys v);
          after = omega arith;
          children = omega arith;
          yards = omega arith;
          kinds = omega (arith, together-most g.kinds ys most);
          places = λ k i. omega (arith, (w.placed k i).1);
          pairs = λ c k i e x.
              let z = leaf-listed a s ys k i e x in (
                omega (arith, w.near c k i e x),
                omega (arith, (v.in_range_lem e.yard z.of_yard).1),
                omega (arith, z.byte, most e.yard z.of_yard),
              );
          spans = λ c k i. absurd (omega arith);
        }

    inner-small : (a s q : ℕ) (ys : List ℕ) → Held a s ys → Kinded g ys → KindBytes g ys → a + s ≤ junctions → 2 ≤ q → q ≤ 4 → junctions ≤ 1024 → length ys ≤ 256
        → SmallRegion (inner_region g a s q ys)
    unfolding inner_region
    inner-small a s q ys v kd most b c e j n =
        let w = inner-values a s q ys v kd b c e in
        let x = inner_true a s q ys (omega arith) v.some in
        record {
          first = omega (arith, size-some a s ys v);
          after = omega arith;
          children = omega arith;
          yards = omega arith;
          kinds = omega (arith, together-most g.kinds ys most);
          places = λ k i. omega (arith, (w.placed k i).1);
          pairs = λ z k i f y. absurd (omega arith);
          spans = λ z k i.
              let h = (x.high z k i).reached in
              let top = bounded k.place h.0 (omega (arith, (w.placed k i).1)) (omega (arith, (v.in_range_lem h.0 h.1).1)) in
              (omega (arith, w.span z k i, h.2, top), omega (arith, h.2, top));
        }

    pub forest_small : {k n low high : ℕ} {ys : List ℕ} {rs : List Region} → CutForest g junctions k n low high ys rs → Kinded g ys → KindBytes g ys
        → junctions ≤ 1024 → length ys ≤ 256 → (r : Region) → Mem r rs → SmallRegion r
    forest_small (none h) kd most j m r i = absurd (not-nil i)
    forest_small (leaf {a = a} {s = s} {ys = ys} v b c) kd most j m r i = go (cases_cons i)
      where
        go : (r ≡ leaf_region g a s ys) ⊎ Mem r [] → SmallRegion r
        go (inl e) = rw e (leaf-small a s ys v kd most b j m)
        go (inr k) = absurd (not-nil k)
    forest_small (inner {a = a} {s = s} {q = q} {ys = ys} {rs = rs} v b c e f) kd most j m r i = go (cases_cons i) (λ k. forest_small f kd most j m r k)
      where
        go : (r ≡ inner_region g a s q ys) ⊎ Mem r rs → (Mem r rs → SmallRegion r) → SmallRegion r
        go (inl z) rec = rw z (inner-small a s q ys v kd most b c e j m)
        go (inr k) rec = rec k
    forest_small (widen a b c f) kd most j m r i = forest_small f kd most j m r i
    forest_small (join {ys = ys} {zs = zs} {rs = rs} {ss = ss} h f t) kd most j m r i =
        go (append_cases rs i) (λ k. forest_small f (kinded-left ys zs kd) (λ y x. most y (append_left zs x)) j (omega (arith, length-append ys zs)) r k) (λ k.
        forest_small t (kinded_right ys zs kd) (λ y x. most y (append_right ys x)) j (omega (arith, length-append ys zs)) r k)
      where
        go : Mem r rs ⊎ Mem r ss → (Mem r rs → SmallRegion r) → (Mem r ss → SmallRegion r) → SmallRegion r
        go (inl k) x y = x k
        go (inr k) x y = y k

  -- a leaf has no more yards than the limit
  pub forest_limit : {junctions k n low high : ℕ} {ys : List ℕ} {rs : List Region} → CutForest g junctions k n low high ys rs → (r : Region) → Mem r rs
      → r.children ≡ 0 → r.yards ≤ g.limit
  unfolding leaf_region inner_region
  forest_limit (none h) r i c = absurd (not-nil i)
  forest_limit (leaf {a = a} {s = s} {ys = ys} v b w) r i c = go (cases_cons i)
    where
      go : (r ≡ leaf_region g a s ys) ⊎ Mem r [] → r.yards ≤ g.limit
      go (inl e) = rw e w
      go (inr j) = absurd (not-nil j)
  forest_limit (inner {a = a} {s = s} {q = q} {ys = ys} {rs = rs} v b w u f) r i c = go (cases_cons i) (λ j. forest_limit f r j c)
    where
      go : (r ≡ inner_region g a s q ys) ⊎ Mem r rs → (Mem r rs → r.yards ≤ g.limit) → r.yards ≤ g.limit
      go (inl e) rec = let z : q ≡ 0 = rw e at c in absurd (omega arith)
      go (inr j) rec = rec j
  forest_limit (widen a b e f) r i c = forest_limit f r i c
  forest_limit (join {rs = rs} {ss = ss} h f t) r i c = go (append_cases rs i) (λ j. forest_limit f r j c) (λ j. forest_limit t r j c)
    where
      go : Mem r rs ⊎ Mem r ss → (Mem r rs → r.yards ≤ g.limit) → (Mem r ss → r.yards ≤ g.limit) → r.yards ≤ g.limit
      go (inl j) x y = x j
      go (inr j) x y = y j
