-- The least of an inner region's landmark is a word of 32 bits, a leaf's is its list's first distance; a region of no number has no landmark. Assumes nothing.
use mathlib.Core.Path.{◌≡◌, refl, ap}
use mathlib.Core.Logic.{◌⊎◌, inl, inr, ◌≢◌}
use mathlib.Core.List.Memᴰ.{cases_cons}
use mathlib.Core.List.Memᴰ.{head}
use mathlib.Core.List.Memᴰ.{not-nil}
use mathlib.Core.List.{List, [], ◌∷◌, Memᴰ as Mem}
use Prim.Native.Nat.{ℕ, zero, suc, ◌+◌, ◌≤◌, ◌<◌}
use native.Mathlib.Omega.{arith}
use lib.ListN.{length}
use Rattle.book.specs.Bytes.{u8_at, u16_at, u32_at, Bytes}
use Rattle.book.specs.Open.{version}
use Rattle.book.proofs.Laws.{u32_small}
use Rattle.tree_layout.specs.Sizes.{fields_size}
use Rattle.tree_layout.specs.Values.{Element, Mark, Region, leaf_mark, inner_mark, first_distance, no_region, region_at}
use Rattle.tree_layout.specs.Decode.{read_spans, read_region, decode, region_count, landmark_count, place_of}
use Rattle.tree_layout.proofs.Formed.{marks-spans}
use Rattle.tree_layout.proofs.Places.{region_at_lem}

spans-small : (b : List ℕ) → Bytes b → (n at : ℕ) (k : Mark) → Mem k (read_spans b n at) → k.least < 4294967296
unfolding read_spans inner_mark
spans-small b h zero at k j = absurd (not-nil j)
spans-small b h (suc n) at k j = go (cases_cons j) (λ i. spans-small b h n (at + 10) k i)
  where
    go : (k ≡ record { place = u16_at b at; least = u32_at b (at + 2); greatest = u32_at b (at + 6); list = [] }) ⊎ Mem k (read_spans b n (at + 10))
        → (Mem k (read_spans b n (at + 10)) → k.least < 4294967296) → k.least < 4294967296
    go (inl e) rec = rw e (u32_small b h (at + 2))
    go (inr i) rec = rec i

pub least-small : (b : List ℕ) → Bytes b → (j : ℕ) → j < region_count b → 0 < (region_at (decode b).regions j).children → (k : Mark)
    → Mem k (region_at (decode b).regions j).marks → k.least < 4294967296
unfolding read_region
least-small b h j s c k m =
    let e = region_at_lem b j s in
    let at : ℕ = place_of b j in
    let n : 0 < u8_at b (at + 4) = rw e at c in
    let i : Mem k (read_region b (landmark_count b) at).marks = rw e at m in
    spans-small b h (landmark_count b) (at + fields_size (version b)) k (rw (marks-spans b (landmark_count b) (u8_at b (at + 4)) (u16_at b (at + 5)) (at + fields_size (version b)) n) at i)

-- a list that isn't empty has its first distance
pub first_of : (es : List Element) → es ≢ [] → (e : Element) × Mem e es × (first_distance es ≡ e.distance)
unfolding first_distance
first_of [] n = absurd (n refl)
first_of (e ∷ es) n = (e, head refl, refl)

pub leaf-least : (k : Mark) → k ≡ leaf_mark k.place k.list → k.least ≡ first_distance k.list
unfolding leaf_mark
leaf-least k e = ap (λ (x : Mark). x.least) e

-- a region of no number has neither landmarks nor children
region_out : (rs : List Region) (j : ℕ) → length rs ≤ j → region_at rs j ≡ no_region
unfolding region_at
region_out [] j h = refl
region_out (r ∷ rs) zero h = absurd (omega arith)
region_out (r ∷ rs) (suc j) h = region_out rs j (omega arith)

pub marks_out : (rs : List Region) (j : ℕ) → length rs ≤ j → (region_at rs j).marks ≡ []
unfolding no_region
marks_out rs j h = ap (λ (x : Region). x.marks) (region_out rs j h)

pub children_out : (rs : List Region) (j : ℕ) → length rs ≤ j → (region_at rs j).children ≡ 0
unfolding no_region
children_out rs j h = ap (λ (x : Region). x.children) (region_out rs j h)
