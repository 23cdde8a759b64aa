-- The array of subtrees' ends, filled in from the last region to the first. Assumes nothing.
use mathlib.Core.Path.{◌≡◌, refl, sym, ◌∙◌}
use mathlib.Core.List.Memᴰ.{head}
use mathlib.Core.List.Memᴰ.{tail}
use mathlib.Core.List.{List, Memᴰ as Mem}
use Prim.Native.Nat.{ℕ, zero, suc, ◌+◌, ◌-◌, ◌≤◌, ◌<◌}
use native.Mathlib.Decide.{ℕ_discrete, dec_lt}
use native.Mathlib.Numerals.{add-one}
use native.Mathlib.Omega.{arith}
use lib.ListN.{length, get_or, set, length-set}
use lib.Seq.{get_or-set_same, get_or-set_other, ext_get_or}
use Rattle.tree_layout.specs.Values.{Region, region_at}
use Rattle.tree_layout.specs.Decode.{region_count, decode}
use Rattle.tree.specs.Shape.{tree_refusal}
use Rattle.tree.specs.Yards.{end_of, hops, starts, children_of}
use Rattle.tree.specs.Arrays.{overwrite, Laid, fields_of}
use Rattle.tree_layout.specs.declared.Fields.{Fields}
use Rattle.tree.specs.Theorems.{Regions}
use Rattle.tree.proofs.Fielding.{laid-length}
use Rattle.tree.proofs.Recursing.{children-is}
use Rattle.tree.proofs.Filling.{overwrite-length, overwrite_new, overwrite_old}
use Rattle.tree.proofs.Theorems.{accepted-whole}

-- a list that has f's numbers from i up to n, and elsewhere those of another list
pub record Filled (f : ℕ → ℕ) (i n : ℕ) (old new : List ℕ) : Type 0 where
  pub size : length new ≡ length old
  pub filled : (j : ℕ) → i ≤ j → j < n → get_or new j 0 ≡ f j
  pub below : (j : ℕ) → j < i → get_or new j 0 ≡ get_or old j 0
  pub above : (j : ℕ) → n ≤ j → get_or new j 0 ≡ get_or old j 0

module _ (f : ℕ → ℕ) (n : ℕ) (old : List ℕ) where
  pub filled-step : (i x : ℕ) (new : List ℕ) → Filled f (suc i) n old new → i < n → n ≤ length old → x ≡ f i → Filled f i n old (set new i x)
  filled-step i x new p h k e = record {
    size = length-set new i x ∙ p.size;
    filled = λ j a b. at j a b (ℕ_discrete j i);
    below = λ j a. get_or-set_other new i j x 0 (λ z. omega arith) ∙ p.below j (omega arith);
    above = λ j a. get_or-set_other new i j x 0 (λ z. omega arith) ∙ p.above j a;
  }
    where
      at : (j : ℕ) → i ≤ j → j < n → Dec (j ≡ i) → get_or (set new i x) j 0 ≡ f j
      at j a b (yes z) = rw z (get_or-set_same new i x 0 (omega (arith, p.size)) ∙ e)
      at j a b (no z) = get_or-set_other new i j x 0 z ∙ p.filled j (omega arith) b

  pub filled-end : (new : List ℕ) → Filled f 0 n old new → n ≤ length old → new ≡ overwrite f n old
  filled-end new p k = ext_get_or 0 new (overwrite f n old) (p.size ∙ sym (overwrite-length f old n)) (λ i h. at i (dec_lt i n))
    where
      at : (i : ℕ) → Dec (i < n) → get_or new i 0 ≡ get_or (overwrite f n old) i 0
      at i (yes h) = p.filled i (omega arith) h ∙ sym (overwrite_new f old n i h k)
      at i (no h) = p.above i (omega arith) ∙ sym (overwrite_old f old n i (omega arith))

-- ---- hops

-- hops by two functions that agree where they are asked
hops-same : (f g : ℕ → ℕ) (k i : ℕ) → ((j : ℕ) → j < k → f (hops g j i) ≡ g (hops g j i)) → hops f k i ≡ hops g k i
unfolding hops
hops-same f g zero i h = refl
hops-same f g (suc k) i h = rw (h 0 (omega arith)) (hops-same f g k (g i) (λ j p. h (suc j) (omega arith)))

-- fewer hops than there are siblings come to one of them
hops-mem : (f : ℕ → ℕ) (n k i : ℕ) → k < n → Mem (hops f k i) (starts f n i)
unfolding hops starts
hops-mem f zero k i h = absurd (omega arith)
hops-mem f (suc n) zero i h = head refl
hops-mem f (suc n) (suc k) i h = tail (hops-mem f n k (f i) (omega arith))

-- ---- the end of a subtree from those of later ones

module _ (b places : List ℕ) (ok : tree_refusal b ≡ 0) (laid : Laid b places) where
  abbrev rs : List Region
  rs = (decode b).regions

  abbrev ends : ℕ → ℕ
  ends = end_of rs

  whole : Regions rs
  whole = (accepted-whole b ok).regions

  -- region i, with the ends of all later regions filled in
  module _ (i later : ℕ) (next : later ≡ suc i) (h : i < length places) (old new : List ℕ) (fits : length places ≤ length old) (so_far : Filled ends later
      (length places) old new) where
    p : Filled ends (suc i) (length places) old new
    p = rw next at so_far

    inside : i < length rs
    inside = omega (arith, laid-length b places laid)

    -- a hop comes to a child
    hop : (k : ℕ) → k < (region_at rs i).children → (i < hops ends k (suc i)) × (hops ends k (suc i) < length places)
    unfolding children_of
    hop k q =
        let x = whole.above i (hops ends k (suc i)) inside (hops-mem ends (region_at rs i).children k (suc i) q) in
        (x.0, omega (arith, x.1, laid-length b places laid))

    same : (k : ℕ) → k ≤ (region_at rs i).children → hops (λ j. get_or new j 0) k (suc i) ≡ hops ends k (suc i)
    same k q = hops-same (λ j. get_or new j 0) ends k (suc i) (λ j r. let x = hop j (omega arith) in p.filled (hops ends j (suc i)) (omega (arith, x.0)) x.1)

    -- the hops along the children stay in the array
    pub hops-inside : (f : Fields) → f ≡ fields_of b i → (k : ℕ) → k < f.children → hops (λ j. get_or new j 0) k (i + 1) < length new
    hops-inside f e k q =
        let z = children-is b i f e in
        rw (add-one, same k (omega arith)) (omega (arith, (hop k (omega arith)).1, p.size))

    -- and give the end
    end-found : (f : Fields) → f ≡ fields_of b i → (x : ℕ) → x ≡ hops (λ j. get_or new j 0) f.children (i + 1) → x ≡ ends i
    end-found f e x q =
        let z = children-is b i f e in
        q ∙ rw (add-one, ← z) (same (region_at rs i).children (omega arith) ∙ sym (whole.ends i inside))

    -- which is filled in
    pub ends-step : (f : Fields) → f ≡ fields_of b i → (x : ℕ) → x ≡ hops (λ j. get_or new j 0) f.children (i + 1)
        → Filled ends i (length places) old (set new i x)
    ends-step f e x q = filled-step ends (length places) old i x new p h fits (end-found f e x q)

  -- all are filled in
  pub ends-done : (i : ℕ) (old new : List ℕ) → i ≡ 0 → length places ≤ length old → Filled ends i (length places) old new
      → new ≡ overwrite ends (region_count b) old
  ends-done i old new z k p = filled-end ends (length places) old new (rw z at p) k ∙ rw laid.count refl
