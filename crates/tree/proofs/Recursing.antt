-- What each return of the recursion asks, of a book of sound layout with its places. Assumes nothing.
use mathlib.Core.Path.{◌≡◌, refl, sym, ap, ◌∙◌}
use mathlib.Core.Bool.{true, false}
use mathlib.Core.List.{List}
use Prim.Native.Nat.{ℕ, suc, ◌+◌, ◌-◌, ◌≤◌, ◌<◌}
use native.Mathlib.Numerals.{add-one}
use native.Mathlib.Omega.{arith}
use lib.ListN.{length}
use borrow.Author.Tests.{eq-eqb, ne_eqb}
use lib.Dec.{eqb}
use Rattle.std.specs.Prelude.{Some, None}
use Rattle.tree_layout.specs.code.Accessors.{fields_at}
use Rattle.tree_layout.specs.Values.{Region, region_at}
use Rattle.tree_layout.specs.Decode.{read_region, size_at, landmark_count, place_of, decode, tree_yard_count}
use Rattle.tree_layout.proofs.Places.{decode-yards}
use Rattle.tree_leaf.specs.Leaf.{leaf_ok}
use Rattle.tree_layout.specs.declared.Region.{Region as RegionNumber}
use Rattle.tree.specs.Shape.{End, end_at, child_fits, siblings, subtree, shaped}
use Rattle.tree.specs.Arrays.{Laid, fields_of}
use Rattle.tree_layout.specs.declared.Fields.{Fields}
use Rattle.tree.proofs.Fielding.{laid-length, laid-header, laid-inside, laid_region, laid-children, laid_end}
use Rattle.tree.proofs.Descending.{fits-yards, no_levels, no_number, inner-end, leaf_bad, leaf_good, last_left, last_none, next_bad, next-none}
use Rattle.tree.proofs.Descending.{next_good}

-- the fields of region i, each
module _ (b : List ℕ) (i : ℕ) (f : Fields) (e : f ≡ fields_of b i) where
  pub at-is : f.at ≡ place_of b i
  unfolding fields_of
  at-is = ap (λ (x : Fields). x.at) e

  pub first-is : (region_at (decode b).regions i).first ≡ f.first.number
  unfolding fields_of
  first-is = sym (ap (λ (x : Fields). x.first.number) e)

  pub after_is : (region_at (decode b).regions i).after ≡ f.after
  unfolding fields_of
  after_is = sym (ap (λ (x : Fields). x.after) e)

  pub children-is : (region_at (decode b).regions i).children ≡ f.children
  unfolding fields_of
  children-is = sym (ap (λ (x : Fields). x.children) e)

  pub yards-is : (region_at (decode b).regions i).yards ≡ f.yards
  unfolding fields_of
  yards-is = sym (ap (λ (x : Fields). x.yards) e)

  pub kinds-is : (region_at (decode b).regions i).kinds ≡ f.kinds
  unfolding fields_of
  kinds-is = sym (ap (λ (x : Fields). x.kinds) e)

module _ (b places : List ℕ) (laid : Laid b places) where
  abbrev rs : List Region
  rs = (decode b).regions

  -- ---- a region, with l levels left

  module _ (l i : ℕ) where
    pub none_left : l ≡ 0 → None ≡ subtree rs l i
    none_left e = rw e (sym (no_levels rs i))

    pub past_end : length places ≤ i → None ≡ subtree rs l i
    past_end h = sym (no_number rs l i (omega (arith, laid-length b places laid)))

    module _ (some : l ≡ 0 → ⊥) (h : i < length places) (f : Fields) (e : f ≡ fields_of b i) where
      level : l ≡ suc (l - 1)
      level = omega (arith, some)

      inside : i < length rs
      inside = omega (arith, laid-length b places laid)

      pub at_inner : (f.children ≡ 0 → ⊥)
          → siblings rs (subtree rs (l - 1)) f.children (i + 1) f.first.number f.after f.yards ≡ subtree rs l i
      at_inner c =
          sym (inner-end rs l (l - 1) i level inside f.first.number f.after f.children f.yards (first-is b i f e) (after_is b i f e) (children-is b i
          f e) (yards-is b i f e) c
          ∙ rw add-one refl)

      -- what the test of a leaf asks
      pub at_leaf : f.children ≡ 0 → (12 ≤ length b) × ((fields_at b f.at).children ≡ 0)
          × (f.at + size_at b (landmark_count b) f.at ≤ length b) × ((fields_at b f.at).after ≤ 1024)
      at_leaf c = rw (at-is b i f e) (
        laid-header b places laid,
        sym (laid-children b places laid i h) ∙ (children-is b i f e
            ∙ c),
        laid-inside b places laid i h,
        laid_end b places laid i h,
      )

      region_is : region_at rs i ≡ read_region b (landmark_count b) f.at
      region_is = laid_region b places laid i h ∙ ap (λ (p : ℕ). read_region b (landmark_count b) p) (sym (at-is b i f e))

      pub at_bad : f.children ≡ 0 → leaf_ok (read_region b (landmark_count b) f.at) ≡ false → None ≡ subtree rs l i
      at_bad c t = sym (leaf_bad rs l (l - 1) i level inside (children-is b i f e ∙ c) (ap leaf_ok region_is ∙ t))

      pub at_good : f.children ≡ 0 → leaf_ok (read_region b (landmark_count b) f.at) ≡ true → end_at (i + 1) ≡ subtree rs l i
      at_good c t = rw add-one (sym (leaf_good rs l (l - 1) i level inside (children-is b i f e ∙ c) (ap leaf_ok region_is ∙ t)))

  -- ---- n siblings, the first of number i

  module _ (l n i low high left : ℕ) where
    abbrev answer : End
    answer = siblings rs (subtree rs l) n i low high left

    pub sum_over : n ≡ 0 → (left ≡ 0 → ⊥) → None ≡ answer
    sum_over e h = sym (last_left rs (subtree rs l) n i low high left e h)

    pub sum_done : n ≡ 0 → left ≡ 0 → end_at i ≡ answer
    sum_done e h = sym (last_none rs (subtree rs l) n i low high left e h)

    module _ (some : n ≡ 0 → ⊥) where
      rest : n ≡ suc (n - 1)
      rest = omega (arith, some)

      pub none-there : length places ≤ i → None ≡ answer
      none-there h = sym (next-none rs (subtree rs l) n i low high left (n - 1) rest (no_number rs l i (omega (arith, laid-length b places laid))))

      pub sub-none : None ≡ subtree rs l i → None ≡ answer
      sub-none e = sym (next-none rs (subtree rs l) n i low high left (n - 1) rest (sym e))

      module _ (f : Fields) (e : f ≡ fields_of b i) where
        fits-is : child_fits low high left f.first.number f.after f.yards
            ≡ child_fits low high left (region_at rs i).first (region_at rs i).after (region_at rs i).yards
        fits-is = rw (first-is b i f e, after_is b i f e, yards-is b i f e) refl

        pub not_fitting : child_fits low high left f.first.number f.after f.yards ≡ false → None ≡ answer
        not_fitting t = sym (next_bad rs (subtree rs l) n i low high left (n - 1) rest (sym fits-is ∙ t))

        pub fitting : child_fits low high left f.first.number f.after f.yards ≡ true → f.yards ≤ left
        fitting t = fits-yards low high left f.first.number f.after f.yards t

        pub goes_on : child_fits low high left f.first.number f.after f.yards ≡ true → (m : RegionNumber) → Some m ≡ subtree rs l i
            → siblings rs (subtree rs l) (n - 1) m.number f.after high (left - f.yards) ≡ answer
        goes_on t m w =
            rw (← after_is b i f e, ← yards-is b i f e) (sym (next_good rs (subtree rs l) n i low high left (n - 1) rest (sym fits-is ∙ t) m.number (sym w)))

  -- ---- test 7

  pub not-one : None ≡ subtree rs 8 0 → false ≡ shaped (decode b)
  unfolding shaped
  not-one e = rw (← e) refl

  module _ (m : RegionNumber) (came : Some m ≡ subtree rs 8 0) where
    pub not-all : (m.number ≡ length places → ⊥) → false ≡ shaped (decode b)
    unfolding shaped
    not-all h = rw (← came) (simp (ne_eqb _ _ (λ e. h (e ∙ laid-length b places laid))))

    pub takes_all : m.number ≡ length places → (f : Fields) → f ≡ fields_of b 0 → (y : ℕ) → y ≡ tree_yard_count b → eqb f.yards y ≡ shaped (decode b)
    unfolding shaped
    takes_all h f e y q =
        let w : (decode b).yards ≡ y = decode-yards b ∙ sym q in
        let v : m.number ≡ length rs = h ∙ sym (laid-length b places laid) in
        rw (← came, ← yards-is b 0 f e, ← w) (simp (eq-eqb _ _ v))
