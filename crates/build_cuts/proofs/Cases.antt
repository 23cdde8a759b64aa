-- The cases of cutting a range of a yard book: a leaf, or a parent and parts; a part without yards, or with some. Assumes nothing.
use mathlib.Core.Path.{◌≡◌, refl, sym, ap, ◌∙◌}
use mathlib.Core.Logic.{◌⊎◌, inl, inr, ◌≢◌}
use mathlib.Core.Bool.{true, false, ◌||◌}
use mathlib.Core.List.{List, [], ◌∷◌, ◌++◌}
use Prim.Native.Nat.{ℕ, zero, suc, ◌+◌, ◌-◌, ◌<◌}
use native.Mathlib.Decide.{ℕ_discrete}
use native.Mathlib.Numerals.{add-one}
use native.Mathlib.Omega.{arith}
use lib.ListN.{length, length-append}
use lib.Dec.{T, eqb, leb, eqb→eq, leb→le, nleb→lt, T_not, not_T}
use Rattle.book.proofs.Choosing.{true_T, false_T}
use Rattle.book.proofs.Lists.{or_left, or_right, or_cases, eq→eqb}
use Rattle.yard.specs.Yards.{yards_of, yard_refusal}
use Rattle.tree_layout.specs.Values.{Region}
use Rattle.check_rules.specs.Truth.{within}
use Rattle.build_rules.specs.Cut.{Given, leaf_region, cut_at, cut_part, part_count, part_regions, cut}
use Rattle.build_rules.proofs.Parts.{Rising, within-rising, within_none, within_split, cut-first, cut_last, cut-rise, cut-top, part-is, count-drop, count-keep}
use Rattle.build_rules.proofs.Parts.{regions-drop, regions-keep, regions-none}
use Rattle.build_rules.proofs.Steps.{within_nested, part-within, cut-none, cut-leaf, cut-one, cut_many}
use Rattle.build_records.specs.Given.{given}
use Rattle.build_cuts.specs.code.Writing.{own_regions}
use Rattle.build_cuts.proofs.Records.{own_none, own_leaf, own_inner}
use Rattle.build_cuts.specs.code.Cutting.{range_regions, parts_from}
use Rattle.build_records.proofs.Fields.{given-limit}
use Rattle.build_cuts.proofs.Slices.{yards-rising}

-- ---- some part of a range with yards has yards

no_parts : (a s : ℕ) (ys : List ℕ) → Rising ys → (n i : ℕ) → n + i ≡ 4 → part_count a s ys n i ≡ 0 → length (within (cut_at a s i) (a + s) ys) ≡ 0
no_parts a s ys r zero i e z = ap length (within_none (cut_at a s i) (a + s) ys (λ y k p q. omega (arith, cut_last a s i (omega arith))))
no_parts a s ys r (suc n) i e z = go (ℕ_discrete (length (cut_part a s ys i)) 0) (λ x. no_parts a s ys r n (suc i) (omega arith) x)
  where
    go : Dec (length (cut_part a s ys i) ≡ 0) → (part_count a s ys n (suc i) ≡ 0 → length (within (cut_at a s (suc i)) (a + s) ys) ≡ 0)
        → length (within (cut_at a s i) (a + s) ys) ≡ 0
    go (yes p) rec =
        let rest = rec (sym (count-drop (λ x y l. []) a s ys n i p) ∙ z) in
        let split = within_split (cut_at a s i) (cut_at a s (suc i)) (a + s) (cut-rise a s i) (cut-top a s (suc i) n (omega arith)) ys r in
        omega (
          arith,
          ap length split,
          length-append (within (cut_at a s i) (cut_at a s (suc i)) ys) (within (cut_at a s (suc i)) (a + s) ys),
          ap length (part-is a s ys i),
          rest,
        )
    go (no p) rec = absurd (omega (arith, count-keep (λ x y l. []) a s ys n i (omega arith)))

module _ (b yb : List ℕ) (m limit a s : ℕ) where
  abbrev ys : List ℕ
  ys = within a (a + s) (yards_of yb)

  abbrev g : Given
  g = given b yb m limit

  pub some-parts : yard_refusal yb ≡ 0 → 0 < length ys → 0 < part_count a s ys 4 0
  some-parts ok h = go (ℕ_discrete (part_count a s ys 4 0) 0)
    where
      rising : Rising ys
      rising = within-rising a (a + s) (yards_of yb) (yards-rising yb ok)

      go : Dec (part_count a s ys 4 0 ≡ 0) → 0 < part_count a s ys 4 0
      go (yes z) =
          let none = no_parts a s ys rising 4 0 refl z in
          let same : within a (a + s) ys ≡ ys = within_nested a (a + s) a (a + s) (yards_of yb) (omega arith) (omega arith) in
          absurd (omega (arith, rw (cut-first a s, same) at none))
      go (no z) = omega arith

  -- ---- a range

  module _ (levels : ℕ) where
    pub regions-leaf : (eqb levels 0 || leb (length ys) limit) ≡ true → range_regions b yb m limit levels a s ≡ own_regions b yb m limit a s 0 ys
    unfolding range_regions
    regions-leaf t = go levels refl (or_cases (eqb levels 0) (leb (length ys) limit) (true_T t)) ∙ sym (own_leaf b yb m limit a s 0 ys refl)
      where
        go : (k : ℕ) → k ≡ levels → T (eqb levels 0) ⊎ T (leb (length ys) limit) → cut g levels a s ys ≡ leaf_region g a s ys ∷ []
        go zero e c = rw (← e) (cut-none g 0 a s ys)
        go (suc k) e (inl c) = absurd (omega (arith, eqb→eq levels 0 c))
        go (suc k) e (inr c) = rw (← e) (cut-leaf g k a s ys (omega (arith, given-limit b yb m limit, leb→le (length ys) limit c)))

    module _ (t : (eqb levels 0 || leb (length ys) limit) ≡ false) where
      pub some_level : levels ≢ 0
      some_level e = T_not (eqb levels 0 || leb (length ys) limit) (false_T t) (or_left (eqb levels 0) (leb (length ys) limit) (eq→eqb levels 0 e))

      pub many_yards : limit < length ys
      many_yards =
          nleb→lt (length ys) limit (not_T (leb (length ys) limit) (λ x. T_not (eqb levels 0 || leb (length ys) limit) (false_T t)
          (or_right (eqb levels 0) (leb (length ys) limit) x)))

      -- the parent, if it stays, then the parts
      pub regions-cut : 0 < part_count a s ys 4 0 → range_regions b yb m limit levels a s ≡ own_regions b yb m limit a s (part_count a s ys 4 0) ys
          ++ parts_from b yb m limit (levels - 1) a s 0
      unfolding range_regions parts_from
      regions-cut some = go (ℕ_discrete (part_count a s ys 4 0) 1)
        where
          q : ℕ
          q = part_count a s ys 4 0

          over : g.limit < length ys
          over = omega (arith, given-limit b yb m limit, many_yards)

          level : levels ≡ suc (levels - 1)
          level = omega (arith, some_level)

          go : Dec (part_count a s ys 4 0 ≡ 1) → cut g levels a s ys ≡ own_regions b yb m limit a s q ys ++ part_regions (cut g (levels - 1)) a s ys 4 0
          go (yes e) =
              ap (λ (k : ℕ). cut g k a s ys) level ∙ cut-one g (levels - 1) a s ys over e
              ∙ ap (λ (l : List Region). l ++ part_regions (cut g (levels - 1)) a s ys 4 0) (sym (own_none b yb m limit a s q ys e))
          go (no e) =
              ap (λ (k : ℕ). cut g k a s ys) level ∙ cut_many g (levels - 1) a s ys over e
              ∙ ap (λ (l : List Region). l ++ part_regions (cut g (levels - 1)) a s ys 4 0) (sym (own_inner b yb m limit a s q ys e some))

    -- ---- its parts, from number i on

    module _ (i : ℕ) where
      pub parts_none : i ≡ 4 → parts_from b yb m limit levels a s i ≡ []
      unfolding parts_from
      parts_none e = rw e (regions-none (cut g levels) a s ys 4)

      module _ (h : i < 4) where
        first : 4 - i ≡ suc (4 - (i + 1))
        first = omega arith

        pub parts-drop : length (cut_part a s ys i) ≡ 0 → parts_from b yb m limit levels a s i ≡ parts_from b yb m limit levels a s (i + 1)
        unfolding parts_from
        parts-drop z = rw first (regions-drop (cut g levels) a s ys (4 - (i + 1)) i z ∙ rw add-one refl)

        pub parts-keep : 0 < length (cut_part a s ys i)
            → parts_from b yb m limit levels a s i ≡ range_regions b yb m limit levels (cut_at a s i)
            (cut_at a s (suc i) - cut_at a s i) ++ parts_from b yb m limit levels a s (i + 1)
        unfolding parts_from range_regions
        parts-keep p =
            let end : cut_at a s i + (cut_at a s (suc i) - cut_at a s i) ≡ cut_at a s (suc i) = omega (arith, cut-rise a s i) in
            rw (first, end, ← part-within a s (yards_of yb) i h) (regions-keep (cut g levels) a s ys (4 - (i + 1)) i p ∙ rw add-one refl)

-- a range's regions, by the yards in it
pub range-cut : (b yb : List ℕ) (m limit levels a s : ℕ)
    → range_regions b yb m limit levels a s ≡ cut (given b yb m limit) levels a s (within a (a + s) (yards_of yb))
unfolding range_regions
range-cut b yb m limit levels a s = refl
