-- The test of a landmark and of a region, from the fields that the reader finds. Assumes nothing.
use mathlib.Core.Path.{◌≡◌, refl, sym, ap, ◌∙◌}
use mathlib.Core.Bool.{Bool, true, false, ◌&&◌}
use mathlib.Core.List.{List}
use Prim.Native.Nat.{ℕ, ◌+◌, ◌≤◌, ◌<◌}
use native.Mathlib.Decide.{ℕ_discrete}
use native.Mathlib.Omega.{arith}
use lib.ListN.{length, get_or}
use lib.Dec.{leb, ltb, eqb, leb→le}
use Rattle.book.specs.Choose.{choose}
use Rattle.book.specs.Bytes.{u8_at, u16_at, u32_at}
use Rattle.book.specs.Open.{version}
use Rattle.book.proofs.Choosing.{choose_yes, choose_no, and_left, and_right, true_T}
use Rattle.book.proofs.Lists.{eq→eqb, ne→neqb}
use Rattle.kinds.specs.Kinds.{kind_at}
use Rattle.tree_layout.specs.Values.{Mark, Region, leaf_mark, inner_mark, no_mark}
use Rattle.tree_layout.specs.Sizes.{leaf_mark_size}
use Rattle.tree_layout.specs.Decode.{read_list, list_part, read_region, mark_size, size_at}
use Rattle.tree_layout.specs.Refusal.{all, list_ok, mark_ok, children_ok, region_ok}
use Rattle.tree_layout.specs.Reading.{bounded}
use Rattle.tree_layout.specs.code.Accessors.{fields_at, fields_ok}
use Rattle.tree_layout.specs.code.Marks.{mark_place, mark_at}
use Rattle.tree_layout.specs.declared.Fields.{Fields}
use Rattle.tree_layout.proofs.EachPart.{mark-inside}
use Rattle.tree_layout.proofs.MarkFields.{leaf-pairs, inner-least, inner-greatest}
use Rattle.tree_layout.proofs.MarkPlaces.{list_mark, span_mark, leaf_mark_at, inner_mark_at}
use Rattle.tree_layout.proofs.Places.{mark_size-leaf, mark_size-inner}
use Rattle.tree_layout.proofs.Sizes.{leaf_mark_are}
use Rattle.tree_layout.proofs.Reading.{region_first, region_after, region_children, region_yards, region_kinds}

-- ---- a landmark

and_assoc : (a b c : Bool) → (a && (b && c)) ≡ ((a && b) && c)
and_assoc true b c = refl
and_assoc false b c = refl

module _ (r : Region) (k : Mark) (place : ℕ) (e : place ≡ k.place) where
  split : mark_ok r k ≡ ((leb r.first place && ltb place r.after) && choose (eqb r.children 0) (list_ok k.list) (leb k.least k.greatest))
  unfolding mark_ok
  split = rw e (and_assoc (leb r.first k.place) (ltb k.place r.after) _)

  -- outside the range
  pub mark-outside : (leb r.first place && ltb place r.after) ≡ false → mark_ok r k ≡ false
  mark-outside h = split ∙ simp h

  -- in the range: the list, or least and greatest, decide
  pub mark-within : (leb r.first place && ltb place r.after) ≡ true → mark_ok r k ≡ choose (eqb r.children 0) (list_ok k.list) (leb k.least k.greatest)
  mark-within h = split ∙ simp h

-- the landmark at a place, of a region with so many children and yards
module _ (b : List ℕ) (children yards at : ℕ) where
  pub leaf-at : children ≡ 0 → mark_at b children yards at ≡ list_mark b yards at
  unfolding mark_at
  leaf-at z = choose_yes (eqb children 0) _ _ (eq→eqb children 0 z)

  pub inner-at : (children ≡ 0 → ⊥) → mark_at b children yards at ≡ span_mark b at
  unfolding mark_at
  inner-at z = choose_no (eqb children 0) _ _ (ne→neqb children 0 z)

  pub place-at : (mark_at b children yards at).place ≡ u16_at b at
  unfolding mark_at leaf_mark inner_mark
  place-at = go (eqb children 0)
    where
      go : (t : Bool) → (choose t (list_mark b yards at) (span_mark b at)).place ≡ u16_at b at
      go true = ap (λ (m : Mark). m.place) (choose_yes true (list_mark b yards at) (span_mark b at) tt)
      go false = ap (λ (m : Mark). m.place) (choose_no false (list_mark b yards at) (span_mark b at) tt)

-- its bytes
module _ (v children yards : ℕ) where
  pub leaf-size : children ≡ 0 → mark_size v children yards ≡ leaf_mark_size v yards
  leaf-size z = mark_size-leaf v children yards z

  pub inner-size : (children ≡ 0 → ⊥) → mark_size v children yards ≡ 10
  inner-size z = mark_size-inner v children yards (omega arith)

  -- at least its junction's
  pub least-size : 2 ≤ mark_size v children yards
  least-size = go (ℕ_discrete children 0)
    where
      go : Dec (children ≡ 0) → 2 ≤ mark_size v children yards
      go (yes z) = omega (arith, leaf-size z, leaf_mark_are v yards)
      go (no z) = omega (arith, inner-size z)

-- the test of the landmark at a place, in the range of its region
module _ (b : List ℕ) (f : Fields) (at place : ℕ) (e : place ≡ u16_at b at) where
  abbrev r : Region
  r = bounded f.first.number f.after f.children

  abbrev k : Mark
  k = mark_at b f.children f.yards at

  own : place ≡ k.place
  own = e ∙ sym (place-at b f.children f.yards at)

  pub test-outside : (leb f.first.number place && ltb place f.after) ≡ false → mark_ok r k ≡ false
  test-outside h = mark-outside r k place own h

  module _ (h : (leb f.first.number place && ltb place f.after) ≡ true) where
    pub test-list : f.children ≡ 0 → (v : ℕ) (p : List ℕ) → v ≡ version b → p ≡ list_part (version b) b f.yards (at + 2)
        → (ok : Bool) → ok ≡ list_ok (read_list v p f.yards 0) → ok ≡ mark_ok r k
    test-list z v p ev ep ok g =
        let s : k.list ≡ read_list v p f.yards 0 = rw (leaf-at b f.children f.yards at z, ev, ep) (leaf-pairs _ _) in
        g ∙ ap list_ok (sym s) ∙ sym (mark-within r k place own h ∙ choose_yes (eqb f.children 0) _ _ (eq→eqb f.children 0 z))

    pub test-span : (f.children ≡ 0 → ⊥) → (least greatest : ℕ) → least ≡ u32_at b (at + 2) → greatest ≡ u32_at b (at + 6)
        → leb least greatest ≡ mark_ok r k
    test-span z least greatest l g =
        let s : k.least ≡ least = rw (inner-at b f.children f.yards at z, l) (inner-least _ _ _) in
        let t : k.greatest ≡ greatest = rw (inner-at b f.children f.yards at z, g) (inner-greatest _ _ _) in
        rw (← s, ← t) (sym (mark-within r k place own h ∙ choose_no (eqb f.children 0) _ _ (ne→neqb f.children 0 z)))

-- ---- a region, by the fields of its record

and_apart : (a b c d e g : Bool) → (a && (b && (c && (d && (e && g))))) ≡ ((a && (b && (c && (d && e)))) && g)
and_apart true true true true e g = refl
and_apart true true true false e g = refl
and_apart true true false d e g = refl
and_apart true false c d e g = refl
and_apart false b c d e g = refl

module _ (b : List ℕ) (m at j : ℕ) (f : Fields) (e : f ≡ fields_at b at) where
  parts : region_ok j (read_region b m at) ≡ (fields_ok j f && all (mark_ok (read_region b m at)) (read_region b m at).marks)
  unfolding region_ok
  parts =
      rw (e, region_first b m at, region_after b m at, region_children b m at, region_yards b m at, region_kinds b m at)
      (and_apart (ltb (u16_at b at) (u16_at b (at + 2))) (leb (u16_at b (at + 2)) j) (children_ok (u8_at b (at + 4))) (leb 1 (u16_at b (at + 5))) (leb 1 (kind_at (version b) b (at + 7))) _)

  -- the fields are out of their ranges
  pub region-out : fields_ok j f ≡ false → region_ok j (read_region b m at) ≡ false
  region-out h = parts ∙ simp h

  -- they are in them: the landmarks decide
  pub region-in : fields_ok j f ≡ true → region_ok j (read_region b m at) ≡ all (mark_ok (read_region b m at)) (read_region b m at).marks
  region-in h = parts ∙ simp h

  -- and a region of these fields has some yards
  pub some-yards : fields_ok j f ≡ true → 1 ≤ f.yards
  some-yards h = leb→le 1 f.yards (and_left (leb 1 f.yards) _ (and_right (children_ok f.children) _ (and_right (leb f.after j) _ (and_right (ltb f.first.number f.after) _ (true_T h)))))

  module _ (i : ℕ) (h : i < m) where
    -- landmark i is the one that stands at its place, and lies in the book
    mark-number : get_or (read_region b m at).marks i no_mark ≡ mark_at b f.children f.yards (mark_place b at i)
    unfolding mark_place
    mark-number = go (ℕ_discrete (u8_at b (at + 4)) 0)
      where
        go : Dec (u8_at b (at + 4) ≡ 0)
            → get_or (read_region b m at).marks i no_mark ≡ mark_at b f.children f.yards (mark_place b at i)
        go (yes z) = rw e (leaf_mark_at b m at i (mark_place b at i) no_mark h refl z ∙ sym (leaf-at b (u8_at b (at + 4)) (u16_at b (at + 5)) (mark_place b at i) z))
        go (no z) = rw e (inner_mark_at b m at i (mark_place b at i) no_mark h refl (omega arith) ∙ sym (inner-at b (u8_at b (at + 4)) (u16_at b (at + 5)) (mark_place b at i) z))

    pub mark-room : at + size_at b m at ≤ length b → mark_place b at i + mark_size (version b) f.children f.yards ≤ length b
    unfolding mark_place
    mark-room s = rw e (mark-inside b at m s i h (mark_size (version b) (u8_at b (at + 4)) (u16_at b (at + 5))) refl)

    -- its test is the region's
    pub mark-told : (r : Bool) → r ≡ mark_ok (bounded f.first.number f.after f.children) (mark_at b f.children f.yards (mark_place b at i))
        → r ≡ mark_ok (read_region b m at) (get_or (read_region b m at).marks i no_mark)
    unfolding mark_ok
    mark-told r g =
        g ∙ rw (mark-number, e, region_first b m at, region_after b m at, region_children b m at) refl
