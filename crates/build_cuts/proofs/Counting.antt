-- One turn of counting the yards below a junction, and of counting the parts that have yards. Assumes nothing.
use mathlib.Core.Path.{◌≡◌, refl, sym, ap, ◌∙◌}
use mathlib.Core.List.{List, [], ◌∷◌}
use Prim.Native.Nat.{ℕ, suc, ◌+◌, ◌-◌, ◌≤◌, ◌<◌}
use native.Mathlib.Numerals.{add-one}
use native.Mathlib.Omega.{arith}
use lib.ListN.{length, get_or}
use Rattle.yard.specs.Yards.{yard_count, yards_from, yards_of, yard_refusal}
use Rattle.yard.proofs.YardLayout.{yards-at}
use Rattle.yard.proofs.Turns.{yards-none, yards-all}
use Rattle.build_records.proofs.Numbered.{yards-turn}
use Rattle.check_rules.specs.Truth.{within}
use Rattle.build_rules.specs.Cut.{cut_at, cut_part, part_count}
use Rattle.build_rules.specs.code.Facts.{count_below}
use Rattle.build_rules.proofs.Parts.{cut-first, count_none, count-drop, count-keep}
use Rattle.build_rules.proofs.Steps.{count_empty, count_yes, count_no}
use Rattle.build_cuts.proofs.Slices.{part_length}

-- ---- yards below a junction

-- n yards are below x, and the others decide
pub record Below (yb : List ℕ) (x n : ℕ) : Type 0 where
  pub same : n + count_below x (yards_from yb (yard_count yb - n) n) ≡ count_below x (yards_of yb)

pub below_start : (yb : List ℕ) (x : ℕ) → Below yb x 0
below_start yb x =
    let z : yard_count yb - 0 ≡ yard_count yb = omega arith in
    record { same = rw (yards-all yb, z) (omega arith) }

module _ (yb : List ℕ) (x n y : ℕ) (b : Below yb x n) (h : n < yard_count yb) (e : y ≡ get_or (yards_of yb) n 0) where
  next : yards_from yb (yard_count yb - n) n ≡ y ∷ yards_from yb (yard_count yb - (n + 1)) (n + 1)
  next = yards-turn yb (yard_count yb) n y h (e ∙ yards-at yb n h)

  pub below-turn : y < x → Below yb x (n + 1)
  below-turn k =
      record { same = omega (arith, b.same, ap (count_below x) next, count_yes x y (yards_from yb (yard_count yb - (n + 1)) (n + 1)) k) }

  pub below_stop : x ≤ y → n ≡ count_below x (yards_of yb)
  below_stop k = omega (arith, b.same, ap (count_below x) next, count_no x y (yards_from yb (yard_count yb - (n + 1)) (n + 1)) k)

pub below_end : (yb : List ℕ) (x n : ℕ) → Below yb x n → yard_count yb ≤ n → n ≡ count_below x (yards_of yb)
below_end yb x n b h =
    let z : yard_count yb - n ≡ 0 = omega arith in
    let s = rw (z, yards-none yb n) at b.same in
    omega (arith, s, count_empty x)

-- ---- parts that have yards

-- of the first i parts `count` have yards, `low` yards are below part i, and the other parts decide
pub record Parted (yb : List ℕ) (a s count low i : ℕ) : Type 0 where
  pub few : count ≤ i
  pub lower : low ≡ count_below (cut_at a s i) (yards_of yb)
  pub same : count + part_count a s (within a (a + s) (yards_of yb)) (4 - i) i ≡ part_count a s (within a (a + s) (yards_of yb)) 4 0

pub parted_start : (yb : List ℕ) (a s low : ℕ) → low ≡ count_below a (yards_of yb) → Parted yb a s 0 low 0
parted_start yb a s low e = record { few = omega arith; lower = rw (cut-first a s) e; same = omega arith }

module _ (a s : ℕ) (zs : List ℕ) (i : ℕ) (h : i < 4) where
  next-part : part_count a s zs (4 - (i + 1)) (i + 1) ≡ part_count a s zs (3 - i) (suc i)
  next-part = rw (let z : 4 - (i + 1) ≡ 3 - i = omega arith in z, add-one i) refl

  here : part_count a s zs (4 - i) i ≡ part_count a s zs (suc (3 - i)) i
  here = rw (let z : 4 - i ≡ suc (3 - i) = omega arith in z) refl

  without : length (cut_part a s zs i) ≡ 0 → part_count a s zs (4 - i) i ≡ part_count a s zs (4 - (i + 1)) (i + 1)
  without e = here ∙ (count-drop (λ x y z. []) a s zs (3 - i) i e ∙ sym next-part)

  with : 0 < length (cut_part a s zs i) → part_count a s zs (4 - i) i ≡ suc (part_count a s zs (4 - (i + 1)) (i + 1))
  with k = here ∙ (count-keep (λ x y z. []) a s zs (3 - i) i k ∙ ap suc (sym next-part))

module _ (yb : List ℕ) (ok : yard_refusal yb ≡ 0) (a s count low i high : ℕ)
    (p : Parted yb a s count low i) (h : i < 4) (cut : ℕ) (f : cut ≡ cut_at a s (i + 1)) (e : high ≡ count_below cut (yards_of yb)) where
  upper : high ≡ count_below (cut_at a s (suc i)) (yards_of yb)
  upper = e ∙ rw (f, add-one i) refl

  many : length (cut_part a s (within a (a + s) (yards_of yb)) i) ≡ high - low
  many = part_length yb ok a s i h ∙ rw (upper, p.lower) refl

  next-lower : high ≡ count_below (cut_at a s (i + 1)) (yards_of yb)
  next-lower = rw (add-one i) upper

  -- a part with yards is counted
  pub parted_with : low < high → Parted yb a s (count + 1) high (i + 1)
  parted_with k = record {
    few = omega (arith, p.few);
    lower = next-lower;
    same = omega (arith, p.same, with a s (within a (a + s) (yards_of yb)) i h (omega (arith, many)));
  }

  -- and one without is not
  pub parted_without : high ≤ low → Parted yb a s count high (i + 1)
  parted_without k = record {
    few = omega (arith, p.few);
    lower = next-lower;
    same = omega (arith, p.same, without a s (within a (a + s) (yards_of yb)) i h (omega (arith, many)));
  }

pub parted_end : (yb : List ℕ) (a s count low i : ℕ) → Parted yb a s count low i → 4 ≤ i → count ≡ part_count a s (within a (a + s) (yards_of yb)) 4 0
parted_end yb a s count low i p h =
    let z : 4 - i ≡ 0 = omega arith in
    let k = rw (z, count_none a s (within a (a + s) (yards_of yb)) i) at p.same in
    omega (arith, k)
