-- The parts of a range and their yards. Assumes nothing.
use mathlib.Core.Path.{◌≡◌, refl, ap, ◌∙◌}
use mathlib.Core.List.Memᴰ.{head}
use mathlib.Core.List.Memᴰ.{tail}
use mathlib.Core.List.{List, [], ◌∷◌, ◌++◌, Memᴰ as Mem}
use Prim.Native.Nat.{ℕ, zero, suc, ◌+◌, ◌-◌, ◌*◌, ◌/◌, ◌≤◌, ◌<◌}
use native.Mathlib.Nat.{suc-mul}
use native.Mathlib.Decide.{dec_lt}
use native.Mathlib.Omega.{arith}
use lib.ListN.{length, get_or}
use lib.Dec.{eqb}
use Rattle.book.specs.Lists.{Distinct}
use Rattle.book.proofs.Choosing.{choose_case, choose_yes, choose_no}
use Rattle.book.proofs.Lists.{eq→eqb, ne→neqb, get_d_mem, mem_get_d}
use Rattle.tree_layout.specs.Values.{Region}
use Rattle.check_rules.specs.Truth.{within}
use Rattle.check_rules.proofs.Within.{within_yes, within_no, within_empty, within-mem}
use Rattle.build_rules.specs.Cut.{cut_at, cut_part, part_count, part_regions}
use Rattle.build_rules.proofs.Ordered.{Ordered}

-- ---- rising lists

-- each member is below those after it
abbrev pub Rising : List ℕ → Type 0
Rising ys = Ordered (λ x y. x < y) ys

-- the same by places
pub rising-places : (ys : List ℕ) → ((i j : ℕ) → i < j → j < length ys → get_or ys i 0 < get_or ys j 0) → Rising ys
rising-places [] f = tt
rising-places (y ∷ ys) f = (
  (λ z k. let x = mem_get_d ys 0 z k in
      rw x.2 (f 0 (suc x.0) (omega arith) (omega (arith, x.1)))),
  rising-places ys (λ i j h k. f (suc i) (suc j) (omega arith) (omega arith)),
)

pub places-rising : (ys : List ℕ) → Rising ys → (i j : ℕ) → i < j → j < length ys → get_or ys i 0 < get_or ys j 0
places-rising [] r i j h k = absurd (omega arith)
places-rising (y ∷ ys) r i zero h k = absurd (omega arith)
places-rising (y ∷ ys) r zero (suc j) h k = r.0 (get_or ys j 0) (get_d_mem ys j 0 (omega arith))
places-rising (y ∷ ys) r (suc i) (suc j) h k = places-rising ys r.1 i j (omega arith) (omega arith)

pub rising-distinct : (ys : List ℕ) → Rising ys → Distinct ys
rising-distinct [] r = tt
rising-distinct (y ∷ ys) r = ((λ k. omega (arith, r.0 y k)), rising-distinct ys r.1)

pub within-rising : (low high : ℕ) (ys : List ℕ) → Rising ys → Rising (within low high ys)
within-rising low high [] r = rw (within_empty low high) tt
within-rising low high (y ∷ ys) r = go (dec_lt y low) (dec_lt y high) (within-rising low high ys r.1)
  where
    go : Dec (y < low) → Dec (y < high) → Rising (within low high ys) → Rising (within low high (y ∷ ys))
    go (yes p) q s = rw (within_no low high y ys (λ x z. omega arith)) s
    go (no p) (yes q) s = rw (within_yes low high y ys (omega arith) q) ((λ z k. r.0 z (within-mem low high ys z k).0), s)
    go (no p) (no q) s = rw (within_no low high y ys (λ x z. omega arith)) s

pub within_none : (low high : ℕ) (ys : List ℕ) → ((y : ℕ) → Mem y ys → low ≤ y → y < high → ⊥) → within low high ys ≡ []
within_none low high [] h = within_empty low high
within_none low high (y ∷ ys) h = within_no low high y ys (h y (head refl)) ∙ within_none low high ys (λ z k. h z (tail k))

pub within_all : (low high : ℕ) (ys : List ℕ) → ((y : ℕ) → Mem y ys → (low ≤ y) × (y < high)) → within low high ys ≡ ys
within_all low high [] h = within_empty low high
within_all low high (y ∷ ys) h = within_yes low high y ys (h y (head refl)).0 (h y (head refl)).1
    ∙ ap (λ (l : List ℕ). y ∷ l) (within_all low high ys (λ z k. h z (tail k)))

-- the yards of a range are those of its lower part, then those of its upper part
pub within_split : (low mid high : ℕ) → low ≤ mid → mid ≤ high → (ys : List ℕ) → Rising ys → within low high ys ≡ within low mid ys ++ within mid high ys
within_split low mid high h k [] r = rw (within_empty low high, within_empty low mid, within_empty mid high) refl
within_split low mid high h k (y ∷ ys) r = go (dec_lt y low) (dec_lt y mid) (dec_lt y high) (within_split low mid high h k ys r.1)
  where
    go : Dec (y < low) → Dec (y < mid) → Dec (y < high) → within low high ys ≡ within low mid ys ++ within mid high ys
        → within low high (y ∷ ys) ≡ within low mid (y ∷ ys) ++ within mid high (y ∷ ys)
    go (yes a) b c e = rw (
      within_no low high y ys (λ x z. omega arith),
      within_no low mid y ys (λ x z. omega arith),
      within_no mid high y ys (λ x z. omega
          arith),
    ) e
    go (no a) (yes b) c e = rw (
      within_yes low high y ys (omega arith) (omega arith),
      within_yes low mid y ys (omega arith) b,
      within_no mid high y ys (λ x z.
          omega arith),
    ) (ap (λ (l : List ℕ). y ∷ l) e)
    go (no a) (no b) (yes c) e =
        let n = within_none low mid ys (λ z i x w. omega (arith, r.0 z i)) in
        rw (within_yes low high y ys (omega arith) c, within_no low mid y ys (λ x z. omega arith), within_yes mid high y ys (omega arith) c, n) (ap (λ (l :
        List ℕ). y ∷ l) (rw n at e))
    go (no a) (no b) (no c) e = rw (
      within_no low high y ys (λ x z. omega arith),
      within_no low mid y ys (λ x z. omega arith),
      within_no mid high y ys (λ x z.
          omega arith),
    ) e

-- a range of one junction has one yard at most
pub few : (a s : ℕ) (ys : List ℕ) → Rising ys → ((y : ℕ) → Mem y ys → (a ≤ y) × (y < a + s)) → s ≤ 1 → length ys ≤ 1
few a s [] r f h = omega arith
few a s (y ∷ []) r f h = omega arith
few a s (y ∷ z ∷ zs) r f h = absurd (omega (arith, r.0 z (head refl), (f y (head refl)).0, (f z (tail (head refl))).1))

-- ---- cuts

-- how many junctions so many cuts bring to one
unfoldable pub fours : ℕ → ℕ
fours zero = 1
fours (suc k) = 4 * fours k

pub cut-is : (a s i : ℕ) → cut_at a s i ≡ a + i * s / 4
unfolding cut_at
cut-is a s i = refl

pub cut-first : (a s : ℕ) → cut_at a s 0 ≡ a
unfolding cut_at
cut-first a s = omega arith

pub cut_last : (a s j : ℕ) → j ≡ 4 → cut_at a s j ≡ a + s
unfolding cut_at
cut_last a s j e = rw e (omega arith)

pub cut-rise : (a s j : ℕ) → cut_at a s j ≤ cut_at a s (suc j)
unfolding cut_at
cut-rise a s j = rw (suc-mul j s) (omega arith)

-- a part has at most a fourth of the junctions, rounded up
pub cut_small : (a s j c : ℕ) → s ≤ 4 * c → cut_at a s (suc j) - cut_at a s j ≤ c
unfolding cut_at
cut_small a s j c h = rw (suc-mul j s) (omega arith)

pub cut-top : (a s j n : ℕ) → n + j ≡ 4 → cut_at a s j ≤ a + s
cut-top a s j zero e = omega (arith, cut_last a s j (omega arith))
cut-top a s j (suc n) e = omega (arith, cut-rise a s j, cut-top a s (suc j) n (omega arith))

pub parts-count : (a s : ℕ) (ys : List ℕ) (n j : ℕ) → part_count a s ys n j ≤ n
unfolding part_count
parts-count a s ys zero j = omega arith
parts-count a s ys (suc n) j = choose_case (λ (x : ℕ). x ≤ suc n) (eqb (length (cut_part a s ys j)) 0) (λ t. omega (arith, parts-count a s ys n (suc j))) (λ t.
    omega (arith, parts-count a s ys n (suc j)))

-- ---- "Parts without yards are dropped"

pub part-is : (a s : ℕ) (ys : List ℕ) (j : ℕ) → cut_part a s ys j ≡ within (cut_at a s j) (cut_at a s (suc j)) ys
unfolding cut_part
part-is a s ys j = refl

module _ (f : ℕ → ℕ → List ℕ → List Region) (a s : ℕ) (ys : List ℕ) (n j : ℕ) where
  pub count-drop : length (cut_part a s ys j) ≡ 0 → part_count a s ys (suc n) j ≡ part_count a s ys n (suc j)
  unfolding part_count
  count-drop e = choose_yes (eqb (length (cut_part a s ys j)) 0) _ _ (eq→eqb (length (cut_part a s ys j)) 0 e)

  pub count-keep : 0 < length (cut_part a s ys j) → part_count a s ys (suc n) j ≡ suc (part_count a s ys n (suc j))
  unfolding part_count
  count-keep h = choose_no (eqb (length (cut_part a s ys j)) 0) _ _ (ne→neqb (length (cut_part a s ys j)) 0 (omega arith))

  pub regions-drop : length (cut_part a s ys j) ≡ 0 → part_regions f a s ys (suc n) j ≡ part_regions f a s ys n (suc j)
  unfolding part_regions
  regions-drop e = choose_yes (eqb (length (cut_part a s ys j)) 0) _ _ (eq→eqb (length (cut_part a s ys j)) 0 e)

  pub regions-keep : 0 < length (cut_part a s ys j)
      → part_regions f a s ys (suc n) j ≡ f (cut_at a s j) (cut_at a s (suc j) - cut_at a s j) (cut_part a s ys j) ++ part_regions f a s ys n (suc j)
  unfolding part_regions
  regions-keep h = choose_no (eqb (length (cut_part a s ys j)) 0) _ _ (ne→neqb (length (cut_part a s ys j)) 0 (omega arith))

pub count_none : (a s : ℕ) (ys : List ℕ) (j : ℕ) → part_count a s ys 0 j ≡ 0
unfolding part_count
count_none a s ys j = refl

pub regions-none : (f : ℕ → ℕ → List ℕ → List Region) (a s : ℕ) (ys : List ℕ) (j : ℕ) → part_regions f a s ys 0 j ≡ []
unfolding part_regions
regions-none f a s ys j = refl
