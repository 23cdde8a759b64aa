-- What the scan of a junction's arcs, of a range's junctions, and a landmark answer. Assumes nothing.
use mathlib.Core.Path.{◌≡◌, refl, sym, ap, ◌∙◌}
use mathlib.Core.Bool.{Bool, true, false, ◌&&◌, ◌||◌}
use mathlib.Core.List.{List, [], ◌∷◌, ◌++◌, append-nil}
use Prim.Native.Nat.{ℕ, suc, ◌+◌, ◌-◌, ◌*◌, ◌/◌, ◌≤◌, ◌<◌}
use native.Mathlib.Numerals.{add-one}
use native.Mathlib.Omega.{arith}
use lib.ListN.{length, take, get_or, set, length-set}
use lib.Seq.{take-suc-set, append_snoc}
use lib.Dec.{eqb}
use Rattle.road_layout.specs.Road.{Road, roads}
use Rattle.adjacency.specs.Arcs.{arcs, net}
use Rattle.adjacency.specs.Adjacency.{head_at, next_at, to_at, Adjacency}
use Rattle.adjacency.proofs.Chains.{any_from, roads-none, roads-next, ChainAt, ChainStep, chain_begin}
use Rattle.adjacency.proofs.Netting.{net-is}
use Rattle.build_rules.specs.Cut.{outside, is_border, borders_from, borders, landmark}
use Rattle.build_rules.proofs.Landmarks.{border_none, border_next, borders-none, borders_yes, borders_no, borders_are, landmark-none, landmark-some}
use Rattle.build_rules.proofs.Landmarks.{outside_low}
use Rattle.build_rules.proofs.Landmarks.{outside_high, outside_no}

-- ---- a junction

or_swap : (x y z : Bool) → (x || (y || z)) ≡ ((y || x) || z)
or_swap true true z = refl
or_swap true false z = refl
or_swap false true z = refl
or_swap false false z = refl

roads_border : (rs : List Road) (a s v : ℕ) → any_from (outside a s) v (arcs rs) ≡ is_border rs a s v
roads_border [] a s v = roads-none (outside a s) v ∙ sym (border_none a s v)
roads_border (r ∷ rs) a s v =
    roads-next (outside a s) v r rs ∙ (ap (λ (x : Bool). (eqb r.high v && outside a s r.low) || ((eqb r.low v && outside a s r.high) || x))
    (roads_border rs a s v)
    ∙ (or_swap (eqb r.high v && outside a s r.low) (eqb r.low v && outside a s r.high) (is_border rs a s v) ∙ sym (border_next r rs a s v)))

-- what the arcs of v lead to says whether v is a border junction
border_is : (b : List ℕ) (a s v : ℕ) → any_from (outside a s) v (net b) ≡ is_border (roads b) a s v
border_is b a s v = rw (net-is b) (roads_border (roads b) a s v)

-- what the scan of a junction's chain of arcs answers, arc by arc
pub border_begin : (road adj : List ℕ) (a s v x : ℕ) → Adjacency road adj → v < 1024 → x ≡ head_at adj v → ChainAt (outside a s) v adj (is_border (roads road) a
    s v) x
border_begin road adj a s v x k h e = rw (e, ← border_is road a s v) (chain_begin (outside a s) road adj v k h)

pub border_low : (a s u w : ℕ) → u ≡ w → u < a → outside a s w ≡ true
border_low a s u w e h = rw (← e) (outside_low a s u h)

pub border_high : (a s u w : ℕ) → u ≡ w → a + s ≤ u → outside a s w ≡ true
border_high a s u w e h = rw (← e) (outside_high a s u h)

pub border_on : (adj : List ℕ) (a s v x u next : ℕ) (whole : Bool) → ChainStep (outside a s) v adj whole x → u ≡ to_at adj x → a ≤ u → u < a + s → next ≡ next_at
    adj x
    → ChainAt (outside a s) v adj whole next
border_on adj a s v x u next whole k e low high f = rw f (k.on (rw (← e) (outside_no a s u low high)))

-- ---- a range

-- the border junctions so far, and the junctions that are left
pub record Bordering (roads-of : List Road) (a s : ℕ) (list : List ℕ) (n v : ℕ) : Type 0 where
  pub low : a ≤ v
  pub high : v ≤ a + s
  pub few : n + a ≤ v
  pub room : s ≤ length list
  pub same : take n list ++ borders_from roads-of a s (a + s - v) v ≡ borders roads-of a s

module _ (rs : List Road) (a s : ℕ) where
  pub bordering_start : (list : List ℕ) → s ≤ length list → Bordering rs a s list 0 a
  bordering_start list h =
      let e : a + s - a ≡ s = omega arith in
      record { low = omega arith; high = omega arith; few = omega arith; room = h; same = rw e (sym (borders_are rs a s)) }

  module _ (list : List ℕ) (n v : ℕ) (fits : a + s ≤ 1024) (x : Bordering rs a s list n v) (h : v < a + s) where
    left : a + s - v ≡ suc (a + s - (v + 1))
    left = omega arith

    pub bordering_yes : (next : List ℕ) (m : ℕ) → is_border rs a s v ≡ true → next ≡ set list n v → m ≡ n + 1 → Bordering rs a s next m (v + 1)
    bordering_yes next m t e f =
        let e1 : borders_from rs a s (a + s - v) v ≡ v ∷ borders_from rs a s (a + s - (v + 1)) (v + 1) = rw left (borders_yes rs a s (a + s - (v + 1)) v t ∙ rw
        (add-one v) refl) in
        rw (e, f) (record {
          low = omega (arith, x.low);
          high = omega arith;
          few = omega (arith, x.few);
          room = omega (arith, length-set list n v, x.room);
          same = rw (
            add-one n,
            take-suc-set list n v (omega (arith, x.few, x.room)),
            append_snoc (take n list) v (borders_from rs a s (a + s - (v + 1))
                (v + 1)),
            ← e1,
          ) x.same;
        })

    pub bordering_no : (next : List ℕ) (m : ℕ) → is_border rs a s v ≡ false → next ≡ list → m ≡ n → Bordering rs a s next m (v + 1)
    bordering_no next m t e f =
        let e1 : borders_from rs a s (a + s - v) v ≡ borders_from rs a s (a + s - (v + 1)) (v + 1) = rw left (borders_no rs a s (a + s - (v + 1)) v t ∙ rw
        (add-one v) refl) in
        rw (e, f) (record { low = omega (arith, x.low); high = omega arith; few = omega (arith, x.few); room = x.room; same = rw (← e1) x.same })

  pub bordering_end : (list : List ℕ) (n v : ℕ) → a + s ≤ 1024 → Bordering rs a s list n v → a + s ≤ v → take n list ≡ borders rs a s
  bordering_end list n v fits x h =
      let z : a + s - v ≡ 0 = omega arith in
      rw (z, borders-none rs a s v, append-nil (take n list)) at x.same

-- ---- a landmark

pub landmark-from : (list : List ℕ) (m a s j r : ℕ) → length list ≡ 0 → r ≡ a + j * s / m → r ≡ landmark m a s list j
landmark-from list m a s j r z e = e ∙ sym (landmark-none m a s list j z)

pub landmark-at : (list : List ℕ) (m a s j r : ℕ) → (length list ≡ 0 → ⊥) → r ≡ get_or list (j * length list / m) 0 → r ≡ landmark m a s list j
landmark-at list m a s j r z e = e ∙ sym (landmark-some m a s list j (omega (arith, z)))
