-- How a junction's chain is searched for the arc that is taken, arc by arc. Assumes nothing.
use mathlib.Core.Path.{◌≡◌, refl, sym, ap, ◌∙◌}
use mathlib.Core.Logic.{◌⊎◌, inl, inr, ◌≢◌}
use mathlib.Core.Bool.{Bool, not, ◌&&◌}
use mathlib.Core.List.Memᴰ
use mathlib.Core.List.{List, [], ◌∷◌}
use Prim.Native.Nat.{ℕ, suc, ◌+◌, ◌≤◌, ◌<◌}
use native.Mathlib.Decide.{ℕ_discrete}
use native.Mathlib.Omega.{arith}
use lib.ListN.{length, get_or}
use lib.Dec.{T, not_T, eqb, eqb→eq}
use Rattle.book.specs.Choose.{choose}
use Rattle.book.proofs.Choosing.{choose_yes, choose_no, T-split, and_left, and_right, and_both, eq→eqb}
use Rattle.road_layout.specs.Road.{Road, junctions, roads}
use Rattle.road_layout.proofs.Layouts.{passing_layout}
use Rattle.adjacency.specs.Arcs.{Arc, arcs, net}
use Rattle.adjacency.specs.Adjacency.{count_in, head_at, next_at, to_at, cost_at, last_arc, Linked}
use Rattle.adjacency.proofs.Netting.{arc, net-is, arcs-none, arcs-more}
use Rattle.adjacency.proofs.Linking.{last_none, last_own, last_other, last_low, linked-parts, net-length, few-junctions}
use Rattle.road.specs.Walk.{SoundArcs, Fit}
use Rattle.road.specs.Dijkstra.{dist}
use Rattle.road.proofs.Theorems.{net_sound, metric}
use Rattle.search_measure.specs.Way.{comes_by, no_arc, came_by}
use Rattle.search_measure.specs.code.Cases.{Steers}
use Rattle.search_measure.proofs.Theorems.{road-comes}

-- ---- along the arcs that leave v, each turned round

-- an arc the other way
abbrev turned : Arc → Arc
turned a = record { from = a.to; to = a.from; seconds = a.seconds }

-- the first arc of a list that leaves v and that, turned round, the row fits; turned round
unfoldable pub turned_by : (row : ℕ → ℕ) (v : ℕ) → List Arc → Arc
turned_by row v [] = no_arc v
turned_by row v (a ∷ as') = let later = turned_by row v as' in choose (comes_by row v (turned a)) (turned a) later

-- two tests in either order, whose answers are one where both hold
swapped : {A : Type 0} (a b : Bool) (x y z : A) → (T a → T b → x ≡ y) → choose a x (choose b y z) ≡ choose b y (choose a x z)
swapped {A} a b x y z h = go (T-split a) (T-split b)
  where
    go : T a ⊎ T (not a) → T b ⊎ T (not b) → choose a x (choose b y z) ≡ choose b y (choose a x z)
    go (inl s) (inl t) = choose_yes a x (choose b y z) s ∙ h s t ∙ sym (choose_yes b y (choose a x z) t)
    go (inl s) (inr t) = choose_yes a x (choose b y z) s ∙ sym (choose_no b y (choose a x z) t ∙ choose_yes a x z s)
    go (inr s) (inl t) = choose_no a x (choose b y z) s ∙ choose_yes b y z t ∙ sym (choose_yes b y (choose a x z) t)
    go (inr s) (inr t) = choose_no a x (choose b y z) s ∙ choose_no b y z t ∙ sym (choose_no b y (choose a x z) t ∙ choose_no a x z s)

-- Each road has both arcs, so that the arcs into v in the list's order are those that leave it, turned round. This alone
-- asks that roads run both ways.
pub mirrored : (row : ℕ → ℕ) (v : ℕ) (rs : List Road) → turned_by row v (arcs rs) ≡ came_by row v (arcs rs)
unfolding turned_by came_by comes_by
mirrored row v [] = rw arcs-none refl
mirrored row v (r ∷ rs) =
    let there : Arc = arc r.low r.high r.seconds in
    let back : Arc = arc r.high r.low r.seconds in
    rw (arcs-more r rs) (ap (λ (z : Arc). choose (comes_by row v there) there (choose (comes_by row v back) back z)) (mirrored row v rs)
    ∙ swapped (comes_by row v there) (comes_by row v back) there back (came_by row v (arcs rs)) both)
  where
    both : T (comes_by row v (arc r.low r.high r.seconds)) → T (comes_by row v (arc r.high r.low r.seconds))
        → arc r.low r.high r.seconds ≡ arc r.high r.low r.seconds
    both s t =
        let e : r.high ≡ v = eqb→eq r.high v (and_left (eqb r.high v) _ s) in
        let f : r.low ≡ v = eqb→eq r.low v (and_left (eqb r.low v) _ t) in
        let g : r.low ≡ r.high = f ∙ sym e in
        λ i. record { from = g i; to = sym g i; seconds = r.seconds }

-- ---- the newest arc of those that are left

-- arc number a is the newest of the arcs xs that leaves v: what it is, the arcs before it, and what it answers
pub record Turn (n v : ℕ) (row : ℕ → ℕ) (xs : List Arc) (adj : List ℕ) (a : ℕ) : Type 0 where
  pub arc : Arc
  pub rest : List Arc
  pub number : a ≡ suc (length rest)
  pub fit : Fit n arc
  pub to_is : to_at adj a ≡ arc.to
  pub cost_is : cost_at adj a ≡ arc.seconds
  pub next-is : next_at adj a ≡ last_arc v rest
  pub linked : Linked rest adj
  pub sound : SoundArcs n rest
  pub hit : row arc.to + arc.seconds ≡ row v → turned_by row v xs ≡ turned arc
  pub miss : row arc.to + arc.seconds ≢ row v → turned_by row v xs ≡ turned_by row v rest

module _ (n v : ℕ) (row : ℕ → ℕ) (adj : List ℕ) where
  fits : (x : Arc) → x.from ≡ v → row x.to + x.seconds ≡ row v → T (comes_by row v (turned x))
  unfolding comes_by
  fits x e f = and_both (eqb x.from v) _ (eq→eqb x.from v e) (eq→eqb (row x.to + x.seconds) (row v) f)

  fits_not : (x : Arc) → row x.to + x.seconds ≢ row v → T (not (comes_by row v (turned x)))
  unfolding comes_by
  fits_not x f = not_T (eqb x.from v && eqb (row x.to + x.seconds) (row v)) (λ t. f (eqb→eq (row x.to + x.seconds) (row v) (and_right (eqb x.from v) _ t)))

  other-not : (x : Arc) → x.from ≢ v → T (not (comes_by row v (turned x)))
  unfolding comes_by
  other-not x f = not_T (eqb x.from v && eqb (row x.to + x.seconds) (row v)) (λ t. f (eqb→eq x.from v (and_left (eqb x.from v) _ t)))

  turned_yes : (x : Arc) (xs : List Arc) → T (comes_by row v (turned x)) → turned_by row v (x ∷ xs) ≡ turned x
  unfolding turned_by
  turned_yes x xs t = choose_yes (comes_by row v (turned x)) (turned x) (turned_by row v xs) t

  turned_no : (x : Arc) (xs : List Arc) → T (not (comes_by row v (turned x))) → turned_by row v (x ∷ xs) ≡ turned_by row v xs
  unfolding turned_by
  turned_no x xs t = choose_no (comes_by row v (turned x)) (turned x) (turned_by row v xs) t

  turn : (xs : List Arc) (a : ℕ) → Linked xs adj → SoundArcs n xs → a ≡ last_arc v xs → a ≢ 0 → Turn n v row xs adj a
  turn [] a k sound e z = absurd (z (e ∙ last_none v))
  turn (x ∷ xs) a k sound e z = go (ℕ_discrete x.from v) (λ f. turn xs a parts.3 (λ y q. sound y (Memᴰ.tail q)) f z)
    where
      parts : (to_at adj (suc (length xs)) ≡ x.to) × (cost_at adj (suc (length xs)) ≡ x.seconds)
          × (next_at adj (suc (length xs)) ≡ last_arc x.from xs) × Linked xs adj
      parts = linked-parts x xs adj k

      go : Dec (x.from ≡ v) → (a ≡ last_arc v xs → Turn n v row xs adj a) → Turn n v row (x ∷ xs) adj a
      go (yes f) later =
          let i : a ≡ suc (length xs) = e ∙ last_own v x xs f in
          record {
            arc = x;
            rest = xs;
            number = i;
            fit = sound x (Memᴰ.head refl);
            to_is = rw i parts.0;
            cost_is = rw i parts.1;
            next-is = rw (i, ← f) parts.2;
            linked = parts.3;
            sound = λ y q. sound y (Memᴰ.tail q);
            hit = λ h. turned_yes x xs (fits x f h);
            miss = λ h. turned_no x xs (fits_not x h);
          }
      go (no f) later =
          let r = later (e ∙ last_other v x xs f) in
          record {
            arc = r.arc;
            rest = r.rest;
            number = r.number;
            fit = r.fit;
            to_is = r.to_is;
            cost_is = r.cost_is;
            next-is = r.next-is;
            linked = r.linked;
            sound = r.sound;
            hit = λ h. turned_no x xs (other-not x f) ∙ r.hit h;
            miss = λ h. turned_no x xs (other-not x f) ∙ r.miss h;
          }

  -- no arc leaves v
  turned_none : (xs : List Arc) → last_arc v xs ≡ 0 → turned_by row v xs ≡ no_arc v
  unfolding turned_by
  turned_none [] e = refl
  turned_none (x ∷ xs) e = go (ℕ_discrete x.from v) (λ f. turned_none xs f)
    where
      go : Dec (x.from ≡ v) → (last_arc v xs ≡ 0 → turned_by row v xs ≡ no_arc v) → turned_by row v (x ∷ xs) ≡ no_arc v
      go (yes f) later = absurd (omega (arith, sym (last_own v x xs f) ∙ e))
      go (no f) later = turned_no x xs (other-not x f) ∙ later (sym (last_other v x xs f) ∙ e)

-- ---- the chain

-- what is known of an arc of a chain
pub record ArcFacts (road adj : List ℕ) (a : ℕ) : Type 0 where
  pub some : 1 ≤ a
  pub few : a ≤ 8192
  pub inside : to_at adj a < junctions road
  pub small : to_at adj a < 1024
  pub cheap : cost_at adj a ≤ 65535
  pub falls : next_at adj a < a

-- The search along v's chain has come to arc a: some arcs are left, of which it is the newest that leaves v, and they
-- answer what all answer.
pub record Chain (road adj : List ℕ) (crew v a : ℕ) : Type 0 where
  pub rest : List Arc
  pub few : length rest ≤ 8192
  pub newest : a ≡ last_arc v rest
  pub linked : Linked rest adj
  pub sound : SoundArcs (junctions road) rest
  pub same : turned_by (dist road crew) v rest ≡ came_by (dist road crew) v (net road)

module _ {road adj row : List ℕ} {crew : ℕ} (st : Steers road adj row crew) (v : ℕ) (inside : v < count_in adj) where
  below : v < junctions road
  below = omega (arith, st.adjacent.count)

  pub chain_starts : (a : ℕ) → a ≡ head_at adj v → Chain road adj crew v a
  chain_starts a e =
      let l = passing_layout road st.adjacent.layout in
      record {
        rest = net road;
        few = omega (arith, net-length road, l.few-roads);
        newest = e ∙ st.adjacent.newest v (omega (arith, few-junctions st.adjacent));
        linked = st.adjacent.linked;
        sound = net_sound road l;
        same = rw (net-is road) (mirrored (dist road crew) v (roads road));
      }

  -- the row's words are distances, and short
  pub told-short : (w : ℕ) → w < junctions road → get_or row w 0 ≤ 67042305
  told-short w h = omega (arith, st.told w h, (metric road st.roads).bounded crew w st.junction h)

  module _ (apart : v ≢ crew) (a : ℕ) (ch : Chain road adj crew v a) where
    -- it does not end: one of the arcs left is taken
    chain_more : a ≢ 0
    chain_more z =
        let e = turned_none (junctions road) v (dist road crew) adj ch.rest (sym ch.newest ∙ z) in
        let f : 0 ≡ (came_by (dist road crew) v (net road)).seconds = ap (λ (x : Arc). x.seconds) (sym e ∙ ch.same) in
        omega (arith, (road-comes road st.roads crew v st.junction below apart).some)

    chain_turn : Turn (junctions road) v (dist road crew) ch.rest adj a
    chain_turn = turn (junctions road) v (dist road crew) adj ch.rest a ch.linked ch.sound ch.newest chain_more

    pub chain_facts : ArcFacts road adj a
    chain_facts =
        let t = chain_turn in
        record {
          some = omega (arith, t.number);
          few = omega (arith, last_low v ch.rest, ch.newest, ch.few);
          inside = omega (arith, t.to_is, t.fit.to);
          small = omega (arith, t.to_is, t.fit.to, st.adjacent.count, few-junctions st.adjacent);
          cheap = omega (arith, t.cost_is, t.fit.few);
          falls = omega (arith, t.next-is, last_low v t.rest, t.number);
        }

    module _ (w s : ℕ) (ew : w ≡ to_at adj a) (es : s ≡ cost_at adj a) where
      told-to : (t : Turn (junctions road) v (dist road crew) ch.rest adj a) → get_or row w 0 ≡ dist road crew t.arc.to
      told-to t = let e : w ≡ t.arc.to = ew ∙ t.to_is in rw e (st.told t.arc.to t.fit.to)

      -- the arc is taken
      pub chain_hit : get_or row w 0 + s ≡ get_or row v 0
          → (w ≡ (came_by (dist road crew) v (net road)).from) × (s ≡ (came_by (dist road crew) v (net road)).seconds)
      chain_hit e =
          let t = chain_turn in
          let f = sym (t.hit (omega (arith, told-to t, es, t.cost_is, st.told v below))) ∙ ch.same in
          (ew ∙ t.to_is ∙ ap (λ (x : Arc). x.from) f, es ∙ t.cost_is ∙ ap (λ (x : Arc). x.seconds) f)

      -- it is not
      pub chain_miss : get_or row w 0 + s ≢ get_or row v 0 → (on : ℕ) → on ≡ next_at adj a → Chain road adj crew v on
      chain_miss e on eo =
          let t = chain_turn in
          record {
            rest = t.rest;
            few = omega (arith, t.number, last_low v ch.rest, ch.newest, ch.few);
            newest = eo ∙ t.next-is;
            linked = t.linked;
            sound = t.sound;
            same = sym (t.miss (λ f. e (omega (arith, f, told-to t, es, t.cost_is, st.told v below)))) ∙ ch.same;
          }
