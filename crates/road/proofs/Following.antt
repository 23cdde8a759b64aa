-- How a junction's chain is walked, arc by arc. Assumes nothing.
use mathlib.Core.Path.{◌≡◌, refl, sym, ap, ◌∙◌}
use mathlib.Core.Logic.{◌≢◌}
use mathlib.Core.List.Memᴰ
use mathlib.Core.List.{List, [], ◌∷◌}
use Prim.Native.Nat.{ℕ, suc, ◌+◌, ◌≤◌, ◌<◌}
use native.Mathlib.Decide.{ℕ_discrete}
use native.Mathlib.Omega.{arith}
use lib.ListN.{length}
use lib.Dec.{eqb}
use Rattle.book.proofs.Choosing.{choose_yes, choose_no, eq→eqb}
use Rattle.book.proofs.Tests.{ne→neqb}
use Rattle.tournament.specs.code.Tournament.{queue_words}
use Rattle.road_layout.specs.Road.{junctions}
use Rattle.road_layout.proofs.Layouts.{passing_layout}
use Rattle.adjacency.specs.Arcs.{Arc, net}
use Rattle.adjacency.specs.Adjacency.{head_at, next_at, to_at, cost_at, last_arc, Linked, Adjacency}
use Rattle.adjacency.proofs.Linking.{last_none, last_own, last_other, last_low, linked-parts, net-length}
use Rattle.road.specs.Walk.{SoundArcs, Fit}
use Rattle.road.specs.code.Queue.{Reach, reach, Above, shorten_both, relax_both}
use Rattle.road.proofs.Shortening.{shorten-sizes, shorten-above}
use Rattle.road.proofs.Theorems.{net_sound}

-- arc number a is the newest of the arcs xs that leaves u: what it is, the arcs before it, and what relaxing it leaves to do
pub record Turn (n u d : ℕ) (xs : List Arc) (adj : List ℕ) (a : ℕ) : Type 0 where
  pub arc : Arc
  pub rest : List Arc
  pub number : a ≡ suc (length rest)
  pub fit : Fit n arc
  pub to_is : to_at adj a ≡ arc.to
  pub cost_is : cost_at adj a ≡ arc.seconds
  pub next-is : next_at adj a ≡ last_arc u rest
  pub linked : Linked rest adj
  pub sound : SoundArcs n rest
  pub relaxed : (s : Reach) → relax_both u d xs s ≡ relax_both u d rest (shorten_both s arc.to (d + arc.seconds))

module _ (n u d : ℕ) (adj : List ℕ) where
  pub turn : (xs : List Arc) (a : ℕ) → Linked xs adj → SoundArcs n xs → a ≡ last_arc u xs → a ≢ 0 → Turn n u d xs adj a
  unfolding relax_both
  turn [] a k sound e z = absurd (z (e ∙ last_none u))
  turn (x ∷ xs) a k sound e z = go (ℕ_discrete x.from u) (λ f. turn xs a parts.3 (λ y q. sound y (Memᴰ.tail q)) f z)
    where
      parts : (to_at adj (suc (length xs)) ≡ x.to) × (cost_at adj (suc (length xs)) ≡ x.seconds)
          × (next_at adj (suc (length xs)) ≡ last_arc x.from xs) × Linked xs adj
      parts = linked-parts x xs adj k

      go : Dec (x.from ≡ u) → (a ≡ last_arc u xs → Turn n u d xs adj a) → Turn n u d (x ∷ xs) adj a
      go (yes f) later =
          let i : a ≡ suc (length xs) = e ∙ last_own u x xs f in
          record {
            arc = x;
            rest = xs;
            number = i;
            fit = sound x (Memᴰ.head refl);
            to_is = rw i parts.0;
            cost_is = rw i parts.1;
            next-is = rw (i, ← f) parts.2;
            linked = parts.3;
            sound = λ y q. sound y (Memᴰ.tail q);
            relaxed = λ s. ap (relax_both u d xs) (choose_yes (eqb x.from u) _ s (eq→eqb _ _ f));
          }
      go (no f) later =
          let r = later (e ∙ last_other u x xs f) in
          record {
            arc = r.arc;
            rest = r.rest;
            number = r.number;
            fit = r.fit;
            to_is = r.to_is;
            cost_is = r.cost_is;
            next-is = r.next-is;
            linked = r.linked;
            sound = r.sound;
            relaxed = λ s. ap (relax_both u d xs) (choose_no (eqb x.from u) _ s (ne→neqb _ _ f)) ∙ r.relaxed s;
          }

  -- no arc leaves u: nothing is left to do
  pub ended : (xs : List Arc) (s : Reach) → last_arc u xs ≡ 0 → relax_both u d xs s ≡ s
  unfolding relax_both
  ended [] s e = refl
  ended (x ∷ xs) s e = go (ℕ_discrete x.from u) (λ f. ended xs s f)
    where
      go : Dec (x.from ≡ u) → (last_arc u xs ≡ 0 → relax_both u d xs s ≡ s) → relax_both u d (x ∷ xs) s ≡ s
      go (yes f) later = absurd (omega (arith, sym (last_own u x xs f) ∙ e))
      go (no f) later =
          ap (relax_both u d xs) (choose_no (eqb x.from u) _ s (ne→neqb _ _ f)) ∙ later (sym (last_other u x xs f) ∙ e)

-- what is known of an arc of a chain
pub record ArcFacts (adj : List ℕ) (a : ℕ) : Type 0 where
  pub some : 1 ≤ a
  pub few : a ≤ 8192
  pub inside : to_at adj a < 1024
  pub cheap : cost_at adj a ≤ 65535
  pub falls : next_at adj a < a

-- The walk along u's chain has come to arc a: some arcs are left, of which it is the newest that leaves u, and relaxing them gives what relaxing all gave.
pub record Chain (b adj : List ℕ) (u d : ℕ) (s₀ s : Reach) (a : ℕ) : Type 0 where
  pub rest : List Arc
  pub few : length rest ≤ 8192
  pub small : junctions b ≤ 1024
  pub newest : a ≡ last_arc u rest
  pub linked : Linked rest adj
  pub sound : SoundArcs (junctions b) rest
  pub distances : length s.ds ≡ 1024
  pub words : length s.queue ≡ queue_words
  pub above : Above s.ds s.queue
  pub result : relax_both u d rest s ≡ relax_both u d (net b) s₀

module _ (b adj : List ℕ) (u d : ℕ) where
  pub chain_starts : (ds queue : List ℕ) (a : ℕ) → Adjacency b adj → u < 1024 → a ≡ head_at adj u
      → length ds ≡ 1024 → length queue ≡ queue_words → Above ds queue → Chain b adj u d (reach ds queue) (reach ds queue) a
  chain_starts ds queue a ad h e f g r =
      let l = passing_layout b ad.layout in
      record {
        rest = net b;
        few = omega (arith, net-length b, l.few-roads);
        small = l.few-junctions;
        newest = e ∙ ad.newest u h;
        linked = ad.linked;
        sound = net_sound b l;
        distances = f;
        words = g;
        above = r;
        result = refl;
      }

  module _ (s₀ s : Reach) (a : ℕ) (ch : Chain b adj u d s₀ s a) where
    -- the next arc
    pub chain_turn : a ≢ 0 → Turn (junctions b) u d ch.rest adj a
    chain_turn z = turn (junctions b) u d adj ch.rest a ch.linked ch.sound ch.newest z

    pub chain_low : a ≤ 8192
    chain_low = omega (arith, last_low u ch.rest, ch.newest, ch.few)

    pub chain_facts : a ≢ 0 → ArcFacts adj a
    chain_facts z =
        let t = chain_turn z in
        record {
          some = omega (arith, t.number);
          few = chain_low;
          inside = omega (arith, t.to_is, t.fit.to, ch.small);
          cheap = omega (arith, t.cost_is, t.fit.few);
          falls = omega (arith, t.next-is, last_low u t.rest, t.number);
        }

    -- the chain after it
    pub chain_goes_on : (z : a ≢ 0) (s' : Reach) (x y on : ℕ) → x ≡ to_at adj a → y ≡ cost_at adj a → on ≡ next_at adj a
        → s' ≡ shorten_both s x (d + y) → Chain b adj u d s₀ s' on
    chain_goes_on z s' x y on ex ey eo e =
        let t = chain_turn z in
        let f : s' ≡ shorten_both s t.arc.to (d + t.arc.seconds) = rw (e, ex, ey, t.to_is, t.cost_is) refl in
        let n = shorten-sizes s t.arc.to (d + t.arc.seconds) in
        record {
          rest = t.rest;
          few = omega (arith, t.number, chain_low);
          small = ch.small;
          newest = eo ∙ t.next-is;
          linked = t.linked;
          sound = t.sound;
          distances = rw f (n.0 ∙ ch.distances);
          words = rw f (n.1 ∙ ch.words);
          above = rw f (shorten-above s t.arc.to (d + t.arc.seconds) (omega (arith, t.fit.to, ch.small)) ch.distances ch.above);
          result = rw f (sym (t.relaxed s) ∙ ch.result);
        }

    -- its end
    pub chain_ends : a ≡ 0 → s ≡ relax_both u d (net b) s₀
    chain_ends z = sym (ended (junctions b) u d adj ch.rest s (sym ch.newest ∙ z)) ∙ ch.result
