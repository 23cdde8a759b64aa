-- Whether an arc of a junction's chain leads to where a test holds, arc by arc. Assumes nothing.
use mathlib.Core.Path.{◌≡◌, refl, sym, ◌∙◌}
use mathlib.Core.Logic.{◌≢◌}
use mathlib.Core.Bool.{Bool, true, false, ◌&&◌, ◌||◌}
use mathlib.Core.List.{List, [], ◌∷◌}
use Prim.Native.Nat.{ℕ, suc, ◌≤◌, ◌<◌}
use native.Mathlib.Decide.{ℕ_discrete}
use native.Mathlib.Omega.{arith}
use borrow.Author.Tests.{eq-eqb, ne_eqb}
use lib.ListN.{length}
use lib.Dec.{eqb}
use Rattle.road_layout.specs.Road.{Road}
use Rattle.road_layout.proofs.Layouts.{passing_layout}
use Rattle.adjacency.specs.Arcs.{Arc, along, back, arcs, net}
use Rattle.adjacency.specs.Adjacency.{head_at, next_at, to_at, last_arc, Linked, Adjacency}
use Rattle.adjacency.proofs.Linking.{net-length, last_low, last_own, last_other}

-- an arc of the list leaves u and leads to where the test holds
unfoldable pub any_from : (ℕ → Bool) → ℕ → List Arc → Bool
any_from test u [] = false
any_from test u (a ∷ as') = (eqb a.from u && test a.to) || any_from test u as'

-- of a road book's roads: each leads both ways
pub roads-none : (test : ℕ → Bool) (u : ℕ) → any_from test u (arcs []) ≡ false
unfolding any_from arcs
roads-none test u = refl

pub roads-next : (test : ℕ → Bool) (u : ℕ) (r : Road) (rs : List Road)
    → any_from test u (arcs (r ∷ rs)) ≡ ((eqb r.high u && test r.low) || ((eqb r.low u && test r.high) || any_from test u (arcs rs)))
unfolding any_from arcs along back
roads-next test u r rs = refl

-- the arc of number x is the newest of those of u that are left, and what they lead to answers the whole
pub record ChainAt (test : ℕ → Bool) (u : ℕ) (adj : List ℕ) (whole : Bool) (x : ℕ) : Type 0 where
  pub rest : List Arc
  pub linked : Linked rest adj
  pub few : length rest ≤ 8192
  pub number : x ≡ last_arc u rest
  pub same : any_from test u rest ≡ whole

pub chain_begin : (test : ℕ → Bool) (b : List ℕ) (adj : List ℕ) (u : ℕ) → Adjacency b adj → u < 1024
    → ChainAt test u adj (any_from test u (net b)) (head_at adj u)
chain_begin test b adj u a h = record {
  rest = net b;
  linked = a.linked;
  few = omega (arith, net-length b, (passing_layout b a.layout).few-roads);
  number = a.newest u h;
  same = refl;
}

-- what is known at an arc of the chain
pub record ChainStep (test : ℕ → Bool) (u : ℕ) (adj : List ℕ) (whole : Bool) (x : ℕ) : Type 0 where
  pub some : 1 ≤ x
  pub inside : x ≤ 8192
  pub falls : next_at adj x < x
  pub stop : test (to_at adj x) ≡ true → whole ≡ true
  pub on : test (to_at adj x) ≡ false → ChainAt test u adj whole (next_at adj x)

pub chain_step : (test : ℕ → Bool) (u : ℕ) (adj : List ℕ) (whole : Bool) (x : ℕ) → ChainAt test u adj whole x → x ≢ 0 → ChainStep test u adj whole x
unfolding any_from last_arc Linked
chain_step test u adj whole x c n = go c.rest c.linked c.few c.number c.same
  where
    go : (rest : List Arc) → Linked rest adj → length rest ≤ 8192 → x ≡ last_arc u rest → any_from test u rest ≡ whole → ChainStep test u adj whole x
    go [] k f e s = absurd (n e)
    go (a ∷ xs) k f e s = here (ℕ_discrete a.from u) (λ p q. go xs k.3 (omega arith) p q)
      where
        here : Dec (a.from ≡ u) → (x ≡ last_arc u xs → any_from test u xs ≡ whole → ChainStep test u adj whole x) → ChainStep test u adj whole x
        here (yes p) rec =
            let num : x ≡ suc (length xs) = e ∙ last_own u a xs p in
            let t : to_at adj x ≡ a.to = rw num k.0 in
            let nx : next_at adj x ≡ last_arc u xs = rw (num, ← p) k.2 in
            let ans : (test a.to || any_from test u xs) ≡ whole = (rw (eq-eqb a.from u p) at s) in
            record {
              some = omega arith;
              inside = omega arith;
              falls = omega (arith, last_low u xs);
              stop = λ z. sym ans ∙ rw (← t, z) refl;
              on = λ z. record { rest = xs; linked = k.3; few = omega arith; number = nx; same = (let w : test a.to ≡ false = rw (← t) z in rw w at ans) };
            }
        here (no p) rec = rec (e ∙ last_other u a xs p) (rw (ne_eqb a.from u p) at s)

pub chain_done : (test : ℕ → Bool) (u : ℕ) (adj : List ℕ) (whole : Bool) (x : ℕ) → ChainAt test u adj whole x → x ≡ 0 → whole ≡ false
unfolding any_from last_arc
chain_done test u adj whole x c z = go c.rest (sym z ∙ c.number) c.same
  where
    go : (rest : List Arc) → 0 ≡ last_arc u rest → any_from test u rest ≡ whole → whole ≡ false
    go [] e s = sym s
    go (a ∷ xs) e s = here (ℕ_discrete a.from u) (λ p q. go xs p q)
      where
        here : Dec (a.from ≡ u) → (0 ≡ last_arc u xs → any_from test u xs ≡ whole → whole ≡ false) → whole ≡ false
        here (yes p) rec = absurd (omega (arith, last_own u a xs p))
        here (no p) rec = rec (e ∙ last_other u a xs p) (rw (ne_eqb a.from u p) at s)
