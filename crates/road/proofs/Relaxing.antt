-- What relaxing the arcs that leave a junction does to the distances.
use mathlib.Core.Path.{◌≡◌, refl, sym, ◌∙◌}
use mathlib.Core.Logic.{◌⊎◌, inl, inr, ◌≢◌}
use mathlib.Core.List.Memᴰ
use mathlib.Core.List.{List, [], ◌∷◌, Memᴰ}
use Prim.Native.Nat.{ℕ, ◌+◌, ◌≤◌, ◌<◌}
use native.Mathlib.Nat.{le_trans}
use native.Mathlib.Decide.{ℕ_discrete}
use native.Mathlib.Omega.{arith}
use lib.ListN.{length, set, length-set}
use lib.Seq.{get_or-set_same, get_or-set_other}
use lib.Dec.{ltb, eqb, ltb→lt, nltb→le, eqb→eq, eqb_refl, T_not}
use Rattle.book.proofs.Choosing.{choose_case}
use Rattle.adjacency.specs.Arcs.{Arc}
use Rattle.road.specs.Dijkstra.{far, at, shorten, relax_arc, relax}

-- v is the end of an arc that leaves u, and t is d plus the arc's seconds.
pub record Arrival (net : List Arc) (u d v t : ℕ) : Type 0 where
  pub arc : Arc
  pub mem : Memᴰ arc net
  pub leaves : arc.from ≡ u
  pub ends : arc.to ≡ v
  pub total : t ≡ d + arc.seconds

-- The distances es come from ds by relaxing the arcs of net that leave u, which is at distance d.
pub record Relaxed (net : List Arc) (u d : ℕ) (ds es : List ℕ) : Type 0 where
  pub size : length es ≡ length ds
  pub lower : (v : ℕ) → at es v ≤ at ds v
  pub cause : (v : ℕ) → (at es v ≡ at ds v) ⊎ Arrival net u d v (at es v)
  pub arrive : (a : Arc) → Memᴰ a net → a.from ≡ u → at es a.to ≤ d + a.seconds

pub at_set_same : (ds : List ℕ) (i x : ℕ) → i < length ds → at (set ds i x) i ≡ x
unfolding at
at_set_same ds i x h = get_or-set_same ds i x far h

pub at_set_other : (ds : List ℕ) (i j x : ℕ) → j ≢ i → at (set ds i x) j ≡ at ds j
unfolding at
at_set_other ds i j x h = get_or-set_other ds i j x far h

module _ (u d : ℕ) where
  relax_arc-is : (a : Arc) (ds : List ℕ) → a.to < length ds → Relaxed (a ∷ []) u d ds (relax_arc u d a ds)
  unfolding relax_arc shorten
  relax_arc-is a ds fits =
      choose_case (Relaxed (a ∷ []) u d ds) (eqb a.from u)
      (λ p. choose_case (Relaxed (a ∷ []) u d ds) (ltb (d + a.seconds) (at ds a.to))
      (λ q. shorter (eqb→eq a.from u p) (ltb→lt (d + a.seconds) (at ds a.to) q))
      (λ q. same (λ e. nltb→le (d + a.seconds) (at ds a.to) q)))
      (λ p. same (λ e. absurd (T_not (eqb a.from u) p (rw (sym e) (eqb_refl a.from)))))
    where
      only : (b : Arc) → Memᴰ b (a ∷ []) → b ≡ a
      only b (Memᴰ.head e) = e
      only b (Memᴰ.tail m) = absurd (Memᴰ.not-nil m)

      same : (a.from ≡ u → at ds a.to ≤ d + a.seconds) → Relaxed (a ∷ []) u d ds ds
      same h = record { size = refl; lower = λ v. omega arith; cause = λ v. inl refl; arrive = λ b m e. rw (only b m) (h (rw (only b m) at e)) }

      shorter : a.from ≡ u → d + a.seconds < at ds a.to → Relaxed (a ∷ []) u d ds (set ds a.to (d + a.seconds))
      shorter e h = record {
        size = length-set ds a.to (d + a.seconds);
        lower = λ v. down v (ℕ_discrete v a.to);
        cause = λ v. why v (ℕ_discrete v a.to);
        arrive = λ b m f. rw (only b m, at_set_same) (omega arith);
      }
        where
          es : List ℕ
          es = set ds a.to (d + a.seconds)

          down : (v : ℕ) → Dec (v ≡ a.to) → at es v ≤ at ds v
          down v (yes f) = rw (f, at_set_same) (omega arith)
          down v (no f) = rw at_set_other (omega arith)

          why : (v : ℕ) → Dec (v ≡ a.to) → (at es v ≡ at ds v) ⊎ Arrival (a ∷ []) u d v (at es v)
          why v (yes f) = inr (record { arc = a; mem = Memᴰ.head refl; leaves = e; ends = sym f; total = rw (f, at_set_same) refl })
          why v (no f) = inl (at_set_other ds a.to v (d + a.seconds) f)

  -- One arc, and then the others.
  then : {a : Arc} {net : List Arc} {ds fs es : List ℕ} → Relaxed (a ∷ []) u d ds fs → Relaxed net u d fs es → Relaxed (a ∷ net) u d ds es
  then {a} {net} {ds} {fs} {es} one rest = record {
    size = rest.size ∙ one.size;
    lower = λ v. le_trans (rest.lower v) (one.lower v);
    cause = λ v. why v (rest.cause v) (one.cause v);
    arrive = λ b m e. reach b m e;
  }
    where
      first : {b : Arc} → Memᴰ b (a ∷ []) → Memᴰ b (a ∷ net)
      first (Memᴰ.head e) = Memᴰ.head e
      first (Memᴰ.tail m) = absurd (Memᴰ.not-nil m)

      why : (v : ℕ) → (at es v ≡ at fs v) ⊎ Arrival net u d v (at es v) → (at fs v ≡ at ds v) ⊎ Arrival (a ∷ []) u d v (at fs v)
          → (at es v ≡ at ds v) ⊎ Arrival (a ∷ net) u d v (at es v)
      why v (inl e) (inl f) = inl (e ∙ f)
      why v (inl e) (inr x) = inr (record { arc = x.arc; mem = first x.mem; leaves = x.leaves; ends = x.ends; total = e ∙ x.total })
      why v (inr x) y = inr (record { arc = x.arc; mem = Memᴰ.tail x.mem; leaves = x.leaves; ends = x.ends; total = x.total })

      reach : (b : Arc) → Memᴰ b (a ∷ net) → b.from ≡ u → at es b.to ≤ d + b.seconds
      reach b (Memᴰ.head f) e = le_trans (rest.lower b.to) (one.arrive b (Memᴰ.head f) e)
      reach b (Memᴰ.tail m) e = rest.arrive b m e

  pub relax-is : (net : List Arc) (ds : List ℕ) → ((a : Arc) → Memᴰ a net → a.to < length ds) → Relaxed net u d ds (relax u d net ds)
  unfolding relax
  relax-is [] ds fits = record { size = refl; lower = λ v. omega arith; cause = λ v. inl refl; arrive = λ a m e. absurd (Memᴰ.not-nil m) }
  relax-is (a ∷ net) ds fits =
      then one (relax-is net (relax_arc u d a ds) (λ b m. rw one.size (fits b (Memᴰ.tail m))))
    where
      one : Relaxed (a ∷ []) u d ds (relax_arc u d a ds)
      one = relax_arc-is a ds (fits a (Memᴰ.head refl))
