-- A search of a road book and a tree book that the tests accept is well formed, and sound if the tree's numbers are true. Assumes nothing.
use mathlib.Core.Path.{◌≡◌, sym, ap, ◌∙◌}
use mathlib.Core.List.Memᴰ.{not-nil}
use mathlib.Core.List.{List, Memᴰ as Mem}
use Prim.Native.Nat.{ℕ, ◌≤◌, ◌<◌}
use native.Mathlib.Omega.{arith}
use lib.ListN.{length, get_or}
use Rattle.road_layout.specs.Road.{junctions}
use Rattle.road.specs.Dijkstra.{dist}
use Rattle.road.proofs.Theorems.{metric, symmetric}
use Rattle.kinds.specs.Kinds.{shares}
use Rattle.tree_layout.specs.Values.{Element, Mark, no_mark, region_at}
use Rattle.tree_layout.specs.Decode.{decode}
use Rattle.tree_layout.proofs.Places.{decode-junctions}
use Rattle.tree_layout.proofs.Formed.{at_mem}
use Rattle.tree_leaf.proofs.Named.{first-list-is}
use Rattle.tree.specs.Yards.{yards_below}
use Rattle.tree.proofs.YardKinds.{accepted-kinds}
use Rattle.search_rules.specs.Rule.{Asking}
use Rattle.search_rules.specs.Instance.{Instance}
use Rattle.search_rules.specs.Books.{search_of, Passed}
use Rattle.search_rules.specs.Facts.{WellFormed, Triangle, Symmetric, SoundInstance}
use Rattle.search_rules.proofs.Trees.{Accepted, TrueKinds, accepted-tree, well-formed, truth_of}
use Rattle.search_rules.proofs.Equations.{wants_of}

module _ (road tree : List ℕ) (a : Asking) (crews : List ℕ) (p : Passed road tree crews) where
  abbrev i : Instance
  i = search_of road tree a crews

  pub count : (decode tree).junctions ≡ junctions road
  count = decode-junctions tree ∙ sym p.counts

  pub accepted_of : Accepted i.tree
  unfolding search_of
  accepted_of = accepted-tree tree p.bytes p.shaped

  pub well_of : WellFormed i
  unfolding search_of
  well_of = well-formed i accepted_of (λ q k. omega (arith, count, p.there q k)) p.few
      (λ u v h k. omega (arith, (metric road p.roads).bounded u v (omega (arith, count)) (omega (arith, count))))
      (λ r m k. absurd (not-nil k))

  pub metric_of : Triangle i
  unfolding search_of
  metric_of = record { triangle = λ u v w a b c. (metric road p.roads).triangle u v w (omega (arith, count)) (omega (arith, count)) (omega (arith, count)) }

  pub symmetric_of : Symmetric i
  unfolding search_of
  symmetric_of = record { turn = λ u v a b. symmetric road p.roads.layout u v (omega (arith, count)) (omega (arith, count)) }

  -- "a stored distance, least or greatest isn't the true one" of none, nor a kind: then the search is sound
  pub sound_of : ((r : ℕ) → r < length (decode tree).regions → (region_at (decode tree).regions r).children ≡ 0 → (m : Mark)
      → Mem m (region_at (decode tree).regions r).marks → (e : Element) → Mem e m.list
      → e.distance ≡ dist road m.place e.yard)
      → ((r : ℕ) → r < length (decode tree).regions → (m : Mark) → Mem m (region_at (decode tree).regions r).marks → (y : ℕ)
      → Mem y (yards_below (decode tree).regions r)
      → (m.least ≤ dist road m.place y) × (dist road m.place y ≤ m.greatest))
      → TrueKinds i
      → SoundInstance i
  unfolding search_of
  sound_of lists encloses kinds = record {
    well = well_of;
    metric = metric_of;
    symmetric = λ two. symmetric_of;
    truth = truth_of i accepted_of lists encloses kinds (λ one. absurd one) (λ r m y k. absurd (not-nil k));
  }

  -- "a yard is wanted if its byte in its leaf's first list shares a bit"
  pub wants-listed : (r : ℕ) → r < length (decode tree).regions → (region_at (decode tree).regions r).children ≡ 0 → (e : Element)
      → Mem e (get_or (region_at (decode tree).regions r).marks 0 no_mark).list → i.wants e.yard ≡ shares a.wanted e.kinds
  unfolding search_of
  wants-listed r h c e k =
      let t = accepted_of in
      let some : 0 < length (region_at (decode tree).regions r).marks = omega (arith, t.landmarks, (t.formed (region_at (decode tree).regions r) (at_mem (decode tree).regions r h)).count) in
      wants_of road tree a crews e.yard
      ∙ ap (shares a.wanted) (accepted-kinds tree p.shaped r h c e (rw (first-list-is (region_at (decode tree).regions r).marks some) k))
