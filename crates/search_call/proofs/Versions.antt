-- "Version 1 books are read with kind 255 throughout": trees that differ at most in their version are searched alike, in version 1 as without kinds.
-- Assumes nothing.
use mathlib.Core.Path.{◌≡◌, refl, sym, ap, ◌∙◌}
use mathlib.Core.List.{List}
use Prim.Native.Nat.{ℕ, ◌≤◌, ◌<◌}
use lib.ListN.{length}
use Rattle.book.specs.Open.{version}
use Rattle.book.proofs.Lists.{kept-all}
use Rattle.work_area.specs.Work.{work_after}
use Rattle.road_layout.specs.Road.{junctions}
use Rattle.kinds.specs.Kinds.{shares}
use Rattle.tree_layout.specs.Decode.{junction_count, tree_yard_count, decode}
use Rattle.tree_layout.proofs.Places.{decode-version, decode-junctions, decode-yards}
use Rattle.tree.specs.Shape.{tree_refusal}
use Rattle.tree.specs.Yards.{kinds_of}
use Rattle.tree.proofs.YardKinds.{accepted-any}
use Rattle.query.specs.Query.{k_of, limit_of, crews_of}
use Rattle.search_rules.specs.Instance.{without_kinds}
use Rattle.search_rules.specs.Run.{run, answer}
use Rattle.search_rules.proofs.Versions.{answer-alike}
use Rattle.search_rules.proofs.WithoutKinds.{any-kind, version_1_run, version_1_answer}
use Rattle.search_call.specs.Call.{Want, asking_by, most_by, most_yards, tree_refusal_in, search_refusal, search_answer, search_found, results_after, Call, Areas, Search, found_on, call_on}
use Rattle.search_call.specs.Demand.{NotRefused, yards, wanted_yards, instance_of, limit, Alike, VersionsAgree}
use Rattle.search_call.proofs.Calls.{on_tests, same-areas}

-- ---- two tree books that are accepted, of one road book, query and want

module _ (road tree tree' query : List ℕ) (want : Want) (ok : tree_refusal tree ≡ 0) (ok' : tree_refusal tree' ≡ 0)
    (alike : Alike (decode tree) (decode tree')) where
  same_answer : search_answer road tree query want ≡ search_answer road tree' query want
  same_answer =
      answer-alike road tree tree' (asking_by query want) (crews_of query) alike.junctions alike.yards alike.landmarks alike.regions (limit_of query)

  same_tests : (n : ℕ) → tree_refusal_in tree n ≡ tree_refusal_in tree' n
  unfolding tree_refusal_in
  same_tests n =
      let counts : junction_count tree ≡ junction_count tree' = sym (decode-junctions tree) ∙ alike.junctions ∙ decode-junctions tree' in
      rw (ok, ok', counts) refl

  same-most : most_yards tree query want ≡ most_yards tree' query want
  same-most =
      let counts : tree_yard_count tree ≡ tree_yard_count tree' = sym (decode-yards tree) ∙ alike.yards ∙ decode-yards tree' in
      ap (λ (n : ℕ). most_by (k_of query) n want.drive) counts

  same-refusal : (work results : ℕ) → search_refusal road tree query want work results ≡ search_refusal road tree' query want work results
  unfolding search_refusal
  same-refusal work results = rw (same_tests (junctions road), same-most) refl

  same-found : (work results : ℕ) → search_found road tree query want work results ≡ search_found road tree' query want work results
  unfolding search_found
  same-found work results = rw (same-refusal work results, same_answer) refl

  same-results : (work : ℕ) (results : List ℕ) → results_after road tree query want work results ≡ results_after road tree' query want work results
  unfolding results_after
  same-results work results = rw (same-refusal work (length results), same_answer) refl

-- ---- two calls

module _ (c d : Call) (a : Areas) (er : c.road ≡ d.road) (eq : c.query ≡ d.query) (ew : c.want ≡ d.want) (ok : tree_refusal c.tree ≡ 0)
    (ok' : tree_refusal d.tree ≡ 0) (alike : Alike (decode c.tree) (decode d.tree)) where
  found-same : found_on c a ≡ found_on d a
  unfolding found_on
  found-same = rw (er, eq, ew) (same-found d.road c.tree d.tree d.query d.want ok ok' alike (length a.work) (length a.results))

  call_same : call_on c a ≡ call_on d a
  unfolding call_on
  call_same = same-areas
      (rw (er, eq, ew) (ap (λ (n : ℕ). work_after n a.work)
      (same-refusal d.road c.tree d.tree d.query d.want ok ok' alike (length a.work) (length a.results))))
      (rw (er, eq, ew) (same-results d.road c.tree d.tree d.query d.want ok ok' alike (length a.work) a.results))

-- ---- version 1

module _ (s : Search) (n : NotRefused s) (h : s.call.want.kinds < 256) (v : version s.call.tree ≡ 1) where
  shaped : tree_refusal s.call.tree ≡ 0
  shaped = (on_tests s.call s.areas n).shape

  first-version : (decode s.call.tree).version ≡ 1
  first-version = decode-version s.call.tree ∙ v

  some-kind : 1 ≤ s.call.want.kinds
  some-kind = (on_tests s.call s.areas n).some-kind

  every-yard : wanted_yards s ≡ yards s
  every-yard =
      let w = s.call.want.kinds in
      kept-all (λ y. shares w (kinds_of (decode s.call.tree) y)) (yards s) (λ y k.
      rw (accepted-any s.call.tree shaped first-version y k) (any-kind w some-kind h))

  same-steps : (k : ℕ) → run (instance_of s) k ≡ run (without_kinds (instance_of s)) k
  same-steps = version_1_run s.call.road s.call.tree (asking_by s.call.query s.call.want) (crews_of s.call.query) shaped first-version
      some-kind h

  same-answers : answer (instance_of s) (limit s) ≡ answer (without_kinds (instance_of s)) (limit s)
  same-answers = version_1_answer s.call.road s.call.tree (asking_by s.call.query s.call.want) (crews_of s.call.query) shaped first-version
      some-kind h (limit s)

pub versions_agree : VersionsAgree
versions_agree = record {
  same = λ c d a er eq ew ok ok' alike. (found-same c d a er eq ew ok ok' alike, call_same c d a er eq ew ok ok' alike);
  steps = same-steps;
  answers = same-answers;
  every = every-yard;
}
