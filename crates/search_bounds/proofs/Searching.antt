-- The bounds of a search of two books that the tests accept, by the arrays' definitions. Assumes nothing.
use mathlib.Core.Path.{◌≡◌, refl, sym, ap, ◌∙◌}
use mathlib.Core.Logic.{◌≢◌}
use mathlib.Core.List.{List, []}
use Prim.Native.Nat.{ℕ, ◌<◌}
use native.Mathlib.Omega.{arith}
use lib.ListN.{length, get_or}
use Rattle.road_layout.specs.Road.{junctions}
use Rattle.tree_layout.specs.Values.{Mark, region_at}
use Rattle.tree_layout.specs.Decode.{decode, landmark_count}
use Rattle.tree_layout.proofs.Formed.{at_mem, decode-formed}
use Rattle.tree_layout.proofs.Places.{decode-landmarks}
use Rattle.search_rules.specs.Rule.{Asking}
use Rattle.search_rules.specs.Instance.{Instance, marks}
use Rattle.search_rules.specs.Books.{search_of, Passed}
use Rattle.search_rules.specs.Bounds.{lower, bound, chosen}
use Rattle.tree_layout.specs.Values.{no_mark}
use Rattle.search_rules.proofs.Books.{accepted_of, well_of, count}
use Rattle.search_rules.proofs.Equations.{marks-is, search_of_lem, two_way}
use Rattle.search_bounds.specs.code.Rows.{rows_lower}
use Rattle.search_bounds.specs.code.Bounds.{rows_bound, rows_chosen, Crews}
use Rattle.search_bounds.specs.code.Tables.{LandmarkTable}
use Rattle.search_bounds.proofs.Tables.{lower_table, bound_table, chosen_table, chosen-below}

same-bound : (table : List ℕ) (rows code code' : ℕ) (crews crews' : List ℕ) (ks ks' : List Mark) → code ≡ code' → crews ≡ crews' → ks ≡ ks'
    → rows_bound table rows code crews ks ≡ rows_bound table rows code' crews' ks'
same-bound table rows code code' crews crews' ks ks' e f g = rw (e, f, g) refl

same_chosen : (table : List ℕ) (rows : ℕ) (crews crews' : List ℕ) (ks ks' : List Mark) → crews ≡ crews' → ks ≡ ks'
    → rows_chosen table rows crews ks ≡ rows_chosen table rows crews' ks'
same_chosen table rows crews crews' ks ks' e f = rw (e, f) refl

module _ (road tree : List ℕ) (a : Asking) (crews : List ℕ) where
  abbrev i : Instance
  i = search_of road tree a crews

  code_is : i.code ≡ a.code
  code_is = ap (λ (x : Instance). x.code) (search_of_lem road tree a crews)

  crews-is : i.crews ≡ crews
  crews-is = ap (λ (x : Instance). x.crews) (search_of_lem road tree a crews)

  tree_is : i.tree ≡ decode tree
  tree_is = ap (λ (x : Instance). x.tree) (search_of_lem road tree a crews)

  -- a region's landmarks, as they stand in the book
  pub marks-book : (r : ℕ) → marks i r ≡ (region_at (decode tree).regions r).marks
  marks-book r = marks-is i r ∙ ap (λ t. (region_at t.regions r).marks) tree_is

  module _ (p : Passed road tree crews) where
    -- the crews have their places in the landmark table's rows
    pub crews_of_lem : Crews crews
    crews_of_lem =
        let small = (accepted_of road tree a crews p).few-junctions in
        record { few = p.few; there = λ q k. omega (arith, p.there q k, count road tree a crews p, small, ap (λ t. t.junctions) tree_is) }

    inside : (v : ℕ) → v < junctions road → v < i.tree.junctions
    inside v h = omega (arith, count road tree a crews p, ap (λ t. t.junctions) tree_is)

    module _ (rows : ℕ) (table : List ℕ) (s : LandmarkTable i rows table) where
      pub lower_of : (l q x : ℕ) → l < junctions road → q < junctions road → x ≡ rows_lower table rows l q → x ≡ lower i l q
      lower_of l q x h k e = e ∙ lower_table i rows table s l q (inside l h) (inside q k)

      module _ (r : ℕ) where
        pub bound_of : (x : ℕ) → x ≡ rows_bound table rows a.code crews (region_at (decode tree).regions r).marks → x ≡ bound i r
        bound_of x e =
            e
            ∙ same-bound table rows a.code i.code crews i.crews (region_at (decode tree).regions r).marks (marks i r) (sym code_is)
            (sym crews-is) (sym (marks-book r))
            ∙ bound_table i (well_of road tree a crews p) rows table s (two_way road tree a crews) r

        module _ (h : r < length (decode tree).regions) (j : ℕ)
            (e : j ≡ rows_chosen table rows crews (region_at (decode tree).regions r).marks) where
          chosen_is : j ≡ rows_chosen table rows i.crews (marks i r)
          chosen_is =
              e ∙ same_chosen table rows crews i.crews (region_at (decode tree).regions r).marks (marks i r) (sym crews-is) (sym (marks-book r))

          marks-length : length (region_at (decode tree).regions r).marks ≡ landmark_count tree
          marks-length = (decode-formed tree (region_at (decode tree).regions r) (at_mem (decode tree).regions r h)).count ∙ decode-landmarks tree

          marked : marks i r ≢ []
          marked n =
              let some = (accepted_of road tree a crews p).landmarks in
              let none = ap length (sym (marks-book r) ∙ n) in
              omega (arith, marks-length, none, some, ap (λ t. t.landmarks) tree_is, decode-landmarks tree)

          -- the landmark that leaf r picks is its landmark j
          pub chosen_of : get_or (region_at (decode tree).regions r).marks j no_mark ≡ chosen i r
          chosen_of = rw (← marks-book r, chosen_is) (chosen_table i (well_of road tree a crews p) rows table s r (two_way road tree a crews) marked)

          pub chosen-few : j < landmark_count tree
          chosen-few =
              omega
              (arith, chosen_is, chosen-below i (well_of road tree a crews p) rows table s r marked, ap length (marks-book r), marks-length)
