-- An accepted call is in the limits of building, so that what is proved of a cut tree holds of its tree. Assumes nothing.
use mathlib.Core.Path.{◌≡◌, refl, sym, ap, ◌∙◌}
use mathlib.Core.List.{List}
use Prim.Native.Nat.{ℕ, ◌+◌, ◌≤◌, ◌<◌}
use native.Mathlib.Omega.{arith}
use lib.ListN.{length}
use Rattle.book.specs.Bytes.{Bytes}
use Rattle.book.specs.Open.{version}
use Rattle.book.proofs.Lists.{mem_get_d}
use Rattle.road_layout.specs.Road.{junctions}
use Rattle.road.proofs.Theorems.{passing, metric}
use Rattle.yard.specs.Yards.{yard_count, yards_of, kind_of, yard_refusal, yard_refusal_in}
use Rattle.yard.proofs.Tables.{yards_had, had_some, had_small, had_any}
use Rattle.yard.proofs.YardLayout.{layout, passes-alone, rising-yards, count_small, yards-inside}
use Rattle.check_rules.specs.Truth.{within}
use Rattle.build_rules.specs.code.Facts.{InLimits, Built}
use Rattle.build_rules.proofs.Parts.{within_all}
use Rattle.build_rules.proofs.Steps.{tree-version, tree-junctions, tree-yards, tree-landmarks, tree-regions}
use Rattle.build_rules.proofs.Theorems.{built}
use Rattle.tree_encode.specs.Encode.{encode_regions, encode, tree_room}
use Rattle.tree_encode.proofs.Sizes.{encode-length, room_most}
use Rattle.build_records.specs.Given.{given}
use Rattle.build_records.proofs.Fields.{given-version, given-d, given-kinds, given-landmarks, given-limit}
use Rattle.build_cuts.specs.code.Cutting.{range_regions}
use Rattle.build_cuts.proofs.Cases.{range-cut}
use Rattle.build_tree.specs.Build.{built_tree}
use Rattle.build_tree.specs.Facts.{AcceptedBuild}

-- ---- the tree's fields, beside a yard book whose yards are junctions

module _ (road yard : List ℕ) (m limit : ℕ) (ok : yard_refusal_in yard (junctions road) ≡ 0) where
  pub its_version : (built_tree road yard m limit).version ≡ version yard
  unfolding built_tree
  its_version = tree-version (given road yard m limit) (junctions road) (yards_of yard) ∙ given-version road yard m limit

  pub its_junctions : (built_tree road yard m limit).junctions ≡ junctions road
  unfolding built_tree
  its_junctions = tree-junctions (given road yard m limit) (junctions road) (yards_of yard)

  pub its_yards : (built_tree road yard m limit).yards ≡ yard_count yard
  unfolding built_tree
  its_yards = tree-yards (given road yard m limit) (junctions road) (yards_of yard) ∙ (rising-yards yard (passes-alone yard (junctions road) ok)).counted

  pub its_landmarks : (built_tree road yard m limit).landmarks ≡ m
  unfolding built_tree
  its_landmarks = tree-landmarks (given road yard m limit) (junctions road) (yards_of yard) ∙ given-landmarks road yard m limit

  -- all yards are in the range of all junctions, whose regions are the tree's
  all-yards : within 0 (0 + junctions road) (yards_of yard) ≡ yards_of yard
  all-yards =
      within_all 0 (0 + junctions road) (yards_of yard) (λ y k. let x = mem_get_d (yards_of yard) 0 y k in (
        omega arith,
        omega (
          arith,
          x.2,
          yards-inside yard (junctions road) ok x.0 x.1,
        ),
      ))

  pub its_regions : range_regions road yard m limit 5 0 (junctions road) ≡ (built_tree road yard m limit).regions
  unfolding built_tree
  its_regions =
      range-cut road yard m limit 5 0 (junctions road) ∙ (rw all-yards refl ∙ sym (tree-regions (given road yard m limit) (junctions road) (yards_of yard)))

  pub its_length : length (encode (built_tree road yard m limit)) ≡ 12 + length (encode_regions (version yard) (built_tree road yard m limit).regions)
  its_length =
      let t = built_tree road yard m limit in
      encode-length t ∙ ap (λ (v : ℕ). 12 + length (encode_regions v t.regions)) its_version

up_to : {n a b : ℕ} → n ≤ a → a ≡ b → n ≤ b
up_to h e = omega arith

-- ---- an accepted call

module _ (road yard : List ℕ) (m limit words room : ℕ) (acc : AcceptedBuild road yard m limit words room) where
  pub yards-alone : yard_refusal yard ≡ 0
  yards-alone = passes-alone yard (junctions road) acc.yards

  pub few-junctions : junctions road ≤ 1024
  few-junctions = (passing road acc.roads).layout.few-junctions

  pub some-junction : 0 < junctions road
  some-junction = (passing road acc.roads).layout.some-junction

  pub limits : InLimits (given road yard m limit) (junctions road) (yards_of yard)
  limits =
      let r = rising-yards yard yards-alone in
      let c = count_small yard yards-alone in
      record {
        version_in = rw (given-version road yard m limit) (layout yard yards-alone).opening.versioned;
        junctions_in = (some-junction, few-junctions);
        yards_in_lem = (omega (arith, r.counted, c.0), omega (arith, r.counted, c.1));
        rising = r.rising;
        below = yards-inside yard (junctions road) acc.yards;
        landmarks_in = rw (given-landmarks road yard m limit) acc.range.landmarks;
        limit_in = rw (given-limit road yard m limit) acc.range.leaf;
        bounded = λ u v p q. rw (given-d road yard m limit) (omega (arith, (metric road (passing road acc.roads)).bounded u v p q));
        kinded = λ y k. rw (given-kinds road yard m limit) (had_some yard yards-alone y (kind_of yard y) (yards_had yard yards-alone y k));
        any = λ e y k. rw (given-kinds road yard m limit) (had_any yard yards-alone y (kind_of yard y) (yards_had yard yards-alone y k) (rw (given-version road yard m limit) at e));
      }

  pub built_tree_lem : Built (given road yard m limit) (junctions road) (yards_of yard)
  built_tree_lem = built (given road yard m limit) (junctions road) (yards_of yard) limits

  pub short : length (encode (built_tree road yard m limit)) ≤ tree_room (version yard)
  unfolding built_tree
  short = up_to built_tree_lem.short (ap tree_room (given-version road yard m limit))

  -- no area is larger than that of version 2
  pub short-most : length (encode (built_tree road yard m limit)) ≤ 23516
  short-most = omega (arith, short, room_most (version yard))

  -- of a yard book of bytes
  pub bytes : Bytes yard → Bytes (encode (built_tree road yard m limit))
  unfolding built_tree
  bytes bs = built_tree_lem.bytes (λ y k.
      rw (given-kinds road yard m limit) (omega (arith, had_small yard yards-alone y (kind_of yard y) (yards_had yard yards-alone y k) bs)))

  pub few-regions : length (built_tree road yard m limit).regions ≤ 511
  unfolding built_tree
  few-regions = built_tree_lem.few

  -- the regions have their place after the header
  pub regions_fit : 12 + length (encode_regions (version yard) (range_regions road yard m limit 5 0 (junctions road))) ≤ room
  regions_fit = rw (its_regions road yard m limit acc.yards) (omega (arith, its_length road yard m limit acc.yards, short, acc.areas.tree))
