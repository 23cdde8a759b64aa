-- What is proved of a search of two books, by the books' own words. Assumes nothing.
use mathlib.Core.Path.{◌≡◌, refl, ◌∙◌}
use mathlib.Core.List.{List}
use Prim.Native.Nat.{ℕ, ◌+◌, ◌*◌, ◌≤◌, ◌<◌}
use native.Mathlib.Omega.{arith}
use lib.ListN.{length}
use lib.Dec.{T}
use Rattle.book.specs.Lists.{keep_if}
use Rattle.road_layout.specs.Road.{junctions}
use Rattle.tree_layout.specs.Decode.{decode, tree_yard_count}
use Rattle.tree_layout.proofs.Places.{decode-yards}
use Rattle.tree.specs.Yards.{tree_yards, inners}
use Rattle.search_rules.specs.Rule.{Asking}
use Rattle.search_rules.specs.Instance.{Instance}
use Rattle.search_rules.specs.Books.{search_of, Passed}
use Rattle.search_rules.specs.Run.{answer}
use Rattle.search_rules.specs.Facts.{Below, SoundInstance}
use Rattle.search_rules.specs.Theorems.{TreeYards, Covers}
use Rattle.search_rules.proofs.Bounds.{below-range}
use Rattle.search_rules.proofs.Trees.{tree_covers}
use Rattle.search_rules.proofs.Wanted.{sound_yards}
use Rattle.search_rules.proofs.Equations.{two_way}
use Rattle.search_rules.proofs.Books.{count, accepted_of, well_of}
use Rattle.search_rules.proofs.Theorems.{accepted-ends, sound_ends}

module _ (road tree : List ℕ) (a : Asking) (crews : List ℕ) where
  abbrev i : Instance
  i = search_of road tree a crews

  -- the tree book's wanted yards
  abbrev ys : List ℕ
  ys = keep_if i.wants (tree_yards (decode tree))

  pub asked-rule : i.rule ≡ a.rule
  unfolding search_of
  asked-rule = refl

  pub yards_of_lem : i.tree.yards ≡ tree_yard_count tree
  unfolding search_of
  yards_of_lem = decode-yards tree

  module _ (p : Passed road tree crews) where
    -- every yard that may be reached is among them
    pub asked_covers : Covers i ys
    unfolding search_of
    asked_covers = tree_covers i (accepted_of road tree a crews p)

    -- of a true tree they are the yards that may be reached
    pub asked-yards : SoundInstance i → TreeYards i ys
    unfolding search_of
    asked-yards sound = sound_yards i sound (accepted_of road tree a crews p)

    -- the tree book's yards are as many as its header says
    pub asked-count : length (tree_yards (decode tree)) ≡ tree_yard_count tree
    unfolding search_of
    asked-count = (accepted_of road tree a crews p).whole.yard-count ∙ decode-yards tree

    -- they are junctions of the road book
    pub asked-there : (y : ℕ) → Below i 0 y → y < junctions road
    unfolding search_of
    asked-there y b = omega (arith, below-range i (well_of road tree a crews p).shape b, count road tree a crews p)

    -- a limit of inner regions plus twice the yards settles, of a true tree plus twice the wanted yards
    pub asked-ends : (limit : ℕ) → inners (decode tree) + 2 * length (tree_yards (decode tree)) ≤ limit → T (answer i limit).settled
    unfolding search_of
    asked-ends limit h = accepted-ends i (accepted_of road tree a crews p) limit (two_way road tree a crews) (well_of road tree a crews p)
        (omega (arith, (accepted_of road tree a crews p).whole.yard-count))

    pub asked-settles : SoundInstance i → (limit : ℕ) → inners (decode tree) + 2 * length ys ≤ limit → T (answer i limit).settled
    unfolding search_of
    asked-settles sound limit h = sound_ends i (accepted_of road tree a crews p) limit (two_way road tree a crews) sound h
