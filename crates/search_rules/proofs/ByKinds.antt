-- What a search of two books wants, by the tree book's own bytes. Assumes nothing.
use mathlib.Core.Path.{◌≡◌, refl}
use mathlib.Core.Bool.{not}
use mathlib.Core.List.{List, Memᴰ as Mem}
use Prim.Native.Nat.{ℕ, ◌<◌}
use lib.ListN.{length}
use lib.Dec.{T}
use Rattle.book.specs.Lists.{keep_if}
use Rattle.kinds.specs.Kinds.{shares}
use Rattle.tree_layout.specs.Values.{Region, region_at}
use Rattle.tree_layout.specs.Decode.{decode}
use Rattle.tree.specs.Yards.{yards_below, tree_yards, kinds_of}
use Rattle.search_rules.specs.Rule.{Asking}
use Rattle.search_rules.specs.Instance.{Instance}
use Rattle.search_rules.specs.Books.{search_of, Passed}
use Rattle.search_rules.specs.Facts.{Holds}
use Rattle.search_rules.proofs.Trees.{TrueKinds, tree-holds}
use Rattle.search_rules.proofs.Books.{accepted_of}

module _ (road tree : List ℕ) (a : Asking) (crews : List ℕ) where
  abbrev i : Instance
  i = search_of road tree a crews

  abbrev rs : List Region
  rs = (decode tree).regions

  -- the tree's wanted yards
  pub asked-wanted : keep_if i.wants (tree_yards (decode tree)) ≡ keep_if (λ y. shares a.wanted (kinds_of (decode tree) y)) (tree_yards (decode tree))
  unfolding search_of
  asked-wanted = refl

  -- a region that may enter the queue has a wanted bit
  pub asked_in : (r : ℕ) → T (i.admits r) → T (shares a.wanted (region_at rs r).kinds)
  unfolding search_of
  asked_in r t = t

  -- a root without a wanted bit may not enter the queue
  pub asked_out : T (not (shares a.wanted (region_at rs 0).kinds)) → T (not (i.admits 0))
  unfolding search_of
  asked_out t = t

  -- each yard of the tree is held by the root, wanted or not
  pub asked-held : Passed road tree crews → (y : ℕ) → Mem y (tree_yards (decode tree)) → Holds i 0 y
  unfolding search_of
  asked-held p y k = tree-holds i (accepted_of road tree a crews p) y k

  -- its kinds are true if a region shares a wanted bit exactly if a yard below it does
  pub asked-kinds : ((r y : ℕ) → r < length rs → Mem y (yards_below rs r) → T (shares a.wanted (kinds_of (decode tree) y))
      → T (shares a.wanted (region_at rs r).kinds))
      → ((r : ℕ) → r < length rs → T (shares a.wanted (region_at rs r).kinds)
      → (y : ℕ) × Mem y (yards_below rs r) × T (shares a.wanted (kinds_of (decode tree) y)))
      → TrueKinds i
  unfolding search_of
  asked-kinds up down = record { admitted = up; wanted = down }
