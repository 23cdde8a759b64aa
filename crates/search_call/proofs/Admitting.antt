-- On a tree that passes, a region shares a wanted bit exactly if a yard below it does. Assumes nothing.
use mathlib.Core.Path.{◌≡◌, refl}
use mathlib.Core.List.{List, Memᴰ as Mem}
use Prim.Native.Nat.{ℕ, ◌<◌}
use lib.ListN.{length}
use lib.Dec.{T}
use Rattle.kinds.specs.Kinds.{shares}
use Rattle.kinds.proofs.Laws.{shares_bit, shared_bit}
use Rattle.yard.specs.Yards.{kind_of}
use Rattle.tree_layout.specs.Values.{Region, region_at}
use Rattle.tree_layout.specs.Decode.{decode}
use Rattle.tree.specs.Shape.{tree_refusal}
use Rattle.tree.specs.Yards.{yards_below, kinds_of}
use Rattle.tree.proofs.Ranges.{below-tree}
use Rattle.check_rules.specs.Facts.{TrueKinds}
use Rattle.check_tree.specs.Check.{check_answer}
use Rattle.check_tree.proofs.Passing.{passed-laid, passed-kinds, passed_own}
use Rattle.search_rules.specs.Rule.{Asking}
use Rattle.search_rules.specs.Books.{search_of}
use Rattle.search_rules.proofs.Trees.{TrueKinds as Admits}
use Rattle.search_rules.proofs.ByKinds.{asked-kinds}

module _ (road yard tree : List ℕ) (work : ℕ) (e : check_answer road yard tree work ≡ 0) where
  abbrev rs : List Region
  rs = (decode tree).regions

  ok : tree_refusal tree ≡ 0
  ok = (passed-laid road yard tree work e).shape

  kinds : TrueKinds (kind_of yard) (decode tree)
  kinds = passed-kinds road yard tree work e

  -- a region shares a bit exactly if a yard below it does
  module _ (w r : ℕ) (h : r < length rs) where
    pub region_shares : (y : ℕ) → Mem y (yards_below rs r) → T (shares w (kinds_of (decode tree) y)) → T (shares w (region_at rs r).kinds)
    region_shares y k t =
        let s : T (shares w (kind_of yard y)) = rw (passed_own road yard tree work e y (below-tree tree ok r y h k)) at t in
        let (j, b, c) = shared_bit w (kind_of yard y) s in
        shares_bit w (region_at rs r).kinds j b ((kinds.regions r h).every j y (kind_of yard y) k refl c)

    pub yard-shares : T (shares w (region_at rs r).kinds) → (y : ℕ) × Mem y (yards_below rs r) × T (shares w (kinds_of (decode tree) y))
    yard-shares t =
        let (j, b, c) = shared_bit w (region_at rs r).kinds t in
        let (y, k, m, q, d) = (kinds.regions r h).some j c in
        (y, m, rw (passed_own road yard tree work e y (below-tree tree ok r y h m), q) (shares_bit w k j b d))

  -- so a search admits exactly the regions that hold a wanted yard
  pub admits : (a : Asking) (crews : List ℕ) → Admits (search_of road tree a crews)
  admits a crews =
      asked-kinds road tree a crews (λ r y h. region_shares a.wanted r h y) (λ r h. yard-shares a.wanted r h)
