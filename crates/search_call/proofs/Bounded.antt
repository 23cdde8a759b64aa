-- Every yard of an accepted tree has exactly one bound. Assumes nothing.
use mathlib.Core.Path.{◌≡◌, refl, sym, ◌∙◌}
use mathlib.Core.List.{Memᴰ as Mem}
use Prim.Native.Nat.{ℕ, ◌<◌}
use native.Mathlib.Omega.{arith}
use Rattle.tree_layout.specs.Values.{Element}
use Rattle.search_rules.specs.Instance.{Instance, size, marks}
use Rattle.search_rules.specs.Bounds.{chosen, yard_bound}
use Rattle.search_rules.specs.Facts.{Listed, Holds, listed, child's, Shape}
use Rattle.search_rules.proofs.Bounds.{chosen-mem}
use Rattle.search_rules.proofs.Trees.{Accepted, holds-range}
use Rattle.search_rules.proofs.Steps.{size_is}
use Rattle.search_call.specs.Demand.{BoundIn}

module _ (i : Instance) (shape : Shape i) where
  picks : (r : ℕ) → r < size i → Mem (chosen i r) (marks i r)
  picks r h = chosen-mem i r (shape.marked r h)

  -- in the leaf that names it, wanted or not
  pub has-bound : Accepted i.tree → {r y : ℕ} → Holds i r y → (b : ℕ) × BoundIn i y b
  has-bound a (listed {r = r} {y = y} m l j x) =
      let h : r < size i = omega (arith, size_is i, holds-range i a (listed {r = r} {y = y} m l j x)) in
      let z : Listed (chosen i r) y = shape.alike r m (chosen i r) y l j (picks r h) x in (
        yard_bound i (chosen i r) z.element,
        record {
          home = r;
          number = h;
          is_leaf = l;
          element = z.element;
          in_list = z.mem;
          names = z.names;
          value = refl;
        },
      )
  has-bound a (child's c l j b) = has-bound a b

  same-value : (r s : ℕ) (e g : Element) → r ≡ s → e ≡ g → yard_bound i (chosen i r) e ≡ yard_bound i (chosen i s) g
  same-value r s e g p q = rw (p, q) refl

  -- no yard is in two leaves, nor twice in a list
  pub one-bound : (y b c : ℕ) → BoundIn i y b → BoundIn i y c → b ≡ c
  one-bound y b c u v = u.value ∙ same-value u.home v.home u.element v.element home element ∙ sym v.value
    where
      stands : (w : ℕ) (x : BoundIn i y w) → Listed (chosen i x.home) y
      stands w x = record { element = x.element; mem = x.in_list; names = x.names }

      home : u.home ≡ v.home
      home = shape.one-leaf u.home v.home (chosen i u.home) (chosen i v.home) y u.is_leaf v.is_leaf (picks u.home u.number) (picks v.home v.number) (stands b u) (stands c v)

      element : u.element ≡ v.element
      element = shape.once-listed v.home (chosen i v.home) u.element v.element v.is_leaf (picks v.home v.number) (rw home at u.in_list) v.in_list (u.names ∙ sym v.names)
