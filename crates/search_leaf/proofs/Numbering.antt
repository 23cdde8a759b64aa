-- An element of a leaf's list by its number. Assumes nothing.
use mathlib.Core.Path.{◌≡◌, refl, sym, ap, ◌∙◌}
use mathlib.Core.List.{List, Memᴰ as Mem}
use Prim.Native.Nat.{ℕ, zero, suc, ◌+◌, ◌≤◌, ◌<◌}
use native.Mathlib.Omega.{arith}
use lib.ListN.{length, get_or}
use Rattle.book.proofs.Lists.{get_d_mem}
use Rattle.tree_layout.specs.Values.{Element}
use Rattle.tree_layout.specs.Sizes.{element_size, list_size}
use Rattle.tree_layout.specs.Decode.{element_at, read_list}
use Rattle.tree_layout.specs.Reading.{element}
use Rattle.tree_layout.specs.code.Accessors.{listed_at}
use Rattle.tree_layout.specs.declared.Listed.{Listed}
use Rattle.tree_layout.proofs.Sizes.{list-zero, list-more, list-room}
use Rattle.tree_layout.proofs.Decoding.{read_list-next}
use Rattle.tree_layout.proofs.Accessing.{listed-is}
use Rattle.tree_layout.proofs.Formed.{read_list-length}

-- where element number k stands
read_at : (v : ℕ) (p : List ℕ) (n at k : ℕ) (d : Element) → k < n → get_or (read_list v p n at) k d ≡ element_at v p (at + list_size v k)
read_at v p zero at k d h = absurd (omega arith)
read_at v p (suc n) at zero d h = let z : at + list_size v 0 ≡ at = omega (arith, list-zero v) in rw (z, read_list-next v p n at) refl
read_at v p (suc n) at (suc k) d h =
    let z : at + list_size v (suc k) ≡ at + element_size v + list_size v k = omega (arith, list-more v k) in
    rw (z, read_list-next v p n at) (read_at v p n (at + element_size v) k d (omega arith))

module _ (v : ℕ) (p : List ℕ) (n k : ℕ) (h : k < n) where
  -- it lies in the list
  pub element-fits : n ≤ 65535 → list_size v n ≤ length p → (k ≤ 65535) × (list_size v k + element_size v ≤ length p)
  element-fits few room = (omega arith, omega (arith, list-room v k n h))

  -- as it is read
  module _ (e : Listed) (q : e ≡ listed_at v p k) where
    pub listed-at : (d : Element) → get_or (read_list v p n 0) k d ≡ element e.distance e.yard.number e.kinds
    listed-at d =
        let z : 0 + list_size v k ≡ list_size v k = omega arith in
        read_at v p n 0 k d h ∙ (ap (element_at v p) z ∙ sym (listed-is v p k e q))

    pub listed-mem : Mem (element e.distance e.yard.number e.kinds) (read_list v p n 0)
    listed-mem = rw (← listed-at (element 0 0 0)) (get_d_mem (read_list v p n 0) k (element 0 0 0) (omega (arith, read_list-length v p n 0)))
