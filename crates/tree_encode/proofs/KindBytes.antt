-- A kind byte, which a version 1 book does not have: how long it is, and that it is read back. Assumes nothing.
use mathlib.Core.Path.{◌≡◌, sym, ap, ◌∙◌}
use mathlib.Core.List.{List, [], ◌∷◌, ◌++◌}
use Prim.Native.Nat.{ℕ, ◌+◌, ◌<◌}
use native.Mathlib.Decide.{ℕ_discrete}
use native.Mathlib.Omega.{arith}
use lib.ListN.{length, set}
use lib.Dec.{eqb}
use Rattle.book.specs.Bytes.{Bytes}
use Rattle.book.specs.Writing.{write}
use Rattle.book.proofs.Choosing.{choose_yes, choose_no}
use Rattle.book.proofs.Lists.{eq→eqb, ne→neqb}
use Rattle.book.proofs.Writing.{Rest, read_u8, next_u8, bytes-none, bytes-cons, write-none, write_u8}
use Rattle.kinds.specs.Kinds.{kind_size, kind_at}
use Rattle.kinds.proofs.Reading.{size_none, size-one, kind-any, kind_byte}
use Rattle.tree_encode.specs.Encode.{kind_bytes}

none : (v kinds : ℕ) → v ≡ 1 → kind_bytes v kinds ≡ []
unfolding kind_bytes
none v kinds e = choose_yes (eqb v 1) _ _ (eq→eqb v 1 e)

one : (v kinds : ℕ) → (v ≡ 1 → ⊥) → kind_bytes v kinds ≡ kinds ∷ []
unfolding kind_bytes
one v kinds n = choose_no (eqb v 1) _ _ (ne→neqb v 1 n)

pub kind-length : (v kinds : ℕ) → length (kind_bytes v kinds) ≡ kind_size v
kind-length v kinds = go (ℕ_discrete v 1)
  where
    go : Dec (v ≡ 1) → length (kind_bytes v kinds) ≡ kind_size v
    go (yes e) = ap length (none v kinds e) ∙ sym (size_none v e)
    go (no n) = ap length (one v kinds n) ∙ sym (size-one v n)

pub kind-bytes : (v kinds : ℕ) → kinds < 256 → Bytes (kind_bytes v kinds)
kind-bytes v kinds h = go (ℕ_discrete v 1)
  where
    go : Dec (v ≡ 1) → Bytes (kind_bytes v kinds)
    go (yes e) = rw (none v kinds e) bytes-none
    go (no n) = rw (one v kinds n) (bytes-cons kinds [] h bytes-none)

-- it is read back, if it is 255 in version 1
module _ (v : ℕ) (b : List ℕ) (kinds at : ℕ) (s : List ℕ) (h : Rest b at (kind_bytes v kinds ++ s)) where
  pub kind-back : (v ≡ 1 → kinds ≡ 255) → kind_at v b at ≡ kinds
  kind-back any = go (ℕ_discrete v 1)
    where
      go : Dec (v ≡ 1) → kind_at v b at ≡ kinds
      go (yes e) = kind-any v b at e ∙ sym (any e)
      go (no n) = kind_byte v b at n ∙ read_u8 b at kinds s (rw (one v kinds n) at h)

  pub kind-next : Rest b (at + kind_size v) s
  kind-next = go (ℕ_discrete v 1)
    where
      go : Dec (v ≡ 1) → Rest b (at + kind_size v) s
      go (yes e) =
          let z : at + kind_size v ≡ at = omega (arith, size_none v e) in
          rw z (rw (none v kinds e) at h)
      go (no n) = rw (size-one v n) (next_u8 b at kinds s (rw (one v kinds n) at h))

-- as code writes it
pub kind_unwritten : (tree : List ℕ) (v at kinds : ℕ) → v ≡ 1 → tree ≡ write tree at (kind_bytes v kinds)
kind_unwritten tree v at kinds e = rw (none v kinds e) (sym (write-none tree at))

pub kind-written : (tree : List ℕ) (v at kinds : ℕ) → (v ≡ 1 → ⊥) → set tree at kinds ≡ write tree at (kind_bytes v kinds)
kind-written tree v at kinds n = rw (one v kinds n) (write_u8 tree at kinds)
