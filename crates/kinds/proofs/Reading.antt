-- Sizes and kinds by the version. Assumes nothing.
use mathlib.Core.Path.{◌≡◌}
use mathlib.Core.List.{List}
use Prim.Native.Nat.{ℕ, ◌≤◌, ◌<◌}
use native.Mathlib.Omega.{arith}
use lib.Dec.{eqb}
use Rattle.book.specs.Bytes.{u8_at, Bytes}
use Rattle.book.proofs.Choosing.{choose_case, choose_yes, choose_no}
use Rattle.book.proofs.Laws.{u8_small}
use Rattle.book.proofs.Lists.{eq→eqb, ne→neqb}
use Rattle.kinds.specs.Kinds.{kind_size, kind_at}

pub size_none : (v : ℕ) → v ≡ 1 → kind_size v ≡ 0
unfolding kind_size
size_none v e = choose_yes (eqb v 1) 0 1 (eq→eqb v 1 e)

pub size-one : (v : ℕ) → (v ≡ 1 → ⊥) → kind_size v ≡ 1
unfolding kind_size
size-one v n = choose_no (eqb v 1) 0 1 (ne→neqb v 1 n)

-- a kind takes up one byte at most
pub size-most : (v : ℕ) → kind_size v ≤ 1
unfolding kind_size
size-most v = choose_case (λ n. n ≤ 1) (eqb v 1) (λ _. omega arith) (λ _. omega arith)

pub kind-any : (v : ℕ) (b : List ℕ) (at : ℕ) → v ≡ 1 → kind_at v b at ≡ 255
unfolding kind_at
kind-any v b at e = choose_yes (eqb v 1) 255 (u8_at b at) (eq→eqb v 1 e)

pub kind_byte : (v : ℕ) (b : List ℕ) (at : ℕ) → (v ≡ 1 → ⊥) → kind_at v b at ≡ u8_at b at
unfolding kind_at
kind_byte v b at n = choose_no (eqb v 1) 255 (u8_at b at) (ne→neqb v 1 n)

-- it is a byte, in a book of bytes
pub kind-small : (v : ℕ) (b : List ℕ) (at : ℕ) → Bytes b → kind_at v b at < 256
unfolding kind_at
kind-small v b at h = choose_case (λ n. n < 256) (eqb v 1) (λ _. omega arith) (λ _. u8_small b h at)
