-- Two choices by one test. Assumes nothing.
use mathlib.Core.Bool.{Bool, not}
use lib.Dec.{T}
use Rattle.book.specs.Choose.{choose}
use Rattle.book.proofs.Choosing.{choose_case, choose_yes, choose_no}

pub choose-two : {A B : Type 0} (P : A → B → Type 0) (b : Bool) {x y : A} {u v : B} → (T b → P x u) → (T (not b) → P y v) → P (choose b x y) (choose b u v)
choose-two P b {x} {y} {u} {v} f g = choose_case (λ z. P z (choose b u v)) b (λ t. rw (choose_yes b u v t) (f t)) (λ t. rw (choose_no b u v t) (g t))
