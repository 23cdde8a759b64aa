-- What the ceiling is, and that a yard above it changes nothing in what is held. Assumes nothing.
use mathlib.Core.Path.{◌≡◌, refl, ap, ◌∙◌}
use mathlib.Core.Option.{Option, some}
use mathlib.Core.List.Memᴰ.{head}
use mathlib.Core.List.Memᴰ.{tail}
use mathlib.Core.List.{List, [], ◌∷◌, ◌++◌, Memᴰ as Mem}
use Prim.Native.Nat.{ℕ, ◌<◌}
use native.Mathlib.Omega.{arith}
use lib.ListN.{length, length-append, take}
use lib.Dec.{T, not_T, leb, eqb, ltb→lt, leb→le, eqb→eq}
use Rattle.book.proofs.Choosing.{choose_case, choose_yes, choose_no, eq→eqb}
use Rattle.search_rules.specs.Rule.{nearest, in_drive}
use Rattle.search_rules.specs.Order.{Entry, yard_first}
use Rattle.search_rules.specs.Held.{insert, hold, last_distance, greatest_held}
use Rattle.search_rules.specs.Keeping.{keep_by}
use Rattle.search_rules.specs.Ceiling.{exceeds, ceiling_by, CeilingsTrue, AboveKept}
use Rattle.search_rules.proofs.Order.{first_before, before_le}
use Rattle.search_rules.proofs.Held.{greatest_held-le}

-- the last of some yards
last_is : (x : ℕ) (before : List Entry) (e : Entry) → last_distance x (before ++ (e ∷ [])) ≡ e.distance
unfolding last_distance
last_is x [] e = refl
last_is x (b ∷ before) e = last_is b.distance before e

pub ceilings_true : CeilingsTrue
unfolding ceiling_by greatest_held
ceilings_true = record {
  full = λ before e.
      choose_yes _ _ _ (eq→eqb (length (before ++ (e ∷ []))) _ (omega (arith, length-append before (e ∷ [])))) ∙ ap some (last_is 0 before e);
  short = λ k held h. choose_no (eqb (length held) k) _ _ (not_T (eqb (length held) k) (λ t. omega (arith, eqb→eq (length held) k t)));
  drive = λ seconds held. refl;
}

-- a yard further than all of a list goes after its last
insert_past : (e : Entry) (l : List Entry) → ((h : Entry) → Mem h l → h.distance < e.distance) → take (length l) (insert e l) ≡ l
unfolding insert
insert_past e [] far = refl
insert_past e (g ∷ l) far = let rest = insert_past e l (λ h m. far h (tail m)) in
    choose_case (λ (x : List Entry). take (length (g ∷ l)) x ≡ g ∷ l) (yard_first e g)
    (λ t. absurd (omega (arith, before_le (first_before e g t), far g (head refl)))) (λ t. ap (λ (x : List Entry). g ∷ x) rest)

pub above_kept : AboveKept
unfolding exceeds ceiling_by keep_by hold
above_kept (nearest k) held sorted e =
    choose_case (λ (c : Option ℕ). T (exceeds c e.distance) → take k (insert e held) ≡ held) (eqb (length held) k)
    (λ full t. rw (← eqb→eq (length held) k full) (insert_past e held (λ h m. omega (arith, greatest_held-le h held sorted m, ltb→lt (greatest_held held) e.distance t))))
    (λ short t. absurd t)
above_kept (in_drive seconds) held sorted e = λ t.
    choose_no (leb e.distance seconds) _ _ (not_T (leb e.distance seconds) (λ u. omega (arith, leb→le e.distance seconds u, ltb→lt seconds e.distance t)))
