-- Which facts lead to which answer of `road_layout_refusal`. Assumes nothing.
use mathlib.Core.Path.{◌≡◌, refl, sym, ◌∙◌}
use mathlib.Core.Bool.{true, false}
use mathlib.Core.List.{List, [], ◌∷◌}
use Prim.Native.Nat.{ℕ, zero, suc, ◌+◌, ◌*◌, ◌≤◌, ◌<◌}
use native.Mathlib.Omega.{arith}
use borrow.Author.Tests.{le-leb, lt-leb, eq-eqb, ne_eqb}
use lib.ListN.{length}
use lib.Dec.{leb, eqb}
use Rattle.book.specs.Choose.{refuse}
use Rattle.book.specs.Cases.{case_of}
use Rattle.book.specs.Open.{open_refusal, opened, Refused as unread}
use Rattle.book.proofs.Choosing.{first-later, first-earlier, passes_if, fails_if}
use Rattle.book.proofs.Opening.{opened-refused}
use Rattle.road_layout.specs.Road.{junctions, road_count}
use Rattle.road_layout.specs.Layout.{roads_ok, road_layout_refusal, Sound, Refused, told, road_case}

-- a refusal's number is what is told
pub told-refused : (x j r : ℕ) → 1 ≤ x → told x j r ≡ Refused x
unfolding told
told-refused zero j r h = absurd (omega arith)
told-refused (suc x) j r h = refl

pub told-zero : (x j r : ℕ) → x ≡ 0 → told x j r ≡ Sound j r
unfolding told
told-zero x j r e = rw e refl

-- and back: what was told gives the number, or that there is none
pub told_why : (x j r why : ℕ) → told x j r ≡ Refused why → (x ≡ why) × (1 ≤ why)
unfolding told
told_why zero j r why e = let z : ◌≡◌ {A = ℕ} 0 1 = cc in absurd (omega arith)
told_why (suc x) j r why e =
    let q : suc x ≡ why = cc in
    (q, omega arith)

pub told_sound : (x j r n m : ℕ) → told x j r ≡ Sound n m → (x ≡ 0) × (n ≡ j) × (m ≡ r)
unfolding told
told_sound zero j r n m e = (refl, cc, cc)
told_sound (suc x) j r n m e = let z : ◌≡◌ {A = ℕ} 0 1 = cc in absurd (omega arith)

-- a book that does not open
pub unopened : (b : List ℕ) (why : ℕ) → unread why ≡ opened (open_refusal b 1 4) → Refused why ≡ told (road_layout_refusal b) (junctions b) (road_count b)
unfolding road_layout_refusal
unopened b why e =
    let p = opened-refused (open_refusal b 1 4) why (sym e) in
    rw (first-earlier (open_refusal b 1 4) _ (omega (arith, p.0, p.1)), p.0) (sym (told-refused why (junctions b) (road_count b) p.1))

module _ (b : List ℕ) (o : open_refusal b 1 4 ≡ 0) (n count : ℕ) (en : n ≡ junctions b) (ec : count ≡ road_count b) where
  -- an answer, from the number that the tests give
  pub refused : (x : ℕ) → road_layout_refusal b ≡ x → 1 ≤ x → Refused x ≡ told (road_layout_refusal b) (junctions b) (road_count b)
  refused x e h = rw e (sym (told-refused x (junctions b) (road_count b) h))

  pub sound : road_layout_refusal b ≡ 0 → Sound n count ≡ told (road_layout_refusal b) (junctions b) (road_count b)
  unfolding told
  sound e = rw (e, en, ec) refl

  pub no_junction : n < 1 → road_layout_refusal b ≡ 3
  unfolding road_layout_refusal
  no_junction p = first-later _ _ o ∙ fails_if _ _ _ (lt-leb _ _ (rw en at p))

  pub many_junctions : 1 ≤ n → 1024 < n → road_layout_refusal b ≡ 3
  unfolding road_layout_refusal
  many_junctions p q =
      first-later _ _ o ∙ passes_if _ _ _ (le-leb _ _ (rw en at p)) ∙ fails_if _ _ _ (lt-leb _ _ (rw en at q))

  module _ (p : 1 ≤ n) (q : n ≤ 1024) where
    counted : road_layout_refusal b
        ≡ refuse (leb count 4096) 3
        (refuse (eqb (length b) (9 + 6 * count)) 4 (refuse (roads_ok b n count 0 0 0) 5 0))
    unfolding road_layout_refusal
    counted =
        first-later _ _ o ∙ passes_if _ _ _ (le-leb _ _ (rw en at p)) ∙ passes_if _ _ _ (le-leb _ _ (rw en at q)) ∙ rw (en, ec) refl

    pub many_roads : 4096 < count → road_layout_refusal b ≡ 3
    many_roads r = counted ∙ fails_if _ _ _ (lt-leb _ _ r)

    pub misfit : count ≤ 4096 → (length b ≡ 9 + 6 * count → ⊥) → road_layout_refusal b ≡ 4
    misfit r s = counted ∙ passes_if _ _ _ (le-leb _ _ r) ∙ fails_if _ _ _ (ne_eqb _ _ s)

    pub wrong : count ≤ 4096 → length b ≡ 9 + 6 * count → roads_ok b n count 0 0 0 ≡ false → road_layout_refusal b ≡ 5
    wrong r s t = counted ∙ passes_if _ _ _ (le-leb _ _ r) ∙ passes_if _ _ _ (eq-eqb _ _ s) ∙ fails_if _ _ _ t

    pub right : count ≤ 4096 → length b ≡ 9 + 6 * count → roads_ok b n count 0 0 0 ≡ true → road_layout_refusal b ≡ 0
    right r s t = counted ∙ passes_if _ _ _ (le-leb _ _ r) ∙ passes_if _ _ _ (eq-eqb _ _ s) ∙ passes_if _ _ _ t

-- an answer in the paper's numbers
pub told_case : (x j r : ℕ) → road_case (told x j r) ≡ case_of x (j ∷ r ∷ [])
unfolding road_case told
told_case zero j r = refl
told_case (suc x) j r = refl
