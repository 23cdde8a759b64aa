-- f, and a yard's bound, one crew at a time. Assumes nothing.
use mathlib.Core.Path.{◌≡◌, refl, ◌∙◌}
use mathlib.Core.List.{List, Memᴰ as Mem}
use Prim.Native.Nat.{ℕ, ◌+◌, ◌*◌, ◌≤◌, ◌<◌, max}
use native.Mathlib.Numerals.{add-one}
use native.Mathlib.Omega.{arith}
use lib.ListN.{length, get_or}
use Rattle.book.proofs.Lists.{get_d_mem}
use Rattle.search_rules.specs.Bounds.{abs_diff, combine, aggregate}
use Rattle.search_rules.proofs.Measures.{combine-most}
use Rattle.search_rules.proofs.Limits.{abs_diff_most}
use Rattle.search_bounds.specs.code.Rows.{rows_lower}
use Rattle.search_bounds.specs.code.Measures.{longest, Short, f_by, crew_abs_diff, yard_bound_by}

-- f is the aggregate of the differences
pub f-all : (code : ℕ) (out : List ℕ) (distance r : ℕ) → r ≡ aggregate code (λ x. abs_diff x distance) out → r ≡ f_by code out distance
unfolding f_by
f-all code out distance r e = e

-- one difference
pub diff_short : (out : List ℕ) (distance j x : ℕ) → Short out → distance ≤ longest → j < length out → x ≡ abs_diff (get_or out j 0) distance → x ≤ longest
diff_short out distance j x short h k e = rw e (abs_diff_most (get_or out j 0) distance longest (short (get_or out j 0) (get_d_mem out j 0 k)) h)

-- ---- a yard's bound, with j crews done

module _ (code : ℕ) (table : List ℕ) (rows : ℕ) (crews out : List ℕ) (yard distance : ℕ) where
  pub record Bounding (j total : ℕ) : Type 0 where
    pub inside : j ≤ length crews
    pub so_far : total ≡ yard_bound_by code table rows crews out yard distance j
    pub low : total ≤ j * longest

  pub bounding_none : Bounding 0 0
  unfolding yard_bound_by
  bounding_none = record { inside = omega arith; so_far = refl; low = omega arith }

  pub bounding_more : (j total : ℕ) → Bounding j total → (x r : ℕ) → j < length crews → x ≡ crew_abs_diff table rows crews out yard distance j
      → x ≤ longest → r ≡ combine code total x → Bounding (j + 1) r
  unfolding yard_bound_by
  bounding_more j total b x r h e small k = record {
    inside = omega arith;
    so_far = k ∙ rw (e, b.so_far, add-one j) refl;
    low = omega (arith, combine-most code total x, b.low);
  }

  pub bounding_all : (j total : ℕ) → Bounding j total → length crews ≤ j → total ≡ yard_bound_by code table rows crews out yard distance (length crews)
  bounding_all j total b h = let e : j ≡ length crews = omega (arith, b.inside) in rw (← e) b.so_far

-- crew number j's greatest difference, by the two that were computed
pub crew_abs_diff_lem : (table : List ℕ) (rows : ℕ) (crews out : List ℕ) (yard distance j x y r : ℕ) → x ≡ rows_lower table rows yard (get_or crews j 0)
    → y ≡ abs_diff (get_or out j 0) distance → r ≡ max x y → r ≡ crew_abs_diff table rows crews out yard distance j
unfolding crew_abs_diff
crew_abs_diff_lem table rows crews out yard distance j x y r e g k = k ∙ rw (e, g) refl

-- it is short if the distances are
pub crew-short : (table : List ℕ) (rows : ℕ) (crews out : List ℕ) (yard distance j x : ℕ) → x ≡ crew_abs_diff table rows crews out yard distance j
    → Short out → distance ≤ longest → ((q : ℕ) → Mem q crews → rows_lower table rows yard q ≤ longest) → length out ≡ length crews → j < length crews
    → x ≤ longest
unfolding crew_abs_diff
crew-short table rows crews out yard distance j x e short h low same k =
    omega (arith, low (get_or crews j 0) (get_d_mem crews j 0 k), diff_short out distance j (abs_diff (get_or out j 0) distance) short h (omega arith) refl)
