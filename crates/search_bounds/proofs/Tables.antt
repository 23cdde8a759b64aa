-- What the rows of a search's landmark table give: LB, UB, a region's bound, and the landmark that a leaf picks. Assumes nothing.
use mathlib.Core.Path.{◌≡◌, refl, sym, ap, ◌∙◌}
use mathlib.Core.Logic.{◌≢◌}
use mathlib.Core.Bool.{not}
use mathlib.Core.List.{List, [], ◌∷◌, Memᴰ as Mem}
use Prim.Native.Nat.{ℕ, zero, suc, ◌+◌, ◌≤◌, ◌<◌, min, max}
use native.Mathlib.Omega.{arith}
use lib.ListN.{length, get_or, take}
use lib.Seq.{take_all}
use lib.Dec.{T, ltb}
use Rattle.book.proofs.Choosing.{choose-map}
use Rattle.book.proofs.Lists.{get_d_mem}
use Rattle.tree_layout.specs.Values.{Mark}
use Rattle.search_rules.specs.Instance.{Instance, marks}
use Rattle.search_rules.specs.Bounds.{abs_diff, greatest_of, least_of, table_at, lower, upper, mark_bound, bound, weight, best_of, chosen}
use Rattle.tree_layout.specs.Values.{no_mark}
use Rattle.search_rules.specs.Facts.{WellFormed}
use Rattle.search_rules.proofs.Bounds.{mark_bound-is}
use Rattle.search_rules.proofs.Turns.{greatest-take, least_first, least-take, best-first, best-take}
use Rattle.search_rules.proofs.Equations.{greatest-none, aggregate-same, greatest-same, lower-is, upper_is, bound-is, weight_is, chosen_is}
use Rattle.road.specs.code.Rows.{cell}
use Rattle.search_bounds.specs.code.Rows.{rows_lower, rows_upper}
use Rattle.search_bounds.specs.code.Bounds.{rows_mark, rows_crew, rows_bound, rows_weight, mark_weight, first_greatest, rows_chosen}
use Rattle.search_bounds.specs.code.Tables.{LandmarkTable}
use Rattle.search_bounds.proofs.Cells.{lower-none, lower-suc, upper-one, upper-suc}
use Rattle.search_bounds.proofs.Picking.{first_one, first-suc, first_below}

-- ---- LB and UB

greater_same : (a b c d : ℕ) → a ≡ c → b ≡ d → max a b ≡ max c d
greater_same a b c d e f = rw (e, f) refl

lesser_same : (a b c d : ℕ) → a ≡ c → b ≡ d → min a b ≡ min c d
lesser_same a b c d e f = rw (e, f) refl

module _ (i : Instance) (rows : ℕ) (table : List ℕ) (s : LandmarkTable i rows table) (l q : ℕ)
    (hl : l < i.tree.junctions) (hq : q < i.tree.junctions) where
  -- row r's words are those of the root's landmark r
  difference : (r : ℕ) → r < rows
      → abs_diff (cell table r l) (cell table r q) ≡ abs_diff (table_at i (get_or (marks i 0) r no_mark) l) (table_at i (get_or (marks i 0) r no_mark) q)
  difference r h = rw (s.filled r l h hl, s.filled r q h hq) refl

  both : (r : ℕ) → r < rows → cell table r l + cell table r q ≡ table_at i (get_or (marks i 0) r no_mark) l + table_at i (get_or (marks i 0) r no_mark) q
  both r h = rw (s.filled r l h hl, s.filled r q h hq) refl

  lower-rows : (r : ℕ) → r ≤ rows → rows_lower table r l q ≡ greatest_of (λ m. abs_diff (table_at i m l) (table_at i m q)) (take r (marks i 0))
  lower-rows zero h = lower-none table l q ∙ sym (greatest-none (λ m. abs_diff (table_at i m l) (table_at i m q)))
  lower-rows (suc r) h =
      let k : r < length (marks i 0) = omega (arith, s.count) in
      lower-suc table l q r ∙ greater_same _ _ _ _ (lower-rows r (omega arith)) (difference r (omega arith))
      ∙ sym (greatest-take (λ m. abs_diff (table_at i m l) (table_at i m q)) (marks i 0) r k)

  pub lower_table : rows_lower table rows l q ≡ lower i l q
  lower_table =
      lower-rows rows (omega arith)
      ∙ ap (greatest_of (λ m. abs_diff (table_at i m l) (table_at i m q))) (take_all rows (marks i 0) (omega (arith, s.count))) ∙ sym (lower-is i l q)

  upper-rows : (r : ℕ) → 0 < r → r ≤ rows → rows_upper table r l q ≡ least_of (λ m. table_at i m l + table_at i m q) (take r (marks i 0))
  upper-rows zero h k = absurd (omega arith)
  upper-rows (suc zero) h k =
      upper-one table l q ∙ both 0 (omega arith) ∙ sym (least_first (λ m. table_at i m l + table_at i m q) (marks i 0) (omega (arith, s.count)))
  upper-rows (suc (suc r)) h k =
      let n : suc r < length (marks i 0) = omega (arith, s.count) in
      upper-suc table l q (suc r) (omega arith) ∙ lesser_same _ _ _ _ (upper-rows (suc r) (omega arith) (omega arith)) (both (suc r) (omega arith))
      ∙ sym (least-take (λ m. table_at i m l + table_at i m q) (marks i 0) (suc r) (omega arith) n)

  pub upper_table : rows_upper table rows l q ≡ upper i l q
  upper_table =
      upper-rows rows (omega (arith, s.limits.some)) (omega arith)
      ∙ ap (least_of (λ m. table_at i m l + table_at i m q)) (take_all rows (marks i 0) (omega (arith, s.count))) ∙ sym (upper_is i l q)

-- ---- regions and leaves

module _ (i : Instance) (well : WellFormed i) (rows : ℕ) (table : List ℕ) (s : LandmarkTable i rows table) where
  mark_table : (r q : ℕ) (k : Mark) → Mem k (marks i r) → Mem q i.crews → rows_mark table rows q k ≡ mark_bound i q k
  unfolding rows_mark
  mark_table r q k m c =
      let hl = well.shape.places r k m in
      let hq = well.shape.crews q c in
      rw (lower_table i rows table s k.place q hl hq, upper_table i rows table s k.place q hl hq) (sym (mark_bound-is i q k))

  crew_table : (r q : ℕ) → Mem q i.crews → rows_crew table rows (marks i r) q ≡ greatest_of (mark_bound i q) (marks i r)
  unfolding rows_crew
  crew_table r q c = greatest-same (rows_mark table rows q) (mark_bound i q) (marks i r) (λ k m. mark_table r q k m c)

  -- a region's bound
  pub bound_table : T (not i.one_way) → (r : ℕ) → rows_bound table rows i.code i.crews (marks i r) ≡ bound i r
  unfolding rows_bound
  bound_table two r =
      aggregate-same i.code (rows_crew table rows (marks i r)) (λ q. greatest_of (mark_bound i q) (marks i r)) i.crews (λ q c. crew_table r q c)
      ∙ sym (bound-is i two r)

  -- a landmark's sum of LB
  pub weight_table : (r : ℕ) (k : Mark) → Mem k (marks i r) → rows_weight table rows i.crews k.place ≡ weight i k
  unfolding rows_weight
  weight_table r k m =
      aggregate-same 0 (rows_lower table rows k.place) (lower i k.place) i.crews
      (λ q c. lower_table i rows table s k.place q (well.shape.places r k m) (well.shape.crews q c))
      ∙ sym (weight_is i k)

  module _ (r : ℕ) where
    numbered : (j : ℕ) → j < length (marks i r) → mark_weight table rows i.crews (marks i r) j ≡ weight i (get_or (marks i r) j no_mark)
    unfolding mark_weight
    numbered j h = weight_table r (get_or (marks i r) j no_mark) (get_d_mem (marks i r) j no_mark h)

    abbrev first : ℕ → ℕ
    first = first_greatest (mark_weight table rows i.crews (marks i r))

    chosen-rows : (j : ℕ) → 0 < j → j ≤ length (marks i r) → get_or (marks i r) (first j) no_mark ≡ best_of i (take j (marks i r))
    chosen-rows zero h k = absurd (omega arith)
    chosen-rows (suc zero) h k = rw (first_one (mark_weight table rows i.crews (marks i r))) (sym (best-first i (marks i r) k))
    chosen-rows (suc (suc j)) h k =
        let e = chosen-rows (suc j) (omega arith) (omega arith) in
        let p = numbered (first (suc j)) (omega (arith, first_below (mark_weight table rows i.crews (marks i r)) (suc j) (omega arith))) in
        let n = numbered (suc j) (omega arith) in
        let later = ltb (weight i (get_or (marks i r) (first (suc j)) no_mark)) (weight i (get_or (marks i r) (suc j) no_mark)) in
        rw (first-suc (mark_weight table rows i.crews (marks i r)) (suc j), p, n, best-take i (marks i r) (suc j) (omega arith) (omega arith), ← e)
        (choose-map (λ (x : ℕ). get_or (marks i r) x no_mark) later (suc j) (first (suc j)))

    some : marks i r ≢ [] → 0 < length (marks i r)
    some n = positive (marks i r) n
      where
        positive : (ms : List Mark) → ms ≢ [] → 0 < length ms
        positive [] n = absurd (n refl)
        positive (m ∷ ms) n = omega arith

    -- the landmark that is picked
    pub chosen_table : T (not i.one_way) → marks i r ≢ [] → get_or (marks i r) (rows_chosen table rows i.crews (marks i r)) no_mark ≡ chosen i r
    unfolding rows_chosen
    chosen_table two n =
        chosen-rows (length (marks i r)) (some n) (omega arith) ∙ ap (best_of i) (take_all (length (marks i r)) (marks i r) (omega arith))
        ∙ sym (chosen_is i two r)

    -- and its number
    pub chosen-below : marks i r ≢ [] → rows_chosen table rows i.crews (marks i r) < length (marks i r)
    unfolding rows_chosen
    chosen-below n = first_below (mark_weight table rows i.crews (marks i r)) (length (marks i r)) (some n)
