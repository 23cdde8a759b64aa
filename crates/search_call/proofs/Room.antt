-- The result area has two words for each yard listed, whatever the books say. Assumes nothing.
use mathlib.Core.Path.{◌≡◌, ap}
use mathlib.Core.Logic.{◌⊎◌, inl, inr}
use mathlib.Core.Bool.{not}
use mathlib.Core.List.{List}
use mathlib.Core.Option.{Option, none, some}
use Prim.Native.Nat.{ℕ, ◌*◌, ◌≤◌}
use native.Mathlib.Omega.{arith}
use lib.ListN.{length}
use lib.Dec.{T, eqb, eqb→eq}
use Rattle.book.specs.Bytes.{Bytes}
use Rattle.book.specs.Lists.{keep_if}
use Rattle.book.proofs.Choosing.{T-split}
use Rattle.book.proofs.Lists.{neqb→ne, kept-length}
use Rattle.tree_layout.specs.Decode.{decode}
use Rattle.tree.specs.Yards.{tree_yards}
use Rattle.query.specs.Query.{k_of, limit_of, crews_of}
use Rattle.search_rules.specs.Books.{Passed}
use Rattle.search_rules.proofs.Books.{well_of}
use Rattle.search_rules.proofs.Asked.{asked-rule, asked_covers, asked-count}
use Rattle.search_rules.proofs.Few.{answer-few}
use Rattle.search_rules.proofs.Theorems.{answer-spent, listed-few}
use Rattle.search_call.specs.Call.{Want, want_nearest, want_within, asking_by, most_yards, Found, refused, accepted, search_refusal, search_in, search_answer, search_found}
use Rattle.search_call.specs.code.Accepted.{AcceptedSearch}
use Rattle.search_call.proofs.Calls.{tests, found-accepted, found-refused}

-- no more yards are listed than the result area must hold: k, or the tree's
k-most : (road tree query : List ℕ) (kinds : ℕ) → length (search_answer road tree query (want_nearest kinds)).listed ≤ k_of query
k-most road tree query kinds =
    answer-few (search_in road tree query (want_nearest kinds)) (k_of query) (asked-rule road tree (asking_by query (want_nearest kinds)) (crews_of query))
    (limit_of query)

pub listed-most : (road tree query : List ℕ) (want : Want) → Passed road tree (crews_of query) → T (search_answer road tree query want).settled
    → length (search_answer road tree query want).listed ≤ most_yards tree query want
listed-most road tree query want p t = by_drive want.kinds want.drive t
  where
    by_drive : (kinds : ℕ) (drive : Option ℕ) → T (search_answer road tree query (record { kinds = kinds; drive = drive })).settled
        → length (search_answer road tree query (record { kinds = kinds; drive = drive })).listed ≤ most_yards tree query (record { kinds = kinds; drive = drive })
    by_drive kinds none t = k-most road tree query kinds
    by_drive kinds (some seconds) t =
        let a = asking_by query (want_within kinds seconds) in
        let i = search_in road tree query (want_within kinds seconds) in
        omega (
          arith,
          listed-few i (well_of road tree a (crews_of query) p) (limit_of query) t (keep_if i.wants (tree_yards (decode tree)))
              (asked_covers road tree a (crews_of query) p),
          kept-length i.wants (tree_yards (decode tree)),
          asked-count road tree a (crews_of query) p,
        )

-- what is returned as their number fits, if what is listed by an accepted call does
module _ (road tree query : List ℕ) (want : Want) (work results : ℕ) where
  abbrev why : ℕ
  why = search_refusal road tree query want work results

  fits_by : (why ≡ 0 → 2 * length (search_answer road tree query want).listed ≤ results) → 2 * (search_found road tree query want work results).listed ≤ results
  unfolding accepted refused
  fits_by few = go (T-split (eqb why 0))
    where
      go : T (eqb why 0) ⊎ T (not (eqb why 0)) → 2 * (search_found road tree query want work results).listed ≤ results
      go (inl t) =
          let e = eqb→eq why 0 t in
          omega (arith, ap (λ (f : Found). f.listed) (found-accepted road tree query want work results e), few e)
      go (inr t) = omega (arith, ap (λ (f : Found). f.listed) (found-refused road tree query want work results (neqb→ne why 0 t)))

-- of an accepted call whose tree book is of bytes
pub accepted-room : (road tree query : List ℕ) → Bytes tree → (want : Want) (work results : ℕ) → AcceptedSearch road tree query want work results
    → 2 * length (search_answer road tree query want).listed ≤ results
accepted-room road tree query bytes want work results c = go (T-split (search_answer road tree query want).settled)
  where
    go : T (search_answer road tree query want).settled ⊎ T (not (search_answer road tree query want).settled)
        → 2 * length (search_answer road tree query want).listed ≤ results
    go (inl t) = omega (arith, listed-most road tree query want (c.books bytes) t, c.results-full)
    go (inr t) = omega (arith, ap length (answer-spent (search_in road tree query want) (limit_of query) t).0)

-- of any search whose tree book is of bytes
pub drive-fits : (road tree query : List ℕ) → Bytes tree → (want : Want) (work results : ℕ) → 2 * (search_found road tree query want work results).listed ≤ results
drive-fits road tree query bytes want work results =
    fits_by road tree query want work results (λ e. accepted-room road tree query bytes want work results (tests road tree query want work results e))
