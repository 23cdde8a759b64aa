-- The input taken apart: where its books end, and the search by them. Assumes nothing.
use mathlib.Core.Path.{◌≡◌, sym, ap, ◌∙◌}
use mathlib.Core.Option.{Option}
use mathlib.Core.List.{List}
use Prim.Native.Nat.{ℕ, ◌-◌, ◌≤◌}
use native.Mathlib.Omega.{arith}
use lib.ListN.{length, take, drop, length-drop}
use lib.Seq.{length-take-le, take_all}
use Rattle.work_area.specs.Work.{work_words}
use Rattle.search_call.specs.Call.{want_any, search_found, results_after}
use Rattle.listing.specs.Input.{book_end, first_book, after_book, tree_in, query_in, found_in, results_in}

-- a book ends inside the bytes
pub within : (s : List ℕ) (end : ℕ) → end ≡ book_end s → end ≤ length s
unfolding book_end
within s end e = omega arith

pub sized : (s : List ℕ) (end : ℕ) → end ≡ book_end s → end ≡ length (take end s)
sized s end e = sym (length-take-le end s (within s end e))

-- the part of some bytes from a place on, as code takes it
abbrev pub from : List ℕ → ℕ → List ℕ
from s n = take (length s - n) (drop n s)

pub from_is : (s : List ℕ) (n : ℕ) → from s n ≡ drop n s
from_is s n = take_all (length s - n) (drop n s) (omega (arith, length-drop n s))

first-is : (s : List ℕ) (end : ℕ) → end ≡ book_end s → take end s ≡ first_book s
unfolding first_book
first-is s end e = ap (λ (n : ℕ). take n s) e

after_is : (s : List ℕ) (end : ℕ) → end ≡ book_end s → from s end ≡ after_book s
unfolding after_book
after_is s end e = from_is s end ∙ ap (λ (n : ℕ). drop n s) e

module _ (s : List ℕ) (end stop : ℕ) (e : end ≡ book_end s) (f : stop ≡ book_end (from s end)) where
  tree_is : take stop (from s end) ≡ tree_in s
  tree_is = first-is (from s end) stop f ∙ ap first_book (after_is s end e)

  query-is : from (from s end) stop ≡ query_in s
  query-is = after_is (from s end) stop f ∙ ap after_book (after_is s end e)

  -- the search by the parts is the search by the books
  pub found-is : (drive : Option ℕ) (results : ℕ)
      → search_found (take end s) (take stop (from s end)) (from (from s end) stop) (want_any drive) work_words results ≡ found_in s drive results
  unfolding found_in
  found-is drive results = cc (first-is s end e, tree_is, query-is)

  pub results_are : (drive : Option ℕ) (results : List ℕ)
      → results_after (take end s) (take stop (from s end)) (from (from s end) stop) (want_any drive) work_words results ≡ results_in s drive results
  unfolding results_in
  results_are drive results = cc (first-is s end e, tree_is, query-is)
