-- What a build leaves, as the calls after it find it: the tree's book, which passes, and the work area. Assumes nothing.
use mathlib.Core.Path.{◌≡◌, sym, ap, ◌∙◌}
use mathlib.Core.Logic.{◌⊎◌, inl, inr}
use mathlib.Core.List.{List}
use Prim.Native.Nat.{ℕ, ◌≤◌, ◌<◌}
use native.Mathlib.Omega.{arith}
use lib.ListN.{length, take, length-take}
use Rattle.book.proofs.Choosing.{lt-or_ge}
use Rattle.work_area.specs.Work.{work_words, work_after}
use Rattle.work_area.proofs.Zeroing.{refused-kept}
use Rattle.check_tree.specs.Check.{check_answer}
use Rattle.build_tree.specs.Build.{build_answer, built_length, tree_after}
use Rattle.build_tree.specs.Facts.{Writes, written_book}
use Rattle.build_tree.proofs.Theorems.{build_exact}

module _ (road yard : List ℕ) (m limit : ℕ) (work tree : List ℕ) where
  abbrev why : ℕ
  why = build_answer road yard m limit (length work) (length tree)

  abbrev book : List ℕ
  book = written_book road yard m limit (length work) tree

  -- the written book is as long as is returned, also if nothing is built
  book-size : length book ≡ built_length road yard m limit (length work) (length tree)
  book-size = go (lt-or_ge 0 why)
    where
      go : (0 < why) ⊎ (why ≤ 0) → length book ≡ built_length road yard m limit (length work) (length tree)
      go (inr h) = ((build_exact road yard m limit work tree).accepted (omega arith)).sized
      go (inl h) =
          let none = ((build_exact road yard m limit work tree).refused (λ z. omega arith)).length_none in
          omega (arith, none, length-take (built_length road yard m limit (length work) (length tree)) (tree_after road yard m limit (length work) tree))

  -- a refused build leaves the work area as it was, and so does whatever is done by that refusal after it
  pub kept_again : (r : ℕ) → r ≡ build_answer road yard m limit (length work) (length tree) → (r ≡ 0 → ⊥) → (later : List ℕ)
      → later ≡ work_after (build_answer road yard m limit (length work) (length tree)) work
      → later
      ≡ work_after (build_answer road yard m limit (length work) (length tree)) (work_after (build_answer road yard m limit (length work) (length tree)) work)
  kept_again r e h later f = f ∙ sym (refused-kept why (work_after why work) (λ z. h (e ∙ z)))

  module _ (n : ℕ) (after : List ℕ) (size : n ≡ built_length road yard m limit (length work) (length tree))
      (written : after ≡ tree_after road yard m limit (length work) tree) where
    -- the first bytes of the area, as many as are returned, are the book
    pub book-is : take n after ≡ written_book road yard m limit (length work) tree
    book-is = cc

    pub book-length : n ≡ length (take n after)
    book-length = size ∙ (sym book-size ∙ ap length (sym book-is))

    pub book-room : n ≤ length after
    book-room = omega (arith, book-length, length-take n after)

    module _ (r : ℕ) (refusal : r ≡ build_answer road yard m limit (length work) (length tree)) (accepted : r ≡ 0) (later : List ℕ)
        (kept : length later ≡ length work) where
      full : work_words ≤ length work
      full = ((build_exact road yard m limit work tree).refusals.none.0 (sym refusal ∙ accepted)).areas.work

      -- what was built passes the check
      passes : check_answer road yard (take n after) (length later) ≡ 0
      passes =
          ap (λ (t : List ℕ). check_answer road yard t (length later)) book-is
          ∙ ((build_exact road yard m limit work tree).accepted (sym refusal ∙ accepted)).passes (length later) (omega (arith, full))

      pub check_is : check_answer road yard (take n after) (length later) ≡ build_answer road yard m limit (length work) (length tree)
      check_is = passes ∙ (sym accepted ∙ refusal)

      pub work-is : (last : List ℕ) → later ≡ work_after (build_answer road yard m limit (length work) (length tree)) work
          → last ≡ work_after (check_answer road yard (take n after) (length later)) later
          → last
          ≡ work_after (build_answer road yard m limit (length work) (length tree)) (work_after (build_answer road yard m limit (length work) (length tree)) work)
      work-is last e f = cc (check_is)
