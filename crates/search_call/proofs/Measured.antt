-- What a search has measured on a tree that passes: once settled, exactly the wanted yards worth it. Assumes nothing.
use mathlib.Core.Path.{◌≡◌, sym, ap, ◌∙◌}
use mathlib.Core.Bool.{Bool, true}
use mathlib.Core.List.{List, Memᴰ as Mem}
use Prim.Native.Nat.{ℕ, ◌≤◌, ◌<◌}
use lib.ListN.{length}
use lib.Dec.{T, leb→le, le→leb}
use Rattle.book.specs.Lists.{Distinct, keep_if}
use Rattle.book.proofs.Lists.{kept_from, kept_in, kept-distinct, kept-all}
use Rattle.check_rules.specs.Facts.{Same}
use Rattle.search_rules.specs.Books.{Passed}
use Rattle.search_rules.specs.Run.{run, answer}
use Rattle.search_rules.specs.Theorems.{NotPast}
use Rattle.search_rules.proofs.Theorems.{decided, answer-settled, answer-measured, answer-listed}
use Rattle.search_rules.proofs.Keys.{key_bound}
use Rattle.search_rules.proofs.Level.{run-within, run-bound-within}
use Rattle.search_rules.proofs.Found.{same_length, run-measured}
use Rattle.search_rules.proofs.Fronts.{nearest-not_past, nearest-within, nearest-short, drive-not_past, drive-within}
use Rattle.search_call.specs.Call.{Search}
use Rattle.search_call.specs.Demand.{OnPassing, NotRefused, ForYards, ForDrive, k, crews, limit, wanted_yards, instance_of, list, Full, last_distance, measured}
use Rattle.search_call.specs.Demand.{BoundOf, key_of, worth_measuring, MeasuredAre}
use Rattle.search_call.proofs.Calls.{on_measured}
use Rattle.search_call.proofs.Instances.{road, tree, for_yards, for_drive, well, covers, sound, reaches}

module _ (s : Search) (p : Passed (road s) (tree s) (crews s)) where
  -- no measured yard's bound is past what ends the search
  not_past : OnPassing s → (y b : ℕ) → Mem y (measured s) → BoundOf s y b → NotPast (instance_of s).rule (run (instance_of s) (limit s)).state.held b
  not_past q y b j d =
      let m : Mem d.element.yard (measured s) = rw d.names j in
      rw d.value (run-bound-within (instance_of s) (sound s p q) (limit s) d.home d.element d.is_leaf d.number d.in_list m)

  -- it is not above the last distance of a full list
  pub within_last : OnPassing s → T (answer (instance_of s) (limit s)).settled → ForYards s → Full s → (y b : ℕ) → Mem y (measured s) → BoundOf s y b
      → b ≤ last_distance s
  within_last q t e full y b j d =
      let past : NotPast (instance_of s).rule (list s) b = rw (answer-listed (instance_of s) (limit s) t) (not_past q y b j d) in
      nearest-not_past (instance_of s).rule (k s) (list s) b (for_yards s e) past full

  -- nor above the seconds of a drive, settled or not
  pub within-drive : OnPassing s → (seconds : ℕ) → ForDrive s seconds → (y b : ℕ) → Mem y (measured s) → BoundOf s y b → b ≤ seconds
  within-drive q seconds e y b j d = drive-not_past (instance_of s).rule seconds _ b (for_drive s seconds e) (not_past q y b j d)

  -- a wanted yard's key is its bound
  pub key_is-bound : OnPassing s → (y b : ℕ) → Mem y (wanted_yards s) → BoundOf s y b → key_of s y ≡ b
  key_is-bound q y b m d =
      ap (key_of s) (sym d.names)
      ∙ key_bound (instance_of s) (sound s p q) d.home d.element d.number d.is_leaf d.in_list (rw d.names ((reaches s p q).below y m))
      ∙ sym d.value

  module _ (q : OnPassing s) (t : T (answer (instance_of s) (limit s)).settled) (n : NotRefused s) where
    -- its key is not past what ends the search
    abbrev Within : ℕ → Type 0
    Within y = NotPast (instance_of s).rule (list s) (key_of s y)

    -- measured are exactly the wanted yards that pass a test, if that is to say that their key is not past it
    by_test : (worth : ℕ → Bool) → ((y : ℕ) → Within y → T (worth y)) → ((y : ℕ) → T (worth y) → Within y) → MeasuredAre s (keep_if worth (wanted_yards s))
    by_test worth to from = record {
      same = same;
      once = once;
      count = on_measured s.call s.areas n ∙ answer-measured (instance_of s) (limit s) ∙ same_length (measured s) ys once distinct same.to same.from;
    }
      where
        ys : List ℕ
        ys = keep_if worth (wanted_yards s)

        held-is : list s ≡ (run (instance_of s) (limit s)).state.held
        held-is = answer-listed (instance_of s) (limit s) t

        once : Distinct (measured s)
        once = (decided (instance_of s) (well s p) (limit s)).measured-once

        distinct : Distinct ys
        distinct = kept-distinct worth (wanted_yards s) (reaches s p q).distinct

        same : Same (measured s) ys
        same = record {
          to = λ y m. kept_in worth (wanted_yards s) y (covers s p y ((decided (instance_of s) (well s p) (limit s)).measured_in y m))
              (to y (rw held-is (run-within (instance_of s) (sound s p q) (limit s) y m)));
          from = λ y m. let x = kept_from worth (wanted_yards s) y m in
              run-measured (instance_of s) (well s p) (limit s) (rw answer-settled at t) y ((reaches s p q).below y x.0) (rw held-is at (from y x.1));
        }

    -- of a full list by its last distance
    pub full-measured : ForYards s → Full s → MeasuredAre s (worth_measuring s (last_distance s))
    full-measured e full = by_test _
        (λ y w. le→leb (key_of s y) (last_distance s) (nearest-not_past (instance_of s).rule (k s) (list s) (key_of s y) (for_yards s e) w full))
        (λ y w. nearest-within (instance_of s).rule (k s) (list s) (key_of s y) (for_yards s e) (leb→le (key_of s y) (last_distance s) w))

    -- of a list short of k all wanted yards
    pub short-measured : ForYards s → length (list s) < k s → MeasuredAre s (wanted_yards s)
    short-measured e short = rw (kept-all (λ y. true) (wanted_yards s) (λ y m. tt)) at (by_test (λ y. true)
        (λ y w. tt) (λ y w. nearest-short (instance_of s).rule (k s) (list s) (key_of s y) (for_yards s e) short))

    -- of a drive by its seconds
    pub drive-measured : (seconds : ℕ) → ForDrive s seconds → MeasuredAre s (worth_measuring s seconds)
    drive-measured seconds e = by_test _
        (λ y w. le→leb (key_of s y) seconds (drive-not_past (instance_of s).rule seconds (list s) (key_of s y) (for_drive s seconds e) w))
        (λ y w. drive-within (instance_of s).rule seconds (list s) (key_of s y) (for_drive s seconds e) (leb→le (key_of s y) seconds w))
