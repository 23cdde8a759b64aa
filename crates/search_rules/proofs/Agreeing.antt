-- Searches that differ in their rule alone: a drive search to the last distance of a full list of k lists that list first. Assumes nothing.
use mathlib.Core.Path.{◌≡◌, refl, sym, ap, ◌∙◌}
use mathlib.Core.Bool.{Bool}
use mathlib.Core.List.{List, [], ◌∷◌, Memᴰ as Mem}
use Prim.Native.Nat.{ℕ, ◌≤◌}
use native.Mathlib.Omega.{arith}
use lib.ListN.{take}
use lib.Dec.{T}
use Rattle.book.specs.Lists.{keep_if}
use Rattle.tree_layout.specs.Decode.{decode}
use Rattle.tree.specs.Yards.{tree_yards}
use Rattle.search_rules.specs.Order.{Entry}
use Rattle.search_rules.specs.Rule.{Rule, nearest, in_drive}
use Rattle.search_rules.specs.Instance.{Instance}
use Rattle.search_rules.specs.Books.{search_of, Passed}
use Rattle.search_rules.specs.Bounds.{over, total, furthest}
use Rattle.search_rules.specs.Held.{last_distance, entry, ranked}
use Rattle.search_rules.specs.Keeping.{up_to, front}
use Rattle.search_rules.specs.Run.{answer}
use Rattle.search_rules.specs.Facts.{SoundInstance}
use Rattle.search_rules.specs.Theorems.{Listing}
use Rattle.search_rules.proofs.Held.{greatest-is}
use Rattle.search_rules.proofs.Fronts.{up_take}
use Rattle.search_rules.proofs.Theorems.{answer-listing}
use Rattle.search_rules.proofs.Walks.{listed-front}

-- yards are ranked by their entries alone
ranked-same : (i j : Instance) → ((y : ℕ) → entry i y ≡ entry j y) → (ys : List ℕ) → ranked i ys ≡ ranked j ys
unfolding ranked
ranked-same i j h [] = refl
ranked-same i j h (y ∷ ys) = rw (h y, ranked-same i j h ys) refl

module _ (road tree : List ℕ) (code kinds : ℕ) (crews : List ℕ) where
  -- the search by a rule
  abbrev by : Rule → Instance
  by r = search_of road tree (record { code = code; rule = r; wanted = kinds }) crews

  -- a yard's numbers, and which yards are wanted, don't depend on it
  rule-entry : (r s : Rule) (y : ℕ) → entry (by r) y ≡ entry (by s) y
  unfolding search_of entry total over furthest
  rule-entry r s y = refl

  rule-wants : (r s : Rule) → (by r).wants ≡ (by s).wants
  unfolding search_of
  rule-wants r s = refl

  module _ (p : Passed road tree crews) (k seconds : ℕ) (few : SoundInstance (by (nearest k))) (far : SoundInstance (by (in_drive seconds))) (limit most : ℕ)
      (t : T (answer (by (nearest k)) limit).settled) (u : T (answer (by (in_drive seconds)) most).settled) where
    abbrev list : List Entry
    list = (answer (by (nearest k)) limit).listed

    ys : List ℕ
    ys = keep_if (by (nearest k)).wants (tree_yards (decode tree))

    all : List Entry
    all = ranked (by (nearest k)) ys

    first-is : list ≡ take k all
    unfolding front all ys
    first-is = listed-front road tree _ crews p few limit t

    drive-is : (answer (by (in_drive seconds)) most).listed ≡ up_to seconds all
    unfolding front all ys
    drive-is = listed-front road tree _ crews p far most u
        ∙ (ap (λ (w : ℕ → Bool). up_to seconds (ranked (by (in_drive seconds)) (keep_if w (tree_yards (decode tree))))) (rule-wants (in_drive seconds) (nearest k))
        ∙ ap (up_to seconds) (ranked-same _ _ (rule-entry (in_drive seconds) (nearest k)) ys))

    pub lists-first : seconds ≡ last_distance 0 list → take k (answer (by (in_drive seconds)) most).listed ≡ list
    lists-first e = ap (take k) drive-is ∙ up_take seconds k all near ∙ sym first-is
      where
        l : Listing (by (nearest k)) list
        l = answer-listing (by (nearest k)) few.well limit t

        near : (h : Entry) → Mem h (take k all) → h.distance ≤ seconds
        near h m = let j : Mem h list = rw first-is m in omega (arith, e, greatest-is list, l.greatest h j)
