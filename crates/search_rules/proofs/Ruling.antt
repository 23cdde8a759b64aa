-- What is enough, how far a yard may be and what is kept, by each rule: the definitions' own words, for the crates above. Assumes nothing.
use mathlib.Core.Path.{◌≡◌, refl}
use mathlib.Core.Bool.{◌&&◌}
use mathlib.Core.Option.{none, some}
use mathlib.Core.List.{List}
use Prim.Native.Nat.{ℕ}
use lib.ListN.{length}
use lib.Dec.{eqb, leb, ltb}
use Rattle.book.specs.Choose.{choose}
use Rattle.search_rules.specs.Rule.{nearest, in_drive}
use Rattle.search_rules.specs.Order.{Entry}
use Rattle.search_rules.specs.Held.{insert, hold, greatest_held}
use Rattle.search_rules.specs.Keeping.{keep_by, enough_by}
use Rattle.search_rules.specs.Ceiling.{ceiling_by}

module _ (held : List Entry) where
  pub nearest-enough : (k key : ℕ) → enough_by (nearest k) held key ≡ (eqb (length held) k && ltb (greatest_held held) key)
  unfolding enough_by
  nearest-enough k key = refl

  pub drive-enough : (seconds key : ℕ) → enough_by (in_drive seconds) held key ≡ ltb seconds key
  unfolding enough_by
  drive-enough seconds key = refl

  pub nearest-ceiling : (k : ℕ) → ceiling_by (nearest k) held ≡ choose (eqb (length held) k) (some (greatest_held held)) none
  unfolding ceiling_by
  nearest-ceiling k = refl

  pub drive-ceiling : (seconds : ℕ) → ceiling_by (in_drive seconds) held ≡ some seconds
  unfolding ceiling_by
  drive-ceiling seconds = refl

  pub nearest-keep : (k : ℕ) (e : Entry) → keep_by (nearest k) e held ≡ hold k e held
  unfolding keep_by
  nearest-keep k e = refl

  pub drive-keep : (seconds : ℕ) (e : Entry) → keep_by (in_drive seconds) e held ≡ choose (leb e.distance seconds) (insert e held) held
  unfolding keep_by
  drive-keep seconds e = refl
