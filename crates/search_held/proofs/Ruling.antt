-- What is kept and what is enough, by what the code's rule is. Assumes nothing.
use mathlib.Core.Path.{◌≡◌, refl, sym}
use mathlib.Core.Bool.{true, false}
use mathlib.Core.Option.{none, some}
use mathlib.Core.List.{List}
use Prim.Native.Nat.{ℕ}
use borrow.Author.Tests.{eq-eqb, ne_eqb}
use lib.ListN.{length}
use lib.Dec.{ltb}
use Rattle.book.proofs.Choosing.{choose_yes, choose_no}
use Rattle.search_rules.specs.Order.{Entry}
use Rattle.search_rules.specs.Held.{hold, greatest_held}
use Rattle.search_rules.specs.Keeping.{keep_by, enough_by}
use Rattle.search_rules.specs.Rule.{in_drive}
use Rattle.search_rules.specs.Ceiling.{ceiling_by}
use Rattle.search_rules.proofs.Ruling.{nearest-enough, drive-enough, nearest-ceiling, drive-ceiling, nearest-keep}
use Rattle.search_held.specs.declared.Rule.{Rule}
use Rattle.search_held.specs.declared.Rule.TheVariants.{Nearest, InDrive}
use Rattle.search_held.specs.code.Rules.{rule_of}

module _ (rule : Rule) (kept : List Entry) where
  -- ---- what is enough

  module _ (least : ℕ) where
    pub enough-few : {k n : ℕ} → rule ≡ Nearest k → n ≡ length kept → (n ≡ k → ⊥) → false ≡ enough_by (rule_of rule) kept least
    enough-few {k} e c h = rw (e, nearest-enough, ← c, ne_eqb _ k h) refl

    pub enough-full : {k n g : ℕ} → rule ≡ Nearest k → n ≡ length kept → n ≡ k → g ≡ greatest_held kept → ltb g least ≡ enough_by (rule_of rule) kept least
    enough-full {k} e c h f = rw (e, nearest-enough, ← c, eq-eqb _ k h, f) refl

    pub enough-drive : {s : ℕ} → rule ≡ InDrive s → ltb s least ≡ enough_by (rule_of rule) kept least
    enough-drive e = rw (e, drive-enough) refl

  -- ---- what the next yard is held against

  pub ceiling-few : {k n : ℕ} → rule ≡ Nearest k → n ≡ length kept → (n ≡ k → ⊥) → none ≡ ceiling_by (rule_of rule) kept
  ceiling-few {k} e c h = rw (e, nearest-ceiling, ← c, ne_eqb _ k h) (sym (choose_no false (some (greatest_held kept)) none tt))

  pub ceiling-full : {k n g : ℕ} → rule ≡ Nearest k → n ≡ length kept → n ≡ k → g ≡ greatest_held kept → some g ≡ ceiling_by (rule_of rule) kept
  ceiling-full {k} e c h f = rw (e, nearest-ceiling, ← c, eq-eqb _ k h, f) (sym (choose_yes true (some (greatest_held kept)) none tt))

  pub ceiling-drive : {s g : ℕ} → rule ≡ InDrive s → g ≡ s → some g ≡ ceiling_by (rule_of rule) kept
  ceiling-drive e f = rw (e, drive-ceiling, f) refl

  -- ---- what is kept

  module _ (e : Entry) {new : List Entry} where
    pub keep-nearest : {k : ℕ} → rule ≡ Nearest k → new ≡ hold k e kept → new ≡ keep_by (rule_of rule) e kept
    keep-nearest r f = rw (r, nearest-keep) f

    pub keep-drive : {s : ℕ} → rule ≡ InDrive s → new ≡ keep_by (in_drive s) e kept → new ≡ keep_by (rule_of rule) e kept
    keep-drive r f = rw r f
