-- A drive search keeps a measured yard that is within the seconds. Assumes nothing.
use mathlib.Core.Path.{◌≡◌, sym, ◌∙◌}
use mathlib.Core.List.{List}
use Prim.Native.Nat.{ℕ, ◌≤◌, ◌<◌}
use native.Mathlib.Omega.{arith}
use lib.Dec.{leb, leb→le, le→leb, not_T}
use Rattle.book.proofs.Choosing.{choose_yes, choose_no}
use Rattle.search_rules.specs.Order.{Entry}
use Rattle.search_rules.specs.Rule.{in_drive}
use Rattle.search_rules.specs.Held.{insert}
use Rattle.search_rules.specs.Keeping.{keep_by}
use Rattle.search_rules.proofs.Ruling.{drive-keep}

module _ (e : Entry) (held : List Entry) (s : ℕ) where
  pub keep-far : s < e.distance → held ≡ keep_by (in_drive s) e held
  keep-far h = sym (drive-keep held s e ∙ choose_no (leb e.distance s) (insert e held) held (not_T (leb e.distance s) (λ t. omega (arith, leb→le e.distance s t))))

  pub keep-near : (new : List Entry) → e.distance ≤ s → new ≡ insert e held → new ≡ keep_by (in_drive s) e held
  keep-near new h f = f ∙ sym (drive-keep held s e ∙ choose_yes (leb e.distance s) (insert e held) held (le→leb e.distance s h))
