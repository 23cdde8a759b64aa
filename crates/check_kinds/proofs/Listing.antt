-- The kinds in a leaf's lists, one element and one landmark at a time, beside a table of kinds by junction. Assumes nothing.
use mathlib.Core.Path.{◌≡◌, refl, sym, ap, ◌∙◌}
use mathlib.Core.Bool.{Bool, true, false}
use mathlib.Core.List.{List}
use Prim.Native.Nat.{ℕ, ◌+◌, ◌-◌, ◌<◌}
use borrow.Author.Tests.{eq-eqb, ne_eqb}
use lib.ListN.{get_or, drop}
use lib.Dec.{eqb}
use Rattle.book.specs.Open.{version}
use Rattle.tree_layout.specs.Values.{no_mark}
use Rattle.tree_layout.specs.Sizes.{junction_size, list_size}
use Rattle.tree_layout.specs.Decode.{element_at, read_list, list_part, landmark_count}
use Rattle.tree_layout.specs.code.Accessors.{fields_at, listed_at}
use Rattle.tree_layout.specs.code.Marks.{marks_at, mark_place, RecordAt}
use Rattle.tree_layout.specs.Refusal.{all}
use Rattle.tree_layout.specs.declared.Fields.{Fields}
use Rattle.tree_layout.specs.declared.Listed.{Listed}
use Rattle.tree_layout.proofs.Accessing.{listed-yard}
use Rattle.check_rules.specs.Truth.{kinds_element, kinds_list}
use Rattle.check_rules.proofs.Testing.{kinds-element-test, kinds-list-test}
use Rattle.check_rules.proofs.Elements.{list-is}

-- the kinds by junction that a table has
abbrev pub by : List ℕ → ℕ → ℕ
by table y = get_or table y 0

-- what is found of the list of landmark j is what test 9 says of the landmark
pub list-told : (tree : List ℕ) (f : Fields) (s : RecordAt tree f.at) (ef : f ≡ fields_at tree f.at) (z : f.children ≡ 0) (j : ℕ) (h : j < landmark_count tree)
    (v : ℕ) (ev : v ≡ version tree) (table : List ℕ) (r : Bool)
    → r ≡ all (kinds_element (by table)) (read_list v (list_part (version tree) tree f.yards (mark_place tree f.at j + junction_size)) f.yards 0)
    → r ≡ kinds_list (by table) (get_or (marks_at tree f.at) j no_mark)
list-told tree f s ef z j h v ev table r e =
    e ∙ ap (all (kinds_element (by table))) (sym (list-is tree f s ef z j h (mark_place tree f.at j) refl v ev _ refl))
    ∙ sym (kinds-list-test (by table) (get_or (marks_at tree f.at) j no_mark))
