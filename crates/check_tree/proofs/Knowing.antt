-- Whether a yard book has a tree's yards, one at a time. Assumes nothing.
use mathlib.Core.Path.{◌≡◌, refl, sym, ap, ◌∙◌}
use mathlib.Core.Bool.{Bool, true, false, ◌||◌}
use mathlib.Core.List.{List, [], ◌∷◌}
use Prim.Native.Nat.{ℕ, ◌+◌, ◌-◌, ◌≤◌, ◌<◌}
use borrow.Author.Tests.{eq-eqb, ne_eqb}
use lib.ListN.{length, get_or, drop, drop_of_length-le}
use lib.Dec.{eqb}
use Rattle.book.specs.Open.{version}
use Rattle.book.proofs.Choosing.{choose_yes, choose_no}
use Rattle.book.proofs.Lists.{eq→eqb, ne→neqb}
use Rattle.tree_layout.specs.Values.{Mark, Region}
use Rattle.tree_layout.specs.Sizes.{junction_size, list_size, leaf_mark_size}
use Rattle.tree_layout.specs.Decode.{element_at, read_list, list_part, read_region, decode, landmark_count}
use Rattle.tree_layout.specs.code.Accessors.{fields_at, listed_at}
use Rattle.tree_layout.specs.code.Marks.{mark_place, RecordAt}
use Rattle.tree_layout.specs.Refusal.{all}
use Rattle.tree_layout.specs.declared.Fields.{Fields}
use Rattle.tree_layout.specs.declared.Listed.{Listed}
use Rattle.tree_layout.proofs.Accessing.{listed-yard}
use Rattle.tree_leaf.specs.Leaf.{first_list}
use Rattle.tree_leaf.proofs.Named.{first-from}
use Rattle.tree_layout.proofs.Turns.{drop-next}
use Rattle.check_rules.proofs.Records.{marks_are, children_are, own_place, fields_own, record_own}
use Rattle.check_rules.proofs.Elements.{list-fits, list_length, list-is}
use Rattle.check_tree.specs.Check.{has}
use Rattle.check_tree.specs.code.Known.{known_element, known_list, known_region, known_tree}

-- ---- a yard, with k of a list's yards done

module _ (ys : List ℕ) (y k z : ℕ) (h : k < length ys) (e : z ≡ get_or ys k 0) where
  turn : has (drop k ys) y ≡ (eqb z y || has (drop (k + 1) ys) y)
  unfolding has
  turn = rw (drop-next ys 0 k h, e) refl

  pub has-found : z ≡ y → has (drop k ys) y ≡ true
  has-found f = turn ∙ simp (eq-eqb _ _ f)

  pub has-next : (z ≡ y → ⊥) → has (drop (k + 1) ys) y ≡ has (drop k ys) y
  has-next f = sym (turn ∙ simp (ne_eqb _ _ f))

pub has-none : (ys : List ℕ) (y k : ℕ) → length ys ≤ k → has (drop k ys) y ≡ false
unfolding has
has-none ys y k h = rw (drop_of_length-le ys h) refl

-- ---- a region, by the fields of its record

module _ (tree : List ℕ) (i : ℕ) (f : Fields) (ef : f ≡ fields_at tree i) where
  abbrev r : Region
  r = read_region tree (landmark_count tree) i

  childless : r.children ≡ f.children
  childless = children_are tree i (landmark_count tree) refl f ef

  pub inner_known : (ys : List ℕ) → (f.children ≡ 0 → ⊥) → true ≡ known_region ys r
  unfolding known_region
  inner_known ys z = sym (choose_no (eqb r.children 0) _ _ (ne→neqb r.children 0 (λ q. z (sym childless ∙ q))))

  -- a leaf's first landmark stands at a place, and its list lies in the book
  module _ (s : RecordAt tree i) (z : f.children ≡ 0) (p : ℕ) (ep : p ≡ mark_place tree i 0) where
    own : p ≡ mark_place tree f.at 0
    own = ep ∙ ap (λ (x : ℕ). mark_place tree x 0) (sym (own_place tree i f ef))

    pub first-room : p + leaf_mark_size (version tree) f.yards ≤ length tree
    first-room = list-fits tree f (record_own tree i f ef s) (fields_own tree i f ef) z 0 s.landmarks.0 p own

    module _ (v : ℕ) (ev : v ≡ version tree) (l : List ℕ) (el : l ≡ list_part (version tree) tree f.yards (p + junction_size)) where
      pub first-length : list_size v f.yards ≤ length l
      first-length = list_length tree f (record_own tree i f ef s) (fields_own tree i f ef) z 0 s.landmarks.0 p own v ev l el

      first-is : first_list r.marks ≡ read_list v l f.yards 0
      first-is =
          ap first_list (sym (marks_are tree i (landmark_count tree) refl f ef)) ∙ first-from _
          ∙ list-is tree f (record_own tree i f ef s) (fields_own tree i f ef) z 0 s.landmarks.0 p own v ev l el

      pub leaf_known : (ys : List ℕ) (t : Bool) → t ≡ known_list ys (read_list v l f.yards 0) → t ≡ known_region ys r
      unfolding known_region
      leaf_known ys t e =
          e ∙ ap (known_list ys) (sym first-is) ∙ sym (choose_yes (eqb r.children 0) _ _ (eq→eqb r.children 0 (childless ∙ z)))

-- ---- all regions' tests are the tree's

pub tree_known : (ys tree : List ℕ) → all (known_region ys) (decode tree).regions ≡ known_tree ys (decode tree)
unfolding known_tree
tree_known ys tree = refl
