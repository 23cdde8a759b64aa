-- The tests of a leaf's lists, one pair at a time, as loops count them. Assumes nothing.
use mathlib.Core.Path.{◌≡◌, refl, sym, ◌∙◌}
use mathlib.Core.Bool.{Bool, true, false, not, ◌&&◌}
use mathlib.Core.List.{List}
use Prim.Native.Nat.{ℕ, ◌+◌, ◌-◌, ◌*◌, ◌≤◌, ◌<◌}
use native.Mathlib.Omega.{arith}
use borrow.Author.Tests.{le-leb, lt-leb, lt-ltb, le-ltb}
use lib.ListN.{length}
use lib.Dec.{ltb, leb}
use Rattle.book.specs.Bytes.{u8_at, u16_at}
use Rattle.book.specs.Open.{version}
use Rattle.tree_layout.specs.Sizes.{fields_size, element_size, leaf_mark_size}
use Rattle.tree_layout.specs.Values.{Element, Mark, leaf_mark}
use Rattle.tree_layout.specs.Decode.{element_at, read_list, list_part, read_lists, read_region, size_at, landmark_count}
use Rattle.tree_layout.specs.Refusal.{all}
use Rattle.tree_layout.specs.code.Accessors.{fields_at}
use Rattle.tree_layout.specs.declared.Fields.{Fields}
use Rattle.tree_layout.proofs.Places.{mark_size-leaf, size-at}
use Rattle.tree_layout.proofs.MarkFields.{leaf-pairs}
use Rattle.tree_layout.proofs.Reading.{all_none, all-next, list-turn, list-none, lists-turn, lists-none, region_first, region_after, region_lists}
use Rattle.tree_leaf.specs.Leaf.{names, once, in_range, named_by, first_list, same_yards, agreeing, leaf_ok}

-- the pair at a place, and the n - (k + 1) pairs after it
module _ (v : ℕ) (p : List ℕ) (n k at : ℕ) where
  once-here : (y : ℕ) → k < n → y ≡ (element_at v p at).yard → once (read_list v p (n - k) at) ≡ (not (names (read_list v p (n - (k + 1)) (at + element_size v)) y) && once
      (read_list v p (n - (k + 1)) (at + element_size v)))
  unfolding once
  once-here y h e = rw (list-turn v p n k at h, e) refl

  pub once_stop : (y rest : ℕ) → k < n → y ≡ (element_at v p at).yard → rest ≡ n - (k + 1) → names (read_list v p rest (at + element_size v)) y ≡ true → once (read_list v p (n - k) at) ≡ false
  once_stop y rest h e q t = once-here y h e ∙ rw (rw q at t) refl

  pub once-next : (y rest : ℕ) → k < n → y ≡ (element_at v p at).yard → rest ≡ n - (k + 1) → names (read_list v p rest (at + element_size v)) y ≡ false → once (read_list v p (n - (k + 1)) (at + element_size v)) ≡ once (read_list v p (n - k) at)
  once-next y rest h e q t = sym (once-here y h e ∙ rw (rw q at t) refl)

  -- a test of every pair
  all_here : (f : Element → Bool) → k < n → all f (read_list v p (n - k) at) ≡ (f (element_at v p at) && all f (read_list v p (n - (k + 1)) (at + element_size v)))
  all_here f h = rw (list-turn v p n k at h) (all-next f (element_at v p at) (read_list v p (n - (k + 1)) (at + element_size v)))

  range-here : (low high y : ℕ) → y ≡ (element_at v p at).yard → in_range low high (element_at v p at) ≡ (leb low y && ltb y high)
  unfolding in_range
  range-here low high y e = rw e refl

  pub range-out : (low high y : ℕ) → k < n → y ≡ (element_at v p at).yard → (leb low y && ltb y high) ≡ false → all (in_range low high) (read_list v p (n - k) at) ≡ false
  range-out low high y h e q = all_here (in_range low high) h ∙ rw (range-here low high y e, q) refl

  pub range-next : (low high y : ℕ) → k < n → y ≡ (element_at v p at).yard → (leb low y && ltb y high) ≡ true → all (in_range low high) (read_list v p (n - (k + 1))
      (at + element_size v)) ≡ all (in_range low high) (read_list v p (n - k) at)
  range-next low high y h e q = sym (all_here (in_range low high) h ∙ rw (range-here low high y e, q) refl)

-- ---- the four tests of a list

module _ (low high : ℕ) (ref es : List Element) where
  pub same-to : once es ≡ true → all (in_range low high) es ≡ true → named_by ref es ≡ false → same_yards low high ref es ≡ false
  unfolding same_yards
  same-to a b d = rw (a, b, d) refl

  pub same_from : once es ≡ true → all (in_range low high) es ≡ true → named_by ref es ≡ true → same_yards low high ref es ≡ named_by es ref
  unfolding same_yards
  same_from a b d = rw (a, b, d) refl

-- ---- a leaf's landmarks

-- the first list of a leaf's landmarks
pub first-list : (b : List ℕ) (yards m at : ℕ) → 0 < m → first_list (read_lists b yards m at) ≡ read_list (version b) (list_part (version b) b yards (at + 2)) yards 0
unfolding first_list
first-list b yards m at h =
    let s : m - 0 ≡ m = omega arith in
    rw (← s, lists-turn b yards m 0 at h) (leaf-pairs (u16_at b at) (read_list (version b) (list_part (version b) b yards (at + 2)) yards 0))

-- two lists of a book, each the part that starts where its record puts it
pub parts_agree : (b : List ℕ) (low high n start at v : ℕ) (first p : List ℕ) → v ≡ version b → first ≡ list_part (version b) b n (start + 2)
    → p ≡ list_part (version b) b n (at + 2)
    → same_yards low high (read_list (version b) (list_part (version b) b n (start + 2)) n 0) (read_list (version b) (list_part (version b) b n (at + 2)) n 0)
    ≡ same_yards low high (read_list v first n 0) (read_list v p n 0)
parts_agree b low high n start at v first p d e f = rw (d, e, f) refl

-- the landmark at a place, and the m - (k + 1) landmarks after it
module _ (b : List ℕ) (yards m k at low high : ℕ) (ref : List Element) where
  agree_here : k < m → agreeing low high ref (read_lists b yards (m - k) at)
      ≡ (same_yards low high ref (read_list (version b) (list_part (version b) b yards (at + 2)) yards 0)
      && agreeing low high ref (read_lists b yards (m - (k + 1)) (at + leaf_mark_size (version b) yards)))
  unfolding agreeing
  agree_here h =
      rw (lists-turn b yards m k at h)
      (all-next (λ (x : Mark). same_yards low high ref x.list) (leaf_mark (u16_at b at) (read_list (version b) (list_part (version b) b yards (at + 2)) yards 0)) (read_lists b yards (m -
      (k + 1)) (at + leaf_mark_size (version b) yards))
      ∙ rw (leaf-pairs (u16_at b at) (read_list (version b) (list_part (version b) b yards (at + 2)) yards 0)) refl)

  pub agree_stop : (x : List Element) → ref ≡ x → k < m → same_yards low high x (read_list (version b) (list_part (version b) b yards (at + 2)) yards 0) ≡ false
      → agreeing low high ref (read_lists b yards (m - k) at) ≡ false
  agree_stop x z h e = agree_here h ∙ rw (z, e) refl

  pub agree_next : (x : List Element) → ref ≡ x → k < m → same_yards low high x (read_list (version b) (list_part (version b) b yards (at + 2)) yards 0) ≡ true
      → agreeing low high ref (read_lists b yards (m - (k + 1)) (at + leaf_mark_size (version b) yards)) ≡ agreeing low high ref (read_lists b yards (m - k) at)
  agree_next x z h e = sym (agree_here h ∙ rw (rw (← z) at e) refl)

  pub agree_end : m ≤ k → agreeing low high ref (read_lists b yards (m - k) at) ≡ true
  unfolding agreeing
  agree_end h = rw (lists-none b yards m k at h) (all_none (λ (x : Mark). same_yards low high ref x.list))

-- a leaf's test, of its record's fields
pub leaf-test : (b : List ℕ) (m at low high yards : ℕ) → u8_at b (at + 4) ≡ 0 → low ≡ u16_at b at → high ≡ u16_at b (at + 2) → yards ≡ u16_at b (at + 5)
    → leaf_ok (read_region b m at) ≡ agreeing low high (first_list (read_lists b yards m (at + fields_size (version b)))) (read_lists b yards m (at + fields_size (version b)))
unfolding leaf_ok
leaf-test b m at low high yards z p q r = rw (region_first b m at, region_after b m at, region_lists b m at z, ← p, ← q, ← r) refl

-- a leaf's record has room for its landmarks
pub leaf-size : (b : List ℕ) (m at yards : ℕ) → u8_at b (at + 4) ≡ 0 → yards ≡ u16_at b (at + 5) → size_at b m at ≡ fields_size (version b) + m * leaf_mark_size (version b) yards
leaf-size b m at yards z r = rw (size-at b m at, mark_size-leaf (version b) (u8_at b (at + 4)) (u16_at b (at + 5)) z, ← r) refl

-- a leaf's record in a book with m landmarks per region, by its fields
module _ (b : List ℕ) (m at start : ℕ) (f : Fields) (count : m ≡ landmark_count b) (after : start ≡ at + fields_size (version b)) (read : f ≡ fields_at b at)
    (zero-children : (fields_at b at).children ≡ 0) where
  pub leaf_room : at + size_at b (landmark_count b) at ≤ length b → start + m * leaf_mark_size (version b) f.yards ≤ length b
  leaf_room h = rw (count, after, read) (omega (arith, leaf-size b (landmark_count b) at (fields_at b at).yards zero-children refl))

  pub leaf-end : (fields_at b at).after ≤ 1024 → f.after ≤ 1024
  leaf-end h = rw read h

  pub leaf_tested : agreeing f.first.number f.after (first_list (read_lists b f.yards m start)) (read_lists b f.yards m start)
      ≡ leaf_ok (read_region b (landmark_count b) at)
  leaf_tested =
      rw (count, after, read)
      (sym (leaf-test b (landmark_count b) at (fields_at b at).first.number (fields_at b at).after (fields_at b at).yards zero-children refl refl refl))
