-- What each step of reading a tree book asks, and its answers. Assumes nothing.
use mathlib.Core.Path.{◌≡◌, refl, sym, ap, ◌∙◌}
use mathlib.Core.Bool.{true, false}
use mathlib.Core.List.{List}
use Prim.Native.Nat.{ℕ, zero, suc, ◌≤◌, ◌<◌}
use native.Mathlib.Omega.{arith}
use lib.ListN.{length, get_or, take}
use lib.Seq.{length-take-le, get_or-take}
use lib.Dec.{eqb}
use Rattle.book.proofs.Choosing.{choose_yes, choose_no, passes, fails, true_T, false_T, first-later, first-earlier, first-none}
use Rattle.book.specs.Cases.{case_of}
use Rattle.book.proofs.Lists.{eq→eqb, ne→neqb}
use Rattle.tree_layout.specs.Decode.{region_count, place_of, decode}
use Rattle.tree_layout.specs.Refusal.{tree_layout_refusal}
use Rattle.tree_layout.specs.Facts.{TreeLayout}
use Rattle.tree_layout.proofs.Accepting.{layout-facts}
use Rattle.tree.specs.Shape.{shaped, tree_refusal}
use Rattle.tree.specs.Yards.{end_of}
use Rattle.tree.specs.Arrays.{overwrite, Laid}
use Rattle.tree_layout.specs.Reading.{header_of, header_values, tree_book, Refused as layout-refused}
use Rattle.tree_layout.specs.declared.Header.{Header}
use Rattle.tree_layout.proofs.Refusing.{refused-number}
use Rattle.tree.specs.Answer.{Shaped, Refused, tree_answer, tree_case, tree_of, places_after, ends_after}
use Rattle.tree.proofs.Filling.{overwrite-length, overwrite_new}

-- ---- a book that the layout's tests accept

module _ (b : List ℕ) (ok : tree_layout_refusal b ≡ 0) where
  layout : TreeLayout b
  layout = layout-facts b ok

  pub header-room : 12 ≤ length b
  header-room = omega (arith, layout.opens.headed)

  unshaped_is : shaped (decode b) ≡ false → tree_refusal b ≡ 7
  unfolding tree_refusal
  unshaped_is t = first-later (tree_layout_refusal b) _ ok ∙ fails (shaped (decode b)) 7 0 (false_T t)

  pub shaped-is : shaped (decode b) ≡ true → tree_refusal b ≡ 0
  unfolding tree_refusal
  shaped-is t = first-later (tree_layout_refusal b) _ ok ∙ passes (shaped (decode b)) 7 0 (true_T t)

  module _ (ps : List ℕ) (wide : 511 ≤ length ps) where
    pub places_need : TreeLayout b × (region_count b ≤ length ps)
    places_need = (layout, omega (arith, layout.regions.1))

    -- the places filled in, and the first n of them
    module _ (n : ℕ) (n_is : n ≡ region_count b) (qs : List ℕ) (filled : qs ≡ overwrite (place_of b) (region_count b) ps) where
      pub prefix_room : n ≤ length qs
      prefix_room = omega (arith, n_is, ap length filled, overwrite-length (place_of b) ps (region_count b), layout.regions.1)

      pub prefix_length : n ≡ length (take n qs)
      prefix_length = sym (length-take-le n qs prefix_room)

      pub prefix_laid : Laid b (take n qs)
      prefix_laid = record {
        layout = layout;
        count = sym prefix_length ∙ n_is;
        held = λ i h. get_or-take n qs i 0 (omega (arith, prefix_length))
            ∙ rw filled (overwrite_new (place_of b) ps (region_count b) i (omega (arith, prefix_length, n_is)) (omega (arith, layout.regions.1)));
      }

      places_are : qs ≡ places_after b ps
      unfolding places_after
      places_are = filled ∙ sym (choose_yes (eqb (tree_layout_refusal b) 0) (overwrite (place_of b) (region_count b) ps) ps (eq→eqb (tree_layout_refusal b) 0 ok))

      module _ (es : List ℕ) (wider : 511 ≤ length es) where
        -- a tree without the shape
        pub unshaped : shaped (decode b) ≡ false → (7 ≡ tree_refusal b) × ((qs ≡ places_after b ps) × (es ≡ ends_after b es))
        unfolding ends_after
        unshaped t =
            let r = unshaped_is t in (
              sym r,
              (
                places_are,
                sym (choose_no (eqb (tree_refusal b) 0) (overwrite (end_of (decode b).regions) (region_count b) es) es (ne→neqb (tree_refusal b)
                    0 (λ e. omega arith))),
              ),
            )

        -- one with it
        pub ends_need : shaped (decode b) ≡ true → (tree_refusal b ≡ 0) × Laid b (take n qs) × (length (take n qs) ≤ length es)
        ends_need t = (shaped-is t, prefix_laid, omega (arith, prefix_length, n_is, layout.regions.1))

        pub shaped-done : shaped (decode b) ≡ true → (fs : List ℕ) → fs ≡ overwrite (end_of (decode b).regions) (region_count b) es
            → (0 ≡ tree_refusal b) × ((qs ≡ places_after b ps) × (fs ≡ ends_after b es))
        unfolding ends_after
        shaped-done t fs e =
            let r = shaped-is t in (
              sym r,
              (
                places_are,
                e ∙ sym (choose_yes (eqb (tree_refusal b) 0) (overwrite (end_of (decode b).regions) (region_count b) es) es (eq→eqb (tree_refusal
                    b) 0 r)),
              ),
            )

-- ---- one that they refuse

module _ (b : List ℕ) (why : ℕ) (e : tree_layout_refusal b ≡ why) (some : 1 ≤ why) where
  pub refused-is : tree_refusal b ≡ why
  unfolding tree_refusal
  refused-is = first-earlier (tree_layout_refusal b) _ (omega arith) ∙ e

  pub refused-places : (ps : List ℕ) → ps ≡ places_after b ps
  unfolding places_after
  refused-places ps = sym (choose_no (eqb (tree_layout_refusal b) 0) (overwrite (place_of b) (region_count b) ps) ps (ne→neqb (tree_layout_refusal b) 0 (λ z. omega
      arith)))

  pub refused-ends : (es : List ℕ) → es ≡ ends_after b es
  unfolding ends_after
  refused-ends es = sym (choose_no (eqb (tree_refusal b) 0) (overwrite (end_of (decode b).regions) (region_count b) es) es (ne→neqb (tree_refusal b) 0 (λ z. omega
      (arith, refused-is))))

-- ---- the answer

pub unshaped_answer : (b : List ℕ) (why : ℕ) → why ≡ tree_refusal b → 1 ≤ why → Refused why ≡ tree_of b
unfolding tree_of tree_answer
unshaped_answer b why e h = go why h ∙ ap (λ (n : ℕ). tree_answer n (header_of b)) e
  where
    go : (n : ℕ) → 1 ≤ n → Refused n ≡ tree_answer n (header_of b)
    go zero h = absurd (omega arith)
    go (suc n) h = refl

pub shaped-answer : (b : List ℕ) (h : Header) → 0 ≡ tree_refusal b → header_of b ≡ h → Shaped h ≡ tree_of b
unfolding tree_of tree_answer
shaped-answer b h e w = rw (← e, w) refl

-- a book that the layout's reader refuses
pub refused-answer : (b ps es : List ℕ) (why : ℕ) → layout-refused why ≡ tree_book (tree_layout_refusal b) (header_of b)
    → (Refused why ≡ tree_of b) × ((ps ≡ places_after b ps) × (es ≡ ends_after b es))
refused-answer b ps es why e =
    let n = refused-number (tree_layout_refusal b) (header_of b) why (sym e) in (
      unshaped_answer b why (sym (refused-is b why n.0 n.1)) n.1,
      (
        refused-places b why n.0 n.1 ps,
        refused-ends b why n.0 n.1 es,
      ),
    )

-- ---- for those who read it: what the reader's answer says

shaped-number : (n : ℕ) (h found : Header) → tree_answer n h ≡ Shaped found → (n ≡ 0) × (h ≡ found)
unfolding tree_answer
shaped-number zero h found e = (refl, cc)
shaped-number (suc n) h found e = let z : ◌≡◌ {A = ℕ} 0 1 = cc in absurd (omega arith)

-- with a header: the book is accepted, and the header is its own
pub shaped-found : (b : List ℕ) (h : Header) → Shaped h ≡ tree_of b → (tree_refusal b ≡ 0) × (header_of b ≡ h)
unfolding tree_of
shaped-found b h e = shaped-number (tree_refusal b) (header_of b) h (sym e)

refused_why : (n : ℕ) (h : Header) (why : ℕ) → tree_answer n h ≡ Refused why → (n ≡ why) × (1 ≤ why)
unfolding tree_answer
refused_why zero h why e = let z : ◌≡◌ {A = ℕ} 0 1 = cc in absurd (omega arith)
refused_why (suc n) h why e =
    let q : suc n ≡ why = cc in
    (q, omega arith)

-- with a refusal: its number is the book's
pub turned_back : (b : List ℕ) (why : ℕ) → Refused why ≡ tree_of b → (tree_refusal b ≡ why) × (1 ≤ why)
unfolding tree_of
turned_back b why e = refused_why (tree_refusal b) (header_of b) why (sym e)

-- ---- an accepted book, for those who read it

module _ (b : List ℕ) (ok : tree_refusal b ≡ 0) where
  laid_out : tree_layout_refusal b ≡ 0
  unfolding tree_refusal
  laid_out = (first-none (tree_layout_refusal b) _ ok).0

  -- the first entries of the filled arrays, one for each region: places
  pub accepted-laid : (n : ℕ) → n ≡ region_count b → (old new : List ℕ) → 511 ≤ length old → new ≡ places_after b old → Laid b (take n new)
  unfolding places_after
  accepted-laid n e old new h z =
      prefix_laid b laid_out old h n e new (z ∙ choose_yes (eqb (tree_layout_refusal b) 0) (overwrite (place_of b) (region_count b) old) old (eq→eqb
      (tree_layout_refusal b) 0 laid_out))

  pub accepted_slots : (n : ℕ) → n ≡ region_count b → (old new : List ℕ) → 511 ≤ length old → new ≡ places_after b old → n ≤ length new
  unfolding places_after
  accepted_slots n e old new h z =
      prefix_room b laid_out old h n e new (z ∙ choose_yes (eqb (tree_layout_refusal b) 0) (overwrite (place_of b) (region_count b) old) old (eq→eqb
      (tree_layout_refusal b) 0 laid_out))

  few : region_count b ≤ 511
  few = (layout-facts b laid_out).regions.1

  ends_are : (old new : List ℕ) → new ≡ ends_after b old → new ≡ overwrite (end_of (decode b).regions) (region_count b) old
  unfolding ends_after
  ends_are old new z = z ∙ choose_yes (eqb (tree_refusal b) 0) (overwrite (end_of (decode b).regions) (region_count b) old) old (eq→eqb (tree_refusal b) 0 ok)

  -- and ends
  pub accepted-room : (n : ℕ) → n ≡ region_count b → (old new : List ℕ) → 511 ≤ length old → new ≡ ends_after b old → n ≤ length new
  accepted-room n e old new h z = omega (arith, ap length (ends_are old new z), overwrite-length (end_of (decode b).regions) old (region_count b), few)

  pub accepted-ends : (n : ℕ) → n ≡ region_count b → (old new : List ℕ) → 511 ≤ length old → new ≡ ends_after b old → (j : ℕ) → j < n
      → get_or (take n new) j 0 ≡ end_of (decode b).regions j
  accepted-ends n e old new h z j k =
      get_or-take n new j 0 k ∙ rw (ends_are old new z) (overwrite_new (end_of (decode b).regions) old (region_count b) j (omega arith) (omega (arith, few)))

-- an answer in the paper's numbers
pub case_is : (b : List ℕ) → tree_case (tree_of b) ≡ case_of (tree_refusal b) (header_values (header_of b))
unfolding tree_of tree_answer tree_case
case_is b = go (tree_refusal b)
  where
    go : (n : ℕ) → tree_case (tree_answer n (header_of b)) ≡ case_of n (header_values (header_of b))
    go zero = refl
    go (suc n) = refl
