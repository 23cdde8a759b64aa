-- What writing an outline asks of the arrays that reading a tree book fills in, and what is then written. Assumes nothing.
use mathlib.Core.Path.{◌≡◌, refl, sym, ap, ◌∙◌}
use mathlib.Core.List.{List, ◌++◌, append_assoc}
use Prim.Native.Nat.{ℕ, ◌≤◌, ◌<◌}
use native.Mathlib.Omega.{arith}
use lib.ListN.{length, take, get_or}
use lib.Seq.{length-take-le}
use lib.Dec.{eqb}
use Rattle.book.proofs.Choosing.{choose_yes, choose_no}
use Rattle.book.proofs.Lists.{eq→eqb, ne→neqb}
use Rattle.book.specs.Open.{version}
use Rattle.text.specs.Text.{decimal, space, line_end, in_turn, refused_text}
use Rattle.tree_layout.specs.Decode.{region_count, decode}
use Rattle.tree_layout.specs.Reading.{header_of}
use Rattle.tree_layout.specs.declared.Header.{Header}
use Rattle.tree_layout.specs.declared.Fields.{Fields}
use Rattle.tree_layout.proofs.Reading.{header-regions}
use Rattle.tree.specs.Shape.{tree_refusal}
use Rattle.tree.specs.Arrays.{Laid, fields_of}
use Rattle.tree.specs.Yards.{end_of, level_by}
use Rattle.tree.proofs.Reaching.{level_is}
use Rattle.tree.specs.Answer.{Shaped, Refused, tree_of, places_after, ends_after}
use Rattle.tree.proofs.Answering.{shaped-found, turned_back, accepted-laid, accepted_slots, accepted-room, accepted-ends}
use Rattle.outline.specs.Known.{Known}
use Rattle.outline.specs.Output.{columns, columns_kinds, columns_of, header_text, line_end_of, line_of, region_text, outline_text}
use Rattle.outline.proofs.Levels.{level_same}

module _ (b : List ℕ) (h : Header) (read : Shaped h ≡ tree_of b) where
  accepted : tree_refusal b ≡ 0
  accepted = (shaped-found b h read).0

  count : h.regions ≡ region_count b
  count = sym (ap (λ (x : Header). x.regions) (shaped-found b h read).1) ∙ header-regions b

  module _ (old new : List ℕ) (wide : 511 ≤ length old) (filled : new ≡ places_after b old) where
    pub place-room : h.regions ≤ length new
    place-room = accepted_slots b accepted h.regions count old new wide filled

    pub place-length : h.regions ≡ length (take h.regions new)
    place-length = sym (length-take-le h.regions new place-room)

    pub places-laid : Laid b (take h.regions new)
    places-laid = accepted-laid b accepted h.regions count old new wide filled

  module _ (old new : List ℕ) (wide : 511 ≤ length old) (filled : new ≡ ends_after b old) where
    pub end-room : h.regions ≤ length new
    end-room = accepted-room b accepted h.regions count old new wide filled

    pub end-length : h.regions ≡ length (take h.regions new)
    end-length = sym (length-take-le h.regions new end-room)

  module _ (ps qs es fs : List ℕ) (wide : 511 ≤ length ps) (placed : qs ≡ places_after b ps) (room : 511 ≤ length es) (ended : fs ≡ ends_after b es) where
    pub arrays_known : Known b (take h.regions qs) (take h.regions fs)
    arrays_known = record {
      laid = places-laid ps qs wide placed;
      count = sym (end-length es fs room ended) ∙ place-length ps qs wide placed;
      ended = λ i k. accepted-ends b accepted h.regions count es fs room ended i (omega (arith, end-length es fs room ended));
    }

  -- the text of a book that is read
  pub shaped_text : outline_text b ≡ header_text h ++ in_turn (region_text b) h.regions
  unfolding outline_text
  shaped_text =
      let same = (shaped-found b h read).1 in
      cc (
        choose_yes (eqb (tree_refusal b) 0) (header_text (header_of b) ++ in_turn (region_text b) (region_count b)) (refused_text (tree_refusal b))
            (eq→eqb (tree_refusal b) 0 accepted),
        same,
        count,
      )

-- the text of one that is refused
pub refused_text_lem : (b : List ℕ) (why : ℕ) → Refused why ≡ tree_of b → refused_text why ≡ outline_text b
unfolding outline_text
refused_text_lem b why read =
    let r = turned_back b why read in
    ap refused_text (sym r.0) ∙ sym (choose_no (eqb (tree_refusal b) 0) _ _ (ne→neqb (tree_refusal b) 0 (λ z. omega (arith, r.0, r.1))))

-- a region's line, by its level among the ends and its fields
pub region_is : (b places ends : List ℕ) (i level : ℕ) (f : Fields) → Known b places ends → i < length places → f ≡ fields_of b i
    → level ≡ level_by (λ j. get_or ends j 0) i → (v : ℕ) → v ≡ version b → line_of v level f ≡ region_text b i
unfolding region_text
region_is b places ends i level f k h e l v w =
    let same = level_same (λ j. get_or ends j 0) (end_of (decode b).regions) i (λ x p. k.ended x (omega (arith, k.count))) in
    cc (l ∙ same, w, level_is (decode b).regions i)

-- ---- by the version

pub columns_plain : (v : ℕ) → v ≡ 1 → columns_of v ≡ columns
unfolding columns_of
columns_plain v e = choose_yes (eqb v 1) columns columns_kinds (eq→eqb v 1 e)

pub columns-kinds : (v : ℕ) → (v ≡ 1 → ⊥) → columns_of v ≡ columns_kinds
unfolding columns_of
columns-kinds v n = choose_no (eqb v 1) columns columns_kinds (ne→neqb v 1 n)

pub end_plain : (v yards kinds : ℕ) → v ≡ 1 → line_end_of v yards kinds ≡ decimal yards ++ line_end
unfolding line_end_of
end_plain v yards kinds e = choose_yes (eqb v 1) _ _ (eq→eqb v 1 e)

pub end-kinds : (v yards kinds : ℕ) → (v ≡ 1 → ⊥) → line_end_of v yards kinds ≡ (decimal yards ++ space) ++ (decimal kinds ++ line_end)
unfolding line_end_of
end-kinds v yards kinds n = choose_no (eqb v 1) _ _ (ne→neqb v 1 n)

-- what the version decides, in a text that is appended to
pub ruleset by_version = (columns_plain, columns-kinds, end_plain, end-kinds, append_assoc)

-- a book that is known has a version byte
pub five : (b places ends : List ℕ) → Known b places ends → 5 ≤ length b
five b places ends k = omega (arith, k.laid.layout.opens.headed)
