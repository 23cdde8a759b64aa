-- What is printed: a junction's row, and the whole text by the answer of the reader. Assumes nothing.
use mathlib.Core.Path.{◌≡◌, sym, ap, ◌∙◌}
use mathlib.Core.List.{List, ◌++◌, append-nil}
use Prim.Native.Nat.{ℕ}
use native.Mathlib.Omega.{arith}
use lib.Dec.{eqb}
use Rattle.book.proofs.Choosing.{choose_yes, choose_no}
use Rattle.book.proofs.Lists.{eq→eqb, ne→neqb}
use Rattle.text.specs.Text.{in_turn, refused_text}
use Rattle.text.proofs.Appending.{turns_none}
use Rattle.road_layout.specs.Road.{junctions, road_count}
use Rattle.road_layout.specs.Layout.{Sound, Refused, told}
use Rattle.adjacency.specs.Arcs.{net}
use Rattle.road.specs.Dijkstra.{distances}
use Rattle.road.specs.Refusal.{road_refusal}
use Rattle.road.proofs.Answering.{read_sound, read_refused}
use Rattle.eccentricity.specs.Rows.{furthest_of, row_total}
use Rattle.eccentricity.specs.Output.{heading, line_of, row_text, eccentricity_text}

-- junction u's row, by its distances in a book
pub row_is : (b ds : List ℕ) (n u w f t : ℕ) → ds ≡ distances (net b) (junctions b) u → n ≡ junctions b → w ≡ u → f ≡ furthest_of ds n → t ≡ row_total ds n
    → line_of w f t ≡ row_text b u
unfolding row_text
row_is b ds n u w f t d e k g h = cc

-- before any row there is none
pub none_put : (text : ℕ → List ℕ) (out : List ℕ) (n : ℕ) → n ≡ 0 → out ≡ out ++ in_turn text n
none_put text out n e = rw (e, turns_none text) (sym (append-nil out))

module _ (b : List ℕ) where
  -- what is printed of a book that is refused
  pub refused-is : (why : ℕ) → Refused why ≡ told (road_refusal b) (junctions b) (road_count b) → refused_text why ≡ eccentricity_text b
  unfolding eccentricity_text
  refused-is why e =
      let r = read_refused b why e in
      ap refused_text (sym r.0) ∙ sym (choose_no (eqb (road_refusal b) 0) _ _ (ne→neqb (road_refusal b) 0 (λ z. omega (arith, r.0, r.1))))

  -- and of one that passes
  module _ (n r : ℕ) (e : Sound n r ≡ told (road_refusal b) (junctions b) (road_count b)) where
    pub none-refused : road_refusal b ≡ 0
    none-refused = (read_sound b n r e).0

    pub table_is : heading ++ in_turn (row_text b) (junctions b) ≡ eccentricity_text b
    unfolding eccentricity_text
    table_is = sym (choose_yes (eqb (road_refusal b) 0) _ _ (eq→eqb (road_refusal b) 0 none-refused))
