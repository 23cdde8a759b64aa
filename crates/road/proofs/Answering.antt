-- Which answers of the layout and of the walk from junction 0 lead to which answer of the reader. Assumes nothing.
use mathlib.Core.Path.{◌≡◌, sym, ap, ◌∙◌}
use mathlib.Core.Bool.{true, false}
use mathlib.Core.List.{List}
use Prim.Native.Nat.{ℕ, ◌≤◌}
use native.Mathlib.Omega.{arith}
use Rattle.book.proofs.Choosing.{first-earlier, first-later, first-none, passes_if, fails_if}
use Rattle.road_layout.specs.Road.{junctions, road_count}
use Rattle.road_layout.specs.Layout.{road_layout_refusal, Sound, Refused, told}
use Rattle.road_layout.proofs.Reading.{told-refused, told-zero, told_sound, told_why}
use Rattle.adjacency.specs.Arcs.{net}
use Rattle.road.specs.Dijkstra.{distances}
use Rattle.road.specs.Refusal.{all_reached, road_refusal}

module _ (b : List ℕ) where
  -- a layout that is refused
  module _ (why : ℕ) (e : Refused why ≡ told (road_layout_refusal b) (junctions b) (road_count b)) where
    pub layout-refused : Refused why ≡ told (road_refusal b) (junctions b) (road_count b)
    unfolding road_refusal
    layout-refused =
        let p = told_why (road_layout_refusal b) (junctions b) (road_count b) why (sym e) in
        e ∙ ap (λ (x : ℕ). told x (junctions b) (road_count b)) (sym (first-earlier (road_layout_refusal b) _ (omega (arith, p.0, p.1))))

    -- and then the book does not pass
    pub layout_fails : road_refusal b ≡ 0 → ⊥
    unfolding road_refusal
    layout_fails z =
        let p = told_why (road_layout_refusal b) (junctions b) (road_count b) why (sym e) in
        omega (arith, p.0, p.1, (first-none (road_layout_refusal b) _ z).0)

  -- a sound layout, and what it counts
  pub layout_sound : (n r : ℕ) → Sound n r ≡ told (road_layout_refusal b) (junctions b) (road_count b)
      → (road_layout_refusal b ≡ 0) × (n ≡ junctions b) × (r ≡ road_count b)
  layout_sound n r e = told_sound (road_layout_refusal b) (junctions b) (road_count b) n r (sym e)

  module _ (z : road_layout_refusal b ≡ 0) where
    pub cut_off : all_reached (distances (net b) (junctions b) 0) (junctions b) ≡ false → Refused 6 ≡ told (road_refusal b) (junctions b) (road_count b)
    unfolding road_refusal
    cut_off t =
        sym (ap (λ (x : ℕ). told x (junctions b) (road_count b)) (first-later (road_layout_refusal b) _ z ∙ fails_if _ 6 0 t)
        ∙ told-refused 6 (junctions b) (road_count b) (omega arith))

    pub sound : (n r : ℕ) → all_reached (distances (net b) (junctions b) 0) (junctions b) ≡ true → n ≡ junctions b → r ≡ road_count b
        → Sound n r ≡ told (road_refusal b) (junctions b) (road_count b)
    unfolding road_refusal
    sound n r t e f = rw (e, f) (sym (told-zero _ (junctions b) (road_count b) (first-later (road_layout_refusal b) _ z ∙ passes_if _ 6 0 t)))

-- ---- for callers: what the reader's answer says

module _ (b : List ℕ) where
  pub read_sound : (n r : ℕ) → Sound n r ≡ told (road_refusal b) (junctions b) (road_count b)
      → (road_refusal b ≡ 0) × (n ≡ junctions b) × (r ≡ road_count b)
  read_sound n r e = told_sound (road_refusal b) (junctions b) (road_count b) n r (sym e)

  pub read_refused : (why : ℕ) → Refused why ≡ told (road_refusal b) (junctions b) (road_count b) → (road_refusal b ≡ why) × (1 ≤ why)
  read_refused why e = told_why (road_refusal b) (junctions b) (road_count b) why (sym e)
