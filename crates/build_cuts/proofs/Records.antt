-- The record of a range itself: its bytes and its room. Assumes nothing.
use mathlib.Core.Path.{◌≡◌, ap, ◌∙◌}
use mathlib.Core.Logic.{◌≢◌}
use mathlib.Core.List.{List, [], ◌∷◌}
use Prim.Native.Nat.{ℕ, ◌+◌, ◌<◌}
use native.Mathlib.Omega.{arith}
use lib.ListN.{length}
use lib.Dec.{eqb}
use Rattle.book.specs.Open.{version}
use Rattle.book.specs.Writing.{write}
use Rattle.book.proofs.Choosing.{choose_yes, choose_no}
use Rattle.book.proofs.Lists.{eq→eqb, ne→neqb}
use Rattle.tree_layout.specs.Values.{Region}
use Rattle.tree_layout.specs.Decode.{record_size}
use Rattle.tree_encode.specs.Encode.{encode_region, encode_regions}
use Rattle.build_rules.specs.Cut.{leaf_region, inner_region}
use Rattle.build_records.specs.Given.{given}
use Rattle.build_records.specs.code.Parts.{region_of}
use Rattle.build_records.proofs.Fields.{given-landmarks}
use Rattle.build_records.proofs.Records.{region_leaf, region_inner, region_bytes}
use Rattle.build_cuts.specs.code.Writing.{own_regions, WrittenRegions}
use Rattle.build_cuts.proofs.Joining.{one-bytes, written_none, written_one, written_same}

module _ (b yb : List ℕ) (m limit a s q : ℕ) (ys : List ℕ) where
  -- ---- what they are

  pub own_none : q ≡ 1 → own_regions b yb m limit a s q ys ≡ []
  unfolding own_regions
  own_none e = choose_yes (eqb q 1) [] (region_of (given b yb m limit) a s q ys ∷ []) (eq→eqb q 1 e)

  own_one : q ≢ 1 → own_regions b yb m limit a s q ys ≡ region_of (given b yb m limit) a s q ys ∷ []
  unfolding own_regions
  own_one h = choose_no (eqb q 1) [] (region_of (given b yb m limit) a s q ys ∷ []) (ne→neqb q 1 h)

  pub own_leaf : q ≡ 0 → own_regions b yb m limit a s q ys ≡ leaf_region (given b yb m limit) a s ys ∷ []
  own_leaf e = own_one (λ z. omega (arith, z)) ∙ ap (λ (r : Region). r ∷ []) (region_leaf (given b yb m limit) a s q ys e)

  pub own_inner : q ≢ 1 → 0 < q → own_regions b yb m limit a s q ys ≡ inner_region (given b yb m limit) a s q ys ∷ []
  own_inner h k = own_one h ∙ ap (λ (r : Region). r ∷ []) (region_inner (given b yb m limit) a s q ys k)

  own_bytes : length (encode_region (version yb) (region_of (given b yb m limit) a s q ys)) ≡ record_size (version yb) m q (length ys)
  own_bytes = region_bytes (version yb) (given b yb m limit) a s q ys ∙ ap (λ (n : ℕ). record_size (version yb) n q (length ys)) (given-landmarks b yb m limit)

  pub own_room : q ≢ 1 → length (encode_regions (version yb) (own_regions b yb m limit a s q ys)) ≡ record_size (version yb) m q (length ys)
  own_room h = ap (λ (l : List Region). length (encode_regions (version yb) l)) (own_one h) ∙ ap length (one-bytes (version yb) (region_of (given b yb m limit) a s q ys)) ∙ own_bytes

  -- ---- one record, or none

  pub own_kept : (tree : List ℕ) (at : ℕ) → q ≡ 1 → WrittenRegions (version yb) tree at (own_regions b yb m limit a s q ys) tree at 0
  own_kept tree at e = written_same (version yb) tree at [] (own_regions b yb m limit a s q ys) tree at 0 (own_none e) (written_none (version yb) tree at)

  pub own_written : (tree after : List ℕ) (at end n : ℕ) → q ≢ 1 → length ys ≡ n → end ≡ at + record_size (version yb) m q n
      → after ≡ write tree at (encode_region (version yb) (region_of (given b yb m limit) a s q ys))
      → WrittenRegions (version yb) tree at (own_regions b yb m limit a s q ys) after end 1
  own_written tree after at end n h k e f =
      written_same (version yb) tree at (region_of (given b yb m limit) a s q ys ∷ []) (own_regions b yb m limit a s q ys) after end 1 (own_one h)
      (rw e (written_one (version yb) tree at (region_of (given b yb m limit) a s q ys) after (record_size (version yb) m q n) f (own_bytes ∙ ap (record_size (version yb) m q) k)))
