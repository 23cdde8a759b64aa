-- What is computed of a yard is what the search's definitions say of it. Assumes nothing.
use mathlib.Core.Path.{◌≡◌, refl, sym, ap, ◌∙◌}
use mathlib.Core.Bool.{false}
use mathlib.Core.List.{List, [], ◌∷◌, Memᴰ as Mem}
use Prim.Native.Nat.{ℕ, zero, suc, ◌≤◌, ◌<◌, max}
use native.Mathlib.Omega.{arith}
use lib.ListN.{length, get_or, take}
use lib.Seq.{take_all}
use Rattle.book.proofs.Lists.{get_d_mem}
use Rattle.road.specs.Dijkstra.{dist}
use Rattle.tree_layout.specs.Values.{Element, Mark}
use Rattle.tree_layout.specs.Decode.{decode}
use Rattle.search_rules.specs.Rule.{Asking}
use Rattle.search_rules.specs.Instance.{Instance}
use Rattle.search_rules.specs.Books.{search_of}
use Rattle.search_rules.specs.Bounds.{abs_diff, combine, aggregate, lower, f, yard_bound}
use Rattle.search_rules.proofs.Equations.{aggregate-none, aggregate-same, search_of_lem}
use Rattle.search_rules.proofs.Turns.{aggregate-take}
use Rattle.search_rules.proofs.Measures.{aggregate-cons, f-is, yard-bound-is}
use Rattle.search_bounds.specs.code.Rows.{rows_lower}
use Rattle.search_bounds.specs.code.Measures.{to_crews, f_by, crew_abs_diff, yard_bound_by}
use Rattle.search_bounds.proofs.ToCrews.{to_none, to-cons, to_at}

-- an aggregate of the distances to the crews is one over the crews
aggregate-to : (code : ℕ) (g : ℕ → ℕ) (road : List ℕ) (l : ℕ) (crews : List ℕ)
    → aggregate code g (to_crews road l crews) ≡ aggregate code (λ q. g (dist road l q)) crews
aggregate-to code g road l [] = ap (aggregate code g) (to_none road l) ∙ aggregate-none code g ∙ sym (aggregate-none code (λ q. g (dist road l q)))
aggregate-to code g road l (q ∷ qs) =
    ap (aggregate code g) (to-cons road l q qs) ∙ aggregate-cons code g (dist road l q) (to_crews road l qs)
    ∙ ap (combine code (g (dist road l q))) (aggregate-to code g road l qs) ∙ sym (aggregate-cons code (λ p. g (dist road l p)) q qs)

-- ---- of a search of two books

module _ (road tree : List ℕ) (a : Asking) (crews : List ℕ) where
  abbrev i : Instance
  i = search_of road tree a crews

  abbrev j : Instance
  j = record {
    code = a.code;
    rule = a.rule;
    crews = crews;
    tree = decode tree;
    d = dist road;
    admits = i.admits;
    wants = i.wants;
    one_way = false;
    towards = λ r. [];
    back = λ y. 0;
  }

  module _ (m : Mark) (e : Element) (out : List ℕ) (o : out ≡ to_crews road m.place crews) where
    pub f_by_lem : f_by a.code out e.distance ≡ f i m e
    unfolding f_by
    f_by_lem = rw (search_of_lem road tree a crews, o) (aggregate-to a.code (λ x. abs_diff x e.distance) road m.place crews ∙ sym (f-is j m e))

    module _ (table : List ℕ) (rows : ℕ) (low : (q : ℕ) → Mem q crews → rows_lower table rows e.yard q ≡ lower i e.yard q) where
      abbrev g : ℕ → ℕ
      g q = max (lower i e.yard q) (abs_diff (dist road m.place q) e.distance)

      one : (k : ℕ) → k < length crews → crew_abs_diff table rows crews out e.yard e.distance k ≡ g (get_or crews k 0)
      unfolding crew_abs_diff
      one k h = rw (low (get_or crews k 0) (get_d_mem crews k 0 h), o, to_at road m.place crews k h) refl

      first : (k : ℕ) → k ≤ length crews → yard_bound_by a.code table rows crews out e.yard e.distance k ≡ aggregate a.code g (take k crews)
      unfolding yard_bound_by
      first zero h = sym (aggregate-none a.code g)
      first (suc k) h = rw (one k h, first k (omega arith)) (sym (aggregate-take a.code g crews k h))

      whole : yard_bound_by a.code table rows crews out e.yard e.distance (length crews) ≡ aggregate a.code g crews
      whole = first (length crews) (omega arith) ∙ ap (aggregate a.code g) (take_all (length crews) crews (omega arith))

      pub bound_by : yard_bound_by a.code table rows crews out e.yard e.distance (length crews) ≡ yard_bound i m e
      bound_by = whole ∙ alike ∙ sym (yard-bound-is j tt m e) ∙ sym (ap (λ (z : Instance). yard_bound z m e) (search_of_lem road tree a crews))
        where
          alike : aggregate a.code g crews ≡ aggregate a.code (λ q. max (lower j e.yard q) (abs_diff (dist road m.place q) e.distance)) crews
          alike = aggregate-same a.code g (λ q. max (lower j e.yard q) (abs_diff (dist road m.place q) e.distance)) crews
              (λ q k. ap (λ (z : Instance). max (lower z e.yard q) (abs_diff (dist road m.place q) e.distance)) (search_of_lem road tree a crews))
