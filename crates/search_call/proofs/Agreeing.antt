-- A search for k yards and a drive search of the same books agree. Assumes nothing.
use mathlib.Core.Path.{◌≡◌, refl, sym, ap, ◌∙◌}
use mathlib.Core.List.{List}
use Prim.Native.Nat.{ℕ}
use lib.ListN.{take}
use lib.Dec.{T}
use Rattle.search_rules.specs.Rule.{Rule, nearest, in_drive}
use Rattle.search_rules.specs.Instance.{Instance}
use Rattle.search_rules.specs.Held.{last_distance as last_of}
use Rattle.search_rules.specs.Books.{search_of}
use Rattle.search_rules.specs.Run.{answer}
use Rattle.search_rules.proofs.Held.{greatest-is}
use Rattle.search_rules.proofs.Agreeing.{lists-first}
use Rattle.search_call.specs.Call.{rule_by}
use Rattle.search_call.specs.Demand.{code, k, crews, limit, instance_of, list, last_distance, SearchesAgree}
use Rattle.search_call.proofs.Calls.{on_settled}
use Rattle.search_call.proofs.Instances.{sound_by}
use Rattle.search_call.proofs.Demand.{books}

-- the search of some books that asks for an aggregate, by a rule, for some kinds
abbrev by : (road tree : List ℕ) (code : ℕ) → Rule → (kinds : ℕ) → (crews : List ℕ) → Instance
by road tree code r kinds crews = search_of road tree (record { code = code; rule = r; wanted = kinds }) crews

same_search : (road road' tree tree' : List ℕ) (c c' : ℕ) (r r' : Rule) (w w' : ℕ) (qs qs' : List ℕ) → road ≡ road' → tree ≡ tree' → c ≡ c' → r ≡ r' → w ≡ w'
    → qs ≡ qs'
    → by road tree c r w qs ≡ by road' tree' c' r' w' qs'
same_search road road' tree tree' c c' r r' w w' qs qs' e f g h i j = rw (e, f, g, h, i, j) refl

-- the drive search lists the full list of k first
pub searches_agree : SearchesAgree
searches_agree s d bytes er et ew ec eq passes ts td fy full fd =
    let (n, u) = on_settled s.call s.areas ts in
    let (m, v) = on_settled d.call d.areas td in
    let p = books s bytes n in
    let w = s.call.want.kinds in
    let few : instance_of s ≡ by s.call.road s.call.tree (code s) (nearest (k s)) w (crews s) =
    same_search _ _ _ _ _ _ _ _ _ _ _ _ refl refl refl (ap (rule_by (k s)) fy) refl refl in
    let far : instance_of d ≡ by s.call.road s.call.tree (code s) (in_drive (last_distance s)) w (crews s) =
    same_search _ _ _ _ _ _ _ _ _ _ _ _ (sym er) (sym et) (sym ec) (ap (rule_by (k d)) fd) (sym ew) (sym eq) in
    let all = lists-first s.call.road s.call.tree (code s) w (crews s) p (k s) (last_distance s) (sound_by s p (nearest (k s)) passes)
    (sound_by s p (in_drive (last_distance s)) passes) (limit s) (limit d) (settles few (limit s) u) (settles far (limit d) v)
    (greatest-is (list s) ∙ last few (limit s)) in
    ap (take (k s)) (lists far (limit d)) ∙ all ∙ sym (lists few (limit s))
  where
    settles : {i j : Instance} → i ≡ j → (limit : ℕ) → T (answer i limit).settled → T (answer j limit).settled
    settles e limit t = rw e at t

    last : {i j : Instance} → i ≡ j → (limit : ℕ) → last_of 0 (answer i limit).listed ≡ last_of 0 (answer j limit).listed
    last e limit = ap (λ (x : Instance). last_of 0 (answer x limit).listed) e

    lists : {i j : Instance} → i ≡ j → (limit : ℕ) → (answer i limit).listed ≡ (answer j limit).listed
    lists e limit = ap (λ (x : Instance). (answer x limit).listed) e
