-- Two settled searches on true trees of the same yards, with the same distances, list the same: whatever the trees' versions, and so the two_way finder's and
-- the other's where every road is alike both ways. Assumes nothing.
use mathlib.Core.Path.{◌≡◌, refl, sym, ◌∙◌}
use mathlib.Core.List.Memᴰ.{head}
use mathlib.Core.List.Memᴰ.{tail}
use mathlib.Core.List.{List, [], ◌∷◌, Memᴰ as Mem}
use Prim.Native.Nat.{ℕ}
use lib.Dec.{T}
use Rattle.search_rules.specs.Instance.{Instance}
use Rattle.search_rules.specs.Bounds.{over, total, furthest}
use Rattle.search_rules.specs.Held.{entry, ranked}
use Rattle.search_rules.specs.Run.{answer}
use Rattle.search_rules.specs.Facts.{SoundInstance}
use Rattle.search_rules.specs.Theorems.{TreeYards}
use Rattle.search_rules.proofs.Equations.{aggregate-same}
use Rattle.search_rules.proofs.Theorems.{answer-exact}

-- the same question of the same distances: from each crew to each yard
pub record SameQuestion (i j : Instance) (ys : List ℕ) : Type 0 where
  pub code : i.code ≡ j.code
  pub rule : i.rule ≡ j.rule
  pub crews : i.crews ≡ j.crews
  pub distance : (q y : ℕ) → Mem q i.crews → Mem y ys → i.d q y ≡ j.d q y

module _ (i j : Instance) where
  total-same : (ys : List ℕ) → SameQuestion i j ys → (y : ℕ) → Mem y ys → total i y ≡ total j y
  unfolding total over
  total-same ys s y k =
      let same = aggregate-same i.code (λ q. i.d q y) (λ q. j.d q y) i.crews (λ q c. s.distance q y c k) in
      rw (← s.code, ← s.crews) same

  furthest-same : (ys : List ℕ) → SameQuestion i j ys → (y : ℕ) → Mem y ys → furthest i y ≡ furthest j y
  unfolding furthest
  furthest-same ys s y k =
      let same = aggregate-same 1 (λ q. i.d q y) (λ q. j.d q y) i.crews (λ q c. s.distance q y c k) in
      rw (← s.crews) same

  entry-same : (ys : List ℕ) → SameQuestion i j ys → (y : ℕ) → Mem y ys → entry i y ≡ entry j y
  unfolding entry
  entry-same ys s y k = λ z. record { distance = total-same ys s y k z; furthest = furthest-same ys s y k z; yard = y }

  ranked-same : (ys zs : List ℕ) → SameQuestion i j zs → ((y : ℕ) → Mem y ys → Mem y zs) → ranked i ys ≡ ranked j ys
  unfolding ranked
  ranked-same [] zs s sub = refl
  ranked-same (y ∷ ys) zs s sub = rw (entry-same zs s y (sub y (head refl)), ranked-same ys zs s (λ w k. sub w (tail k))) refl

  pub lists_agree : SoundInstance i → SoundInstance j → (m n : ℕ) → T (answer i m).settled → T (answer j n).settled → (ys : List ℕ)
      → TreeYards i ys → TreeYards j ys → SameQuestion i j ys → (answer i m).listed ≡ (answer j n).listed
  lists_agree a b m n t u ys p q s =
      answer-exact i a m t ys p
      ∙ rw (ranked-same ys ys s (λ y k. k), s.rule) refl
      ∙ sym (answer-exact j b n u ys q)

  -- so too by each tree's own list of its wanted yards, in whatever order
  pub lists_agree_same : SoundInstance i → SoundInstance j → (m n : ℕ) → T (answer i m).settled → T (answer j n).settled → (ys zs : List ℕ)
      → TreeYards i ys → TreeYards j zs → ((y : ℕ) → Mem y ys → Mem y zs) → ((y : ℕ) → Mem y zs → Mem y ys) → SameQuestion i j ys
      → (answer i m).listed ≡ (answer j n).listed
  lists_agree_same a b m n t u ys zs p q to from s = lists_agree a b m n t u ys p (record {
    distinct = p.distinct;
    below = λ y k. q.below y (to y k);
    every = λ y k. from y (q.every y k);
  }) s
