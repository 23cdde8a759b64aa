-- Test 7 holds exactly if the facts of "Tree shape" hold. Assumes nothing.
use mathlib.Core.Path.{◌≡◌, refl, sym, ap, ◌∙◌}
use mathlib.Core.List.{List, [], ◌∷◌}
use Prim.Native.Nat.{ℕ, zero, suc, ◌+◌, ◌-◌, ◌≤◌, ◌<◌}
use native.Mathlib.Decide.{ℕ_discrete, dec_lt}
use native.Mathlib.Omega.{arith}
use lib.ListN.{length}
use lib.Dec.{T, eqb→eq}
use Rattle.book.proofs.Choosing.{and_left, and_right}
use Rattle.tree_layout.specs.Values.{Region, Tree, region_at}
use Rattle.tree.specs.Shape.{end_at, is_at, siblings, subtree, levels, shaped}
use Rattle.tree.specs.Yards.{end_of, starts, hops, children_of}
use Rattle.tree.specs.Facts.{Preorder, none as ended, tree, ChildrenOf, RangesRise, yard_sum, TreeShape}
use Rattle.tree_leaf.proofs.Named.{leaf-lists, lists-leaf}
use Rattle.tree.proofs.Onward.{came_to}
use Rattle.tree.proofs.Forest.{Forest, none, leaf, wrap, join, Rooted, siblings-next, siblings-step, siblings-end, siblings-ended, Found, at_leaf}
use Rattle.tree.proofs.Forest.{at_inner, subtree-found, subtree-leaf, subtree-inner, nowhere, tree_forest}
use Rattle.tree.proofs.Descent.{shaped_by}
use Rattle.tree.proofs.ForestLaws.{Sane, end-hops, leaf_ok_lem}

module _ (rs : List Region) where
  -- ---- the descent finds subtrees in preorder

  -- region i and its children's subtrees, up to number e
  record Parts (l i e : ℕ) : Type 0 where
    pub inside : i < length rs
    pub children : List ℕ
    pub count : length children ≡ (region_at rs i).children
    pub below : Preorder rs l (suc i) children e

  -- n siblings' subtrees
  record Sibs (l n i e : ℕ) : Type 0 where
    pub roots : List ℕ
    pub count : length roots ≡ n
    pub trees : Preorder rs l i roots e

  parts_of_lem : (l i e : ℕ) → ((n j low high left m : ℕ) → siblings rs (subtree rs l) n j low high left ≡ end_at m → Sibs l n j m)
      → subtree rs (suc l) i ≡ end_at e → Parts l i e
  parts_of_lem l i e rec p = go e (subtree-found rs l i e p)
    where
      go : (e : ℕ) → Found rs (subtree rs l) i e → Parts l i e
      go _ (at_leaf h c k) = record { inside = h; children = []; count = sym c; below = ended }
      go e (at_inner h c z) =
          let s = rec (region_at rs i).children (suc i) (region_at rs i).first (region_at rs i).after (region_at rs i).yards e z in
          record { inside = h; children = s.roots; count = s.count; below = s.trees }

  no_sibs : (l i low high left e : ℕ) → siblings rs (subtree rs l) 0 i low high left ≡ end_at e → Sibs l 0 i e
  no_sibs l i low high left e p =
      let z = siblings-ended rs (subtree rs l) i low high left e p in
      rw (← z.1) (record { roots = []; count = refl; trees = ended })

  sibs_of : (l : ℕ) → ((i e : ℕ) → subtree rs (suc l) i ≡ end_at e → Parts l i e) → (n i low high left e : ℕ)
      → siblings rs (subtree rs (suc l)) n i low high left ≡ end_at e → Sibs (suc l) n i e
  sibs_of l rec zero i low high left e p = no_sibs (suc l) i low high left e p
  sibs_of l rec (suc n) i low high left e p =
      let x = siblings-next rs (subtree rs (suc l)) n i low high left e p in
      let s = sibs_of l rec n x.next (region_at rs i).after high (left - (region_at rs i).yards) e x.rest in
      let g = rec i x.next x.found in
      record { roots = i ∷ s.roots; count = ap suc s.count; trees = tree g.inside g.count g.below s.trees }

  sibs : (l n i low high left e : ℕ) → siblings rs (subtree rs l) n i low high left ≡ end_at e → Sibs l n i e
  sibs zero zero i low high left e p = no_sibs zero i low high left e p
  sibs zero (suc n) i low high left e p =
      let x = siblings-next rs (subtree rs zero) n i low high left e p in
      absurd (nowhere rs i x.next x.found)
  sibs (suc l) n i low high left e p = sibs_of l (λ j m q. parts_of_lem l j m (sibs l) q) n i low high left e p

  pub found_preorder : (l i e : ℕ) → subtree rs (suc l) i ≡ end_at e → Preorder rs (suc l) i (i ∷ []) e
  found_preorder l i e p = let g = parts_of_lem l i e (sibs l) p in tree g.inside g.count g.below ended

  -- ---- subtrees in preorder are where the descent says

  -- each region's subtree ends where its last child's does
  abbrev pub EndsMeet : Type 0
  EndsMeet = (r : ℕ) → r < length rs → end_of rs r ≡ hops (end_of rs) (region_at rs r).children (suc r)

  pub record Placed (i : ℕ) (ks : List ℕ) (e : ℕ) : Type 0 where
    pub roots_are : ks ≡ starts (end_of rs) (length ks) i
    pub next-is : e ≡ hops (end_of rs) (length ks) i

  pub placed : EndsMeet → {l i e : ℕ} {ks : List ℕ} → Preorder rs l i ks e → Placed i ks e
  unfolding starts hops
  placed f ended = record { roots_are = refl; next-is = refl }
  placed f (tree {i = i} {m = m} {next = e} {children = cs} {roots = ks} h c g k) =
      let a = placed f g in
      let b = placed f k in
      let z : m ≡ end_of rs i = a.next-is ∙ (ap (λ (n : ℕ). hops (end_of rs) n (suc i)) c ∙ sym (f i h)) in
      record { roots_are = ap (λ (l : List ℕ). i ∷ l) (rw z at b.roots_are); next-is = rw z at b.next-is }

  pub children_are : EndsMeet → (r : ℕ) (cs : List ℕ) → ChildrenOf rs r cs → cs ≡ children_of rs r
  unfolding children_of
  children_are f r cs c = (placed f c.subtrees).roots_are ∙ ap (λ (n : ℕ). starts (end_of rs) n (suc r)) c.count

  -- ---- ranges and sums of siblings

  pub forest_rise : {n i low high left e : ℕ} → Forest rs n i low high left e → RangesRise rs low high (starts (end_of rs) n i)
  unfolding starts
  forest_rise (none h z) = tt
  forest_rise (leaf h c k q) = (omega arith, omega arith, tt)
  forest_rise (wrap h c p q g) = (omega arith, omega arith, tt)
  forest_rise (join a b c q g k) = (a, b, rw q (forest_rise k))

  pub forest_sum : {n i low high left e : ℕ} → Forest rs n i low high left e → left ≡ yard_sum rs (starts (end_of rs) n i)
  unfolding starts
  forest_sum (none h z) = z
  forest_sum (leaf h c k q) = omega arith
  forest_sum (wrap h c p q g) = omega arith
  forest_sum (join a b c q g k) = rw q (omega (arith, forest_sum k))

  -- an inner region's children make a forest in its range, with its yards
  pub inner_forest : {n i low high left e : ℕ} → Forest rs n i low high left e → (r : ℕ) → i ≤ r → r < e → 0 < (region_at rs r).children
      → Forest rs (region_at rs r).children (suc r) (region_at rs r).first (region_at rs r).after (region_at rs r).yards (end_of rs r)
  inner_forest (none h z) r p q c = absurd (omega arith)
  inner_forest (leaf {i = i} h x y z) r p q c = absurd (let w : (region_at rs i).children
      ≡ (region_at rs r).children = ap (λ (j : ℕ). (region_at rs j).children) (let v : i ≡ r = omega arith in v) in omega arith)
  inner_forest (wrap {n = n} {i = i} {e = e} h x y z g) r p q c = go (ℕ_discrete i r) (λ w. inner_forest g r w q c)
    where
      go : Dec (i ≡ r) → (suc i ≤ r → Forest rs (region_at rs r).children (suc r) (region_at rs r).first (region_at rs r).after (region_at rs r).yards (end_of
          rs r)) → Forest rs (region_at rs r).children (suc r) (region_at rs r).first (region_at rs r).after (region_at rs r).yards (end_of rs r)
      go (yes w) rec = rw (← w, x, z) g
      go (no w) rec = rec (omega arith)
  inner_forest (join {m = m} a b d z g t) r p q c = go (dec_lt r m) (λ w. inner_forest g r p w c) (λ w. inner_forest t r w q c)
    where
      go : Dec (r < m) → (r < m → Forest rs (region_at rs r).children (suc r) (region_at rs r).first (region_at rs r).after (region_at rs r).yards (end_of rs
          r)) → (m ≤ r → Forest rs (region_at rs r).children (suc r) (region_at rs r).first (region_at rs r).after (region_at rs r).yards (end_of rs r))
          → Forest rs (region_at rs r).children (suc r) (region_at rs r).first (region_at rs r).after (region_at rs r).yards (end_of rs r)
      go (yes w) f s = f w
      go (no w) f s = s (omega arith)

-- ---- from the test to the facts

module _ (t : Tree) (sane : Sane t.regions) (there : 1 ≤ length t.regions) (ok : T (shaped t)) where
  abbrev rs : List Region
  rs = t.regions

  pub root-end : subtree rs levels 0 ≡ end_at (length rs)
  unfolding shaped
  root-end = came_to (subtree rs levels 0) (length rs) (and_left (is_at (subtree rs levels 0) (length rs)) _ ok)

  pub root_forest : Rooted rs 0 (length rs)
  root_forest = tree_forest rs levels 0 (length rs) (omega arith) root-end

  pub root-yards : (region_at rs 0).yards ≡ t.yards
  unfolding shaped
  root-yards = eqb→eq (region_at rs 0).yards t.yards (and_right (is_at (subtree rs levels 0) (length rs)) _ ok)

  pub ends_meet : EndsMeet rs
  ends_meet r h = end-hops rs sane root_forest r (omega arith) h

  pub ranges_of : (r : ℕ) → r < length rs → RangesRise rs (region_at rs r).first (region_at rs r).after (children_of rs r)
  unfolding children_of starts
  ranges_of r h = go (ℕ_discrete (region_at rs r).children 0)
    where
      go : Dec ((region_at rs r).children ≡ 0) → RangesRise rs (region_at rs r).first (region_at rs r).after (starts (end_of rs) (region_at rs r).children (suc r))
      go (yes c) = rw c tt
      go (no c) = forest_rise rs (inner_forest rs root_forest r (omega arith) h (omega arith))

  pub shape-facts : TreeShape t
  unfolding children_of
  shape-facts = record {
    one-tree = found_preorder rs 7 0 (length rs) root-end;
    ranges = λ r h cs c. rw (children_are rs ends_meet r cs c) (ranges_of r h);
    sums = λ r h p cs c. rw (children_are rs ends_meet r cs c) (forest_sum rs (inner_forest rs root_forest r (omega arith) h p));
    leaves = λ r h c. leaf-lists (region_at rs r) (leaf_ok_lem rs sane root_forest r (omega arith) h c);
    root = root-yards;
  }

-- ---- from the facts to the test

module _ (t : Tree) (f : TreeShape t) where
  abbrev rs' : List Region
  rs' = t.regions

  nothing_below : {l i e : ℕ} {ks : List ℕ} → Preorder rs' l i ks e → length ks ≡ 0 → e ≡ i
  nothing_below ended z = refl
  nothing_below (tree h c g k) z = absurd (omega arith)

  -- the descent finds what the facts say
  found : {l i e : ℕ} {ks : List ℕ} → Preorder rs' l i ks e → (low high : ℕ) → RangesRise rs' low high ks
      → siblings rs' (subtree rs' l) (length ks) i low high (yard_sum rs' ks) ≡ end_at e
  found (ended {levels = l} {i = i}) low high r = siblings-end rs' (subtree rs' l) i low high 0 refl
  found (tree {levels = l} {i = i} {m = m} {next = e} {children = cs} {roots = ks} h c g k) low high r =
      step (ℕ_discrete (region_at rs' i).children 0) (found g (region_at rs' i).first (region_at rs' i).after (f.ranges i h cs kin)) (found k (region_at rs' i
      ).after high r.2)
    where
      kin : ChildrenOf rs' i cs
      kin = record { count = c; levels = l; next = m; subtrees = g }

      rest : subtree rs' (suc l) i ≡ end_at m → siblings rs' (subtree rs' (suc l)) (length ks) m (region_at rs' i).after high (yard_sum rs' ks) ≡ end_at e
          → siblings rs' (subtree rs' (suc l)) (suc (length ks)) i low high ((region_at rs' i).yards + yard_sum rs' ks) ≡ end_at e
      rest z x =
          let w : ((region_at rs' i).yards + yard_sum rs' ks) - (region_at rs' i).yards ≡ yard_sum rs' ks = omega arith in
          siblings-step rs' (subtree rs' (suc l)) (length ks) i low high ((region_at rs' i).yards + yard_sum rs' ks) m r.0 r.1 (omega arith) z ∙ rw w x

      inner : siblings rs' (subtree rs' l) (length cs) (suc i) (region_at rs' i).first (region_at rs' i).after (yard_sum rs' cs) ≡ end_at m
          → 0 < (region_at rs' i).children → siblings rs' (subtree rs' l) (region_at rs' i).children (suc i) (region_at rs' i).first (region_at rs' i).after
          (region_at rs' i).yards ≡ end_at m
      inner x p = rw (← c, f.sums i h p cs kin) x

      step : Dec ((region_at rs' i).children ≡ 0)
          → siblings rs' (subtree rs' l) (length cs) (suc i) (region_at rs' i).first (region_at rs' i).after (yard_sum rs' cs) ≡ end_at m
          → siblings rs' (subtree rs' (suc l)) (length ks) m (region_at rs' i).after high (yard_sum rs' ks) ≡ end_at e
          → siblings rs' (subtree rs' (suc l)) (suc (length ks)) i low high ((region_at rs' i).yards + yard_sum rs' ks) ≡ end_at e
      step (yes x) p q = rest (subtree-leaf rs' l i h x (lists-leaf (region_at rs' i) (f.leaves i h x)) ∙ ap end_at (sym (nothing_below g (c ∙ x)))) q
      step (no x) p q = rest (subtree-inner rs' l i h (omega arith) ∙ inner p (omega arith)) q

  root-found : subtree rs' levels 0 ≡ end_at (length rs')
  root-found =
      let x = found f.one-tree (region_at rs' 0).first (region_at rs' 0).after (omega arith, omega arith, tt) in
      let n = siblings-next rs' (subtree rs' levels) 0 0 (region_at rs' 0).first (region_at rs' 0).after ((region_at rs' 0).yards + 0) (length rs') x in
      let z = siblings-ended rs' (subtree rs' levels) n.next (region_at rs' 0).after (region_at rs' 0).after (((region_at rs' 0).yards + 0) - (region_at rs' 0
      ).yards) (length rs') n.rest in
      n.found ∙ ap end_at z.1

  pub facts-shaped : T (shaped t)
  facts-shaped = shaped_by t levels (omega arith) root-found f.root
