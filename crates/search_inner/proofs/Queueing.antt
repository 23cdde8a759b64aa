-- The children of a region, queued one after the other. Assumes nothing.
use mathlib.Core.Path.{◌≡◌, refl, sym, ap, ◌∙◌}
use mathlib.Core.Bool.{Bool, not}
use mathlib.Core.List.Memᴰ.{head}
use mathlib.Core.List.Memᴰ.{tail}
use mathlib.Core.List.{List, [], ◌∷◌, Memᴰ as Mem}
use Prim.Native.Nat.{ℕ, suc, ◌+◌, ◌-◌, ◌≤◌, ◌<◌, max}
use native.Mathlib.Numerals.{add-one}
use native.Mathlib.Omega.{arith}
use lib.ListN.{length, set, length-set}
use lib.Dec.{T}
use Rattle.book.specs.Lists.{keep_if}
use Rattle.book.proofs.Lists.{kept-none, kept_yes, kept_no}
use Rattle.kinds.specs.Kinds.{shares}
use Rattle.tree_layout.specs.Values.{region_at}
use Rattle.tree_layout.specs.Decode.{decode, junction_count, landmark_count}
use Rattle.tree_layout.specs.Reading.{header_of}
use Rattle.tree_layout.specs.declared.Header.{Header}
use Rattle.tree_layout.proofs.Reading.{header-junctions, header-landmarks}
use Rattle.tree_layout.specs.declared.Fields.{Fields}
use Rattle.tree.specs.Arrays.{Laid, fields_of}
use Rattle.tree.proofs.Fielding.{laid-few}
use Rattle.tree.proofs.Recursing.{kinds-is}
use Rattle.tree.specs.Yards.{end_of, starts, children_of}
use Rattle.tree.proofs.Siblings.{starts_none, starts_more, children_are}
use Rattle.search_rules.specs.Instance.{Instance}
use Rattle.search_rules.specs.Bounds.{bound}
use Rattle.search_rules.specs.Step.{queue_children}
use Rattle.search_rules.proofs.Steps.{queue-none, queue-more}
use Rattle.search_bounds.specs.code.Bounds.{rows_bound}
use Rattle.search_state.specs.code.State.{word_count, firsts_at}
use Rattle.search_state.proofs.Cells.{Parts, store_key, store_first}
use Rattle.search_inner.specs.code.Children.{wanted_in, key_of, put_keys, Ended, Slots}

-- whether a region's byte shares a bit, by its fields
pub wanted_of : (tree : List ℕ) (w c : ℕ) (f : Fields) (r : Bool) → f ≡ fields_of tree c → r ≡ shares w f.kinds → r ≡ wanted_in tree w c
unfolding wanted_in
wanted_of tree w c f r e q = q ∙ ap (shares w) (sym (kinds-is tree c f e))

pub wanted-is : (tree : List ℕ) (w c : ℕ) → wanted_in tree w c ≡ shares w (region_at (decode tree).regions c).kinds
unfolding wanted_in
wanted-is tree w c = refl

pub key_of_lem : (tree table : List ℕ) (rows code : ℕ) (crews : List ℕ) (parent c x w : ℕ)
    → x ≡ rows_bound table rows code crews (region_at (decode tree).regions c).marks
    → w ≡ max x parent → w ≡ key_of tree table rows code crews parent c
unfolding key_of
key_of_lem tree table rows code crews parent c x w p q = rw (← p) q

pub key_rows : (tree table : List ℕ) (rows m code : ℕ) (crews : List ℕ) (parent c w : ℕ) → w ≡ key_of tree table rows code crews parent c → rows ≡ m
    → w ≡ key_of tree table m code crews parent c
key_rows tree table rows m code crews parent c w p e = rw (← e) p

-- ---- the words that are set

put_none : (g : ℕ → ℕ) (r n : ℕ) (ws : List ℕ) → put_keys g r n [] ws ≡ ws
unfolding put_keys
put_none g r n ws = refl

put_more : (g : ℕ → ℕ) (r n c : ℕ) (cs ws : List ℕ) → put_keys g r n (c ∷ cs) ws ≡ put_keys g r n cs (set (set ws c (g c)) (firsts_at r n + c) (g c))
unfolding put_keys
put_more g r n c cs ws = refl

-- with the search's keys of a region's children, whose parent's key is a: the parts of the words
pub put_parts : (i : Instance) (a : ℕ) (g : ℕ → ℕ) (r n : ℕ) (cs : List ℕ) → ((c : ℕ) → g c ≡ max (bound i c) a) → ((c : ℕ) → Mem c cs → c < r)
    → {ws keys yards firsts picks : List ℕ} {gone : List Bool} → Parts r n ws keys yards firsts picks gone
    → Parts r n (put_keys g r n cs ws) (queue_children i a cs keys) yards (queue_children i a cs firsts) picks gone
put_parts i a g r n [] e h {ws = ws} {keys = keys} {firsts = firsts} p = rw (put_none g r n ws, queue-none i a keys, queue-none i a firsts) p
put_parts i a g r n (c ∷ cs) e h {ws = ws} {keys = keys} {firsts = firsts} p =
    let s : c < r = h c (head refl) in
    rw (put_more g r n c cs ws, queue-more i a c cs keys, queue-more i a c cs firsts, e c)
    (put_parts i a g r n cs e (λ d k. h d (tail k)) (store_first (store_key p c (max (bound i c) a) c refl s) (firsts_at r n + c) (max (bound i c) a) c refl s))

-- ---- the header's counts

-- the landmark table's rows, and where the first keys begin
pub record Counted (tree places : List ℕ) (rows firsts : ℕ) : Type 0 where
  pub rows_are : rows ≡ landmark_count tree
  pub firsts_are : firsts ≡ firsts_at (length places) (junction_count tree)

pub counted : (tree places : List ℕ) (h : Header) (rows firsts : ℕ) → h ≡ header_of tree → rows ≡ h.landmarks → firsts ≡ length places + h.junctions
    → Counted tree places rows firsts
counted tree places h rows firsts e p q = record {
  rows_are = p ∙ (ap (λ (x : Header). x.landmarks) e ∙ header-landmarks tree);
  firsts_are = q ∙ ap (λ (j : ℕ). length places + j) (ap (λ (x : Header). x.junctions) e ∙ header-junctions tree);
}

-- ---- one child after the other

-- k of n children of region v are looked at, and those of a kind p queued, and c is the next one: what is left to do gives the whole
pub record Queueing (p : ℕ → Bool) (g : ℕ → ℕ) (tree : List ℕ) (r j v n k c : ℕ) (words₀ words : List ℕ) : Type 0 where
  pub count : length words ≡ word_count r j
  pub there : (d : ℕ) → Mem d (starts (end_of (decode tree).regions) (n - k) c) → d < r
  pub left : put_keys g r j (keep_if p (starts (end_of (decode tree).regions) (n - k) c)) words
      ≡ put_keys g r j (keep_if p (children_of (decode tree).regions v)) words₀

-- region c has a place in each of three arrays, in the words twice
pub record Next (c firsts : ℕ) (places_of ends_of words_of : List ℕ) : Type 0 where
  pub places : c < length places_of
  pub ends : c < length ends_of
  pub word : c < length words_of
  pub first : firsts + c < length words_of
  pub small : c < 511
  pub few : firsts < 2000

module _ (p : ℕ → Bool) (g : ℕ → ℕ) (tree : List ℕ) (r j v n : ℕ) where
  abbrev f : ℕ → ℕ
  f = end_of (decode tree).regions

  abbrev cs : List ℕ
  cs = children_of (decode tree).regions v

  -- none is queued
  pub queueing_none : (words : List ℕ) (x : ℕ) → n ≡ (region_at (decode tree).regions v).children → Slots tree r j words v
      → Queueing p g tree r j v n 0 (v + 1) (set words v x) (set words v x)
  queueing_none words x e s = record {
    count = simp length-set s.count;
    there = λ d m. s.children d (rw all at m);
    left = rw all refl;
  }
    where
      all : starts f (n - 0) (v + 1) ≡ cs
      all = go (n - 0) (v + 1) (omega (arith, e)) (add-one v)
        where
          go : (m u : ℕ) → m ≡ (region_at (decode tree).regions v).children → u ≡ suc v → starts f m u ≡ cs
          go m u p q = rw (p, q) (sym (children_are (decode tree).regions v))

  module _ (words₀ words : List ℕ) (k c : ℕ) (q : Queueing p g tree r j v n k c words₀ words) (h : k < n) where
    rest : starts f (n - k) c ≡ c ∷ starts f (n - (k + 1)) (f c)
    rest = go (n - k) (n - (k + 1)) (omega arith)
      where
        go : (m l : ℕ) → m ≡ suc l → starts f m c ≡ c ∷ starts f l (f c)
        go m l p = rw p (starts_more f l c)

    next-there : c < r
    next-there = q.there c (rw rest (head refl))

    -- it has a place in each array
    pub next_slot : (places ends : List ℕ) (rows firsts : ℕ) → r ≡ length places → j ≡ junction_count tree → Laid tree places → Ended tree ends
        → Counted tree places rows firsts → Next c firsts places ends words
    next_slot places ends rows firsts er ej laid ended counts = record {
      places = omega (arith, next-there);
      ends = omega (arith, next-there, ended.count, laid.count);
      word = omega (arith, next-there, q.count);
      first = omega (arith, next-there, q.count, counts.firsts_are);
      small = omega (arith, next-there, laid-few tree places laid);
      few = omega (arith, counts.firsts_are, laid-few tree places laid, laid.layout.junctions.1);
    }

    module _ (d : ℕ) (e : d ≡ f c) (words' : List ℕ) where
      -- one more is queued
      pub queueing_on : (w s : ℕ) → T (p c) → w ≡ g c → s ≡ firsts_at r j → words' ≡ set (set words c w) (s + c) w
          → Queueing p g tree r j v n (k + 1) d words₀ words'
      queueing_on w s t ew es new = record {
        count = ap length new ∙ simp (length-set, length-set) q.count;
        there = λ d m. q.there d (rw rest (tail (rw e at m)));
        left = rw (
          new,
          e,
          ew,
          es,
          ← put_more g r j c (keep_if p (starts f (n - (k + 1)) (f c))) words,
          ← kept_yes p c (starts f (n - (k + 1)) (f c)) t,
          ← rest,
        ) q.left;
      }

      -- one of another kind is not
      pub queueing_over : T (not (p c)) → words' ≡ words → Queueing p g tree r j v n (k + 1) d words₀ words'
      queueing_over t new = record {
        count = ap length new ∙ q.count;
        there = λ d m. q.there d (rw rest (tail (rw e at m)));
        left = rw (new, e, ← kept_no p c (starts f (n - (k + 1)) (f c)) t, ← rest) q.left;
      }

  -- all are looked at
  pub queueing_all : (words₀ words : List ℕ) (k c : ℕ) → Queueing p g tree r j v n k c words₀ words → n ≤ k → words ≡ put_keys g r j (keep_if p cs) words₀
  queueing_all words₀ words k c q h = rw (end, kept-none p, put_none) at q.left
    where
      end : starts f (n - k) c ≡ []
      end = go (n - k) (omega arith)
        where
          go : (m : ℕ) → m ≡ 0 → starts f m c ≡ []
          go m p = rw p (starts_none f c)
