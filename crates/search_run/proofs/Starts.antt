-- The words before the first step are the definition's start. Assumes nothing.
use mathlib.Core.Path.{◌≡◌, refl, sym, ap, ◌∙◌}
use mathlib.Core.Logic.{◌⊎◌, inl, inr}
use mathlib.Core.Bool.{Bool, false, not}
use mathlib.Core.List.{List, []}
use Prim.Native.Nat.{ℕ, ◌+◌, ◌*◌, ◌≤◌, ◌<◌}
use native.Mathlib.Omega.{arith}
use lib.ListN.{length, get_or, take, set, replicate, length-set, length-replicate, get_or-replicate}
use lib.Seq.{length-take-le}
use lib.Dec.{T}
use Rattle.book.proofs.Choosing.{choose_case, choose_yes, choose_no, T-split}
use Rattle.tree_layout.specs.Values.{region_at}
use Rattle.tree_layout.specs.Decode.{decode, junction_count, landmark_count}
use Rattle.tree_layout.specs.Reading.{header_of}
use Rattle.tree_layout.specs.declared.Header.{Header}
use Rattle.tree_layout.proofs.Reading.{header-junctions}
use Rattle.tree.specs.Arrays.{Laid}
use Rattle.tree.proofs.Fielding.{laid-few}
use Rattle.search_rules.specs.Rule.{Asking}
use Rattle.search_rules.specs.Instance.{Instance, size}
use Rattle.search_rules.specs.Books.{search_of}
use Rattle.search_rules.specs.Bounds.{bound}
use Rattle.search_rules.specs.Queue.{unqueued}
use Rattle.search_rules.specs.Step.{root_keys}
use Rattle.search_rules.specs.Run.{Outcome as Ended, run}
use Rattle.search_rules.proofs.Equations.{admits_of}
use Rattle.search_rules.proofs.Steps.{start_is, root_in, root_out}
use Rattle.search_rules.proofs.Turns.{run_start}
use Rattle.search_yard.specs.declared.Progress.{Progress}
use Rattle.search_state.specs.code.State.{word_count, value_count, firsts_at, fs_in, bounds_in, state_of}
use Rattle.search_state.proofs.Cells.{Parts, parts-replicate, store_key, store_first, state_by, part-replicate, part-all}
use Rattle.search_state.proofs.Values.{values-count}
use Rattle.search_state.proofs.Newest.{newest-none}
use Rattle.search_bounds.specs.code.Bounds.{rows_bound}
use Rattle.search_bounds.proofs.Searching.{bound_of}
use Rattle.search_leaf.specs.code.Ready.{Ready, Cached, unopened}
use Rattle.search_inner.specs.code.Children.{wanted_in}
use Rattle.search_inner.proofs.Queueing.{wanted-is}
use Rattle.search_step.proofs.Opening.{cached_by, regions_of_lem, junctions_are}
use Rattle.search_step.proofs.Taking.{some_region}
use Rattle.search_run.specs.code.Answers.{put_root}
use Rattle.search_run.proofs.Running.{Runs, Steps}

-- before a leaf is taken nothing is kept
cached-none : (i : Instance) (r n : ℕ) (values : List ℕ) → size i ≡ r → i.tree.junctions ≡ n → n ≤ 1024 → length values ≡ value_count
    → Cached i (replicate r unqueued) (fs_in n values) (bounds_in n values)
cached-none i r n values er en few e = record {
  picks_count = length-replicate r unqueued ∙ sym er;
  fs-count = (values-count n values few e).0 ∙ sym en;
  bounds-count = (values-count n values few e).1 ∙ sym en;
  picked = λ v k t o. absurd (o (marked v k));
  opened = λ v k t o. absurd (o (marked v k));
}
  where
    marked : (v : ℕ) → v < size i → get_or (replicate r unqueued) v 0 ≡ unopened
    marked v k = get_or-replicate r v unqueued 0 (omega arith)

-- the words with the root in the queue, or not
module _ (admitted : Bool) (r n key : ℕ) (ws : List ℕ) where
  put_in : T admitted → put_root admitted r n key ws ≡ set (set ws 0 key) (firsts_at r n) key
  unfolding put_root
  put_in t = choose_yes admitted _ _ t

  pub put_out : T (not admitted) → put_root admitted r n key ws ≡ ws
  unfolding put_root
  put_out t = choose_no admitted _ _ t

  put_length : length (put_root admitted r n key ws) ≡ length ws
  unfolding put_root
  put_length = choose_case (λ (l : List ℕ). length l ≡ length ws) admitted (λ t. simp (length-set, length-set)) (λ t. refl)

module _ {road tree : List ℕ} {a : Asking} {crews drives places table : List ℕ} (ready : Ready road tree a crews drives places table)
    (words values : List ℕ) (progress : Progress) (none : (progress.kept ≡ []) × (progress.measured ≡ 0)) where
  abbrev i : Instance
  i = search_of road tree a crews

  abbrev r : ℕ
  r = length places

  abbrev n : ℕ
  n = junction_count tree

  abbrev key : ℕ
  key = rows_bound table (landmark_count tree) a.code crews (region_at (decode tree).regions 0).marks

  abbrev admitted : Bool
  admitted = wanted_in tree a.wanted 0

  admits-is : i.admits 0 ≡ admitted
  admits-is = admits_of road tree a crews 0 ∙ sym (wanted-is tree a.wanted 0)

  key_is : key ≡ bound i 0
  key_is = bound_of road tree a crews ready.passed (landmark_count tree) table ready.tableed 0 key refl

  module _ (e : words ≡ put_root admitted r n key (replicate (word_count r n) unqueued)) where
    fresh : Parts r n (replicate (word_count r n) unqueued) (replicate r unqueued) (replicate n unqueued) (replicate r unqueued) (replicate r unqueued)
        (replicate n false)
    fresh = parts-replicate r n unqueued (λ z. absurd (omega arith))

    start_parts : Parts r n words (root_keys i) (replicate n unqueued) (root_keys i) (replicate r unqueued) (replicate n false)
    start_parts = go (T-split (i.admits 0))
      where
        go : T (i.admits 0) ⊎ T (not (i.admits 0)) → Parts r n words (root_keys i) (replicate n unqueued) (root_keys i) (replicate r unqueued) (replicate n false)
        go (inl t) = rw (e, put_in admitted r n key (replicate (word_count r n) unqueued) (rw admits-is at t), root_in i t, regions_of_lem ready, ← key_is)
            (store_first (store_key fresh 0 key 0 refl (some_region ready)) (firsts_at r n) key 0 (omega arith) (some_region ready))
        go (inr t) = rw (e, put_out admitted r n key (replicate (word_count r n) unqueued) (rw admits-is at t), root_out i t, regions_of_lem ready) fresh

    start_state : state_of r n words progress.kept progress.yards progress.measured ≡ (run i 0).state
    start_state =
        state_by start_parts progress.kept progress.yards progress.measured
        ∙ (rw (none.0, none.1, newest-none progress.yards, ← junctions_are ready) refl
        ∙ sym (ap (λ (o : Ended). o.state) (run_start i) ∙ start_is i))

    starts : length values ≡ value_count → Runs i r n words values (state_of r n words progress.kept progress.yards progress.measured) 0
    starts v = record {
      cached = cached_by start_parts (cached-none i r n values (regions_of_lem ready) (junctions_are ready) ready.laid.layout.junctions.1 v);
      is = start_state;
      counts = sym (ap (λ (o : Ended). o.taken) (run_start i));
    }

pub steps_start : (tree : List ℕ) (a : Asking) (crews drives places table : List ℕ) (limit : ℕ) (words₀ words values : List ℕ) (progress : Progress)
    → words₀ ≡ replicate (word_count (length places) (junction_count tree)) unqueued
    → words ≡ put_root (wanted_in tree a.wanted 0) (length places) (junction_count tree)
    (rows_bound table (landmark_count tree) a.code crews (region_at (decode tree).regions 0).marks) words₀
    → length values ≡ value_count → (progress.kept ≡ []) × (progress.measured ≡ 0)
    → Steps tree a crews drives places table limit words values progress 0
steps_start tree a crews drives places table limit words₀ words values progress z e v none = record {
  size = ap length e ∙ (put_length _ (length places) (junction_count tree) _ words₀ ∙ (ap length z ∙ length-replicate _ unqueued));
  value-size = v;
  runs = λ road ready. starts ready words values progress none (rw z at e) v;
  within = omega arith;
}

-- the root's key, by the landmark table's rows
pub root_put : (tree table : List ℕ) (code : ℕ) (crews : List ℕ) (admitted : Bool) (rows r n first w : ℕ) (ws : List ℕ) → T admitted → rows ≡ landmark_count tree
    → first ≡ firsts_at r n → w ≡ rows_bound table rows code crews (region_at (decode tree).regions 0).marks
    → set (set ws 0 w) first w ≡ put_root admitted r n (rows_bound table (landmark_count tree) code crews (region_at (decode tree).regions 0).marks) ws
root_put tree table code crews admitted rows r n first w ws t e f g =
    rw (f, g, e) refl ∙ sym (put_in admitted r n (rows_bound table (landmark_count tree) code crews (region_at (decode tree).regions 0).marks) ws t)

-- ---- the counts

pub some-place : (tree places : List ℕ) → Laid tree places → 0 < length places
some-place tree places laid = omega (arith, laid.count, laid.layout.regions.0)

-- how many words the queue has, and a search
pub queue-count : (tree : List ℕ) (h : Header) (r : ℕ) → h ≡ header_of tree → r + h.junctions ≡ r + junction_count tree
queue-count tree h r e = ap (λ (x : Header). r + x.junctions) e ∙ ap (λ (j : ℕ). r + j) (header-junctions tree)

-- the first words of an array that has the word of what is not queued throughout
pub first-words : (tree places : List ℕ) (h : Header) (m count : ℕ) → h ≡ header_of tree → count ≡ 3 * length places + 2 * h.junctions → count ≤ m
    → take count (replicate m unqueued) ≡ replicate (word_count (length places) (junction_count tree)) unqueued
first-words tree places h m count e c k =
    let j : h.junctions ≡ junction_count tree = ap (λ (x : Header). x.junctions) e ∙ header-junctions tree in
    let d : count ≡ word_count (length places) (junction_count tree) = omega arith in
    sym (part-all (replicate m unqueued) count) ∙ (part-replicate m unqueued 0 count (omega arith) ∙ ap (λ (l : ℕ). replicate l unqueued) d)

-- how many words that is
pub count-part : (m count : ℕ) → count ≤ m → count ≡ length (take count (replicate m unqueued))
count-part m count k = sym (length-take-le count (replicate m unqueued) (omega (arith, length-replicate m unqueued)))

pub most-words : (tree places : List ℕ) (h : Header) (count : ℕ) → Laid tree places → h ≡ header_of tree → count ≡ 3 * length places + 2 * h.junctions
    → count ≤ 3581
most-words tree places h count laid e c =
    let j : h.junctions ≡ junction_count tree = ap (λ (x : Header). x.junctions) e ∙ header-junctions tree in
    omega (arith, laid-few tree places laid, laid.layout.junctions.1)
