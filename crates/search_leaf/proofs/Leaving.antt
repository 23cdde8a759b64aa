-- A leaf that is open queues its next yard: by the arrays, and by the definition. Assumes nothing.
use mathlib.Core.Path.{◌≡◌, refl, sym, ap, ◌∙◌}
use mathlib.Core.Bool.{Bool, true}
use mathlib.Core.List.{List, Memᴰ as Mem}
use Prim.Native.Nat.{ℕ, ◌+◌, ◌≤◌, ◌<◌, max}
use native.Mathlib.Decide.{dec_lt}
use native.Mathlib.Omega.{arith}
use lib.ListN.{length, get_or, set}
use Rattle.book.specs.Bytes.{u16_at}
use Rattle.book.specs.Open.{version}
use Rattle.book.proofs.Lists.{get_d_mem}
use Rattle.tree_layout.specs.Values.{Element, Mark}
use Rattle.tree_layout.specs.Sizes.{junction_size}
use Rattle.tree_layout.specs.Decode.{read_list, list_part, junction_count}
use Rattle.tree_layout.specs.Reading.{header_of}
use Rattle.tree_layout.specs.code.Marks.{mark_place}
use Rattle.tree_layout.specs.declared.Header.{Header}
use Rattle.tree_layout.proofs.Formed.{read_list-length}
use Rattle.tree_layout.proofs.Accessing.{its_version}
use Rattle.search_rules.specs.Order.{Entry}
use Rattle.search_rules.specs.Rule.{Asking}
use Rattle.search_rules.specs.Instance.{Instance}
use Rattle.search_rules.specs.Books.{search_of}
use Rattle.search_rules.specs.Bounds.{chosen, f, yard_bound}
use Rattle.search_rules.specs.Queue.{unqueued, word_at, pick}
use Rattle.search_rules.specs.Step.{SearchState, no_element, again_key, next_place, next_f, open_leaf}
use Rattle.search_rules.proofs.Queue.{pick-range}
use Rattle.search_rules.proofs.Steps.{open_leaf_on, open_leaf_off}
use Rattle.search_rules.proofs.Turns.{word-at}
use Rattle.search_state.specs.code.State.{region_keys_in, yard_keys_in, firsts_in, picks_in, fs_in, bounds_in, gone_in, state_of, newest}
use Rattle.search_state.proofs.Cells.{Parts, parts_of_lem, state_by}
use Rattle.search_leaf.specs.code.Leaves.{unwanted_f, words_of, Opened}
use Rattle.search_leaf.proofs.ElementsOpening.{list-here, header-regions_are, header-junctions_are, opened-place, opened-f}
use Rattle.search_leaf.specs.code.Next.{next_in, next_word, leaf_queued}
use Rattle.search_leaf.proofs.Nexts.{next_in_lem, next_word_lem, leaf-queued, leaf_closed, leaving_by}
use Rattle.search_leaf.specs.code.Ready.{IsPick, Ready, Cached, IsLeaf, OpenLeaf, Counted, Leafed, SameQueue}
use Rattle.search_leaf.proofs.Landmarks.{well, tree-junctions, slot, record_here, chosen_mark, f-small, list_of}

-- ---- the definition's next element, by the words of the leaf's yards

module _ (i : Instance) (m : Mark) (small : (e : Element) → Mem e m.list → f i m e < unwanted_f) (fs bounds : List ℕ) (o : Opened i m fs bounds)
    (gone : List Bool) (n : ℕ) (es : List Element) (count : n ≡ length m.list) (same : es ≡ m.list) where
  next-is : next_in fs gone es n ≡ get_or m.list (next_place i gone m) no_element
  next-is = rw (next_in_lem fs gone es n, same, ← opened-place i m small fs bounds gone o n (pick (words_of fs gone m.list) n) count refl) refl

  word-is : next_word fs gone es n ≡ next_f i gone m
  word-is =
      sym (next_word_lem fs gone es n (pick (words_of fs gone es) n) (word_at (words_of fs gone es) (pick (words_of fs gone es) n)) refl refl)
      ∙ rw same (opened-f i m small fs bounds gone o n (pick (words_of fs gone m.list) n) count refl
      (word_at (words_of fs gone m.list) (pick (words_of fs gone m.list) n)) refl)

  next-mem : 1 ≤ n → Mem (next_in fs gone es n) m.list
  next-mem h = rw (next_in_lem fs gone es n, same)
      (get_d_mem m.list (pick (words_of fs gone m.list) n) no_element (rw (← count) (pick-range (words_of fs gone m.list) n h)))

  bound-is : 1 ≤ n → get_or bounds (next_in fs gone es n).yard 0 ≡ yard_bound i m (next_in fs gone es n)
  bound-is h = o.keys (next_in fs gone es n) (next-mem h)

-- ---- the list of a ready search's leaf

module _ (road tree : List ℕ) (a : Asking) (crews drives places table : List ℕ)
    (ready : Ready road tree a crews drives places table)
    (r : ℕ) (l : IsLeaf (search_of road tree a crews) r) (at : ℕ) (e : at ≡ get_or places r 0)
    (p n place : ℕ) (picks : IsPick (search_of road tree a crews) r p) (en : n ≡ u16_at tree (at + 5)) (ep : place ≡ mark_place tree at p)
    (list : List ℕ) (el : list ≡ list_part (version tree) tree n (place + junction_size)) (h : Header) (eh : h ≡ header_of tree) where
  abbrev i : Instance
  i = search_of road tree a crews

  abbrev es : List Element
  es = read_list h.version list n 0

  abbrev regions : ℕ
  regions = length places

  abbrev junctions : ℕ
  junctions = junction_count tree

  list-is : es ≡ (chosen i r).list
  list-is = list-here tree place n list el h.version (its_version tree h eh)
      ∙ sym (list_of road tree a crews drives places table ready r l at e p n place picks en ep)

  small : (x : Element) → Mem x (chosen i r).list → f i (chosen i r) x < unwanted_f
  small = f-small road tree a crews drives places table ready r l at e

  pub list-some : 1 ≤ n
  list-some = rw en (record_here road tree a crews drives places table ready r l at e).some

  count : n ≡ length (chosen i r).list
  count = sym (read_list-length h.version list n 0) ∙ ap length list-is

  -- what is stored is what the definition says
  module _ (fs bounds keys yards firsts : List ℕ) (gone : List Bool) (o : Opened i (chosen i r) fs bounds)
      (w : Counted i keys yards firsts gone) (held : List Entry) (measured : List ℕ) where
    m : Mark
    m = chosen i r

    x : Element
    x = next_in fs gone es n

    abbrev st : SearchState
    st = record { region_keys = keys; yard_keys = yards; firsts = firsts; gone = gone; held = held; measured = measured }

    first : get_or firsts r 0 ≡ word_at firsts r
    first = sym (word-at firsts r 0 (omega (arith, l.inside, w.firsts-count)))

    -- some yard remains
    leaf-state : next_word fs gone es n < unqueued → record {
      region_keys = set keys r (again_key (get_or firsts r 0) (next_word fs (set gone (next_in fs gone es n).yard true) es n));
      yard_keys = set yards (next_in fs gone es n).yard (max (get_or bounds (next_in fs gone es n).yard 0) (get_or firsts r 0));
      firsts = firsts;
      gone = set gone (next_in fs gone es n).yard true;
      held = held;
      measured = measured;
    } ≡ open_leaf i st r
    unfolding m x
    leaf-state some =
        rw (
          first,
          bound-is i m small fs bounds o gone n es count list-is list-some,
          word-is i m small fs bounds o (set gone x.yard true) n es count list-is,
        ) refl
        ∙ sym (open_leaf_on i st r m x refl (next-is i m small fs bounds o gone n es count list-is)
        (rw (word-is i m small fs bounds o gone n es count list-is) at some))

    -- none remains
    closed_state : unqueued ≤ next_word fs gone es n → record {
      region_keys = set keys r unqueued;
      yard_keys = yards;
      firsts = firsts;
      gone = gone;
      held = held;
      measured = measured;
    } ≡ open_leaf i st r
    unfolding m
    closed_state none = sym (open_leaf_off i st r m refl (rw (word-is i m small fs bounds o gone n es count list-is) at none))

  -- the words before, when the leaf is open, and when its next yard and the leaf are queued
  module _ (ws vs ws' vs' : List ℕ) (q : Leafed i (length places) (junction_count tree) ws vs r)
      (same : SameQueue (length places) (junction_count tree) ws ws')
      (o : OpenLeaf i (picks_in (length places) (junction_count tree) ws') (fs_in (junction_count tree) vs')
      (bounds_in (junction_count tree) vs') r p) where
    counted : Counted i (region_keys_in regions junctions ws') (yard_keys_in regions junctions ws') (firsts_in regions junctions ws')
        (gone_in regions junctions ws')
    counted = rw (same.keys, same.yards, same.firsts, same.gone) q.counted

    y : ℕ
    y = (next_in (fs_in junctions vs') (gone_in regions junctions ws') es n).yard

    y_inside : y < junctions
    unfolding y
    y_inside = omega (
      arith,
      tree-junctions road tree a crews drives places table ready,
      (well road tree a crews drives places table ready).shape.yards r (chosen i r)
          (next_in (fs_in junctions vs') (gone_in regions junctions ws') es n) l.is
          (chosen_mark road tree a crews drives places table ready r l at e)
          (next-mem i (chosen i r) small (fs_in junctions vs') (bounds_in junctions vs') o.opened
          (gone_in regions junctions ws') n es count list-is list-some),
    )

    same-state : (held : List Entry) (measured : List ℕ) (number : ℕ)
        → state_of regions junctions ws held measured number ≡ record {
          region_keys = region_keys_in regions junctions ws';
          yard_keys = yard_keys_in regions junctions ws';
          firsts = firsts_in regions junctions ws';
          gone = gone_in regions junctions ws';
          held = held;
          measured = newest measured number;
        }
    same-state held measured number =
        state_by (parts_of_lem regions junctions ws) held measured number ∙ rw (same.keys, same.yards, same.firsts, same.gone) refl

    module _ (ws'' : List ℕ) (stored : ws'' ≡ leaf_queued h.regions h.junctions (read_list h.version list n 0) n ws' vs' r) where
      is : ws'' ≡ leaf_queued regions junctions es n ws' vs' r
      is = rw (ready.laid.count, header-regions_are tree h eh, header-junctions_are tree h eh) stored

      -- the word of the next yard
      abbrev next : ℕ
      next = next_word (fs_in junctions vs') (gone_in regions junctions ws') es n

      abbrev Taken : Type 0
      Taken = Cached i (picks_in regions junctions ws'') (fs_in junctions vs') (bounds_in junctions vs')
          × ((held : List Entry) (measured : List ℕ) (number : ℕ)
          → state_of regions junctions ws'' held measured number ≡ open_leaf i (state_of regions junctions ws held measured number) r)

      -- some yard remains
      yard-leaves : next < unqueued → Taken
      unfolding y
      yard-leaves some = (
        rw parts.picks_are o.cached,
        λ held measured number. state_by parts held measured number
            ∙ (leaf-state (fs_in junctions vs') (bounds_in junctions vs') (region_keys_in regions junctions ws')
            (yard_keys_in regions junctions ws') (firsts_in regions junctions ws') (gone_in regions junctions ws') o.opened counted held
            (newest measured number) some
            ∙ sym (ap (λ (s : SearchState). open_leaf i s r) (same-state held measured number))),
      )
        where
          parts : Parts regions junctions ws''
              (set (region_keys_in regions junctions ws') r (again_key (get_or (firsts_in regions junctions ws') r 0)
              (next_word (fs_in junctions vs') (set (gone_in regions junctions ws') y true) es n)))
              (set (yard_keys_in regions junctions ws') y (max (get_or (bounds_in junctions vs') y 0) (get_or (firsts_in regions junctions ws') r 0)))
              (firsts_in regions junctions ws') (picks_in regions junctions ws') (set (gone_in regions junctions ws') y true)
          parts = rw is (leaf-queued regions junctions es n ws' vs' r (slot road tree a crews drives places table ready r l) some y
              (sym (leaving_by regions junctions es n ws' vs')) y_inside)

      -- none remains
      leaf_closes : unqueued ≤ next → Taken
      leaf_closes none = (
        rw parts.picks_are o.cached,
        λ held measured number. state_by parts held measured number
            ∙ (closed_state (fs_in junctions vs') (bounds_in junctions vs') (region_keys_in regions junctions ws')
            (yard_keys_in regions junctions ws') (firsts_in regions junctions ws') (gone_in regions junctions ws') o.opened counted held
            (newest measured number) none
            ∙ sym (ap (λ (s : SearchState). open_leaf i s r) (same-state held measured number))),
      )
        where
          parts : Parts regions junctions ws'' (set (region_keys_in regions junctions ws') r unqueued) (yard_keys_in regions junctions ws')
              (firsts_in regions junctions ws') (picks_in regions junctions ws') (gone_in regions junctions ws')
          parts = rw is (leaf_closed regions junctions es n ws' vs' r (slot road tree a crews drives places table ready r l) none)

      taken : Taken
      taken = go (dec_lt next unqueued)
        where
          go : Dec (next < unqueued) → Taken
          go (yes some) = yard-leaves some
          go (no none) = leaf_closes (omega (arith, none))

      pub leaf-cached : Cached i (picks_in (length places) (junction_count tree) ws'') (fs_in (junction_count tree) vs')
          (bounds_in (junction_count tree) vs')
      leaf-cached = taken.0

      pub leaf-taken : (held : List Entry) (measured : List ℕ) (number : ℕ)
          → state_of (length places) (junction_count tree) ws'' held measured number
          ≡ open_leaf i (state_of (length places) (junction_count tree) ws held measured number) r
      leaf-taken = taken.1
