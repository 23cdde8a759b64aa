-- An opened leaf has the search's numbers at its yards, and another stays open. Assumes nothing.
use mathlib.Core.Path.{◌≡◌, refl, sym, ap, ◌∙◌}
use mathlib.Core.Logic.{◌≢◌}
use mathlib.Core.Bool.{Bool}
use mathlib.Core.List.{List, ◌++◌, Memᴰ as Mem}
use Prim.Native.Nat.{ℕ, ◌+◌, ◌≤◌, ◌<◌}
use native.Mathlib.Omega.{arith}
use lib.ListN.{length, take, length-append}
use lib.Seq.{take_at}
use Rattle.book.specs.Bytes.{u16_at}
use Rattle.book.specs.Open.{version}
use Rattle.kinds.specs.Kinds.{shares}
use Rattle.tree_layout.specs.Values.{Element, Mark}
use Rattle.tree_layout.specs.Sizes.{junction_size, list_size, leaf_mark_size}
use Rattle.tree_layout.specs.Decode.{read_list, list_part, region_count, junction_count, landmark_count}
use Rattle.tree_layout.specs.Reading.{header_of}
use Rattle.tree_layout.specs.declared.Header.{Header}
use Rattle.tree_layout.proofs.Reading.{header-regions, header-junctions, header-landmarks}
use Rattle.tree_layout.proofs.Accessing.{its_version, part_length}
use Rattle.search_rules.specs.Rule.{Asking}
use Rattle.search_rules.specs.Instance.{Instance}
use Rattle.search_rules.specs.Books.{search_of}
use Rattle.search_rules.specs.Bounds.{lower, f, yard_bound}
use Rattle.search_rules.specs.Queue.{word_at, pick}
use Rattle.search_rules.specs.Step.{next_place, next_f}
use Rattle.search_bounds.specs.code.Rows.{Rows, rows_lower}
use Rattle.search_bounds.specs.code.Bounds.{Crews}
use Rattle.road_layout.specs.Road.{junctions}
use Rattle.road.specs.Facts.{Passing}
use Rattle.search_bounds.specs.code.Measures.{Short, Driven, IsDriven, to_crews}
use Rattle.search_bounds.proofs.ToCrews.{to-short}
use Rattle.search_bounds.proofs.YardsSearching.{f_by_lem, bound_by}
use Rattle.search_state.specs.code.State.{word_count}
use Rattle.search_leaf.specs.code.Leaves.{Near, by_yard, by_yards, unwanted_f, pass_over, ShortList, f_in, bound_in, words_of, list_at, Opened}
use Rattle.search_leaf.proofs.Filling.{by_yard-length, by_yard-at, by_yard-kept}
use Rattle.search_leaf.proofs.Passing.{passed-at, passed-other}
use Rattle.search_leaf.proofs.Scanning.{next_place_lem, next-f}

-- ---- the list in the book

module _ (tree : List ℕ) (at yards : ℕ) (l : List ℕ) (e : l ≡ list_part (version tree) tree yards (at + junction_size)) (v : ℕ) (ev : v ≡ version tree) where
  -- the part that is read is the list's
  pub list-here : read_list v l yards 0 ≡ list_at tree at yards
  unfolding list_at
  list-here = rw (ev, e) refl

  pub list-near : (w x : ℕ) → w ≡ x → Near w (list_at tree at yards) → Near x (read_list v l yards 0)
  list-near w x q near y m = rw (← q) (near y (rw list-here at m))

  pub list-short : (table : List ℕ) (rows rows' : ℕ) (crews : List ℕ) → rows ≡ rows' → ShortList table rows crews (list_at tree at yards)
      → ShortList table rows' crews (read_list v l yards 0)
  list-short table rows rows' crews q s = rw (← q, list-here) s

  pub list-whole : at + leaf_mark_size (version tree) yards ≤ length tree → list_size v yards ≤ length l
  list-whole h = rw (ev, e) (omega (arith, part_length (version tree) tree yards at h))

  -- what is passed over by what is read is passed over by the list
  pub passed_by : (w : ℕ) (vs vs' : List ℕ) → vs' ≡ pass_over w (read_list v l yards 0) vs → vs' ≡ pass_over w (list_at tree at yards) vs
  passed_by w vs vs' q = rw (← list-here) q

-- ---- the header's counts

module _ (b : List ℕ) (h : Header) (e : h ≡ header_of b) where
  pub header-regions_are : region_count b ≡ h.regions
  header-regions_are = rw e (sym (header-regions b))

  pub header-junctions_are : junction_count b ≡ h.junctions
  header-junctions_are = rw e (sym (header-junctions b))

  pub header-landmarks_are : landmark_count b ≡ h.landmarks
  header-landmarks_are = rw e (sym (header-landmarks b))

  -- there is a word for all of them
  pub header-words : (ws : List ℕ) → length ws ≡ word_count (region_count b) (junction_count b) → length ws ≡ word_count h.regions h.junctions
  header-words ws q = rw (← header-regions_are, ← header-junctions_are) q

  pub header-rows : (table : List ℕ) → Rows table (landmark_count b) → Rows table h.landmarks
  header-rows table r = rw (← header-landmarks_are) r

-- the junction that was read is one of the road book's
pub driven-at : (crews drives : List ℕ) (v w : ℕ) → v ≡ w → IsDriven crews drives w → IsDriven crews drives v
driven-at crews drives v w e d = rw e d

-- the crews have places in the landmark table
pub crews_wide : (road crews drives : List ℕ) → Driven road crews drives → Crews crews
crews_wide road crews drives d = record { few = d.few; there = λ q m. omega (arith, d.there q m, d.roads.layout.few-junctions) }

-- with the distances to the crews in the first words of an array
module _ (crews out rest : List ℕ) (e : length out ≡ length crews) where
  pub front : take (length crews) (out ++ rest) ≡ out
  front = take_at out rest (length crews) e

  pub front-room : length crews ≤ length (out ++ rest)
  front-room = simp length-append (omega arith)

  pub front_length : length (take (length crews) (out ++ rest)) ≡ length crews
  front_length = ap length front ∙ e

  -- they are true distances
  pub front-short : (road : List ℕ) (l : ℕ) → Passing road → l < junctions road → ((q : ℕ) → Mem q crews → q < junctions road) → out ≡ to_crews road l crews
      → Short (take (length crews) (out ++ rest))
  front-short road l roads h there o = rw (front, o) (to-short road l roads h crews there)

-- values set by the list and the distances that were read
module _ (tree : List ℕ) (at yards : ℕ) (l : List ℕ) (el : l ≡ list_part (version tree) tree yards (at + junction_size)) (h : Header) (eh : h ≡ header_of tree)
    (code : ℕ) (table crews out rest : List ℕ) (count : length out ≡ length crews) (vs vs' : List ℕ)
    (filled : vs' ≡ by_yards (f_in code (take (length crews) (out ++ rest)))
    (bound_in code table h.landmarks crews (take (length crews) (out ++ rest))) (read_list h.version l yards 0) vs) where
  pub opened-values : (road : List ℕ) (place : ℕ) → place ≡ u16_at tree at → out ≡ to_crews road place crews
      → vs' ≡ by_yards (f_in code (to_crews road (u16_at tree at) crews))
      (bound_in code table (landmark_count tree) crews (to_crews road (u16_at tree at) crews)) (list_at tree at yards) vs
  opened-values road place p o = rw (← p, ← o, ← list-here tree at yards l el h.version (its_version tree h eh), header-landmarks_are tree h eh) (rw (front crews out rest count) at filled)

-- ---- of a search of two books

-- "a leaf's lists name .. each yard once"
abbrev pub Once : List Element → Type 0
Once es = (e h : Element) → Mem e es → Mem h es → e.yard ≡ h.yard → e ≡ h

module _ (road tree : List ℕ) (a : Asking) (crews : List ℕ) (table : List ℕ) (rows : ℕ) (m : Mark) (fs bounds fs' bounds' : List ℕ)
    (f-set : fs' ≡ by_yard (f_in a.code (to_crews road m.place crews)) m.list fs)
    (bound-set : bounds' ≡ by_yard (bound_in a.code table rows crews (to_crews road m.place crews)) m.list bounds)
    (near-fs : Near (length fs) m.list) (near-bounds : Near (length bounds) m.list) (first : List Element)
    (wanted : (g : Element) → Mem g first → (search_of road tree a crews).wants g.yard ≡ shares a.wanted g.kinds) where
  abbrev i : Instance
  i = search_of road tree a crews

  -- each yard has its f, and those of the first list that are not wanted are marked
  pub opened : Once m.list → Near (length fs) first → ((e : Element) → Mem e m.list → (g : Element) × Mem g first × (g.yard ≡ e.yard))
      → ((e : Element) → Mem e m.list → (q : ℕ) → Mem q crews → rows_lower table rows e.yard q ≡ lower i e.yard q)
      → Opened i m (pass_over a.wanted first fs') bounds'
  opened once IsNear-first named low = record {
    words = λ e k. passed-at i a.wanted first wanted fs' near_new (named e k).0 (named e k).1 e.yard (f i m e) (named e k).2
        (rw f-set (by_yard-at (f_in a.code (to_crews road m.place crews)) m.list fs near-fs once e k)
        ∙ f_by_lem road tree a crews m e (to_crews road m.place crews) refl);
    keys = λ e k. rw bound-set (by_yard-at (bound_in a.code table rows crews (to_crews road m.place crews)) m.list bounds near-bounds once e k)
        ∙ bound_by road tree a crews m e (to_crews road m.place crews) refl table rows (low e k);
  }
    where
      near_new : Near (length fs') first
      near_new e k = omega (arith, IsNear-first e k, ap length f-set, by_yard-length (f_in a.code (to_crews road m.place crews)) m.list fs)

  -- a leaf of other yards that is open stays so
  pub opened-kept : (n : Mark) → ((e h : Element) → Mem e m.list → Mem h n.list → e.yard ≢ h.yard)
      → ((g h : Element) → Mem g first → Mem h n.list → g.yard ≢ h.yard) → Opened i n fs bounds → Opened i n (pass_over a.wanted first fs') bounds'
  opened-kept n other apart o = record {
    words = λ h k. passed-other i a.wanted first wanted fs' h.yard (λ g j q. apart g h j k q) ∙ rw f-set
        (by_yard-kept (f_in a.code (to_crews road m.place crews)) m.list fs h.yard _ near-fs (o.words h k)
        (λ e j q. absurd (other e h j k q)));
    keys = λ h k. rw bound-set
        (by_yard-kept (bound_in a.code table rows crews (to_crews road m.place crews)) m.list bounds h.yard (yard_bound i n h) near-bounds (o.keys h k)
        (λ e j q. absurd (other e h j k q)));
  }

-- the next element of an open leaf
module _ (i : Instance) (m : Mark) (small : (e : Element) → Mem e m.list → f i m e < unwanted_f) (fs bounds : List ℕ) (gone : List Bool)
    (o : Opened i m fs bounds) (n place : ℕ) (e : n ≡ length m.list) (p : place ≡ pick (words_of fs gone m.list) n) where
  pub opened-place : place ≡ next_place i gone m
  opened-place = next_place_lem i fs gone m small o.words place (word_at (words_of fs gone m.list) place) (rw e at p) refl

  pub opened-f : (word : ℕ) → word ≡ word_at (words_of fs gone m.list) place → word ≡ next_f i gone m
  opened-f word q = next-f i fs gone m small o.words place word (rw e at p) q
