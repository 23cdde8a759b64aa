-- A leaf's landmark in a search that is ready: where it stands in the book, and that opening it keeps what is kept of the leaves. Assumes nothing.
use mathlib.Core.Path.{◌≡◌, refl, sym, ap, ◌∙◌}
use mathlib.Core.Logic.{◌≢◌}
use mathlib.Core.List.{List, Memᴰ as Mem}
use Prim.Native.Nat.{ℕ, ◌+◌, ◌*◌, ◌≤◌, ◌<◌}
use native.Mathlib.Decide.{ℕ_discrete}
use native.Mathlib.Omega.{arith}
use lib.ListN.{length, get_or, set, length-set}
use lib.Seq.{get_or-set_same, get_or-set_other}
use lib.Dec.{T, eqb→eq}
use Rattle.book.specs.Bytes.{u8_at, u16_at}
use Rattle.book.specs.Open.{version}
use Rattle.book.proofs.Lists.{get_d_mem}
use Rattle.kinds.specs.Kinds.{shares}
use Rattle.road_layout.specs.Road.{junctions}
use Rattle.search_bounds.specs.code.Measures.{Driven, IsDriven, to_crews}
use Rattle.tree_layout.specs.Values.{Element, Mark, Region, no_mark, region_at}
use Rattle.tree_layout.specs.Sizes.{junction_size, fields_size, leaf_mark_size}
use Rattle.tree_layout.specs.Decode.{decode, junction_count, region_count, landmark_count, place_of, list_part, read_list, mark_size}
use Rattle.tree_layout.specs.Reading.{header_of}
use Rattle.tree_layout.specs.code.Accessors.{fields_at}
use Rattle.tree_layout.specs.declared.Header.{Header}
use Rattle.tree_layout.specs.declared.Fields.{Fields}
use Rattle.tree_layout.proofs.Places.{decode-length}
use Rattle.tree_layout.proofs.MarkFields.{leaf-place, leaf-pairs}
use Rattle.tree_layout.proofs.MarkPlaces.{list_mark, region_marks, leaf_mark_at}
use Rattle.tree.proofs.Fielding.{laid_region, laid-children}
use Rattle.search_rules.specs.Rule.{Asking}
use Rattle.search_rules.specs.Instance.{Instance, size, marks, leaf}
use Rattle.search_rules.specs.Books.{search_of}
use Rattle.search_rules.specs.Bounds.{lower, chosen, f}
use Rattle.search_rules.specs.Facts.{Listed, WellFormed}
use Rattle.search_rules.proofs.Books.{well_of, count, wants-listed}
use Rattle.search_rules.proofs.Equations.{search_of_lem, marks-is}
use Rattle.search_rules.proofs.Steps.{size_is, leaf-is}
use Rattle.search_rules.proofs.Taking.{chosen_in}
use Rattle.search_rules.proofs.Limits.{lower-most, f-most}
use Rattle.search_bounds.specs.code.Rows.{rows_lower}
use Rattle.search_bounds.specs.code.Bounds.{rows_chosen, Crews}
use Rattle.tree_layout.specs.code.Marks.{mark_place, RecordAt}
use Rattle.tree_layout.proofs.RecordFields.{place_is, list_inside}
use Rattle.search_bounds.proofs.Numbered.{record_of}
use Rattle.search_bounds.proofs.Searching.{crews_of_lem as rows-crews, lower_of, chosen_of, chosen-few}
use Rattle.search_leaf.specs.code.Leaves.{Near, by_yard, by_yards, unwanted_f, pass_over, ShortList, f_in, bound_in, list_at, Opened}
use Rattle.search_leaf.proofs.ElementsOpening.{list-here, header-regions_are, header-junctions_are, opened, opened-kept}
use Rattle.search_leaf.proofs.Filling.{by_yard-length, by_yards-values}
use Rattle.search_leaf.proofs.Passing.{pass_length, pass_values}
use Rattle.search_state.specs.code.State.{word_count, picks_at, region_keys_in, yard_keys_in, firsts_in, picks_in, fs_in, bounds_in, gone_in}
use Rattle.search_state.proofs.Cells.{Parts, parts_of_lem, part_at, store_pick}
use Rattle.search_state.proofs.Values.{Values, values_of}
use Rattle.search_leaf.specs.code.Ready.{unopened, IsPick, Ready, Cached, IsLeaf, OpenLeaf, Leafed, SameQueue}

-- the yards' number among the fields that were read
pub yards_of_lem : (tree : List ℕ) (at : ℕ) (f : Fields) → f ≡ fields_at tree at → f.yards ≡ u16_at tree (at + 5)
yards_of_lem tree at f e = rw e refl

-- nothing is stored
pub same_none : (r n : ℕ) (ws : List ℕ) → SameQueue r n ws ws
same_none r n ws = record { keys = refl; yards = refl; firsts = refl; gone = refl }

module _ (road tree : List ℕ) (a : Asking) (crews drives places table : List ℕ)
    (ready : Ready road tree a crews drives places table) where
  abbrev i : Instance
  i = search_of road tree a crews

  pub well : WellFormed i
  well = well_of road tree a crews ready.passed

  -- each crew has its row of distances
  pub driven_of : Driven road crews drives
  driven_of = record { roads = ready.passed.roads; few = ready.passed.few; there = ready.passed.there; rows = ready.driven }

  -- ---- the instance's tree

  pub junctions_of : i.tree.junctions ≡ junctions road
  junctions_of = ap (λ (z : Instance). z.tree.junctions) (search_of_lem road tree a crews) ∙ count road tree a crews ready.passed

  pub size_of : size i ≡ region_count tree
  size_of = size_is i ∙ (ap (λ (z : Instance). length z.tree.regions) (search_of_lem road tree a crews) ∙ decode-length tree)

  pub marks-at : (r : ℕ) → marks i r ≡ (region_at (decode tree).regions r).marks
  marks-at r = marks-is i r ∙ ap (λ (z : Instance). (region_at z.tree.regions r).marks) (search_of_lem road tree a crews)

  pub leaf-at : (r : ℕ) → T (leaf i r) → (region_at (decode tree).regions r).children ≡ 0
  leaf-at r t = sym (ap (λ (z : Instance). (region_at z.tree.regions r).children) (search_of_lem road tree a crews)) ∙ eqb→eq (region_at
      i.tree.regions r).children 0 (rw (leaf-is i r) at t)

  -- the crews have places in the landmark table's rows
  pub table_crews : Crews crews
  table_crews = rows-crews road tree a crews ready.passed

  marks-count : (r : ℕ) → r < length places → length (marks i r) ≡ landmark_count tree
  marks-count r h = rw (marks-at r, laid_region tree places ready.laid r h) (region_marks tree (landmark_count tree) (place_of tree r))

  -- the number that the rows give is that of the landmark
  pub pick_of : (r : ℕ) → r < size i → (p rows : ℕ) → landmark_count tree ≡ rows
      → p ≡ rows_chosen table rows crews (region_at (decode tree).regions r).marks → IsPick i r p
  pick_of r h p rows w q = record {
    inside = omega (
      arith,
      marks-count r (omega (arith, size_of, ready.laid.count)),
      chosen-few road tree a crews
          ready.passed (landmark_count tree) table ready.tableed r (omega (arith, size_of, decode-length tree)) p e,
    );
    is = rw (marks-at r) (chosen_of road tree a crews ready.passed (landmark_count tree) table ready.tableed r
        (omega (arith, size_of, decode-length tree)) p e);
  }
    where
      e : p ≡ rows_chosen table (landmark_count tree) crews (region_at (decode tree).regions r).marks
      e = rw w q

  -- the tree book's junctions are the instance's
  pub tree-junctions : i.tree.junctions ≡ junction_count tree
  tree-junctions = junctions_of ∙ ready.passed.counts

  -- leaf r has a place
  pub slot : (r : ℕ) → IsLeaf i r → r < length places
  slot r l = omega (arith, l.inside, size_of, ready.laid.count)

  -- ---- the words of a search of which leaf r is taken

  -- there is a word for everything
  pub words_are : (r : ℕ) (ws vs : List ℕ) → Leafed i (length places) (junction_count tree) ws vs r → (ws' : List ℕ) → length ws' ≡ length ws
      → length ws' ≡ word_count (region_count tree) (junction_count tree)
  words_are r ws vs q ws' e = e ∙ rw ready.laid.count at q.count

  module _ (r : ℕ) (ws vs : List ℕ) (q : Leafed i (length places) (junction_count tree) ws vs r) (h : Header) (eh : h ≡ header_of tree) where
    pub region_inside : r < h.regions
    region_inside = omega (arith, slot r q.is_leaf, ready.laid.count, header-regions_are tree h eh)

    -- the word of its landmark's number
    module _ (j : ℕ) (ej : j ≡ picks_at h.regions h.junctions + r) where
      pick-place : j ≡ picks_at (length places) (junction_count tree) + r
      pick-place = omega (arith, ready.laid.count, header-regions_are tree h eh, header-junctions_are tree h eh)

      pub pick-room : j < length ws
      pick-room = omega (arith, pick-place, q.count, slot r q.is_leaf)

      -- a leaf that was taken before is open
      pub open_already : (p : ℕ) → p ≡ get_or ws j 0 → p ≢ unopened
          → OpenLeaf i (picks_in (length places) (junction_count tree) ws) (fs_in (junction_count tree) vs) (bounds_in (junction_count tree) vs) r p
      open_already p ep u = record {
        cached = q.cached;
        pick = rw is (q.cached.picked r q.is_leaf.inside q.is_leaf.is v);
        opened = q.cached.opened r q.is_leaf.inside q.is_leaf.is v;
      }
        where
          is : p ≡ get_or (picks_in (length places) (junction_count tree) ws) r 0
          is = ep ∙ sym (part_at ws (picks_at (length places) (junction_count tree)) (length places) r j 0 pick-place (slot r q.is_leaf))

          v : get_or (picks_in (length places) (junction_count tree) ws) r 0 ≢ unopened
          v = rw (← is) u

  -- ---- leaf r, whose record stands at a place

  module _ (r : ℕ) (l : IsLeaf i r) (at : ℕ) (e : at ≡ get_or places r 0) where
    here : at ≡ place_of tree r
    here = e ∙ ready.laid.held r (slot r l)

    pub record_here : RecordAt tree at
    record_here = record_of tree places ready.laid r (slot r l) at e

    childless : u8_at tree (at + 4) ≡ 0
    childless = rw here (sym (laid-children tree places ready.laid r (slot r l)) ∙ leaf-at r l.is)

    pub chosen_mark : Mem (chosen i r) (marks i r)
    chosen_mark = chosen_in i well r l.inside

    -- each element's f is below the mark of what is not wanted
    pub f-small : (e : Element) → Mem e (chosen i r).list → f i (chosen i r) e < unwanted_f
    f-small e k = omega (arith, f-most i well r (chosen i r) e l.is chosen_mark k)

    -- its landmark number j, with a list of n elements, stands at a place
    module _ (j n place : ℕ) (inside : j < landmark_count tree) (en : n ≡ u16_at tree (at + 5)) (ep : place ≡ mark_place tree at j) where
      abbrev mark : Mark
      mark = get_or (marks i r) j no_mark

      mark_mem : Mem mark (marks i r)
      mark_mem = get_d_mem (marks i r) j no_mark (omega (arith, marks-count r (slot r l)))

      stands : place ≡ (at + fields_size (version tree)) + j * mark_size (version tree) (u8_at tree (at + 4)) (u16_at tree (at + 5))
      stands = ep ∙ sym (place_is tree at record_here j inside (mark_size (version tree) (u8_at tree (at + 4)) (u16_at tree (at + 5))) refl)

      mark_is : mark ≡ list_mark tree n place
      mark_is =
          ap (λ (ms : List Mark). get_or ms j no_mark)
          (marks-at r ∙ ap (λ (g : Region). g.marks) (rw (← here) at (laid_region tree places ready.laid r (slot r l))))
          ∙ (leaf_mark_at tree (landmark_count tree) at j place no_mark inside stands childless ∙ ap (λ (m : ℕ). list_mark tree m place) (sym en))

      pub list-room : place + leaf_mark_size (version tree) n ≤ length tree
      list-room = list_inside tree at record_here j inside place ep (u8_at tree (at + 4)) n refl childless en

      part : list_at tree place n ≡ read_list (version tree) (list_part (version tree) tree n (place + junction_size)) n 0
      part = sym (list-here tree place n (list_part (version tree) tree n (place + junction_size)) refl (version tree) refl)

      -- its list, its junction, and where they are
      mark_list : mark.list ≡ list_at tree place n
      mark_list = ap (λ (m : Mark). m.list) mark_is
          ∙ (leaf-pairs (u16_at tree place) (read_list (version tree) (list_part (version tree) tree n (place + junction_size)) n 0) ∙ sym part)

      mark_place_lem : mark.place ≡ u16_at tree place
      mark_place_lem = ap (λ (m : Mark). m.place) mark_is
          ∙ leaf-place (u16_at tree place) (read_list (version tree) (list_part (version tree) tree n (place + junction_size)) n 0)

      pub place-near : u16_at tree place < junctions road
      place-near = omega (arith, well.shape.places r mark mark_mem, mark_place_lem, junctions_of)

      pub list-near : Near (junction_count tree) (list_at tree place n)
      list-near e k = omega (arith, well.shape.yards r mark e l.is mark_mem (rw mark_list k), tree-junctions)

      pub list_wide : Near 1024 (list_at tree place n)
      list_wide e k = omega (arith, list-near e k, ready.laid.layout.junctions.1)

      -- what is computed of its yards is short
      pub list-short : ShortList table (landmark_count tree) crews (list_at tree place n)
      list-short = record {
        distances = λ e k. well.small.lists r mark e l.is mark_mem (rw mark_list k);
        lowers = λ e k q j. rw (lower-is e k q j) (lower-most i well e.yard q (near e k) (crew q j));
      }
        where
          near : (e : Element) → Mem e (list_at tree place n) → e.yard < i.tree.junctions
          near e k = well.shape.yards r mark e l.is mark_mem (rw mark_list k)

          crew : (q : ℕ) → Mem q crews → q < i.tree.junctions
          crew q j = omega (arith, ready.passed.there q j, junctions_of)

          lower-is : (e : Element) → Mem e (list_at tree place n) → (q : ℕ) → Mem q crews
              → rows_lower table (landmark_count tree) e.yard q ≡ lower i e.yard q
          lower-is e k q j = lower_of road tree a crews ready.passed (landmark_count tree) table ready.tableed e.yard q
              (rows_lower table (landmark_count tree) e.yard q) (omega (arith, near e k, junctions_of)) (ready.passed.there q j) refl

      -- the crews' rows reach its junction
      pub driven-to : IsDriven crews drives (u16_at tree place)
      driven-to = record { road = road; driven = driven_of; junction = place-near }

    -- there is a first one
    first-inside : 0 < landmark_count tree
    first-inside = ready.laid.layout.landmarks.0

    -- its first list
    module _ (n first : ℕ) (en : n ≡ u16_at tree (at + 5)) (ef : first ≡ mark_place tree at 0) where
      -- "a yard is wanted if its byte in its leaf's first list shares a bit"
      first-wanted : (g : Element) → Mem g (list_at tree first n) → i.wants g.yard ≡ shares a.wanted g.kinds
      first-wanted g k = wants-listed road tree a crews ready.passed r (omega (arith, l.inside, size_of, decode-length tree)) (leaf-at r l.is) g
          (rw (← marks-at r, mark_list 0 n first first-inside en ef) k)

      -- each of its yards is a yard of the leaf
      first-listed : (g : Element) → Mem g (list_at tree first n) → Listed (get_or (marks i r) 0 no_mark) g.yard
      first-listed g k = record { element = g; mem = rw (mark_list 0 n first first-inside en ef) k; names = refl }

      -- it names each yard of the chosen list
      first-names : (e : Element) → Mem e (chosen i r).list → (g : Element) × Mem g (list_at tree first n) × (g.yard ≡ e.yard)
      first-names e k =
          let x = well.shape.alike r (chosen i r) (get_or (marks i r) 0 no_mark) e.yard l.is chosen_mark (mark_mem 0 n first first-inside en ef)
          (record { element = e; mem = k; names = refl }) in
          (x.element, rw (mark_list 0 n first first-inside en ef) at x.mem, x.names)

    -- the first one's number and the chosen one's are landmarks'
    pub marks-few : (p : ℕ) → IsPick i r p → (0 < landmark_count tree) × (p < landmark_count tree)
    marks-few p pick = (first-inside, omega (arith, marks-count r (slot r l), pick.inside))

    -- number p is its landmark's
    module _ (p n place : ℕ) (pick : IsPick i r p) (en : n ≡ u16_at tree (at + 5)) (ep : place ≡ mark_place tree at p) where
      pub pick-inside : p < landmark_count tree
      pick-inside = (marks-few p pick).1

      pick_small : p < 4
      pick_small = omega (arith, pick-inside, ready.laid.layout.landmarks.1)

      pub list_of : (chosen i r).list ≡ list_at tree place n
      list_of = ap (λ (m : Mark). m.list) (sym pick.is) ∙ mark_list p n place pick-inside en ep

      place_of_lem : (chosen i r).place ≡ u16_at tree place
      place_of_lem = ap (λ (m : Mark). m.place) (sym pick.is) ∙ mark_place_lem p n place pick-inside en ep

      -- ---- the leaf is opened

      module _ (first : ℕ) (ef : first ≡ mark_place tree at 0) (picks fs bounds fs' bounds' : List ℕ) (c : Cached i picks fs bounds)
          (f-set : fs' ≡ by_yard (f_in a.code (to_crews road (u16_at tree place) crews)) (list_at tree place n) fs)
          (bound-set : bounds' ≡ by_yard (bound_in a.code table (landmark_count tree) crews (to_crews road (u16_at tree place) crews))
          (list_at tree place n) bounds) where
        m : Mark
        m = chosen i r

        fs'' : List ℕ
        fs'' = pass_over a.wanted (list_at tree first n) fs'

        f_new : fs' ≡ by_yard (f_in a.code (to_crews road m.place crews)) m.list fs
        unfolding m
        f_new = rw (place_of_lem, list_of) f-set

        bound_new : bounds' ≡ by_yard (bound_in a.code table (landmark_count tree) crews (to_crews road m.place crews)) m.list bounds
        unfolding m
        bound_new = rw (place_of_lem, list_of) bound-set

        near : (ws : List ℕ) → length ws ≡ i.tree.junctions → Near (length ws) m.list
        unfolding m
        near ws q e k = rw q (well.shape.yards r (chosen i r) e l.is chosen_mark k)

        near_first : Near (length fs) (list_at tree first n)
        near_first e k = omega (arith, c.fs-count, tree-junctions, list-near 0 n first first-inside en ef e k)

        new : Opened i (chosen i r) fs'' bounds'
        unfolding m fs''
        new = opened road tree a crews table (landmark_count tree) m fs bounds fs' bounds' f_new bound_new (near fs c.fs-count) (near bounds
            c.bounds-count) (list_at tree first n) (first-wanted n first en ef)
            (λ e h j k. well.shape.once-listed r (chosen i r) e h l.is chosen_mark j k) near_first (first-names n first en ef)
            (λ e k q j. lower_of road tree a crews ready.passed (landmark_count tree) table ready.tableed e.yard q
            (rows_lower table (landmark_count tree) e.yard q)
            (omega (arith, well.shape.yards r (chosen i r) e l.is chosen_mark k, junctions_of)) (ready.passed.there q j) refl)

        -- another leaf stays open
        old : (s : ℕ) → s ≢ r → s < size i → T (leaf i s) → Opened i (chosen i s) fs bounds → Opened i (chosen i s) fs'' bounds'
        unfolding m fs''
        old s d h t o = opened-kept road tree a crews table (landmark_count tree) m fs bounds fs' bounds' f_new bound_new (near fs c.fs-count)
            (near bounds c.bounds-count) (list_at tree first n) (first-wanted n first en ef) (chosen i s)
            (λ e g k j q. apart (chosen i r) chosen_mark g j (record { element = e; mem = k; names = q }))
            (λ e g k j q. apart (get_or (marks i r) 0 no_mark) (mark_mem 0 n first first-inside en ef) g j
            (let x = first-listed n first en ef e k in record { element = x.element; mem = x.mem; names = x.names ∙ q }))
            o
          where
            apart : (x : Mark) → Mem x (marks i r) → (g : Element) → Mem g (chosen i s).list → Listed x g.yard → ⊥
            apart x k g j z = d (well.shape.one-leaf s r (chosen i s) x g.yard t l.is (chosen_in i well s h) k
                (record { element = g; mem = j; names = refl }) z)

        pub opens : (p ≢ unopened) → OpenLeaf i (set picks r p) (pass_over a.wanted (list_at tree first n) fs') bounds' r p
        unfolding fs''
        opens u = record { cached = kept; pick = pick; opened = new }
          where
            slots : r < length picks
            slots = omega (arith, l.inside, c.picks_count)

            one : (s : ℕ) → Dec (s ≡ r) → s < size i → T (leaf i s) → get_or (set picks r p) s 0 ≢ unopened
                → IsPick i s (get_or (set picks r p) s 0) × Opened i (chosen i s) fs'' bounds'
            one s (yes q) h t o = rw (q, get_or-set_same picks r p 0 slots) (pick, new)
            one s (no q) h t o = let z = get_or-set_other picks r s p 0 q in rw z (
              c.picked s h t (rw z at o),
              old s q h t
                  (c.opened s h t (rw z at o)),
            )

            kept : Cached i (set picks r p) fs'' bounds'
            kept = record {
              picks_count = length-set picks r p ∙ c.picks_count;
              fs-count = pass_length a.wanted (list_at tree first n) fs' ∙ (ap length f-set
                  ∙ (by_yard-length (f_in a.code (to_crews road (u16_at tree place) crews)) (list_at tree place n) fs ∙ c.fs-count));
              bounds-count = ap length bound-set ∙ (by_yard-length (bound_in a.code table (landmark_count tree) crews (to_crews road (u16_at tree place) crews))
                  (list_at tree place n) bounds ∙ c.bounds-count);
              picked = λ s h t o. (one s (ℕ_discrete s r) h t o).0;
              opened = λ s h t o. (one s (ℕ_discrete s r) h t o).1;
            }

      -- the words of a search with the landmark's number set
      module _ (ws vs : List ℕ) (q : Leafed i (length places) (junction_count tree) ws vs r) (h : Header) (eh : h ≡ header_of tree) (j : ℕ)
          (ej : j ≡ picks_at h.regions h.junctions + r) where
        parts : Parts (length places) (junction_count tree) (set ws j p)
            (region_keys_in (length places) (junction_count tree) ws)
            (yard_keys_in (length places) (junction_count tree) ws)
            (firsts_in (length places) (junction_count tree) ws)
            (set (picks_in (length places) (junction_count tree) ws) r p)
            (gone_in (length places) (junction_count tree) ws)
        parts = store_pick (parts_of_lem (length places) (junction_count tree) ws) j p r (pick-place r ws vs q h eh j ej) (slot r l)

        pub same_queue : SameQueue (length places) (junction_count tree) ws (set ws j p)
        same_queue = record { keys = parts.keys_are; yards = parts.yards_are; firsts = parts.firsts_are; gone = parts.gone_are }

        -- and its yards' values with their f and bounds, those that are not wanted passed over
        module _ (first : ℕ) (ef : first ≡ mark_place tree at 0) (vs' vs'' : List ℕ)
            (stored : vs' ≡ by_yards (f_in a.code (to_crews road (u16_at tree place) crews))
            (bound_in a.code table (landmark_count tree) crews (to_crews road (u16_at tree place) crews)) (list_at tree place n) vs)
            (passed : vs'' ≡ pass_over a.wanted (list_at tree first n) vs') where
          abbrev fs' : List ℕ
          fs' = by_yard (f_in a.code (to_crews road (u16_at tree place) crews)) (list_at tree place n) (fs_in (junction_count tree) vs)

          abbrev bounds' : List ℕ
          bounds' = by_yard (bound_in a.code table (landmark_count tree) crews (to_crews road (u16_at tree place) crews)) (list_at tree place n)
              (bounds_in (junction_count tree) vs)

          values : Values (junction_count tree) vs'' (pass_over a.wanted (list_at tree first n) fs') bounds'
          values = rw (passed, stored) (pass_values a.wanted ready.laid.layout.junctions.1 (list_at tree first n) (list-near 0 n first first-inside en ef)
              (by_yards-values ready.laid.layout.junctions.1 (f_in a.code (to_crews road (u16_at tree place) crews))
              (bound_in a.code table (landmark_count tree) crews (to_crews road (u16_at tree place) crews)) (list_at tree place n)
              (list-near p n place pick-inside en ep) (values_of (junction_count tree) vs)))

          pub open_leaf_lem : OpenLeaf i (picks_in (length places) (junction_count tree) (set ws j p)) (fs_in (junction_count tree) vs'')
              (bounds_in (junction_count tree) vs'') r p
          open_leaf_lem = rw (parts.picks_are, values.fs_are, values.bounds_are) (opens first ef
              (picks_in (length places) (junction_count tree) ws) (fs_in (junction_count tree) vs) (bounds_in (junction_count tree) vs)
              fs' bounds' q.cached refl refl (λ e. omega (arith, pick_small)))
