-- A region that is taken, by the words and by the definition. Assumes nothing.
use mathlib.Core.Path.{◌≡◌, refl, sym, ap, ◌∙◌}
use mathlib.Core.Bool.{Bool, not}
use mathlib.Core.List.{List}
use Prim.Native.Nat.{ℕ, ◌<◌, max}
use native.Mathlib.Omega.{arith}
use lib.ListN.{length, set}
use lib.Dec.{T, eqb}
use Rattle.book.specs.Lists.{keep_if}
use Rattle.book.proofs.Lists.{eq→eqb, ne→neqb, kept_from}
use Rattle.tree_layout.specs.Values.{region_at}
use Rattle.tree_layout.specs.Decode.{decode, junction_count, landmark_count}
use Rattle.tree.specs.Arrays.{fields_of}
use Rattle.tree_layout.specs.declared.Fields.{Fields}
use Rattle.tree.specs.Yards.{children_of}
use Rattle.tree.proofs.Fielding.{laid-length}
use Rattle.tree.proofs.Recursing.{children-is}
use Rattle.search_rules.specs.Rule.{Asking}
use Rattle.search_rules.specs.Instance.{Instance, size, children, leaf}
use Rattle.search_rules.specs.Books.{search_of}
use Rattle.search_rules.specs.Bounds.{bound}
use Rattle.search_rules.specs.Queue.{unqueued}
use Rattle.search_rules.specs.Step.{SearchState, queue_children, open_inner, open_leaf, take_region}
use Rattle.search_rules.specs.Order.{Entry}
use Rattle.search_rules.proofs.Equations.{search_of_lem, admits_of, two_way}
use Rattle.search_rules.proofs.Trees.{Accepted, accepted-tree}
use Rattle.search_rules.proofs.Steps.{leaf-is, take-leaf, take_inner, open_inner-is}
use Rattle.search_rules.proofs.Steps.{children-is as children-of}
use Rattle.search_bounds.specs.code.Bounds.{rows_bound}
use Rattle.search_bounds.proofs.Searching.{bound_of}
use Rattle.search_state.specs.code.State.{region_keys_in, yard_keys_in, firsts_in, picks_in, fs_in, bounds_in, gone_in, state_of}
use Rattle.search_state.proofs.Cells.{Parts, parts_of_lem, store_key, state_by, counts_of}
use Rattle.search_inner.specs.code.Children.{wanted_in, key_of, put_keys, Slots}
use Rattle.search_inner.proofs.Queueing.{wanted-is, key_of_lem, put_parts}
use Rattle.search_leaf.specs.code.Ready.{Ready, Cached, Leafed}
use Rattle.search_leaf.proofs.Landmarks.{size_of, tree-junctions}
use Rattle.search_step.specs.code.Regions.{RegionQueued}

-- what is kept of the leaves, where no part that keeps it has changed
pub cached_by : {i : Instance} {r n : ℕ} {words keys yards firsts picks fs bounds : List ℕ} {gone : List Bool}
    → Parts r n words keys yards firsts picks gone → Cached i picks fs bounds → Cached i (picks_in r n words) fs bounds
cached_by p c = rw p.picks_are c

module _ {road tree : List ℕ} {a : Asking} {crews drives places table : List ℕ} (ready : Ready road tree a crews drives places table) where
  abbrev i : Instance
  i = search_of road tree a crews

  -- how many regions and junctions there are
  pub regions_of_lem : size i ≡ length places
  regions_of_lem = size_of road tree a crews drives places table ready ∙ sym ready.laid.count

  pub junctions_are : i.tree.junctions ≡ junction_count tree
  junctions_are = tree-junctions road tree a crews drives places table ready

  module _ (v : ℕ) where
    -- the children that may enter the queue are those whose byte shares a bit
    children-at : children i v ≡ keep_if (wanted_in tree a.wanted) (children_of (decode tree).regions v)
    children-at =
        children-of i v ∙ (ap (λ (z : Instance). keep_if i.admits (children_of z.tree.regions v)) (search_of_lem road tree a crews)
        ∙ ap (λ (p : ℕ → Bool). keep_if p (children_of (decode tree).regions v)) admitted)
      where
        admitted : i.admits ≡ wanted_in tree a.wanted
        admitted = λ j c. (admits_of road tree a crews c ∙ sym (wanted-is tree a.wanted c)) j

    leaf-test : leaf i v ≡ eqb (region_at (decode tree).regions v).children 0
    leaf-test = leaf-is i v ∙ ap (λ (z : Instance). eqb (region_at z.tree.regions v).children 0) (search_of_lem road tree a crews)

    module _ (f : Fields) (e : f ≡ fields_of tree v) where
      pub leaf_yes : f.children ≡ 0 → T (leaf i v)
      leaf_yes z = rw leaf-test (eq→eqb (region_at (decode tree).regions v).children 0 (children-is tree v f e ∙ z))

      pub leaf_no : (f.children ≡ 0 → ⊥) → T (not (leaf i v))
      leaf_no z = rw leaf-test (ne→neqb (region_at (decode tree).regions v).children 0 (λ q. z (sym (children-is tree v f e) ∙ q)))

    module _ (words values : List ℕ) (q : RegionQueued i (length places) (junction_count tree) words values v) where
      abbrev r : ℕ
      r = length places

      abbrev n : ℕ
      n = junction_count tree

      pub region_slot : v < length places
      region_slot = omega (arith, q.inside, regions_of_lem)

      -- a leaf
      pub leaf-ready : T (leaf i v) → Leafed i r n words values v
      leaf-ready t = let k = counts_of r n words q.count in record {
        count = q.count;
        value-count = q.value-count;
        cached = q.cached;
        is_leaf = record { inside = q.inside; is = t };
        counted = record {
          keys-count = k.keys ∙ sym regions_of_lem;
          firsts-count = k.firsts ∙ sym regions_of_lem;
          yards-count = k.yards ∙ sym junctions_are;
          gone-count = k.gone ∙ sym junctions_are;
        };
      }

      pub leaf-is-taken : T (leaf i v) → (key : ℕ) (st out : SearchState) → out ≡ open_leaf i st v → out ≡ take_region i st v key
      leaf-is-taken t key st out p = p ∙ sym (take-leaf i st v key (two_way road tree a crews) t)

      -- an inner region
      pub inner_slots : Slots tree r n words v
      inner_slots = record {
        count = q.count;
        self = region_slot;
        children = λ c k. omega (
          arith,
          (accepted.whole.regions.above v c (omega (arith, region_slot, laid-length tree places ready.laid)) k).1,
          laid-length tree places ready.laid,
        );
      }
        where
          accepted : Accepted (decode tree)
          accepted = accepted-tree tree ready.passed.bytes ready.passed.shaped

      module _ (key : ℕ) (words' : List ℕ)
          (e : words' ≡ put_keys (key_of tree table (landmark_count tree) a.code crews key) r n
          (keep_if (wanted_in tree a.wanted) (children_of (decode tree).regions v)) (set words v unqueued)) where
        child_key : (c : ℕ) → key_of tree table (landmark_count tree) a.code crews key c ≡ max (bound i c) key
        child_key c =
            let x : ℕ = rows_bound table (landmark_count tree) a.code crews (region_at (decode tree).regions c).marks in
            sym (key_of_lem tree table (landmark_count tree) a.code crews key c x (max x key) refl refl) ∙ ap (λ (w : ℕ). max w key) (bound_of road tree a crews
            ready.passed (landmark_count tree) table ready.tableed c x refl)

        inner-parts : Parts r n words' (queue_children i key (children i v) (set (region_keys_in r n words) v unqueued)) (yard_keys_in r n words)
            (queue_children i key (children i v) (firsts_in r n words)) (picks_in r n words) (gone_in r n words)
        inner-parts = rw (e, children-at) (put_parts i key (key_of tree table (landmark_count tree) a.code crews key) r n
            (keep_if (wanted_in tree a.wanted) (children_of (decode tree).regions v)) child_key
            (λ c k. inner_slots.children c (kept_from (wanted_in tree a.wanted) (children_of (decode tree).regions v) c k).0)
            (store_key (parts_of_lem r n words) v unqueued v refl region_slot))

        pub inner-cached : Cached i (picks_in r n words') (fs_in n values) (bounds_in n values)
        inner-cached = cached_by inner-parts q.cached

        pub inner-is-taken : T (not (leaf i v)) → (held : List Entry) (measured : List ℕ) (count : ℕ)
            → state_of r n words' held measured count ≡ take_region i (state_of r n words held measured count) v key
        inner-is-taken t held measured count =
            state_by inner-parts held measured count
            ∙ sym (take_inner i (state_of r n words held measured count) v key t
            ∙ (ap (λ (s : SearchState). open_inner i s v key) (state_by (parts_of_lem r n words) held measured count) ∙ open_inner-is i _ v key))
