-- Demand 3, and what is promised beside it. Assumes nothing.
use mathlib.Core.Bool.{true, not}
use mathlib.Core.Path.{◌≡◌, ap, ◌∙◌}
use mathlib.Core.List.{List, [], ◌++◌, Memᴰ as Mem}
use mathlib.Core.Option.{Option, none, some, some-ne-none, none-ne-some, some-injective}
use Prim.Native.Nat.{ℕ, ◌+◌, ◌*◌, ◌≤◌}
use native.Mathlib.Omega.{arith}
use lib.ListN.{length, drop}
use lib.Dec.{T, not_T}
use Rattle.book.specs.Bytes.{Bytes}
use Rattle.book.specs.Lists.{keep_if}
use Rattle.book.specs.Writing.{write}
use Rattle.book.proofs.Writing.{write-is}
use Rattle.check_tree.proofs.Passing.{passed-yards}
use Rattle.query.specs.Query.{aggregate_of, k_of, crews_of}
use Rattle.search_rules.specs.Run.{words, answer}
use Rattle.search_rules.specs.Facts.{SoundInstance}
use Rattle.search_rules.specs.Instance.{Instance}
use Rattle.search_rules.specs.Order.{YardBefore}
use Rattle.search_rules.specs.Books.{search_of, Passed}
use Rattle.search_rules.specs.Walks.{FirstYards, DriveYards}
use Rattle.search_rules.specs.Theorems.{Listing, Decided as RulesDecided}
use Rattle.book.proofs.Choosing.{choose_yes}
use Rattle.search_rules.proofs.Books.{accepted_of}
use Rattle.search_rules.proofs.ByKinds.{asked_in, asked_out, asked-held}
use Rattle.search_rules.proofs.Asked.{asked-there, asked-ends, asked-settles}
use Rattle.search_rules.proofs.Theorems.{decided, answer-taken, answer-measured, answer-listing, answer-spent, words-length, unrooted_answer}
use Rattle.search_rules.proofs.Keys.{key_alone}
use Rattle.search_rules.proofs.Keyed.{keys_of}
use Rattle.search_rules.proofs.Order.{before_not}
use Rattle.search_rules.proofs.Found.{entry-same}
use Rattle.search_rules.proofs.Walks.{yards-distinct, entry_true, first-yards, drive-yards}
use Rattle.search_rules.proofs.Fronts.{nearest-allowed, drive-allowed}
use Rattle.search_call.specs.Call.{rule_by, accepted, Call, Areas, Search, searches}
use Rattle.search_call.specs.Demand.{OnPassing, NotRefused, Settled, ForYards, ForDrive, code, k, crews, arcs, limit, yards, wanted_yards, inner_regions, instance_of, list}
use Rattle.search_call.specs.Demand.{Demand3, KeysTrue, TrueList, DecidedSearch, AnyTree, OwnYards}
use Rattle.search_call.proofs.Calls.{on_settled, settled_on, spent_on, on_listed, on_taken, on_measured, on_tests, on_accepted, on_refused, work-zeroed}
use Rattle.search_call.proofs.Calls.{results-written, results-kept, areas-kept, accepted-is}
use Rattle.search_call.proofs.Instances.{road, tree, asking, asking_by_lem, wanted-is, for_yards, for_drive, well, covers, sound}
use Rattle.search_call.proofs.Measured.{within_last, within-drive, key_is-bound, full-measured, short-measured, drive-measured}
use Rattle.search_call.proofs.Bounded.{has-bound, one-bound}
use Rattle.search_call.proofs.Room.{listed-most}
use Rattle.search_call.proofs.Lists.{call_of_lem, written_in_turn}

-- whatever yard book a tree passes with has the tree's own yards
pub own_yards_lem : OwnYards
own_yards_lem road tree p = passed-yards road p.yard tree p.work p.zero

-- what is written over the start, and what stood after it
over_start_lem : (w b : List ℕ) → length w ≤ length b → write b 0 w ≡ w ++ drop (length w) b
over_start_lem w b h = write-is w b 0 (omega arith) ∙ ap (λ (n : ℕ). w ++ drop n b) (let e : 0 + length w ≡ length w = omega arith in e)

-- nothing is returned of an empty list, settled at once
empty_answer : accepted (record { settled = true; listed = []; taken = 0; measured = 0 })
    ≡ record { refusal = 0; settled = 1; listed = 0; taken = 0; measured = 0 }
empty_answer = accepted-is _ ∙ (λ i. record { refusal = 0; settled = choose_yes true 1 0 tt i; listed = 0; taken = 0; measured = 0 })

-- ---- one search

module _ (s : Search) where
  module _ (p : Passed (road s) (tree s) (crews s)) where
    true_list_lem : T (answer (instance_of s) (limit s)).settled → TrueList s
    true_list_lem t =
        let l : Listing (instance_of s) (list s) = answer-listing (instance_of s) (well s p) (limit s) t in
        record {
          entries = λ e j. rw (entry-same (instance_of s) (l.distances e j) (l.furthests e j))
              (entry_true (road s) (tree s) (asking s) (crews s) p e.yard (asked-there (road s) (tree s) (asking s) (crews s) p e.yard (l.in_tree e j)));
          distinct = yards-distinct YardBefore (λ e b. before_not b b) (list s) l.sorted l.distinct;
          sorted = l.sorted;
          in_tree = λ e j. covers s p e.yard (l.in_tree e j);
          few = λ e. nearest-allowed (instance_of s).rule (k s) (list s) (for_yards s e) l.allowed;
          inside = λ seconds e. drive-allowed (instance_of s).rule seconds (list s) (for_drive s seconds e) l.allowed;
        }

    -- the list is exact, by what the search is for
    exact-yards : OnPassing s → T (answer (instance_of s) (limit s)).settled → ForYards s
        → FirstYards (arcs s) (code s) (k s) (crews s) (wanted_yards s) (list s)
    exact-yards q t e = rw (wanted-is s) at (yards_of_lem s.call.want.drive e (sound s p q) t)
      where
        by : Option ℕ → Instance
        by d = search_of (road s) (tree s) (asking_by_lem s (rule_by (k s) d)) (crews s)

        yards_of_lem : (d : Option ℕ) → d ≡ none → SoundInstance (by d) → T (answer (by d) (limit s)).settled
            → FirstYards (arcs s) (code s) (k s) (crews s) (keep_if (by d).wants (yards s)) (answer (by d) (limit s)).listed
        yards_of_lem none e so u = first-yards (road s) (tree s) (code s) (k s) s.call.want.kinds (crews s) p so (limit s) u
        yards_of_lem (some x) e so u = absurd (some-ne-none x e)

    exact-drive : OnPassing s → T (answer (instance_of s) (limit s)).settled → (seconds : ℕ) → ForDrive s seconds
        → DriveYards (arcs s) (code s) seconds (crews s) (wanted_yards s) (list s)
    exact-drive q t seconds e = rw (wanted-is s) at (yards_of_lem s.call.want.drive e (sound s p q) t)
      where
        by : Option ℕ → Instance
        by d = search_of (road s) (tree s) (asking_by_lem s (rule_by (k s) d)) (crews s)

        yards_of_lem : (d : Option ℕ) → d ≡ some seconds → SoundInstance (by d) → T (answer (by d) (limit s)).settled
            → DriveYards (arcs s) (code s) seconds (crews s) (keep_if (by d).wants (yards s)) (answer (by d) (limit s)).listed
        yards_of_lem none e so u = absurd (none-ne-some seconds e)
        yards_of_lem (some x) e so u =
            rw (← some-injective x seconds e) (drive-yards (road s) (tree s) (code s) x s.call.want.kinds (crews s) p so (limit s) u)

    -- a limit of inner regions plus twice the wanted yards settles
    ends-wanted : OnPassing s → inner_regions s + 2 * length (wanted_yards s) ≤ limit s → T (answer (instance_of s) (limit s)).settled
    ends-wanted q h = asked-settles (road s) (tree s) (asking s) (crews s) p (sound s p q) (limit s) (rw (wanted-is s) h)

  -- whatever the tree's numbers say
  module _ (bytes : Bytes (tree s)) where
    abbrev c : Call
    c = s.call

    abbrev a : Areas
    a = s.areas

    -- the books of a search that is not refused pass the tests
    pub books : NotRefused s → Passed (road s) (tree s) (crews s)
    books n = (on_tests c a n).books bytes

    abbrev rules : (n : NotRefused s) → RulesDecided (instance_of s) (limit s)
    rules n = decided (instance_of s) (well s (books n)) (limit s)

    true_settled : Settled s → TrueList s
    true_settled t = let (n, u) = on_settled c a t in true_list_lem (books n) u

    room : Settled s → length (words (list s)) ≤ length a.results
    room t =
        let (n, u) = on_settled c a t in
        omega (arith, words-length (list s), listed-most (road s) (tree s) c.query c.want (books n) u, (on_tests c a n).results-full)

    not-settled : NotRefused s → (Settled s → ⊥) → T (not (answer (instance_of s) (limit s)).settled)
    not-settled n h = not_T (answer (instance_of s) (limit s)).settled (λ t. h (settled_on c a n t))

    decided_search : DecidedSearch s
    decided_search = record {
      listed = true_settled;
      count = λ t. on_listed c a (on_settled c a t).0;
      room = room;
      writes = λ t. results-written c a t ∙ over_start_lem (words (list s)) a.results (room t);
      leaves = results-kept c a;
      spent = λ n h.
          let (e, f) = answer-spent (instance_of s) (limit s) (not-settled n h) in
          (spent_on c a n (not-settled n h), on_listed c a n ∙ ap length e, on_taken c a n ∙ f);
      within = λ n. omega (arith, on_taken c a n, answer-taken (instance_of s) (limit s), (rules n).within);
      counted = λ n. on_measured c a n ∙ answer-measured (instance_of s) (limit s);
      once = λ n. (rules n).measured-once;
      in_tree = λ n y j. covers s (books n) y ((rules n).measured_in y j);
      ends = λ n h. settled_on c a n (asked-ends (road s) (tree s) (asking s) (crews s) (books n) (limit s) h);
      queued-regions = λ n steps r w.
          asked_in (road s) (tree s) (asking s) (crews s) r ((decided (instance_of s) (well s (books n)) steps).queued-regions r w);
      queued-yards = λ n steps y w. covers s (books n) y ((decided (instance_of s) (well s (books n)) steps).queued-yards y w);
      unwanted_root = λ n t. on_accepted c a n ∙ ap accepted (unrooted_answer (instance_of s) (asked_out (road s) (tree s) (asking s) (crews s) t) (limit s)) ∙ empty_answer;
      bounded = λ n y j. has-bound (instance_of s) (well s (books n)).shape (accepted_of (road s) (tree s) (asking s) (crews s) (books n)) (asked-held (road s) (tree s) (asking s) (crews s) (books n) y j);
      one-bound = λ n. one-bound (instance_of s) (well s (books n)).shape;
      zeroes = λ n. ((on_tests c a n).work-full, work-zeroed c a n);
      unchanged = λ h. (on_refused c a h, areas-kept c a h);
    }

-- ---- a list of searches

-- demand 3
pub demand_3 : Demand3
demand_3 calls bytes first = record {
  exact = λ s m q t.
      let (n, u) = on_settled s.call s.areas t in
      exact-yards s (books s (of_bytes s m) n) q u;
  exact-drive = λ s m q t.
      let (n, u) = on_settled s.call s.areas t in
      exact-drive s (books s (of_bytes s m) n) q u;
  measured-within = λ s m q t.
      let (n, u) = on_settled s.call s.areas t in
      within_last s (books s (of_bytes s m) n) q u;
  measured-drive = λ s m q n. within-drive s (books s (of_bytes s m) n) q;
  measured-full = λ s m q t e full.
      let (n, u) = on_settled s.call s.areas t in
      full-measured s (books s (of_bytes s m) n) q u n e full;
  measured-short = λ s m q t e short.
      let (n, u) = on_settled s.call s.areas t in
      short-measured s (books s (of_bytes s m) n) q u n e short;
  measured-inside = λ s m q t seconds e.
      let (n, u) = on_settled s.call s.areas t in
      drive-measured s (books s (of_bytes s m) n) q u n seconds e;
  ends = λ s m q n h. settled_on s.call s.areas n (ends-wanted s (books s (of_bytes s m) n) q h);
  results = written_in_turn calls first;
}
  where
    of_bytes : (s : Search) → Mem s (searches calls first) → Bytes s.call.tree
    of_bytes s m = bytes s.call (call_of_lem calls first s m)

-- of any tree that the search's own tests accept
pub any-tree : AnyTree
any-tree calls bytes first s m = decided_search s (bytes s.call (call_of_lem calls first s m))

-- keys, by the tree, the roads and the query alone
pub keys_true : KeysTrue
keys_true = record {
  alone = λ road tree query v w y. key_alone road tree (crews_of query) (aggregate_of query) (rule_by (k_of query) v.drive) (rule_by (k_of query) w.drive) v.kinds w.kinds y;
  queued = λ s bytes n. keys_of (instance_of s) (well s (books s bytes n));
  bounds = λ s bytes q n. key_is-bound s (books s bytes n) q;
}
