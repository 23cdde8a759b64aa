-- An accepted call: what its books' arrays are, and that they are all a search asks. Assumes nothing.
use mathlib.Core.Path.{◌≡◌, refl, sym, ap, ◌∙◌}
use mathlib.Core.List.{List, [], ◌∷◌, ◌++◌}
use Prim.Native.Nat.{ℕ, suc, ◌+◌, ◌*◌, ◌≤◌, ◌<◌}
use native.Mathlib.Omega.{arith}
use lib.ListN.{length, get_or, take, drop, length-append}
use lib.Seq.{length-take-le, take_at}
use Rattle.book.specs.Bytes.{Bytes}
use Rattle.book.proofs.Writing.{bytes-none, bytes-cons}
use Rattle.work_area.specs.Work.{work_words, zeroed}
use Rattle.work_area.proofs.Zeroing.{zeroed-over}
use Rattle.adjacency.specs.Adjacency.{count_in, IsAdjacency}
use Rattle.road.specs.code.Rows.{Within, Rowed}
use Rattle.tree_layout.specs.Decode.{junction_count}
use Rattle.tree_layout.specs.Facts.{TreeLayout}
use Rattle.query.specs.Query.{crew_count, crews_of, limit_of}
use Rattle.search_rules.specs.Rule.{Asking}
use Rattle.search_rules.specs.Books.{search_of, Passed}
use Rattle.search_rules.specs.Run.{Answer, answer}
use Rattle.search_call.proofs.Room.{accepted-room}
use Rattle.search_bounds.specs.code.Rows.{table_words}
use Rattle.search_bounds.specs.code.Tables.{root_places}
use Rattle.search_bounds.proofs.Filled.{table_filled}
use Rattle.search_leaf.specs.code.Ready.{Ready}
use Rattle.search_call.specs.code.Accepted.{AcceptedSearch}
use Rattle.search_tree.specs.code.District.{District}
use Rattle.search_tree.specs.code.Asking.{AcceptedBy, answer_by}

-- what every element says of a book
pub bytes-all : (b : List ℕ) → ((i : ℕ) → get_or b i 0 < 256) → Bytes b
bytes-all [] f = bytes-none
bytes-all (x ∷ b) f = bytes-cons x b (f 0) (bytes-all b (λ i. f (suc i)))

-- the first n of m words
pub part_room : (n m k : ℕ) → n ≤ m → k ≡ m → n ≤ k
part_room n m k h e = omega arith

pub part_of : {A : Type 0} (n m : ℕ) (l : List A) → n ≤ m → length l ≡ m → n ≡ length (take n l)
part_of n m l h e = sym (length-take-le n l (part_room n m (length l) h e))

-- ---- the work area, when its first words are back

pub lent-size : (work : List ℕ) → work_words ≤ length work → length (take work_words work) ≡ work_words
lent-size work full = length-take-le work_words work full

module _ (work part : List ℕ) (size : length part ≡ work_words) where
  pub back_full : work_words ≤ length (part ++ drop work_words work)
  back_full = omega (arith, length-append part (drop work_words work))

  pub back-part : work_words ≡ length (take work_words (part ++ drop work_words work))
  back-part = sym (length-take-le work_words (part ++ drop work_words work) back_full)

  pub back-taken : take work_words (part ++ drop work_words work) ≡ part
  back-taken = take_at part (drop work_words work) work_words size

  pub back-zeroed : (out : List ℕ) → out ≡ zeroed work_words (part ++ drop work_words work) → out ≡ zeroed work_words work
  back-zeroed out e = e ∙ zeroed-over work_words part work size

-- ---- the call

module _ {road tree adj places ends query : List ℕ} {asking : Asking} {work results : ℕ} (d : District road tree adj places ends)
    (by : AcceptedBy road tree query asking work results) where
  abbrev a : AcceptedSearch road tree query by.want work results
  a = by.accepted

  tree-laid : TreeLayout tree
  tree-laid = d.laid.layout

  pub crews_needs : (room : ℕ) → room ≡ 16 → (length query ≡ 12 + 2 * crew_count query) × (crew_count query ≤ room)
  crews_needs room e = (a.asked.sized, omega (arith, a.asked.few-crews))

  -- ---- the crews and the limit

  module _ (q : ℕ) (count : q ≡ crew_count query) where
    pub few-crews : q ≤ 16
    few-crews = omega (arith, count, a.asked.few-crews)

    module _ (limit : ℕ) (limited : limit ≡ limit_of query) (copied : List ℕ) (crews : take (crew_count query) copied ≡ crews_of query) where
      crews_are : take q copied ≡ crews_of query
      crews_are = rw count crews

      -- the search is the call's
      pub same_search : answer (search_of road tree asking (take q copied)) limit ≡ answer_by road tree query asking
      same_search = rw (crews_are, limited) refl

      -- ---- the arrays

      module _ (bytes : Bytes tree) where
        passed : Passed road tree (take q copied)
        passed = rw crews_are (a.books bytes)

        -- a row of distances for each of the root's landmarks, and for each crew
        pub rows_need : (table drives : ℕ) → table ≡ table_words → drives ≡ work_words
            → IsAdjacency adj × TreeLayout tree × (junction_count tree ≡ count_in adj) × Within (count_in adj) (take q copied)
            × (table ≡ table_words) × (1024 * length (take q copied) ≤ drives)
        rows_need table drives e f = (
          record { book = road; adjacent = d.adjacent },
          tree-laid,
          d.counts ∙ sym d.adjacent.count,
          λ t m. omega (arith, passed.there t m, d.adjacent.count),
          e,
          omega (arith, passed.few),
        )

        pub ready : (drives part table : List ℕ) → drives ≡ part → Rowed road (take q copied) part → length table ≡ table_words
            → Rowed road (root_places tree) table → Ready road tree asking (take q copied) drives places table
        ready drives part table e driven four rowed = record {
          passed = passed;
          driven = rw e driven;
          laid = d.laid;
          tableed = table_filled road tree tree-laid asking (take q copied) table four rowed;
        }

        -- the result area has room for what is listed
        pub results-room : (o : Answer) → o ≡ answer_by road tree query asking → 2 * length o.listed ≤ results
        results-room o e = omega (
          arith,
          ap (λ (x : Answer). length x.listed) (e ∙ ap (answer_by road tree query) by.is),
          accepted-room road tree query bytes by.want work results a,
        )
