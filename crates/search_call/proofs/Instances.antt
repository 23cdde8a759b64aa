-- The instance that a search's books ask for: its rule, the yards that it wants and reaches, and that it is sound on a tree that passes. Assumes nothing.
use mathlib.Core.Path.{◌≡◌, ap, ◌∙◌}
use mathlib.Core.List.{List, Memᴰ as Mem}
use Prim.Native.Nat.{ℕ}
use Rattle.book.specs.Lists.{keep_if}
use Rattle.road.specs.Dijkstra.{dist}
use Rattle.tree_layout.specs.Decode.{decode}
use Rattle.check_rules.specs.Facts.{TrueNumbers}
use Rattle.check_rules.proofs.Theorems.{tested}
use Rattle.check_tree.specs.Facts.{SoundBeside}
use Rattle.check_tree.proofs.Passing.{passed-laid, passed_true}
use Rattle.search_rules.specs.Facts.{Below, WellFormed, SoundInstance}
use Rattle.search_rules.specs.Rule.{Rule, nearest, in_drive, Asking}
use Rattle.search_rules.specs.Books.{search_of, Passed}
use Rattle.search_rules.specs.Theorems.{TreeYards}
use Rattle.search_rules.proofs.Books.{well_of, sound_of}
use Rattle.search_rules.proofs.ByKinds.{asked-wanted}
use Rattle.search_rules.proofs.Asked.{asked-rule, asked_covers, asked-yards}
use Rattle.search_call.specs.Call.{rule_by, asking_by, Search}
use Rattle.search_call.specs.Demand.{OnPassing, ForYards, ForDrive, code, k, crews, yards, wanted_yards, instance_of}
use Rattle.search_call.proofs.Admitting.{admits}

module _ (s : Search) where
  abbrev pub road : List ℕ
  road = s.call.road

  abbrev pub tree : List ℕ
  tree = s.call.tree

  abbrev pub asking : Asking
  asking = asking_by s.call.query s.call.want

  -- the same by another rule
  abbrev pub asking_by_lem : Rule → Asking
  asking_by_lem r = record { code = code s; rule = r; wanted = s.call.want.kinds }

  rule-is : (instance_of s).rule ≡ rule_by (k s) s.call.want.drive
  rule-is = asked-rule road tree asking (crews s)

  -- the yards that it wants are the tree's wanted ones
  pub wanted-is : keep_if (instance_of s).wants (yards s) ≡ wanted_yards s
  wanted-is = asked-wanted road tree asking (crews s)

  -- by what it is for
  pub for_yards : ForYards s → (instance_of s).rule ≡ nearest (k s)
  for_yards e = rule-is ∙ ap (rule_by (k s)) e

  pub for_drive : (seconds : ℕ) → ForDrive s seconds → (instance_of s).rule ≡ in_drive seconds
  for_drive seconds e = rule-is ∙ ap (rule_by (k s)) e

  module _ (p : Passed road tree (crews s)) where
    pub well : WellFormed (instance_of s)
    well = well_of road tree asking (crews s) p

    -- every yard that it reaches is a wanted one of the tree's
    pub covers : (y : ℕ) → Below (instance_of s) 0 y → Mem y (wanted_yards s)
    covers y b = rw wanted-is at (asked_covers road tree asking (crews s) p y b)

    -- on a tree that passes it is sound, whatever its rule
    pub sound_by : (r : Rule) → OnPassing s → SoundInstance (search_of road tree (asking_by_lem r) (crews s))
    sound_by r q =
        let numbers : TrueNumbers (dist road) (decode tree) = passed_true road q.yard tree q.work q.zero in
        let laid : SoundBeside road q.yard tree q.work = passed-laid road q.yard tree q.work q.zero in
        sound_of road tree (asking_by_lem r) (crews s) p numbers.lists ((tested tree laid.shape).encloses (dist road) numbers)
        (admits road q.yard tree q.work q.zero (asking_by_lem r) (crews s))

    pub sound : OnPassing s → SoundInstance (instance_of s)
    sound = sound_by (rule_by (k s) s.call.want.drive)

    -- of a tree that passes it reaches all of them, each once
    pub reaches : OnPassing s → TreeYards (instance_of s) (wanted_yards s)
    reaches q = rw wanted-is at (asked-yards road tree asking (crews s) p (sound q))
