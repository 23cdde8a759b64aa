-- For version 1 books all is as it was before there were kinds. Assumes nothing.
use mathlib.Core.Path.{◌≡◌, refl, ◌∙◌}
use mathlib.Core.List.{List}
use Prim.Native.Nat.{ℕ}
use native.Mathlib.Omega.{arith}
use Rattle.book.specs.Open.{version}
use Rattle.tree_layout.specs.Decode.{decode}
use Rattle.tree_layout.proofs.Formed.{decode-formed}
use Rattle.tree_layout.proofs.Places.{decode-version}
use Rattle.tree.specs.Shape.{tree_refusal}
use Rattle.tree.proofs.Theorems.{accepted_iff}
use Rattle.tree_encode.specs.Encode.{in_version2}
use Rattle.tree_encode.proofs.Theorems.{written, book_sound, sound_2}
use Rattle.check_tree.proofs.Theorems.{version_1_kinds}
use Rattle.search_call.specs.Call.{Call, Areas, found_on, call_on}
use Rattle.search_call.specs.Demand.{Alike}
use Rattle.search_call.proofs.Versions.{versions_agree}
use Rattle.work_area.specs.Work.{work_words}
use Rattle.finder.specs.Promises.{AnyKind, version2, on_version2, VersionOne}
use Rattle.finder.proofs.Promises.{laid_out}

-- ---- a tree book's tree as a version 2 book

module _ (tree : List ℕ) (ok : tree_refusal tree ≡ 0) where
  accepted_2 : tree_refusal (version2 tree) ≡ 0
  accepted_2 = (written (in_version2 (decode tree))).accepted (sound_2 (decode tree) (book_sound tree ok))

  back_2 : decode (version2 tree) ≡ in_version2 (decode tree)
  back_2 = (written (in_version2 (decode tree))).back (sound_2 (decode tree) (book_sound tree ok)).formed

  alike_2 : Alike (decode tree) (decode (version2 tree))
  alike_2 = rw back_2 (record { junctions = refl; yards = refl; landmarks = refl; regions = refl })

  any_2 : version tree ≡ 1 → AnyKind (decode (version2 tree))
  any_2 v = rw back_2 (record { regions = λ r k. (decode-formed tree r k).any one; lists = λ r k. (decode-formed tree r k).any-listed one })
    where
      one : (decode tree).version ≡ 1
      one = decode-version tree ∙ v

searched_2 : (c : Call) (a : Areas) → tree_refusal c.tree ≡ 0 → (found_on c a ≡ found_on (on_version2 c) a) × (call_on c a ≡ call_on (on_version2 c) a)
searched_2 c a ok = versions_agree.same c (on_version2 c) a refl refl refl ok (accepted_2 c.tree ok) (alike_2 c.tree ok)

pub version-one : VersionOne
version-one = record {
  checked = λ road yard tree b s v w h. version_1_kinds road yard tree work_words (laid_out road yard tree work_words b (omega arith) s) h v w;
  accepted = λ tree f. (accepted_iff (version2 tree)).0 (accepted_2 tree ((accepted_iff tree).1 f));
  back = λ tree f. back_2 tree ((accepted_iff tree).1 f);
  any = λ tree f v. any_2 tree ((accepted_iff tree).1 f) v;
  searched = λ c a f. searched_2 c a ((accepted_iff c.tree).1 f);
}
