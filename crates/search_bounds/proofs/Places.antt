-- The junctions of the root's landmarks, and the array that they are read into. Assumes nothing.
use mathlib.Core.Path.{◌≡◌, refl, sym, ap, ◌∙◌}
use mathlib.Core.List.{List, [], ◌∷◌, Memᴰ as Mem}
use Prim.Native.Nat.{ℕ, zero, suc, ◌+◌, ◌≤◌, ◌<◌}
use native.Mathlib.Omega.{arith}
use lib.ListN.{length, get_or, set}
use lib.Seq.{ext_get_or}
use Rattle.book.proofs.Lists.{get_d_mem, mem_get_d}
use Rattle.tree_layout.specs.Values.{Mark}
use Rattle.tree_layout.specs.Decode.{landmark_count}
use Rattle.tree.specs.Arrays.{overwrite}
use Rattle.tree.proofs.Filling.{overwrite-length, overwrite_new, overwrite-none, overwrite-next}
use Rattle.tree_layout.specs.Values.{no_mark}
use Rattle.tree_layout.specs.declared.Landmark.{Landmark}
use Rattle.tree_layout.specs.code.Marks.{marks_at, landmark_of, RecordAt}
use Rattle.tree_layout.proofs.RecordFields.{marks-count}
use Rattle.search_bounds.proofs.Bounding.{place_read}
use Rattle.search_bounds.specs.code.Tables.{places_of, root_places}

-- ---- of some landmarks

places-length : (ks : List Mark) → length (places_of ks) ≡ length ks
unfolding places_of
places-length [] = refl
places-length (k ∷ ks) = ap suc (places-length ks)

places-at : (ks : List Mark) (r : ℕ) → r < length ks → get_or (places_of ks) r 0 ≡ (get_or ks r no_mark).place
unfolding places_of
places-at [] r h = absurd (omega arith)
places-at (k ∷ ks) zero h = refl
places-at (k ∷ ks) (suc r) h = places-at ks r (omega arith)

-- ---- of the root's

module _ (tree : List ℕ) where
  pub root-length : length (root_places tree) ≡ landmark_count tree
  unfolding root_places
  root-length = places-length (marks_at tree 12) ∙ marks-count tree 12

  pub root-at : (r : ℕ) → r < landmark_count tree → get_or (root_places tree) r 0 ≡ (get_or (marks_at tree 12) r no_mark).place
  unfolding root_places
  root-at r h = places-at (marks_at tree 12) r (omega (arith, marks-count tree 12))

  -- each is a landmark's
  pub root-each : (n : ℕ) → ((k : Mark) → Mem k (marks_at tree 12) → k.place < n) → (t : ℕ) → Mem t (root_places tree) → t < n
  root-each n placed t m =
      let (r, h, e) = mem_get_d (root_places tree) 0 t m in
      let l : r < landmark_count tree = omega (arith, root-length) in
      rw (e, root-at r l) (placed (get_or (marks_at tree 12) r no_mark) (get_d_mem (marks_at tree 12) r no_mark (omega (arith, marks-count tree 12))))

  -- ---- the array

  -- the junction of the root's landmark r
  abbrev pub root_place : ℕ → ℕ
  root_place r = (get_or (marks_at tree 12) r no_mark).place

  pub read_none : (old : List ℕ) → old ≡ overwrite root_place 0 old
  read_none old = sym (overwrite-none root_place old)

  read_size : (old new : List ℕ) (r : ℕ) → new ≡ overwrite root_place r old → length new ≡ length old
  read_size old new r e = ap length e ∙ overwrite-length root_place old r

  -- one more
  pub read_next : (root : RecordAt tree 12) (old new : List ℕ) (r v : ℕ) (k : Landmark) → new ≡ overwrite root_place r old → r < landmark_count tree
      → k ≡ landmark_of (get_or (marks_at tree 12) r no_mark) → v ≡ k.place.number → set new r v ≡ overwrite root_place (r + 1) old
  read_next root old new r v k e h f s = rw (s, e, place_read tree 12 root r h k f) (overwrite-next root_place old r)

  -- all of them
  pub read_all : (old new : List ℕ) (r : ℕ) → length old ≡ landmark_count tree → new ≡ overwrite root_place r old → r ≤ length new → length new ≤ r
      → new ≡ root_places tree
  read_all old new r room e h k =
      let s : length new ≡ length old = read_size old new r e in
      ext_get_or 0 new (root_places tree) (s ∙ room ∙ sym root-length)
      (λ j p. ap (λ (l : List ℕ). get_or l j 0) e ∙ overwrite_new root_place old r j (omega arith) (omega arith) ∙ sym (root-at j (omega arith)))
