-- A decoded tree has the layout's form. Assumes nothing.
use mathlib.Core.Path.{◌≡◌, refl, ap}
use mathlib.Core.Logic.{◌⊎◌, inl, inr}
use mathlib.Core.Bool.{not}
use mathlib.Core.List.Memᴰ.{cases_cons}
use mathlib.Core.List.Memᴰ.{not-nil}
use mathlib.Core.List.{List, [], Memᴰ as Mem}
use Prim.Native.Nat.{ℕ, zero, suc, ◌+◌, ◌<◌}
use native.Mathlib.Omega.{arith}
use lib.ListN.{length, get_or}
use lib.Dec.{T, eqb, eqb→eq}
use Rattle.book.specs.Bytes.{u8_at, u16_at, u32_at}
use Rattle.book.specs.Open.{version}
use Rattle.book.proofs.Choosing.{choose_yes, choose_no, T-split}
use Rattle.book.proofs.Lists.{eq→eqb, ne→neqb, neqb→ne, get_d_mem}
use Rattle.kinds.proofs.Reading.{kind-any}
use Rattle.tree_layout.specs.Sizes.{fields_size, element_size, leaf_mark_size}
use Rattle.tree_layout.specs.Values.{Element, Mark, Region, leaf_mark, inner_mark, no_mark, no_region, region_at}
use Rattle.tree_layout.specs.Decode.{element_at, read_list, list_part, read_lists, read_spans, read_marks, read_region, read_regions, size_at, decode, landmark_count}
use Rattle.tree_layout.specs.Decode.{region_count}
use Rattle.tree_layout.specs.code.Formed.{Formed, FormedTree}

pub read_list-length : (v : ℕ) (p : List ℕ) (n at : ℕ) → length (read_list v p n at) ≡ n
unfolding read_list
read_list-length v p zero at = refl
read_list-length v p (suc n) at = ap suc (read_list-length v p n (at + element_size v))

read_lists-length : (b : List ℕ) (yards n at : ℕ) → length (read_lists b yards n at) ≡ n
unfolding read_lists
read_lists-length b yards zero at = refl
read_lists-length b yards (suc n) at = ap suc (read_lists-length b yards n (at + leaf_mark_size (version b) yards))

read_spans-length : (b : List ℕ) (n at : ℕ) → length (read_spans b n at) ≡ n
unfolding read_spans
read_spans-length b zero at = refl
read_spans-length b (suc n) at = ap suc (read_spans-length b n (at + 10))

read_lists-form : (b : List ℕ) (yards n at : ℕ) (k : Mark) → Mem k (read_lists b yards n at) → (k ≡ leaf_mark k.place k.list) × (length k.list ≡ yards)
unfolding read_lists leaf_mark
read_lists-form b yards zero at k j = absurd (not-nil j)
read_lists-form b yards (suc n) at k j = go (cases_cons j) (λ i. read_lists-form b yards n (at + leaf_mark_size (version b) yards) k i)
  where
    go : (k ≡ leaf_mark (u16_at b at) (read_list (version b) (list_part (version b) b yards (at + 2)) yards 0)) ⊎ Mem k (read_lists b yards n (at + leaf_mark_size (version b) yards))
        → (Mem k (read_lists b yards n (at + leaf_mark_size (version b) yards)) → (k ≡ leaf_mark k.place k.list) × (length k.list ≡ yards))
        → (k ≡ leaf_mark k.place k.list) × (length k.list ≡ yards)
    go (inl e) rec = rw e (refl, read_list-length (version b) (list_part (version b) b yards (at + 2)) yards 0)
    go (inr i) rec = rec i

read_spans-form : (b : List ℕ) (n at : ℕ) (k : Mark) → Mem k (read_spans b n at) → k ≡ inner_mark k.place k.least k.greatest
unfolding read_spans inner_mark
read_spans-form b zero at k j = absurd (not-nil j)
read_spans-form b (suc n) at k j = go (cases_cons j) (λ i. read_spans-form b n (at + 10) k i)
  where
    go : (k ≡ inner_mark (u16_at b at) (u32_at b (at + 2)) (u32_at b (at + 6))) ⊎ Mem k (read_spans b n (at + 10)) → (Mem k (read_spans b n (at + 10))
        → k ≡ inner_mark k.place k.least k.greatest) → k ≡ inner_mark k.place k.least k.greatest
    go (inl e) rec = rw e refl
    go (inr i) rec = rec i

-- in version 1 every kind is 255
list_any : (v : ℕ) → v ≡ 1 → (p : List ℕ) (n at : ℕ) (e : Element) → Mem e (read_list v p n at) → e.kinds ≡ 255
unfolding read_list element_at
list_any v o p zero at e j = absurd (not-nil j)
list_any v o p (suc n) at e j = go (cases_cons j) (λ i. list_any v o p n (at + element_size v) e i)
  where
    go : (e ≡ element_at v p at) ⊎ Mem e (read_list v p n (at + element_size v)) → (Mem e (read_list v p n (at + element_size v)) → e.kinds ≡ 255) → e.kinds ≡ 255
    go (inl q) rec = rw q (kind-any v p (at + 6) o)
    go (inr i) rec = rec i

lists-any : (b : List ℕ) → version b ≡ 1 → (yards n at : ℕ) (k : Mark) → Mem k (read_lists b yards n at) → (e : Element) → Mem e k.list → e.kinds ≡ 255
unfolding read_lists leaf_mark
lists-any b o yards zero at k j e h = absurd (not-nil j)
lists-any b o yards (suc n) at k j e h = go (cases_cons j) (λ i. lists-any b o yards n (at + leaf_mark_size (version b) yards) k i e h)
  where
    go : (k ≡ leaf_mark (u16_at b at) (read_list (version b) (list_part (version b) b yards (at + 2)) yards 0)) ⊎ Mem k (read_lists b yards n (at + leaf_mark_size (version b) yards))
        → (Mem k (read_lists b yards n (at + leaf_mark_size (version b) yards)) → e.kinds ≡ 255) → e.kinds ≡ 255
    go (inl q) rec = list_any (version b) o (list_part (version b) b yards (at + 2)) yards 0 e (rw q at h)
    go (inr i) rec = rec i

-- an inner region's landmarks have no list
spans-any : (b : List ℕ) (n at : ℕ) (k : Mark) → Mem k (read_spans b n at) → (e : Element) → Mem e k.list → e.kinds ≡ 255
unfolding inner_mark
spans-any b n at k j e h = absurd (not-nil (rw (ap (λ (z : Mark). z.list) (read_spans-form b n at k j)) at h))

-- a region's landmarks, by its kind
pub marks-lists : (b : List ℕ) (m children yards at : ℕ) → children ≡ 0 → read_marks b m children yards at ≡ read_lists b yards m at
unfolding read_marks
marks-lists b m children yards at e = choose_yes (eqb children 0) _ _ (eq→eqb children 0 e)

pub marks-spans : (b : List ℕ) (m children yards at : ℕ) → 0 < children → read_marks b m children yards at ≡ read_spans b m at
unfolding read_marks
marks-spans b m children yards at h = choose_no (eqb children 0) _ _ (ne→neqb children 0 (omega arith))

pub region_formed : (b : List ℕ) (m at : ℕ) → Formed (version b) m (read_region b m at)
unfolding read_region
region_formed b m at = record {
  count = go (T-split (eqb c 0));
  lists = λ e k j. read_lists-form b y m (at + fields_size (version b)) k (rw (marks-lists b m c y (at + fields_size (version b)) e) at j);
  spans = λ e k j. read_spans-form b m (at + fields_size (version b)) k (rw (marks-spans b m c y (at + fields_size (version b)) e) at j);
  any = λ o. kind-any (version b) b (at + 7) o;
  any-listed = λ o k j e i. listed o k j e i (T-split (eqb c 0));
}
  where
    c : ℕ
    c = u8_at b (at + 4)

    y : ℕ
    y = u16_at b (at + 5)

    go : T (eqb c 0) ⊎ T (not (eqb c 0)) → length (read_marks b m c y (at + fields_size (version b))) ≡ m
    go (inl t) = rw (marks-lists b m c y (at + fields_size (version b)) (eqb→eq c 0 t)) (read_lists-length b y m (at + fields_size (version b)))
    go (inr t) = rw (marks-spans b m c y (at + fields_size (version b)) (omega (arith, neqb→ne c 0 t))) (read_spans-length b m (at + fields_size (version b)))

    listed : version b ≡ 1 → (k : Mark) → Mem k (read_marks b m c y (at + fields_size (version b))) → (e : Element) → Mem e k.list
        → T (eqb c 0) ⊎ T (not (eqb c 0)) → e.kinds ≡ 255
    listed o k j e i (inl t) =
        lists-any b o y m (at + fields_size (version b)) k (rw (marks-lists b m c y (at + fields_size (version b)) (eqb→eq c 0 t)) at j) e i
    listed o k j e i (inr t) =
        spans-any b m (at + fields_size (version b)) k (rw (marks-spans b m c y (at + fields_size (version b)) (omega (arith, neqb→ne c 0 t))) at j) e i

regions-formed : (b : List ℕ) (m n at : ℕ) (r : Region) → Mem r (read_regions b m n at) → Formed (version b) m r
unfolding read_regions
regions-formed b m zero at r j = absurd (not-nil j)
regions-formed b m (suc n) at r j = go (cases_cons j) (λ i. regions-formed b m n (at + size_at b m at) r i)
  where
    go : (r ≡ read_region b m at) ⊎ Mem r (read_regions b m n (at + size_at b m at)) → (Mem r (read_regions b m n (at + size_at b m at)) → Formed (version b) m r) → Formed (version b) m r
    go (inl e) rec = rw e (region_formed b m at)
    go (inr i) rec = rec i

pub decode-formed : (b : List ℕ) → FormedTree (decode b)
unfolding decode
decode-formed b = regions-formed b (landmark_count b) (region_count b) 12

pub at_mem : (rs : List Region) (j : ℕ) → j < length rs → Mem (region_at rs j) rs
unfolding region_at
at_mem rs j h = get_d_mem rs j no_region h

-- no landmark has an empty list
pub no_mark_list : no_mark.list ≡ []
unfolding no_mark
no_mark_list = refl
