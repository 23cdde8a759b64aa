-- A part of a buffer that is read into. Assumes nothing.
use Rattle.std.proofs.Common.{◌≡◌, ℕ, ◌+◌, ◌-◌, ◌≤◌, List, ◌++◌, length, take, drop, sym, ap, ◌∙◌, le_refl, drop_at, length-take-le}
use Rattle.std.proofs.lemmas.Slice.{take-put_mid_below}
use borrow.Rule.Slice.PartMut.{put_mid, post_of}
use lib.Seq.{take-add, take-append-le}

-- what stood before the part, and what was read into it, stand at the start of the buffer
pub read_after : (done n : ℕ) (buf part : List ℕ) → done ≤ length buf → n ≤ length part
    → take done buf ++ take n part ≡ take (done + n) (put_mid done (length buf - done) buf part)
read_after done n buf part within fits =
    let room = length buf - done in
    let new = put_mid done room buf part in
    let after = post_of done room buf in
    let front : take done new ≡ take done buf = take-put_mid_below _ _ _ _ _ (le_refl _) within in
    let back : take n (drop done new) ≡ take n part =
    ap (take n) (drop_at (take done buf) (part ++ after) done (length-take-le done buf within)) ∙ take-append-le n part after fits in
    sym (take-add done n new ∙ ap (λ l. l ++ take n (drop done new)) front ∙ ap (λ l. take done buf ++ l) back)
