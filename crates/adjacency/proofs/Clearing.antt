-- The count stored, and the words of the junctions made 0. Assumes nothing.
use mathlib.Core.Path.{◌≡◌, ap, ◌∙◌}
use mathlib.Core.List.{List, [], ◌∷◌, ◌++◌}
use Prim.Native.Nat.{ℕ, suc, ◌+◌}
use native.Mathlib.Omega.{arith}
use lib.ListN.{length, take, drop, replicate, length-take, length-drop, length-append, length-replicate, get_or-append, get_or-replicate}
use Rattle.adjacency.specs.Adjacency.{adjacency_words, count_in, head_at, Bare}

-- the 1,024 words after the count made 0
pub cleared_bare : (ws part : List ℕ) (n : ℕ) → length ws ≡ adjacency_words → count_in ws ≡ n → part ≡ replicate (length (take 1024 (drop 1 ws))) 0
    → Bare n (take 1 ws ++ (part ++ drop 1024 (drop 1 ws)))
unfolding count_in head_at
cleared_bare [] part n size count zeroes = absurd (omega arith)
cleared_bare (x ∷ xs) part n size count zeroes =
    let m : length (take 1024 xs) ≡ 1024 = omega (arith, length-take 1024 xs) in
    let p : part ≡ replicate 1024 0 = zeroes ∙ ap (λ (k : ℕ). replicate k 0) m in
    let e : length part ≡ 1024 = ap length p ∙ length-replicate {A = ℕ} 1024 0 in
    record {
      size = omega (arith, length-append part (drop 1024 xs), length-drop 1024 xs);
      count = count;
      none = λ u h.
          let s : 1 + u ≡ suc u = omega arith in
          rw s (get_or-append part (drop 1024 xs) 0 u (omega arith) ∙ rw p (get_or-replicate 1024 u 0 0 h));
    }
