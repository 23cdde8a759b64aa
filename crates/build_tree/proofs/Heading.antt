-- A header written before what was written after it. Assumes nothing.
use mathlib.Core.Path.{◌≡◌, refl, sym, ap, ◌∙◌}
use mathlib.Core.List.{List, ◌++◌, append_assoc}
use Prim.Native.Nat.{ℕ, ◌+◌, ◌≤◌}
use native.Mathlib.Omega.{arith}
use lib.ListN.{length, take, drop, length-append}
use lib.Seq.{length-take-le, take_at, drop_at}
use Rattle.book.specs.Writing.{write}
use Rattle.book.proofs.Writing.{write-length, write-is}

-- what was written from place n on, and then n bytes before it

pub write_before : (hs xs tree : List ℕ) (n : ℕ) → length hs ≡ n → n + length xs ≤ length tree
    → write (write tree n xs) 0 hs ≡ write tree 0 (hs ++ xs)
write_before hs xs tree n h fits =
    let rest = drop (n + length xs) tree in
    let inner : write tree n xs ≡ take n tree ++ (xs ++ rest) = write-is xs tree n fits ∙ append_assoc (take n tree) xs (drop (n + length xs) tree) in
    let room : 0 + length hs ≤ length (write tree n xs) = omega (arith, write-length xs tree n) in
    let outer : write (write tree n xs) 0 hs ≡ hs ++ drop (0 + length hs) (write tree n xs) = write-is hs (write tree n xs) 0 room in
    let zero_plus : 0 + length hs ≡ n = omega arith in
    let front : length (take n tree) ≡ n = length-take-le n tree (omega arith) in
    let dropped : drop n (write tree n xs) ≡ xs ++ rest = ap (drop n) inner ∙ drop_at (take n tree) (xs ++ rest) n front in
    let total : 0 + length (hs ++ xs) ≡ n + length xs = omega (arith, length-append hs xs) in
    let all : write tree 0 (hs ++ xs) ≡ (hs ++ xs) ++ drop (0 + length (hs ++ xs)) tree = write-is (hs ++ xs) tree 0 (omega (arith, total)) in
    outer
    ∙ ap (λ (k : ℕ). hs ++ drop k (write tree n xs)) zero_plus
    ∙ ap (λ (l : List ℕ). hs ++ l) dropped
    ∙ sym (append_assoc hs xs rest)
    ∙ ap (λ (k : ℕ). (hs ++ xs) ++ drop k tree) (sym total)
    ∙ sym all

-- what stands after a writing at the start, its front and the rest
pub written-whole : (w tree : List ℕ) → length w ≤ length tree → write tree 0 w ≡ w ++ drop (length w) tree
written-whole w tree h =
    let e : write tree 0 w ≡ w ++ drop (0 + length w) tree = write-is w tree 0 (omega arith) in
    let z : 0 + length w ≡ length w = omega arith in
    e ∙ ap (λ (k : ℕ). w ++ drop k tree) z

pub written-front : (w tree : List ℕ) → length w ≤ length tree → take (length w) (write tree 0 w) ≡ w
written-front w tree h = ap (take (length w)) (written-whole w tree h) ∙ take_at w (drop (length w) tree) (length w) refl

pub written-rest : (w tree : List ℕ) → length w ≤ length tree → drop (length w) (write tree 0 w) ≡ drop (length w) tree
written-rest w tree h = ap (drop (length w)) (written-whole w tree h) ∙ drop_at w (drop (length w) tree) (length w) refl
