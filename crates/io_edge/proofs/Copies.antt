-- Bytes that are copied out of a list.
use Rattle.std.proofs.Common.{◌≡◌, ℕ, ◌+◌, ◌-◌, List, ◌++◌, length, take, drop, sym, ◌∙◌, subst}
use Rattle.std.proofs.Common.{arith}
use Rattle.std.proofs.lemmas.List.{take-append-drop, drop-drop}
use Rattle.std.proofs.Math.Seq.{take-append_seam}

-- a piece that was copied to the front of a buffer, and the bytes after it in the list
pub copied_front : (items piece after : List ℕ) (at n : ℕ)
    → piece ≡ take (at + n - at) (drop at items) → length piece ≡ n
    → drop at items ≡ take n (piece ++ after) ++ drop (at + n) items
copied_front items piece after at n copied size =
    let count : at + n - at ≡ n = omega arith in
    let front : take n (piece ++ after) ≡ take n (drop at items) =
    subst (λ k. take k (piece ++ after) ≡ piece) size (take-append_seam piece after)
    ∙ (rw count at copied) in
    rw (front, ← drop-drop n at items) (sym (take-append-drop n (drop at items)))
