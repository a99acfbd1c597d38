-- A part of a list, as a chunk holds it.
use Rattle.std.proofs.Common.{◌≡◌, ◌<◌, ◌≤◌, ℕ, ◌+◌, ◌-◌, List, take, drop, length, sym, ap, ◌∙◌}
use Rattle.std.proofs.Common.{arith, length-take}
use Rattle.std.proofs.lemmas.List.{drop-take, drop-drop, take-take}
use Rattle.std.specs.Io.BufRead.{strip_last}
use Rattle.io_edge.specs.Chunked.{Chunked}

-- a part without its first elements begins after them
pub part-skip : (xs : List ℕ) (from to count : ℕ) → from ≤ to
    → count ≤ length (take (to - from) (drop from xs))
    → take (to - (from + count)) (drop (from + count) xs)
    ≡ drop count (take (to - from) (drop from xs))
part-skip xs from to count ordered within =
    let after : to - from ≡ count + (to - (from + count)) =
    omega (arith, length-take (to - from) (drop from xs)) in
    rw (after, drop-take, drop-drop)

-- a line cut off at the front of a part
pub part-cut : (xs : List ℕ) (from to at count : ℕ) → from ≤ to
    → at < length (take (to - from) (drop from xs))
    → count ≤ length (take (from + at - from) (drop from xs))
    → take count (take (from + at - from) (drop from xs))
    ≡ strip_last 13 (take (from + at - from) (drop from xs))
    → take (from + count - from) (drop from xs)
    ≡ strip_last 13 (take at (take (to - from) (drop from xs)))
part-cut xs from to at count ordered within few shown =
    let at_is : from + at - from ≡ at = omega arith in
    let count_is : from + count - from ≡ count = omega arith in
    let fits : at ≤ to - from = omega (arith, within, length-take (to - from) (drop from xs)) in
    let few_is : count ≤ at = omega (arith, few, length-take (from + at - from) (drop from xs)) in
    let line : take (from + at - from) (drop from xs) ≡ take at (take (to - from) (drop from xs)) =
    ap (λ n. take n (drop from xs)) at_is ∙ sym (take-take at (to - from) (drop from xs) fits)
    in
    ap (λ n. take n (drop from xs)) count_is
    ∙ sym (take-take count (from + at - from) (drop from xs) (omega (arith, few_is)))
    ∙ shown
    ∙ ap (strip_last 13) line

-- a chunk is its parts
pub Chunked-same : (a b : Chunked) → a.line ≡ b.line → a.unread ≡ b.unread → a ≡ b
Chunked-same a b line unread = λ k. record { line = line k; unread = unread k }
