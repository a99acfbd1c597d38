-- No line of an input has an LF.
use Rattle.std.proofs.Common.{◌≡◌, ◌⊎◌, inl, inr, ℕ, suc, zero, ◌-◌, ◌≢◌, ◌&&◌, not}
use Rattle.std.proofs.Common.{Bool, true, false, cond, nat_lt, List, [], ◌∷◌, ◌++◌, take}
use Rattle.std.proofs.Common.{length, map, refl, sym, ap, eqb, subst}
use Rattle.std.specs.Io.BufRead.{ends_with_byte, strip_last}
use Rattle.std.specs.List.{AllByRecursion, list_all}
use Rattle.std.proofs.lemmas.Bool.{and_from, and_parts}
use Rattle.std.proofs.lemmas.Bool.Decides.{eqb_tells}
use Rattle.std.proofs.lemmas.List.Elements.{All-head, All-tail}
use Rattle.io_edge.specs.Limits.{max_line}
use Rattle.io_edge.specs.Lines.{NoLf, Shown, ended_by_end, ended_by_lf, last_line, lines}
use Rattle.io_edge.specs.Lines.{long, text}
use Rattle.io_edge.proofs.OneList.{lines-are}
use Rattle.beside_lines.specs.Besides.{as_read}
use Rattle.beside_lines.proofs.Rows.{AreInside, is_inside}

-- a line that is shown has no LF
abbrev pub HasNoEnd : Shown → Type 0
HasNoEnd line = AreInside (as_read line)

-- the raw bytes of a line have no LF
inside_of : (byte : ℕ) → byte ≢ 10 → is_inside byte ≡ true
inside_of byte other = at (eqb_tells byte 10)
  where
    at : ((eqb byte 10 ≡ true) × (byte ≡ 10)) ⊎ ((eqb byte 10 ≡ false) × (byte ≢ 10))
        → is_inside byte ≡ true
    at (inl is) = absurd (other is.1)
    at (inr is) = ap not is.0

inside_raw : (raw : List ℕ) → NoLf raw → AreInside raw
inside_raw [] none = refl
inside_raw (byte ∷ raw) none =
    and_from (is_inside byte) (list_all is_inside raw)
    (inside_of byte (All-head (λ x. x ≢ 10) byte raw none))
    (inside_raw raw (All-tail (λ x. x ≢ 10) byte raw none))

-- nor has its front
inside_front : (count : ℕ) (raw : List ℕ) → AreInside raw → AreInside (take count raw)
inside_front zero raw are = refl
inside_front (suc count) [] are = refl
inside_front (suc count) (byte ∷ raw) are =
    let parts = and_parts (is_inside byte) (list_all is_inside raw) are in
    and_from (is_inside byte) (list_all is_inside (take count raw)) parts.0
    (inside_front count raw parts.1)

inside_stripped : (raw : List ℕ) → AreInside raw → AreInside (strip_last 13 raw)
inside_stripped raw are = at (ends_with_byte 13 raw)
  where
    at : (b : Bool) → AreInside (cond b (take (length raw - 1) raw) raw)
    at true = inside_front (length raw - 1) raw are
    at false = are

by_lf : (raw : List ℕ) → AreInside raw → HasNoEnd (ended_by_lf raw)
by_lf raw are = at (nat_lt max_line (length raw))
  where
    at : (b : Bool) → HasNoEnd (cond b long (text (strip_last 13 raw)))
    at true = refl
    at false = inside_stripped raw are

by_end : (raw : List ℕ) → AreInside raw → HasNoEnd (ended_by_end raw)
by_end raw are = at (nat_lt max_line (length raw))
  where
    at : (b : Bool) → HasNoEnd (cond b long (text raw))
    at true = refl
    at false = are

last_no_end : (rest : List ℕ) (ended : Bool) → AreInside rest
    → AllByRecursion HasNoEnd (last_line rest ended)
last_no_end rest ended are = at (ended && nat_lt 0 (length rest))
  where
    at : (b : Bool) → AllByRecursion HasNoEnd (cond b (ended_by_end rest ∷ []) [])
    at true = (by_end rest are, tt)
    at false = tt

no_ends : (raws : List (List ℕ)) (rest : List ℕ) (ended : Bool) → AllByRecursion NoLf raws
    → NoLf rest → AllByRecursion HasNoEnd (map ended_by_lf raws ++ last_line rest ended)
no_ends [] rest ended each last = last_no_end rest ended (inside_raw rest last)
no_ends (raw ∷ raws) rest ended each last =
    (by_lf raw (inside_raw raw each.0), no_ends raws rest ended each.1 last)

-- no line of an input has an LF
pub lines_no_end : (bytes : List ℕ) (ended : Bool) → AllByRecursion HasNoEnd (lines bytes ended)
lines_no_end bytes ended =
    let are = lines-are bytes ended in
    subst (AllByRecursion HasNoEnd) (sym are.are)
    (no_ends are.raws are.rest ended are.each are.last)
