use Rattle.std.proofs.Common.{◌≡◌, ◌+◌, ◌≤◌, length, take}
use Rattle.std.specs.List.{suffix_len}
use Rattle.std.specs.Prelude.{not}
use Rattle.place_in_text.specs.Places.{is_lf}
use Rattle.place_in_text.proofs.line.last_line_start.Given as goal

-- what stands after the start so far holds no LF
abbrev pub invariant-bytes : goal.invariant-bytes
invariant-bytes l =
    (l.start ≤ length l.text)
    × (l.start + suffix_len (λ byte. not (is_lf byte)) l.text
    ≡ length l.text + suffix_len (λ byte. not (is_lf byte)) (take l.start l.text))

abbrev pub decreases-bytes : goal.decreases-bytes
decreases-bytes l = l.start
