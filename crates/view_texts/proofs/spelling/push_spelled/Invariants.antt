use Rattle.std.proofs.Common.{◌≡◌, ◌++◌, drop}
use Rattle.view_texts.specs.Spelled.{spelled, spelled_on}
use Rattle.view_texts.proofs.spelling.push_spelled.Given as goal

-- what is written so far and what is still to come are all
abbrev pub invariant-bytes : goal.invariant-bytes
invariant-bytes l =
    l.text.items ++ spelled_on l.fn.spelling l.left (drop l.place l.bytes)
    ≡ l.initial.text.items ++ spelled l.fn.spelling l.bytes
