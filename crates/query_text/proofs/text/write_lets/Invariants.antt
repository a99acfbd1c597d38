use Rattle.std.proofs.Common.{◌≡◌, ◌++◌, take}
use Rattle.query_text.specs.StreamTexts.{lets_text}
use Rattle.query_text.proofs.text.write_lets.Given as goal

-- the lets so far are written
abbrev pub invariant-lets : goal.invariant-lets
invariant-lets l = l.text.items ≡ l.initial.text.items ++ lets_text 0 (take l.place l.lets)
