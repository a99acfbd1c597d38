use Rattle.std.proofs.Common.{◌≡◌, ◌+◌, false, drop}
use Rattle.query_tokens.proofs.Blanks.{blank_from}
use Rattle.query_tokens.proofs.blank.blank_len.Given as goal

-- what is left, and the blank that continues from here
abbrev pub invariant-bytes : goal.invariant-bytes
invariant-bytes l = l.at + blank_from l.in_comment (drop l.at l.text) ≡ blank_from false l.text
