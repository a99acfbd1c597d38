use Rattle.std.proofs.Common.{ℕ, ◌+◌, ◌-◌, ◌≤◌, length, drop}
use Rattle.query_tokens.specs.StringParts.{Closes}
use Rattle.query_tokens.proofs.part.closing_len.Given as goal

-- the text closes exactly where the rest of it does
abbrev pub invariant-parts : goal.invariant-parts
invariant-parts l = record {
  within : l.len ≤ length l.text;
  more : (len : ℕ) → Closes (drop l.len l.text) len → Closes l.text (l.len + len);
  less : (len : ℕ) → Closes l.text len → (rest : ℕ) × Closes (drop l.len l.text) rest;
}

abbrev pub decreases-parts : goal.decreases-parts
decreases-parts l = length l.text - l.len
