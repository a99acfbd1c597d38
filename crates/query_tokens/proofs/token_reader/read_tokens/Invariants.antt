use Rattle.std.proofs.Common.{ℕ, ◌-◌, ◌≤◌, List, ◌++◌, length, drop}
use Rattle.query_tokens.specs.declared.token.Token.{Token}
use Rattle.query_tokens.specs.Tokens.{AreTokens, FaultAfter}
use Rattle.query_tokens.proofs.token_reader.read_tokens.Given as goal

-- whatever tokens follow here, the text has those before and these; and so for a fault
abbrev pub invariant-tokens : goal.invariant-tokens
invariant-tokens l = record {
  within : l.place ≤ length l.text;
  tokens : (others : List Token) → AreTokens l.place (drop l.place l.text) others
      → AreTokens 0 l.text (l.tokens.items ++ others);
  fault : (others : List Token) (fault : ℕ) → FaultAfter l.place (drop l.place l.text) others fault
      → FaultAfter 0 l.text (l.tokens.items ++ others) fault;
}

abbrev pub decreases-tokens : goal.decreases-tokens
decreases-tokens l = length l.text - l.place
