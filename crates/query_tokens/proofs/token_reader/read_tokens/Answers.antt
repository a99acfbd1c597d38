use Rattle.std.proofs.Common.{◌≡◌, [], ◌∷◌, ◌++◌, arith}
use Rattle.std.proofs.lemmas.List.{append-nil, length-drop}
use Rattle.std.proofs.lemmas.Grind.{common_steps}
use Rattle.query_tokens.proofs.Steps.{tokens_more, fault_more}
use Rattle.query_tokens.proofs.token_reader.read_tokens.Goals as goal

pub returns-in-End-clause-tokens : goal.returns-in-End-clause-tokens
returns-in-End-clause-tokens c =
    let to_end = rw c.in-End.is at c.next_token.ensures in
    rw append-nil at (c.tokens.invariant.tokens [] to_end)

pub returns-in-Fault-clause-stopped : goal.returns-in-Fault-clause-stopped
returns-in-Fault-clause-stopped c =
    let fails = rw c.in-Fault.is at c.next_token.ensures in
    (c.tokens.tokens.items ++ [], c.tokens.invariant.fault [] c.in-Fault.place fails)

pub tokens-preserved : goal.tokens-preserved
tokens-preserved c =
    let at = rw c.in-Token.is at c.next_token.ensures in
    let pushed : c.push.new.self.items ≡ c.tokens.tokens.items ++ c.in-Token.token ∷ [] =
    grind (arith, common_steps) in
    record {
      within = omega (
        arith,
        at.within,
        c.tokens.invariant.within,
        length-drop c.tokens.place c.args.text.now,
      );
      tokens = rw pushed (tokens_more c.args.text.now c.tokens.place c.tokens.tokens.items
          c.in-Token.token at c.tokens.invariant.tokens);
      fault = rw pushed (fault_more c.args.text.now c.tokens.place c.tokens.tokens.items
          c.in-Token.token at c.tokens.invariant.fault);
    }
