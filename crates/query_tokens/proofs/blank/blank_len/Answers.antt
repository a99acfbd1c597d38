use Rattle.std.proofs.Common.{◌≡◌, false, length, subst, arith}
use Rattle.std.proofs.lemmas.List.{at_drop_more, at_drop_all}
use Rattle.std.proofs.lemmas.Grind.{common_steps}
use Rattle.query_tokens.specs.Front.{IsBlankLength}
use Rattle.query_tokens.proofs.Blanks.{blank_from, counts}
use Rattle.query_tokens.proofs.blank.blank_len.Goals as goal

-- a byte that is no blank ends it
pub returns-then-not-is_space : goal.returns-then-not-is_space
returns-then-not-is_space c =
    let text = c.args.text.now in
    let here = at_drop_more (blank_from c.bytes.in_comment) text c.bytes.at 0 (omega arith) in
    let len : blank_from false text ≡ c.bytes.at = grind (arith, common_steps) in
    subst (λ n. IsBlankLength text n) len (counts false text)

-- the blank goes to the end
pub returns : goal.returns
returns c =
    let text = c.args.text.now in
    let here = at_drop_all (blank_from c.bytes.in_comment) text c.bytes.at (omega arith) in
    let len : blank_from false text ≡ length text = omega arith in
    subst (λ n. IsBlankLength text n) len (counts false text)
