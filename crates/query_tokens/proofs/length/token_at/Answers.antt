use Rattle.std.proofs.Common.{sym, ◌∙◌}
use Rattle.query_tokens.proofs.Lengths.{first_is_longest}
use Rattle.query_tokens.proofs.length.token_at.Goals as goal

pub returns : goal.returns
returns c =
    let kind = sym c.kind_at.ensures ∙ c.in_ok-kind.was in
    let begins = rw c.in_ok-len.was at c.len_of.ensures in
    (begins.within, first_is_longest c.args.text.now c.in_ok-kind.kind c.in_ok-len.len kind begins)
