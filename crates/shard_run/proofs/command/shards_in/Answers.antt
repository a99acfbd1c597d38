use Rattle.std.proofs.Common.{◌≡◌, true, List, ℕ, sym, ◌∙◌, ap}
use Rattle.std.specs.Char.{is_ascii_digit}
use Rattle.std.specs.List.{list_all}
use Rattle.shard_run.proofs.Words.{shards_unread}
use Rattle.shard_run.proofs.command.shards_in.Goals as goal

pub returns-in_default-3-clause-number : goal.returns-in_default-3-clause-number
returns-in_default-3-clause-number c =
    let digits : list_all is_ascii_digit c.args.word.now ≡ true =
    ap (λ (bytes : List ℕ). list_all is_ascii_digit bytes) (sym c.as_bytes.ensures.value)
    ∙ sym c.are_digits.ensures ∙ c.if-not-are_digits.false
    in
    shards_unread c.args.word.now c.parse.result c.in_default.field-0 digits
    c.parse.ensures.value.0 c.in_default.is
