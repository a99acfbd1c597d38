use Rattle.std.proofs.Common.{◌≡◌, true, List, ℕ, sym, ◌∙◌, ap, arith}
use Rattle.std.specs.Char.{is_ascii_digit}
use Rattle.std.specs.List.{list_all}
use Rattle.sqre_run.proofs.Words.{number_none, number_read}
use Rattle.sqre_run.proofs.command.number_in.Goals as goal

pub returns-in-Ok-clause-number : goal.returns-in-Ok-clause-number
returns-in-Ok-clause-number c =
    let digits : list_all is_ascii_digit c.args.word.now ≡ true =
    ap (λ (bytes : List ℕ). list_all is_ascii_digit bytes) (sym c.as_bytes.ensures.value)
    ∙ sym c.are_digits.ensures ∙ c.if-not-are_digits.false
    in
    number_read c.args.digits c.args.greatest c.in-Ok.number c.args.word.now c.parse.result
    (omega arith) digits c.parse.ensures.value.0 c.in-Ok.is c.if-number-greatest.true

pub returns-in_default-2-clause-number : goal.returns-in_default-2-clause-number
returns-in_default-2-clause-number c =
    let digits : list_all is_ascii_digit c.args.word.now ≡ true =
    ap (λ (bytes : List ℕ). list_all is_ascii_digit bytes) (sym c.as_bytes.ensures.value)
    ∙ sym c.are_digits.ensures ∙ c.if-not-are_digits.false
    in
    number_none c.args.digits c.args.greatest c.args.word.now c.parse.result c.in_default.field-0
    (omega arith) digits c.parse.ensures.value.0 c.in_default.is
