use Rattle.std.proofs.Common.{◌≡◌, true, List, ℕ, sym, ◌∙◌, ap, arith}
use Rattle.std.specs.Char.{is_ascii_digit}
use Rattle.std.specs.List.{list_all}
use Rattle.expand_run.proofs.Words.{place_read}
use Rattle.expand_run.proofs.command.place_in.Goals as goal

pub returns : goal.returns
returns c =
    let digits : list_all is_ascii_digit c.args.word.now ≡ true =
    ap (λ (bytes : List ℕ). list_all is_ascii_digit bytes) (sym c.as_bytes.ensures.value)
    ∙ sym c.are_digits.ensures ∙ c.if-not-are_digits.false
    in
    c.ok.ensures.value
    ∙ place_read c.args.word.now c.parse.result (omega arith) digits c.parse.ensures.value.0
