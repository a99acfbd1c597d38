use Rattle.std.proofs.Common.{◌≡◌, true, get_or, sym, ◌∙◌, arith}
use Rattle.std.specs.Char.{is_ascii_digit}
use Rattle.std.proofs.lemmas.Grind.{common_steps}
use Rattle.line_reader.proofs.Sizes.{digits_value_after-more}
use Rattle.line_reader.proofs.number.size_after.Goals as goal

pub loop-digit-preserved : goal.loop-digit-preserved
loop-digit-preserved c =
    let digits = c.args.digits.now in
    let i = c.loop-digit.digit-index in
    let digit : is_ascii_digit (get_or digits i 0) ≡ true =
    sym c.is_ascii_digit.ensures.value ∙ c.if-not-is_ascii_digit.false in
    record {
      digits = grind (arith, common_steps);
      kept = λ exact is.
          omega (
            arith,
            c.loop-digit.invariant.kept exact is,
            digits_value_after-more exact digits i c.loop-digit-test.true digit,
            c.saturating_add-after.ensures,
            c.saturating_mul.ensures,
            c.from.ensures,
          );
    }
