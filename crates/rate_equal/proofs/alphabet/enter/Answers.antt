use Rattle.std.proofs.Common.{arith, get_or}
use Rattle.rate_equal.proofs.Lettering.{letter_at, no_letter, rows_next}
use Rattle.rate_equal.proofs.alphabet.enter.Goals as goal

pub letters-preserved : goal.letters-preserved
letters-preserved c =
    let letter = get_or c.args.letters.now c.letters.place no_letter in
    let found = letter_at c.args.letters.now c.letters.place (omega arith) in record {
      in_first = rows_next (λ l. l.first) _ _ _ _ letter c.letters.invariant.in_first found
          c.hold.ensures.kept c.hold.ensures.held c.hold.ensures.only;
      in_second = rows_next (λ l. l.second) _ _ _ _ letter c.letters.invariant.in_second found
          c.hold-in-letters.ensures.kept c.hold-in-letters.ensures.held
          c.hold-in-letters.ensures.only;
    }
