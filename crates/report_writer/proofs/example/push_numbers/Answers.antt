use Rattle.std.proofs.Common.{append_assoc, arith, codes, drop, get_or, length, ◌-◌, refl, take}
use Rattle.std.proofs.Common.{◌∙◌}
use Rattle.std.specs.Prelude.{decimal}
use Rattle.std.proofs.lemmas.List.{length-drop, take_all}
use Rattle.report_writer.proofs.Joined.{all_joined, first_same}
use Rattle.report_writer.proofs.example.push_numbers.Goals as goal

pub returns : goal.returns
returns c =
    let numbers = c.args.numbers.now in
    let some = c.in-len1-up.len_at_least in
    let all = all_joined decimal (codes " ") numbers (get_or numbers 0 0)
    (take (length numbers - 1) (drop 1 numbers)) c.others.number-index some
    (first_same numbers 0 some) (take_all _ _ (omega (arith, length-drop 1 numbers)))
    c.others-test.false in
    c.others.invariant ∙ (rw (c.in_ok-push_number.ensures.ok, append_assoc, all) refl)
