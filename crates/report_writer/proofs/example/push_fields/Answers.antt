use Rattle.std.proofs.Common.{append_assoc, arith, codes, drop, length, ◌-◌, refl, take, ◌∙◌}
use Rattle.std.proofs.lemmas.List.{length-drop, take_all}
use Rattle.report_writer.specs.Examples.{field_text}
use Rattle.report_writer.proofs.Joined.{all_joined}
use Rattle.report_writer.proofs.example.push_fields.Goals as goal

pub returns : goal.returns
returns c =
    let fields = c.args.fields.now in
    let all = all_joined field_text (codes ",") fields c.first-item.result
    (take (length fields - 1) (drop 1 fields)) c.others.field-index c.in-len1-up.len_at_least
    c.first-item.is (take_all _ _ (omega (arith, length-drop 1 fields))) c.others-test.false in
    c.others.invariant ∙ (rw (c.in_ok-push_field.ensures, append_assoc, all) refl)
