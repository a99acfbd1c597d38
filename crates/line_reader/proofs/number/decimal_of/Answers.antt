use Rattle.std.proofs.Common.{◌≡◌, ◌^◌, ◌-◌, min, length, if◌then◌else◌, Some, None, refl, sym, ap}
use Rattle.std.proofs.Common.{◌∙◌}
use Rattle.std.specs.List.{after_first, before_first, list_any}
use Rattle.std.specs.Option.{option_copied}
use Rattle.std.specs.Str.Parse.{digits_value, digits_value_after}
use Rattle.line_reader.specs.Reading.{is_point, whole_of}
use Rattle.line_reader.proofs.Numerals.{decimal_parts}
use Rattle.line_reader.proofs.number.decimal_of.Goals as goal

pub returns : goal.returns
returns c =
    let text = c.args.text.now in
    let whole = c.cut_at.result.0.now in
    let fraction = c.in-Some.fraction.now in
    let before : whole ≡ whole_of text =
    c.cut_at.ensures.before ∙ ap (before_first is_point) c.without_sign.ensures in
    let after = ap option_copied (sym c.in-Some.is)
    ∙ c.cut_at.ensures.after
    ∙ ap (λ bytes. if list_any is_point bytes then Some (after_first is_point bytes) else None)
    c.without_sign.ensures in
    let parts = decimal_parts text whole fraction before after c.in_ok-size.ensures.0
    c.in_ok-size_after.ensures.0 in
    let first = c.in_ok-size.ensures.1 0 refl in
    let second = c.in_ok-size_after.ensures.1 (digits_value 10 whole) first in (
      parts.0,
      record {
        size = second
            ∙ ap (λ digits. min (digits_value_after 10 (digits_value 10 digits) fraction)
            (2 ^ 64 - 1)) before
            ∙ ap (λ digits. min (digits_value_after 10 (digits_value 10 (whole_of text)) digits)
            (2 ^ 64 - 1)) parts.1;
        places = ap length parts.1;
      },
    )
