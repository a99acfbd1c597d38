use Rattle.std.proofs.Common.{◌≡◌, [], ap, sym, ◌∙◌, length, arith}
use Rattle.std.specs.Option.{option_copied}
use Rattle.std.proofs.lemmas.Bool.Decides.{nat_tests}
use Rattle.line_reader.proofs.FieldTexts.{drop_whole, closed_last, closed_text, open_text}
use Rattle.line_reader.proofs.text.quoted_text.Goals as goal

pub returns-in_default : goal.returns-in_default
returns-in_default c =
    open_text [] c.args.bytes.now c.cut_at.result.0.now
    (record {
      text_is = c.cut_at.ensures.before;
      after_is = ap option_copied (sym c.in_default.is) ∙ c.cut_at.ensures.after;
    })

pub returns-then-is_empty : goal.returns-then-is_empty
returns-then-is_empty c =
    let tested = sym c.is_empty.ensures ∙ c.if-is_empty.true in
    let none : length c.in-Some.after.now ≡ 0 = grind (arith, nat_tests, tested) in
    closed_last c.args.bytes.now c.cut_at.result.0.now c.in-Some.after.now
    (record {
      text_is = c.cut_at.ensures.before;
      after_is = ap option_copied (sym c.in-Some.is) ∙ c.cut_at.ensures.after;
    })
    none

pub returns-then-starts_with : goal.returns-then-starts_with
returns-then-starts_with c =
    rw (drop_whole c.in-Some.after.now 1)
    (closed_text c.args.bytes.now c.cut_at.result.0.now c.in-Some.after.now
    (record {
      text_is = c.cut_at.ensures.before;
      after_is = ap option_copied (sym c.in-Some.is) ∙ c.cut_at.ensures.after;
    })
    (sym c.starts_with.ensures.value ∙ c.if-starts_with.true))
