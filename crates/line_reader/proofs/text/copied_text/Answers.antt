use Rattle.std.proofs.Common.{ap, sym, ◌∙◌}
use Rattle.std.specs.Option.{option_copied}
use Rattle.line_reader.proofs.FieldTexts.{drop_whole, doubled, open_text, unquoted}
use Rattle.line_reader.proofs.text.copied_text.Goals as goal

pub returns-in_default : goal.returns-in_default
returns-in_default c =
    rw (c.in_ok-extend_from_slice.ensures.items)
    (c.parts.invariant ∙ open_text c.parts.text.items c.parts.rest.now c.cut_at.result.0.now
    (record {
      text_is = c.cut_at.ensures.before;
      after_is = ap option_copied (sym c.in_default.is) ∙ c.cut_at.ensures.after;
    }))

pub returns-then-not-starts_with : goal.returns-then-not-starts_with
returns-then-not-starts_with c =
    rw (
      c.in_ok-extend_from_slice-2.ensures.items,
      c.in_ok-extend_from_slice.ensures.items,
      c.cut_at-then-not-starts_with.ensures.before,
      c.cut_at-then-not-starts_with.ensures.after,
    )
    (c.parts.invariant
    ∙ unquoted c.parts.text.items c.parts.rest.now c.cut_at.result.0.now c.in-Some.after.now
    (record {
      text_is = c.cut_at.ensures.before;
      after_is = ap option_copied (sym c.in-Some.is) ∙ c.cut_at.ensures.after;
    })
    (sym c.starts_with.ensures.value ∙ c.if-not-starts_with.true))

pub parts-preserved : goal.parts-preserved
parts-preserved c =
    rw (
      drop_whole c.in-Some.after.now 1,
      c.in_ok-push.ensures.items,
      c.in_ok-extend_from_slice.ensures.items,
    )
    (c.parts.invariant
    ∙ doubled c.parts.text.items c.parts.rest.now c.cut_at.result.0.now c.in-Some.after.now
    (record {
      text_is = c.cut_at.ensures.before;
      after_is = ap option_copied (sym c.in-Some.is) ∙ c.cut_at.ensures.after;
    })
    (sym c.starts_with.ensures.value ∙ c.if-not-starts_with.false))
