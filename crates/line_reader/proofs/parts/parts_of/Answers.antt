use Rattle.std.proofs.Common.{◌+◌, length, ap, sym, ◌∙◌}
use Rattle.std.proofs.lemmas.List.Splits.{length-slice_split}
use Rattle.line_reader.specs.CutLines.{is_comma}
use Rattle.line_reader.proofs.PlainLines.{no_break, plain_texts_in}
use Rattle.line_reader.proofs.parts.parts_of.Goals as goal

pub returns-in-Some : goal.returns-in-Some
returns-in-Some c =
    let line = c.args.line.now in
    let texts = plain_texts_in line c.in-Some.ensures.0 in (
      no_break line c.in-Some.ensures.0,
      (
        texts,
        ap (λ commas. commas + 1) c.in-Some.ensures.1
            ∙ sym (ap length texts ∙ length-slice_split is_comma line),
      ),
    )
