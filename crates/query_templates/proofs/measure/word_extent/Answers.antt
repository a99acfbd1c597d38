use Rattle.std.proofs.Common.{Some}
use Rattle.query_templates.specs.Plain.{plain_template, templates_of}
use Rattle.query_templates.proofs.Admitting.{word_measured}
use Rattle.query_templates.proofs.measure.word_extent.Goals as goal

pub returns-in-Some : goal.returns-in-Some
returns-in-Some c =
    word_measured c.args.text.now (templates_of c.args.templates.now) c.args.word
    (Some (plain_template c.in-Some.template.now)) c.bare_extent.result c.in-Some.ensures
    c.bare_extent.ensures
