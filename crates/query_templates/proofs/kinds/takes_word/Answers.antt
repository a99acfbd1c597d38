use Rattle.std.proofs.Common.{Some, None, ◌∙◌}
use Rattle.query_templates.proofs.Taking.{word_taken}
use Rattle.query_templates.proofs.kinds.takes_word.Goals as goal

pub returns-in-Some : goal.returns-in-Some
returns-in-Some c = c.fits_word.ensures
    ∙ word_taken c.args.text.now c.args.at c.args.word (Some c.in-Some.bytes) c.in-Some.ensures

pub returns-in-None : goal.returns-in-None
returns-in-None c =
    word_taken c.args.text.now c.args.at c.args.word None c.in-None.ensures
