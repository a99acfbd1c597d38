use Rattle.std.proofs.Common.{ap, ◌∙◌}
use Rattle.std.specs.List.{list_any}
use Rattle.query_templates.specs.Names.{is_language_name, is_named}
use Rattle.query_templates.proofs.language.is_language_name.Goals as goal

pub returns : goal.returns
unfolding is_language_name
returns c = c.is_one_of.ensures
    ∙ ap (list_any (is_named c.args.text.now c.args.place)) c.language_names.ensures
