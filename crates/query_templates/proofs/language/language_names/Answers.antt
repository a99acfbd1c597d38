use Rattle.std.proofs.Common.{refl}
use Rattle.query_templates.specs.Names.{language_names}
use Rattle.query_templates.proofs.language.language_names.Goals as goal

pub returns : goal.returns
unfolding language_names
returns c = refl
