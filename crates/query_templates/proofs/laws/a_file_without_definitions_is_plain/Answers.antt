use Rattle.query_templates.proofs.Files.{plain_law, refusal_law}
use Rattle.query_templates.proofs.laws.a_file_without_definitions_is_plain.Goals as goal

pub returns-clause-plain : goal.returns-clause-plain
returns-clause-plain c = plain_law

pub returns-clause-right : goal.returns-clause-right
returns-clause-right c = refusal_law
