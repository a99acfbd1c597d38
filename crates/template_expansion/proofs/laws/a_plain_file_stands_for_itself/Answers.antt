use Rattle.template_expansion.proofs.Whole.{plain_is_kept, plain_stands, plain_written}
use Rattle.template_expansion.proofs.laws.a_plain_file_stands_for_itself.Goals as goal

pub returns-clause-stands : goal.returns-clause-stands
returns-clause-stands c =
    plain_stands c.a_file_without_definitions_is_plain.ensures.plain
    c.a_file_without_definitions_is_plain.ensures.right

pub returns-clause-written : goal.returns-clause-written
returns-clause-written c =
    plain_written c.a_file_without_definitions_is_plain.ensures.plain
    c.a_file_without_definitions_is_plain.ensures.right

pub returns-clause-not_refused : goal.returns-clause-not_refused
returns-clause-not_refused c =
    plain_is_kept c.a_file_without_definitions_is_plain.ensures.plain
    c.a_file_without_definitions_is_plain.ensures.right
