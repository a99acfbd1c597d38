use Rattle.std.proofs.Common.{[], sym, ap, ◌∙◌}
use Rattle.query_syntax.specs.Plain.{plain_program}
use Rattle.query_lets.specs.Words.{column_words, first_wrong}
use Rattle.query_lets.proofs.FirstWrong.{columns_wrong, lets_wrong}
use Rattle.query_lets.proofs.names.wrong_name.Goals as goal

pub returns-in-Some : goal.returns-in-Some
returns-in-Some c =
    columns_wrong (plain_program c.args.program.now) c.in-Some.span
    (sym c.in-Some.is ∙ c.in_ok-span.ensures
    ∙ ap (λ l. first_wrong (column_words [] l)) c.deref.ensures.value)

pub returns-in-None : goal.returns-in-None
returns-in-None c =
    lets_wrong (plain_program c.args.program.now)
    (sym (sym c.in-None.is ∙ c.in_ok-span.ensures
    ∙ ap (λ l. first_wrong (column_words [] l)) c.deref.ensures.value))
    c.wrong_in_lets.result
    (rw (c.deref-in-None.ensures.value, c.deref-in-None-2.ensures) at c.wrong_in_lets.ensures)
