use Rattle.answer_units.proofs.FewDigits.{answers_none}
use Rattle.answer_units.proofs.laws.only_columns_give_answers_digits.Goals as goal

pub returns : goal.returns
returns c columns query digits whole = answers_none columns query whole digits
