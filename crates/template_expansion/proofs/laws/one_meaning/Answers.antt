use Rattle.template_expansion.proofs.Meanings.{one_stands, one_stop, stands_or_refused}
use Rattle.template_expansion.proofs.laws.one_meaning.Goals as goal

pub returns-clause-terms : goal.returns-clause-terms
returns-clause-terms c = one_stands

pub returns-clause-never_both : goal.returns-clause-never_both
returns-clause-never_both c = stands_or_refused

pub returns-clause-refusal : goal.returns-clause-refusal
returns-clause-refusal c = one_stop
