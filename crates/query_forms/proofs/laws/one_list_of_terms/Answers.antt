use Rattle.query_forms.proofs.Says.{one_terms, some_terms}
use Rattle.query_forms.proofs.laws.one_list_of_terms.Goals as goal

pub returns-clause-some : goal.returns-clause-some
returns-clause-some c = some_terms

pub returns-clause-only : goal.returns-clause-only
returns-clause-only c = one_terms
