use Rattle.query_tokens.proofs.OneWay.{no_fault}
use Rattle.query_tokens.proofs.Existence.{tokens_or_fault}
use Rattle.query_tokens.proofs.laws.tokens_or_fault.Goals as goal

pub returns-clause-some : goal.returns-clause-some
returns-clause-some c = tokens_or_fault

pub returns-clause-never_both : goal.returns-clause-never_both
returns-clause-never_both c = no_fault
