use Rattle.query_parser.proofs.Existence.{read_or_refused}
use Rattle.query_parser.proofs.OneReading.{one_file, file_or_refused, one_refusal}
use Rattle.query_parser.proofs.laws.one_reading.Goals as goal

pub returns-clause-some : goal.returns-clause-some
returns-clause-some c = read_or_refused

pub returns-clause-file : goal.returns-clause-file
returns-clause-file c = one_file

pub returns-clause-never_both : goal.returns-clause-never_both
returns-clause-never_both c = file_or_refused

pub returns-clause-refusal : goal.returns-clause-refusal
returns-clause-refusal c = one_refusal
