use Rattle.query_trees.proofs.Laws.{only-terms, terms-or-place, one-place}
use Rattle.query_trees.proofs.NoList.{list_or_none}
use Rattle.query_trees.proofs.law.one_list_of_terms.Goals as goal

pub returns-clause-some : goal.returns-clause-some
returns-clause-some c = list_or_none

pub returns-clause-one : goal.returns-clause-one
returns-clause-one c = only-terms

pub returns-clause-never : goal.returns-clause-never
returns-clause-never c = terms-or-place

pub returns-clause-place : goal.returns-clause-place
returns-clause-place c = one-place
