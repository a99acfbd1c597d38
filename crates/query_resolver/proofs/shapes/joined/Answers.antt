use Rattle.query_resolver.proofs.shapes.joined.Goals as goal

pub returns-in-Choice-clause-made : goal.returns-in-Choice-clause-made
returns-in-Choice-clause-made c = rw c.in-Choice.is c.choice.ensures.made

pub returns-in-Split-clause-made : goal.returns-in-Split-clause-made
returns-in-Split-clause-made c = rw c.in-Split.is c.split.ensures.made

pub returns-in-Combine-clause-made : goal.returns-in-Combine-clause-made
returns-in-Combine-clause-made c = rw c.in-Combine.is c.combine.ensures.made
