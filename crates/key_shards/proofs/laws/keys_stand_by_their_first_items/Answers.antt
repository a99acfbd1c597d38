-- By induction on the word.
use Rattle.key_shards.proofs.FirstStands.{keys_found, keys_stand}
use Rattle.key_shards.proofs.laws.keys_stand_by_their_first_items.Goals as goal

pub returns-clause-order : goal.returns-clause-order
returns-clause-order c = keys_stand

pub returns-clause-all : goal.returns-clause-all
returns-clause-all c = keys_found
