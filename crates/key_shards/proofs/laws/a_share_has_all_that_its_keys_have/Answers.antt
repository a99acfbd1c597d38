-- By induction on the word.
use Rattle.key_shards.proofs.Shared.{keys_stay, projection_stays}
use Rattle.key_shards.proofs.laws.a_share_has_all_that_its_keys_have.Goals as goal

pub returns-clause-items : goal.returns-clause-items
returns-clause-items c = projection_stays

pub returns-clause-keys : goal.returns-clause-keys
returns-clause-keys c = keys_stay
