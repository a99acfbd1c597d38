-- Joined texts can be told apart.
use Rattle.query_model.proofs.KeyTexts.{agree_of_key, key_of_agree}
use Rattle.query_model.proofs.laws.items_have_the_same_key_where_they_agree.Goals as goal

pub returns : goal.returns
returns c = λ chosen item other. (
  agree_of_key chosen item other,
  key_of_agree chosen item other,
)
