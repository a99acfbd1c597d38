-- Joined texts can be told apart.
use Rattle.std.proofs.Common.{sym, ◌∙◌}
use Rattle.std.proofs.lemmas.Result.{IfOk-weaker}
use Rattle.query_model.proofs.KeyTexts.{agree_of_key, key_of_agree}
use Rattle.query_model.proofs.item_key.joined_key.Goals as goal

pub returns-clause-apart : goal.returns-clause-apart
returns-clause-apart c = IfOk-weaker c.key_bytes.result _ _ (λ key is other. (
  λ same. agree_of_key c.args.columns.now c.args.item.now other (sym is ∙ same),
  λ agree. is ∙ key_of_agree c.args.columns.now c.args.item.now other agree,
)) c.key_bytes.ensures
