-- By induction on the query.
use Rattle.query_model.specs.Rules.{free}
use Rattle.eval_nodes.specs.Plain.{seen_of}
use Rattle.step_laws.proofs.StoredFew.{runner_few}
use Rattle.step_laws.proofs.StoredTracks.{read_texts}
use Rattle.eval_runner.specs.Following.{columns_of, query_of}
use Rattle.eval_runner.proofs.laws.a_runner_keeps_its_slots_for_each_key.Goals as goal

pub returns : goal.returns
returns c = λ runner word checked follows.
    runner_few seen_of free (columns_of runner) (query_of runner) word runner.progress checked.clear
    (read_texts (columns_of runner) checked.read) follows.at.is_word follows.at.follows
