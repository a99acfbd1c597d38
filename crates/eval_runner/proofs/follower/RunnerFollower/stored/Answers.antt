use Rattle.std.proofs.Common.{◌≡◌, ◌-◌, ◌^◌, arith, min, rules}
use Rattle.query_model.specs.Rules.{free}
use Rattle.eval_nodes.specs.Plain.{seen_of}
use Rattle.step_laws.proofs.StoredFew.{runner_few}
use Rattle.step_laws.proofs.StoredTracks.{read_texts}
use Rattle.eval_runner.specs.Following.{columns_of, kept_of, query_of}
use Rattle.eval_runner.proofs.follower.RunnerFollower.stored.Goals as goal

pub returns-clause-few : goal.returns-clause-few
returns-clause-few c = λ word follows.
    let runner = c.args.self.now in
    let checked = c.main.ensures.checked in
    let kept = runner_few seen_of free (columns_of runner) (query_of runner) word
    runner.progress checked.clear (read_texts (columns_of runner) checked.read) follows.at.is_word
    follows.at.follows in
    let count : c.size_of_runner.result ≡ min (kept_of runner) (2 ^ 64 - 1) = search rules in
    omega (arith, kept, count)
