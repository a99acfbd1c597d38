use Rattle.std.proofs.Common.{inr, subst}
use Rattle.query_model.specs.declared.query.Query.{Query}
use Rattle.query_model.specs.Queries.{plain_of}
use Rattle.eval_nodes.specs.Copies.{IsCopy, IsCopyOf}
use Rattle.eval_nodes.specs.Plain.{seen_of}
use Rattle.eval_runner.specs.Following.{columns_of, query_of}
use Rattle.eval_runner.proofs.RunnerSteps.{found_sound}
use Rattle.eval_runner.proofs.RunnerCopies.{copied_at, copied_kept, copied_soundly}
use Rattle.eval_runner.proofs.follower.RunnerFollower.try_copy.Goals as goal

pub returns-clause-words : goal.returns-clause-words
returns-clause-words c = λ word follows.
    let runner = c.args.self.now in
    let copied =
    subst (λ (query : Query). IsCopyOf seen_of (IsCopy seen_of (plain_of query.shape))
    runner.progress c.in_ok-progress.progress)
    c.main.ensures.main c.in_ok-progress.ensures in
    record {
      found = follows.found;
      at = copied_at (columns_of runner) (query_of runner) word runner.progress
          c.in_ok-progress.progress copied follows.at;
    }

pub returns-clause-kept : goal.returns-clause-kept
returns-clause-kept c =
    let runner = c.args.self.now in
    copied_kept (query_of runner) runner.progress c.in_ok-progress.progress
    (subst (λ (query : Query). IsCopyOf seen_of (IsCopy seen_of (plain_of query.shape))
    runner.progress c.in_ok-progress.progress)
    c.main.ensures.main c.in_ok-progress.ensures)

pub returns-clause-sound : goal.returns-clause-sound
returns-clause-sound c =
    let runner = c.args.self.now in
    let copied =
    subst (λ (query : Query). IsCopyOf seen_of (IsCopy seen_of (plain_of query.shape))
    runner.progress c.in_ok-progress.progress)
    c.main.ensures.main c.in_ok-progress.ensures in (
      record {
        sound = inr (copied_soundly (columns_of runner) (query_of runner) runner.progress
            c.in_ok-progress.progress copied
            (found_sound runner c.requires.sound c.requires.found));
      },
      c.requires.found,
    )
