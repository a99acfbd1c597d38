-- It is never out of memory, so it begins anew.
use Rattle.std.proofs.Common.{◌∙◌, refl, subst, sym}
use Rattle.query_model.specs.declared.query.Query.{Query}
use Rattle.query_model.specs.Queries.{plain_of}
use Rattle.eval_nodes.specs.Plain.{seen_of}
use Rattle.step_laws.specs.Feeds.{IsRenewed}
use Rattle.eval_runner.specs.Following.{columns_of, query_of}
use Rattle.eval_runner.proofs.RunnerSteps.{bare_sound, never_err, renewed_at, when_ok}
use Rattle.eval_runner.proofs.NumberRunners.{runner_begins, runner_may_begin}
use Rattle.eval_runner.proofs.runner.Runner.begin_anew.Goals as goal

pub renew-requires : goal.renew-requires
renew-requires c =
    runner_may_begin c.args.self.now _ c.main.ensures.main c.main.ensures.checked c.requires.sound
    c.requires.no_collect

pub returns-clause-word : goal.returns-clause-word
returns-clause-word c =
    let runner = c.args.self.now in
    let new = c.renew.new.runner in
    let renewed =
    subst (λ (query : Query). IsRenewed seen_of (plain_of query.shape) runner.progress new)
    c.main.ensures.main
    (when_ok c.renew.result _ (sym c.is_err.ensures.value ∙ c.if-is_err.false)
    c.renew.ensures.renewed) in
    record {
      found = refl;
      at = renewed_at (columns_of runner) (query_of runner) runner.progress new
          c.main.ensures.checked.clear (bare_sound runner c.requires.sound c.requires.no_collect)
          renewed;
    }

pub unreachable-requires : goal.unreachable-requires
unreachable-requires c =
    never_err c.renew.result
    (c.renew.ensures.no_memory (runner_begins c.args.self.now _ c.main.ensures.main
    c.main.ensures.checked c.requires.sound c.requires.no_collect))
    (sym c.is_err.ensures.value ∙ c.if-is_err.true)
