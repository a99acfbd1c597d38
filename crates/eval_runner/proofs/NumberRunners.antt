-- A runner of a number query takes its next item, and begins anew, in calls of a number query.
use Rattle.std.proofs.Common.{◌≡◌, List, None, subst, sym}
use Rattle.value_ops.specs.declared.field.Field.{Field}
use Rattle.query_model.specs.Checked.{IsChecked}
use Rattle.query_model.specs.declared.query.Query.{Query}
use Rattle.query_model.specs.Following.{FitsNext}
use Rattle.query_model.specs.Queries.{plain_of}
use Rattle.query_model.specs.Rules.{HasNoCollect}
use Rattle.eval_nodes.specs.Plain.{seen_of}
use Rattle.step_laws.specs.Feeds.{CanBegin}
use Rattle.step_laws.specs.Numbers.{BeginsNumbers, CarriesNumbers}
use Rattle.step_laws.proofs.NumberQueries.{read_numbers}
use Rattle.eval_runner.specs.declared.runner.Runner.{Runner}
use Rattle.eval_runner.specs.Following.{columns_of, IsSoundly, position_of, query_of}
use Rattle.eval_runner.proofs.RunnerSteps.{bare_sound, carry_next, renew_next}

pub runner_carries : (runner : Runner) (query : Query) (item : List Field)
    → query ≡ runner.checked.now.main
    → IsChecked runner.checked.now → IsSoundly runner
    → FitsNext (columns_of runner) (query_of runner) (position_of runner) item
    → HasNoCollect (query_of runner)
    → CarriesNumbers seen_of (plain_of query.shape) runner.progress item
unfolding carry_next
runner_carries runner query item main checked sound fits bare =
    subst (λ (x : Query). CarriesNumbers seen_of (plain_of x.shape) runner.progress item)
    (sym main) (
      carry_next (columns_of runner) (query_of runner) runner.progress item checked.clear
          (bare_sound runner sound bare) fits,
      record { no_collect = bare; no_tables = read_numbers (columns_of runner) checked.read },
    )

pub runner_may_begin : (runner : Runner) (query : Query) → query ≡ runner.checked.now.main
    → IsChecked runner.checked.now → IsSoundly runner → HasNoCollect (query_of runner)
    → CanBegin seen_of (plain_of query.shape) runner.progress None
runner_may_begin runner query main checked sound bare =
    subst (λ (x : Query). CanBegin seen_of (plain_of x.shape) runner.progress None) (sym main)
    (renew_next (columns_of runner) (query_of runner) runner.progress checked.clear
    checked.small bare (bare_sound runner sound bare))

pub runner_begins : (runner : Runner) (query : Query) → query ≡ runner.checked.now.main
    → IsChecked runner.checked.now → IsSoundly runner → HasNoCollect (query_of runner)
    → BeginsNumbers seen_of (plain_of query.shape) runner.progress None
unfolding renew_next
runner_begins runner query main checked sound bare =
    subst (λ (x : Query). BeginsNumbers seen_of (plain_of x.shape) runner.progress None)
    (sym main) (
      renew_next (columns_of runner) (query_of runner) runner.progress checked.clear
          checked.small bare (bare_sound runner sound bare),
      record { no_collect = bare; no_tables = read_numbers (columns_of runner) checked.read },
    )
