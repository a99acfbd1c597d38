-- For the prover. What holds of what is kept of the runner.
use Rattle.std.specs.Prelude.{◌≡◌, ◌≤◌, ◌^◌, List, length, refl}
use Rattle.item_schema.specs.declared.column.Column.{Column}
use Rattle.rate_expr.specs.Words.{Word}
use Rattle.query_model.specs.Checked.{CheckedQuery, IsChecked}
use Rattle.query_model.specs.Queries.{Qre, plain_of}
use Rattle.eval_nodes.specs.Plain.{seen_of}
use Rattle.runner_snapshot.specs.Bytes.{runner_bytes}
use Rattle.runner_snapshot.specs.Dumps as dump
use Rattle.runner_snapshot.specs.Ranges.{IsRunner}
use Rattle.runner_snapshot.specs.Stops.{max_snapshot}
use Rattle.eval_snapshot.specs.Fits.{Fits}
use Rattle.eval_snapshot.specs.Means.{Means}
use Rattle.eval_snapshot.proofs.Standing as standing
use Rattle.snapshot_laws.proofs.Fitting as fitting
use Rattle.node_dumps.proofs.Spelled as spelled
use Rattle.kept_runner.specs.declared.kept_runner.KeptRunner.{KeptRunner}
use Rattle.kept_runner.specs.Following.{Follows, columns_of, position_of, query_of, stands_of}

pub stands_after : (kept : KeptRunner) (word : Word) → Follows kept word
    → Means (columns_of kept) (query_of kept) (stands_of kept) word
stands_after kept word follows =
    standing.means seen_of (columns_of kept) (query_of kept) word kept.runner.progress
    follows.at.is_word follows.at.follows

pub stands_at : (kept : KeptRunner) → dump.position_of (stands_of kept) ≡ position_of kept
stands_at kept = refl

pub means_fit : (on : CheckedQuery) (one : dump.Runner) (word : Word) → IsChecked on
    → Means on.layout.columns (plain_of on.main.shape) one word
    → dump.position_of one ≤ 2 ^ 62 → Fits on.layout.columns (plain_of on.main.shape) one
means_fit = fitting.means_fit

pub fits_early : (columns : List Column) (query : Qre) (one : dump.Runner)
    → Fits columns query one → dump.position_of one ≤ 2 ^ 62
fits_early columns query (dump.runner position answer node) fits = fits.0

pub fits_spelled : (on : CheckedQuery) (one : dump.Runner) → IsChecked on
    → Fits on.layout.columns (plain_of on.main.shape) one
    → length (runner_bytes one) ≤ max_snapshot → IsRunner one
fits_spelled = spelled.fits_spelled
