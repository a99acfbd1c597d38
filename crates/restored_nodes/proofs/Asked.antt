-- What is put back, as that of the query and the dump that were asked for.
use Rattle.std.proofs.Common.{◌≡◌, List, Option, sym, subst}
use Rattle.item_schema.specs.declared.column.Column.{Column}
use Rattle.predicate_cells.specs.Cells.{Partition}
use Rattle.rate_expr.specs.Words.{Word}
use Rattle.query_model.specs.Queries.{Qre}
use Rattle.eval_nodes.specs.declared.progress.Progress.{Progress}
use Rattle.eval_nodes.specs.Plain.{seen_of}
use Rattle.eval_nodes.specs.Runners.{IsAt, IsSoundOf}
use Rattle.eval_nodes.specs.Streams.{AreColumnsOf}
use Rattle.runner_snapshot.specs.Dumps.{Runner}
use Rattle.eval_snapshot.specs.Dumped.{dumped}
use Rattle.eval_snapshot.specs.Fits.{Fits, max_position}
use Rattle.eval_snapshot.specs.Means.{IsRunnerAfter, Means, Stands}
use Rattle.snapshot_laws.proofs.Returning.{follows}
use Rattle.restored_nodes.specs.Restored.{IsRestoredRunner}

module _ (cells : Option Partition) (columns : List Column) (q q' : Qre) (dump : Runner)
    (same : q ≡ q') (on : AreColumnsOf cells columns) (fits : Fits columns q' dump)
    (one : Progress) (is : IsRestoredRunner seen_of cells q dump one) where
  back : IsRestoredRunner seen_of cells q' dump one
  back = subst (λ (x : Qre). IsRestoredRunner seen_of cells x dump one) same is

  pub back_kept : dumped seen_of q' one ≡ dump
  back_kept = back.kept

  pub back_sound : IsSoundOf seen_of columns q' one
  back_sound = (back.sound columns max_position on fits).sound

  pub back_at : (word : Word) → Means columns q' dump word → IsAt columns q' word one
  back_at word means = record {
    is_word = means.0;
    sound = back_sound;
    follows = follows seen_of columns q' one word back_sound.node back.runners
        (subst (λ (x : Runner). IsRunnerAfter (Stands columns q') q' word x) (sym back.kept)
        means.1);
  }
