-- Statement. What it means that a runner is sound for a query and follows a word.
use Rattle.std.specs.Prelude.{List}
use Rattle.item_schema.specs.declared.column.Column.{Column}
use Rattle.rate_expr.specs.Words.{Word, IsWordOf}
use Rattle.query_model.specs.Queries.{Qre}
use Rattle.query_model.specs.QueryTypes.{type_of}
use Rattle.eval_nodes.specs.Holdings.{Seen}
use Rattle.eval_nodes.specs.Represents.{IsFollowing, Represents}
use Rattle.eval_nodes.specs.Sound.{IsSound, IsSoundRunner}
use Rattle.eval_nodes.specs.Plain.{seen_of}
use Rattle.eval_nodes.specs.declared.progress.Progress.{Progress}

module _ {R : Type 0} (seen : R → Seen R) where
  abbrev pub FollowsWord : List Column → Qre → Word → R → Type 0
  FollowsWord columns query word runner =
      IsFollowing seen (Represents seen columns query) query word runner

  abbrev pub IsSoundOf : List Column → Qre → R → Type 0
  IsSoundOf columns query runner =
      IsSoundRunner seen (IsSound seen columns query) (type_of columns query) runner

-- it is sound for the query, and follows the word of its stream
pub record IsAt (columns : List Column) (query : Qre) (word : Word)
    (progress : Progress) : Type 0 where
  pub is_word : IsWordOf columns word
  pub sound : IsSoundRunner seen_of (IsSound seen_of columns query) (type_of columns query) progress
  pub follows : IsFollowing seen_of (Represents seen_of columns query) query word progress
