-- A copy of a runner follows what the runner follows, is sound where this is, and takes as much.
use Rattle.std.proofs.Common.{◌≡◌, ◌∙◌, ℕ, List, [], ◌∷◌, sym, subst}
use Rattle.item_schema.specs.declared.column.Column.{Column}
use Rattle.rate_expr.specs.Words.{Word}
use Rattle.query_model.specs.Following.{IsAnswer}
use Rattle.query_model.specs.Queries.{Qre}
use Rattle.query_model.specs.QueryTypes.{type_of}
use Rattle.eval_nodes.specs.declared.progress.Progress.{Progress}
use Rattle.eval_nodes.specs.Copies.{IsCopy, IsCopyOf}
use Rattle.eval_nodes.specs.Counts.{size_of_runner, stored_in}
use Rattle.eval_nodes.specs.Runners.{IsSoundOf, IsAt}
use Rattle.eval_nodes.specs.Plain.{holding_of, seen_of}
use Rattle.eval_nodes.specs.Sound.{IsSound, IsTyped}
use Rattle.step_laws.proofs.Copied.{copy_represents, copy_sound, copy_stored, size_same}

pub copied_soundly : (columns : List Column) (q : Qre) (old new : Progress)
    → IsCopyOf seen_of (IsCopy seen_of q) old new → IsSoundOf seen_of columns q old
    → IsSoundOf seen_of columns q new
copied_soundly columns q old new copied is = record {
  node = subst (λ (n : ℕ). IsSound seen_of columns q n (holding_of new.node.state))
      (sym copied.position)
      (copy_sound seen_of columns q old.position (holding_of old.node.state)
      (holding_of new.node.state) copied.node is.node);
  answer = subst (IsTyped (type_of columns q)) (sym copied.answer) is.answer;
}

pub copied_at : (columns : List Column) (q : Qre) (word : Word) (old new : Progress)
    → IsCopyOf seen_of (IsCopy seen_of q) old new → IsAt columns q word old
    → IsAt columns q word new
copied_at columns q word old new copied at = record {
  is_word = at.is_word;
  sound = copied_soundly columns q old new copied at.sound;
  follows = record {
    position = copied.position ∙ at.follows.position;
    node = copy_represents seen_of columns q (holding_of old.node.state)
        (holding_of new.node.state) word (0 ∷ []) copied.node at.follows.node;
    answer = subst (IsAnswer q word) (sym copied.answer) at.follows.answer;
  };
}

pub copied_kept : (q : Qre) (old new : Progress) → IsCopyOf seen_of (IsCopy seen_of q) old new
    → size_of_runner seen_of (stored_in seen_of q) new
    ≡ size_of_runner seen_of (stored_in seen_of q) old
copied_kept q old new copied =
    size_same seen_of q old new copied
    (copy_stored seen_of q (holding_of old.node.state) (holding_of new.node.state) copied.node)
