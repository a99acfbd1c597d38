-- The runner of a checked query takes one more item, or begins anew.
use Rattle.std.proofs.Common.{◌≡◌, ◌∙◌, true, false, List, [], ◌∷◌, ◌++◌, None, Result, Ok, Err}
use Rattle.std.proofs.Common.{sym, arith, inl, inr}
use Rattle.std.specs.Prelude.{IfOk, IsOk, is_err}
use Rattle.std.proofs.lemmas.Bool.{false≢true}
use Rattle.value_ops.specs.declared.field.Field.{Field}
use Rattle.item_schema.specs.declared.column.Column.{Column}
use Rattle.item_schema.specs.Items.{IsItemOf}
use Rattle.rate_expr.specs.Words.{Word}
use Rattle.query_model.specs.Following.{FitsNext}
use Rattle.query_model.specs.Queries.{Qre}
use Rattle.query_model.specs.Sizes.{IsSmall}
use Rattle.query_model.specs.Rules.{Standing, free, HasNoCollect, IsClear}
use Rattle.eval_nodes.specs.declared.progress.Progress.{Progress}
use Rattle.eval_nodes.specs.Runners.{IsSoundOf, IsAt}
use Rattle.eval_nodes.specs.Plain.{seen_of}
use Rattle.eval_nodes.proofs.Made.{composes_few}
use Rattle.eval_nodes.proofs.Pieces.{word_join}
use Rattle.step_laws.specs.Feeds.{CanBegin, CanCarry, IsCarried, IsRenewed}
use Rattle.eval_runner.specs.declared.runner.Runner.{Runner}
use Rattle.eval_runner.specs.Following.{columns_of, IsSoundly, query_of}

-- the runner of a query and its schema
pub carried : (standing : Standing) (columns : List Column) (q : Qre) (word : Word)
    (item : List Field) (old new : Progress) → IsClear standing columns q → IsItemOf columns item
    → IsAt columns q word old → IsCarried seen_of q old item new
    → IsAt columns q (word ++ item ∷ []) new
carried standing columns q word item old new clear is_item at one_more =
    let longer = word_join columns word (item ∷ []) at.is_word (is_item, tt) in
    record {
      is_word = longer;
      sound = one_more.sound standing columns clear is_item at.sound;
      follows = one_more.word standing columns word clear longer at.follows;
    }

-- a runner that is not lost is sound
pub found_sound : (runner : Runner) → IsSoundly runner → runner.failed ≡ false
    → IsSoundOf seen_of (columns_of runner) (query_of runner) runner.progress
found_sound runner is found = elim is.sound [
  | inl lost ↦ let wrong : false ≡ true = sym found ∙ lost.0 in absurd (false≢true wrong)
  | inr sound ↦ sound
]

-- and so is one without a collect
pub bare_sound : (runner : Runner) → IsSoundly runner → HasNoCollect (query_of runner)
    → IsSoundOf seen_of (columns_of runner) (query_of runner) runner.progress
bare_sound runner is bare = elim is.sound [
  | inl lost ↦ absurd (lost.1 bare)
  | inr sound ↦ sound
]

-- and may take the next item
unfoldable pub carry_next : (columns : List Column) (q : Qre) (progress : Progress)
    (item : List Field) → IsClear free columns q
    → IsSoundOf seen_of columns q progress → FitsNext columns q progress.position item
    → CanCarry seen_of q progress item
carry_next columns q progress item clear sound fits =
    let room = fits.room in
    record {
      standing = free;
      columns = columns;
      clear = clear;
      sound = sound;
      is_item = fits.is_item;
      room = omega (arith, room);
    }

-- and may begin anew
unfoldable pub renew_next : (columns : List Column) (q : Qre) (progress : Progress)
    → IsClear free columns q → IsSmall columns q → HasNoCollect q
    → IsSoundOf seen_of columns q progress → CanBegin seen_of q progress None
renew_next columns q progress clear small bare sound =
    let few = composes_few q in
    let nodes = small.nodes in
    record {
      standing = free;
      columns = columns;
      clear = clear;
      no_collect = bare;
      sound = sound;
      is_item = tt;
      room = omega (arith, few, nodes);
    }

-- what was done, where it was not refused
pub when_ok : {T E : Type 0} → (result : Result T E) (P : Type 0) → is_err result ≡ false
    → IfOk result (λ x. P) → P
when_ok (Ok x) P found is = is
when_ok (Err e) P found is = absurd (false≢true (sym found))

pub never_err : {T E : Type 0} → (result : Result T E) → IsOk result → is_err result ≡ true → ⊥
never_err (Ok x) ok err = false≢true err
never_err (Err e) ok err = false≢true ok

-- it follows the empty word then
pub renewed_at : (columns : List Column) (q : Qre) (old new : Progress) → IsClear free columns q
    → IsSoundOf seen_of columns q old → IsRenewed seen_of q old new → IsAt columns q [] new
renewed_at columns q old new clear sound renewed = record {
  is_word = tt;
  sound = renewed.sound free columns clear sound;
  follows = renewed.word free columns clear;
}
