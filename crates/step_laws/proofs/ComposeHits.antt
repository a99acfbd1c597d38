-- A compose: its hits are the answers of the runners that take the values of the left operand.
use Rattle.std.proofs.Common.{◌≡◌, ℕ, List, [], Option, Some, None, drop, subst}
use Rattle.value_ops.specs.declared.value.Value.{Value}
use Rattle.item_schema.specs.declared.column.Column.{Column}
use Rattle.rate_expr.specs.Words.{Word, IsWordOf}
use Rattle.query_model.specs.Denotation.{Den, Outputs}
use Rattle.query_model.specs.Following.{IsAnswer}
use Rattle.query_model.specs.Queries.{Qre, compose}
use Rattle.query_model.specs.Rules.{Standing, IsClear}
use Rattle.eval_nodes.specs.Starts.{AreApart}
use Rattle.eval_nodes.proofs.Pieces.{word_after}
use Rattle.step_laws.specs.declared.hit.Hit.{Hit}
use Rattle.step_laws.specs.Feeds.{hit_at}
use Rattle.step_laws.specs.Steps.{IsFirstHit, IsHit}
use Rattle.step_laws.proofs.Outputs.{out_one}
use Rattle.step_laws.proofs.Quiet.{hit_start}

module _ (standing : Standing) (columns : List Column) (f g : Qre)
    (clear : IsClear standing columns f) (word : Word) (is : IsWordOf columns word) where
  -- no value of the left operand, no value of the whole
  pub none_composed : (starts : List ℕ) → IsHit (Den f) word starts None
      → IsHit (Den (compose f g)) word starts None
  none_composed starts left = record {
    sound = tt;
    complete = λ start v there (x, out, den, outputs, right). left.complete start x there den;
  }

  -- the answer on what comes out from the start of the hit
  pub composed : (starts : List ℕ) (found : Hit) (out : Word) (answer : Option Value)
      → AreApart columns f word starts → IsHit (Den f) word starts (Some found)
      → Outputs (Den f) [] (drop found.start word) out → IsAnswer g out answer
      → IsHit (Den (compose f g)) word starts (hit_at found.start answer)
  composed starts found out None apart left outputs answers = record {
    sound = tt;
    complete = λ start v there (x, other, den, others, right).
        let same : start ≡ found.start =
        hit_start standing columns f clear word starts is apart found left start x there den
        in
        let outs : other ≡ out = out_one standing columns f clear (drop found.start word) other out
        (word_after columns word found.start is)
        (subst (λ (at : ℕ). Outputs (Den f) [] (drop at word) other) same others) outputs in
        answers v (subst (λ (u : Word). Den g u v) outs right);
  }
  composed starts found out (Some v) apart left outputs answers = record {
    sound = (left.sound.0, (found.value, out, left.sound.1, outputs, answers));
    complete = tt;
  }

module _ (standing : Standing) (columns : List Column) (f g : Qre)
    (clear : IsClear standing columns f) where
  pub none_composed_first : (at : ℕ) → IsFirstHit (Den f) at None
      → IsFirstHit (Den (compose f g)) at None
  none_composed_first at left = λ v (x, out, den, outputs, right). left x den

  pub composed_first : (at : ℕ) (found : Hit) (out : Word) (answer : Option Value)
      → IsFirstHit (Den f) at (Some found) → Outputs (Den f) [] [] out → IsAnswer g out answer
      → IsFirstHit (Den (compose f g)) at (hit_at found.start answer)
  composed_first at found out None left outputs answers = λ v (x, other, den, others, right).
      answers v (subst (λ (u : Word). Den g u v)
      (out_one standing columns f clear [] other out tt others outputs) right)
  composed_first at found out (Some v) left outputs answers =
      (left.0, (found.value, out, left.1, outputs, answers))
