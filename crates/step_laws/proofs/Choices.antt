-- A choice and an apply: starts and steps.
use Rattle.std.proofs.Common.{ℕ, List, [], ◌∷◌, ◌++◌, Option, Some, None, sym, subst, inl, inr}
use Rattle.std.specs.Option.{option_or}
use Rattle.value_ops.specs.declared.field.Field.{Field}
use Rattle.expressions.specs.Expressions.{Expression}
use Rattle.rate_expr.specs.Words.{Word}
use Rattle.query_model.specs.Denotation.{Den}
use Rattle.query_model.specs.Queries.{Qre, choice, apply}
use Rattle.query_model.specs.Rules.{bound}
use Rattle.eval_nodes.specs.Holdings.{Holding, choice_held, apply_held, Seen}
use Rattle.eval_nodes.proofs.Apart.{apart_first, apart_second}
use Rattle.step_laws.specs.declared.hit.Hit.{Hit}
use Rattle.step_laws.specs.Lefts.{IsApplied}
use Rattle.step_laws.specs.Steps.{IsFirstHit, IsHit, Starts, Steps}

module _ (f g : Qre) where
  -- a hit of either
  either_first : (at : ℕ) (left right : Option Hit) → IsFirstHit (Den f) at left
      → IsFirstHit (Den g) at right → IsFirstHit (Den (choice f g)) at (option_or left right)
  either_first at None None a b = λ v den. elim den [
    | inl first ↦ a v first
    | inr second ↦ b v second
  ]
  either_first at None (Some found) a b = (b.0, inr b.1)
  either_first at (Some found) right a b = (a.0, inl a.1)

  either_hit : (word : Word) (starts : List ℕ) (left right : Option Hit)
      → IsHit (Den f) word starts left → IsHit (Den g) word starts right
      → IsHit (Den (choice f g)) word starts (option_or left right)
  either_hit word starts None None a b = record {
    sound = tt;
    complete = λ start v there den. elim den [
      | inl first ↦ a.complete start v there first
      | inr second ↦ b.complete start v there second
    ];
  }
  either_hit word starts None (Some found) a b =
      record { sound = (b.sound.0, inr b.sound.1); complete = tt }
  either_hit word starts (Some found) right a b =
      record { sound = (a.sound.0, inl a.sound.1); complete = tt }

module _ (f : Qre) (e : Expression) where
  -- the expression on the value of a hit
  applied_first : (at : ℕ) (inner hit : Option Hit) → IsFirstHit (Den f) at inner
      → IsApplied e inner hit → IsFirstHit (Den (apply f e)) at hit
  applied_first at None hit a is =
      subst (IsFirstHit (Den (apply f e)) at) (sym is) (λ v (x, den, gives). a x den)
  applied_first at (Some found) hit a (v, is, gives) =
      subst (IsFirstHit (Den (apply f e)) at) (sym is) (a.0, (found.value, a.1, gives))

  applied_hit : (word : Word) (starts : List ℕ) (inner hit : Option Hit)
      → IsHit (Den f) word starts inner → IsApplied e inner hit
      → IsHit (Den (apply f e)) word starts hit
  applied_hit word starts None hit a is =
      subst (IsHit (Den (apply f e)) word starts) (sym is) (record {
        sound = tt;
        complete = λ start v there (x, den, gives). a.complete start x there den;
      })
  applied_hit word starts (Some found) hit a (v, is, gives) =
      subst (IsHit (Den (apply f e)) word starts) (sym is) (record {
        sound = (a.sound.0, (found.value, a.sound.1, gives));
        complete = tt;
      })

module _ {R : Type 0} (seen : R → Seen R) where
  pub start_choice : (f g : Qre) (a b a' b' : Holding R) (at : ℕ) (left right : Option Hit)
      → Starts seen f a at a' left → Starts seen g b at b' right
      → Starts seen (choice f g) (choice_held a b) at (choice_held a' b') (option_or left right)
  start_choice f g a b a' b' at left right first second =
      λ standing columns word starts clear is positions rep fresh end apart.
      let x = first bound columns word starts clear.0 is positions rep.0 fresh end
      (apart_first columns f g word (starts ++ at ∷ []) apart) in
      let y = second bound columns word starts clear.1 is positions rep.1 fresh end
      (apart_second columns f g word (starts ++ at ∷ []) apart) in
      record {
        after = (x.after, y.after);
        hit = either_first f g at left right x.hit y.hit;
      }

  pub step_choice : (f g : Qre) (a b a' b' : Holding R) (now : ℕ) (item : List Field)
      (left right : Option Hit) → Steps seen f a now item a' left → Steps seen g b now item b' right
      → Steps seen (choice f g) (choice_held a b) now item (choice_held a' b')
      (option_or left right)
  step_choice f g a b a' b' now item left right first second =
      λ standing columns word starts clear is positions rep end apart.
      let x = first bound columns word starts clear.0 is positions rep.0 end
      (apart_first columns f g (word ++ item ∷ []) starts apart) in
      let y = second bound columns word starts clear.1 is positions rep.1 end
      (apart_second columns f g (word ++ item ∷ []) starts apart) in
      record {
        after = (x.after, y.after);
        hit = either_hit f g (word ++ item ∷ []) starts left right x.hit y.hit;
      }

  pub start_apply : (f : Qre) (e : Expression) (a a' : Holding R) (at : ℕ) (inner hit : Option Hit)
      → Starts seen f a at a' inner → IsApplied e inner hit
      → Starts seen (apply f e) (apply_held a) at (apply_held a') hit
  start_apply f e a a' at inner hit starts_ applied =
      λ standing columns word starts clear is positions rep fresh end apart.
      let x = starts_ bound columns word starts clear.0 is positions rep fresh end apart in
      record {
        after = x.after;
        hit = applied_first f e at inner hit x.hit applied;
      }

  pub step_apply : (f : Qre) (e : Expression) (a a' : Holding R) (now : ℕ) (item : List Field)
      (inner hit : Option Hit) → Steps seen f a now item a' inner → IsApplied e inner hit
      → Steps seen (apply f e) (apply_held a) now item (apply_held a') hit
  step_apply f e a a' now item inner hit steps applied =
      λ standing columns word starts clear is positions rep end apart.
      let x = steps bound columns word starts clear.0 is positions rep end apart in
      record {
        after = x.after;
        hit = applied_hit f e (word ++ item ∷ []) starts inner hit x.hit applied;
      }
