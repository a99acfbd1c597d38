-- A compose: a step.
use Rattle.std.proofs.Common.{◌≡◌, ℕ, List, [], ◌∷◌, ◌++◌, Option, Some, None, sym, subst, inl, inr}
use Rattle.std.specs.List.{Contains}
use Rattle.value_ops.specs.declared.field.Field.{Field}
use Rattle.item_schema.specs.declared.column.Column.{Column}
use Rattle.rate_expr.specs.Words.{Word, IsWordOf}
use Rattle.query_model.specs.Denotation.{Den}
use Rattle.query_model.specs.Queries.{Qre, compose}
use Rattle.query_model.specs.QueryTypes.{derived_columns, type_of}
use Rattle.query_model.specs.Rules.{Standing, IsClear}
use Rattle.compose_eval.specs.Followers.{Contents, live_instances, retired}
use Rattle.compose_eval.specs.declared.instance.Instance.{Instance}
use Rattle.eval_nodes.specs.Holdings.{Holding, compose_held, Seen}
use Rattle.eval_nodes.specs.Live.{live_of}
use Rattle.eval_nodes.specs.Starts.{AreApart, ArePositions, IsLive}
use Rattle.eval_nodes.proofs.Instances.{delivered_member}
use Rattle.eval_nodes.proofs.Living.{living}
use Rattle.step_laws.specs.declared.hit.Hit.{Hit}
use Rattle.step_laws.specs.Feeds.{PassesOn}
use Rattle.step_laws.specs.Steps.{IsHit, Steps}
use Rattle.step_laws.proofs.ComposeHits.{composed, none_composed}
use Rattle.step_laws.proofs.Fed.{Row, fed_on, hit_feeds, narrowed}
use Rattle.step_laws.proofs.FedFew.{idle_passed, idle_stepped}
use Rattle.step_laws.proofs.SplitSteps.{more_positions}

module _ {R : Type 0} (seen : R → Seen R) where
  -- the hit of the whole
  passed_hit : (standing : Standing) (columns : List Column) (f g : Qre)
      (clear : IsClear standing columns f)
      (clear_right : IsClear standing (derived_columns (type_of columns f)) g) (word : Word)
      (item : List Field) (starts : List ℕ) (is : IsWordOf columns (word ++ item ∷ []))
      (positions : ArePositions word starts) (held passed : Contents R) (left hit : Option Hit)
      → Row seen standing columns f g clear clear_right (IsLive columns f word starts) word held
      → AreApart columns f (word ++ item ∷ []) starts
      → IsHit (Den f) (word ++ item ∷ []) starts left → PassesOn seen g held left passed hit
      → IsHit (Den (compose f g)) (word ++ item ∷ []) starts hit
  passed_hit standing columns f g clear clear_right word item starts is positions held passed None
      hit row apart left (same, none) =
      subst (IsHit (Den (compose f g)) (word ++ item ∷ []) starts) (sym none)
      (none_composed standing columns f g clear (word ++ item ∷ []) is starts left)
  passed_hit standing columns f g clear clear_right word item starts is positions held passed
      (Some found) hit row apart left passes =
      elim passes [
        | inl one ↦
            let longer = fed_on seen standing columns f g clear clear_right word item starts is
            positions held passed (Some found) hit row apart left (inl one) in
            let x : Instance R = record { outer = found.start; follower = one.delivered } in
            let (out, outputs, follows) = longer.each found.start one.delivered
            (subst (λ (s : Contents R). Contains s.live x) (sym one.is)
            (delivered_member held.live one.place found.start one.runner one.delivered one.at)) in
            subst (IsHit (Den (compose f g)) (word ++ item ∷ []) starts) (sym one.delivers.answers)
            (composed standing columns f g clear (word ++ item ∷ []) is starts found out
            (seen one.delivered).answer apart left outputs follows.answer)
        | inr (none, same, no_hit) ↦ absurd
            (hit_feeds seen standing columns f g clear clear_right word item starts is positions
            held found row left none)
      ]

  pub step_compose : (f g : Qre) (a a' : Holding R) (held passed kept : Contents R) (now : ℕ)
      (item : List Field) (left hit : Option Hit) → Steps seen f a now item a' left
      → PassesOn seen g held left passed hit → kept.live ≡ live_instances (live_of f a') passed.live
      → kept.idle ≡ passed.idle ++ retired (live_of f a') passed.live
      → Steps seen (compose f g) (compose_held a held) now item (compose_held a' kept) hit
  step_compose f g a a' held passed kept now item left hit first passes live idle =
      λ standing columns word starts clear is positions rep end apart.
      let x = first standing columns word starts clear.0 is positions rep.0 end apart in
      let longer = fed_on seen standing columns f g clear.0 clear.1 word item starts is positions
      held passed left hit rep.1 apart x.hit passes in
      record {
        after = (
          x.after,
          narrowed seen standing columns f g clear.0 clear.1 word item starts is positions passed
              kept (live_of f a')
              (λ start. living seen standing columns f a' (word ++ item ∷ []) starts
              start clear.0 is
              (more_positions word item starts positions) x.after) live idle longer,
          idle_stepped seen standing columns f g clear.0 clear.1 clear.2
              (IsLive columns f word starts) word item held passed kept (live_of f a') is
              (idle_passed seen g held passed left hit passes) idle longer rep.2,
        );
        hit = passed_hit standing columns f g clear.0 clear.1 word item starts is positions held
            passed left hit rep.1 apart x.hit passes;
      }
