-- A compose stays sound.
use Rattle.std.proofs.Common.{◌≡◌, ℕ, ◌+◌, ◌++◌, Bool, List, Option, sym, subst, arith}
use Rattle.value_ops.specs.declared.field.Field.{Field}
use Rattle.query_model.specs.Bounds.{places_of}
use Rattle.query_model.specs.Queries.{Qre, compose}
use Rattle.query_model.specs.QueryTypes.{derived_columns, type_of}
use Rattle.compose_eval.specs.Followers.{Contents, live_instances, retired}
use Rattle.eval_nodes.specs.Holdings.{Holding, compose_held, Seen}
use Rattle.step_laws.specs.declared.hit.Hit.{Hit}
use Rattle.step_laws.specs.Feeds.{Feeds, PassesOn}
use Rattle.step_laws.specs.Steps.{StartsSoundly, StepsSoundly}
use Rattle.step_laws.proofs.FedSoundness.{AreSoundly, fed_soundly, kept_soundly, passed_soundly}
use Rattle.step_laws.proofs.Outputs.{hit_item}
use Rattle.step_laws.proofs.Typed.{hit_of}

module _ {R : Type 0} (seen : R → Seen R) where
  pub sound_step_compose : (f g : Qre) (a a' : Holding R) (held passed kept : Contents R) (now : ℕ)
      (item : List Field) (left hit : Option Hit) (p : ℕ → Bool)
      → StepsSoundly seen f a now item a' left → PassesOn seen g held left passed hit
      → kept.live ≡ live_instances p passed.live → kept.idle ≡ passed.idle ++ retired p passed.live
      → StepsSoundly seen (compose f g) (compose_held a held) now item (compose_held a' kept) hit
  sound_step_compose f g a a' held passed kept now item left hit p first passes live idle =
      λ standing columns position is_next clear is sound.
      let derived = derived_columns (type_of columns f) in
      let count = places_of f + 1 in
      let x = first standing columns position is_next clear.0 is sound.0 in
      let before : AreSoundly seen derived g count (position + 1) held = record {
        distinct = sound.1;
        full = sound.2;
        live = sound.3;
        idle = sound.4;
      } in
      let (one_more, hit_is) = passed_soundly seen standing derived g clear.1 count (position + 1)
      held passed left hit (hit_item (type_of columns f) left x.hit) before passes in
      let after : AreSoundly seen derived g count (now + 1) kept =
      subst (λ (n : ℕ). AreSoundly seen derived g count (n + 1) kept) (sym is_next)
      (kept_soundly seen standing derived g clear.1 count (position + 1 + 1) passed kept p live
      idle one_more) in
      record {
        node = (x.node, after.distinct, after.full, after.live, after.idle);
        hit = hit_is;
      }

  pub sound_start_compose : (f g : Qre) (a a' : Holding R) (held new : Contents R)
      (at : ℕ) (live : Bool) (left hit : Option Hit) → StartsSoundly seen f a at a' left
      → Feeds seen g held live at left new hit
      → StartsSoundly seen (compose f g) (compose_held a held) at (compose_held a' new) hit
  sound_start_compose f g a a' held new at live left hit first feeds =
      λ standing columns clear sound.
      let derived = derived_columns (type_of columns f) in
      let count = places_of f + 1 in
      let x = first standing columns clear.0 sound.0 in
      let before : AreSoundly seen derived g count (at + 1) held = record {
        distinct = sound.1;
        full = sound.2;
        live = sound.3;
        idle = sound.4;
      } in
      let (after, hit_is) = fed_soundly seen standing derived g clear.1 (type_of columns f) count
      (at + 1) at live held new left
      hit (hit_item (type_of columns f) left (hit_of (type_of columns f) at left x.hit)) x.hit
      (omega arith) before feeds in
      record {
        node = (x.node, after.distinct, after.full, after.live, after.idle);
        hit = hit_is;
      }
