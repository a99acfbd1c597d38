-- Nodes of combine and iter stay sound.
use Rattle.std.proofs.Common.{◌≡◌, ℕ, Bool, List, Option, Some, None, refl}
use Rattle.std.specs.Prelude.{ℤ}
use Rattle.value_ops.specs.declared.field.Field.{Field}
use Rattle.value_ops.specs.declared.scalar.Scalar.TheVariants as scalar
use Rattle.value_ops.specs.declared.value.Value.{Value}
use Rattle.value_ops.specs.declared.value.Value.TheVariants as value
use Rattle.value_ops.specs.declared.value.ValueType.TheVariants as type
use Rattle.expressions.specs.Expressions.{Expression}
use Rattle.query_model.specs.Queries.{Qre, iter, combine}
use Rattle.query_model.specs.QueryTypes.{type_of}
use Rattle.query_model.specs.Rules.{bound}
use Rattle.split_eval.specs.Entries.{Contents, live_entries}
use Rattle.eval_nodes.specs.Holdings.{Holding, combine_held, iter_held, Seen}
use Rattle.step_laws.specs.declared.hit.Hit.{Hit}
use Rattle.step_laws.specs.Lefts.{AreCombined, IsEnded, IsPut}
use Rattle.step_laws.specs.Steps.{StartsSoundly, StepsSoundly}
use Rattle.step_laws.proofs.Typed.{combined_at, combined_of, ended_of, entries_kept, entries_put}
use Rattle.step_laws.proofs.Typed.{hit_of}

module _ {R : Type 0} (seen : R → Seen R) where
  pub sound_start_combine : (f g : Qre) (e : Expression) (a b a' b' : Holding R) (at : ℕ)
      (left right hit : Option Hit)
      → StartsSoundly seen f a at a' left → StartsSoundly seen g b at b' right
      → AreCombined e left right hit
      → StartsSoundly seen (combine f g e) (combine_held a b) at (combine_held a' b') hit
  sound_start_combine f g e a b a' b' at left right hit first second combined =
      λ standing columns clear sound.
      let x = first bound columns clear.0 sound.0 in
      let y = second bound columns clear.1 sound.1 in
      record {
        node = (x.node, y.node);
        hit = combined_at (type_of columns f) (type_of columns g) _ e at left right hit x.hit
            (hit_of (type_of columns g) at right y.hit) clear.2 combined;
      }

  pub sound_step_combine : (f g : Qre) (e : Expression) (a b a' b' : Holding R) (now : ℕ)
      (item : List Field) (left right hit : Option Hit)
      → StepsSoundly seen f a now item a' left → StepsSoundly seen g b now item b' right
      → AreCombined e left right hit
      → StepsSoundly seen (combine f g e) (combine_held a b) now item (combine_held a' b') hit
  sound_step_combine f g e a b a' b' now item left right hit first second combined =
      λ standing columns position is_next clear is sound.
      let x = first bound columns position is_next clear.0 is sound.0 in
      let y = second bound columns position is_next clear.1 is sound.1 in
      record {
        node = (x.node, y.node);
        hit = combined_of (type_of columns f) (type_of columns g) _ e left right hit x.hit y.hit
            clear.2 combined;
      }

  pub sound_start_iter : (f : Qre) (number : ℤ) (e : Expression) (a a' : Holding R)
      (so_far new : Contents Value) (at : ℕ) (operand : Option Hit) (live : Bool)
      → StartsSoundly seen f a at a' operand → IsPut live so_far
      (record { inner = at; outer = at; value = value.Scalar (scalar.Number number) }) new
      → StartsSoundly seen (iter f number e) (iter_held a so_far) at (iter_held a' new)
      (Some (record { start = at; value = value.Scalar (scalar.Number number) }))
  sound_start_iter f number e a a' so_far new at operand live first put =
      λ standing columns clear sound.
      let x = first bound columns clear.0 sound.0 in
      record {
        node = (
          x.node,
          entries_put type.Number _ live so_far new
              (record { inner = at; outer = at; value = value.Scalar (scalar.Number number) })
              sound.1 clear.1 put,
        );
        hit = (refl, clear.1);
      }

  pub sound_step_iter_none : (f : Qre) (number : ℤ) (e : Expression) (a a' : Holding R)
      (so_far kept : Contents Value) (now : ℕ) (item : List Field) (live : ℕ → Bool)
      (piece : Option Hit) → StepsSoundly seen f a now item a' piece
      → kept.entries ≡ live_entries live so_far.entries → kept.room ≡ so_far.room
      → StepsSoundly seen (iter f number e) (iter_held a so_far) now item (iter_held a' kept) None
  sound_step_iter_none f number e a a' so_far kept now item live piece first keeps room =
      λ standing columns position is_next clear is sound.
      let x = first bound columns position is_next clear.0 is sound.0 in
      record {
        node = (x.node, entries_kept type.Number _ live so_far kept sound.1 keeps room);
        hit = tt;
      }

  pub sound_step_iter_some : (f : Qre) (number : ℤ) (e : Expression) (a a' a'' : Holding R)
      (so_far kept new : Contents Value) (now : ℕ) (item : List Field) (live : ℕ → Bool)
      (piece begun : Option Hit) (hit : Hit) (is_live : Bool)
      → StepsSoundly seen f a now item a' piece → IsEnded e so_far.entries piece (Some hit)
      → kept.entries ≡ live_entries live so_far.entries → kept.room ≡ so_far.room
      → StartsSoundly seen f a' now a'' begun
      → IsPut is_live kept (record { inner = now; outer = hit.start; value = hit.value }) new
      → StepsSoundly seen (iter f number e) (iter_held a so_far) now item
      (iter_held a'' new) (Some hit)
  sound_step_iter_some f number e a a' a'' so_far kept new now item live piece begun hit is_live
      first ended keeps room second put =
      λ standing columns position is_next clear is sound.
      let x = first bound columns position is_next clear.0 is sound.0 in
      let y = second bound columns clear.0 x.node in
      let typed = ended_of type.Number (type_of columns f) type.Number e so_far.entries
      piece (Some hit) sound.1.typed x.hit clear.2 ended in
      record {
        node = (
          y.node,
          entries_put type.Number _ is_live kept new
              (record { inner = now; outer = hit.start; value = hit.value })
              (entries_kept type.Number _ live so_far kept sound.1 keeps room) typed put,
        );
        hit = typed;
      }
