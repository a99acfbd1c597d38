-- An iteration in memory.
use Rattle.std.proofs.Common.{◌≡◌, ℕ, Bool, List, Option, Some, None, Ok, refl}
use Rattle.std.specs.Prelude.{ℤ}
use Rattle.value_ops.specs.declared.field.Field.{Field}
use Rattle.value_ops.specs.declared.scalar.Scalar.TheVariants.{Number}
use Rattle.value_ops.specs.declared.value.Value.{Value}
use Rattle.value_ops.specs.declared.value.Value.TheVariants as value
use Rattle.expressions.specs.Expressions.{Expression}
use Rattle.query_model.specs.Queries.{Qre, iter}
use Rattle.split_eval.specs.Entries.{Contents, live_entries}
use Rattle.eval_nodes.specs.declared.progress.Progress.{Progress}
use Rattle.eval_nodes.specs.Holdings.{Holding, iter_held}
use Rattle.eval_nodes.specs.Live.{live_of}
use Rattle.eval_nodes.specs.Plain.{seen_of}
use Rattle.step_laws.specs.declared.hit.Hit.{Hit}
use Rattle.step_laws.specs.Calls.{HasStarted, HasStepped}
use Rattle.step_laws.specs.Lefts.{IsEnded, IsPut}
use Rattle.step_laws.proofs.Elsewhere.{elsewhere}
use Rattle.step_laws.proofs.FoldSoundness.{sound_start_iter, sound_step_iter_none}
use Rattle.step_laws.proofs.FoldSoundness.{sound_step_iter_some}
use Rattle.step_laws.proofs.IterStarts.{start_iter}
use Rattle.step_laws.proofs.IterSteps.{step_iter_none, step_iter_some}
use Rattle.step_laws.proofs.SplitArms.{put_room}

module _ (f : Qre) (number : ℤ) (e : Expression) (a a' : Holding Progress) where
  pub iter_starts : (so_far new : Contents Value) (at : ℕ) (operand : Option Hit) (live : Bool)
      → HasStarted seen_of f a at a' (Ok operand) → live ≡ live_of f a' at
      → IsPut live so_far
      (record { inner = at; outer = at; value = value.Scalar (Number number) }) new
      → HasStarted seen_of (iter f number e) (iter_held a so_far) at (iter_held a' new)
      (Ok (Some (record { start = at; value = value.Scalar (Number number) })))
  iter_starts so_far new at operand live first is_live put = record {
    word = start_iter seen_of f number e a a' so_far new at operand live first.word is_live put
        (put_room live so_far new
        (record { inner = at; outer = at; value = value.Scalar (Number number) }) put);
    sound = sound_start_iter seen_of f number e a a' so_far new at operand live first.sound put;
    no_memory = λ free. refl;
  }

  pub iter_steps_none : (so_far kept : Contents Value) (now : ℕ) (item : List Field)
      (piece : Option Hit) → HasStepped seen_of f a now item a' (Ok piece)
      → IsEnded e so_far.entries piece None
      → kept.entries ≡ live_entries (elsewhere now (live_of f a')) so_far.entries
      → kept.room ≡ so_far.room → HasStepped seen_of (iter f number e) (iter_held a so_far) now item
      (iter_held a' kept) (Ok None)
  iter_steps_none so_far kept now item piece first ended keeps room = record {
    word = step_iter_none seen_of f number e a a' so_far kept now item piece first.word
        ended keeps room;
    sound = sound_step_iter_none seen_of f number e a a' so_far kept now item
        (elsewhere now (live_of f a')) piece first.sound keeps room;
    no_memory = λ free. refl;
  }

  pub iter_steps_some : (a'' : Holding Progress) (so_far kept new : Contents Value) (now : ℕ)
      (item : List Field) (piece begun : Option Hit) (hit : Hit) (live : Bool)
      → HasStepped seen_of f a now item a' (Ok piece) → IsEnded e so_far.entries piece (Some hit)
      → kept.entries ≡ live_entries (elsewhere now (live_of f a')) so_far.entries
      → kept.room ≡ so_far.room → HasStarted seen_of f a' now a'' (Ok begun)
      → live ≡ live_of f a'' now
      → IsPut live kept (record { inner = now; outer = hit.start; value = hit.value }) new
      → HasStepped seen_of (iter f number e) (iter_held a so_far) now item
      (iter_held a'' new) (Ok (Some hit))
  iter_steps_some a'' so_far kept new now item piece begun hit live first ended keeps room second
      is_live put = record {
        word =
            step_iter_some seen_of f number e a a' a'' so_far kept new now item piece begun hit live
            first.word ended keeps room second.word is_live put
            (put_room live kept new
            (record { inner = now; outer = hit.start; value = hit.value }) put);
        sound = sound_step_iter_some seen_of f number e a a' a'' so_far kept new now item
            (elsewhere now (live_of f a')) piece begun hit live first.sound ended keeps room
            second.sound put;
        no_memory = λ free. refl;
      }
