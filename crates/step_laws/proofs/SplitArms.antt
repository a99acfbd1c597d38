-- A split in memory.
use Rattle.std.proofs.Common.{◌≡◌, ℕ, Bool, Option, Some, None, Ok, ap, inl, inr, refl}
use Rattle.std.specs.Option.{option_or}
use Rattle.value_ops.specs.declared.field.Field.{Field}
use Rattle.value_ops.specs.declared.value.Value.{Value}
use Rattle.expressions.specs.Expressions.{Expression}
use Rattle.std.specs.Prelude.{List}
use Rattle.query_model.specs.Queries.{Qre, split}
use Rattle.split_eval.specs.Entries.{Contents, live_entries}
use Rattle.split_eval.specs.declared.entry.Entry.{Entry}
use Rattle.eval_nodes.specs.declared.progress.Progress.{Progress}
use Rattle.eval_nodes.specs.Holdings.{Holding, split_held}
use Rattle.eval_nodes.specs.Live.{live_of}
use Rattle.eval_nodes.specs.Plain.{seen_of}
use Rattle.step_laws.specs.declared.hit.Hit.{Hit}
use Rattle.step_laws.specs.Calls.{HasStarted, HasStepped}
use Rattle.step_laws.specs.Lefts.{IsEnded, IsJoined, IsPut}
use Rattle.step_laws.proofs.Elsewhere.{elsewhere}
use Rattle.step_laws.proofs.Soundness.{sound_start_split_none, sound_start_split_some}
use Rattle.step_laws.proofs.Soundness.{sound_step_split_none, sound_step_split_some}
use Rattle.step_laws.proofs.SplitStarts.{start_split_none, start_split_some}
use Rattle.step_laws.proofs.SplitSteps.{step_split_none, step_split_some}

pub put_room : (live : Bool) (old new : Contents Value) (entry : Entry Value)
    → IsPut live old entry new → new.room ≡ old.room
put_room live old new entry put = elim put [
  | inl (can, entries, room) ↦ room
  | inr (cannot, same) ↦ ap (λ (held : Contents Value). held.room) same
]

module _ (f g : Qre) (e : Expression) (a b a' b' : Holding Progress) where
  pub split_starts_none : (held : Contents Value) (at : ℕ) → HasStarted seen_of f a at a' (Ok None)
      → HasStarted seen_of (split f g e) (split_held a b held) at (split_held a' b held) (Ok None)
  split_starts_none held at first = record {
    word = start_split_none seen_of f g e a b a' held at first.word;
    sound = sound_start_split_none seen_of f g e a b a' held at first.sound;
    no_memory = λ free. refl;
  }

  pub split_starts : (held new : Contents Value) (at : ℕ) (left : Hit)
      (right hit : Option Hit) (live : Bool) → HasStarted seen_of f a at a' (Ok (Some left))
      → HasStarted seen_of g b at b' (Ok right) → IsJoined e left.start left.value right hit
      → live ≡ live_of g b' at
      → IsPut live held (record { inner = at; outer = left.start; value = left.value }) new
      → HasStarted seen_of (split f g e) (split_held a b held) at (split_held a' b' new) (Ok hit)
  split_starts held new at left right hit live first second joined is_live put = record {
    word = start_split_some seen_of f g e a b a' b' held new at left right hit live first.word
        second.word joined
        is_live put (put_room live held new
        (record { inner = at; outer = left.start; value = left.value }) put);
    sound = sound_start_split_some seen_of f g e a b a' b' held new at left right hit live
        first.sound second.sound joined put;
    no_memory = λ free. refl;
  }

  pub split_steps_none : (held kept : Contents Value) (now : ℕ) (item : List Field)
      (right hit : Option Hit) → HasStepped seen_of f a now item a' (Ok None)
      → HasStepped seen_of g b now item b' (Ok right) → IsEnded e held.entries right hit
      → kept.entries ≡ live_entries (elsewhere now (live_of g b')) held.entries
      → kept.room ≡ held.room → HasStepped seen_of (split f g e) (split_held a b held) now item
      (split_held a' b' kept) (Ok hit)
  split_steps_none held kept now item right hit first second ended keeps room = record {
    word = step_split_none seen_of f g e a b a' b' held kept now item right hit first.word
        second.word ended keeps room;
    sound = sound_step_split_none seen_of f g e a b a' b' held kept now item
        (elsewhere now (live_of g b')) right hit first.sound second.sound ended keeps room;
    no_memory = λ free. refl;
  }

  pub split_steps_some : (b'' : Holding Progress) (held kept new : Contents Value) (now : ℕ)
      (item : List Field) (left : Hit) (right begun hit second_hit : Option Hit) (live : Bool)
      → HasStepped seen_of f a now item a' (Ok (Some left))
      → HasStepped seen_of g b now item b' (Ok right) → IsEnded e held.entries right hit
      → kept.entries ≡ live_entries (elsewhere now (live_of g b')) held.entries
      → kept.room ≡ held.room → HasStarted seen_of g b' now b'' (Ok begun)
      → IsJoined e left.start left.value begun second_hit → live ≡ live_of g b'' now
      → IsPut live kept (record { inner = now; outer = left.start; value = left.value }) new
      → HasStepped seen_of (split f g e) (split_held a b held) now item (split_held a' b'' new)
      (Ok (option_or hit second_hit))
  split_steps_some b'' held kept new now item left right begun hit second_hit live first second
      ended keeps room third joined is_live put = record {
        word = step_split_some seen_of f g e a b a' b' b'' held kept new now item left right begun
            hit second_hit live first.word second.word ended keeps room third.word
            joined is_live put
            (put_room live kept new
            (record { inner = now; outer = left.start; value = left.value }) put);
        sound = sound_step_split_some seen_of f g e a b a' b' b'' held kept new now item
            (elsewhere now (live_of g b')) left right begun hit second_hit live first.sound
            second.sound ended keeps room third.sound joined put;
        no_memory = λ free. refl;
      }
