-- Nodes stay sound.
use Rattle.std.proofs.Common.{◌≡◌, ℕ, Bool, List, Option, Some, None, subst}
use Rattle.std.specs.Option.{option_or}
use Rattle.std.specs.Prelude.{ℤ}
use Rattle.value_ops.specs.declared.field.Field.{Field}
use Rattle.value_ops.specs.declared.value.Value.{Value}
use Rattle.value_ops.specs.declared.value.ValueType.{ValueType}
use Rattle.expressions.specs.Evaluation.{given, value_of}
use Rattle.expressions.specs.Expressions.{Expression}
use Rattle.predicates.specs.Predicates.{Predicate}
use Rattle.query_model.specs.Queries.{Qre, atom, eps, choice, split, apply}
use Rattle.query_model.specs.QueryTypes.{type_of}
use Rattle.query_model.specs.Rules.{bound}
use Rattle.query_model.proofs.Expressed.{atom_ranges}
use Rattle.split_eval.specs.Entries.{Contents, live_entries}
use Rattle.eval_nodes.specs.Holdings.{Holding, atom_held, eps_held, choice_held, apply_held}
use Rattle.eval_nodes.specs.Holdings.{split_held, Seen}
use Rattle.step_laws.specs.declared.hit.Hit.{Hit}
use Rattle.step_laws.specs.Lefts.{IsApplied, IsEnded, IsJoined, IsPut}
use Rattle.step_laws.specs.Steps.{IsHitAt, IsHitOf, StartsSoundly, StepsSoundly}
use Rattle.step_laws.proofs.Typed.{applied_at, applied_of, ended_of, entries_kept, entries_put}
use Rattle.step_laws.proofs.Typed.{hit_of, joined_of}

either_at : (type : ValueType) (at : ℕ) (left right : Option Hit) → IsHitAt type at left
    → IsHitAt type at right → IsHitAt type at (option_or left right)
either_at type at None right a b = b
either_at type at (Some found) right a b = a

either_of : (type : ValueType) (left right : Option Hit) → IsHitOf type left → IsHitOf type right
    → IsHitOf type (option_or left right)
either_of type None right a b = b
either_of type (Some found) right a b = a

module _ {R : Type 0} (seen : R → Seen R) where
  pub sound_start_atom : (pred : Predicate) (e : Expression) (old : Option ℕ) (at : ℕ)
      → StartsSoundly seen (atom pred e) (atom_held old) at (atom_held (Some at)) None
  sound_start_atom pred e old at = λ standing columns clear sound. record { node = tt; hit = tt }

  pub sound_start_choice : (f g : Qre) (a b a' b' : Holding R) (at : ℕ) (left right : Option Hit)
      → StartsSoundly seen f a at a' left → StartsSoundly seen g b at b' right
      → StartsSoundly seen (choice f g) (choice_held a b) at (choice_held a' b')
      (option_or left right)
  sound_start_choice f g a b a' b' at left right first second = λ standing columns clear sound.
      let x = first bound columns clear.0 sound.0 in
      let y = second bound columns clear.1 sound.1 in
      record {
        node = (x.node, y.node);
        hit = either_at (type_of columns f) at left right x.hit
            (subst (λ type. IsHitAt type at right) clear.2 y.hit);
      }

  pub sound_start_apply : (f : Qre) (e : Expression) (a a' : Holding R) (at : ℕ)
      (inner hit : Option Hit) → StartsSoundly seen f a at a' inner → IsApplied e inner hit
      → StartsSoundly seen (apply f e) (apply_held a) at (apply_held a') hit
  sound_start_apply f e a a' at inner hit first applied = λ standing columns clear sound.
      let x = first bound columns clear.0 sound in
      record {
        node = x.node;
        hit = applied_at (type_of columns f) _ e at inner hit x.hit clear.1 applied;
      }

  pub sound_start_split_none : (f g : Qre) (e : Expression) (a b a' : Holding R)
      (held : Contents Value) (at : ℕ) → StartsSoundly seen f a at a' None
      → StartsSoundly seen (split f g e) (split_held a b held) at (split_held a' b held) None
  sound_start_split_none f g e a b a' held at first = λ standing columns clear sound.
      let x = first bound columns clear.0 sound.0 in
      record { node = (x.node, sound.1, sound.2); hit = tt }

  pub sound_start_split_some : (f g : Qre) (e : Expression) (a b a' b' : Holding R)
      (held new : Contents Value) (at : ℕ) (left : Hit) (right hit : Option Hit) (live : Bool)
      → StartsSoundly seen f a at a' (Some left) → StartsSoundly seen g b at b' right
      → IsJoined e left.start left.value right hit
      → IsPut live held (record { inner = at; outer = left.start; value = left.value }) new
      → StartsSoundly seen (split f g e) (split_held a b held) at (split_held a' b' new) hit
  sound_start_split_some f g e a b a' b' held new at left right hit live first second joined put =
      λ standing columns clear sound.
      let x = first bound columns clear.0 sound.0 in
      let y = second bound columns clear.1 sound.1 in
      record {
        node = (
          x.node,
          y.node,
          entries_put (type_of columns f) _ live held new
              (record { inner = at; outer = left.start; value = left.value }) sound.2 x.hit.1 put,
        );
        hit = subst (λ s. IsHitAt (type_of columns (split f g e)) s hit) x.hit.0
            (joined_of (type_of columns f) (type_of columns g) _ e left.start left.value
            right hit x.hit.1 (hit_of (type_of columns g) at right y.hit) clear.2 joined);
      }

  pub sound_step_atom_none : (pred : Predicate) (e : Expression) (old : Option ℕ) (now : ℕ)
      (item : List Field)
      → StepsSoundly seen (atom pred e) (atom_held old) now item (atom_held None) None
  sound_step_atom_none pred e old now item = λ standing columns position is_next clear is sound.
      record { node = tt; hit = tt }

  pub sound_step_atom : (pred : Predicate) (e : Expression) (old : Option ℕ) (now start : ℕ)
      (item : List Field) (v : Value)
      → value_of (given item None None) e ≡ Some v
      → StepsSoundly seen (atom pred e) (atom_held old) now item (atom_held None)
      (Some (record { start = start; value = v }))
  sound_step_atom pred e old now start item v gives =
      λ standing columns position is_next clear is sound. record {
        node = tt;
        hit = atom_ranges columns item e v is clear.1 gives;
      }

  pub sound_step_eps : (number : ℤ) (now : ℕ) (item : List Field)
      → StepsSoundly seen (eps number) eps_held now item eps_held None
  sound_step_eps number now item =
      λ standing columns position is_next clear is sound. record { node = tt; hit = tt }

  pub sound_step_choice : (f g : Qre) (a b a' b' : Holding R) (now : ℕ) (item : List Field)
      (left right : Option Hit) → StepsSoundly seen f a now item a' left
      → StepsSoundly seen g b now item b' right → StepsSoundly seen (choice f g) (choice_held a b)
      now item (choice_held a' b') (option_or left right)
  sound_step_choice f g a b a' b' now item left right first second =
      λ standing columns position is_next clear is sound.
      let x = first bound columns position is_next clear.0 is sound.0 in
      let y = second bound columns position is_next clear.1 is sound.1 in
      record {
        node = (x.node, y.node);
        hit = either_of (type_of columns f) left right x.hit
            (subst (λ type. IsHitOf type right) clear.2 y.hit);
      }

  pub sound_step_apply : (f : Qre) (e : Expression) (a a' : Holding R) (now : ℕ) (item : List Field)
      (inner hit : Option Hit)
      → StepsSoundly seen f a now item a' inner → IsApplied e inner hit
      → StepsSoundly seen (apply f e) (apply_held a) now item (apply_held a') hit
  sound_step_apply f e a a' now item inner hit first applied =
      λ standing columns position is_next clear is sound.
      let x = first bound columns position is_next clear.0 is sound in
      record {
        node = x.node;
        hit = applied_of (type_of columns f) _ e inner hit x.hit clear.1 applied;
      }

  pub sound_step_split_none : (f g : Qre) (e : Expression) (a b a' b' : Holding R)
      (held kept : Contents Value) (now : ℕ)
      (item : List Field) (live : ℕ → Bool) (right hit : Option Hit)
      → StepsSoundly seen f a now item a' None → StepsSoundly seen g b now item b' right
      → IsEnded e held.entries right hit
      → kept.entries ≡ live_entries live held.entries → kept.room ≡ held.room
      → StepsSoundly seen (split f g e) (split_held a b held) now item (split_held a' b' kept) hit
  sound_step_split_none f g e a b a' b' held kept now item live right hit first second
      ended keeps room =
      λ standing columns position is_next clear is sound.
      let x = first bound columns position is_next clear.0 is sound.0 in
      let y = second bound columns position is_next clear.1 is sound.1 in
      record {
        node =
            (x.node, y.node, entries_kept (type_of columns f) _ live held kept sound.2 keeps room);
        hit = ended_of (type_of columns f) (type_of columns g) _ e held.entries right hit
            sound.2.typed y.hit clear.2 ended;
      }

  pub sound_step_split_some : (f g : Qre) (e : Expression) (a b a' b' b'' : Holding R)
      (held kept new : Contents Value) (now : ℕ) (item : List Field) (live : ℕ → Bool) (left : Hit)
      (right begun hit second_hit : Option Hit) (is_live : Bool)
      → StepsSoundly seen f a now item a' (Some left) → StepsSoundly seen g b now item b' right
      → IsEnded e held.entries right hit
      → kept.entries ≡ live_entries live held.entries → kept.room ≡ held.room
      → StartsSoundly seen g b' now b'' begun → IsJoined e left.start left.value begun second_hit
      → IsPut is_live kept (record { inner = now; outer = left.start; value = left.value }) new
      → StepsSoundly seen (split f g e) (split_held a b held) now item (split_held a' b'' new)
      (option_or hit second_hit)
  sound_step_split_some f g e a b a' b' b'' held kept new now item live left right begun hit
      second_hit is_live first second ended keeps room third joined put =
      λ standing columns position is_next clear is sound.
      let x = first bound columns position is_next clear.0 is sound.0 in
      let y = second bound columns position is_next clear.1 is sound.1 in
      let z = third bound columns clear.1 y.node in
      record {
        node = (
          x.node,
          z.node,
          entries_put (type_of columns f) _ is_live kept new
              (record { inner = now; outer = left.start; value = left.value })
              (entries_kept (type_of columns f) _ live held kept sound.2 keeps room) x.hit put,
        );
        hit = either_of _ hit second_hit
            (ended_of (type_of columns f) (type_of columns g) _ e held.entries right hit
            sound.2.typed y.hit clear.2 ended)
            (hit_of _ left.start second_hit
            (joined_of (type_of columns f) (type_of columns g) _ e left.start left.value begun
            second_hit x.hit (hit_of (type_of columns g) now begun z.hit) clear.2 joined));
      }
