-- The shapes without lists of their own, in memory: atom, eps, or, apply and combine.
use Rattle.std.proofs.Common.{◌≡◌, ℕ, true, false, List, Option, Some, None, Ok, refl, w64}
use Rattle.std.specs.Option.{option_or}
use Rattle.std.specs.Prelude.{ℤ, FitsSigned}
use Rattle.value_ops.specs.declared.field.Field.{Field}
use Rattle.value_ops.specs.declared.scalar.Scalar.TheVariants.{Number}
use Rattle.value_ops.specs.declared.value.Value.{Value}
use Rattle.value_ops.specs.declared.value.Value.TheVariants as value
use Rattle.expressions.specs.Evaluation.{given, value_of}
use Rattle.expressions.specs.Expressions.{Expression}
use Rattle.predicates.specs.Predicates.{Predicate}
use Rattle.predicates.specs.Truth.{holds}
use Rattle.query_model.specs.Queries.{Qre, atom, eps, choice, combine, apply}
use Rattle.eval_nodes.specs.declared.progress.Progress.{Progress}
use Rattle.eval_nodes.specs.Holdings.{Holding, atom_held, eps_held, choice_held, combine_held}
use Rattle.eval_nodes.specs.Holdings.{apply_held}
use Rattle.eval_nodes.specs.Plain.{seen_of}
use Rattle.step_laws.specs.declared.hit.Hit.{Hit}
use Rattle.step_laws.specs.Calls.{HasStarted, HasStepped}
use Rattle.step_laws.specs.Lefts.{AreCombined, IsApplied}
use Rattle.step_laws.proofs.Choices.{start_apply, start_choice, step_apply, step_choice}
use Rattle.step_laws.proofs.Combines.{start_combine, step_combine}
use Rattle.step_laws.proofs.FoldSoundness.{sound_start_combine, sound_step_combine}
use Rattle.step_laws.proofs.Items.{start_atom, step_atom, step_atom_none, step_atom_other, step_eps}
use Rattle.step_laws.proofs.Soundness.{sound_start_apply, sound_start_atom, sound_start_choice}
use Rattle.step_laws.proofs.Soundness.{sound_step_apply, sound_step_atom, sound_step_atom_none}
use Rattle.step_laws.proofs.Soundness.{sound_step_choice, sound_step_eps}

-- an atom
pub atom_starts : (pred : Predicate) (e : Expression) (old : Option ℕ) (at : ℕ)
    → HasStarted seen_of (atom pred e) (atom_held old) at (atom_held (Some at)) (Ok None)
atom_starts pred e old at = record {
  word = start_atom seen_of pred e old at;
  sound = sound_start_atom seen_of pred e old at;
  no_memory = λ free. refl;
}

pub atom_steps : (pred : Predicate) (e : Expression) (begun now : ℕ) (item : List Field) (v : Value)
    → holds pred item ≡ true → value_of (given item None None) e ≡ Some v
    → HasStepped seen_of (atom pred e) (atom_held (Some begun)) now item (atom_held None)
    (Ok (Some (record { start = begun; value = v })))
atom_steps pred e begun now item v meets gives = record {
  word = step_atom seen_of pred e begun now item v meets gives;
  sound = sound_step_atom seen_of pred e (Some begun) now begun item v gives;
  no_memory = λ free. refl;
}

pub atom_steps_other : (pred : Predicate) (e : Expression) (begun now : ℕ) (item : List Field)
    → holds pred item ≡ false
    → HasStepped seen_of (atom pred e) (atom_held (Some begun)) now item (atom_held None) (Ok None)
atom_steps_other pred e begun now item not = record {
  word = step_atom_other seen_of pred e begun now item not;
  sound = sound_step_atom_none seen_of pred e (Some begun) now item;
  no_memory = λ free. refl;
}

pub atom_steps_none : (pred : Predicate) (e : Expression) (now : ℕ) (item : List Field)
    → HasStepped seen_of (atom pred e) (atom_held None) now item (atom_held None) (Ok None)
atom_steps_none pred e now item = record {
  word = step_atom_none seen_of pred e now item;
  sound = sound_step_atom_none seen_of pred e None now item;
  no_memory = λ free. refl;
}

-- the empty word, for which nothing else is kept
pub eps_starts : (number : ℤ) → FitsSigned w64 number → (held : Holding Progress) (at : ℕ)
    → HasStarted seen_of (eps number) held at held
    (Ok (Some (record { start = at; value = value.Scalar (Number number) })))
eps_starts number fits eps_held at = record {
  word = λ standing columns word starts clear is positions rep fresh end apart.
      record { after = tt; hit = (refl, (refl, refl)) };
  sound = λ standing columns clear sound. record { node = tt; hit = (refl, fits) };
  no_memory = λ free. refl;
}
eps_starts number fits held at = record {
  word = λ standing columns word starts clear is positions rep fresh end apart. absurd rep;
  sound = λ standing columns clear sound. absurd sound;
  no_memory = λ free. refl;
}

pub eps_steps : (number : ℤ) (held : Holding Progress) (now : ℕ) (item : List Field)
    → HasStepped seen_of (eps number) held now item held (Ok None)
eps_steps number eps_held now item = record {
  word = step_eps seen_of number now item;
  sound = sound_step_eps seen_of number now item;
  no_memory = λ free. refl;
}
eps_steps number held now item = record {
  word = λ standing columns word starts clear is positions rep end apart. absurd rep;
  sound = λ standing columns position is_next clear is sound. absurd sound;
  no_memory = λ free. refl;
}

module _ (f g : Qre) (a b a' b' : Holding Progress) where
  -- either of two
  pub choice_starts : (at : ℕ) (left right : Option Hit) → HasStarted seen_of f a at a' (Ok left)
      → HasStarted seen_of g b at b' (Ok right)
      → HasStarted seen_of (choice f g) (choice_held a b) at (choice_held a' b')
      (Ok (option_or left right))
  choice_starts at left right first second = record {
    word = start_choice seen_of f g a b a' b' at left right first.word second.word;
    sound = sound_start_choice seen_of f g a b a' b' at left right first.sound second.sound;
    no_memory = λ free. refl;
  }

  pub choice_steps : (now : ℕ) (item : List Field) (left right : Option Hit)
      → HasStepped seen_of f a now item a' (Ok left) → HasStepped seen_of g b now item b' (Ok right)
      → HasStepped seen_of (choice f g) (choice_held a b) now item (choice_held a' b')
      (Ok (option_or left right))
  choice_steps now item left right first second = record {
    word = step_choice seen_of f g a b a' b' now item left right first.word second.word;
    sound = sound_step_choice seen_of f g a b a' b' now item left right first.sound second.sound;
    no_memory = λ free. refl;
  }

  -- a combine
  pub combine_starts : (e : Expression) (at : ℕ) (left right hit : Option Hit)
      → HasStarted seen_of f a at a' (Ok left) → HasStarted seen_of g b at b' (Ok right)
      → AreCombined e left right hit
      → HasStarted seen_of (combine f g e) (combine_held a b) at (combine_held a' b') (Ok hit)
  combine_starts e at left right hit first second combined = record {
    word = start_combine seen_of f g e a b a' b' at left right hit first.word second.word combined;
    sound = sound_start_combine seen_of f g e a b a' b' at left right hit first.sound
        second.sound combined;
    no_memory = λ free. refl;
  }

  pub combine_steps : (e : Expression) (now : ℕ) (item : List Field) (left right hit : Option Hit)
      → HasStepped seen_of f a now item a' (Ok left) → HasStepped seen_of g b now item b' (Ok right)
      → AreCombined e left right hit
      → HasStepped seen_of (combine f g e) (combine_held a b) now item (combine_held a' b') (Ok hit)
  combine_steps e now item left right hit first second combined = record {
    word = step_combine seen_of f g e a b a' b' now item left right hit first.word
        second.word combined;
    sound = sound_step_combine seen_of f g e a b a' b' now item left right hit first.sound
        second.sound combined;
    no_memory = λ free. refl;
  }

-- an expression on a value
module _ (f : Qre) (e : Expression) (a a' : Holding Progress) where
  pub apply_starts : (at : ℕ) (inner hit : Option Hit) → HasStarted seen_of f a at a' (Ok inner)
      → IsApplied e inner hit
      → HasStarted seen_of (apply f e) (apply_held a) at (apply_held a') (Ok hit)
  apply_starts at inner hit first applied = record {
    word = start_apply seen_of f e a a' at inner hit first.word applied;
    sound = sound_start_apply seen_of f e a a' at inner hit first.sound applied;
    no_memory = λ free. refl;
  }

  pub apply_steps : (now : ℕ) (item : List Field) (inner hit : Option Hit)
      → HasStepped seen_of f a now item a' (Ok inner) → IsApplied e inner hit
      → HasStepped seen_of (apply f e) (apply_held a) now item (apply_held a') (Ok hit)
  apply_steps now item inner hit first applied = record {
    word = step_apply seen_of f e a a' now item inner hit first.word applied;
    sound = sound_step_apply seen_of f e a a' now item inner hit first.sound applied;
    no_memory = λ free. refl;
  }
