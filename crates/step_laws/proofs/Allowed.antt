-- When the calls of the operands may be made.
use Rattle.std.proofs.Common.{◌<◌, ℕ, ◌+◌, ◌^◌, List, Option, Some, None, sym, subst, arith}
use Rattle.value_ops.specs.declared.field.Field.{Field}
use Rattle.value_ops.specs.declared.value.Value.{Value}
use Rattle.value_ops.specs.declared.value.ValueType.{ValueType}
use Rattle.expressions.specs.Evaluation.{given}
use Rattle.expressions.specs.Expressions.{Expression}
use Rattle.expressions.specs.Typing.{HasType, types_of}
use Rattle.predicates.specs.Predicates.{Predicate}
use Rattle.query_model.specs.Following.{composes_of}
use Rattle.query_model.specs.Queries.{Qre, atom, choice, split, apply}
use Rattle.query_model.specs.QueryTypes.{of_columns, type_of, type_of_expression}
use Rattle.query_model.specs.Rules.{bound}
use Rattle.query_model.proofs.ItemFields.{atom_types}
use Rattle.split_eval.specs.Entries.{Contents}
use Rattle.eval_nodes.specs.Holdings.{Holding, atom_held, choice_held, apply_held, split_held, Seen}
use Rattle.step_laws.specs.declared.hit.Hit.{Hit}
use Rattle.step_laws.specs.Lefts.{AreTypedWith, IsTypedOnHit, IsTypedWith}
use Rattle.step_laws.specs.Steps.{CanStart, CanStep, StartsSoundly, StepsSoundly}
use Rattle.step_laws.proofs.Typed.{all_typed_with, hit_of, typed_on_hit, typed_with}

module _ {R : Type 0} (seen : R → Seen R) where
  -- starts
  unfoldable pub start_first : (f g : Qre) (a b : Holding R) (at : ℕ)
      → CanStart seen (choice f g) (choice_held a b) at → CanStart seen f a at
  start_first f g a b at can =
      let room : at + (composes_of f + composes_of g) < 2 ^ 64 = can.room in record {
        standing = bound;
        columns = can.columns;
        clear = can.clear.0;
        sound = can.sound.0;
        room = omega (arith, room);
      }

  unfoldable pub start_second : (f g : Qre) (a b : Holding R) (at : ℕ)
      → CanStart seen (choice f g) (choice_held a b) at → CanStart seen g b at
  start_second f g a b at can =
      let room : at + (composes_of f + composes_of g) < 2 ^ 64 = can.room in record {
        standing = bound;
        columns = can.columns;
        clear = can.clear.1;
        sound = can.sound.1;
        room = omega (arith, room);
      }

  unfoldable pub start_operand : (f : Qre) (e : Expression) (a : Holding R) (at : ℕ)
      → CanStart seen (apply f e) (apply_held a) at
      → CanStart seen f a at
  start_operand f e a at can = record {
    standing = bound;
    columns = can.columns;
    clear = can.clear.0;
    sound = can.sound;
    room = can.room;
  }

  pub started_apply : (f : Qre) (e : Expression) (a a' : Holding R) (at : ℕ) (hit : Option Hit)
      → CanStart seen (apply f e) (apply_held a) at → StartsSoundly seen f a at a' hit
      → IsTypedOnHit e hit
  started_apply f e a a' at hit can first =
      let x = first bound can.columns can.clear.0 can.sound in
      typed_on_hit (type_of can.columns f) _ e hit (hit_of (type_of can.columns f) at hit x.hit)
      can.clear.1

  unfoldable pub start_left : (f g : Qre) (e : Expression) (a b : Holding R)
      (held : Contents Value) (at : ℕ) → CanStart seen (split f g e) (split_held a b held) at
      → CanStart seen f a at
  start_left f g e a b held at can =
      let room : at + (composes_of f + composes_of g) < 2 ^ 64 = can.room in record {
        standing = bound;
        columns = can.columns;
        clear = can.clear.0;
        sound = can.sound.0;
        room = omega (arith, room);
      }

  unfoldable pub start_right : (f g : Qre) (e : Expression) (a b : Holding R)
      (held : Contents Value) (at : ℕ) → CanStart seen (split f g e) (split_held a b held) at
      → CanStart seen g b at
  start_right f g e a b held at can =
      let room : at + (composes_of f + composes_of g) < 2 ^ 64 = can.room in record {
        standing = bound;
        columns = can.columns;
        clear = can.clear.1;
        sound = can.sound.1;
        room = omega (arith, room);
      }

  pub started_split : (f g : Qre) (e : Expression) (a b a' b' : Holding R) (held : Contents Value)
      (at : ℕ) (left : Hit) (right : Option Hit)
      → CanStart seen (split f g e) (split_held a b held) at
      → StartsSoundly seen f a at a' (Some left) → StartsSoundly seen g b at b' right
      → IsTypedWith e left.value right
  started_split f g e a b a' b' held at left right can first second =
      let x = first bound can.columns can.clear.0 can.sound.0 in
      let y = second bound can.columns can.clear.1 can.sound.1 in
      typed_with (type_of can.columns f) (type_of can.columns g) _ e left.value right x.hit.1
      (hit_of (type_of can.columns g) at right y.hit) can.clear.2

  -- steps
  unfoldable pub step_first : (f g : Qre) (a b : Holding R) (now : ℕ) (item : List Field)
      → CanStep seen (choice f g) (choice_held a b) now item → CanStep seen f a now item
  step_first f g a b now item can =
      let room : now + (composes_of f + composes_of g) < 2 ^ 64 = can.room in record {
        standing = bound;
        columns = can.columns;
        position = can.position;
        is_next = can.is_next;
        clear = can.clear.0;
        sound = can.sound.0;
        is_item = can.is_item;
        room = omega (arith, room);
      }

  unfoldable pub step_second : (f g : Qre) (a b : Holding R) (now : ℕ) (item : List Field)
      → CanStep seen (choice f g) (choice_held a b) now item → CanStep seen g b now item
  step_second f g a b now item can =
      let room : now + (composes_of f + composes_of g) < 2 ^ 64 = can.room in record {
        standing = bound;
        columns = can.columns;
        position = can.position;
        is_next = can.is_next;
        clear = can.clear.1;
        sound = can.sound.1;
        is_item = can.is_item;
        room = omega (arith, room);
      }

  unfoldable pub step_operand : (f : Qre) (e : Expression) (a : Holding R) (now : ℕ)
      (item : List Field) → CanStep seen (apply f e) (apply_held a) now item
      → CanStep seen f a now item
  step_operand f e a now item can = record {
    standing = bound;
    columns = can.columns;
    position = can.position;
    is_next = can.is_next;
    clear = can.clear.0;
    sound = can.sound;
    is_item = can.is_item;
    room = can.room;
  }

  pub stepped_apply : (f : Qre) (e : Expression) (a a' : Holding R) (now : ℕ) (item : List Field)
      (hit : Option Hit) → CanStep seen (apply f e) (apply_held a) now item
      → StepsSoundly seen f a now item a' hit → IsTypedOnHit e hit
  stepped_apply f e a a' now item hit can first =
      let x = first bound can.columns can.position can.is_next can.clear.0
      can.is_item can.sound in
      typed_on_hit (type_of can.columns f) _ e hit x.hit can.clear.1

  unfoldable pub step_left : (f g : Qre) (e : Expression) (a b : Holding R)
      (held : Contents Value) (now : ℕ) (item : List Field)
      → CanStep seen (split f g e) (split_held a b held) now item → CanStep seen f a now item
  step_left f g e a b held now item can =
      let room : now + (composes_of f + composes_of g) < 2 ^ 64 = can.room in record {
        standing = bound;
        columns = can.columns;
        position = can.position;
        is_next = can.is_next;
        clear = can.clear.0;
        sound = can.sound.0;
        is_item = can.is_item;
        room = omega (arith, room);
      }

  unfoldable pub step_right : (f g : Qre) (e : Expression) (a b : Holding R)
      (held : Contents Value) (now : ℕ) (item : List Field)
      → CanStep seen (split f g e) (split_held a b held) now item → CanStep seen g b now item
  step_right f g e a b held now item can =
      let room : now + (composes_of f + composes_of g) < 2 ^ 64 = can.room in record {
        standing = bound;
        columns = can.columns;
        position = can.position;
        is_next = can.is_next;
        clear = can.clear.1;
        sound = can.sound.1;
        is_item = can.is_item;
        room = omega (arith, room);
      }

  -- the right operand is started after the item that it has just seen
  unfoldable pub start_after : (f g : Qre) (e : Expression) (a b b' : Holding R)
      (held : Contents Value) (now : ℕ) (item : List Field) (right : Option Hit)
      → CanStep seen (split f g e) (split_held a b held) now item
      → StepsSoundly seen g b now item b' right → CanStart seen g b' now
  start_after f g e a b b' held now item right can second =
      let room : now + (composes_of f + composes_of g) < 2 ^ 64 = can.room in
      let y = second bound can.columns can.position can.is_next can.clear.1
      can.is_item can.sound.1 in
      record {
        standing = bound;
        columns = can.columns;
        clear = can.clear.1;
        sound = y.node;
        room = omega (arith, room);
      }

  pub stepped_atom : (pred : Predicate) (e : Expression) (found : Option ℕ) (now : ℕ)
      (item : List Field) → CanStep seen (atom pred e) (atom_held found) now item
      → (type : ValueType) × HasType (types_of (given item None None)) e type
  stepped_atom pred e found now item can = (
    type_of_expression (of_columns can.columns) e,
    subst (λ t. HasType t e (type_of_expression (of_columns can.columns) e))
        (sym (atom_types can.columns item can.is_item)) can.clear.1,
  )

  pub stepped_ended : (f g : Qre) (e : Expression) (a b b' : Holding R)
      (held : Contents Value) (now : ℕ) (item : List Field) (right : Option Hit)
      → CanStep seen (split f g e) (split_held a b held) now item
      → StepsSoundly seen g b now item b' right → AreTypedWith e held.entries right
  stepped_ended f g e a b b' held now item right can second =
      let y = second bound can.columns can.position can.is_next can.clear.1
      can.is_item can.sound.1 in
      all_typed_with (type_of can.columns f) (type_of can.columns g) _ e held.entries right
      can.sound.2.typed y.hit can.clear.2

  pub stepped_joined : (f g : Qre) (e : Expression) (a b a' b' b'' : Holding R)
      (held : Contents Value) (now : ℕ) (item : List Field) (left : Hit) (right begun : Option Hit)
      → CanStep seen (split f g e) (split_held a b held) now item
      → StepsSoundly seen f a now item a' (Some left) → StepsSoundly seen g b now item b' right
      → StartsSoundly seen g b' now b'' begun → IsTypedWith e left.value begun
  stepped_joined f g e a b a' b' b'' held now item left right begun can first second third =
      let x = first bound can.columns can.position can.is_next can.clear.0
      can.is_item can.sound.0 in
      let y = second bound can.columns can.position can.is_next can.clear.1
      can.is_item can.sound.1 in
      let z = third bound can.columns can.clear.1 y.node in
      typed_with (type_of can.columns f) (type_of can.columns g) _ e left.value begun x.hit
      (hit_of (type_of can.columns g) now begun z.hit) can.clear.2
