-- When the calls of the operands of combine and iter may be made.
use Rattle.std.proofs.Common.{◌<◌, ℕ, ◌+◌, ◌^◌, List, Option, arith}
use Rattle.std.specs.Prelude.{ℤ}
use Rattle.value_ops.specs.declared.field.Field.{Field}
use Rattle.value_ops.specs.declared.value.Value.{Value}
use Rattle.value_ops.specs.declared.value.ValueType.TheVariants as type
use Rattle.expressions.specs.Expressions.{Expression}
use Rattle.query_model.specs.Following.{composes_of}
use Rattle.query_model.specs.Queries.{Qre, iter, combine}
use Rattle.query_model.specs.QueryTypes.{type_of}
use Rattle.query_model.specs.Rules.{bound}
use Rattle.split_eval.specs.Entries.{Contents}
use Rattle.eval_nodes.specs.Holdings.{Holding, combine_held, iter_held, Seen}
use Rattle.step_laws.specs.declared.hit.Hit.{Hit}
use Rattle.step_laws.specs.Lefts.{AreTypedOnHits, AreTypedWith}
use Rattle.step_laws.specs.Steps.{CanStart, CanStep, StartsSoundly, StepsSoundly}
use Rattle.step_laws.proofs.Typed.{all_typed_with, hit_of, typed_on_hits}

module _ {R : Type 0} (seen : R → Seen R) where
  -- starts
  unfoldable pub start_one : (f g : Qre) (e : Expression) (a b : Holding R) (at : ℕ)
      → CanStart seen (combine f g e) (combine_held a b) at → CanStart seen f a at
  start_one f g e a b at can =
      let room : at + (composes_of f + composes_of g) < 2 ^ 64 = can.room in record {
        standing = bound;
        columns = can.columns;
        clear = can.clear.0;
        sound = can.sound.0;
        room = omega (arith, room);
      }

  unfoldable pub start_other : (f g : Qre) (e : Expression) (a b : Holding R) (at : ℕ)
      → CanStart seen (combine f g e) (combine_held a b) at → CanStart seen g b at
  start_other f g e a b at can =
      let room : at + (composes_of f + composes_of g) < 2 ^ 64 = can.room in record {
        standing = bound;
        columns = can.columns;
        clear = can.clear.1;
        sound = can.sound.1;
        room = omega (arith, room);
      }

  pub started_combine : (f g : Qre) (e : Expression) (a b a' b' : Holding R) (at : ℕ)
      (left right : Option Hit) → CanStart seen (combine f g e) (combine_held a b) at
      → StartsSoundly seen f a at a' left → StartsSoundly seen g b at b' right
      → AreTypedOnHits e left right
  started_combine f g e a b a' b' at left right can first second =
      let x = first bound can.columns can.clear.0 can.sound.0 in
      let y = second bound can.columns can.clear.1 can.sound.1 in
      typed_on_hits (type_of can.columns f) (type_of can.columns g) _ e left right
      (hit_of (type_of can.columns f) at left x.hit)
      (hit_of (type_of can.columns g) at right y.hit) can.clear.2

  unfoldable pub start_piece : (f : Qre) (number : ℤ) (e : Expression) (a : Holding R)
      (so_far : Contents Value) (at : ℕ)
      → CanStart seen (iter f number e) (iter_held a so_far) at → CanStart seen f a at
  start_piece f number e a so_far at can = record {
    standing = bound;
    columns = can.columns;
    clear = can.clear.0;
    sound = can.sound.0;
    room = can.room;
  }

  -- steps
  unfoldable pub step_one : (f g : Qre) (e : Expression) (a b : Holding R) (now : ℕ)
      (item : List Field) → CanStep seen (combine f g e) (combine_held a b) now item
      → CanStep seen f a now item
  step_one f g e a b now item can =
      let room : now + (composes_of f + composes_of g) < 2 ^ 64 = can.room in record {
        standing = bound;
        columns = can.columns;
        position = can.position;
        is_next = can.is_next;
        clear = can.clear.0;
        sound = can.sound.0;
        is_item = can.is_item;
        room = omega (arith, room);
      }

  unfoldable pub step_other : (f g : Qre) (e : Expression) (a b : Holding R) (now : ℕ)
      (item : List Field) → CanStep seen (combine f g e) (combine_held a b) now item
      → CanStep seen g b now item
  step_other f g e a b now item can =
      let room : now + (composes_of f + composes_of g) < 2 ^ 64 = can.room in record {
        standing = bound;
        columns = can.columns;
        position = can.position;
        is_next = can.is_next;
        clear = can.clear.1;
        sound = can.sound.1;
        is_item = can.is_item;
        room = omega (arith, room);
      }

  pub stepped_combine : (f g : Qre) (e : Expression) (a b a' b' : Holding R) (now : ℕ)
      (item : List Field) (left right : Option Hit)
      → CanStep seen (combine f g e) (combine_held a b) now item
      → StepsSoundly seen f a now item a' left → StepsSoundly seen g b now item b' right
      → AreTypedOnHits e left right
  stepped_combine f g e a b a' b' now item left right can first second =
      let x = first bound can.columns can.position can.is_next can.clear.0
      can.is_item can.sound.0 in
      let y = second bound can.columns can.position can.is_next can.clear.1
      can.is_item can.sound.1 in
      typed_on_hits (type_of can.columns f) (type_of can.columns g) _ e left right x.hit
      y.hit can.clear.2

  unfoldable pub step_piece : (f : Qre) (number : ℤ) (e : Expression) (a : Holding R)
      (so_far : Contents Value) (now : ℕ)
      (item : List Field) → CanStep seen (iter f number e) (iter_held a so_far) now item
      → CanStep seen f a now item
  step_piece f number e a so_far now item can = record {
    standing = bound;
    columns = can.columns;
    position = can.position;
    is_next = can.is_next;
    clear = can.clear.0;
    sound = can.sound.0;
    is_item = can.is_item;
    room = can.room;
  }

  pub stepped_iter : (f : Qre) (number : ℤ) (e : Expression) (a a' : Holding R)
      (so_far : Contents Value) (now : ℕ) (item : List Field) (piece : Option Hit)
      → CanStep seen (iter f number e) (iter_held a so_far) now item
      → StepsSoundly seen f a now item a' piece → AreTypedWith e so_far.entries piece
  stepped_iter f number e a a' so_far now item piece can first =
      let x = first bound can.columns can.position can.is_next can.clear.0
      can.is_item can.sound.0 in
      all_typed_with type.Number (type_of can.columns f) type.Number e so_far.entries piece
      can.sound.1.typed x.hit can.clear.2

  -- the next piece begins after the item that has just gone by
  unfoldable pub start_next : (f : Qre) (number : ℤ) (e : Expression) (a a' : Holding R)
      (so_far : Contents Value) (now : ℕ)
      (item : List Field) (piece : Option Hit)
      → CanStep seen (iter f number e) (iter_held a so_far) now item
      → StepsSoundly seen f a now item a' piece → CanStart seen f a' now
  start_next f number e a a' so_far now item piece can first =
      let x = first bound can.columns can.position can.is_next can.clear.0
      can.is_item can.sound.0 in
      record {
        standing = bound;
        columns = can.columns;
        clear = can.clear.0;
        sound = x.node;
        room = can.room;
      }
