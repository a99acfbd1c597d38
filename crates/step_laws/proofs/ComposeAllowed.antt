-- When the calls of a compose's operands and runners may be made.
use Rattle.std.proofs.Common.{◌<◌, ℕ, ◌+◌, ◌^◌, List, Option, Some, refl, arith}
use Rattle.value_ops.specs.declared.field.Field.{Field}
use Rattle.query_model.specs.Following.{composes_of}
use Rattle.query_model.specs.Queries.{Qre, compose}
use Rattle.query_model.specs.QueryTypes.{derived_columns, type_of}
use Rattle.compose_eval.specs.Followers.{Contents}
use Rattle.eval_nodes.specs.Cleared.{IsCleared}
use Rattle.eval_nodes.specs.Holdings.{Holding, compose_held, Seen}
use Rattle.step_laws.specs.declared.hit.Hit.{Hit}
use Rattle.step_laws.specs.Feeds.{CanBegin, CanCarry, CanFeed, CanPassOn, IsRenewed, item_of}
use Rattle.step_laws.specs.Steps.{CanStart, CanStep, StartsSoundly, StepsSoundly}
use Rattle.step_laws.proofs.Outputs.{hit_item}
use Rattle.step_laws.proofs.Typed.{hit_of}

module _ {R : Type 0} (seen : R → Seen R) where
  unfoldable pub start_fed : (f g : Qre) (a : Holding R) (held : Contents R) (at : ℕ)
      → CanStart seen (compose f g) (compose_held a held) at
      → CanStart seen f a at
  start_fed f g a held at can =
      let room : at + (composes_of f + composes_of g + 1) < 2 ^ 64 = can.room in record {
        standing = can.standing;
        columns = can.columns;
        clear = can.clear.0;
        sound = can.sound.0;
        room = omega (arith, room);
      }

  unfoldable pub step_fed : (f g : Qre) (a : Holding R) (held : Contents R) (now : ℕ)
      (item : List Field) → CanStep seen (compose f g) (compose_held a held) now item
      → CanStep seen f a now item
  step_fed f g a held now item can =
      let room : now + (composes_of f + composes_of g + 1) < 2 ^ 64 = can.room in record {
        standing = can.standing;
        columns = can.columns;
        position = can.position;
        is_next = can.is_next;
        clear = can.clear.0;
        sound = can.sound.0;
        is_item = can.is_item;
        room = omega (arith, room);
      }

  -- the runners may take the value of the left hit
  unfoldable pub passes_allowed : (f g : Qre) (a a' : Holding R) (held : Contents R) (now : ℕ)
      (item : List Field)
      (left : Option Hit) → CanStep seen (compose f g) (compose_held a held) now item
      → StepsSoundly seen f a now item a' left → CanPassOn seen g held left
  passes_allowed f g a a' held now item left can first =
      let room : now + (composes_of f + composes_of g + 1) < 2 ^ 64 = can.room in
      let is_next = can.is_next in
      let x = first can.standing can.columns can.position can.is_next can.clear.0
      can.is_item can.sound.0 in
      record {
        standing = can.standing;
        columns = derived_columns (type_of can.columns f);
        most = can.position + 1;
        clear = can.clear.1;
        live = can.sound.3;
        is_item = hit_item (type_of can.columns f) left x.hit;
        room = omega (arith, room, is_next);
      }

  unfoldable pub feeds_allowed : (f g : Qre) (a a' : Holding R) (held : Contents R) (at : ℕ)
      (left : Option Hit) → CanStart seen (compose f g) (compose_held a held) at
      → StartsSoundly seen f a at a' left → CanFeed seen g held left
  feeds_allowed f g a a' held at left can first =
      let room : at + (composes_of f + composes_of g + 1) < 2 ^ 64 = can.room in
      let x = first can.standing can.columns can.clear.0 can.sound.0 in
      record {
        standing = can.standing;
        columns = derived_columns (type_of can.columns f);
        clear = can.clear.1;
        no_collect = can.clear.2;
        idle = can.sound.4;
        is_item =
            hit_item (type_of can.columns f) left (hit_of (type_of can.columns f) at left x.hit);
        room = omega (arith, room);
      }

  -- a runner that has begun anew may take the value
  unfoldable pub carry_begun : (g : Qre) (runner between : R) (found : Hit)
      → CanBegin seen g runner (Some found) → IsRenewed seen g runner between
      → CanCarry seen g between (item_of found.value)
  carry_begun g runner between found can renewed =
      let position = renewed.position in
      let room = can.room in
      record {
        standing = can.standing;
        columns = can.columns;
        clear = can.clear;
        sound = renewed.sound can.standing can.columns can.clear can.sound;
        is_item = can.is_item;
        room = omega (arith, position, room);
      }

  -- its node may take the item
  unfoldable pub step_carried : (q : Qre) (runner : R) (item : List Field)
      → CanCarry seen q runner item
      → CanStep seen q (seen runner).node ((seen runner).position + 1) item
  step_carried q runner item can = record {
    standing = can.standing;
    columns = can.columns;
    position = (seen runner).position;
    is_next = refl;
    clear = can.clear;
    sound = can.sound.node;
    is_item = can.is_item;
    room = can.room;
  }

  -- its cleared node may start
  unfoldable pub start_cleared : (q : Qre) (runner : R) (left : Option Hit) (cleared : Holding R)
      → CanBegin seen q runner left
      → IsCleared seen q (seen runner).node cleared → CanStart seen q cleared 0
  start_cleared q runner left cleared can is =
      let room = can.room in
      record {
        standing = can.standing;
        columns = can.columns;
        clear = can.clear;
        sound = (is can.no_collect can.columns (seen runner).position can.sound.node).1 0;
        room = omega (arith, room);
      }
