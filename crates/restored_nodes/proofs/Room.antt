-- What fits has room where it is put back, and the cells of a stream serve a query that keeps
-- the rules.
use Rattle.std.proofs.Common.{ℕ, List, Option, None}
use Rattle.value_ops.specs.declared.value.ValueType.{ValueType}
use Rattle.item_schema.specs.declared.column.Column.{Column}
use Rattle.predicate_cells.specs.Cells.{Partition}
use Rattle.query_model.specs.Queries as query
use Rattle.query_model.specs.Queries.{Qre}
use Rattle.query_model.specs.QueryTypes.{derived_columns, type_of}
use Rattle.query_model.specs.Rules.{Standing, bound, HasNoCollect, IsClear}
use Rattle.eval_nodes.specs.Streams.{CanBeMade}
use Rattle.eval_nodes.proofs.Instances.{all_mapped}
use Rattle.runner_snapshot.specs.declared.entries.Entry.{Entry}
use Rattle.runner_snapshot.specs.Dumps.{Runner, Node, runner, atom, eps, choice, split, iter}
use Rattle.runner_snapshot.specs.Dumps.{combine, apply, compose, collect, Fed, Keyed, Track}
use Rattle.runner_snapshot.specs.Dumps.{fed_list, keyed_list, track_list}
use Rattle.eval_snapshot.specs.Fits.{FitsFed, FitsNode, FitsRunner, FitsState, FitsTrack}
use Rattle.eval_snapshot.specs.Fits.{FitWaiting}
use Rattle.restored_nodes.specs.Cells.{AreCellsFor}
use Rattle.restored_nodes.specs.Rooms.{AreFewWaiting, HasRoom, HaveKeyRoom, node_of}

-- ---- rooms

waiting_room : (type : ValueType) (places position : ℕ) (entries : List Entry)
    → FitWaiting type places position entries → AreFewWaiting places entries
waiting_room type places position entries fit =
    record { few = fit.few; distinct = fit.distinct }

runner_room : (fits : ℕ → Node → Type 0) (has : Node → Type 0)
    → ((position : ℕ) (node : Node) → fits position node → has node) → (most : ℕ)
    (type : ValueType) (one : Runner) → FitsRunner most fits type one → has (node_of one)
runner_room fits has step most type (runner position answer node) fit = step position node fit.2

pub room_of : (columns : List Column) (q : Qre) (position : ℕ) (node : Node)
    → FitsNode columns q position node → HasRoom q node
room_of columns (query.atom pred e) position (atom starts) fits = fits.0
room_of columns (query.eps number) position eps fits = tt
room_of columns (query.choice f g) position (choice a b) fits =
    (room_of columns f position a fits.0, room_of columns g position b fits.1)
room_of columns (query.split f g e) position (split a b entries) fits = (
  room_of columns f position a fits.0,
  room_of columns g position b fits.1,
  waiting_room _ _ position entries fits.2,
)
room_of columns (query.iter f number e) position (iter a entries) fits =
    (room_of columns f position a fits.0, waiting_room _ _ position entries fits.1)
room_of columns (query.combine f g e) position (combine a b) fits =
    (room_of columns f position a fits.0, room_of columns g position b fits.1)
room_of columns (query.apply f e) position (apply a) fits = room_of columns f position a fits
room_of columns (query.compose f g) position (compose a runners) fits =
    let inner = derived_columns (type_of columns f) in (
      room_of columns f position a fits.0,
      record {
        few = fits.1;
        distinct = fits.2;
        each = all_mapped (FitsFed (FitsNode inner g) (type_of inner g) position)
            (λ (one : Fed). HasRoom g (node_of one.runner)) (fed_list runners)
            (λ one fit. runner_room (FitsNode inner g) (HasRoom g)
            (λ at node is. room_of inner g at node is) _ _ one.runner fit.runner) fits.3;
      },
    )
room_of columns (query.collect chosen sync rate f) position (collect tracks) fits =
    let all = track_list tracks in
    let fits_track : Track → Type 0 =
    FitsTrack (FitsNode columns f) (type_of columns f) rate position in
    let has : (one : Runner) → FitsRunner position (FitsNode columns f) (type_of columns f) one
    → HasRoom f (node_of one) = (λ one fit. runner_room (FitsNode columns f) (HasRoom f)
    (λ at node is. room_of columns f at node is) _ _ one fit) in (
      fits.1,
      all_mapped fits_track (λ (one : Track). FitsState rate one.state) all
          (λ one fit. fit.state) fits.2,
      all_mapped fits_track
          (λ (one : Track). HaveKeyRoom (HasRoom f) one.fallback (keyed_list one.keys)) all
          (λ one fit. record {
            fallback = has one.fallback fit.fallback;
            distinct = fit.distinct;
            each = all_mapped
                (λ (key : Keyed). FitsRunner position (FitsNode columns f) (type_of columns f)
                key.runner)
                (λ (key : Keyed). HasRoom f (node_of key.runner)) (keyed_list one.keys)
                (λ key is. has key.runner is) fit.keys;
          }) fits.2,
    )
room_of columns (query.atom pred e) position node fits = absurd fits
room_of columns (query.eps number) position node fits = absurd fits
room_of columns (query.choice f g) position node fits = absurd fits
room_of columns (query.split f g e) position node fits = absurd fits
room_of columns (query.iter f number e) position node fits = absurd fits
room_of columns (query.combine f g e) position node fits = absurd fits
room_of columns (query.apply f e) position node fits = absurd fits
room_of columns (query.compose f g) position node fits = absurd fits
room_of columns (query.collect chosen sync rate f) position node fits = absurd fits

-- ---- cells

no_cells : (q : Qre) → HasNoCollect q → AreCellsFor None q
no_cells (query.atom pred e) none = tt
no_cells (query.eps number) none = tt
no_cells (query.choice f g) none = (no_cells f none.0, no_cells g none.1)
no_cells (query.split f g e) none = (no_cells f none.0, no_cells g none.1)
no_cells (query.iter f number e) none = no_cells f none
no_cells (query.combine f g e) none = (no_cells f none.0, no_cells g none.1)
no_cells (query.apply f e) none = no_cells f none
no_cells (query.compose f g) none = (no_cells f none.0, no_cells g none.1)
no_cells (query.collect chosen sync rate f) none = absurd none

pub cells_for : (standing : Standing) (columns : List Column) (cells : Option Partition) (q : Qre)
    → IsClear standing columns q → CanBeMade cells q → AreCellsFor cells q
cells_for standing columns cells (query.atom pred e) clear made = tt
cells_for standing columns cells (query.eps number) clear made = tt
cells_for standing columns cells (query.choice f g) clear made =
    (cells_for bound columns cells f clear.0 made.0, cells_for bound columns cells g clear.1 made.1)
cells_for standing columns cells (query.split f g e) clear made =
    (cells_for bound columns cells f clear.0 made.0, cells_for bound columns cells g clear.1 made.1)
cells_for standing columns cells (query.iter f number e) clear made =
    cells_for bound columns cells f clear.0 made
cells_for standing columns cells (query.combine f g e) clear made =
    (cells_for bound columns cells f clear.0 made.0, cells_for bound columns cells g clear.1 made.1)
cells_for standing columns cells (query.apply f e) clear made =
    cells_for bound columns cells f clear.0 made
cells_for standing columns cells (query.compose f g) clear made =
    (cells_for standing columns cells f clear.0 made.0, no_cells g clear.2)
cells_for standing columns cells (query.collect chosen sync rate f) clear made =
    (made, no_cells f clear.2)

pub can_be_made : (cells : Option Partition) (q : Qre) → AreCellsFor cells q → CanBeMade cells q
can_be_made cells (query.atom pred e) are = tt
can_be_made cells (query.eps number) are = tt
can_be_made cells (query.choice f g) are = (can_be_made cells f are.0, can_be_made cells g are.1)
can_be_made cells (query.split f g e) are = (can_be_made cells f are.0, can_be_made cells g are.1)
can_be_made cells (query.iter f number e) are = can_be_made cells f are
can_be_made cells (query.combine f g e) are = (can_be_made cells f are.0, can_be_made cells g are.1)
can_be_made cells (query.apply f e) are = can_be_made cells f are
can_be_made cells (query.compose f g) are = (can_be_made cells f are.0, can_be_made None g are.1)
can_be_made cells (query.collect chosen sync rate f) are = are.0
