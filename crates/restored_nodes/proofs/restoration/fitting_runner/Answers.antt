use Rattle.std.proofs.Common.{◌≤◌, ◌+◌, arith, option_copied, option_map, subst, sym, ap}
use Rattle.std.specs.Rc.{rc_value}
use Rattle.query_model.specs.declared.query.Query.{Query}
use Rattle.query_model.specs.Bounds.{inner_of, width_of}
use Rattle.query_model.specs.Queries.{plain_of}
use Rattle.query_model.specs.Rules.{free, IsClear}
use Rattle.query_model.specs.Sizes.{IsSmall, max_slots}
use Rattle.eval_nodes.specs.Streams.{AreColumnsOf, CanBeMade}
use Rattle.eval_nodes.proofs.Same.{where_ok}
use Rattle.eval_nodes.proofs.Served.{seen_cells}
use Rattle.runner_snapshot.specs.Plain.{plain_node, plain_runner}
use Rattle.eval_snapshot.specs.Fits.{Fits}
use Rattle.restored_nodes.proofs.Asked.{back_at, back_kept, back_sound}
use Rattle.restored_nodes.proofs.Room.{cells_for, room_of}
use Rattle.restored_nodes.proofs.restoration.fitting_runner.Goals as goal

pub restored_progress-requires-clause-query : goal.restored_progress-requires-clause-query
restored_progress-requires-clause-query c =
    let columns = c.args.checked.now.layout.columns in
    let q = plain_of c.main-query.result.now.shape in
    let made = seen_cells rc_value (λ cells. CanBeMade cells q) (option_copied c.as_ref.result)
    c.in_ok-cells.cells c.as_ref.ensures.value
    (subst (λ (x : Query). CanBeMade (option_map rc_value c.in_ok-cells.cells) (plain_of x.shape))
    (sym c.main-query.ensures.main) c.in_ok-cells.ensures.made) in
    let clear : IsClear free columns q =
    subst (λ (x : Query). IsClear free columns (plain_of x.shape)) (sym c.main-query.ensures.main)
    c.main-query.ensures.checked.clear in
    let small : IsSmall columns q =
    subst (λ (x : Query). IsSmall columns (plain_of x.shape)) (sym c.main-query.ensures.main)
    c.main-query.ensures.checked.small in
    let few : inner_of q + 1 + width_of q ≤ max_slots = small.slots in
    record { cells = cells_for free columns _ q clear made; small = omega (arith, few) }

pub restored_progress-requires-clause-room : goal.restored_progress-requires-clause-room
restored_progress-requires-clause-room c =
    let columns = c.args.checked.now.layout.columns in
    let fits = subst (λ (x : Query). Fits columns (plain_of x.shape) (plain_runner c.args.dump.now))
    (sym c.main-query.ensures.main) c.requires in
    room_of columns (plain_of c.main-query.result.now.shape) c.args.dump.now.position
    (plain_node c.args.dump.now.node) fits.2

pub returns-clause-kept : goal.returns-clause-kept
returns-clause-kept c =
    let on = c.args.checked.now in
    let columns = seen_cells rc_value (λ cells. AreColumnsOf cells on.layout.columns)
    (option_copied c.as_ref.result) c.in_ok-cells.cells c.as_ref.ensures.value
    c.in_ok-cells.ensures.columns in
    where_ok c.restored_progress.result _ _ (λ one is. back_kept _ on.layout.columns _
    (plain_of on.main.shape) (plain_runner c.args.dump.now)
    (ap (λ (x : Query). plain_of x.shape) c.main-query.ensures.main) columns c.requires one is)
    c.restored_progress.ensures

pub returns-clause-sound : goal.returns-clause-sound
returns-clause-sound c =
    let on = c.args.checked.now in
    let columns = seen_cells rc_value (λ cells. AreColumnsOf cells on.layout.columns)
    (option_copied c.as_ref.result) c.in_ok-cells.cells c.as_ref.ensures.value
    c.in_ok-cells.ensures.columns in
    where_ok c.restored_progress.result _ _ (λ one is. back_sound _ on.layout.columns _
    (plain_of on.main.shape) (plain_runner c.args.dump.now)
    (ap (λ (x : Query). plain_of x.shape) c.main-query.ensures.main) columns c.requires one is)
    c.restored_progress.ensures

pub returns-clause-word : goal.returns-clause-word
returns-clause-word c =
    let on = c.args.checked.now in
    let columns = seen_cells rc_value (λ cells. AreColumnsOf cells on.layout.columns)
    (option_copied c.as_ref.result) c.in_ok-cells.cells c.as_ref.ensures.value
    c.in_ok-cells.ensures.columns in
    where_ok c.restored_progress.result _ _ (λ one is. back_at _ on.layout.columns _
    (plain_of on.main.shape) (plain_runner c.args.dump.now)
    (ap (λ (x : Query). plain_of x.shape) c.main-query.ensures.main) columns c.requires one is)
    c.restored_progress.ensures
