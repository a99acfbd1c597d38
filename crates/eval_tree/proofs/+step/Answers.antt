mod Apply
mod Choice
mod Collect
mod Combine
mod Compose
mod Iter
mod Keys
mod Operands
mod Runner
mod Split
mod Steps
use Rattle.eval_tree.proofs.+step.Goals as goal

-- the calls of the operands
pub steps::start_into-start_atom-requires : goal.steps::start_into-start_atom-requires
steps::start_into-start_atom-requires = Steps.steps::start_into-start_atom-requires

pub steps::start_into-returns-in-Atom : goal.steps::start_into-returns-in-Atom
steps::start_into-returns-in-Atom = Steps.steps::start_into-returns-in-Atom

pub steps::start_into-returns-in-Eps : goal.steps::start_into-returns-in-Eps
steps::start_into-returns-in-Eps = Steps.steps::start_into-returns-in-Eps

pub steps::start_into-start_iter-requires : goal.steps::start_into-start_iter-requires
steps::start_into-start_iter-requires = Steps.steps::start_into-start_iter-requires

pub steps::start_into-returns-in-Iter : goal.steps::start_into-returns-in-Iter
steps::start_into-returns-in-Iter = Steps.steps::start_into-returns-in-Iter

pub steps::start_into-start_collect-requires : goal.steps::start_into-start_collect-requires
steps::start_into-start_collect-requires = Steps.steps::start_into-start_collect-requires

pub steps::start_into-returns-in-Collect : goal.steps::start_into-returns-in-Collect
steps::start_into-returns-in-Collect = Steps.steps::start_into-returns-in-Collect

pub steps::step_into-step_atom-requires : goal.steps::step_into-step_atom-requires
steps::step_into-step_atom-requires = Steps.steps::step_into-step_atom-requires

pub steps::step_into-returns-in-Atom : goal.steps::step_into-returns-in-Atom
steps::step_into-returns-in-Atom = Steps.steps::step_into-returns-in-Atom

pub steps::step_into-returns-in-Eps : goal.steps::step_into-returns-in-Eps
steps::step_into-returns-in-Eps = Steps.steps::step_into-returns-in-Eps

pub steps::step_into-step_iter-requires : goal.steps::step_into-step_iter-requires
steps::step_into-step_iter-requires = Steps.steps::step_into-step_iter-requires

pub steps::step_into-returns-in-Iter : goal.steps::step_into-returns-in-Iter
steps::step_into-returns-in-Iter = Steps.steps::step_into-returns-in-Iter

pub steps::step_into-step_collect-requires : goal.steps::step_into-step_collect-requires
steps::step_into-step_collect-requires = Steps.steps::step_into-step_collect-requires

pub steps::step_into-returns-in-Collect : goal.steps::step_into-returns-in-Collect
steps::step_into-returns-in-Collect = Steps.steps::step_into-returns-in-Collect

pub steps::start_only-start_into-requires : goal.steps::start_only-start_into-requires
steps::start_only-start_into-requires = Steps.steps::start_only-start_into-requires

pub steps::start_only-returns : goal.steps::start_only-returns
steps::start_only-returns = Steps.steps::start_only-returns

-- either of two
pub choice::start_choice-returns : goal.choice::start_choice-returns
choice::start_choice-returns = Choice.choice::start_choice-returns

pub choice::start_choice-returns-in_err-start_into-in-Or :
    goal.choice::start_choice-returns-in_err-start_into-in-Or
choice::start_choice-returns-in_err-start_into-in-Or =
    Choice.choice::start_choice-returns-in_err-start_into-in-Or

pub choice::start_choice-returns-in_err-start_into-in-Or-2 :
    goal.choice::start_choice-returns-in_err-start_into-in-Or-2
choice::start_choice-returns-in_err-start_into-in-Or-2 =
    Choice.choice::start_choice-returns-in_err-start_into-in-Or-2

pub choice::step_choice-returns : goal.choice::step_choice-returns
choice::step_choice-returns = Choice.choice::step_choice-returns

pub choice::step_choice-returns-in_err-step_into-in-Or :
    goal.choice::step_choice-returns-in_err-step_into-in-Or
choice::step_choice-returns-in_err-step_into-in-Or =
    Choice.choice::step_choice-returns-in_err-step_into-in-Or

pub choice::step_choice-returns-in_err-step_into-in-Or-2 :
    goal.choice::step_choice-returns-in_err-step_into-in-Or-2
choice::step_choice-returns-in_err-step_into-in-Or-2 =
    Choice.choice::step_choice-returns-in_err-step_into-in-Or-2

-- an expression on a value
pub apply::start_apply-apply_to-requires : goal.apply::start_apply-apply_to-requires
apply::start_apply-apply_to-requires = Apply.apply::start_apply-apply_to-requires

pub apply::start_apply-returns : goal.apply::start_apply-returns
apply::start_apply-returns = Apply.apply::start_apply-returns

pub apply::start_apply-returns-in_err-start_into-in-Apply :
    goal.apply::start_apply-returns-in_err-start_into-in-Apply
apply::start_apply-returns-in_err-start_into-in-Apply =
    Apply.apply::start_apply-returns-in_err-start_into-in-Apply

pub apply::step_apply-apply_to-requires : goal.apply::step_apply-apply_to-requires
apply::step_apply-apply_to-requires = Apply.apply::step_apply-apply_to-requires

pub apply::step_apply-returns : goal.apply::step_apply-returns
apply::step_apply-returns = Apply.apply::step_apply-returns

pub apply::step_apply-returns-in_err-step_into-in-Apply :
    goal.apply::step_apply-returns-in_err-step_into-in-Apply
apply::step_apply-returns-in_err-step_into-in-Apply =
    Apply.apply::step_apply-returns-in_err-step_into-in-Apply

-- a combine
pub combine::start_combine-combine_with-requires : goal.combine::start_combine-combine_with-requires
combine::start_combine-combine_with-requires = Combine.combine::start_combine-combine_with-requires

pub combine::start_combine-returns : goal.combine::start_combine-returns
combine::start_combine-returns = Combine.combine::start_combine-returns

pub combine::start_combine-returns-in_err-start_into-in-Combine :
    goal.combine::start_combine-returns-in_err-start_into-in-Combine
combine::start_combine-returns-in_err-start_into-in-Combine =
    Combine.combine::start_combine-returns-in_err-start_into-in-Combine

pub combine::start_combine-returns-in_err-start_into-in-Combine-2 :
    goal.combine::start_combine-returns-in_err-start_into-in-Combine-2
combine::start_combine-returns-in_err-start_into-in-Combine-2 =
    Combine.combine::start_combine-returns-in_err-start_into-in-Combine-2

pub combine::step_combine-combine_with-requires : goal.combine::step_combine-combine_with-requires
combine::step_combine-combine_with-requires = Combine.combine::step_combine-combine_with-requires

pub combine::step_combine-returns : goal.combine::step_combine-returns
combine::step_combine-returns = Combine.combine::step_combine-returns

pub combine::step_combine-returns-in_err-step_into-in-Combine :
    goal.combine::step_combine-returns-in_err-step_into-in-Combine
combine::step_combine-returns-in_err-step_into-in-Combine =
    Combine.combine::step_combine-returns-in_err-step_into-in-Combine

pub combine::step_combine-returns-in_err-step_into-in-Combine-2 :
    goal.combine::step_combine-returns-in_err-step_into-in-Combine-2
combine::step_combine-returns-in_err-step_into-in-Combine-2 =
    Combine.combine::step_combine-returns-in_err-step_into-in-Combine-2

-- an operand whose value is joined with a left value
pub operands::step_and_end-step_into-requires : goal.operands::step_and_end-step_into-requires
operands::step_and_end-step_into-requires = Operands.operands::step_and_end-step_into-requires

pub operands::step_and_end-end_waiting-requires : goal.operands::step_and_end-end_waiting-requires
operands::step_and_end-end_waiting-requires = Operands.operands::step_and_end-end_waiting-requires

pub operands::step_and_end-returns : goal.operands::step_and_end-returns
operands::step_and_end-returns = Operands.operands::step_and_end-returns

pub operands::step_and_end-returns-in_err-step_into-clause-no_memory :
    goal.operands::step_and_end-returns-in_err-step_into-clause-no_memory
operands::step_and_end-returns-in_err-step_into-clause-no_memory =
    Operands.operands::step_and_end-returns-in_err-step_into-clause-no_memory

pub operands::start_and_join-start_into-requires : goal.operands::start_and_join-start_into-requires
operands::start_and_join-start_into-requires = Operands.operands::start_and_join-start_into-requires

pub operands::start_and_join-join_to-requires : goal.operands::start_and_join-join_to-requires
operands::start_and_join-join_to-requires = Operands.operands::start_and_join-join_to-requires

pub operands::start_and_join-returns : goal.operands::start_and_join-returns
operands::start_and_join-returns = Operands.operands::start_and_join-returns

pub operands::start_and_join-returns-in_err-start_into-clause-no_memory :
    goal.operands::start_and_join-returns-in_err-start_into-clause-no_memory
operands::start_and_join-returns-in_err-start_into-clause-no_memory =
    Operands.operands::start_and_join-returns-in_err-start_into-clause-no_memory

-- a split
pub split::start_split-start_and_join-requires : goal.split::start_split-start_and_join-requires
split::start_split-start_and_join-requires = Split.split::start_split-start_and_join-requires

pub split::start_split-returns-in_ok-start_and_join-in-Some :
    goal.split::start_split-returns-in_ok-start_and_join-in-Some
split::start_split-returns-in_ok-start_and_join-in-Some =
    Split.split::start_split-returns-in_ok-start_and_join-in-Some

pub split::start_split-returns-in-None : goal.split::start_split-returns-in-None
split::start_split-returns-in-None = Split.split::start_split-returns-in-None

pub split::start_split-returns-in_err-start_into-in-Split :
    goal.split::start_split-returns-in_err-start_into-in-Split
split::start_split-returns-in_err-start_into-in-Split =
    Split.split::start_split-returns-in_err-start_into-in-Split

pub split::start_split-returns-in_err-start_and_join-in-Some :
    goal.split::start_split-returns-in_err-start_and_join-in-Some
split::start_split-returns-in_err-start_and_join-in-Some =
    Split.split::start_split-returns-in_err-start_and_join-in-Some

pub split::step_split-end_right-requires : goal.split::step_split-end_right-requires
split::step_split-end_right-requires = Split.split::step_split-end_right-requires

pub split::step_split-begin_right-requires : goal.split::step_split-begin_right-requires
split::step_split-begin_right-requires = Split.split::step_split-begin_right-requires

pub split::step_split-returns-in-Some : goal.split::step_split-returns-in-Some
split::step_split-returns-in-Some = Split.split::step_split-returns-in-Some

pub split::step_split-returns-in-None : goal.split::step_split-returns-in-None
split::step_split-returns-in-None = Split.split::step_split-returns-in-None

pub split::step_split-returns-in_err-step_into-in-Split :
    goal.split::step_split-returns-in_err-step_into-in-Split
split::step_split-returns-in_err-step_into-in-Split =
    Split.split::step_split-returns-in_err-step_into-in-Split

pub split::step_split-returns-in_err-end_right-in-Split :
    goal.split::step_split-returns-in_err-end_right-in-Split
split::step_split-returns-in_err-end_right-in-Split =
    Split.split::step_split-returns-in_err-end_right-in-Split

pub split::end_right-step_and_end-requires : goal.split::end_right-step_and_end-requires
split::end_right-step_and_end-requires = Split.split::end_right-step_and_end-requires

pub split::end_right-returns-clause-kept : goal.split::end_right-returns-clause-kept
split::end_right-returns-clause-kept = Split.split::end_right-returns-clause-kept

pub split::begin_right-start_and_join-requires : goal.split::begin_right-start_and_join-requires
split::begin_right-start_and_join-requires = Split.split::begin_right-start_and_join-requires

pub split::begin_right-returns : goal.split::begin_right-returns
split::begin_right-returns = Split.split::begin_right-returns

-- an iteration
pub iter::start_iter-start_only-requires : goal.iter::start_iter-start_only-requires
iter::start_iter-start_only-requires = Iter.iter::start_iter-start_only-requires

pub iter::start_iter-returns : goal.iter::start_iter-returns
iter::start_iter-returns = Iter.iter::start_iter-returns

pub iter::start_iter-returns-in_err-start_only-in-Iter :
    goal.iter::start_iter-returns-in_err-start_only-in-Iter
iter::start_iter-returns-in_err-start_only-in-Iter =
    Iter.iter::start_iter-returns-in_err-start_only-in-Iter

pub iter::start_iter-returns-in_err-continue_if_new-in-Iter :
    goal.iter::start_iter-returns-in_err-continue_if_new-in-Iter
iter::start_iter-returns-in_err-continue_if_new-in-Iter =
    Iter.iter::start_iter-returns-in_err-continue_if_new-in-Iter

pub iter::step_iter-step_and_end-requires : goal.iter::step_iter-step_and_end-requires
iter::step_iter-step_and_end-requires = Iter.iter::step_iter-step_and_end-requires

pub iter::step_iter-next_piece-requires : goal.iter::step_iter-next_piece-requires
iter::step_iter-next_piece-requires = Iter.iter::step_iter-next_piece-requires

pub iter::step_iter-returns-in-Some : goal.iter::step_iter-returns-in-Some
iter::step_iter-returns-in-Some = Iter.iter::step_iter-returns-in-Some

pub iter::step_iter-returns-in-None : goal.iter::step_iter-returns-in-None
iter::step_iter-returns-in-None = Iter.iter::step_iter-returns-in-None

pub iter::step_iter-returns-in_err-step_and_end-in-Iter :
    goal.iter::step_iter-returns-in_err-step_and_end-in-Iter
iter::step_iter-returns-in_err-step_and_end-in-Iter =
    Iter.iter::step_iter-returns-in_err-step_and_end-in-Iter

pub iter::next_piece-start_only-requires : goal.iter::next_piece-start_only-requires
iter::next_piece-start_only-requires = Iter.iter::next_piece-start_only-requires

pub iter::next_piece-returns-clause-continues : goal.iter::next_piece-returns-clause-continues
iter::next_piece-returns-clause-continues = Iter.iter::next_piece-returns-clause-continues

pub iter::next_piece-returns-in_err-start_only-clause-no_memory :
    goal.iter::next_piece-returns-in_err-start_only-clause-no_memory
iter::next_piece-returns-in_err-start_only-clause-no_memory =
    Iter.iter::next_piece-returns-in_err-start_only-clause-no_memory

-- a compose
pub compose::start_compose-start_into-requires : goal.compose::start_compose-start_into-requires
compose::start_compose-start_into-requires = Compose.compose::start_compose-start_into-requires

pub compose::start_compose-feed-requires : goal.compose::start_compose-feed-requires
compose::start_compose-feed-requires = Compose.compose::start_compose-feed-requires

pub compose::start_compose-returns : goal.compose::start_compose-returns
compose::start_compose-returns = Compose.compose::start_compose-returns

pub compose::start_compose-returns-in_err-start_into-in-Compose :
    goal.compose::start_compose-returns-in_err-start_into-in-Compose
compose::start_compose-returns-in_err-start_into-in-Compose =
    Compose.compose::start_compose-returns-in_err-start_into-in-Compose

pub compose::step_compose-step_into-requires : goal.compose::step_compose-step_into-requires
compose::step_compose-step_into-requires = Compose.compose::step_compose-step_into-requires

pub compose::step_compose-pass_on-requires : goal.compose::step_compose-pass_on-requires
compose::step_compose-pass_on-requires = Compose.compose::step_compose-pass_on-requires

pub compose::step_compose-returns : goal.compose::step_compose-returns
compose::step_compose-returns = Compose.compose::step_compose-returns

pub compose::step_compose-returns-in_err-step_into-in-Compose :
    goal.compose::step_compose-returns-in_err-step_into-in-Compose
compose::step_compose-returns-in_err-step_into-in-Compose =
    Compose.compose::step_compose-returns-in_err-step_into-in-Compose

pub compose::step_compose-returns-in_err-pass_on-in-Compose :
    goal.compose::step_compose-returns-in_err-pass_on-in-Compose
compose::step_compose-returns-in_err-pass_on-in-Compose =
    Compose.compose::step_compose-returns-in_err-pass_on-in-Compose

-- the runners of its right operand
pub right_runners::renew-start_into-requires : goal.right_runners::renew-start_into-requires
right_runners::renew-start_into-requires = Runner.right_runners::renew-start_into-requires

pub right_runners::renew-returns-clause-renewed : goal.right_runners::renew-returns-clause-renewed
right_runners::renew-returns-clause-renewed = Runner.right_runners::renew-returns-clause-renewed

pub right_runners::carry-step_into-requires : goal.right_runners::carry-step_into-requires
right_runners::carry-step_into-requires = Runner.right_runners::carry-step_into-requires

pub right_runners::carry-returns-clause-carried : goal.right_runners::carry-returns-clause-carried
right_runners::carry-returns-clause-carried = Runner.right_runners::carry-returns-clause-carried

pub right_runners::carry_parts-returns-clause-no_memory :
    goal.right_runners::carry_parts-returns-clause-no_memory
right_runners::carry_parts-returns-clause-no_memory =
    Runner.right_runners::carry_parts-returns-clause-no_memory

pub right_runners::carry_value-returns-in-Scalar : goal.right_runners::carry_value-returns-in-Scalar
right_runners::carry_value-returns-in-Scalar = Runner.right_runners::carry_value-returns-in-Scalar

pub right_runners::deliver-carry_value-requires : goal.right_runners::deliver-carry_value-requires
right_runners::deliver-carry_value-requires = Runner.right_runners::deliver-carry_value-requires

pub right_runners::deliver-returns-in_ok-value-in-Some-clause-delivered :
    goal.right_runners::deliver-returns-in_ok-value-in-Some-clause-delivered
right_runners::deliver-returns-in_ok-value-in-Some-clause-delivered =
    Runner.right_runners::deliver-returns-in_ok-value-in-Some-clause-delivered

pub right_runners::deliver-returns-in-None-clause-delivered :
    goal.right_runners::deliver-returns-in-None-clause-delivered
right_runners::deliver-returns-in-None-clause-delivered =
    Runner.right_runners::deliver-returns-in-None-clause-delivered

pub right_runners::begin-renew-requires : goal.right_runners::begin-renew-requires
right_runners::begin-renew-requires = Runner.right_runners::begin-renew-requires

pub right_runners::begin-deliver-requires : goal.right_runners::begin-deliver-requires
right_runners::begin-deliver-requires = Runner.right_runners::begin-deliver-requires

pub right_runners::begin-returns-in-Some : goal.right_runners::begin-returns-in-Some
right_runners::begin-returns-in-Some = Runner.right_runners::begin-returns-in-Some

pub right_runners::begin-returns-in-None-clause-begun :
    goal.right_runners::begin-returns-in-None-clause-begun
right_runners::begin-returns-in-None-clause-begun =
    Runner.right_runners::begin-returns-in-None-clause-begun

pub right_runners::pass_on-deliver-requires : goal.right_runners::pass_on-deliver-requires
right_runners::pass_on-deliver-requires = Runner.right_runners::pass_on-deliver-requires

pub right_runners::pass_on-returns-in-Some-place : goal.right_runners::pass_on-returns-in-Some-place
right_runners::pass_on-returns-in-Some-place = Runner.right_runners::pass_on-returns-in-Some-place

pub right_runners::feed-begin-requires : goal.right_runners::feed-begin-requires
right_runners::feed-begin-requires = Runner.right_runners::feed-begin-requires

pub right_runners::feed-returns-then-idle-eq0-clause-fed :
    goal.right_runners::feed-returns-then-idle-eq0-clause-fed
right_runners::feed-returns-then-idle-eq0-clause-fed =
    Runner.right_runners::feed-returns-then-idle-eq0-clause-fed

pub right_runners::feed-returns-then-live-clause-fed :
    goal.right_runners::feed-returns-then-live-clause-fed
right_runners::feed-returns-then-live-clause-fed =
    Runner.right_runners::feed-returns-then-live-clause-fed

pub right_runners::feed-returns-else-live-clause-fed :
    goal.right_runners::feed-returns-else-live-clause-fed
right_runners::feed-returns-else-live-clause-fed =
    Runner.right_runners::feed-returns-else-live-clause-fed

pub right_runners::renew-returns-in_err-start_into-clause-no_memory :
    goal.right_runners::renew-returns-in_err-start_into-clause-no_memory
right_runners::renew-returns-in_err-start_into-clause-no_memory =
    Runner.right_runners::renew-returns-in_err-start_into-clause-no_memory

pub right_runners::carry-returns-in_err-step_into-clause-no_memory :
    goal.right_runners::carry-returns-in_err-step_into-clause-no_memory
right_runners::carry-returns-in_err-step_into-clause-no_memory =
    Runner.right_runners::carry-returns-in_err-step_into-clause-no_memory

pub right_runners::deliver-returns-in_err-carry_value-clause-no_memory :
    goal.right_runners::deliver-returns-in_err-carry_value-clause-no_memory
right_runners::deliver-returns-in_err-carry_value-clause-no_memory =
    Runner.right_runners::deliver-returns-in_err-carry_value-clause-no_memory

pub right_runners::deliver-returns-in_err-value-in-Some-clause-no_memory :
    goal.right_runners::deliver-returns-in_err-value-in-Some-clause-no_memory
right_runners::deliver-returns-in_err-value-in-Some-clause-no_memory =
    Runner.right_runners::deliver-returns-in_err-value-in-Some-clause-no_memory

pub right_runners::begin-returns-in_err-renew-clause-no_memory :
    goal.right_runners::begin-returns-in_err-renew-clause-no_memory
right_runners::begin-returns-in_err-renew-clause-no_memory =
    Runner.right_runners::begin-returns-in_err-renew-clause-no_memory

pub right_runners::feed-returns-in_err-begin-clause-no_memory :
    goal.right_runners::feed-returns-in_err-begin-clause-no_memory
right_runners::feed-returns-in_err-begin-clause-no_memory =
    Runner.right_runners::feed-returns-in_err-begin-clause-no_memory

-- a collect
pub collect::start_collect-begin_at-requires : goal.collect::start_collect-begin_at-requires
collect::start_collect-begin_at-requires = Collect.collect::start_collect-begin_at-requires

pub collect::start_collect-returns : goal.collect::start_collect-returns
collect::start_collect-returns = Collect.collect::start_collect-returns

pub collect::begin_at-returns : goal.collect::begin_at-returns
collect::begin_at-returns = Collect.collect::begin_at-returns

pub collect::track-returns-then-not-can_track : goal.collect::track-returns-then-not-can_track
collect::track-returns-then-not-can_track = Collect.collect::track-returns-then-not-can_track

pub collect::track-returns : goal.collect::track-returns
collect::track-returns = Collect.collect::track-returns

pub collect::new_runner-new_node-requires-clause-cells :
    goal.collect::new_runner-new_node-requires-clause-cells
collect::new_runner-new_node-requires-clause-cells =
    Collect.collect::new_runner-new_node-requires-clause-cells

pub collect::new_runner-start_into-requires : goal.collect::new_runner-start_into-requires
collect::new_runner-start_into-requires = Collect.collect::new_runner-start_into-requires

pub collect::new_runner-returns-in-Ok : goal.collect::new_runner-returns-in-Ok
collect::new_runner-returns-in-Ok = Collect.collect::new_runner-returns-in-Ok

pub collect::step_collect-pass_by-requires : goal.collect::step_collect-pass_by-requires
collect::step_collect-pass_by-requires = Collect.collect::step_collect-pass_by-requires

pub collect::step_collect-returns : goal.collect::step_collect-returns
collect::step_collect-returns = Collect.collect::step_collect-returns

pub collect::pass_by-push_all-requires : goal.collect::pass_by-push_all-requires
collect::pass_by-push_all-requires = Collect.collect::pass_by-push_all-requires

pub collect::pass_by-returns : goal.collect::pass_by-returns
collect::pass_by-returns = Collect.collect::pass_by-returns

pub collect::push_all-keys_push-requires : goal.collect::push_all-keys_push-requires
collect::push_all-keys_push-requires = Collect.collect::push_all-keys_push-requires

pub collect::push_all-starts-preserved : goal.collect::push_all-starts-preserved
collect::push_all-starts-preserved = Collect.collect::push_all-starts-preserved

pub collect::push_all-returns-clause-pushed : goal.collect::push_all-returns-clause-pushed
collect::push_all-returns-clause-pushed = Collect.collect::push_all-returns-clause-pushed

pub collect::pass_by-advance-requires : goal.collect::pass_by-advance-requires
collect::pass_by-advance-requires = Collect.collect::pass_by-advance-requires

-- its runners for keys
pub keys::keys_push-returns-then-holds-clause-pushed :
    goal.keys::keys_push-returns-then-holds-clause-pushed
keys::keys_push-returns-then-holds-clause-pushed =
    Keys.keys::keys_push-returns-then-holds-clause-pushed

pub keys::keys_push-returns-else-holds-clause-pushed :
    goal.keys::keys_push-returns-else-holds-clause-pushed
keys::keys_push-returns-else-holds-clause-pushed =
    Keys.keys::keys_push-returns-else-holds-clause-pushed

pub keys::push_to_key-follower_mut-requires : goal.keys::push_to_key-follower_mut-requires
keys::push_to_key-follower_mut-requires = Keys.keys::push_to_key-follower_mut-requires

pub keys::push_to_key-carry-requires : goal.keys::push_to_key-carry-requires
keys::push_to_key-carry-requires = Keys.keys::push_to_key-carry-requires

pub keys::push_to_key-returns : goal.keys::push_to_key-returns
keys::push_to_key-returns = Keys.keys::push_to_key-returns

pub keys::push_to_each-carry-requires : goal.keys::push_to_each-carry-requires
keys::push_to_each-carry-requires = Keys.keys::push_to_each-carry-requires

pub keys::push_to_each-returns : goal.keys::push_to_each-returns
keys::push_to_each-returns = Keys.keys::push_to_each-returns

pub keys::push_to_each-carry-requires-in-keys : goal.keys::push_to_each-carry-requires-in-keys
keys::push_to_each-carry-requires-in-keys = Keys.keys::push_to_each-carry-requires-in-keys

pub keys::push_to_each-keys-preserved : goal.keys::push_to_each-keys-preserved
keys::push_to_each-keys-preserved = Keys.keys::push_to_each-keys-preserved
