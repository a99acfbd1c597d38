mod Apply
mod Both
mod Choice
mod Collect
mod Combine
mod Compose
mod Fed
mod Iter
mod Leaves
mod Split
use Rattle.type_checker.proofs.words.+words.Answers.Apply as apply
use Rattle.type_checker.proofs.words.+words.Answers.Both as both
use Rattle.type_checker.proofs.words.+words.Answers.Choice as choice
use Rattle.type_checker.proofs.words.+words.Answers.Collect as collect
use Rattle.type_checker.proofs.words.+words.Answers.Combine as combine
use Rattle.type_checker.proofs.words.+words.Answers.Compose as compose
use Rattle.type_checker.proofs.words.+words.Answers.Fed as fed
use Rattle.type_checker.proofs.words.+words.Answers.Iter as iter
use Rattle.type_checker.proofs.words.+words.Answers.Leaves as leaves
use Rattle.type_checker.proofs.words.+words.Answers.Split as split
use Rattle.type_checker.proofs.words.+words.Goals as goal

-- both operands
pub keep_both-new-requires : goal.keep_both-new-requires
keep_both-new-requires = both.keep_both-new-requires

pub keep_both-new-requires-2 : goal.keep_both-new-requires-2
keep_both-new-requires-2 = both.keep_both-new-requires-2

pub keep_both-returns-in_err-left-clause-refused : goal.keep_both-returns-in_err-left-clause-refused
keep_both-returns-in_err-left-clause-refused = both.keep_both-returns-in_err-left-clause-refused

pub keep_both-returns-in_err-right-clause-refused :
    goal.keep_both-returns-in_err-right-clause-refused
keep_both-returns-in_err-right-clause-refused = both.keep_both-returns-in_err-right-clause-refused

pub keep_both-returns-clause-kept : goal.keep_both-returns-clause-kept
keep_both-returns-clause-kept = both.keep_both-returns-clause-kept

pub keep_both-returns-clause-automata : goal.keep_both-returns-clause-automata
keep_both-returns-clause-automata = both.keep_both-returns-clause-automata

-- a query of one item, and one of none
pub keep_words-returns-in-Atom-clause-kept : goal.keep_words-returns-in-Atom-clause-kept
keep_words-returns-in-Atom-clause-kept = leaves.keep_words-returns-in-Atom-clause-kept

pub keep_words-returns-in-Atom-clause-positions : goal.keep_words-returns-in-Atom-clause-positions
keep_words-returns-in-Atom-clause-positions = leaves.keep_words-returns-in-Atom-clause-positions

pub keep_words-returns-in-Atom-clause-refused : goal.keep_words-returns-in-Atom-clause-refused
keep_words-returns-in-Atom-clause-refused = leaves.keep_words-returns-in-Atom-clause-refused

pub keep_words-returns-in-Eps-clause-kept : goal.keep_words-returns-in-Eps-clause-kept
keep_words-returns-in-Eps-clause-kept = leaves.keep_words-returns-in-Eps-clause-kept

pub keep_words-returns-in-Eps-clause-positions : goal.keep_words-returns-in-Eps-clause-positions
keep_words-returns-in-Eps-clause-positions = leaves.keep_words-returns-in-Eps-clause-positions

-- a choice
pub keep_words-keep_choice-requires : goal.keep_words-keep_choice-requires
keep_words-keep_choice-requires = choice.keep_words-keep_choice-requires

pub keep_words-returns-in-Or-clause-kept : goal.keep_words-returns-in-Or-clause-kept
keep_words-returns-in-Or-clause-kept = choice.keep_words-returns-in-Or-clause-kept

pub keep_words-returns-in-Or-clause-positions : goal.keep_words-returns-in-Or-clause-positions
keep_words-returns-in-Or-clause-positions = choice.keep_words-returns-in-Or-clause-positions

pub keep_words-returns-in-Or-clause-refused : goal.keep_words-returns-in-Or-clause-refused
keep_words-returns-in-Or-clause-refused = choice.keep_words-returns-in-Or-clause-refused

pub keep_choice-choice-requires-clause-few : goal.keep_choice-choice-requires-clause-few
keep_choice-choice-requires-clause-few = choice.keep_choice-choice-requires-clause-few

pub keep_choice-returns-in_err-operands-clause-refused :
    goal.keep_choice-returns-in_err-operands-clause-refused
keep_choice-returns-in_err-operands-clause-refused =
    choice.keep_choice-returns-in_err-operands-clause-refused

pub keep_choice-returns-clause-kept : goal.keep_choice-returns-clause-kept
keep_choice-returns-clause-kept = choice.keep_choice-returns-clause-kept

pub keep_choice-returns-clause-positions : goal.keep_choice-returns-clause-positions
keep_choice-returns-clause-positions = choice.keep_choice-returns-clause-positions

pub keep_choice-returns-clause-refused : goal.keep_choice-returns-clause-refused
keep_choice-returns-clause-refused = choice.keep_choice-returns-clause-refused

-- a split
pub keep_words-keep_split-requires : goal.keep_words-keep_split-requires
keep_words-keep_split-requires = split.keep_words-keep_split-requires

pub keep_words-returns-in-Split-clause-kept : goal.keep_words-returns-in-Split-clause-kept
keep_words-returns-in-Split-clause-kept = split.keep_words-returns-in-Split-clause-kept

pub keep_words-returns-in-Split-clause-positions : goal.keep_words-returns-in-Split-clause-positions
keep_words-returns-in-Split-clause-positions = split.keep_words-returns-in-Split-clause-positions

pub keep_words-returns-in-Split-clause-refused : goal.keep_words-returns-in-Split-clause-refused
keep_words-returns-in-Split-clause-refused = split.keep_words-returns-in-Split-clause-refused

pub keep_split-split-requires-clause-few : goal.keep_split-split-requires-clause-few
keep_split-split-requires-clause-few = split.keep_split-split-requires-clause-few

pub keep_split-returns-in_err-operands-clause-refused :
    goal.keep_split-returns-in_err-operands-clause-refused
keep_split-returns-in_err-operands-clause-refused =
    split.keep_split-returns-in_err-operands-clause-refused

pub keep_split-returns-clause-kept : goal.keep_split-returns-clause-kept
keep_split-returns-clause-kept = split.keep_split-returns-clause-kept

pub keep_split-returns-clause-positions : goal.keep_split-returns-clause-positions
keep_split-returns-clause-positions = split.keep_split-returns-clause-positions

pub keep_split-returns-clause-refused : goal.keep_split-returns-clause-refused
keep_split-returns-clause-refused = split.keep_split-returns-clause-refused

-- a combination
pub keep_words-keep_combination-requires : goal.keep_words-keep_combination-requires
keep_words-keep_combination-requires = combine.keep_words-keep_combination-requires

pub keep_words-returns-in-Combine-clause-kept : goal.keep_words-returns-in-Combine-clause-kept
keep_words-returns-in-Combine-clause-kept = combine.keep_words-returns-in-Combine-clause-kept

pub keep_words-returns-in-Combine-clause-positions :
    goal.keep_words-returns-in-Combine-clause-positions
keep_words-returns-in-Combine-clause-positions =
    combine.keep_words-returns-in-Combine-clause-positions

pub keep_words-returns-in-Combine-clause-refused : goal.keep_words-returns-in-Combine-clause-refused
keep_words-returns-in-Combine-clause-refused = combine.keep_words-returns-in-Combine-clause-refused

pub keep_combination-returns-in_err-operands-clause-refused :
    goal.keep_combination-returns-in_err-operands-clause-refused
keep_combination-returns-in_err-operands-clause-refused =
    combine.keep_combination-returns-in_err-operands-clause-refused

pub keep_combination-returns-clause-kept : goal.keep_combination-returns-clause-kept
keep_combination-returns-clause-kept = combine.keep_combination-returns-clause-kept

pub keep_combination-returns-clause-positions : goal.keep_combination-returns-clause-positions
keep_combination-returns-clause-positions = combine.keep_combination-returns-clause-positions

pub keep_combination-returns-clause-refused : goal.keep_combination-returns-clause-refused
keep_combination-returns-clause-refused = combine.keep_combination-returns-clause-refused

-- an iteration
pub keep_words-keep_iteration-requires : goal.keep_words-keep_iteration-requires
keep_words-keep_iteration-requires = iter.keep_words-keep_iteration-requires

pub keep_words-returns-in-Iter-clause-kept : goal.keep_words-returns-in-Iter-clause-kept
keep_words-returns-in-Iter-clause-kept = iter.keep_words-returns-in-Iter-clause-kept

pub keep_words-returns-in-Iter-clause-positions : goal.keep_words-returns-in-Iter-clause-positions
keep_words-returns-in-Iter-clause-positions = iter.keep_words-returns-in-Iter-clause-positions

pub keep_words-returns-in-Iter-clause-refused : goal.keep_words-returns-in-Iter-clause-refused
keep_words-returns-in-Iter-clause-refused = iter.keep_words-returns-in-Iter-clause-refused

pub keep_iteration-new-requires : goal.keep_iteration-new-requires
keep_iteration-new-requires = iter.keep_iteration-new-requires

pub keep_iteration-returns-in_err-positions-clause-refused :
    goal.keep_iteration-returns-in_err-positions-clause-refused
keep_iteration-returns-in_err-positions-clause-refused =
    iter.keep_iteration-returns-in_err-positions-clause-refused

pub keep_iteration-returns-clause-kept : goal.keep_iteration-returns-clause-kept
keep_iteration-returns-clause-kept = iter.keep_iteration-returns-clause-kept

pub keep_iteration-returns-clause-positions : goal.keep_iteration-returns-clause-positions
keep_iteration-returns-clause-positions = iter.keep_iteration-returns-clause-positions

pub keep_iteration-returns-clause-refused : goal.keep_iteration-returns-clause-refused
keep_iteration-returns-clause-refused = iter.keep_iteration-returns-clause-refused

-- an application
pub keep_words-keep_words-requires : goal.keep_words-keep_words-requires
keep_words-keep_words-requires = apply.keep_words-keep_words-requires

pub keep_words-returns-in-Apply-clause-kept : goal.keep_words-returns-in-Apply-clause-kept
keep_words-returns-in-Apply-clause-kept = apply.keep_words-returns-in-Apply-clause-kept

pub keep_words-returns-in-Apply-clause-positions : goal.keep_words-returns-in-Apply-clause-positions
keep_words-returns-in-Apply-clause-positions = apply.keep_words-returns-in-Apply-clause-positions

pub keep_words-returns-in-Apply-clause-refused : goal.keep_words-returns-in-Apply-clause-refused
keep_words-returns-in-Apply-clause-refused = apply.keep_words-returns-in-Apply-clause-refused

-- a composition
pub keep_words-keep_composition-requires : goal.keep_words-keep_composition-requires
keep_words-keep_composition-requires = compose.keep_words-keep_composition-requires

pub keep_words-returns-in-Compose-clause-kept : goal.keep_words-returns-in-Compose-clause-kept
keep_words-returns-in-Compose-clause-kept = compose.keep_words-returns-in-Compose-clause-kept

pub keep_words-returns-in-Compose-clause-positions :
    goal.keep_words-returns-in-Compose-clause-positions
keep_words-returns-in-Compose-clause-positions =
    compose.keep_words-returns-in-Compose-clause-positions

pub keep_words-returns-in-Compose-clause-refused : goal.keep_words-returns-in-Compose-clause-refused
keep_words-returns-in-Compose-clause-refused = compose.keep_words-returns-in-Compose-clause-refused

pub keep_composition-keep_words-requires : goal.keep_composition-keep_words-requires
keep_composition-keep_words-requires = compose.keep_composition-keep_words-requires

pub keep_composition-returns-in_err-left-clause-refused :
    goal.keep_composition-returns-in_err-left-clause-refused
keep_composition-returns-in_err-left-clause-refused =
    compose.keep_composition-returns-in_err-left-clause-refused

pub keep_composition-returns-in_err-keep_fed-clause-refused :
    goal.keep_composition-returns-in_err-keep_fed-clause-refused
keep_composition-returns-in_err-keep_fed-clause-refused =
    compose.keep_composition-returns-in_err-keep_fed-clause-refused

pub keep_composition-returns-clause-kept : goal.keep_composition-returns-clause-kept
keep_composition-returns-clause-kept = compose.keep_composition-returns-clause-kept

-- a collection
pub keep_words-keep_collection-requires : goal.keep_words-keep_collection-requires
keep_words-keep_collection-requires = collect.keep_words-keep_collection-requires

pub keep_words-returns-in-Collect-clause-kept : goal.keep_words-returns-in-Collect-clause-kept
keep_words-returns-in-Collect-clause-kept = collect.keep_words-returns-in-Collect-clause-kept

pub keep_words-returns-in-Collect-clause-positions :
    goal.keep_words-returns-in-Collect-clause-positions
keep_words-returns-in-Collect-clause-positions =
    collect.keep_words-returns-in-Collect-clause-positions

pub keep_words-returns-in-Collect-clause-refused : goal.keep_words-returns-in-Collect-clause-refused
keep_words-returns-in-Collect-clause-refused = collect.keep_words-returns-in-Collect-clause-refused

pub keep_collection-returns-in_err-keep_words-clause-refused :
    goal.keep_collection-returns-in_err-keep_words-clause-refused
keep_collection-returns-in_err-keep_words-clause-refused =
    collect.keep_collection-returns-in_err-keep_words-clause-refused

pub keep_collection-returns-clause-kept : goal.keep_collection-returns-clause-kept
keep_collection-returns-clause-kept = collect.keep_collection-returns-clause-kept

pub keep_collection-returns-clause-positions : goal.keep_collection-returns-clause-positions
keep_collection-returns-clause-positions = collect.keep_collection-returns-clause-positions

pub keep_collection-returns-clause-refused : goal.keep_collection-returns-clause-refused
keep_collection-returns-clause-refused = collect.keep_collection-returns-clause-refused

-- the second operand of a composition
pub keep_fed-keep_words-requires : goal.keep_fed-keep_words-requires
keep_fed-keep_words-requires = fed.keep_fed-keep_words-requires

pub keep_fed-fed-requires : goal.keep_fed-fed-requires
keep_fed-fed-requires = fed.keep_fed-fed-requires

pub keep_fed-returns-in_err-right-clause-refused : goal.keep_fed-returns-in_err-right-clause-refused
keep_fed-returns-in_err-right-clause-refused = fed.keep_fed-returns-in_err-right-clause-refused

pub keep_fed-returns-clause-kept : goal.keep_fed-returns-clause-kept
keep_fed-returns-clause-kept = fed.keep_fed-returns-clause-kept

pub keep_fed-returns-clause-refused : goal.keep_fed-returns-clause-refused
keep_fed-returns-clause-refused = fed.keep_fed-returns-clause-refused
