use Rattle.ambiguity_example.proofs.Asked.{answers_choice, answers_split, answers_iter}
use Rattle.ambiguity_example.proofs.shortest_example.example.Goals as goal

pub returns-in-Choice : goal.returns-in-Choice
returns-in-Choice c = answers_choice c.args.ask _ _ _ c.in-Choice.is c.shared_word.ensures

pub returns-in-Split : goal.returns-in-Split
returns-in-Split c = answers_split c.args.ask _ _ _ c.in-Split.is c.word_of_two_splits.ensures

pub returns-in-Iter : goal.returns-in-Iter
returns-in-Iter c = answers_iter c.args.ask _ _ c.in-Iter.is c.word_of_two_factorings.ensures
