use Rattle.std.proofs.Common.{rules}
use Rattle.predicates.specs.Plain.{plain_of}
use Rattle.type_checker.proofs.SomeItem.{some_item}
use Rattle.type_checker.proofs.word_rules.empty_rule.Goals as goal

pub returns-else-is_empty : goal.returns-else-is_empty
returns-else-is_empty c = λ standing value.
    some_item c.args.cells.now (plain_of c.args.pred.now) _ c.mask.ensures.below c.mask.ensures.met
    (λ none. search rules)
