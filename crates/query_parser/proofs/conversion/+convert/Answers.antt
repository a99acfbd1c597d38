use Rattle.query_trees.specs.declared.tree.Tree.TheViews.{the_lemmas}
use Rattle.std.proofs.Common.{rules, ◌∙◌}
use Rattle.query_parser.proofs.Saying.{tokens_at, tokens_inside, sayable_at, sayable_inside}
use Rattle.query_parser.proofs.Saying.{say_call, say_more}
use Rattle.query_parser.proofs.conversion.+convert.Goals as goal

pub term_of-terms_of-requires : goal.term_of-terms_of-requires
term_of-terms_of-requires t c =
    let tokens = rw (← c.deref.ensures.value) at (tokens_inside c.args.text.now c.args.tree.now
    c.in-Call.head c.in-Call.arguments c.in-Call.span c.in-Call.is c.requires.tokens) in
    let sayable = rw (← c.deref.ensures.value) at (sayable_inside c.args.text.now c.args.tree.now
    c.in-Call.head c.in-Call.arguments c.in-Call.span c.in-Call.is c.requires.sayable) in
    (search (rules, the_lemmas), (tokens, sayable))

pub term_of-returns-in_ok-terms_of-in-Call : goal.term_of-returns-in_ok-terms_of-in-Call
term_of-returns-in_ok-terms_of-in-Call t c =
    say_call c.args.text.now c.args.tree.now c.in-Call.head c.in-Call.arguments c.in-Call.span
    c.in_ok-head-in-Call.head c.new-arguments.result c.in-Call.is
    (c.in_ok-head-in-Call.ensures ∙ c.bytes_at.ensures)
    (rw (c.new-arguments.ensures, ← c.deref.ensures.value) c.in_ok-terms_of-in-Call.ensures)

pub terms_of-term_of-requires : goal.terms_of-term_of-requires
terms_of-term_of-requires t c =
    let tokens = tokens_at c.args.text.now c.args.trees.now c.tree-item.result c.trees.tree-index
    c.trees-test.true c.tree-item.is c.requires.tokens in
    let sayable = sayable_at c.args.text.now c.args.trees.now c.tree-item.result c.trees.tree-index
    c.trees-test.true c.tree-item.is c.requires.sayable in
    (search (rules, the_lemmas), (tokens, sayable))

pub terms_of-trees-preserved : goal.terms_of-trees-preserved
terms_of-trees-preserved t c =
    say_more c.args.text.now c.args.trees.now c.trees.terms.items c.push.new.self.items
    c.tree-item.result c.in_ok-term_of.field-0 c.trees.tree-index c.trees-test.true c.tree-item.is
    c.in_ok-push.ensures.items c.trees.invariant c.in_ok-term_of.ensures
