use Rattle.std.proofs.Common.{refl, sym, ◌∙◌}
use Rattle.query_forms.specs.declared.term_place.TermPlace.TheVariants.{Pred}
use Rattle.query_syntax.specs.PredicateHeads.{predicate_word, predicate_places, predicate_heads}
use Rattle.query_syntax.proofs.Heads.{head_found, head_missing}
use Rattle.query_syntax.proofs.predicate_head.predicate_head.Goals as goal

pub unreachable-requires : goal.unreachable-requires
unreachable-requires c =
    head_missing _ predicate_word predicate_places Pred predicate_heads c.args.word.now
    c.args.arguments.now refl c.requires (sym c.in-None.is ∙ c.predicate_named.ensures)

pub returns-clause-word : goal.returns-clause-word
returns-clause-word c =
    (head_found _ predicate_word predicate_places Pred predicate_heads c.args.word.now
    c.args.arguments.now c.in-Some.head refl
    c.requires (sym c.in-Some.is ∙ c.predicate_named.ensures)).0

pub returns-clause-places : goal.returns-clause-places
returns-clause-places c =
    (head_found _ predicate_word predicate_places Pred predicate_heads c.args.word.now
    c.args.arguments.now c.in-Some.head refl
    c.requires (sym c.in-Some.is ∙ c.predicate_named.ensures)).1
