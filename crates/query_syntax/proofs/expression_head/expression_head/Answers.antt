use Rattle.std.proofs.Common.{length, refl, sym, ◌∙◌}
use Rattle.query_forms.specs.declared.term_place.TermPlace.TheVariants.{Expr}
use Rattle.query_syntax.specs.ExpressionHeads.{HasRecordSize, expression_word, expression_places}
use Rattle.query_syntax.specs.ExpressionHeads.{expression_heads, expressions}
use Rattle.query_syntax.proofs.RecordSizes.{records_sized}
use Rattle.query_syntax.proofs.Heads.{head_found, head_missing, one_of_rows}
use Rattle.query_syntax.proofs.expression_head.expression_head.Goals as goal

pub unreachable-requires : goal.unreachable-requires
unreachable-requires c =
    head_missing _ expression_word expression_places Expr expression_heads c.args.word.now
    c.args.arguments.now refl c.requires (sym c.in-None.is ∙ c.expression_named.ensures)

pub returns-clause-word : goal.returns-clause-word
returns-clause-word c =
    (head_found _ expression_word expression_places Expr expression_heads c.args.word.now
    c.args.arguments.now c.in-Some.head refl
    c.requires (sym c.in-Some.is ∙ c.expression_named.ensures)).0

pub returns-clause-places : goal.returns-clause-places
returns-clause-places c =
    (head_found _ expression_word expression_places Expr expression_heads c.args.word.now
    c.args.arguments.now c.in-Some.head refl
    c.requires (sym c.in-Some.is ∙ c.expression_named.ensures)).1

pub returns-clause-size : goal.returns-clause-size
returns-clause-size c =
    one_of_rows HasRecordSize expressions c.args.word.now (length c.args.arguments.now)
    c.in-Some.head records_sized (sym (sym c.in-Some.is ∙ c.expression_named.ensures))
