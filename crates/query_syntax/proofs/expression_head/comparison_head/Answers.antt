use Rattle.std.proofs.Common.{refl, sym, ◌∙◌}
use Rattle.query_forms.specs.declared.term_place.TermPlace.TheVariants.{Compare}
use Rattle.query_syntax.specs.ExpressionHeads.{compare_places, compares}
use Rattle.query_syntax.specs.Words.{compare_word}
use Rattle.query_syntax.proofs.Heads.{head_found}
use Rattle.query_syntax.proofs.expression_head.comparison_head.Goals as goal

pub returns-clause-places : goal.returns-clause-places
returns-clause-places c =
    (head_found _ compare_word compare_places Compare compares c.args.word.now
    c.args.arguments.now c.in-Some.compare refl
    c.requires (sym c.in-Some.is ∙ c.comparison_named.ensures)).1
