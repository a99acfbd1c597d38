use Rattle.std.proofs.Common.{refl, sym, ◌∙◌}
use Rattle.query_forms.specs.declared.term_place.TermPlace.TheVariants.{Query}
use Rattle.query_syntax.specs.QueryHeads.{query_word, query_places, query_heads}
use Rattle.query_syntax.proofs.Heads.{head_found, head_missing}
use Rattle.query_syntax.proofs.query_head.query_head.Goals as goal

pub unreachable-requires : goal.unreachable-requires
unreachable-requires c =
    head_missing _ query_word query_places Query query_heads c.args.word.now
    c.args.arguments.now refl c.requires (sym c.in-None.is ∙ c.query_named.ensures)

pub returns-clause-word : goal.returns-clause-word
returns-clause-word c =
    (head_found _ query_word query_places Query query_heads c.args.word.now c.args.arguments.now
    c.in-Some.head refl c.requires (sym c.in-Some.is ∙ c.query_named.ensures)).0

pub returns-clause-places : goal.returns-clause-places
returns-clause-places c =
    (head_found _ query_word query_places Query query_heads c.args.word.now c.args.arguments.now
    c.in-Some.head refl c.requires (sym c.in-Some.is ∙ c.query_named.ensures)).1
