use Rattle.std.proofs.Common.{refl, sym, ◌∙◌}
use Rattle.query_forms.specs.declared.term_place.TermPlace.TheVariants.{Rate}
use Rattle.query_syntax.specs.RateHeads.{rate_word, rate_places, rate_heads}
use Rattle.query_syntax.proofs.Heads.{head_found}
use Rattle.query_syntax.proofs.rate_head.rate_head.Goals as goal

pub returns-clause-word : goal.returns-clause-word
returns-clause-word c =
    (head_found _ rate_word rate_places Rate rate_heads c.args.word.now c.args.arguments.now
    c.in-Some.head refl c.requires (sym c.in-Some.is ∙ c.rate_named.ensures)).0

pub returns-clause-places : goal.returns-clause-places
returns-clause-places c =
    (head_found _ rate_word rate_places Rate rate_heads c.args.word.now c.args.arguments.now
    c.in-Some.head refl c.requires (sym c.in-Some.is ∙ c.rate_named.ensures)).1
