use Rattle.std.proofs.Common.{sym, subst}
use Rattle.query_syntax.specs.Tops.{AreTops}
use Rattle.query_syntax.proofs.TopTerms.{tops}
use Rattle.query_syntax.proofs.syntax.syntax_of.Goals as goal

pub program_of-requires : goal.program_of-requires
program_of-requires c =
    subst AreTops (sym c.terms.ensures.terms) (tops 0 _ c.terms.ensures.file.fit)
