use Rattle.expressions.specs.Expressions.{plain_of, plain_parts}
use Rattle.query_rewrite.proofs.Measures.{weight_of, weight_of_all}
use Rattle.query_rewrite.proofs.reading.+reading.Given as goal

abbrev pub decreases-reading_of : goal.decreases-reading_of
decreases-reading_of l = weight_of (plain_of l.value.now)

abbrev pub decreases-reading_of_all : goal.decreases-reading_of_all
decreases-reading_of_all l = weight_of_all (plain_parts l.parts.now)
