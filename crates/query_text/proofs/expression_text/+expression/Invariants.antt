use Rattle.std.proofs.Common.{◌+◌, ◌*◌}
use Rattle.expressions.specs.Expressions.{plain_of, plain_parts}
use Rattle.query_text.proofs.Measures.{weight_of, weight_of_all}
use Rattle.query_text.proofs.expression_text.+expression.Given as goal

-- how much there is to go through; at one expression those that call others stand above them
abbrev pub decreases-write_expression : goal.decreases-write_expression
decreases-write_expression l = 2 * weight_of (plain_of l.value.now)

abbrev pub decreases-write_one : goal.decreases-write_one
decreases-write_one l = 2 * weight_of (plain_of l.inner.now) + 1

abbrev pub decreases-write_two : goal.decreases-write_two
decreases-write_two l =
    2 * weight_of (plain_of l.left.now) + 2 * weight_of (plain_of l.right.now) + 2

abbrev pub decreases-write_choice : goal.decreases-write_choice
decreases-write_choice l =
    2 * weight_of (plain_of l.left.now) + 2 * weight_of (plain_of l.right.now)
    + 2 * weight_of (plain_of l.met.now) + 2 * weight_of (plain_of l.other.now) + 3

abbrev pub decreases-write_over : goal.decreases-write_over
decreases-write_over l = 2 * weight_of (plain_of l.first.now) + 1

abbrev pub decreases-write_entry : goal.decreases-write_entry
decreases-write_entry l = 2 * weight_of (plain_of l.other.now) + 1

abbrev pub decreases-write_record : goal.decreases-write_record
decreases-write_record l = 2 * weight_of_all (plain_parts l.parts.now) + 1

abbrev pub decreases-write_parts : goal.decreases-write_parts
decreases-write_parts l = 2 * weight_of_all (plain_parts l.parts.now)

abbrev pub decreases-write_pair : goal.decreases-write_pair
decreases-write_pair l =
    2 * weight_of (plain_of l.left.now) + 2 * weight_of (plain_of l.right.now) + 1

abbrev pub decreases-write_rest : goal.decreases-write_rest
decreases-write_rest l = 2 * weight_of_all (plain_parts l.parts.now)
