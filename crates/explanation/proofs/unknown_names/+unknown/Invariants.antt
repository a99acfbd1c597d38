use Rattle.std.proofs.Common.{◌+◌, ◌*◌, refl}
use Rattle.query_syntax.specs.declared.expression.Expression.{size-Expression}
use Rattle.explanation.specs.Scopes.{plain_scope}
use Rattle.explanation.specs.Unknown.{unknown_name, unknown_part}
use Rattle.explanation.proofs.SearchedParts.{IsLeft}
use Rattle.explanation.proofs.unknown_names.+unknown.Given as goal

abbrev pub decreases-unknown_name : goal.decreases-unknown_name
decreases-unknown_name l = 2 * size-Expression l.expression.now

abbrev pub decreases-unknown_part : goal.decreases-unknown_part
decreases-unknown_part l = 2 * goal.size-unknown_part l + 1

-- nothing is found in the parts so far
abbrev pub invariant-unknown_part-parts : goal.invariant-unknown_part-parts
invariant-unknown_part-parts l =
    IsLeft (unknown_name (plain_scope l.scope)) (unknown_part (plain_scope l.scope)) refl
    (λ part others. refl) l.parts l.part-index
