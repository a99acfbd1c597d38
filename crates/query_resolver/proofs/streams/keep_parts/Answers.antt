use Rattle.std.proofs.Common.{◌≡◌, ◌∙◌, false, true, ap, rules}
use Rattle.predicates.specs.Plain as predicates
use Rattle.rate_expr.specs.Plain as rates
use Rattle.query_resolver.specs.Nestings.{nesting_of}
use Rattle.query_resolver.specs.Resolutions.{parts_fit}
use Rattle.query_resolver.specs.Resolved.{may_collect}
use Rattle.query_resolver.proofs.Collecting.{misplaced, unfit_parts}
use Rattle.value_ops.specs.declared.value.ValueType.{ValueType}
use Rattle.query_resolver.proofs.streams.keep_parts.Goals as goal

pub returns-then-not-may_collect-clause-refused : goal.returns-then-not-may_collect-clause-refused
returns-then-not-may_collect-clause-refused c =
    let parts = c.args.parts.now in
    let never : may_collect (nesting_of c.args.nesting) ≡ false = first_of (cc, search rules) in
    rw c.refused.ensures
    (λ key sync rate operand are same f is. misplaced (nesting_of c.args.nesting)
    c.args.schema.now.columns key sync rate f c.args.span operand is parts.key are.keyed
    (predicates.plain_of parts.sync) are.tested (rates.plain_of parts.rate) are.rated never)

pub returns-then-not-parts_fit-clause-refused : goal.returns-then-not-parts_fit-clause-refused
returns-then-not-parts_fit-clause-refused c =
    let parts = c.args.parts.now in
    let may : may_collect (nesting_of c.args.nesting) ≡ true = first_of (cc, search rules) in
    let unfit : parts_fit c.args.schema.now.columns c.args.ty parts ≡ false =
    first_of (cc, search rules) in
    rw c.refused-then-not-parts_fit.ensures
    (λ key sync rate operand are same f is. unfit_parts (nesting_of c.args.nesting)
    c.args.schema.now.columns key sync rate f c.args.span operand is parts.key are.keyed
    (predicates.plain_of parts.sync) are.tested (rates.plain_of parts.rate) are.rated may
    (ap (λ (ty : ValueType). parts_fit c.args.schema.now.columns ty parts) same ∙ unfit))
