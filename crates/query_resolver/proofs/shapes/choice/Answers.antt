use Rattle.std.proofs.Common.{◌≡◌, false, true, ap, rules}
use Rattle.query_model.specs.Queries.{plain_of}
use Rattle.query_resolver.specs.Findings.{places_at}
use Rattle.query_resolver.specs.Resolved.{same_type}
use Rattle.query_resolver.proofs.Shaping.{or_refused, or_made}
use Rattle.query_resolver.proofs.shapes.choice.Goals as goal

pub returns-then-not-same_type-clause-refused : goal.returns-then-not-same_type-clause-refused
returns-then-not-same_type-clause-refused c =
    let differ : same_type c.args.right.ty c.args.left.ty ≡ false = first_of (cc, search rules) in
    rw c.refused.ensures
    (λ nesting columns f g is_left is_right.
    or_refused nesting columns f g c.args.left c.args.right is_left is_right c.args.span
    differ)

pub returns-clause-made : goal.returns-clause-made
returns-clause-made c =
    let same : same_type c.args.right.ty c.args.left.ty ≡ true = first_of (cc, search rules) in
    λ nesting columns f g is_left is_right.
    or_made nesting columns f g c.args.left c.args.right is_left is_right c.args.span _ same
    (ap plain_of c.in_ok-new.ensures.shape_is) (ap places_at c.in_ok-new.ensures.shape_is)
    c.in_ok-new.ensures.span_is c.in_ok-new.ensures.type_is
