use Rattle.std.proofs.Common.{◌≡◌, ◌≤◌, ◌<◌, None, Some, Err, subst, sym, arith}
use Rattle.language_base.specs.declared.rule.Rule.TheVariants.{Size}
use Rattle.language_base.specs.declared.span.Span.{Span}
use Rattle.query_model.specs.Bounds.{slots_of}
use Rattle.query_model.specs.Queries.{plain_of}
use Rattle.query_model.specs.Rules.{free}
use Rattle.query_model.specs.Sizes.{max_slots}
use Rattle.query_resolver.specs.Measures.{limited}
use Rattle.query_resolver.specs.Nodes.{Places, first_where, nodes_in}
use Rattle.query_resolver.specs.Sizes.{has_many_positions}
use Rattle.query_resolver.specs.Steps.{refusal}
use Rattle.query_resolver.proofs.Measuring.{many_positions, many_slots, within_limits}
use Rattle.query_resolver.proofs.Rooted.{root_span}
use Rattle.query_resolver.proofs.measurement.keep_limits.Goals as goal

pub returns-then-slots-gt-MAX_SLOTS-clause-refused :
    goal.returns-then-slots-gt-MAX_SLOTS-clause-refused
returns-then-slots-gt-MAX_SLOTS-clause-refused c = rw c.refused.ensures (λ layout tree same.
    let query = plain_of c.args.query.now.shape in
    let many : max_slots < slots_of query = omega (arith, c.slots.ensures) in
    subst (λ (span : Span). limited layout tree query ≡ Err (refusal Size span))
    (root_span tree c.args.query.now same) (many_slots layout tree query
    (subst (λ (places : Places).
    first_where has_many_positions (nodes_in layout.columns free query places) ≡ None)
    (sym same) (c.in-Ok.ensures.none layout.columns free)) many))

pub returns-else-slots-gt-MAX_SLOTS-clause-limited :
    goal.returns-else-slots-gt-MAX_SLOTS-clause-limited
returns-else-slots-gt-MAX_SLOTS-clause-limited c =
    let query = plain_of c.args.query.now.shape in
    let few : slots_of query ≤ max_slots = omega (arith, c.slots.ensures) in record {
      positions = c.in-Ok.ensures.few.0;
      slots = few;
      limited = λ layout tree same. within_limits layout tree query
          (subst (λ (places : Places).
          first_where has_many_positions (nodes_in layout.columns free query places)
          ≡ None) (sym same)
          (c.in-Ok.ensures.none layout.columns free)) few;
    }

pub returns-in-Err-clause-refused : goal.returns-in-Err-clause-refused
returns-in-Err-clause-refused c = rw c.refused-in-Err.ensures (λ layout tree same.
    let query = plain_of c.args.query.now.shape in
    many_positions layout tree query c.in-Err.span
    (subst
    (λ (places : Places). first_where has_many_positions (nodes_in layout.columns free query places)
    ≡ Some c.in-Err.span) (sym same) (c.in-Err.ensures.first layout.columns free)))
