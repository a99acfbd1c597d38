-- A composition: its second operand on the values of the first, and its root.
use Rattle.std.proofs.Common.{◌≡◌, inr, List, ◌++◌, Some, None, Result, Ok, Err, IfErr, OnOk, refl}
use Rattle.std.proofs.Common.{sym, subst, append_assoc}
use Rattle.item_schema.specs.Layout.{Layout, derived_layout}
use Rattle.item_schema.specs.declared.column.Column.{Column}
use Rattle.language_base.specs.declared.span.Span.{Span}
use Rattle.query_model.specs.Queries.{Qre, compose, plain_of}
use Rattle.query_model.specs.QueryTypes.{derived_columns, type_of}
use Rattle.query_model.specs.Rates.{rate_of}
use Rattle.query_model.specs.Rules.{Standing}
use Rattle.query_model.specs.declared.query.Query.{Query}
use Rattle.type_checker.specs.Breaches.{IsBrokenBy, IsUnfed, nodes_after}
use Rattle.query_resolver.specs.Findings.{places_in}
use Rattle.query_resolver.specs.Nodes.{Node, nodes_in, with_two}
use Rattle.type_checker.specs.WordRules.{Breaks, BreaksFed, FirstBroken}
use Rattle.type_checker.specs.declared.word_stop.WordStop.{WordStop}
use Rattle.type_checker.specs.declared.word_stop.WordStop.TheVariants.{Broken, Ambiguous, Memory}
use Rattle.type_checker.proofs.FirstNodes.{first_alone, first_after_kept}
use Rattle.type_checker.proofs.FirstNodes.{broken_after}
use Rattle.type_checker.proofs.PlainRules.{fed_plain}
use Rattle.query_resolver.specs.Findings.{nodes_at}
use Rattle.type_checker.proofs.Walked.{stops_before, stops_after}

-- the second operand, on the stream of these values
module _ (columns : List Column) (standing : Standing) (f : Qre) (second : Query) (layout : Layout)
    (is : layout ≡ derived_layout (type_of columns f)) (span : Span) where
  abbrev values : List Column
  values = derived_columns (type_of columns f)

  -- the composition, and its nodes before it
  abbrev last : Node
  last = record {
    columns = columns;
    standing = standing;
    query = compose f (plain_of second.shape);
    place = span;
  }

  abbrev pub after : List Node
  after = nodes_after columns standing f (plain_of second.shape) (places_in second) span

  -- a node of it breaks a rule
  pub fed_stopped : (stop : WordStop) → IsBrokenBy (nodes_at layout.columns standing second) stop
      → IsBrokenBy after stop
  fed_stopped stop broken =
      stops_before (nodes_at values standing second) _ stop
      (subst (λ (l : Layout). IsBrokenBy (nodes_at l.columns standing second) stop) is broken)

  -- none does
  module _ (kept : FirstBroken (nodes_at layout.columns standing second) None) where
    kept_there : FirstBroken (nodes_at values standing second) None
    kept_there =
        subst (λ (l : Layout). FirstBroken (nodes_at l.columns standing second) None) is kept

    fed_by : BreaksFed standing layout.columns (rate_of (plain_of second.shape)) None
        → FirstBroken after None
    fed_by holds = broken_after (nodes_at values standing second) _ None kept_there (inr (
      subst (λ (l : Layout). BreaksFed standing l.columns (rate_of (plain_of second.shape)) None) is
          holds,
      refl,
    ))

    unfed_by : (stop : WordStop)
        → IsUnfed standing layout.columns (rate_of (plain_of second.shape)) span stop
        → IsBrokenBy after stop
    unfed_by (Broken why) (rule, same, breaks) =
        let here : Breaks last (Some rule) =
        subst (λ (l : Layout). BreaksFed standing l.columns (rate_of (plain_of second.shape))
        (Some rule)) is breaks in (
          last,
          rule,
          first_after_kept last rule (nodes_at values standing second) _ kept_there
              (first_alone last rule here),
          (same, fed_plain standing values (rate_of (plain_of second.shape)) rule here),
        )
    unfed_by (Ambiguous blame) broken = absurd broken
    unfed_by Memory broken = tt

    -- and the composition is asked
    pub fed_kept : (result : Result (Unit {0}) WordStop)
        → OnOk result (BreaksFed standing layout.columns (rate_of (plain_of second.shape)) None)
        → OnOk result (FirstBroken after None)
    fed_kept (Ok done) holds = fed_by holds
    fed_kept (Err stop) holds = tt

    pub fed_refused : (result : Result (Unit {0}) WordStop)
        → IfErr result (IsUnfed standing layout.columns (rate_of (plain_of second.shape)) span)
        → IfErr result (IsBrokenBy after)
    fed_refused (Ok done) broken = tt
    fed_refused (Err stop) broken = unfed_by stop broken

-- a composition at this place
module _ (columns : List Column) (standing : Standing) (first second : Query) (span : Span) where
  -- its nodes, and those after the nodes of the first operand
  abbrev all : List Node
  all = nodes_in columns standing (compose (plain_of first.shape) (plain_of second.shape))
      (with_two (places_in first) (places_in second) span)

  abbrev others : List Node
  others = nodes_after columns standing (plain_of first.shape) (plain_of second.shape)
      (places_in second) span

  nodes_are : all ≡ nodes_at columns standing first ++ others
  nodes_are =
      append_assoc (nodes_at columns standing first)
      (nodes_at (derived_columns (type_of columns (plain_of first.shape))) standing second) _

  -- a node of the first operand breaks a rule
  pub composed_first : (stop : WordStop) → IsBrokenBy (nodes_at columns standing first) stop
      → IsBrokenBy all stop
  composed_first stop broken =
      subst (λ (nodes : List Node). IsBrokenBy nodes stop) (sym nodes_are)
      (stops_before (nodes_at columns standing first) others stop broken)

  -- none does
  module _ (kept : FirstBroken (nodes_at columns standing first) None) where
    pub composed_second : (stop : WordStop) → IsBrokenBy others stop → IsBrokenBy all stop
    composed_second stop broken =
        subst (λ (nodes : List Node). IsBrokenBy nodes stop) (sym nodes_are)
        (stops_after (nodes_at columns standing first) others stop kept broken)

    pub composed_kept : FirstBroken others None → FirstBroken all None
    composed_kept later =
        subst (λ (nodes : List Node). FirstBroken nodes None) (sym nodes_are)
        (broken_after (nodes_at columns standing first) others None kept later)
