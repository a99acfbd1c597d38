-- From what the passes before the rules of words made of a program to how it is judged.
use Rattle.std.proofs.Common.{◌≡◌, List, None, Some, Result, Err, sym, ap, subst, ◌∙◌}
use Rattle.item_schema.specs.Layout.{Layout}
use Rattle.language_base.specs.declared.refusal.Refusal.{Refusal}
use Rattle.language_base.specs.declared.rule.Rule.{Rule}
use Rattle.query_lets.specs.Unfolded.{unfolded}
use Rattle.query_model.specs.Checked.{IsChecked}
use Rattle.query_model.specs.Queries.{Qre, plain_of}
use Rattle.query_model.specs.Rules.{IsClear, free}
use Rattle.query_syntax.specs.Programs.{Program}
use Rattle.type_checker.specs.Blames.{IsBlameOf, IsFirstBroken, refusal_of}
use Rattle.type_checker.specs.Breaches.{IsBrokenBy}
use Rattle.query_resolver.specs.Findings.{places_in}
use Rattle.type_checker.specs.Judged.{BreaksFirst, IsJudged, accepted, ambiguous, refused}
use Rattle.query_resolver.specs.Measures.{measured}
use Rattle.type_checker.specs.Judged.{sound, unmeasured}
use Rattle.query_resolver.specs.Layouts.{layout_of}
use Rattle.query_resolver.specs.Nodes.{Node, Places, nodes_in, places_of}
use Rattle.query_resolver.specs.Passes.{IsMeasured}
use Rattle.type_checker.specs.WordRules.{FirstBroken}
use Rattle.type_checker.specs.declared.blame.Blame.{Blame}
use Rattle.query_resolver.specs.declared.measurement.Measured.{Measured}
use Rattle.type_checker.specs.declared.word_stop.WordStop.TheVariants.{Broken}
use Rattle.type_checker.proofs.Clear.{clear_from}
use Rattle.type_checker.proofs.FirstNodes.{first_refused}
use Rattle.query_resolver.proofs.Measuring.{columns_read}
use Rattle.type_checker.proofs.PlainRules.{IsPlain, StopsPlainly, measured_plain}

-- a program of which no query was made is refused for it
pub unmeasured_refused : (program : Program) (why : Refusal) → measured program ≡ Err why
    → IsJudged program (refused why) × IsPlain why.rule
unmeasured_refused program why is = (
  unmeasured why is,
  subst (λ (made : Result Qre Refusal). StopsPlainly made) is (measured_plain program),
)

-- the nodes of a program's query
abbrev nodes_of : Program → Qre → List Node
nodes_of program query =
    nodes_in (layout_of program.stream).columns free query (places_of (unfolded program))

-- one with a blame is refused so
pub blame_refused : (program : Program) (blame : Blame) → IsBlameOf program blame
    → IsJudged program (refused (refusal_of blame))
blame_refused program blame is =
    ambiguous is.query (refusal_of blame) is.measured
    (subst (λ (why : Refusal). FirstBroken (nodes_of program is.query) (Some why))
    (sym is.at.refusal) (first_refused is.node is.broken (nodes_of program is.query) is.first))

module _ (program : Program) (made : Measured) (is : IsMeasured program made) where
  -- the query, and its nodes
  abbrev query : Qre
  query = plain_of made.query.value.shape

  abbrev nodes : List Node
  nodes = nodes_in made.cells.layout.columns free query (places_in made.query.value)

  nodes_are : nodes ≡ nodes_of program query
  nodes_are =
      ap (λ (layout : Layout). nodes_in layout.columns free query (places_in made.query.value))
      is.cells
      ∙ ap (λ (places : Places). nodes_in (layout_of program.stream).columns free query places)
      is.places

  -- a rule of words is broken
  first_there : (node : Node) (rule : Rule) → IsFirstBroken nodes node rule
      → IsFirstBroken (nodes_of program query) node rule
  first_there node rule first =
      subst (λ (all : List Node). IsFirstBroken all node rule) nodes_are first

  pub broken_refused : (why : Refusal) → IsBrokenBy nodes (Broken why)
      → IsJudged program (refused why) × IsPlain why.rule
  broken_refused why (node, rule, first, (same, plain)) = (
    ambiguous query why is.measured
        (subst (λ (w : Refusal). FirstBroken (nodes_of program query) (Some w)) (sym same)
        (first_refused node rule (nodes_of program query) (first_there node rule first))),
    subst (λ (w : Refusal). IsPlain w.rule) (sym same) plain,
  )

  -- none is
  module _ (kept : FirstBroken nodes None) where
    kept_there : BreaksFirst program query None
    kept_there = subst (λ (all : List Node). FirstBroken all None) nodes_are kept

    pub judged_sound : IsJudged program (accepted (record { layout = made.schema; query = query }))
    judged_sound =
        subst (λ (layout : Layout). IsJudged program
        (accepted (record { layout = layout; query = query })))
        (sym is.layout) (sound query is.measured kept_there)

    clear : IsClear free (layout_of program.stream).columns query
    clear = clear_from (layout_of program.stream).columns free query
        (places_of (unfolded program)) is.types kept_there

    pub checked : IsChecked (record { layout = made.schema; main = made.query.value })
    checked =
        subst (λ (layout : Layout). IsChecked (record { layout = layout; main = made.query.value }))
        (sym is.layout)
        (record { read = columns_read program.stream.columns; clear = clear; small = is.small })
