-- A program is judged in one way.
use Rattle.std.proofs.Common.{◌≡◌, Option, None, Some, Ok, Err, ap, subst}
use Rattle.language_base.specs.declared.refusal.Refusal.{Refusal}
use Rattle.query_lets.specs.Unfolded.{unfolded}
use Rattle.query_model.specs.Queries.{Qre}
use Rattle.query_model.specs.Rules.{free}
use Rattle.query_syntax.specs.Programs.{Program}
use Rattle.type_checker.specs.Judged.{BreaksFirst, IsJudged, Verdict, accepted, ambiguous}
use Rattle.query_resolver.specs.Measures.{measured}
use Rattle.type_checker.specs.Judged.{refused, sound, unmeasured}
use Rattle.query_resolver.specs.Layouts.{layout_of}
use Rattle.query_resolver.specs.Nodes.{nodes_in, places_of}
use Rattle.type_checker.proofs.WordVerdicts.{one_refusal}

module _ (program : Program) where
  -- all passes but the last make one query, or one refusal
  one_query : (query other : Qre) → measured program ≡ Ok query
      → measured program ≡ Ok other → other ≡ query
  one_query query other is is' = cc

  one_stop : (why other : Refusal) → measured program ≡ Err why
      → measured program ≡ Err other → other ≡ why
  one_stop why other is is' = cc

  never : {A : Type 0} (query : Qre) (why : Refusal) → measured program ≡ Ok query
      → measured program ≡ Err why → A
  never query why is is' = absurd (cc)

  -- and the last has one answer
  one_answer : (query other : Qre) (why why' : Option Refusal) → measured program ≡ Ok query
      → measured program ≡ Ok other → BreaksFirst program query why
      → BreaksFirst program other why' → why' ≡ why
  one_answer query other why why' is is' breaks breaks' =
      one_refusal (nodes_in (layout_of program.stream).columns free query
      (places_of (unfolded program))) why why'
      breaks
      (subst (λ (q : Qre). BreaksFirst program q why') (one_query query other is is') breaks')

  pub one_verdict : (one other : Verdict) → IsJudged program one
      → IsJudged program other → other ≡ one
  one_verdict _ _ (sound query is breaks) (sound query' is' breaks') =
      ap (λ (q : Qre). accepted (record { layout = layout_of program.stream; query = q }))
      (one_query query query' is is')
  one_verdict _ _ (sound query is breaks) (unmeasured why is') = never query why is is'
  one_verdict _ _ (sound query is breaks) (ambiguous query' why is' breaks') =
      let same : Some why ≡ None =
      one_answer query query' None (Some why) is is' breaks breaks' in absurd (cc)
  one_verdict _ _ (unmeasured why is) (sound query is' breaks') = never query why is' is
  one_verdict _ _ (unmeasured why is) (unmeasured why' is') = ap refused (one_stop why why' is is')
  one_verdict _ _ (unmeasured why is) (ambiguous query why' is' breaks') = never query why is' is
  one_verdict _ _ (ambiguous query why is breaks) (sound query' is' breaks') =
      let same : Some why ≡ None =
      one_answer query' query None (Some why) is' is breaks' breaks in absurd (cc)
  one_verdict _ _ (ambiguous query why is breaks) (unmeasured why' is') = never query why' is is'
  one_verdict _ _ (ambiguous query why is breaks) (ambiguous query' why' is' breaks') =
      let same : Some why' ≡ Some why =
      one_answer query query' (Some why) (Some why') is is' breaks breaks' in
      let one : why' ≡ why = cc in ap refused one
