-- The main query after lets has the parts that the lets and the main query have.
use Rattle.std.proofs.Common.{◌≡◌, Bool, true, false, cond, List, [], ◌∷◌, Option, None, Some, refl}
use Rattle.std.proofs.Common.{ℕ, subst}
use Rattle.std.specs.Option.{unwrap_or}
use Rattle.std.specs.Str.{bytes_eq}
use Rattle.query_lets.specs.Unfolded.{Binding, bindings_after, meaning, replaced, unfolded}
use Rattle.query_syntax.specs.Programs.{Let, Program}
use Rattle.query_syntax.specs.Queries as q
use Rattle.query_syntax.specs.Queries.{Query}
use Rattle.rewritten_texts.proofs.Parts.{HasParts, HaveParts}

-- whatever a name stands for has them
abbrev StandFor : List Binding → Type 0
StandFor bindings = (name : List ℕ) (query : Query) → meaning bindings name ≡ Some query
    → HasParts query

module _ (bindings : List Binding) (parts : StandFor bindings) where
  meant : (found : Option Query) (query : Query)
      → ((other : Query) → found ≡ Some other → HasParts other) → HasParts query
      → HasParts (unwrap_or found query)
  meant None query each has = has
  meant (Some other) query each has = each other refl

  replaced_parts : (query : Query) → HasParts query → HasParts (replaced bindings query)
  replaced_parts (q.name name) has =
      meant (meaning bindings name.bytes) (q.name name) (parts name.bytes) tt
  replaced_parts (q.atom predicate value span) has = has
  replaced_parts (q.eps number span) has = has
  replaced_parts (q.or f g span) has = (replaced_parts f has.0, replaced_parts g has.1)
  replaced_parts (q.split f g value span) has =
      (replaced_parts f has.0, replaced_parts g has.1, has.2)
  replaced_parts (q.iter f first step span) has = (replaced_parts f has.0, has.1, has.2)
  replaced_parts (q.combine f g value span) has =
      (replaced_parts f has.0, replaced_parts g has.1, has.2)
  replaced_parts (q.apply f value span) has = (replaced_parts f has.0, has.1)
  replaced_parts (q.compose f g span) has = (replaced_parts f has.0, replaced_parts g has.1)
  replaced_parts (q.collect key sync rate f span) has =
      (replaced_parts f has.0, has.1, has.2, has.3)

  -- one let more
  one_more : (one : Let) → HasParts one.query
      → StandFor
      ((record { name = one.name.bytes; query = replaced bindings one.query }) ∷ bindings)
  one_more one has name query is = by (bytes_eq name one.name.bytes) is
    where
      by : (test : Bool)
          → cond test (Some (replaced bindings one.query)) (meaning bindings name) ≡ Some query
          → HasParts query
      by true same =
          let there : replaced bindings one.query ≡ query = cc in
          subst HasParts there (replaced_parts one.query has)
      by false same = parts name query same

after_lets : (bindings : List Binding) (lets : List Let) → StandFor bindings → HaveParts lets
    → StandFor (bindings_after bindings lets)
after_lets bindings [] parts have = parts
after_lets bindings (one ∷ lets) parts have =
    after_lets
    ((record { name = one.name.bytes; query = replaced bindings one.query }) ∷ bindings) lets
    (one_more bindings parts one have.0) have.1

pub unfolded_parts : (program : Program) → HaveParts program.lets → HasParts program.main.query
    → HasParts (unfolded program)
unfolded_parts program lets main =
    replaced_parts (bindings_after [] program.lets)
    (after_lets [] program.lets (λ name query is. absurd (cc)) lets) program.main.query main
