-- Queries whose expressions, predicates, rates and keys are such as stand in the nodes of a text's
-- lets.
use Rattle.std.proofs.Common.{ℕ, List, length, FitsSigned, w64}
use Rattle.std.specs.List.{AllByRecursion}
use Rattle.query_model.specs.Keys.{IsKeySize}
use Rattle.query_syntax.specs.Keys.{names_of}
use Rattle.query_syntax.specs.Programs.{Let}
use Rattle.query_syntax.specs.Queries as q
use Rattle.query_syntax.specs.Queries.{Query}
use Rattle.rewritten_texts.proofs.SaidRates.{RateSaid}
use Rattle.rewritten_texts.proofs.SaidTests.{TestSaid}
use Rattle.rewritten_texts.proofs.SaidValues.{ValueSaid}

-- the level of the arguments of a let's or the main query's node
abbrev pub inside : ℕ
inside = 3

abbrev pub HasParts : Query → Type 0
HasParts (q.name name) = Unit {0}
HasParts (q.atom predicate value span) = TestSaid inside predicate × ValueSaid inside value
HasParts (q.eps number span) = FitsSigned w64 number.value
HasParts (q.or f g span) = HasParts f × HasParts g
HasParts (q.split f g value span) = HasParts f × HasParts g × ValueSaid inside value
HasParts (q.iter f first step span) =
    HasParts f × FitsSigned w64 first.value × ValueSaid inside step
HasParts (q.combine f g value span) = HasParts f × HasParts g × ValueSaid inside value
HasParts (q.apply f value span) = HasParts f × ValueSaid inside value
HasParts (q.compose f g span) = HasParts f × HasParts g
HasParts (q.collect key sync rate f span) =
    HasParts f × IsKeySize (length (names_of key)) × TestSaid inside sync × RateSaid inside rate

-- and so of lets
abbrev pub HaveParts : List Let → Type 0
HaveParts lets = AllByRecursion (λ one. HasParts one.query) lets
