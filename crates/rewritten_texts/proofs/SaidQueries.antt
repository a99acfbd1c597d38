-- The queries in the text of a file have such parts.
use Rattle.std.proofs.Common.{◌≡◌, ◌≤◌, ℕ, ◌+◌, FitsSigned, w64, List, [], ◌∷◌, refl}
use Rattle.std.proofs.Common.{codes, arith, ap, ◌∙◌}
use Rattle.query_forms.specs.declared.term_place.TermPlace.{TermPlace}
use Rattle.query_forms.specs.declared.term_place.TermPlace.TheVariants.{Expr, Key, Number, Pred}
use Rattle.query_forms.specs.declared.term_place.TermPlace.TheVariants.{Query, Rate}
use Rattle.query_forms.specs.Terms.{Terms, count_of, none}
use Rattle.query_syntax.specs.declared.leaf.Number as leaf
use Rattle.query_syntax.specs.Expressions as e
use Rattle.query_syntax.specs.Predicates as p
use Rattle.query_syntax.specs.Queries as q
use Rattle.query_syntax.specs.Rates as r
use Rattle.query_syntax.specs.Written.{expression_before, key_before, number_before}
use Rattle.query_syntax.specs.Written.{predicate_before, query_before, rate_before}
use Rattle.rewritten_texts.proofs.Parts.{HasParts, inside}
use Rattle.rewritten_texts.proofs.SaidKeys.{key_count, stands_key}
use Rattle.rewritten_texts.proofs.SaidNumbers as numbers
use Rattle.rewritten_texts.proofs.SaidRates.{RateSaid, rate_count, stands_rate}
use Rattle.rewritten_texts.proofs.SaidTests.{TestSaid, stands_test, test_count}
use Rattle.rewritten_texts.proofs.SaidValues.{ValueSaid}
use Rattle.rewritten_texts.proofs.Taken.{StandThere, number_fits, take_form, take_number}
use Rattle.rewritten_texts.proofs.ValuesInNodes.{stands_value, value_count}

-- what stands deeper in a text has no more levels than what stands inside of a let's node
module _ (level : ℕ) (deep : inside ≤ level) where
  value_inside : (tree : e.Expression) → ValueSaid level tree → ValueSaid inside tree
  value_inside tree said scope x is =
      let one = said scope x is in
      let levels = one.levels in
      record { numbers = one.numbers; keys = one.keys; levels = omega (arith, levels, deep) }

  test_inside : (tree : p.Predicate) → TestSaid level tree → TestSaid inside tree
  test_inside tree said columns x is =
      let one = said columns x is in
      let levels = one.levels in
      record { operands = one.operands; levels = omega (arith, levels, deep) }

  rate_inside : (tree : r.Rate) → RateSaid level tree → RateSaid inside tree
  rate_inside tree said columns x is =
      let one = said columns x is in
      let levels = one.levels in
      record { operands = one.operands; levels = omega (arith, levels, deep) }

-- a query is one term
pub query_count : (tree : q.Query) (rest : Terms)
    → count_of (query_before tree rest) ≡ count_of rest + 1
query_count (q.name name) rest = refl
query_count (q.atom predicate value span) rest = refl
query_count (q.eps number span) rest = refl
query_count (q.or f g span) rest = refl
query_count (q.split f g value span) rest = refl
query_count (q.iter f first step span) rest = refl
query_count (q.combine f g value span) rest = refl
query_count (q.apply f value span) rest = refl
query_count (q.compose f g span) rest = refl
query_count (q.collect key sync rate f span) rest = refl

-- the number of a node, and those after it
record StandsNumber (level : ℕ) (places : List TermPlace) (n : leaf.Number) (rest : Terms)
    : Type 0 where
  pub fits : FitsSigned w64 n.value
  pub others : StandThere level places rest

stands_number : (level : ℕ) (places : List TermPlace) (n : leaf.Number) (rest : Terms)
    → StandThere level (Number ∷ places) (number_before n rest) → StandsNumber level places n rest
stands_number level places n rest stand =
    let taken = take_number level rest n.span n.value stand.said in record {
      fits = numbers.number_fits n.value taken.within;
      others = record {
        said = taken.others;
        fit = number_fits places rest n.span Number n.value stand.fit;
      };
    }

-- a query of a let, and those after it
pub record StandsQuery (level : ℕ) (places : List TermPlace) (tree : q.Query) (rest : Terms)
    : Type 0 where
  pub parts : HasParts tree
  pub others : StandThere level places rest

pub stands_query : (tree : q.Query) (level : ℕ) (places : List TermPlace) (rest : Terms)
    → inside ≤ level + 1 → StandThere level (Query ∷ places) (query_before tree rest)
    → StandsQuery level places tree rest
stands_query (q.name name) level places rest deep stand = record {
  parts = tt;
  others = record {
    said = record { writable = stand.said.writable.2; within = stand.said.within };
    fit = stand.fit;
  };
}
stands_query (q.atom predicate value span) level places rest deep stand =
    let last = expression_before value none in
    let taken = take_form level Query places (Pred ∷ Expr ∷ []) (codes "atom")
    (predicate_before predicate last) rest span 2 stand
    (let one = value_count value none in test_count predicate last ∙ ap (λ n. n + 1) one) refl in
    let test = stands_test (level + 1) (Expr ∷ []) predicate last taken.inner in
    let made = stands_value (level + 1) [] value none test.others in record {
      parts = (
        test_inside (level + 1) deep predicate test.test,
        value_inside (level + 1) deep value made.value,
      );
      others = taken.others;
    }
stands_query (q.eps number span) level places rest deep stand =
    let taken = take_form level Query places (Number ∷ []) (codes "eps")
    (number_before number none) rest span 1 stand refl refl in
    let one = stands_number (level + 1) [] number none taken.inner in
    record { parts = one.fits; others = taken.others }
stands_query (q.or f g span) level places rest deep stand =
    let last = query_before g none in
    let taken = take_form level Query places (Query ∷ Query ∷ []) (codes "or")
    (query_before f last) rest span 2 stand
    (let one = query_count g none in query_count f last ∙ ap (λ n. n + 1) one) refl in
    let left = stands_query f (level + 1) (Query ∷ []) last (omega (arith, deep))
    taken.inner in
    let right = stands_query g (level + 1) [] none (omega (arith, deep)) left.others in
    record { parts = (left.parts, right.parts); others = taken.others }
stands_query (q.split f g value span) level places rest deep stand =
    let last = expression_before value none in
    let second = query_before g last in
    let taken = take_form level Query places (Query ∷ Query ∷ Expr ∷ []) (codes "split")
    (query_before f second) rest span 3 stand
    (let one = value_count value none in let two = query_count g last in
    let three = query_count f second in omega (arith, one, two, three)) refl in
    let left = stands_query f (level + 1) (Query ∷ Expr ∷ []) second (omega (arith, deep))
    taken.inner in
    let right = stands_query g (level + 1) (Expr ∷ []) last (omega (arith, deep)) left.others in
    let made = stands_value (level + 1) [] value none right.others in record {
      parts = (left.parts, right.parts, value_inside (level + 1) deep value made.value);
      others = taken.others;
    }
stands_query (q.iter f first step span) level places rest deep stand =
    let last = expression_before step none in
    let second = number_before first last in
    let taken = take_form level Query places (Query ∷ Number ∷ Expr ∷ []) (codes "iter")
    (query_before f second) rest span 3 stand
    (let one = value_count step none in let three = query_count f second in
    omega (arith, one, three)) refl in
    let inner = stands_query f (level + 1) (Number ∷ Expr ∷ []) second (omega (arith, deep))
    taken.inner in
    let one = stands_number (level + 1) (Expr ∷ []) first last inner.others in
    let made = stands_value (level + 1) [] step none one.others in record {
      parts = (inner.parts, one.fits, value_inside (level + 1) deep step made.value);
      others = taken.others;
    }
stands_query (q.combine f g value span) level places rest deep stand =
    let last = expression_before value none in
    let second = query_before g last in
    let taken = take_form level Query places (Query ∷ Query ∷ Expr ∷ []) (codes "combine")
    (query_before f second) rest span 3 stand
    (let one = value_count value none in let two = query_count g last in
    let three = query_count f second in omega (arith, one, two, three)) refl in
    let left = stands_query f (level + 1) (Query ∷ Expr ∷ []) second (omega (arith, deep))
    taken.inner in
    let right = stands_query g (level + 1) (Expr ∷ []) last (omega (arith, deep)) left.others in
    let made = stands_value (level + 1) [] value none right.others in record {
      parts = (left.parts, right.parts, value_inside (level + 1) deep value made.value);
      others = taken.others;
    }
stands_query (q.apply f value span) level places rest deep stand =
    let last = expression_before value none in
    let taken = take_form level Query places (Query ∷ Expr ∷ []) (codes "apply")
    (query_before f last) rest span 2 stand
    (let one = value_count value none in query_count f last ∙ ap (λ n. n + 1) one) refl in
    let inner = stands_query f (level + 1) (Expr ∷ []) last (omega (arith, deep))
    taken.inner in
    let made = stands_value (level + 1) [] value none inner.others in record {
      parts = (inner.parts, value_inside (level + 1) deep value made.value);
      others = taken.others;
    }
stands_query (q.compose f g span) level places rest deep stand =
    let last = query_before g none in
    let taken = take_form level Query places (Query ∷ Query ∷ []) (codes "compose")
    (query_before f last) rest span 2 stand
    (let one = query_count g none in query_count f last ∙ ap (λ n. n + 1) one) refl in
    let left = stands_query f (level + 1) (Query ∷ []) last (omega (arith, deep))
    taken.inner in
    let right = stands_query g (level + 1) [] none (omega (arith, deep)) left.others in
    record { parts = (left.parts, right.parts); others = taken.others }
stands_query (q.collect key sync rate f span) level places rest deep stand =
    let last = query_before f none in
    let third = rate_before rate last in
    let second = predicate_before sync third in
    let taken = take_form level Query places (Key ∷ Pred ∷ Rate ∷ Query ∷ []) (codes "collect")
    (key_before key second) rest span 4 stand
    (let one = query_count f none in let two = rate_count rate last in
    let three = test_count sync third in let four = key_count key second in
    omega (arith, one, two, three, four)) refl in
    let of_key = stands_key (level + 1) (Pred ∷ Rate ∷ Query ∷ []) key second taken.inner in
    let test = stands_test (level + 1) (Rate ∷ Query ∷ []) sync third of_key.others in
    let words = stands_rate (level + 1) (Query ∷ []) rate last test.others in
    let inner = stands_query f (level + 1) [] none (omega (arith, deep)) words.others in record {
      parts = (
        inner.parts,
        of_key.size,
        test_inside (level + 1) deep sync test.test,
        rate_inside (level + 1) deep rate words.rate,
      );
      others = taken.others;
    }
