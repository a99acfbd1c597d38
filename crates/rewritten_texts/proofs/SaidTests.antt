-- Predicates in the text of a file: what they compare with are numbers of 64 bits and texts, and
-- they have few levels.
use Rattle.std.proofs.Common.{◌≡◌, ◌≤◌, ℕ, ◌+◌, List, ◌∷◌, None, Some, refl, codes, arith}
use Rattle.std.proofs.Common.{FitsSigned, w64}
use Rattle.item_schema.specs.declared.column.Column.{Column}
use Rattle.language_base.specs.Limits.{max_level}
use Rattle.predicates.specs.Predicates as test
use Rattle.predicates.specs.Predicates.{Predicate}
use Rattle.query_forms.specs.declared.term_place.TermPlace.{TermPlace}
use Rattle.query_forms.specs.declared.term_place.TermPlace.TheVariants.{Pred}
use Rattle.query_forms.specs.Forms.{first_unfit}
use Rattle.query_forms.specs.Terms.{Terms, count_of}
use Rattle.query_forms.specs.Terms as terms
use Rattle.query_resolver.specs.Names.{column_named}
use Rattle.query_resolver.specs.Tests.{equality_test, joined_by, order_test, resolved_over}
use Rattle.query_rewrite.specs.Levels.{levels_of_test}
use Rattle.query_syntax.specs.declared.leaf.Literal.{Literal}
use Rattle.query_syntax.specs.declared.leaf.Literal.TheVariants.{Number, Text}
use Rattle.query_syntax.specs.declared.leaf.Number as leaf
use Rattle.query_syntax.specs.declared.operator.Connective.{Connective}
use Rattle.query_syntax.specs.declared.operator.Connective.TheVariants.{And, Or}
use Rattle.query_syntax.specs.declared.operator.Equality.{Equality}
use Rattle.query_syntax.specs.declared.operator.Equality.TheVariants.{Eq, Ne}
use Rattle.query_syntax.specs.declared.operator.Order.{Order}
use Rattle.query_syntax.specs.declared.operator.Order.TheVariants.{Lt, Le, Gt, Ge}
use Rattle.query_syntax.specs.Predicates as p
use Rattle.query_syntax.specs.Words.{connective_word, equality_word, order_word}
use Rattle.query_syntax.specs.Written.{literal_before, name_before, number_before, predicate_before}
use Rattle.query_text.specs.Memory.{HasOperands}
use Rattle.rewritten_texts.proofs.Found.{of_found, of_joined, of_mapped}
use Rattle.rewritten_texts.proofs.SaidNumbers.{number_fits, text_of}
use Rattle.rewritten_texts.proofs.Taken.{AreSaid, StandThere, call_fits, take_call, take_number}
use Rattle.rewritten_texts.proofs.Taken.{take_string, take_word, word_fits}

-- a predicate that stands at a level of a text
pub record IsSaid (level : ℕ) (x : Predicate) : Type 0 where
  pub operands : HasOperands x
  pub levels : level + levels_of_test x ≤ max_level + 1

-- over whatever columns
abbrev pub TestSaid : ℕ → p.Predicate → Type 0
TestSaid level tree =
    (columns : List Column) (x : Predicate) → resolved_over columns tree ≡ Some x → IsSaid level x

equality_said : (level : ℕ) (op : Equality) (literal : Literal) (column : ℕ)
    → AreSaid (level + 1) (literal_before literal terms.none)
    → IsSaid level (equality_test op literal column)
equality_said level Eq (Number n) column said =
    let taken = take_number (level + 1) terms.none n.span n.value said in
    let few = taken.few in
    record { operands = number_fits n.value taken.within; levels = omega (arith, few) }
equality_said level Ne (Number n) column said =
    let taken = take_number (level + 1) terms.none n.span n.value said in
    let few = taken.few in
    record { operands = number_fits n.value taken.within; levels = omega (arith, few) }
equality_said level Eq (Text t) column said =
    let taken = take_string (level + 1) terms.none t.span t.bytes said in
    let few = taken.few in
    record { operands = text_of t.bytes taken.are_bytes; levels = omega (arith, few) }
equality_said level Ne (Text t) column said =
    let taken = take_string (level + 1) terms.none t.span t.bytes said in
    let few = taken.few in
    record { operands = text_of t.bytes taken.are_bytes; levels = omega (arith, few) }

order_said : (level : ℕ) (op : Order) (bound : leaf.Number) (column : ℕ)
    → AreSaid (level + 1) (number_before bound terms.none)
    → IsSaid level (order_test op bound.value column)
order_said level op bound column said =
    let taken = take_number (level + 1) terms.none bound.span bound.value said in
    by op taken.few (number_fits bound.value taken.within)
  where
    by : (op : Order) → level + 1 ≤ max_level → FitsSigned w64 bound.value
        → IsSaid level (order_test op bound.value column)
    by Lt few fits = record { operands = fits; levels = omega (arith, few) }
    by Le few fits = record { operands = fits; levels = omega (arith, few) }
    by Gt few fits = record { operands = fits; levels = omega (arith, few) }
    by Ge few fits = record { operands = fits; levels = omega (arith, few) }

joined_said : (level : ℕ) (connective : Connective) (a b : Predicate) → IsSaid (level + 1) a
    → IsSaid (level + 1) b → IsSaid level (joined_by connective a b)
joined_said level And a b one other = record {
  operands = (one.operands, other.operands);
  levels = let low = one.levels in let high = other.levels in omega (arith, low, high);
}
joined_said level Or a b one other = record {
  operands = (one.operands, other.operands);
  levels = let low = one.levels in let high = other.levels in omega (arith, low, high);
}

-- a predicate before other terms, with what is known of these
pub record TakesTest (level : ℕ) (tree : p.Predicate) (rest : Terms) : Type 0 where
  pub test : TestSaid level tree
  pub others : AreSaid level rest

pub take_test : (tree : p.Predicate) (level : ℕ) (rest : Terms)
    → AreSaid level (predicate_before tree rest) → TakesTest level tree rest
take_test (p.any span) level rest said =
    let taken = take_word level rest span (codes "any") said in
    let few = taken.few in record {
      test = λ columns x is. of_found (IsSaid level) test.any x is
          (record { operands = tt; levels = omega (arith, few) });
      others = taken.others;
    }
take_test (p.equality op column literal span) level rest said =
    let taken = take_call level rest span (equality_word op)
    (name_before column (literal_before literal terms.none)) said in
    let named = take_word (level + 1) (literal_before literal terms.none) column.span column.bytes
    taken.inner in record {
      test = λ columns x is. of_mapped (IsSaid level) (equality_test op literal)
          (column_named columns column.bytes) x is
          (λ place there. equality_said level op literal place named.others);
      others = taken.others;
    }
take_test (p.order op column bound span) level rest said =
    let taken = take_call level rest span (order_word op)
    (name_before column (number_before bound terms.none)) said in
    let named = take_word (level + 1) (number_before bound terms.none) column.span column.bytes
    taken.inner in record {
      test = λ columns x is. of_mapped (IsSaid level) (order_test op bound.value)
          (column_named columns column.bytes) x is
          (λ place there. order_said level op bound place named.others);
      others = taken.others;
    }
take_test (p.between column low high span) level rest said =
    let taken = take_call level rest span (codes "between")
    (name_before column (number_before low (number_before high terms.none))) said in
    let named = take_word (level + 1) (number_before low (number_before high terms.none))
    column.span column.bytes taken.inner in
    let one = take_number (level + 1) (number_before high terms.none) low.span low.value
    named.others in
    let other = take_number (level + 1) terms.none high.span high.value one.others in
    let few = other.few in record {
      test = λ columns x is.
          of_mapped (IsSaid level) (λ place. test.between place low.value high.value)
          (column_named columns column.bytes) x is (λ place there. record {
            operands = (number_fits low.value one.within, number_fits high.value other.within);
            levels = omega (arith, few);
          });
      others = taken.others;
    }
take_test (p.is_num column span) level rest said =
    let taken = take_call level rest span (codes "isnum") (name_before column terms.none) said in
    let named = take_word (level + 1) terms.none column.span column.bytes taken.inner in
    let few = named.few in record {
      test = λ columns x is. of_mapped (IsSaid level) test.is_num
          (column_named columns column.bytes) x is
          (λ place there. record { operands = tt; levels = omega (arith, few) });
      others = taken.others;
    }
take_test (p.joined connective left right span) level rest said =
    let taken = take_call level rest span (connective_word connective)
    (predicate_before left (predicate_before right terms.none)) said in
    let one = take_test left (level + 1) (predicate_before right terms.none) taken.inner in
    let other = take_test right (level + 1) terms.none one.others in record {
      test = λ columns x is. of_joined (IsSaid level) x connective (resolved_over columns left)
          (resolved_over columns right) is
          (λ a b there also. joined_said level connective a b (one.test columns a there)
          (other.test columns b also));
      others = taken.others;
    }
take_test (p.negated inner span) level rest said =
    let taken = take_call level rest span (codes "not") (predicate_before inner terms.none) said in
    let one = take_test inner (level + 1) terms.none taken.inner in record {
      test = λ columns x is. of_mapped (IsSaid level) test.negation (resolved_over columns inner) x
          is (λ a there. let of_a = one.test columns a there in
          let levels = of_a.levels in
          record { operands = of_a.operands; levels = omega (arith, levels) });
      others = taken.others;
    }

-- a predicate is one term
pub test_count : (tree : p.Predicate) (rest : Terms)
    → count_of (predicate_before tree rest) ≡ count_of rest + 1
test_count (p.any span) rest = refl
test_count (p.equality op column literal span) rest = refl
test_count (p.order op column bound span) rest = refl
test_count (p.between column low high span) rest = refl
test_count (p.is_num column span) rest = refl
test_count (p.joined connective left right span) rest = refl
test_count (p.negated inner span) rest = refl

-- and those after it stand at the places that are left
test_fits : (tree : p.Predicate) (places : List TermPlace) (rest : Terms)
    → first_unfit (Pred ∷ places) (predicate_before tree rest) ≡ None
    → first_unfit places rest ≡ None
test_fits (p.any span) places rest fit = word_fits places rest span Pred (codes "any") fit
test_fits (p.equality op column literal span) places rest fit =
    call_fits places rest span Pred (equality_word op)
    (name_before column (literal_before literal terms.none)) fit
test_fits (p.order op column bound span) places rest fit =
    call_fits places rest span Pred (order_word op)
    (name_before column (number_before bound terms.none)) fit
test_fits (p.between column low high span) places rest fit =
    call_fits places rest span Pred (codes "between")
    (name_before column (number_before low (number_before high terms.none))) fit
test_fits (p.is_num column span) places rest fit =
    call_fits places rest span Pred (codes "isnum") (name_before column terms.none) fit
test_fits (p.joined connective left right span) places rest fit =
    call_fits places rest span Pred (connective_word connective)
    (predicate_before left (predicate_before right terms.none)) fit
test_fits (p.negated inner span) places rest fit =
    call_fits places rest span Pred (codes "not") (predicate_before inner terms.none) fit

-- a predicate in a node of a let, and those after it
pub record StandsTest (level : ℕ) (places : List TermPlace) (tree : p.Predicate) (rest : Terms)
    : Type 0 where
  pub test : TestSaid level tree
  pub others : StandThere level places rest

pub stands_test : (level : ℕ) (places : List TermPlace) (tree : p.Predicate) (rest : Terms)
    → StandThere level (Pred ∷ places) (predicate_before tree rest)
    → StandsTest level places tree rest
stands_test level places tree rest stand =
    let taken = take_test tree level rest stand.said in record {
      test = taken.test;
      others = record { said = taken.others; fit = test_fits tree places rest stand.fit };
    }
