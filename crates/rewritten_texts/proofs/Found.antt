-- What holds of all that is made of parts that are there holds of what was made of parts that might
-- have been missing.
use Rattle.std.proofs.Common.{◌≡◌, Option, None, Some, refl, subst}
use Rattle.std.specs.Option.{option_map}
use Rattle.expressions.specs.declared.expr.Var.{Var}
use Rattle.expressions.specs.Expressions.{Expression, Expressions, more}
use Rattle.predicates.specs.Predicates.{Predicate}
use Rattle.query_resolver.specs.Expressions.{both_of, choice_of, more_of, table_form}
use Rattle.query_resolver.specs.Rates.{joined_rates}
use Rattle.query_resolver.specs.Tests.{both, joined_by}
use Rattle.query_syntax.specs.declared.operator.Connective.{Connective}
use Rattle.query_syntax.specs.declared.operator.Join.{Join}
use Rattle.query_syntax.specs.declared.operator.Join.TheVariants.{Seq, Alt}
use Rattle.rate_expr.specs.Rates as rate
use Rattle.rate_expr.specs.Rates.{Regex}

-- of a value that is there
pub of_found : {A : Type 0} (P : A → Type 0) (made value : A) → Some made ≡ Some value → P made
    → P value
of_found {A} P made value is holds = let same : made ≡ value = cc in subst P same holds

pub of_mapped : {A B : Type 0} (P : B → Type 0) (make : A → B) (found : Option A) (value : B)
    → option_map make found ≡ Some value → ((a : A) → found ≡ Some a → P (make a)) → P value
of_mapped P make None value is each = absurd (cc)
of_mapped P make (Some a) value is each = of_found P (make a) value is (each a refl)

module _ (P : Expression → Type 0) (value : Expression) where
  pub of_both : (make : Expression → Expression → Expression) (left right : Option Expression)
      → both_of make left right ≡ Some value
      → ((a b : Expression) → left ≡ Some a → right ≡ Some b → P (make a b)) → P value
  of_both make (Some a) (Some b) is each = of_found P (make a b) value is (each a b refl refl)
  of_both make (Some a) None is each = absurd (cc)
  of_both make None right is each = absurd (cc)

  pub of_choice : (make : Expression → Expression → Expression → Expression → Expression)
      (left right met other : Option Expression) → choice_of make left right met other ≡ Some value
      → ((a b c d : Expression) → left ≡ Some a → right ≡ Some b → met ≡ Some c → other ≡ Some d
      → P (make a b c d)) → P value
  of_choice make (Some a) (Some b) (Some c) (Some d) is each =
      of_found P (make a b c d) value is (each a b c d refl refl refl refl)
  of_choice make (Some a) (Some b) (Some c) None is each = absurd (cc)
  of_choice make (Some a) (Some b) None other is each = absurd (cc)
  of_choice make (Some a) None met other is each = absurd (cc)
  of_choice make None right met other is each = absurd (cc)

  pub of_table : (make : Var → Expression → Expression) (table : Option Var)
      (inner : Option Expression) → table_form make table inner ≡ Some value
      → ((name : Var) (a : Expression) → inner ≡ Some a → P (make name a)) → P value
  of_table make (Some name) (Some a) is each =
      of_found P (make name a) value is (each name a refl)
  of_table make (Some name) None is each = absurd (cc)
  of_table make None inner is each = absurd (cc)

pub of_more : (P : Expressions → Type 0) (value : Expressions) (first : Option Expression)
    (others : Option Expressions) → more_of first others ≡ Some value
    → ((a : Expression) (rest : Expressions) → first ≡ Some a → others ≡ Some rest
    → P (more a rest)) → P value
of_more P value (Some a) (Some rest) is each =
    of_found P (more a rest) value is (each a rest refl refl)
of_more P value (Some a) None is each = absurd (cc)
of_more P value None others is each = absurd (cc)

pub of_joined : (P : Predicate → Type 0) (value : Predicate) (connective : Connective)
    (left right : Option Predicate) → both connective left right ≡ Some value
    → ((a b : Predicate) → left ≡ Some a → right ≡ Some b → P (joined_by connective a b)) → P value
of_joined P value connective (Some a) (Some b) is each =
    of_found P (joined_by connective a b) value is (each a b refl refl)
of_joined P value connective (Some a) None is each = absurd (cc)
of_joined P value connective None right is each = absurd (cc)

pub of_rates : (P : Regex → Type 0) (value : Regex) (join : Join) (left right : Option Regex)
    → joined_rates join left right ≡ Some value
    → ((a b : Regex) → left ≡ Some a → right ≡ Some b → P (rate.sequence a b))
    → ((a b : Regex) → left ≡ Some a → right ≡ Some b → P (rate.choice a b)) → P value
of_rates P value Seq (Some a) (Some b) is one other =
    of_found P (rate.sequence a b) value is (one a b refl refl)
of_rates P value Alt (Some a) (Some b) is one other =
    of_found P (rate.choice a b) value is (other a b refl refl)
of_rates P value Seq (Some a) None is one other = absurd (cc)
of_rates P value Seq None right is one other = absurd (cc)
of_rates P value Alt (Some a) None is one other = absurd (cc)
of_rates P value Alt None right is one other = absurd (cc)
