-- The head words of the operators are found in the tables.
use Rattle.std.proofs.Common.{◌≡◌, Some, refl}
use Rattle.query_syntax.specs.declared.expression_head.ExpressionHead.TheVariants as expression
use Rattle.language_base.specs.declared.binary.BinaryOp.{BinaryOp}
use Rattle.language_base.specs.declared.binary.BinaryOp.TheVariants.{Add, Sub, Mul, Div, Rem, Min}
use Rattle.language_base.specs.declared.binary.BinaryOp.TheVariants.{Max}
use Rattle.language_base.specs.declared.compare.Compare.{Compare}
use Rattle.language_base.specs.declared.compare.Compare.TheVariants.{Lt, Le, Gt, Ge, Eq, Ne}
use Rattle.query_syntax.specs.declared.operator.Connective.{Connective}
use Rattle.query_syntax.specs.declared.operator.Connective.TheVariants.{And, Or}
use Rattle.query_syntax.specs.declared.operator.Equality.{Equality}
use Rattle.query_syntax.specs.declared.operator.Equality.TheVariants as equality
use Rattle.query_syntax.specs.declared.operator.Extremum.{Extremum}
use Rattle.query_syntax.specs.declared.operator.Extremum.TheVariants as extremum
use Rattle.query_syntax.specs.declared.operator.Join.{Join}
use Rattle.query_syntax.specs.declared.operator.Join.TheVariants.{Seq, Alt}
use Rattle.query_syntax.specs.declared.operator.Order.{Order}
use Rattle.query_syntax.specs.declared.operator.Order.TheVariants as order
use Rattle.query_syntax.specs.declared.operator.Summary.{Summary}
use Rattle.query_syntax.specs.declared.operator.Summary.TheVariants.{Sum, Count}
use Rattle.language_base.specs.declared.unary.UnaryOp.{UnaryOp}
use Rattle.language_base.specs.declared.unary.UnaryOp.TheVariants.{Neg, Abs}
use Rattle.query_syntax.specs.declared.predicate_head.PredicateHead.TheVariants as predicate
use Rattle.query_syntax.specs.declared.rate_head.RateHead.TheVariants as rate
use Rattle.query_syntax.specs.ExpressionHeads.{expressions, comparisons}
use Rattle.query_syntax.specs.PredicateHeads.{predicates}
use Rattle.query_syntax.specs.RateHeads.{rates}
use Rattle.query_syntax.specs.Rows.{head_in}
use Rattle.query_syntax.specs.Words.{unary_word, binary_word, compare_word, summary_word}
use Rattle.query_syntax.specs.Words.{extremum_word, equality_word, order_word, connective_word}
use Rattle.query_syntax.specs.Words.{join_word}

-- the heads of the operators are found
pub unary_found : (op : UnaryOp)
    → head_in expressions (unary_word op) 1 ≡ Some (expression.Unary op)
unary_found Neg = refl
unary_found Abs = refl

pub binary_found : (op : BinaryOp)
    → head_in expressions (binary_word op) 2 ≡ Some (expression.Binary op)
binary_found Add = refl
binary_found Sub = refl
binary_found Mul = refl
binary_found Div = refl
binary_found Rem = refl
binary_found Min = refl
binary_found Max = refl

pub summary_found : (op : Summary)
    → head_in expressions (summary_word op) 1 ≡ Some (expression.Summary op)
summary_found Sum = refl
summary_found Count = refl

pub extremum_found : (op : Extremum)
    → head_in expressions (extremum_word op) 2 ≡ Some (expression.Extremum op)
extremum_found extremum.Max = refl
extremum_found extremum.Min = refl

pub compare_found : (op : Compare) → head_in comparisons (compare_word op) 2 ≡ Some op
compare_found Lt = refl
compare_found Le = refl
compare_found Gt = refl
compare_found Ge = refl
compare_found Eq = refl
compare_found Ne = refl

pub equality_found : (op : Equality)
    → head_in predicates (equality_word op) 2 ≡ Some (predicate.Equality op)
equality_found equality.Eq = refl
equality_found equality.Ne = refl

pub order_found : (op : Order) → head_in predicates (order_word op) 2 ≡ Some (predicate.Order op)
order_found order.Lt = refl
order_found order.Le = refl
order_found order.Gt = refl
order_found order.Ge = refl

pub connective_found : (op : Connective)
    → head_in predicates (connective_word op) 2 ≡ Some (predicate.Joined op)
connective_found And = refl
connective_found Or = refl

pub join_found : (op : Join) → head_in rates (join_word op) 2 ≡ Some (rate.Joined op)
join_found Seq = refl
join_found Alt = refl
