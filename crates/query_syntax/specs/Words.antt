-- Statement. The words of the operators.
use Rattle.std.specs.Prelude.{ℕ, List, codes}
use Rattle.language_base.specs.declared.unary.UnaryOp.{UnaryOp}
use Rattle.language_base.specs.declared.unary.UnaryOp.TheVariants.{Neg, Abs}
use Rattle.language_base.specs.declared.binary.BinaryOp.{BinaryOp}
use Rattle.language_base.specs.declared.binary.BinaryOp.TheVariants.{Add, Sub, Mul, Div, Rem, Min}
use Rattle.language_base.specs.declared.binary.BinaryOp.TheVariants.{Max}
use Rattle.language_base.specs.declared.compare.Compare.{Compare}
use Rattle.language_base.specs.declared.compare.Compare.TheVariants.{Lt, Le, Gt, Ge, Eq, Ne}
use Rattle.query_syntax.specs.declared.operator.Summary.{Summary}
use Rattle.query_syntax.specs.declared.operator.Summary.TheVariants.{Sum, Count}
use Rattle.query_syntax.specs.declared.operator.Extremum.{Extremum}
use Rattle.query_syntax.specs.declared.operator.Extremum.TheVariants as extremum
use Rattle.query_syntax.specs.declared.operator.Equality.{Equality}
use Rattle.query_syntax.specs.declared.operator.Equality.TheVariants as equality
use Rattle.query_syntax.specs.declared.operator.Order.{Order}
use Rattle.query_syntax.specs.declared.operator.Order.TheVariants as order
use Rattle.query_syntax.specs.declared.operator.Connective.{Connective}
use Rattle.query_syntax.specs.declared.operator.Connective.TheVariants.{And, Or}
use Rattle.query_syntax.specs.declared.operator.Join.{Join}
use Rattle.query_syntax.specs.declared.operator.Join.TheVariants.{Seq, Alt}

-- the word of an operator on one number
abbrev pub unary_word : UnaryOp → List ℕ
unary_word Neg = codes "neg"
unary_word Abs = codes "abs"

-- the word of an operator on two numbers
abbrev pub binary_word : BinaryOp → List ℕ
binary_word Add = codes "add"
binary_word Sub = codes "sub"
binary_word Mul = codes "mul"
binary_word Div = codes "div"
binary_word Rem = codes "rem"
binary_word Min = codes "min"
binary_word Max = codes "max"

-- the word of a comparison
abbrev pub compare_word : Compare → List ℕ
compare_word Lt = codes "lt"
compare_word Le = codes "le"
compare_word Gt = codes "gt"
compare_word Ge = codes "ge"
compare_word Eq = codes "eq"
compare_word Ne = codes "ne"

-- the word of what is made of a table
abbrev pub summary_word : Summary → List ℕ
summary_word Sum = codes "tsum"
summary_word Count = codes "tcount"

-- the word of what is taken from a table
abbrev pub extremum_word : Extremum → List ℕ
extremum_word extremum.Max = codes "tmax"
extremum_word extremum.Min = codes "tmin"

-- the word of a test with a literal
abbrev pub equality_word : Equality → List ℕ
equality_word equality.Eq = codes "eq"
equality_word equality.Ne = codes "ne"

-- the word of a test of the order
abbrev pub order_word : Order → List ℕ
order_word order.Lt = codes "lt"
order_word order.Le = codes "le"
order_word order.Gt = codes "gt"
order_word order.Ge = codes "ge"

-- the word of two predicates joined
abbrev pub connective_word : Connective → List ℕ
connective_word And = codes "and"
connective_word Or = codes "or"

-- the word of two rates joined
abbrev pub join_word : Join → List ℕ
join_word Seq = codes "seq"
join_word Alt = codes "alt"
