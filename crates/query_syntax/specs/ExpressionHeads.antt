-- For the prover. The calls that are expressions and comparisons.
use Rattle.std.specs.Prelude.{ℕ, List, [], ◌∷◌, replicate, codes}
use Rattle.query_forms.specs.declared.term_place.TermPlace.{TermPlace}
use Rattle.query_forms.specs.declared.term_place.TermPlace.TheVariants as place
use Rattle.few_parts.specs.Sizes.{IsRecordSize}
use Rattle.language_base.specs.declared.unary.UnaryOp.TheVariants.{Neg, Abs}
use Rattle.language_base.specs.declared.binary.BinaryOp.TheVariants.{Add, Sub, Mul, Div, Rem, Min}
use Rattle.language_base.specs.declared.binary.BinaryOp.TheVariants.{Max}
use Rattle.language_base.specs.declared.compare.Compare.{Compare}
use Rattle.language_base.specs.declared.compare.Compare.TheVariants.{Lt, Le, Gt, Ge, Eq, Ne}
use Rattle.query_syntax.specs.declared.operator.Summary.TheVariants.{Sum, Count}
use Rattle.query_syntax.specs.declared.operator.Extremum.TheVariants as extremum
use Rattle.query_syntax.specs.declared.expression_head.ExpressionHead.{ExpressionHead}
use Rattle.query_syntax.specs.declared.expression_head.ExpressionHead.TheVariants as head
use Rattle.query_syntax.specs.Rows.{Row, rows_of}
use Rattle.query_syntax.specs.Words.{unary_word, binary_word, compare_word, summary_word}
use Rattle.query_syntax.specs.Words.{extremum_word}

-- the head word of each
abbrev pub expression_word : ExpressionHead → List ℕ
expression_word (head.Unary operator) = unary_word operator
expression_word (head.Binary operator) = binary_word operator
expression_word head.If = codes "if"
expression_word (head.Summary summary) = summary_word summary
expression_word (head.Extremum extremum) = extremum_word extremum
expression_word head.Get = codes "tget"
expression_word head.Part = codes "part"
expression_word (head.Record count) = codes "rec"

-- and the places of its arguments
abbrev pub expression_places : ExpressionHead → List TermPlace
expression_places (head.Unary operator) = place.Expr ∷ []
expression_places (head.Binary operator) = place.Expr ∷ place.Expr ∷ []
expression_places head.If = place.Compare ∷ place.Expr ∷ place.Expr ∷ []
expression_places (head.Summary summary) = place.Name ∷ []
expression_places (head.Extremum extremum) = place.Name ∷ place.Expr ∷ []
expression_places head.Get = place.Name ∷ place.Text ∷ place.Expr ∷ []
expression_places head.Part = place.Name ∷ place.Index ∷ []
expression_places (head.Record count) = replicate count place.Expr

-- a record has two to eight parts
abbrev pub HasRecordSize : ExpressionHead → Type 0
HasRecordSize (head.Record count) = IsRecordSize count
HasRecordSize _ = Unit {0}

-- the places of the operands of a comparison
abbrev pub compare_places : Compare → List TermPlace
compare_places compare = place.Expr ∷ place.Expr ∷ []

-- those of records, which have two to eight parts
abbrev pub record_heads : List ExpressionHead
record_heads =
    head.Record 2
    ∷ head.Record 3
    ∷ head.Record 4
    ∷ head.Record 5
    ∷ head.Record 6
    ∷ head.Record 7
    ∷ head.Record 8
    ∷ []

-- all calls that are expressions
abbrev pub expression_heads : List ExpressionHead
expression_heads =
    head.Unary Neg
    ∷ head.Unary Abs
    ∷ head.Binary Add
    ∷ head.Binary Sub
    ∷ head.Binary Mul
    ∷ head.Binary Div
    ∷ head.Binary Rem
    ∷ head.Binary Min
    ∷ head.Binary Max
    ∷ head.If
    ∷ head.Summary Sum
    ∷ head.Summary Count
    ∷ head.Extremum extremum.Max
    ∷ head.Extremum extremum.Min
    ∷ head.Get
    ∷ head.Part
    ∷ record_heads

abbrev pub expressions : List (Row ExpressionHead)
expressions = rows_of expression_word expression_places expression_heads

-- all calls that are comparisons
abbrev pub compares : List Compare
compares = Lt ∷ Le ∷ Gt ∷ Ge ∷ Eq ∷ Ne ∷ []

abbrev pub comparisons : List (Row Compare)
comparisons = rows_of compare_word compare_places compares
