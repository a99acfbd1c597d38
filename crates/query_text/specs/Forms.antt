-- For the prover. The texts of expressions, predicates, rates and keys, each by itself.
use Rattle.std.specs.Prelude.{ℕ, pos, codes, List, [], ◌∷◌, ◌++◌}
use Rattle.std.specs.Fmt.{signed_decimal}
use Rattle.predicates.specs.Predicates as test
use Rattle.predicates.specs.Predicates.{Predicate}
use Rattle.rate_expr.specs.Rates as rate
use Rattle.rate_expr.specs.Rates.{Regex}
use Rattle.expressions.specs.Expressions as value
use Rattle.expressions.specs.Expressions.{Expression, Expressions}
use Rattle.query_parser.specs.Printing.{string_text}
use Rattle.query_syntax.specs.Words.{binary_word, compare_word, unary_word}
use Rattle.query_text.specs.Names.{Naming, field_name, var_name}

-- two arguments, and a call
abbrev pub both : List ℕ → List ℕ → List ℕ
both first second = first ++ codes ", " ++ second

abbrev pub called : List ℕ → List ℕ → List ℕ
called word arguments = word ++ codes "(" ++ arguments ++ codes ")"

abbrev mutual
  -- an expression over these names
  pub expression_text : Naming → Expression → List ℕ
  expression_text naming (value.literal number) = signed_decimal number
  expression_text naming (value.read name) = var_name naming name
  expression_text naming (value.unary op inner) =
      called (unary_word op) (expression_text naming inner)
  expression_text naming (value.binary op first second) =
      called (binary_word op) (both (expression_text naming first) (expression_text naming second))
  expression_text naming (value.choice compare first second met other) =
      called (codes "if") (both
      (called (compare_word compare)
      (both (expression_text naming first) (expression_text naming second)))
      (both (expression_text naming met) (expression_text naming other)))
  expression_text naming (value.sum name) = called (codes "tsum") (var_name naming name)
  expression_text naming (value.count name) = called (codes "tcount") (var_name naming name)
  expression_text naming (value.most name first) =
      called (codes "tmax") (both (var_name naming name) (expression_text naming first))
  expression_text naming (value.least name first) =
      called (codes "tmin") (both (var_name naming name) (expression_text naming first))
  expression_text naming (value.entry name text other) =
      called (codes "tget") (both (var_name naming name)
      (both (string_text text) (expression_text naming other)))
  expression_text naming (value.rec parts) = called (codes "rec") (expressions_text naming parts)
  expression_text naming (value.part name place) =
      called (codes "part") (both (var_name naming name) (signed_decimal (pos place)))

  -- expressions, one after the other
  pub expressions_text : Naming → Expressions → List ℕ
  expressions_text naming value.none = []
  expressions_text naming (value.more first rest) =
      expression_text naming first ++ rest_text naming rest

  -- the same after another
  pub rest_text : Naming → Expressions → List ℕ
  rest_text naming value.none = []
  rest_text naming (value.more first rest) =
      codes ", " ++ expression_text naming first ++ rest_text naming rest

-- a test of a column
abbrev pub tested : Naming → List ℕ → ℕ → List ℕ → List ℕ
tested naming word column operand = called word (both (field_name naming column) operand)

-- a predicate over these names
abbrev pub predicate_text : Naming → Predicate → List ℕ
predicate_text naming test.any = codes "any"
predicate_text naming (test.eq column number) =
    tested naming (codes "eq") column (signed_decimal number)
predicate_text naming (test.ne column number) =
    tested naming (codes "ne") column (signed_decimal number)
predicate_text naming (test.lt column number) =
    tested naming (codes "lt") column (signed_decimal number)
predicate_text naming (test.le column number) =
    tested naming (codes "le") column (signed_decimal number)
predicate_text naming (test.gt column number) =
    tested naming (codes "gt") column (signed_decimal number)
predicate_text naming (test.ge column number) =
    tested naming (codes "ge") column (signed_decimal number)
predicate_text naming (test.between column low high) =
    tested naming (codes "between") column (both (signed_decimal low) (signed_decimal high))
predicate_text naming (test.eq_text column text) =
    tested naming (codes "eq") column (string_text text)
predicate_text naming (test.ne_text column text) =
    tested naming (codes "ne") column (string_text text)
predicate_text naming (test.is_num column) = called (codes "isnum") (field_name naming column)
predicate_text naming (test.conjunction left right) =
    called (codes "and") (both (predicate_text naming left) (predicate_text naming right))
predicate_text naming (test.disjunction left right) =
    called (codes "or") (both (predicate_text naming left) (predicate_text naming right))
predicate_text naming (test.negation inner) = called (codes "not") (predicate_text naming inner)

-- a rate over these names
abbrev pub rate_text : Naming → Regex → List ℕ
rate_text naming rate.empty = codes "eps"
rate_text naming (rate.one pred) = called (codes "item") (predicate_text naming pred)
rate_text naming (rate.sequence left right) =
    called (codes "seq") (both (rate_text naming left) (rate_text naming right))
rate_text naming (rate.choice left right) =
    called (codes "alt") (both (rate_text naming left) (rate_text naming right))
rate_text naming (rate.star inner) = called (codes "star") (rate_text naming inner)

-- the names of columns after another
abbrev pub other_names : Naming → List ℕ → List ℕ
other_names naming [] = []
other_names naming (column ∷ others) =
    codes ", " ++ field_name naming column ++ other_names naming others

-- the names of columns, one after the other
abbrev pub names_text : Naming → List ℕ → List ℕ
names_text naming [] = []
names_text naming (column ∷ others) = field_name naming column ++ other_names naming others

-- the columns of a key
abbrev pub key_text : Naming → List ℕ → List ℕ
key_text naming (column ∷ []) = field_name naming column
key_text naming chosen = called (codes "key") (names_text naming chosen)
