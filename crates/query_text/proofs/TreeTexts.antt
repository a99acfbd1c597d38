-- The text of an expression's tree is that of the expression.
use Rattle.std.proofs.Common.{◌≡◌, ◌∙◌, ◌++◌, ℕ, List, codes, refl, ap, sym}
use Rattle.std.proofs.Common.{append-nil, append_assoc}
use Rattle.expressions.specs.Expressions as value
use Rattle.expressions.specs.Expressions.{Expression, Expressions}
use Rattle.query_forms.specs.Terms.{Terms, none}
use Rattle.query_parser.specs.Printing.{arguments_text, joined, string_text}
use Rattle.query_syntax.specs.Expressions as e
use Rattle.query_syntax.specs.Words.{binary_word, compare_word, unary_word}
use Rattle.query_syntax.specs.Written.{expression_before, expressions_terms}
use Rattle.query_text.specs.Forms.{both, called, expression_text, expressions_text, rest_text}
use Rattle.query_text.specs.Names.{Naming, var_name}
use Rattle.query_text.specs.Trees.{expression_tree, expression_trees}

-- what stands before an expression has a comma after it
pub expression_joined : (first : List ℕ) (tree : e.Expression) (rest : Terms) (others : List ℕ)
    → joined first (expression_before tree rest) others ≡ both first others
expression_joined first (e.number n) rest others = refl
expression_joined first (e.name n) rest others = refl
expression_joined first (e.unary op a span) rest others = refl
expression_joined first (e.binary op a b span) rest others = refl
expression_joined first (e.choice op a b at c d span) rest others = refl
expression_joined first (e.summary op table span) rest others = refl
expression_joined first (e.extremum op table a span) rest others = refl
expression_joined first (e.get table key a span) rest others = refl
expression_joined first (e.rec parts span) rest others = refl
expression_joined first (e.part whole index span) rest others = refl

-- what stands before the tree of an expression, and then other terms
abbrev before : Naming → Expression → Terms → Terms
before naming v rest = expression_before (expression_tree naming v) rest

-- a text and the text of an expression after it, if that is what its terms say
ends_with : (naming : Naming) (first : List ℕ) (v : Expression)
    → arguments_text (before naming v none) ≡ expression_text naming v
    → joined first (before naming v none) (arguments_text (before naming v none))
    ≡ both first (expression_text naming v)
ends_with naming first v is =
    expression_joined first (expression_tree naming v) none _ ∙ ap (both first) is

mutual
  pub expression_written : (naming : Naming) (v : Expression) (rest : Terms)
      → arguments_text (expression_before (expression_tree naming v) rest)
      ≡ joined (expression_text naming v) rest (arguments_text rest)
  expression_written naming (value.literal number) rest = refl
  expression_written naming (value.read name) rest = refl
  expression_written naming (value.unary op inner) rest =
      ap (λ t. joined (called (unary_word op) t) rest (arguments_text rest))
      (expression_written naming inner none)
  expression_written naming (value.binary op first second) rest =
      ap (λ t. joined (called (binary_word op) t) rest (arguments_text rest))
      (expression_written naming first (before naming second none)
      ∙ ends_with naming (expression_text naming first) second
      (expression_written naming second none))
  expression_written naming (value.choice test first second met other) rest =
      let compared = expression_written naming first (before naming second none)
      ∙ ends_with naming (expression_text naming first) second
      (expression_written naming second none) in
      let branches = expression_written naming met (before naming other none)
      ∙ ends_with naming (expression_text naming met) other
      (expression_written naming other none) in
      ap (λ t. joined (called (codes "if") t) rest (arguments_text rest))
      (expression_joined _ (expression_tree naming met) (before naming other none) _
      ∙ (λ i. both (called (compare_word test) (compared i)) (branches i)))
  expression_written naming (value.sum name) rest = refl
  expression_written naming (value.count name) rest = refl
  expression_written naming (value.most name first) rest =
      ap (λ t. joined (called (codes "tmax") t) rest (arguments_text rest))
      (ends_with naming (var_name naming name) first (expression_written naming first none))
  expression_written naming (value.least name first) rest =
      ap (λ t. joined (called (codes "tmin") t) rest (arguments_text rest))
      (ends_with naming (var_name naming name) first (expression_written naming first none))
  expression_written naming (value.entry name text other) rest =
      ap (λ t. joined (called (codes "tget") (both (var_name naming name) t)) rest
      (arguments_text rest))
      (ends_with naming (string_text text) other (expression_written naming other none))
  expression_written naming (value.rec parts) rest =
      ap (λ t. joined (called (codes "rec") t) rest (arguments_text rest))
      (expressions_written naming parts)
  expression_written naming (value.part name place) rest = refl

  pub expressions_written : (naming : Naming) (parts : Expressions)
      → arguments_text (expressions_terms (expression_trees naming parts))
      ≡ expressions_text naming parts
  expressions_written naming value.none = refl
  expressions_written naming (value.more first rest) =
      expression_written naming first (expressions_terms (expression_trees naming rest))
      ∙ rest_written naming (expression_text naming first) rest

  rest_written : (naming : Naming) (before_it : List ℕ) (parts : Expressions)
      → joined before_it (expressions_terms (expression_trees naming parts))
      (arguments_text (expressions_terms (expression_trees naming parts)))
      ≡ before_it ++ rest_text naming parts
  rest_written naming before_it value.none = sym (append-nil before_it)
  rest_written naming before_it (value.more first rest) =
      expression_joined before_it (expression_tree naming first)
      (expressions_terms (expression_trees naming rest)) _
      ∙ ap (both before_it)
      (expression_written naming first (expressions_terms (expression_trees naming rest))
      ∙ rest_written naming (expression_text naming first) rest)
      ∙ append_assoc before_it (codes ", ") (expression_text naming first ++ rest_text naming rest)
      ∙ ap (λ t. before_it ++ t) (sym (append_assoc (codes ", ") (expression_text naming first)
      (rest_text naming rest)))
