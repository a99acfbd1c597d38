-- The texts of the trees of predicates and rates are those of the predicates and rates.
use Rattle.std.proofs.Common.{◌≡◌, ◌∙◌, ℕ, List, codes, refl, ap}
use Rattle.predicates.specs.Predicates as test
use Rattle.predicates.specs.Predicates.{Predicate}
use Rattle.rate_expr.specs.Rates as rate
use Rattle.rate_expr.specs.Rates.{Regex}
use Rattle.query_forms.specs.Terms.{Terms, none}
use Rattle.query_parser.specs.Printing.{arguments_text, joined}
use Rattle.query_syntax.specs.Predicates as p
use Rattle.query_syntax.specs.Rates as r
use Rattle.query_syntax.specs.Written.{predicate_before, rate_before}
use Rattle.query_text.specs.Forms.{both, called, predicate_text, rate_text}
use Rattle.query_text.specs.Names.{Naming}
use Rattle.query_text.specs.Trees.{predicate_tree, rate_tree}

-- what stands before a predicate has a comma after it
pub predicate_joined : (first : List ℕ) (tree : p.Predicate) (rest : Terms) (others : List ℕ)
    → joined first (predicate_before tree rest) others ≡ both first others
predicate_joined first (p.any span) rest others = refl
predicate_joined first (p.equality op column l span) rest others = refl
predicate_joined first (p.order op column bound span) rest others = refl
predicate_joined first (p.between column low high span) rest others = refl
predicate_joined first (p.is_num column span) rest others = refl
predicate_joined first (p.joined op a b span) rest others = refl
predicate_joined first (p.negated a span) rest others = refl

-- two predicates, one after the other
two_predicates : (naming : Naming) (left right : Predicate)
    → ((rest : Terms) → arguments_text (predicate_before (predicate_tree naming left) rest)
    ≡ joined (predicate_text naming left) rest (arguments_text rest))
    → arguments_text (predicate_before (predicate_tree naming right) none)
    ≡ predicate_text naming right
    → arguments_text (predicate_before (predicate_tree naming left)
    (predicate_before (predicate_tree naming right) none))
    ≡ both (predicate_text naming left) (predicate_text naming right)
two_predicates naming left right first second =
    first (predicate_before (predicate_tree naming right) none)
    ∙ predicate_joined (predicate_text naming left) (predicate_tree naming right) none _
    ∙ ap (both (predicate_text naming left)) second

pub predicate_written : (naming : Naming) (pred : Predicate) (rest : Terms)
    → arguments_text (predicate_before (predicate_tree naming pred) rest)
    ≡ joined (predicate_text naming pred) rest (arguments_text rest)
predicate_written naming test.any rest = refl
predicate_written naming (test.eq column number) rest = refl
predicate_written naming (test.ne column number) rest = refl
predicate_written naming (test.lt column number) rest = refl
predicate_written naming (test.le column number) rest = refl
predicate_written naming (test.gt column number) rest = refl
predicate_written naming (test.ge column number) rest = refl
predicate_written naming (test.between column low high) rest = refl
predicate_written naming (test.eq_text column text) rest = refl
predicate_written naming (test.ne_text column text) rest = refl
predicate_written naming (test.is_num column) rest = refl
predicate_written naming (test.conjunction left right) rest =
    ap (λ t. joined (called (codes "and") t) rest (arguments_text rest))
    (two_predicates naming left right (predicate_written naming left)
    (predicate_written naming right none))
predicate_written naming (test.disjunction left right) rest =
    ap (λ t. joined (called (codes "or") t) rest (arguments_text rest))
    (two_predicates naming left right (predicate_written naming left)
    (predicate_written naming right none))
predicate_written naming (test.negation inner) rest =
    ap (λ t. joined (called (codes "not") t) rest (arguments_text rest))
    (predicate_written naming inner none)

-- what stands before a rate has a comma after it
pub rate_joined : (first : List ℕ) (tree : r.Rate) (rest : Terms) (others : List ℕ)
    → joined first (rate_before tree rest) others ≡ both first others
rate_joined first (r.eps span) rest others = refl
rate_joined first (r.item f span) rest others = refl
rate_joined first (r.joined op a b span) rest others = refl
rate_joined first (r.star a span) rest others = refl

-- two rates
two_rates : (naming : Naming) (left right : Regex)
    → ((rest : Terms) → arguments_text (rate_before (rate_tree naming left) rest)
    ≡ joined (rate_text naming left) rest (arguments_text rest))
    → arguments_text (rate_before (rate_tree naming right) none) ≡ rate_text naming right
    → arguments_text (rate_before (rate_tree naming left)
    (rate_before (rate_tree naming right) none))
    ≡ both (rate_text naming left) (rate_text naming right)
two_rates naming left right first second =
    first (rate_before (rate_tree naming right) none)
    ∙ rate_joined (rate_text naming left) (rate_tree naming right) none _
    ∙ ap (both (rate_text naming left)) second

pub rate_written : (naming : Naming) (regex : Regex) (rest : Terms)
    → arguments_text (rate_before (rate_tree naming regex) rest)
    ≡ joined (rate_text naming regex) rest (arguments_text rest)
rate_written naming rate.empty rest = refl
rate_written naming (rate.one pred) rest =
    ap (λ t. joined (called (codes "item") t) rest (arguments_text rest))
    (predicate_written naming pred none)
rate_written naming (rate.sequence left right) rest =
    ap (λ t. joined (called (codes "seq") t) rest (arguments_text rest))
    (two_rates naming left right (rate_written naming left) (rate_written naming right none))
rate_written naming (rate.choice left right) rest =
    ap (λ t. joined (called (codes "alt") t) rest (arguments_text rest))
    (two_rates naming left right (rate_written naming left) (rate_written naming right none))
rate_written naming (rate.star inner) rest =
    ap (λ t. joined (called (codes "star") t) rest (arguments_text rest))
    (rate_written naming inner none)
