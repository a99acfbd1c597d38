-- The texts of the queries of lets.
use Rattle.std.proofs.Common.{◌≡◌, ◌∙◌, ℕ, ℤ, List, codes, ap}
use Rattle.std.specs.Fmt.{signed_decimal}
use Rattle.expressions.specs.Expressions.{Expression}
use Rattle.predicates.specs.Predicates.{Predicate}
use Rattle.rate_expr.specs.Rates.{Regex}
use Rattle.query_forms.specs.Terms.{Terms, none}
use Rattle.query_parser.specs.Printing.{arguments_text, joined, nowhere}
use Rattle.query_syntax.specs.Queries as q
use Rattle.query_syntax.specs.Written.{expression_before, predicate_before, query_before}
use Rattle.query_syntax.specs.Written.{rate_before}
use Rattle.query_text.specs.Forms.{both, called, expression_text, key_text, predicate_text}
use Rattle.query_text.specs.Forms.{rate_text}
use Rattle.query_text.specs.Lets.{let_at, query_text}
use Rattle.query_text.specs.Names.{Naming, let_name}
use Rattle.query_text.specs.Trees.{expression_tree, key_tree, numbered, predicate_tree, rate_tree}
use Rattle.query_text.proofs.KeyTexts.{key_written}
use Rattle.query_text.proofs.PredicateTexts.{predicate_joined, predicate_written, rate_joined}
use Rattle.query_text.proofs.PredicateTexts.{rate_written}
use Rattle.query_text.proofs.TreeTexts.{expression_joined, expression_written}

-- a text before that of an expression
before_value : (naming : Naming) (first : List ℕ) (v : Expression)
    → joined first (expression_before (expression_tree naming v) none)
    (arguments_text (expression_before (expression_tree naming v) none))
    ≡ both first (expression_text naming v)
before_value naming first v =
    expression_joined first (expression_tree naming v) none _
    ∙ ap (both first) (expression_written naming v none)

pub atom_written : (naming : Naming) (pred : Predicate) (v : Expression)
    → query_text (q.atom (predicate_tree naming pred) (expression_tree naming v) nowhere)
    ≡ called (codes "atom") (both (predicate_text naming pred) (expression_text naming v))
atom_written naming pred v =
    ap (called (codes "atom"))
    (predicate_written naming pred (expression_before (expression_tree naming v) none)
    ∙ before_value naming (predicate_text naming pred) v)

pub joined_split : (naming : Naming) (left right : ℕ) (v : Expression)
    → query_text (q.split (let_at left) (let_at right) (expression_tree naming v) nowhere)
    ≡ called (codes "split")
    (both (let_name left) (both (let_name right) (expression_text naming v)))
joined_split naming left right v =
    ap (λ t. called (codes "split") (both (let_name left) t))
    (before_value naming (let_name right) v)

pub joined_combine : (naming : Naming) (left right : ℕ) (v : Expression)
    → query_text (q.combine (let_at left) (let_at right) (expression_tree naming v) nowhere)
    ≡ called (codes "combine")
    (both (let_name left) (both (let_name right) (expression_text naming v)))
joined_combine naming left right v =
    ap (λ t. called (codes "combine") (both (let_name left) t))
    (before_value naming (let_name right) v)

pub iter_written : (naming : Naming) (inner : ℕ) (number : ℤ) (v : Expression)
    → query_text (q.iter (let_at inner) (numbered number) (expression_tree naming v) nowhere)
    ≡ called (codes "iter")
    (both (let_name inner) (both (signed_decimal number) (expression_text naming v)))
iter_written naming inner number v =
    ap (λ t. called (codes "iter") (both (let_name inner) t))
    (before_value naming (signed_decimal number) v)

pub apply_written : (naming : Naming) (inner : ℕ) (v : Expression)
    → query_text (q.apply (let_at inner) (expression_tree naming v) nowhere)
    ≡ called (codes "apply") (both (let_name inner) (expression_text naming v))
apply_written naming inner v = ap (called (codes "apply")) (before_value naming (let_name inner) v)

pub collect_written : (naming : Naming) (chosen : List ℕ) (sync : Predicate) (rate : Regex)
    (inner : ℕ) → query_text (q.collect (key_tree naming chosen) (predicate_tree naming sync)
    (rate_tree naming rate) (let_at inner) nowhere)
    ≡ called (codes "collect") (both (key_text naming chosen) (both (predicate_text naming sync)
    (both (rate_text naming rate) (let_name inner))))
collect_written naming chosen sync rate inner =
    let last : Terms = query_before (let_at inner) none in
    let rates : Terms = rate_before (rate_tree naming rate) last in
    let tests : Terms = predicate_before (predicate_tree naming sync) rates in
    ap (called (codes "collect"))
    (key_written naming chosen tests
    ∙ predicate_joined (key_text naming chosen) (predicate_tree naming sync) rates _
    ∙ ap (both (key_text naming chosen))
    (predicate_written naming sync rates
    ∙ rate_joined (predicate_text naming sync) (rate_tree naming rate) last _
    ∙ ap (both (predicate_text naming sync)) (rate_written naming rate last)))
