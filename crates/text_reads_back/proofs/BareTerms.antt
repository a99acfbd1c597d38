-- Trees without their places are written as terms without their places.
use Rattle.std.proofs.Common.{◌≡◌, List, [], ◌∷◌, map, codes, refl, ap, ◌∙◌}
use Rattle.query_forms.specs.Terms.{Terms, none, call}
use Rattle.query_parser.specs.Printing.{nowhere, unplaced}
use Rattle.query_syntax.specs.Expressions as e
use Rattle.query_syntax.specs.Predicates as p
use Rattle.query_syntax.specs.Queries as q
use Rattle.query_syntax.specs.Rates as r
use Rattle.query_syntax.specs.Words.{binary_word, compare_word, connective_word, extremum_word}
use Rattle.query_syntax.specs.Words.{equality_word, join_word, unary_word}
use Rattle.query_syntax.specs.Written.{expression_before, expressions_terms}
use Rattle.query_syntax.specs.Written.{key_before, literal_before, name_before, names_terms}
use Rattle.query_syntax.specs.Written.{number_before, predicate_before, query_before, rate_before}
use Rattle.query_syntax.specs.Written.{text_before}
use Rattle.query_syntax.specs.declared.key.Key.{Key}
use Rattle.query_syntax.specs.declared.key.Key.TheVariants as key
use Rattle.query_syntax.specs.declared.leaf.Literal.{Literal}
use Rattle.query_syntax.specs.declared.leaf.Literal.TheVariants as literal
use Rattle.query_syntax.specs.declared.leaf.Name.{Name}
use Rattle.text_reads_back.proofs.Bare.{bare_expression, bare_expressions, bare_key}
use Rattle.text_reads_back.proofs.Bare.{bare_literal, bare_name, bare_number, bare_predicate}
use Rattle.text_reads_back.proofs.Bare.{bare_query, bare_rate, bare_text}

mutual
  pub expression_bare : (x : e.Expression) (rest : Terms)
      → expression_before (bare_expression x) (unplaced rest) ≡ unplaced (expression_before x rest)
  expression_bare (e.number number) rest = refl
  expression_bare (e.name name) rest = refl
  expression_bare (e.unary op a span) rest =
      ap (λ t. call (unary_word op) t nowhere (unplaced rest)) (expression_bare a none)
  expression_bare (e.binary op a b span) rest =
      ap (λ t. call (binary_word op) t nowhere (unplaced rest))
      (ap (expression_before (bare_expression a)) (expression_bare b none)
      ∙ expression_bare a (expression_before b none))
  expression_bare (e.choice op a b at c d span) rest =
      let operands = ap (expression_before (bare_expression a)) (expression_bare b none)
      ∙ expression_bare a (expression_before b none) in
      let branches = ap (expression_before (bare_expression c)) (expression_bare d none)
      ∙ expression_bare c (expression_before d none) in
      λ i. call (codes "if") (call (compare_word op) (operands i) nowhere (branches i)) nowhere
      (unplaced rest)
  expression_bare (e.summary op table span) rest = refl
  expression_bare (e.extremum op table a span) rest =
      ap (λ t. call (extremum_word op) (name_before (bare_name table) t) nowhere (unplaced rest))
      (expression_bare a none)
  expression_bare (e.get table text a span) rest =
      ap (λ t. call (codes "tget") (name_before (bare_name table) (text_before (bare_text text) t))
      nowhere (unplaced rest))
      (expression_bare a none)
  expression_bare (e.rec parts span) rest =
      ap (λ t. call (codes "rec") t nowhere (unplaced rest)) (expressions_bare parts)
  expression_bare (e.part whole index span) rest = refl

  pub expressions_bare : (x : e.Expressions)
      → expressions_terms (bare_expressions x) ≡ unplaced (expressions_terms x)
  expressions_bare e.none = refl
  expressions_bare (e.more first others) =
      ap (expression_before (bare_expression first)) (expressions_bare others)
      ∙ expression_bare first (expressions_terms others)

literal_bare : (x : Literal) (rest : Terms)
    → literal_before (bare_literal x) (unplaced rest) ≡ unplaced (literal_before x rest)
literal_bare (literal.Number number) rest = refl
literal_bare (literal.Text text) rest = refl

pub predicate_bare : (x : p.Predicate) (rest : Terms)
    → predicate_before (bare_predicate x) (unplaced rest) ≡ unplaced (predicate_before x rest)
predicate_bare (p.any span) rest = refl
predicate_bare (p.equality op column operand span) rest =
    ap (λ t. call (equality_word op) (name_before (bare_name column) t) nowhere (unplaced rest))
    (literal_bare operand none)
predicate_bare (p.order op column bound span) rest = refl
predicate_bare (p.between column low high span) rest = refl
predicate_bare (p.is_num column span) rest = refl
predicate_bare (p.joined op a b span) rest =
    ap (λ t. call (connective_word op) t nowhere (unplaced rest))
    (ap (predicate_before (bare_predicate a)) (predicate_bare b none)
    ∙ predicate_bare a (predicate_before b none))
predicate_bare (p.negated a span) rest =
    ap (λ t. call (codes "not") t nowhere (unplaced rest)) (predicate_bare a none)

pub rate_bare : (x : r.Rate) (rest : Terms)
    → rate_before (bare_rate x) (unplaced rest) ≡ unplaced (rate_before x rest)
rate_bare (r.eps span) rest = refl
rate_bare (r.item f span) rest =
    ap (λ t. call (codes "item") t nowhere (unplaced rest)) (predicate_bare f none)
rate_bare (r.joined op a b span) rest =
    ap (λ t. call (join_word op) t nowhere (unplaced rest))
    (ap (rate_before (bare_rate a)) (rate_bare b none) ∙ rate_bare a (rate_before b none))
rate_bare (r.star a span) rest =
    ap (λ t. call (codes "star") t nowhere (unplaced rest)) (rate_bare a none)

names_bare : (names : List Name) → names_terms (map bare_name names) ≡ unplaced (names_terms names)
names_bare [] = refl
names_bare (first ∷ others) = ap (name_before (bare_name first)) (names_bare others)

key_bare : (x : Key) (rest : Terms)
    → key_before (bare_key x) (unplaced rest) ≡ unplaced (key_before x rest)
key_bare (key.Column name) rest = refl
key_bare (key.Columns names span) rest =
    ap (λ t. call (codes "key") t nowhere (unplaced rest)) (names_bare names)

pub query_bare : (x : q.Query) (rest : Terms)
    → query_before (bare_query x) (unplaced rest) ≡ unplaced (query_before x rest)
query_bare (q.name name) rest = refl
query_bare (q.atom f value span) rest =
    ap (λ t. call (codes "atom") t nowhere (unplaced rest))
    (ap (predicate_before (bare_predicate f)) (expression_bare value none)
    ∙ predicate_bare f (expression_before value none))
query_bare (q.eps number span) rest = refl
query_bare (q.or a b span) rest =
    ap (λ t. call (codes "or") t nowhere (unplaced rest))
    (ap (query_before (bare_query a)) (query_bare b none) ∙ query_bare a (query_before b none))
query_bare (q.split a b value span) rest =
    let last = expression_before value none in
    ap (λ t. call (codes "split") t nowhere (unplaced rest))
    (ap (λ t. query_before (bare_query a) (query_before (bare_query b) t))
    (expression_bare value none)
    ∙ ap (query_before (bare_query a)) (query_bare b last) ∙ query_bare a (query_before b last))
query_bare (q.iter a number value span) rest =
    let last = expression_before value none in
    ap (λ t. call (codes "iter") t nowhere (unplaced rest))
    (ap (λ t. query_before (bare_query a) (number_before (bare_number number) t))
    (expression_bare value none)
    ∙ query_bare a (number_before number last))
query_bare (q.combine a b value span) rest =
    let last = expression_before value none in
    ap (λ t. call (codes "combine") t nowhere (unplaced rest))
    (ap (λ t. query_before (bare_query a) (query_before (bare_query b) t))
    (expression_bare value none)
    ∙ ap (query_before (bare_query a)) (query_bare b last) ∙ query_bare a (query_before b last))
query_bare (q.apply a value span) rest =
    ap (λ t. call (codes "apply") t nowhere (unplaced rest))
    (ap (query_before (bare_query a)) (expression_bare value none)
    ∙ query_bare a (expression_before value none))
query_bare (q.compose a b span) rest =
    ap (λ t. call (codes "compose") t nowhere (unplaced rest))
    (ap (query_before (bare_query a)) (query_bare b none) ∙ query_bare a (query_before b none))
query_bare (q.collect names f rate a span) rest =
    let last = query_before a none in
    let then = rate_before rate last in
    ap (λ t. call (codes "collect") t nowhere (unplaced rest))
    (ap (λ t. key_before (bare_key names) (predicate_before (bare_predicate f)
    (rate_before (bare_rate rate) t))) (query_bare a none)
    ∙ ap (λ t. key_before (bare_key names) (predicate_before (bare_predicate f) t))
    (rate_bare rate last)
    ∙ ap (key_before (bare_key names)) (predicate_bare f then)
    ∙ key_bare names (predicate_before f then))
