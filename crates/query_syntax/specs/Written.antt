-- Statement. The terms that expressions, predicates, rates and queries are written as.
use Rattle.std.specs.Prelude.{pos, codes, List, [], ◌∷◌}
use Rattle.query_forms.specs.Terms.{Terms, none, word, string, call}
use Rattle.query_forms.specs.Terms as terms
use Rattle.query_syntax.specs.declared.key.Key.{Key}
use Rattle.query_syntax.specs.declared.key.Key.TheVariants as key
use Rattle.query_syntax.specs.declared.leaf.Index.{Index}
use Rattle.query_syntax.specs.declared.leaf.Literal.{Literal}
use Rattle.query_syntax.specs.declared.leaf.Literal.TheVariants as literal
use Rattle.query_syntax.specs.declared.leaf.Name.{Name}
use Rattle.query_syntax.specs.declared.leaf.Number.{Number}
use Rattle.query_syntax.specs.declared.leaf.Text.{Text}
use Rattle.query_syntax.specs.Expressions as e
use Rattle.query_syntax.specs.Expressions.{Expression, Expressions}
use Rattle.query_syntax.specs.Predicates as p
use Rattle.query_syntax.specs.Predicates.{Predicate}
use Rattle.query_syntax.specs.Rates as r
use Rattle.query_syntax.specs.Rates.{Rate}
use Rattle.query_syntax.specs.Queries as q
use Rattle.query_syntax.specs.Queries.{Query}
use Rattle.query_syntax.specs.Words.{unary_word, binary_word, compare_word, summary_word}
use Rattle.query_syntax.specs.Words.{extremum_word, equality_word, order_word, connective_word}
use Rattle.query_syntax.specs.Words.{join_word}

-- names, numbers, indices, strings and literals before other terms
abbrev pub name_before : Name → Terms → Terms
name_before n rest = word n.bytes n.span rest

abbrev pub number_before : Number → Terms → Terms
number_before n rest = terms.number n.value n.span rest

abbrev pub index_before : Index → Terms → Terms
index_before n rest = terms.number (pos n.value) n.span rest

abbrev pub text_before : Text → Terms → Terms
text_before t rest = string t.bytes t.span rest

abbrev pub literal_before : Literal → Terms → Terms
literal_before (literal.Number n) rest = number_before n rest
literal_before (literal.Text t) rest = text_before t rest

abbrev mutual
  -- an expression before other terms
  pub expression_before : Expression → Terms → Terms
  expression_before (e.number n) rest = number_before n rest
  expression_before (e.name n) rest = name_before n rest
  expression_before (e.unary op a span) rest =
      call (unary_word op) (expression_before a none) span rest
  expression_before (e.binary op a b span) rest =
      call (binary_word op) (expression_before a (expression_before b none)) span rest
  expression_before (e.choice op a b at c d span) rest = call (codes "if")
      (call (compare_word op) (expression_before a (expression_before b none)) at
      (expression_before c (expression_before d none)))
      span rest
  expression_before (e.summary op table span) rest =
      call (summary_word op) (name_before table none) span rest
  expression_before (e.extremum op table a span) rest =
      call (extremum_word op) (name_before table (expression_before a none)) span rest
  expression_before (e.get table key a span) rest =
      call (codes "tget") (name_before table (text_before key (expression_before a none))) span rest
  expression_before (e.rec parts span) rest = call (codes "rec") (expressions_terms parts) span rest
  expression_before (e.part whole index span) rest =
      call (codes "part") (name_before whole (index_before index none)) span rest

  -- expressions, one after the other
  pub expressions_terms : Expressions → Terms
  expressions_terms e.none = none
  expressions_terms (e.more first others) = expression_before first (expressions_terms others)

-- a predicate before other terms
abbrev pub predicate_before : Predicate → Terms → Terms
predicate_before (p.any span) rest = word (codes "any") span rest
predicate_before (p.equality op column l span) rest =
    call (equality_word op) (name_before column (literal_before l none)) span rest
predicate_before (p.order op column bound span) rest =
    call (order_word op) (name_before column (number_before bound none)) span rest
predicate_before (p.between column low high span) rest =
    call (codes "between")
    (name_before column (number_before low (number_before high none))) span rest
predicate_before (p.is_num column span) rest =
    call (codes "isnum") (name_before column none) span rest
predicate_before (p.joined op a b span) rest =
    call (connective_word op) (predicate_before a (predicate_before b none)) span rest
predicate_before (p.negated a span) rest = call (codes "not") (predicate_before a none) span rest

-- a rate before other terms
abbrev pub rate_before : Rate → Terms → Terms
rate_before (r.eps span) rest = word (codes "eps") span rest
rate_before (r.item f span) rest = call (codes "item") (predicate_before f none) span rest
rate_before (r.joined op a b span) rest =
    call (join_word op) (rate_before a (rate_before b none)) span rest
rate_before (r.star a span) rest = call (codes "star") (rate_before a none) span rest

-- names, one after the other
abbrev pub names_terms : List Name → Terms
names_terms [] = none
names_terms (first ∷ others) = name_before first (names_terms others)

-- the columns of a key before other terms
abbrev pub key_before : Key → Terms → Terms
key_before (key.Column n) rest = name_before n rest
key_before (key.Columns names span) rest = call (codes "key") (names_terms names) span rest

-- a query before other terms
abbrev pub query_before : Query → Terms → Terms
query_before (q.name n) rest = name_before n rest
query_before (q.atom f v span) rest =
    call (codes "atom") (predicate_before f (expression_before v none)) span rest
query_before (q.eps n span) rest = call (codes "eps") (number_before n none) span rest
query_before (q.or a b span) rest =
    call (codes "or") (query_before a (query_before b none)) span rest
query_before (q.split a b v span) rest =
    call (codes "split") (query_before a (query_before b (expression_before v none))) span rest
query_before (q.iter a n v span) rest =
    call (codes "iter") (query_before a (number_before n (expression_before v none))) span rest
query_before (q.combine a b v span) rest =
    call (codes "combine") (query_before a (query_before b (expression_before v none))) span rest
query_before (q.apply a v span) rest =
    call (codes "apply") (query_before a (expression_before v none)) span rest
query_before (q.compose a b span) rest =
    call (codes "compose") (query_before a (query_before b none)) span rest
query_before (q.collect k f t a span) rest =
    call (codes "collect")
    (key_before k (predicate_before f (rate_before t (query_before a none)))) span rest
