-- Terms that have forms of their places are written by trees.
use Rattle.std.proofs.Common.{◌≡◌, ℕ, zero, suc, ℤ, pos, negsuc, ◌||◌, Bool, true, false, List, []}
use Rattle.std.proofs.Common.{◌∷◌, length, replicate, codes, Some, None, refl, ap, ◌∙◌, subst}
use Rattle.std.proofs.Common.{arith}
use Rattle.std.specs.Str.{bytes_eq}
use Rattle.std.proofs.lemmas.Slice.Eq.{bytes_eq-Decides}
use Rattle.language_base.specs.declared.span.Span.{Span}
use Rattle.query_forms.specs.declared.term_place.TermPlace.{TermPlace}
use Rattle.query_forms.specs.declared.term_place.TermPlace.TheVariants as place
use Rattle.query_forms.specs.Terms.{Terms, none, word, number, string, call, count_of}
use Rattle.query_forms.specs.Forms.{first_unfit, forms_at, places_in, places_of, unfit_in}
use Rattle.query_forms.specs.Forms.{fits_word, fits_number, fits_string}
use Rattle.query_parser.proofs.OptionCases.{chosen-none, first_of_two-none}
use Rattle.query_syntax.specs.declared.expression_head.ExpressionHead.{ExpressionHead}
use Rattle.query_syntax.specs.declared.expression_head.ExpressionHead.TheVariants as expression
use Rattle.query_syntax.specs.declared.key.Key.{Key}
use Rattle.query_syntax.specs.declared.key.Key.TheVariants as key
use Rattle.query_syntax.specs.declared.leaf.Index.{Index}
use Rattle.query_syntax.specs.declared.leaf.Literal.{Literal}
use Rattle.query_syntax.specs.declared.leaf.Literal.TheVariants as literal
use Rattle.query_syntax.specs.declared.leaf.Name.{Name}
use Rattle.query_syntax.specs.declared.leaf.Number.{Number}
use Rattle.query_syntax.specs.declared.leaf.Text.{Text}
use Rattle.language_base.specs.declared.compare.Compare.{Compare}
use Rattle.query_syntax.specs.declared.predicate_head.PredicateHead.{PredicateHead}
use Rattle.query_syntax.specs.declared.predicate_head.PredicateHead.TheVariants as predicate
use Rattle.query_syntax.specs.declared.query_head.QueryHead.{QueryHead}
use Rattle.query_syntax.specs.declared.query_head.QueryHead.TheVariants as query
use Rattle.query_syntax.specs.declared.rate_head.RateHead.{RateHead}
use Rattle.query_syntax.specs.declared.rate_head.RateHead.TheVariants as rate
use Rattle.query_syntax.specs.declared.stream.Column.{Column}
use Rattle.query_syntax.specs.declared.stream.Digits.{Digits}
use Rattle.query_syntax.specs.declared.stream.Kind.{Kind}
use Rattle.query_syntax.specs.declared.stream.Kind.TheVariants as kind
use Rattle.query_syntax.specs.declared.stream.Mode.{Mode}
use Rattle.query_syntax.specs.declared.stream.Mode.TheVariants as mode
use Rattle.query_syntax.specs.ExpressionHeads.{expression_word, expression_places, expression_heads}
use Rattle.query_syntax.specs.ExpressionHeads.{compare_places, compares}
use Rattle.query_syntax.specs.Expressions as e
use Rattle.query_syntax.specs.Expressions.{Expression, Expressions}
use Rattle.query_syntax.specs.Files.{column_before, digits_before, kind_before, mode_before}
use Rattle.query_syntax.specs.PredicateHeads.{predicate_word, predicate_places, predicate_heads}
use Rattle.query_syntax.specs.Predicates as p
use Rattle.query_syntax.specs.Predicates.{Predicate}
use Rattle.query_syntax.specs.Queries as q
use Rattle.query_syntax.specs.Queries.{Query}
use Rattle.query_syntax.specs.QueryHeads.{query_word, query_places, query_heads}
use Rattle.query_syntax.specs.RateHeads.{rate_word, rate_places, rate_heads}
use Rattle.query_syntax.specs.Rates as r
use Rattle.query_syntax.specs.Rates.{Rate}
use Rattle.query_syntax.specs.Words.{compare_word}
use Rattle.query_syntax.specs.Written.{index_before, name_before, number_before, text_before}
use Rattle.query_syntax.specs.Written.{key_before, names_terms}
use Rattle.query_syntax.specs.Written.{literal_before, expression_before, expressions_terms}
use Rattle.query_syntax.specs.Written.{predicate_before, rate_before, query_before}
use Rattle.query_syntax.proofs.Fitting.{form_at, places_count}
use Rattle.query_syntax.proofs.Heads.{form_found, forms_of}
use Rattle.query_syntax.proofs.Names.{key_counts, names_at}

-- a comparison with its operands and its place
pub record Comparison : Type 0 where
  pub compare : Compare
  pub left : Expression
  pub right : Expression
  pub span : Span

abbrev pub comparison_before : Comparison → Terms → Terms
comparison_before test rest =
    call (compare_word test.compare)
    (expression_before test.left (expression_before test.right none)) test.span rest

-- a tree that may stand at the place is written so before the rest
abbrev pub IsTree : TermPlace → Terms → Terms → Type 0
IsTree place.Mode terms rest = (tree : Mode) × (terms ≡ mode_before tree rest)
IsTree place.Column terms rest = (tree : Column) × (terms ≡ column_before tree rest)
IsTree place.Kind terms rest = (tree : Kind) × (terms ≡ kind_before tree rest)
IsTree place.Query terms rest = (tree : Query) × (terms ≡ query_before tree rest)
IsTree place.Key terms rest = (tree : Key) × (terms ≡ key_before tree rest)
IsTree place.Rate terms rest = (tree : Rate) × (terms ≡ rate_before tree rest)
IsTree place.Pred terms rest = (tree : Predicate) × (terms ≡ predicate_before tree rest)
IsTree place.Literal terms rest = (tree : Literal) × (terms ≡ literal_before tree rest)
IsTree place.Expr terms rest = (tree : Expression) × (terms ≡ expression_before tree rest)
IsTree place.Compare terms rest = (tree : Comparison) × (terms ≡ comparison_before tree rest)
IsTree place.Name terms rest = (tree : Name) × (terms ≡ name_before tree rest)
IsTree place.Number terms rest = (tree : Number) × (terms ≡ number_before tree rest)
IsTree place.Text terms rest = (tree : Text) × (terms ≡ text_before tree rest)
IsTree place.Digits terms rest = (tree : Digits) × (terms ≡ digits_before tree rest)
IsTree place.Index terms rest = (tree : Index) × (terms ≡ index_before tree rest)

-- trees of these places, one after the other
abbrev pub AreTrees : List TermPlace → Terms → Type 0
AreTrees [] terms = terms ≡ none
AreTrees (place ∷ places) terms = (rest : Terms) × IsTree place terms rest × AreTrees places rest

-- a word that is one of the language
known : (bytes written : List ℕ) (span : Span) (rest : Terms) → bytes_eq bytes written ≡ true
    → word bytes span rest ≡ word written span rest
known bytes written span rest is =
    ap (λ b. word b span rest) ((bytes_eq-Decides bytes written).0 is)

-- a word that fits
word_tree : (at : TermPlace) (bytes : List ℕ) (span : Span) (rest : Terms)
    → fits_word at bytes ≡ true → IsTree at (word bytes span rest) rest
word_tree place.Mode bytes span rest fits = by_test (bytes_eq bytes (codes "plain")) refl fits
  where
    by_test : (plain : Bool) → bytes_eq bytes (codes "plain") ≡ plain
        → (plain || bytes_eq bytes (codes "header")) ≡ true
        → IsTree place.Mode (word bytes span rest) rest
    by_test true is or_header = (mode.Plain span, known bytes (codes "plain") span rest is)
    by_test false is or_header =
        (mode.Header span, known bytes (codes "header") span rest or_header)
word_tree place.Kind bytes span rest fits = by_test (bytes_eq bytes (codes "int")) refl fits
  where
    by_test : (int : Bool) → bytes_eq bytes (codes "int") ≡ int
        → (int || bytes_eq bytes (codes "text")) ≡ true
        → IsTree place.Kind (word bytes span rest) rest
    by_test true is or_text = (kind.Int span, known bytes (codes "int") span rest is)
    by_test false is or_text = (kind.Text span, known bytes (codes "text") span rest or_text)
word_tree place.Query bytes span rest fits = (q.name (record { bytes = bytes; span = span }), refl)
word_tree place.Key bytes span rest fits =
    (key.Column (record { bytes = bytes; span = span }), refl)
word_tree place.Rate bytes span rest fits = (r.eps span, known bytes (codes "eps") span rest fits)
word_tree place.Pred bytes span rest fits = (p.any span, known bytes (codes "any") span rest fits)
word_tree place.Expr bytes span rest fits = (e.name (record { bytes = bytes; span = span }), refl)
word_tree place.Name bytes span rest fits = (record { bytes = bytes; span = span }, refl)
word_tree _ bytes span rest fits = absurd (cc)

-- a number that fits
number_tree : (at : TermPlace) (value : ℤ) (span : Span) (rest : Terms)
    → fits_number at value ≡ true → IsTree at (number value span rest) rest
number_tree place.Literal value span rest fits =
    (literal.Number (record { value = value; span = span }), refl)
number_tree place.Expr value span rest fits =
    (e.number (record { value = value; span = span }), refl)
number_tree place.Number value span rest fits = (record { value = value; span = span }, refl)
number_tree place.Digits (pos n) span rest fits = (record { count = n; span = span }, refl)
number_tree place.Digits (negsuc n) span rest fits = absurd (cc)
number_tree place.Index (pos n) span rest fits = (record { value = n; span = span }, refl)
number_tree place.Index (negsuc n) span rest fits = absurd (cc)
number_tree _ value span rest fits = absurd (cc)

-- a string that fits
string_tree : (at : TermPlace) (bytes : List ℕ) (span : Span) (rest : Terms) → fits_string at ≡ true
    → IsTree at (string bytes span rest) rest
string_tree place.Literal bytes span rest fits =
    (literal.Text (record { bytes = bytes; span = span }), refl)
string_tree place.Text bytes span rest fits = (record { bytes = bytes; span = span }, refl)
string_tree _ bytes span rest fits = absurd (cc)

-- a tree that is written as a call with these arguments
abbrev Makes : (Tree : Type 0) → (Tree → Terms → Terms) → List ℕ → Terms → Span → Type 0
Makes Tree before head_word arguments span =
    (tree : Tree) × ((rest : Terms) → call head_word arguments span rest ≡ before tree rest)

-- a call, where its arguments are known
with : (head_word : List ℕ) (span : Span) (arguments inner : Terms) → arguments ≡ inner
    → (rest : Terms) → call head_word arguments span rest ≡ call head_word inner span rest
with head_word span arguments inner is rest = ap (λ (a : Terms). call head_word a span rest) is

-- expressions, one after the other
some_expressions : (n : ℕ) (terms : Terms) → AreTrees (replicate n place.Expr) terms
    → (parts : Expressions) × (terms ≡ expressions_terms parts)
some_expressions zero terms is = (e.none, is)
some_expressions (suc n) terms (rest, (first, is-first), others) =
    let more = some_expressions n rest others in
    (e.more first more.0, is-first ∙ ap (expression_before first) more.1)

-- names, one after the other
some_names : (n : ℕ) (terms : Terms) → AreTrees (replicate n place.Name) terms
    → (names : List Name) × (terms ≡ names_terms names)
some_names zero terms is = ([], is)
some_names (suc n) terms (rest, (first, is-first), others) =
    let more = some_names n rest others in
    (first ∷ more.0, is-first ∙ ap (name_before first) more.1)

-- the calls that are keys
key_tree : (count : ℕ) (arguments : Terms) (span : Span)
    → AreTrees (replicate count place.Name) arguments
    → Makes Key key_before (codes "key") arguments span
key_tree count arguments span trees =
    let names = some_names count arguments trees in
    (key.Columns names.0 span, with _ span arguments _ names.1)

-- the calls that are expressions
expression_tree : (head : ExpressionHead) (arguments : Terms) (span : Span)
    → AreTrees (expression_places head) arguments
    → Makes Expression expression_before (expression_word head) arguments span
expression_tree (expression.Unary op) arguments span (_, (a, is-a), end) =
    (e.unary op a span, with _ span arguments _ (is-a ∙ ap (expression_before a) end))
expression_tree (expression.Binary op) arguments span (_, (a, is-a), (_, (b, is-b), end)) = (
  e.binary op a b span,
  with _ span arguments _ (is-a ∙ ap (expression_before a) (is-b ∙ ap (expression_before b) end)),
)
expression_tree expression.If arguments span
    (_, (test, is-test), (_, (a, is-a), (_, (b, is-b), end))) = (
      e.choice test.compare test.left test.right test.span a b span,
      with _ span arguments _ (is-test ∙ ap (comparison_before test)
          (is-a ∙ ap (expression_before a) (is-b ∙ ap (expression_before b) end))),
    )
expression_tree (expression.Summary op) arguments span (_, (table, is-table), end) =
    (e.summary op table span, with _ span arguments _ (is-table ∙ ap (name_before table) end))
expression_tree (expression.Extremum op) arguments span
    (_, (table, is-table), (_, (a, is-a), end)) = (
      e.extremum op table a span,
      with _ span arguments _
          (is-table ∙ ap (name_before table) (is-a ∙ ap (expression_before a) end)),
    )
expression_tree expression.Get arguments span
    (_, (table, is-table), (_, (key, is-key), (_, (a, is-a), end))) = (
      e.get table key a span,
      with _ span arguments _ (is-table ∙ ap (name_before table)
          (is-key ∙ ap (text_before key) (is-a ∙ ap (expression_before a) end))),
    )
expression_tree expression.Part arguments span
    (_, (whole, is-whole), (_, (index, is-index), end)) = (
      e.part whole index span,
      with _ span arguments _
          (is-whole ∙ ap (name_before whole) (is-index ∙ ap (index_before index) end)),
    )
expression_tree (expression.Record count) arguments span trees =
    let parts = some_expressions count arguments trees in
    (e.rec parts.0 span, with _ span arguments _ parts.1)

-- those that are comparisons
comparison_tree : (compare : Compare) (arguments : Terms) (span : Span)
    → AreTrees (compare_places compare) arguments
    → Makes Comparison comparison_before (compare_word compare) arguments span
comparison_tree compare arguments span (_, (a, is-a), (_, (b, is-b), end)) = (
  record { compare = compare; left = a; right = b; span = span },
  with _ span arguments _ (is-a ∙ ap (expression_before a) (is-b ∙ ap (expression_before b) end)),
)

-- those that are predicates
predicate_tree : (head : PredicateHead) (arguments : Terms) (span : Span)
    → AreTrees (predicate_places head) arguments
    → Makes Predicate predicate_before (predicate_word head) arguments span
predicate_tree (predicate.Equality op) arguments span
    (_, (column, is-column), (_, (l, is-l), end)) = (
      p.equality op column l span,
      with _ span arguments _
          (is-column ∙ ap (name_before column) (is-l ∙ ap (literal_before l) end)),
    )
predicate_tree (predicate.Order op) arguments span (_, (column, is-column), (_, (n, is-n), end)) = (
  p.order op column n span,
  with _ span arguments _ (is-column ∙ ap (name_before column) (is-n ∙ ap (number_before n) end)),
)
predicate_tree predicate.Between arguments span
    (_, (column, is-column), (_, (m, is-m), (_, (n, is-n), end))) = (
      p.between column m n span,
      with _ span arguments _ (is-column
          ∙ ap (name_before column)
          (is-m ∙ ap (number_before m) (is-n ∙ ap (number_before n) end))),
    )
predicate_tree predicate.IsNum arguments span (_, (column, is-column), end) =
    (p.is_num column span, with _ span arguments _ (is-column ∙ ap (name_before column) end))
predicate_tree (predicate.Joined op) arguments span (_, (a, is-a), (_, (b, is-b), end)) = (
  p.joined op a b span,
  with _ span arguments _ (is-a ∙ ap (predicate_before a) (is-b ∙ ap (predicate_before b) end)),
)
predicate_tree predicate.Not arguments span (_, (a, is-a), end) =
    (p.negated a span, with _ span arguments _ (is-a ∙ ap (predicate_before a) end))

-- those that are rates
rate_tree : (head : RateHead) (arguments : Terms) (span : Span)
    → AreTrees (rate_places head) arguments → Makes Rate rate_before (rate_word head) arguments span
rate_tree rate.Item arguments span (_, (f, is-f), end) =
    (r.item f span, with _ span arguments _ (is-f ∙ ap (predicate_before f) end))
rate_tree (rate.Joined op) arguments span (_, (a, is-a), (_, (b, is-b), end)) = (
  r.joined op a b span,
  with _ span arguments _ (is-a ∙ ap (rate_before a) (is-b ∙ ap (rate_before b) end)),
)
rate_tree rate.Star arguments span (_, (a, is-a), end) =
    (r.star a span, with _ span arguments _ (is-a ∙ ap (rate_before a) end))

-- those that are queries
query_tree : (head : QueryHead) (arguments : Terms) (span : Span)
    → AreTrees (query_places head) arguments
    → Makes Query query_before (query_word head) arguments span
query_tree query.Atom arguments span (_, (f, is-f), (_, (v, is-v), end)) = (
  q.atom f v span,
  with _ span arguments _ (is-f ∙ ap (predicate_before f) (is-v ∙ ap (expression_before v) end)),
)
query_tree query.Eps arguments span (_, (n, is-n), end) =
    (q.eps n span, with _ span arguments _ (is-n ∙ ap (number_before n) end))
query_tree query.Or arguments span (_, (a, is-a), (_, (b, is-b), end)) = (
  q.or a b span,
  with _ span arguments _ (is-a ∙ ap (query_before a) (is-b ∙ ap (query_before b) end)),
)
query_tree query.Split arguments span (_, (a, is-a), (_, (b, is-b), (_, (v, is-v), end))) = (
  q.split a b v span,
  with _ span arguments _ (is-a
      ∙ ap (query_before a) (is-b ∙ ap (query_before b) (is-v ∙ ap (expression_before v) end))),
)
query_tree query.Iter arguments span (_, (a, is-a), (_, (n, is-n), (_, (v, is-v), end))) = (
  q.iter a n v span,
  with _ span arguments _ (is-a
      ∙ ap (query_before a) (is-n ∙ ap (number_before n) (is-v ∙ ap (expression_before v) end))),
)
query_tree query.Combine arguments span (_, (a, is-a), (_, (b, is-b), (_, (v, is-v), end))) = (
  q.combine a b v span,
  with _ span arguments _ (is-a
      ∙ ap (query_before a) (is-b ∙ ap (query_before b) (is-v ∙ ap (expression_before v) end))),
)
query_tree query.Apply arguments span (_, (a, is-a), (_, (v, is-v), end)) = (
  q.apply a v span,
  with _ span arguments _ (is-a ∙ ap (query_before a) (is-v ∙ ap (expression_before v) end)),
)
query_tree query.Compose arguments span (_, (a, is-a), (_, (b, is-b), end)) = (
  q.compose a b span,
  with _ span arguments _ (is-a ∙ ap (query_before a) (is-b ∙ ap (query_before b) end)),
)
query_tree query.Collect arguments span
    (_, (k, is-k), (_, (f, is-f), (_, (t, is-t), (_, (a, is-a), end)))) = (
      q.collect k f t a span,
      with _ span arguments _ (is-k ∙ ap (key_before k) (is-f
          ∙ ap (predicate_before f) (is-t ∙ ap (rate_before t) (is-a ∙ ap (query_before a) end)))),
    )

-- a column, and a kind with digits
column_tree : (arguments : Terms) (span : Span) → AreTrees (place.Name ∷ place.Kind ∷ []) arguments
    → Makes Column column_before (codes "col") arguments span
column_tree arguments span (_, (n, is-n), (_, (k, is-k), end)) = (
  record { name = n; kind = k; span = span },
  with _ span arguments _ (is-n ∙ ap (name_before n) (is-k ∙ ap (kind_before k) end)),
)

kind_tree : (arguments : Terms) (span : Span) → AreTrees (place.Digits ∷ []) arguments
    → Makes Kind kind_before (codes "fixed") arguments span
kind_tree arguments span (_, (n, is-n), end) =
    (kind.Fixed n span, with _ span arguments _ (is-n ∙ ap (digits_before n) end))

-- a call of a table
head_tree : (H Tree : Type 0) (word_of : H → List ℕ) (places_of_head : H → List TermPlace)
    (before : Tree → Terms → Terms) (heads : List H)
    → ((head : H) (arguments : Terms) (span : Span) → AreTrees (places_of_head head) arguments
    → Makes Tree before (word_of head) arguments span)
    → (head_word : List ℕ) (arguments : Terms) (span : Span) (rest : Terms)
    (places : List TermPlace)
    → places_in (forms_of word_of places_of_head heads) head_word (count_of arguments) ≡ Some places
    → AreTrees places arguments
    → (tree : Tree) × (call head_word arguments span rest ≡ before tree rest)
head_tree H Tree word_of places_of_head before heads makes head_word arguments span rest
    places found trees =
    let head = form_found H word_of places_of_head heads head_word (count_of arguments)
    places found in
    let tree = makes head.0 arguments span (subst (λ ps. AreTrees ps arguments) head.2 trees) in
    (tree.0, ap (λ w. call w arguments span rest) head.1 ∙ tree.1 rest)

-- a call that has a form of its place
call_tree : (at : TermPlace) (head_word : List ℕ) (arguments : Terms) (span : Span) (rest : Terms)
    (places : List TermPlace) → places_of at head_word (count_of arguments) ≡ Some places
    → AreTrees places arguments → IsTree at (call head_word arguments span rest) rest
call_tree place.Expr head_word arguments span rest places found trees =
    head_tree _ _ expression_word expression_places expression_before expression_heads
    expression_tree head_word arguments span rest places found trees
call_tree place.Compare head_word arguments span rest places found trees =
    head_tree _ _ compare_word compare_places comparison_before compares
    comparison_tree head_word arguments span rest places found trees
call_tree place.Pred head_word arguments span rest places found trees =
    head_tree _ _ predicate_word predicate_places predicate_before predicate_heads
    predicate_tree head_word arguments span rest places found trees
call_tree place.Rate head_word arguments span rest places found trees =
    head_tree _ _ rate_word rate_places rate_before rate_heads rate_tree head_word arguments
    span rest places found trees
call_tree place.Query head_word arguments span rest places found trees =
    head_tree _ _ query_word query_places query_before query_heads query_tree head_word
    arguments span rest places found trees
call_tree place.Key head_word arguments span rest places found trees =
    head_tree ℕ _ (λ _. codes "key") names_at key_before key_counts
    key_tree head_word arguments span rest places found trees
call_tree place.Column head_word arguments span rest places found trees =
    head_tree (Unit {0}) _ (λ _. codes "col") (λ _. place.Name ∷ place.Kind ∷ []) column_before
    (tt ∷ []) (λ _. column_tree) head_word arguments span rest places found trees
call_tree place.Kind head_word arguments span rest places found trees =
    head_tree (Unit {0}) _ (λ _. codes "fixed") (λ _. place.Digits ∷ []) kind_before
    (tt ∷ []) (λ _. kind_tree) head_word arguments span rest places found trees
call_tree _ head_word arguments span rest places found trees = absurd (cc)

-- terms at places, none of which is unfit
pub some_trees : (places : List TermPlace) (terms : Terms) → count_of terms ≡ length places
    → first_unfit places terms ≡ None → AreTrees places terms
some_trees [] none many fit = refl
some_trees [] (word bytes span rest) many fit = absurd (omega (arith, many))
some_trees [] (number value span rest) many fit = absurd (omega (arith, many))
some_trees [] (string bytes span rest) many fit = absurd (omega (arith, many))
some_trees [] (call head arguments span rest) many fit = absurd (omega (arith, many))
some_trees (at ∷ places) none many fit = absurd (omega (arith, many))
some_trees (at ∷ places) (word bytes span rest) many fit =
    let parts = chosen-none (fits_word at bytes) (first_unfit places rest) span fit in (
      rest,
      word_tree at bytes span rest parts.0,
      some_trees places rest (omega (arith, many)) parts.1,
    )
some_trees (at ∷ places) (number value span rest) many fit =
    let parts = chosen-none (fits_number at value) (first_unfit places rest) span fit in (
      rest,
      number_tree at value span rest parts.0,
      some_trees places rest (omega (arith, many)) parts.1,
    )
some_trees (at ∷ places) (string bytes span rest) many fit =
    let parts = chosen-none (fits_string at) (first_unfit places rest) span fit in (
      rest,
      string_tree at bytes span rest parts.0,
      some_trees places rest (omega (arith, many)) parts.1,
    )
some_trees (at ∷ places) (call head arguments span rest) many fit =
    let inside = unfit_in (places_of at head (count_of arguments)) span
    (λ inner. first_unfit inner arguments) in
    let parts = first_of_two-none inside (first_unfit places rest) fit in
    let form = form_at at head span arguments (places_of at head (count_of arguments)) parts.0 in
    let trees = some_trees form.0 arguments
    (places_count (forms_at at) head (count_of arguments) form.0 form.1) form.2 in (
      rest,
      call_tree at head arguments span rest form.0 form.1 trees,
      some_trees places rest (omega (arith, many)) parts.1,
    )
