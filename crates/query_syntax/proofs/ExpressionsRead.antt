-- Expressions read back.
use Rattle.std.proofs.Common.{◌≡◌, ℕ, ◌==◌, ◌&&◌, pos, Bool, true, false, cond, List, [], ◌∷◌}
use Rattle.std.proofs.Common.{length, codes, Option, Some, refl, ap, ◌∙◌}
use Rattle.std.specs.List.{AllByRecursion}
use Rattle.std.specs.Str.{bytes_eq}
use Rattle.language_base.specs.declared.span.Span.{Span}
use Rattle.query_forms.specs.Terms.{Terms, none}
use Rattle.query_syntax.specs.declared.expression_head.ExpressionHead.{ExpressionHead}
use Rattle.query_syntax.specs.declared.expression_head.ExpressionHead.TheVariants as expression
use Rattle.query_syntax.specs.declared.leaf.Number.{Number}
use Rattle.query_syntax.specs.ExpressionHeads.{expressions, expression_word, expression_places}
use Rattle.query_syntax.specs.ExpressionHeads.{record_heads}
use Rattle.query_syntax.specs.Expressions as e
use Rattle.query_syntax.specs.Expressions.{Expression, Expressions}
use Rattle.query_syntax.specs.Rows.{head_in, rows_of}
use Rattle.query_syntax.specs.Words.{compare_word}
use Rattle.query_syntax.specs.Written.{expression_before, expressions_terms}
use Rattle.query_syntax.proofs.SomeTrees.{Comparison}
use Rattle.query_syntax.proofs.ReadTerms.{Reading, Back, before, call_back, name_reading}
use Rattle.query_syntax.proofs.ReadTerms.{number_reading, text_reading, readings, all_expressions}
use Rattle.query_syntax.proofs.ReadTerms.{expression_from, comparison_from}
use Rattle.query_syntax.proofs.FoundHeads.{unary_found, binary_found, summary_found}
use Rattle.query_syntax.proofs.FoundHeads.{extremum_found, compare_found}

-- the call is that of a record
abbrev IsRecord : ExpressionHead → Type 0
IsRecord head = (count : ℕ) × (head ≡ expression.Record count)

-- it says what the others say
record_head : (test : Bool) (is : ExpressionHead) (count : ℕ) (others : Option ExpressionHead)
    (rs : List Reading) (span : Span) → is ≡ expression.Record count
    → expression_from others rs span ≡ e.rec (all_expressions rs) span
    → expression_from (cond test (Some is) others) rs span ≡ e.rec (all_expressions rs) span
record_head true is count others rs span same after =
    ap (λ (h : ExpressionHead). expression_from (Some h) rs span) same
record_head false is count others rs span same after = after

record_in : (heads : List ExpressionHead) (head : List ℕ) (count : ℕ) (rs : List Reading)
    (span : Span) → AllByRecursion IsRecord heads
    → expression_from (head_in (rows_of expression_word expression_places heads) head count) rs span
    ≡ e.rec (all_expressions rs) span
record_in [] head count rs span are = refl
record_in (first ∷ rest) head count rs span are =
    record_head
    (bytes_eq (expression_word first) head && (length (expression_places first) == count))
    first are.0.0 (head_in (rows_of expression_word expression_places rest) head count) rs span
    are.0.1 (record_in rest head count rs span are.1)

-- so a call of their word is a record, whatever its number of arguments
record_read : (rs : List Reading) (span : Span)
    → expression_from (head_in expressions (codes "rec") (length rs)) rs span
    ≡ e.rec (all_expressions rs) span
record_read rs span =
    record_in record_heads (codes "rec") (length rs) rs span
    ((2, refl), ((3, refl), ((4, refl), ((5, refl), ((6, refl), ((7, refl), ((8, refl), tt)))))))

-- the terms of expressions read as these
record AreBack (parts : Expressions) : Type 0 where
  reads : List Reading
  are : readings (expressions_terms parts) ≡ reads
  say : all_expressions reads ≡ parts

mutual
  -- an expression reads back
  pub expression_back : (v : Expression) (rest : Terms)
      → Back (λ (x : Reading). x.expression) v (expression_before v rest) rest
  expression_back (e.number n) rest = record { reading = number_reading n; is = refl; says = refl }
  expression_back (e.name n) rest = record { reading = name_reading n; is = refl; says = refl }
  expression_back (e.unary op a span) rest =
      let x = expression_back a none in
      call_back _ _ _ _ span rest (x.reading ∷ []) x.is
      (ap (λ h. expression_from h (x.reading ∷ []) span) (unary_found op)
      ∙ ap (λ t. e.unary op t span) x.says)
  expression_back (e.binary op a b span) rest =
      let x = expression_back a (expression_before b none) in
      let y = expression_back b none in
      call_back _ _ _ _ span rest (x.reading ∷ y.reading ∷ []) (before _ _ _ _ _ x y.is)
      (ap (λ h. expression_from h (x.reading ∷ y.reading ∷ []) span) (binary_found op)
      ∙ (λ i. e.binary op (x.says i) (y.says i) span))
  expression_back (e.choice op a b place c d span) rest =
      let x = expression_back a (expression_before b none) in
      let y = expression_back b none in
      let test : Comparison = record { compare = op; left = a; right = b; span = place } in
      let after = expression_before c (expression_before d none) in
      let t = call_back (λ (x : Reading). x.comparison) test (compare_word op) _ place after
      (x.reading ∷ y.reading ∷ []) (before _ _ _ _ _ x y.is)
      (ap (λ h. comparison_from h (x.reading ∷ y.reading ∷ []) place) (compare_found op)
      ∙ (λ i. record { compare = op; left = x.says i; right = y.says i; span = place })) in
      let z = expression_back c (expression_before d none) in
      let w = expression_back d none in
      call_back _ _ _ _ span rest (t.reading ∷ z.reading ∷ w.reading ∷ [])
      (before (λ (x : Reading). x.comparison) test _ _ _ t (before _ _ _ _ _ z w.is))
      (λ i. e.choice (t.says i).compare (t.says i).left (t.says i).right (t.says i).span (z.says i)
      (w.says i) span)
  expression_back (e.summary op table span) rest =
      call_back _ _ _ _ span rest (name_reading table ∷ []) refl
      (ap (λ h. expression_from h (name_reading table ∷ []) span) (summary_found op))
  expression_back (e.extremum op table a span) rest =
      let x = expression_back a none in
      call_back _ _ _ _ span rest (name_reading table ∷ x.reading ∷ [])
      (ap (λ (l : List Reading). name_reading table ∷ l) x.is)
      (ap (λ h. expression_from h (name_reading table ∷ x.reading ∷ []) span) (extremum_found op)
      ∙ ap (λ t. e.extremum op table t span) x.says)
  expression_back (e.get table key a span) rest =
      let x = expression_back a none in
      call_back _ _ _ _ span rest (name_reading table ∷ text_reading key ∷ x.reading ∷ [])
      (ap (λ (l : List Reading). name_reading table ∷ text_reading key ∷ l) x.is)
      (ap (λ t. e.get table key t span) x.says)
  expression_back (e.rec parts span) rest =
      let xs = expressions_back parts in
      call_back _ _ _ _ span rest xs.reads xs.are
      (record_read xs.reads span ∙ ap (λ (es : Expressions). e.rec es span) xs.say)
  expression_back (e.part whole index span) rest =
      let n : Number = record { value = pos index.value; span = index.span } in
      call_back _ _ _ _ span rest (name_reading whole ∷ number_reading n ∷ []) refl refl

  -- so do expressions, one after the other
  expressions_back : (parts : Expressions) → AreBack parts
  expressions_back e.none = record { reads = []; are = refl; say = refl }
  expressions_back (e.more first others) =
      let x = expression_back first (expressions_terms others) in
      let xs = expressions_back others in
      record {
        reads = x.reading ∷ xs.reads;
        are = before _ _ _ _ _ x xs.are;
        say = λ i. e.more (x.says i) (xs.say i);
      }
