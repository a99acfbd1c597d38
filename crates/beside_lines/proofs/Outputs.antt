-- What stands in the column of a query is what a run of it writes.
use Rattle.std.proofs.Common.{◌≡◌, ℕ, suc, Bool, true, false, cond, List, [], ◌∷◌, ◌++◌, drop}
use Rattle.std.proofs.Common.{length, Option, Err, refl, sym, ap, subst, ◌∙◌}
use Rattle.std.proofs.Common.{append_assoc, append-nil}
use Rattle.std.specs.List.{AllByRecursion, flat_map}
use Rattle.std.proofs.lemmas.Grind.{flat_map-append}
use Rattle.io_edge.specs.Lines.{Shown, lines, long, text}
use Rattle.item_schema.specs.Layout.{Layout}
use Rattle.line_reader.specs.Reading.{item_of, skip}
use Rattle.line_reader.specs.declared.stop.Cause.TheVariants as cause
use Rattle.stream_run.specs.Meanings.{Meaning}
use Rattle.stream_run.specs.Output.{answer, answers, answers_after, is_header, read_of, reply_to}
use Rattle.stream_run.specs.Output.{value_after}
use Rattle.beside_lines.specs.AfterTabs.{column_of, ended, in_column, rows, rows_after_header}
use Rattle.beside_lines.specs.Besides.{as_read, besides, besides_after, column, init}
use Rattle.beside_lines.proofs.HighBytes.{AreHigh, IsRow, reply_row}
use Rattle.beside_lines.proofs.LineEnds.{HasNoEnd, lines_no_end}
use Rattle.beside_lines.proofs.Rows.{AreInside, all_inside, first_row, inside_both}
use Rattle.beside_lines.proofs.Tabs.{column_there, columns_inside, columns_with, no_column}

init_push : (bytes : List ℕ) → init (bytes ++ 10 ∷ []) ≡ bytes
init_push [] = refl
init_push (byte ∷ []) = refl
init_push (byte ∷ next ∷ bytes) = ap (λ (t : List ℕ). byte ∷ t) (init_push (next ∷ bytes))

-- the column of a text with an LF
pub column_ended : (bytes : List ℕ) → column (bytes ++ 10 ∷ []) ≡ 9 ∷ bytes
column_ended [] = refl
column_ended (byte ∷ bytes) = ap (λ (t : List ℕ). 9 ∷ t) (init_push (byte ∷ bytes))

-- what follows for each from what holds of each
all_so : {X : Type 0} (P Q : X → Type 0) → ((x : X) → P x → Q x) → (xs : List X)
    → AllByRecursion P xs → AllByRecursion Q xs
all_so P Q so [] all = tt
all_so P Q so (x ∷ xs) all = (so x all.0, all_so P Q so xs all.1)

-- what holds of all holds before one of them and after it
all_before : {X : Type 0} (P : X → Type 0) (xs : List X) (y : X) (zs : List X)
    → AllByRecursion P (xs ++ y ∷ zs) → AllByRecursion P xs
all_before P [] y zs all = tt
all_before P (x ∷ xs) y zs all = (all.0, all_before P xs y zs all.1)

all_after : {X : Type 0} (P : X → Type 0) (xs : List X) (y : X) (zs : List X)
    → AllByRecursion P (xs ++ y ∷ zs) → AllByRecursion P zs
all_after P [] y zs all = all.1
all_after P (x ∷ xs) y zs all = all_after P xs y zs all.1

-- the texts in the columns of replies that are rows
record Texts (reply : Meaning → List ℕ) (meanings : List Meaning) : Type 0 where
  texts : List (List ℕ)
  written : flat_map (λ meaning. column (reply meaning)) meanings ≡ columns_with texts
  high : AllByRecursion AreHigh texts
  many : length texts ≡ length meanings

module _ (reply : Meaning → List ℕ) where
  abbrev filled : List Meaning → List ℕ
  filled meanings = flat_map (λ meaning. column (reply meaning)) meanings

  texts_of : (meanings : List Meaning) → AllByRecursion (λ meaning. IsRow (reply meaning)) meanings
      → Texts reply meanings
  texts_of [] all = record { texts = []; written = refl; high = tt; many = refl }
  texts_of (meaning ∷ meanings) ((bytes, is, high), all) =
      let others = texts_of meanings all in
      record {
        texts = bytes ∷ others.texts;
        written = ap (λ (r : List ℕ). column r ++ filled meanings) is
            ∙ ap (λ (c : List ℕ). c ++ filled meanings) (column_ended bytes)
            ∙ ap (λ (c : List ℕ). 9 ∷ bytes ++ c) others.written;
        high = (high, others.high);
        many = ap suc others.many;
      }

  -- where no reply is, no column is
  no_columns : (meanings : List Meaning) → AllByRecursion (λ meaning. reply meaning ≡ []) meanings
      → filled meanings ≡ []
  no_columns [] all = refl
  no_columns (meaning ∷ meanings) all =
      ap (λ (r : List ℕ). column r ++ filled meanings) all.0 ∙ no_columns meanings all.1

module _ (before : List Meaning) (meaning : Meaning) (after : List Meaning) where
  abbrev all : List Meaning
  all = before ++ meaning ∷ after

  -- what stands there in the lines of a text
  abbrev there : List ℕ → List ℕ
  there bytes = column_of (length after) (rows bytes)

  -- a line without columns
  bare_line : (reply : Meaning → List ℕ) (line rest : List ℕ) → AreInside line
      → AllByRecursion (λ other. reply other ≡ []) all
      → rows ((line ++ filled reply all ++ 10 ∷ []) ++ rest) ≡ line ∷ rows rest
  bare_line reply line rest inside none =
      ap (λ (c : List ℕ). rows ((line ++ c ++ 10 ∷ []) ++ rest)) (no_columns reply all none)
      ∙ ap (λ (l : List ℕ). rows ((l ++ 10 ∷ []) ++ rest)) (append-nil line)
      ∙ ap rows (append_assoc line (10 ∷ []) rest)
      ∙ first_row line rest inside

  -- and one with a column for each
  full_line : (reply : Meaning → List ℕ) (line rest : List ℕ) → AreInside line
      → AllByRecursion (λ other. IsRow (reply other)) before → IsRow (reply meaning)
      → AllByRecursion (λ other. IsRow (reply other)) after
      → there ((line ++ filled reply all ++ 10 ∷ []) ++ rest) ≡ reply meaning ++ there rest
  full_line reply line rest inside are_before (bytes, is, high) are_after =
      let firsts = texts_of reply before are_before in
      let lasts = texts_of reply after are_after in
      let start = columns_with firsts.texts in
      let rest_of = columns_with lasts.texts in
      let row = start ++ (9 ∷ bytes) ++ rest_of in
      let same : filled reply all ≡ row =
      flat_map-append (λ other. column (reply other)) before (meaning ∷ after)
      ∙ ap (λ (c : List ℕ). c ++ (column (reply meaning) ++ filled reply after)) firsts.written
      ∙ ap (λ (c : List ℕ). start ++ (c ++ filled reply after))
      (ap column is ∙ column_ended bytes)
      ∙ ap (λ (c : List ℕ). start ++ ((9 ∷ bytes) ++ c)) lasts.written
      ∙ sym (append_assoc start (9 ∷ bytes) rest_of) in
      let row_inside = inside_both line row inside
      (inside_both (start ++ 9 ∷ bytes) rest_of
      (inside_both start (9 ∷ bytes) (columns_inside firsts.texts firsts.high)
      (all_inside bytes high))
      (columns_inside lasts.texts lasts.high)) in
      ap (λ (c : List ℕ). there ((line ++ c ++ 10 ∷ []) ++ rest)) same
      ∙ ap there (append_assoc (line ++ row) (10 ∷ []) rest)
      ∙ ap (column_of (length after)) (first_row (line ++ row) rest row_inside)
      ∙ ap (λ (n : ℕ). in_column n (line ++ row) ++ there rest) (sym lasts.many)
      ∙ ap (λ (t : List ℕ). t ++ there rest)
      (column_there line firsts.texts bytes lasts.texts high lasts.high ∙ sym is)

  module _ (same : AllByRecursion (λ other. other.layout ≡ meaning.layout) all) where
    -- what is written for a line that is no header
    answer_body : (past : List Shown) (line : Shown) → is_header meaning.layout past ≡ false
        → (other : Meaning) → other.layout ≡ meaning.layout
        → answer other past line
        ≡ reply_to (read_of other.layout.columns line) (value_after other (past ++ line ∷ []))
    answer_body past line body other is =
        ap (λ (h : Bool). cond h [] (reply_to (read_of other.layout.columns line)
        (value_after other (past ++ line ∷ []))))
        (ap (λ (l : Layout). is_header l past) is ∙ body)

    -- where it is a row for each query
    rows_body : (past : List Shown) (line : Shown) (rest : List ℕ) → HasNoEnd line
        → ((other : Meaning) → other.layout ≡ meaning.layout → IsRow (answer other past line))
        → there ((as_read line ++ filled (λ other. answer other past line) all ++ 10 ∷ [])
        ++ rest)
        ≡ answer meaning past line ++ there rest
    rows_body past line rest inside row =
        let reply : Meaning → List ℕ = λ other. answer other past line in
        full_line reply (as_read line) rest inside
        (all_so (λ other. other.layout ≡ meaning.layout) (λ other. IsRow (reply other)) row before
        (all_before (λ other. other.layout ≡ meaning.layout) before meaning after same))
        (row meaning refl)
        (all_so (λ other. other.layout ≡ meaning.layout) (λ other. IsRow (reply other)) row after
        (all_after (λ other. other.layout ≡ meaning.layout) before meaning after same))

    -- a line that is no header
    line_body : (past : List Shown) (line : Shown) (rest : List ℕ)
        → is_header meaning.layout past ≡ false → HasNoEnd line
        → there ((as_read line ++ filled (λ other. answer other past line) all ++ 10 ∷ [])
        ++ rest)
        ≡ answer meaning past line ++ there rest
    line_body past (text []) rest body inside =
        let reply : Meaning → List ℕ = λ other. answer other past (text []) in
        ap (column_of (length after)) (bare_line reply [] rest inside
        (all_so (λ other. other.layout ≡ meaning.layout) (λ other. reply other ≡ [])
        (λ other is. answer_body past (text []) body other is) all same))
        ∙ ap (λ (p : Option (List ℕ × List ℕ)). ended p ++ there rest) (no_column (length after))
        ∙ ap (λ (t : List ℕ). t ++ there rest) (sym (answer_body past (text []) body meaning refl))
    line_body past (text (byte ∷ bytes)) rest body inside =
        rows_body past (text (byte ∷ bytes)) rest inside
        (λ other is. subst IsRow (sym (answer_body past (text (byte ∷ bytes)) body other is))
        (reply_row (item_of other.layout.columns (byte ∷ bytes))
        (value_after other (past ++ text (byte ∷ bytes) ∷ []))))
    line_body past long rest body inside =
        rows_body past long rest inside
        (λ other is. subst IsRow (sym (answer_body past long body other is))
        (reply_row (Err (skip cause.Long 0)) (value_after other (past ++ long ∷ []))))

    -- lines of which none is the header
    lines_body : (past shown : List Shown) → is_header meaning.layout past ≡ false
        → AllByRecursion HasNoEnd shown
        → there (besides_after all past shown) ≡ answers_after meaning past shown
    lines_body past [] body each = refl
    lines_body past (line ∷ rest) body each =
        let later = past ++ line ∷ [] in
        line_body past line (besides_after all later rest) body each.0
        ∙ ap (λ (t : List ℕ). answer meaning past line ++ t)
        (lines_body later rest (no_header past line) each.1)
      where
        no_header : (before : List Shown) (line : Shown)
            → is_header meaning.layout (before ++ line ∷ []) ≡ false
        no_header [] line = refl
        no_header (first ∷ before) line = refl

    -- a header
    header_none : (line : Shown) → meaning.layout.has_header ≡ true → (other : Meaning)
        → other.layout ≡ meaning.layout → answer other [] line ≡ []
    header_none line header other is =
        ap (λ (h : Bool). cond h [] (reply_to (read_of other.layout.columns line)
        (value_after other (line ∷ []))))
        (ap (λ (l : Layout). l.has_header) is ∙ header)

    -- the lines of an input
    lines_all : (has_header : Bool) → meaning.layout.has_header ≡ has_header → (shown : List Shown)
        → AllByRecursion HasNoEnd shown
        → column_of (length after) (rows_after_header has_header (besides all shown))
        ≡ answers meaning shown
    lines_all false is shown each = lines_body [] shown is each
    lines_all true is [] each = refl
    lines_all true is (line ∷ rest) each =
        let later = line ∷ [] in
        let reply : Meaning → List ℕ = λ other. answer other [] line in
        ap (λ (r : List (List ℕ)). column_of (length after) (drop 1 r))
        (bare_line reply (as_read line) (besides_after all later rest) each.0
        (all_so (λ other. other.layout ≡ meaning.layout) (λ other. reply other ≡ [])
        (header_none line is) all same))
        ∙ lines_body later rest refl each.1
        ∙ ap (λ (t : List ℕ). t ++ answers_after meaning later rest)
        (sym (header_none line is meaning refl))

-- the column of a query
pub column_is : (before : List Meaning) (meaning : Meaning) (after : List Meaning)
    (bytes : List ℕ)
    → AllByRecursion (λ other. other.layout ≡ meaning.layout) (before ++ meaning ∷ after)
    → column_of (length after) (rows_after_header meaning.layout.has_header
    (besides (before ++ meaning ∷ after) (lines bytes true))) ≡ answers meaning (lines bytes true)
column_is before meaning after bytes same =
    lines_all before meaning after same meaning.layout.has_header refl (lines bytes true)
    (lines_no_end bytes true)
