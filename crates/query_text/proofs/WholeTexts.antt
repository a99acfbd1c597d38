-- The text of the file is the line of the stream, those of the lets and that of the main query.
use Rattle.std.proofs.Common.{◌≡◌, ◌∙◌, ◌+◌, ◌++◌, ℕ, Bool, true, false, List, [], ◌∷◌, map, codes}
use Rattle.std.proofs.Common.{refl, ap, sym, append_assoc, append-nil}
use Rattle.item_schema.specs.Layout.{Layout}
use Rattle.item_schema.specs.declared.column.Column.{Column}
use Rattle.item_schema.specs.declared.column.Kind.{Kind}
use Rattle.item_schema.specs.declared.column.Kind.TheVariants.{Int, Fixed, Text, Number, Table}
use Rattle.query_forms.specs.Terms.{Terms, none, word}
use Rattle.query_model.specs.Queries.{Qre}
use Rattle.query_parser.specs.Printing.{arguments_text, file_text, joined, nowhere}
use Rattle.query_syntax.specs.Files.{all_before, column_before, kind_before, let_before}
use Rattle.query_syntax.specs.Files.{main_before, mode_before}
use Rattle.query_syntax.specs.Queries as q
use Rattle.query_syntax.specs.Queries.{Query}
use Rattle.query_syntax.specs.Written.{query_before}
use Rattle.query_text.specs.Forms.{both, called}
use Rattle.query_text.specs.LetTexts.{PlacedText, placed_texts}
use Rattle.query_text.specs.Lets.{let_at, placed, query_text}
use Rattle.query_text.specs.Names.{let_name, of_columns}
use Rattle.query_text.specs.Programs.{column_tree, kind_tree, lets_from, mode_tree}
use Rattle.query_text.specs.Programs.{text_of}
use Rattle.query_text.specs.StreamTexts.{column_text, columns_text, kind_text, let_text, lets_text}
use Rattle.query_text.specs.StreamTexts.{main_text, mode_text, stream_text}
use Rattle.query_text.proofs.LetsAgree.{placed_agree}

-- The stream.

column_arguments : (name : List ℕ) (kind : Kind)
    → arguments_text (word name nowhere (kind_before (kind_tree kind) none))
    ≡ both name (kind_text kind)
column_arguments name Int = refl
column_arguments name (Fixed digits) = refl
column_arguments name Text = refl
column_arguments name Number = refl
column_arguments name Table = refl

columns_after : (first : List ℕ) (columns : List Column)
    → joined first (all_before column_before (map column_tree columns) none)
    (arguments_text (all_before column_before (map column_tree columns) none))
    ≡ first ++ columns_text columns
columns_after first [] = sym (append-nil first)
columns_after first (column ∷ columns) =
    ap (λ t. both first (joined (called (codes "col") t)
    (all_before column_before (map column_tree columns) none)
    (arguments_text (all_before column_before (map column_tree columns) none))))
    (column_arguments column.name column.kind)
    ∙ ap (both first) (columns_after (column_text column) columns)
    ∙ append_assoc first (codes ", ") (column_text column ++ columns_text columns)
    ∙ ap (λ t. first ++ t) (sym (append_assoc (codes ", ") (column_text column)
    (columns_text columns)))

mode_after : (has_header : Bool) (columns : List Column)
    → arguments_text (mode_before (mode_tree has_header)
    (all_before column_before (map column_tree columns) none))
    ≡ mode_text has_header ++ columns_text columns
mode_after true columns = columns_after (codes "header") columns
mode_after false columns = columns_after (codes "plain") columns

-- The lets and the main query.

query_joined : (first : List ℕ) (tree : Query) (rest : Terms) (others : List ℕ)
    → joined first (query_before tree rest) others ≡ both first others
query_joined first (q.name n) rest others = refl
query_joined first (q.atom f v span) rest others = refl
query_joined first (q.eps n span) rest others = refl
query_joined first (q.or a b span) rest others = refl
query_joined first (q.split a b v span) rest others = refl
query_joined first (q.iter a n v span) rest others = refl
query_joined first (q.combine a b v span) rest others = refl
query_joined first (q.apply a v span) rest others = refl
query_joined first (q.compose a b span) rest others = refl
query_joined first (q.collect k f t a span) rest others = refl

lets_after : (place : ℕ) (queries : List Query) (rest : Terms)
    → file_text (all_before let_before (lets_from place queries) rest)
    ≡ lets_text place (map query_text queries) ++ file_text rest
lets_after place [] rest = refl
lets_after place (query ∷ queries) rest =
    (λ i. called (codes "let") (query_joined (let_name place) query none (query_text query) i)
    ++ codes "\n" ++ lets_after (place + 1) queries rest i)
    ∙ sym (append_assoc (let_text place (query_text query))
    (lets_text (place + 1) (map query_text queries)) (file_text rest))

-- The whole file.

pub whole_text : (layout : Layout) (query : Qre)
    → let texts = placed_texts (of_columns layout.columns) query [] in
    text_of layout query
    ≡ stream_text layout ++ lets_text 0 texts.texts ++ main_text texts.place
whole_text layout query =
    let all = placed (of_columns layout.columns) query [] in
    let texts = placed_texts (of_columns layout.columns) query [] in
    let agree = placed_agree (of_columns layout.columns) query [] [] refl in
    let last : Terms = main_before (record { query = let_at all.place; span = nowhere }) none in
    let ended : file_text last ≡ main_text all.place = append-nil (main_text all.place) in
    let body : file_text (all_before let_before (lets_from 0 all.queries) last)
    ≡ lets_text 0 texts.texts ++ main_text texts.place =
    lets_after 0 all.queries last
    ∙ (λ i. lets_text 0 (agree.texts_are i) ++ ended i)
    ∙ ap (λ p. lets_text 0 texts.texts ++ main_text p) agree.same_place in
    (λ i. called (codes "stream") (mode_after layout.has_header layout.columns i) ++ codes "\n"
    ++ body i)
    ∙ sym (append_assoc (stream_text layout) (lets_text 0 texts.texts) (main_text texts.place))

-- lines that are written one after the other make the text
pub lines_make_text : (layout : Layout) (query : Qre) (texts : List (List ℕ)) (place : ℕ)
    (none_yet stream lets all : List ℕ)
    → placed_texts (of_columns layout.columns) query [] ≡ record { texts = texts; place = place }
    → none_yet ≡ [] → stream ≡ none_yet ++ stream_text layout → lets ≡ stream ++ lets_text 0 texts
    → all ≡ lets ++ main_text place → all ≡ text_of layout query
lines_make_text layout query texts place start stream lets all placed_is empty first second third =
    third
    ∙ ap (λ t. t ++ main_text place)
    (second ∙ ap (λ t. t ++ lets_text 0 texts) (first ∙ ap (λ t. t ++ stream_text layout) empty))
    ∙ ap (λ (made : PlacedText). stream_text layout ++ lets_text 0 made.texts
    ++ main_text made.place) (sym placed_is)
    ∙ sym (whole_text layout query)
