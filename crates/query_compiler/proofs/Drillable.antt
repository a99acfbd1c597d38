-- The stream of a query text can be drilled: the names of its columns are words, so none has an LF.
use Rattle.std.proofs.Common.{◌≡◌, ◌≢◌, ◌&&◌, ℕ, true, false, IsTrue, List, [], ◌∷◌, map, refl, sym}
use Rattle.std.proofs.Common.{subst, arith}
use Rattle.std.specs.List.{AllByRecursion}
use Rattle.std.proofs.lemmas.Bool.{and_from}
use Rattle.std.proofs.lemmas.Bool.Decides.{nat_tests}
use Rattle.std.proofs.lemmas.List.{length-map}
use Rattle.std.proofs.lemmas.List.Elements.{All-from_recursion}
use Rattle.io_edge.specs.Lines.{NoLf}
use Rattle.item_drill.specs.Lines.{are_read, names_of}
use Rattle.item_schema.specs.Layout.{has_digits, is_read}
use Rattle.query_forms.specs.Terms.{IsTokenOf, Say, Terms, none, word, number, string, call}
use Rattle.query_forms.specs.Terms.{bytes_at}
use Rattle.query_model.specs.Monitors.{Monitor}
use Rattle.query_parser.proofs.ReadTrees.{AreTrees, terms-trees}
use Rattle.query_parser.proofs.TextTokens.{tokens_of_text}
use Rattle.query_parser.specs.Reading.{IsFileOf}
use Rattle.query_syntax.specs.Files.{all_before, column_before, mode_before, program_terms}
use Rattle.query_syntax.specs.Limits.{HasDigits, IsWithin}
use Rattle.query_syntax.specs.Programs.{Program}
use Rattle.query_syntax.specs.declared.stream.Column.{Column}
use Rattle.query_syntax.specs.declared.stream.Kind.{Kind}
use Rattle.query_syntax.specs.declared.stream.Kind.TheVariants.{Int, Text, Fixed}
use Rattle.query_syntax.specs.declared.stream.Mode.{Mode}
use Rattle.query_syntax.specs.declared.stream.Mode.TheVariants.{Plain, Header}
use Rattle.query_tokens.specs.declared.token.TokenKind.{TokenKind}
use Rattle.query_tokens.specs.Raw.{IsRaw, IsWord, is_word_byte, is_word_start}
use Rattle.query_trees.specs.Trees as trees
use Rattle.query_trees.specs.Trees.{Trees}
use Rattle.type_checker.specs.Judged.{IsJudged, Verdict, accepted, sound, unmeasured, ambiguous}
use Rattle.query_resolver.specs.Layouts.{column_of, kind_of, layout_of}
use Rattle.item_drill.specs.Drillable.{IsDrillable}

-- each word among the terms is one
abbrev HaveWords : Terms → Type 0
HaveWords none = Unit {0}
HaveWords (word bytes span rest) = IsWord bytes × HaveWords rest
HaveWords (number value span rest) = HaveWords rest
HaveWords (string bytes span rest) = HaveWords rest
HaveWords (call head arguments span rest) = HaveWords arguments × HaveWords rest

-- so it is in the terms that trees of a text say
terms_have_words : (text : List ℕ) (list : Trees) (terms : Terms) → Say text list terms
    → AreTrees (IsTokenOf text) list → HaveWords terms
terms_have_words text trees.none none say are = tt
terms_have_words text (trees.leaf token rest) (word bytes span more) say are =
    let raw = subst (λ (kind : TokenKind). IsRaw kind (bytes_at text token.span)) say.0 are.0.raw in
    (subst IsWord (sym say.1) raw, terms_have_words text rest more say.3 are.1)
terms_have_words text (trees.leaf token rest) (number value span more) say are =
    terms_have_words text rest more say.3 are.1
terms_have_words text (trees.leaf token rest) (string bytes span more) say are =
    terms_have_words text rest more say.3 are.1
terms_have_words text (trees.call head arguments place rest) (call bytes inner span more) say are =
    (terms_have_words text arguments inner say.2 are.3, terms_have_words text rest more say.3 are.4)
terms_have_words text list terms say are = absurd say

-- and in the terms of a file
file_has_words : (text : List ℕ) (terms : Terms) → IsFileOf text terms → HaveWords terms
file_has_words text terms is =
    let has = is.has.has in
    let tokens = has.has.has in
    terms_have_words text has.trees terms has.say
    (terms-trees (IsTokenOf text) has.trees has.has.tokens has.has.are
    (tokens_of_text text has.has.tokens tokens.are))

-- a word has no LF
start_is_no_lf : (byte : ℕ) → IsTrue (is_word_start byte) → byte ≢ 10
start_is_no_lf byte is same = let lf : false ≡ true =
    subst (λ (b : ℕ). IsTrue (is_word_start b)) same is in absurd (cc)

byte_is_no_lf : (byte : ℕ) → IsTrue (is_word_byte byte) → byte ≢ 10
byte_is_no_lf byte is same = let lf : false ≡ true =
    subst (λ (b : ℕ). IsTrue (is_word_byte b)) same is in absurd (cc)

bytes_have_no_lf : (bytes : List ℕ) → AllByRecursion (λ b. IsTrue (is_word_byte b)) bytes
    → AllByRecursion (λ b. b ≢ 10) bytes
bytes_have_no_lf [] are = tt
bytes_have_no_lf (byte ∷ bytes) are = (byte_is_no_lf byte are.0, bytes_have_no_lf bytes are.1)

word_has_no_lf : (bytes : List ℕ) → IsWord bytes → NoLf bytes
word_has_no_lf [] is = absurd is
word_has_no_lf (byte ∷ bytes) is =
    All-from_recursion (λ b. b ≢ 10) (byte ∷ bytes)
    (start_is_no_lf byte is.0, bytes_have_no_lf bytes is.1)

-- so have the names of the columns
columns_have_no_lf : (columns : List Column) → HaveWords (all_before column_before columns none)
    → AllByRecursion NoLf (names_of (map column_of columns))
columns_have_no_lf [] have = tt
columns_have_no_lf (column ∷ columns) have =
    (word_has_no_lf column.name.bytes have.0.0, columns_have_no_lf columns have.1)

after_mode : (mode : Mode) (rest : Terms) → HaveWords (mode_before mode rest) → HaveWords rest
after_mode (Plain span) rest have = have.1
after_mode (Header span) rest have = have.1

-- columns within the limits of a stream are read from lines
kind_is_read : (kind : Kind) → HasDigits kind
    → IsTrue (has_digits (kind_of kind) && is_read (kind_of kind))
kind_is_read (Int span) has = refl
kind_is_read (Text span) has = refl
kind_is_read (Fixed digits span) has = grind (arith, nat_tests)

columns_are_read : (columns : List Column)
    → AllByRecursion (λ (column : Column). HasDigits column.kind) columns
    → IsTrue (are_read (map column_of columns))
columns_are_read [] have = refl
columns_are_read (column ∷ columns) have =
    and_from (has_digits (kind_of column.kind) && is_read (kind_of column.kind))
    (are_read (map column_of columns)) (kind_is_read column.kind have.0)
    (columns_are_read columns have.1)

-- so the stream of a file can be drilled
stream_is_drillable : (program : Program) → IsWithin program.stream
    → HaveWords (program_terms program) → IsDrillable (layout_of program.stream)
stream_is_drillable program within have =
    let columns = program.stream.columns in
    record {
      some = rw (length-map columns column_of) within.some;
      few = rw (length-map columns column_of) within.few;
      read = columns_are_read columns within.digits;
      names = columns_have_no_lf columns (after_mode program.stream.mode _ have.0);
    }

-- in each query that a program is judged to be
judged_drillable : (program : Program) (verdict : Verdict) (monitor : Monitor)
    → IsJudged program verdict → verdict ≡ accepted monitor → IsWithin program.stream
    → HaveWords (program_terms program) → IsDrillable monitor.layout
judged_drillable program _ monitor (sound query measured breaks) is within have =
    let made : Monitor = record { layout = layout_of program.stream; query = query } in
    let same : made ≡ monitor = cc in
    subst (λ (m : Monitor). IsDrillable m.layout) same (stream_is_drillable program within have)
judged_drillable program _ monitor (unmeasured why measured) is within have = absurd (cc)
judged_drillable program _ monitor (ambiguous query why measured breaks) is within have =
    absurd (cc)

-- and so in each that the text is compiled to
pub drillable_of_text : (text : List ℕ) (program : Program) → IsFileOf text (program_terms program)
    → IsWithin program.stream → (monitor : Monitor) → IsJudged program (accepted monitor)
    → IsDrillable monitor.layout
drillable_of_text text program file within monitor is =
    judged_drillable program (accepted monitor) monitor is refl within
    (file_has_words text (program_terms program) file)
