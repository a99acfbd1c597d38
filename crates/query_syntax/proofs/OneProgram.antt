-- No two programs are written alike.
use Rattle.std.proofs.Common.{◌≡◌, ℕ, pos, List, [], ◌∷◌, length, refl, ap, arith}
use Rattle.language_base.specs.declared.span.Span.{Span}
use Rattle.query_forms.specs.Terms.{Terms, none, word, number, string, call}
use Rattle.query_syntax.specs.declared.leaf.Name.{Name}
use Rattle.query_syntax.specs.declared.stream.Column.{Column}
use Rattle.query_syntax.specs.declared.stream.Kind.{Kind}
use Rattle.query_syntax.specs.declared.stream.Kind.TheVariants.{Int, Text, Fixed}
use Rattle.query_syntax.specs.declared.stream.Mode.{Mode}
use Rattle.query_syntax.specs.declared.stream.Mode.TheVariants.{Plain, Header}
use Rattle.query_syntax.specs.Files.{all_before, column_before, kind_before, let_before}
use Rattle.query_syntax.specs.Files.{main_before, mode_before, program_terms}
use Rattle.query_syntax.specs.Programs.{Let, Main, Program}
use Rattle.query_syntax.specs.Written.{name_before, query_before}
use Rattle.query_syntax.proofs.Readings.{one_query}

-- the word at the front
abbrev front_word : Terms → List ℕ
front_word none = []
front_word (word bytes span rest) = bytes
front_word (number value span rest) = []
front_word (string bytes span rest) = []
front_word (call head arguments span rest) = head

-- words of different lengths are different
apart : (terms others : Terms) → terms ≡ others
    → (length (front_word terms) ≡ length (front_word others) → ⊥) → ⊥
apart terms others same differ = differ (ap (λ t. length (front_word t)) same)

-- calls that are the same have the same parts
record SameCall (head other : List ℕ) (arguments inner : Terms) (span place : Span)
    (rest after : Terms) : Type 0 where
  inside : arguments ≡ inner
  span_is : span ≡ place
  rest_is : rest ≡ after

same_call : (head other : List ℕ) (arguments inner : Terms) (span place : Span) (rest after : Terms)
    → call head arguments span rest ≡ call other inner place after
    → SameCall head other arguments inner span place rest after
same_call head other arguments inner span place rest after same =
    record { inside = cc; span_is = cc; rest_is = cc }

-- names before others
one_name : (a b : Name) (rest others : Terms) → name_before a rest ≡ name_before b others
    → (a ≡ b) × (rest ≡ others)
one_name a b rest others same =
    let bytes : a.bytes ≡ b.bytes = cc in
    let span : a.span ≡ b.span = cc in
    (λ i. record { bytes = bytes i; span = span i }, cc)

-- modes before others
one_mode : (a b : Mode) (rest others : Terms) → mode_before a rest ≡ mode_before b others
    → (a ≡ b) × (rest ≡ others)
one_mode (Plain span) (Plain place) rest others same = let one : span ≡ place = cc in
    (ap Plain one, cc)
one_mode (Plain span) (Header place) rest others same =
    absurd (apart _ _ same (λ e. omega (arith, e)))
one_mode (Header span) (Plain place) rest others same =
    absurd (apart _ _ same (λ e. omega (arith, e)))
one_mode (Header span) (Header place) rest others same = let one : span ≡ place = cc in
    (ap Header one, cc)

-- kinds
one_kind : (a b : Kind) → kind_before a none ≡ kind_before b none → a ≡ b
one_kind (Int span) (Int place) same = let one : span ≡ place = cc in ap Int one
one_kind (Int span) (Text place) same = absurd (apart _ _ same (λ e. omega (arith, e)))
one_kind (Int span) (Fixed digits place) same = absurd (apart _ _ same (λ e. omega (arith, e)))
one_kind (Text span) (Int place) same = absurd (apart _ _ same (λ e. omega (arith, e)))
one_kind (Text span) (Text place) same = let one : span ≡ place = cc in ap Text one
one_kind (Text span) (Fixed digits place) same = absurd (apart _ _ same (λ e. omega (arith, e)))
one_kind (Fixed digits span) (Int place) same = absurd (apart _ _ same (λ e. omega (arith, e)))
one_kind (Fixed digits span) (Text place) same = absurd (apart _ _ same (λ e. omega (arith, e)))
one_kind (Fixed digits span) (Fixed other place) same =
    let call_is = same_call _ _ _ _ span place _ _ same in
    let inside : number (pos digits.count) digits.span none
    ≡ number (pos other.count) other.span none = call_is.inside in
    let count : digits.count ≡ other.count = cc in
    let at : digits.span ≡ other.span = cc in
    λ i. Fixed (record { count = count i; span = at i }) (call_is.span_is i)

-- columns
one_columns : (a b : List Column)
    → all_before column_before a none ≡ all_before column_before b none → a ≡ b
one_columns [] [] same = refl
one_columns [] (column ∷ columns) same = absurd (cc)
one_columns (column ∷ columns) [] same = absurd (cc)
one_columns (column ∷ columns) (other ∷ others) same =
    let call_is = same_call _ _ (name_before column.name (kind_before column.kind none))
    (name_before other.name (kind_before other.kind none))
    column.span other.span (all_before column_before columns none)
    (all_before column_before others none) same in
    let name = one_name column.name other.name (kind_before column.kind none)
    (kind_before other.kind none) call_is.inside in
    let kind = one_kind column.kind other.kind name.1 in
    let rest = one_columns columns others call_is.rest_is in
    λ i. record { name = name.0 i; kind = kind i; span = call_is.span_is i } ∷ rest i

-- lets and the main query
one_body : (a b : List Let) (main other : Main) → all_before let_before a (main_before main none)
    ≡ all_before let_before b (main_before other none) → (a ≡ b) × (main ≡ other)
one_body [] [] main other same =
    let call_is = same_call _ _ (query_before main.query none) (query_before other.query none)
    main.span other.span none none same in
    let query = one_query main.query other.query call_is.inside in
    (refl, λ i. record { query = query i; span = call_is.span_is i })
one_body [] (one ∷ lets) main other same = absurd (apart _ _ same (λ e. omega (arith, e)))
one_body (one ∷ lets) [] main other same = absurd (apart _ _ same (λ e. omega (arith, e)))
one_body (one ∷ lets) (two ∷ others) main other same =
    let call_is = same_call _ _ (name_before one.name (query_before one.query none))
    (name_before two.name (query_before two.query none)) one.span two.span
    (all_before let_before lets (main_before main none))
    (all_before let_before others (main_before other none)) same in
    let name = one_name one.name two.name (query_before one.query none)
    (query_before two.query none) call_is.inside in
    let query = one_query one.query two.query name.1 in
    let rest = one_body lets others main other call_is.rest_is in
    (λ i. record { name = name.0 i; query = query i; span = call_is.span_is i } ∷ rest.0 i, rest.1)

-- whole files
pub one_program : (a b : Program) → program_terms a ≡ program_terms b → a ≡ b
one_program a b same =
    let call_is = same_call _ _
    (mode_before a.stream.mode (all_before column_before a.stream.columns none))
    (mode_before b.stream.mode (all_before column_before b.stream.columns none))
    a.stream.span b.stream.span (all_before let_before a.lets (main_before a.main none))
    (all_before let_before b.lets (main_before b.main none)) same in
    let mode = one_mode a.stream.mode b.stream.mode (all_before column_before a.stream.columns none)
    (all_before column_before b.stream.columns none) call_is.inside in
    let columns = one_columns a.stream.columns b.stream.columns mode.1 in
    let body = one_body a.lets b.lets a.main b.main call_is.rest_is in
    λ i. record {
      stream = record { mode = mode.0 i; columns = columns i; span = call_is.span_is i };
      lets = body.0 i;
      main = body.1 i;
    }
