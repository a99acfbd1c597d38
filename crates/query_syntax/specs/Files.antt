-- Statement. The terms that a whole file is written as.
use Rattle.std.specs.Prelude.{pos, List, [], ◌∷◌, codes}
use Rattle.query_forms.specs.Terms.{Terms, none, word, number, call}
use Rattle.query_syntax.specs.declared.stream.Mode.{Mode}
use Rattle.query_syntax.specs.declared.stream.Mode.TheVariants.{Plain, Header}
use Rattle.query_syntax.specs.declared.stream.Column.{Column}
use Rattle.query_syntax.specs.declared.stream.Digits.{Digits}
use Rattle.query_syntax.specs.declared.stream.Kind.{Kind}
use Rattle.query_syntax.specs.declared.stream.Kind.TheVariants.{Int, Text, Fixed}
use Rattle.query_syntax.specs.Programs.{Stream, Let, Main, Program}
use Rattle.query_syntax.specs.Written.{name_before, query_before}

-- several, one after the other, before other terms
abbrev pub all_before : {X : Type 0} → (X → Terms → Terms) → List X → Terms → Terms
all_before before [] rest = rest
all_before before (first ∷ others) rest = before first (all_before before others rest)

-- a mode before other terms
abbrev pub mode_before : Mode → Terms → Terms
mode_before (Plain span) rest = word (codes "plain") span rest
mode_before (Header span) rest = word (codes "header") span rest

-- a number of digits before other terms
abbrev pub digits_before : Digits → Terms → Terms
digits_before digits rest = number (pos digits.count) digits.span rest

-- a kind of a column before other terms
abbrev pub kind_before : Kind → Terms → Terms
kind_before (Int span) rest = word (codes "int") span rest
kind_before (Text span) rest = word (codes "text") span rest
kind_before (Fixed digits span) rest = call (codes "fixed") (digits_before digits none) span rest

-- a column before other terms
abbrev pub column_before : Column → Terms → Terms
column_before column rest =
    call (codes "col") (name_before column.name (kind_before column.kind none)) column.span rest

-- a stream before other terms
abbrev pub stream_before : Stream → Terms → Terms
stream_before stream rest = call (codes "stream")
    (mode_before stream.mode (all_before column_before stream.columns none)) stream.span rest

-- a let before other terms
abbrev pub let_before : Let → Terms → Terms
let_before one rest =
    call (codes "let") (name_before one.name (query_before one.query none)) one.span rest

-- the main query before other terms
abbrev pub main_before : Main → Terms → Terms
main_before main rest = call (codes "main") (query_before main.query none) main.span rest

-- a whole file
abbrev pub program_terms : Program → Terms
program_terms program =
    stream_before program.stream
    (all_before let_before program.lets (main_before program.main none))
