-- The items of lines, and which line is the header.
use Rattle.std.proofs.Common.{◌≡◌, ◌&&◌, ◌||◌, not, Bool, true, false, cond, List, [], ◌∷◌, ◌++◌}
use Rattle.std.proofs.Common.{Option, None, Result, refl, ap, sym, ◌∙◌, append_assoc, append-nil}
use Rattle.std.specs.List.{flat_map}
use Rattle.io_edge.specs.Lines.{Shown}
use Rattle.value_ops.specs.declared.field.Field.{Field}
use Rattle.item_schema.specs.Layout.{Layout}
use Rattle.item_schema.specs.declared.column.Column.{Column}
use Rattle.line_reader.specs.declared.stop.Skip.{Skip}
use Rattle.rate_expr.specs.Words.{Word, IsWordOf}
use Rattle.stream_run.specs.Output.{body_of, is_header, item_in, items_of, read_of}
use Rattle.stream_run.specs.Resumed.{layout_after}
use Rattle.stream_run.specs.Sessions.{is_begun}

-- the parts of one list and then those of one more
pub flat_map-push : {A B : Type 0} (f : A → List B) (xs : List A) (x : A)
    → flat_map f (xs ++ x ∷ []) ≡ flat_map f xs ++ f x
flat_map-push f [] x = append-nil (f x)
flat_map-push f (y ∷ xs) x =
    ap (λ l. f y ++ l) (flat_map-push f xs x) ∙ sym (append_assoc (f y) (flat_map f xs) (f x))

-- what a line after these gives; the header gives nothing
abbrev pub read_after : Layout → List Shown → Shown → Option (Result (List Field) Skip)
read_after layout before line = cond (is_header layout before) None (read_of layout.columns line)

-- the first line of all gives no item where it is the header
first_line : (columns : List Column) (has_header : Bool) (line : Shown)
    → flat_map (λ l. item_in (read_of columns l)) (body_of has_header ([] ++ line ∷ []))
    ≡ flat_map (λ l. item_in (read_of columns l)) (body_of has_header [])
    ++ item_in (cond has_header None (read_of columns line))
first_line columns true line = refl
first_line columns false line = append-nil (item_in (read_of columns line))

-- each later one is after it
later_line : (columns : List Column) (has_header : Bool) (first : Shown)
    (before : List Shown) (line : Shown) → flat_map (λ l. item_in (read_of columns l))
    (body_of has_header ((first ∷ before) ++ line ∷ []))
    ≡ flat_map (λ l. item_in (read_of columns l)) (body_of has_header (first ∷ before))
    ++ item_in (read_of columns line)
later_line columns true first before line =
    flat_map-push (λ l. item_in (read_of columns l)) before line
later_line columns false first before line =
    flat_map-push (λ l. item_in (read_of columns l)) (first ∷ before) line

-- the items of one line more
pub items-push : (layout : Layout) (before : List Shown) (line : Shown)
    → items_of layout (before ++ line ∷ [])
    ≡ items_of layout before ++ item_in (read_after layout before line)
items-push layout [] line = first_line layout.columns layout.has_header line
items-push layout (first ∷ before) line =
    later_line layout.columns layout.has_header first before line

and-true : (b : Bool) → (b && true) ≡ b
and-true true = refl
and-true false = refl

and-false : (b : Bool) → (b && false) ≡ false
and-false true = refl
and-false false = refl

-- some line has come after another
pub is_begun-push : (before : List Shown) (line : Shown) → is_begun (before ++ line ∷ []) ≡ true
is_begun-push [] line = refl
is_begun-push (first ∷ before) line = refl

-- whether the line is the header
pub header_next : (layout : Layout) (began : Bool) (before : List Shown)
    → (layout.has_header && not (began || is_begun before))
    ≡ is_header (layout_after layout began) before
header_next layout true [] = and-false layout.has_header
header_next layout false [] = and-true layout.has_header
header_next layout true (line ∷ before) = and-false layout.has_header
header_next layout false (line ∷ before) = and-false layout.has_header

-- some line has come
pub begun_next : (began : Bool) (before : List Shown) (line : Shown)
    → (began || is_begun (before ++ line ∷ [])) ≡ true
begun_next true before line = refl
begun_next false before line = is_begun-push before line

-- words one after the other
pub word_joined : (columns : List Column) (u v : Word) → IsWordOf columns u → IsWordOf columns v
    → IsWordOf columns (u ++ v)
word_joined columns [] v is others = others
word_joined columns (item ∷ u) v is others = (is.0, word_joined columns u v is.1 others)
