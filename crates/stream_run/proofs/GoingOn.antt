-- What is written after a word, and after more of it.
use Rattle.std.proofs.Common.{◌≡◌, ◌||◌, ℕ, Bool, true, false, cond, List, [], ◌∷◌, ◌++◌}
use Rattle.std.proofs.Common.{None, refl, sym, ap, ◌∙◌, append_assoc, append-nil}
use Rattle.std.specs.List.{flat_map}
use Rattle.io_edge.specs.Lines.{Shown, lines}
use Rattle.item_schema.specs.Layout.{Layout}
use Rattle.item_schema.specs.declared.column.Column.{Column}
use Rattle.rate_expr.specs.Words.{Word}
use Rattle.stream_run.specs.Meanings.{Meaning}
use Rattle.stream_run.specs.Output.{answer, answers, answers_after, body_of, is_header, item_in}
use Rattle.stream_run.specs.Output.{items_of, read_of, reply_to}
use Rattle.stream_run.specs.Resumed.{EndsLine, is_some_byte, items_after, layout_after}
use Rattle.stream_run.specs.Resumed.{meaning_after}
use Rattle.stream_run.specs.Sessions.{is_begun}
use Rattle.stream_run.proofs.Answering.{answers_after-append}
use Rattle.stream_run.proofs.CutLines.{begun-lines, lines-cut}
use Rattle.stream_run.specs.SessionLaws.{no_items}
use Rattle.stream_run.proofs.LineItems.{read_after}
use Rattle.stream_run.proofs.Sessions.{answer-is}

-- the parts of two lists, one after the other
flat_map-append : {A B : Type 0} (f : A → List B) (xs ys : List A)
    → flat_map f (xs ++ ys) ≡ flat_map f xs ++ flat_map f ys
flat_map-append f [] ys = refl
flat_map-append f (x ∷ xs) ys =
    ap (λ l. f x ++ l) (flat_map-append f xs ys)
    ∙ sym (append_assoc (f x) (flat_map f xs) (flat_map f ys))

-- the items of the first line and of more
first_items : (columns : List Column) (has_header : Bool) (first : Shown)
    (before more : List Shown)
    → flat_map (λ l. item_in (read_of columns l)) (body_of has_header ((first ∷ before) ++ more))
    ≡ flat_map (λ l. item_in (read_of columns l)) (body_of has_header (first ∷ before))
    ++ flat_map (λ l. item_in (read_of columns l)) more
first_items columns true first before more =
    flat_map-append (λ l. item_in (read_of columns l)) before more
first_items columns false first before more =
    flat_map-append (λ l. item_in (read_of columns l)) (first ∷ before) more

-- the items of lines, and then of those after them
pub items-append : (layout : Layout) (before more : List Shown)
    → items_of layout (before ++ more)
    ≡ items_of layout before ++ items_of (layout_after layout (is_begun before)) more
items-append layout [] more =
    ap (λ (items : Word). items ++ items_of layout more) (sym (no_items layout))
items-append layout (first ∷ before) more =
    first_items layout.columns layout.has_header first before more

-- whether a line is the header, after lines and then more
header-append : (layout : Layout) (before done : List Shown)
    → is_header layout (before ++ done) ≡ is_header (layout_after layout (is_begun before)) done
header-append layout [] done = refl
header-append layout (first ∷ before) [] = refl
header-append layout (first ∷ before) (line ∷ done) = refl

-- the answers after some lines are those of what the query means after their items
pub answers-resumed : (meaning : Meaning) (before done lines : List Shown)
    → answers_after meaning (before ++ done) lines
    ≡ answers_after
    (meaning_after meaning (items_of meaning.layout before) (is_begun before)) done lines
answers-resumed meaning before done [] = refl
answers-resumed meaning before done (line ∷ lines) =
    let layout = meaning.layout in
    let items = items_of layout before in
    let resumed = meaning_after meaning items (is_begun before) in
    let all = append_assoc before done (line ∷ []) in
    let here : answer meaning (before ++ done) line ≡ answer resumed done line =
    answer-is meaning (before ++ done) line
    ∙ ap (λ (b : Bool). reply_to (cond b None (read_of layout.columns line))
    (meaning.value (items_of layout ((before ++ done) ++ line ∷ []))))
    (header-append layout before done)
    ∙ ap (λ (w : Word). reply_to (read_after resumed.layout done line) (meaning.value w))
    (ap (λ (l : List Shown). items_of layout l) all ∙ items-append layout before (done ++ line ∷ []))
    ∙ sym (answer-is resumed done line) in
    ap (λ (l : List ℕ). l ++ answers_after meaning ((before ++ done) ++ line ∷ []) lines) here
    ∙ ap (λ (l : List Shown). answer resumed done line ++ answers_after meaning l lines) all
    ∙ ap (λ (l : List ℕ). answer resumed done line ++ l)
    (answers-resumed meaning before (done ++ line ∷ []) lines)

-- after a line and another, a line has come
layout_twice : (layout : Layout) (began begun : Bool)
    → layout_after (layout_after layout began) begun ≡ layout_after layout (began || begun)
layout_twice layout true true = refl
layout_twice layout true false = refl
layout_twice layout false begun = refl

-- what a query means after a word and then another is what it means after both
meaning_twice : (meaning : Meaning) (word more : Word) (began begun : Bool)
    → meaning_after (meaning_after meaning word began) more begun
    ≡ meaning_after meaning (word ++ more) (began || begun)
meaning_twice meaning word more began begun i = record {
  layout = layout_twice meaning.layout began begun i;
  value = λ w. meaning.value (sym (append_assoc word more w) i);
}

module _ (first others : List ℕ) (cut : EndsLine first) where
  -- what is written for bytes, and for those after the cut
  pub output-cut : (meaning : Meaning) (word : Word) (began ended : Bool)
      → answers (meaning_after meaning word began) (lines (first ++ others) ended)
      ≡ answers (meaning_after meaning word began) (lines first true)
      ++ answers (meaning_after meaning (word ++ items_after meaning.layout began first)
      (began || is_some_byte first)) (lines others ended)
  output-cut meaning word began ended =
      let here = meaning_after meaning word began in
      let shown = lines first true in
      let more = lines others ended in
      let items = items_of here.layout shown in
      ap (answers here) (lines-cut first others ended cut)
      ∙ answers_after-append here [] shown more
      ∙ ap (λ (l : List ℕ). answers here shown ++ l)
      (ap (λ (l : List Shown). answers_after here l more) (sym (append-nil shown))
      ∙ answers-resumed here shown [] more
      ∙ ap (λ (m : Meaning). answers m more) (meaning_twice meaning word items began (is_begun shown))
      ∙ ap (λ (b : Bool). answers (meaning_after meaning (word ++ items) (began || b)) more)
      (begun-lines first))

  -- and their items
  pub items-cut : (layout : Layout) (began : Bool)
      → items_after layout began (first ++ others)
      ≡ items_after layout began first
      ++ items_after layout (began || is_some_byte first) others
  items-cut layout began =
      let here = layout_after layout began in
      let items = items_of here (lines first true) in
      ap (λ (l : List Shown). items_of here l) (lines-cut first others true cut)
      ∙ items-append here (lines first true) (lines others true)
      ∙ ap (λ (b : Bool). items ++ items_of (layout_after here b) (lines others true))
      (begun-lines first)
      ∙ ap (λ (l : Layout). items ++ items_of l (lines others true))
      (layout_twice layout began (is_some_byte first))
