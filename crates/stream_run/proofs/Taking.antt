-- A session takes the lines of a drill.
use Rattle.std.proofs.Common.{◌≡◌, ℕ, ◌+◌, ◌-◌, ◌<◌, Bool, true, false, if◌then◌else◌, List, []}
use Rattle.std.proofs.Common.{◌∷◌, ◌++◌, length, codes, map, take, Option, Result, Ok, Err, OnOk}
use Rattle.std.proofs.Common.{refl, sym, ap, subst, ◌∙◌, append-nil, length-append, arith}
use Rattle.std.proofs.Math.Seq.{take-append_seam}
use Rattle.std.specs.declared.alloc.AllocError.{AllocError}
use Rattle.std.specs.List.{flat_map}
use Rattle.io_edge.specs.Lines.{Shown, ended_by_lf, text}
use Rattle.value_ops.specs.declared.value.Value.{Value}
use Rattle.item_schema.specs.Layout.{Layout}
use Rattle.item_drill.specs.Lines.{bytes_of, header_of, names_of, row_of}
use Rattle.rate_expr.specs.Words.{Word, IsWordOf}
use Rattle.query_model.specs.Checked.{CheckedQuery}
use Rattle.query_model.specs.Following.{IsAnswer}
use Rattle.query_model.specs.Monitors.{monitor_of}
use Rattle.query_model.specs.Queries.{Qre, plain_of}
use Rattle.query_model.specs.Rules.{free, IsClear}
use Rattle.stream_run.specs.Drilling.{drilled_lines}
use Rattle.stream_run.specs.Meanings.{IsMeaning, Meaning}
use Rattle.stream_run.specs.Output.{body_of, item_in, items_of, read_of, value_after}
use Rattle.stream_run.specs.Sessions.{IsAfter, Takes, first_origin}
use Rattle.stream_run.specs.declared.session.Session.{Session}
use Rattle.stream_run.proofs.OneAnswer.{one_answer}

-- the bytes of one line, without its LF
pub without_lf : (line shown : List ℕ) → line ≡ bytes_of (shown ∷ [])
    → (0 < length line) × (take (length line - 1) line ≡ shown)
without_lf line shown is = rw is (at (shown ++ codes "\n" ++ []) refl)
  where
    at : (bytes : List ℕ) → bytes ≡ shown ++ codes "\n" ++ []
        → (0 < length bytes) × (take (length bytes - 1) bytes ≡ shown)
    at bytes same =
        let ended : bytes ≡ shown ++ codes "\n" = same ∙ append-nil (shown ++ codes "\n") in
        let long : length bytes ≡ length shown + 1 =
        ap length ended ∙ length-append shown (codes "\n") in
        let short : length bytes - 1 ≡ length shown = omega (arith, long) in
        (omega (arith, long), rw (short, ended) (take-append_seam shown (codes "\n")))

-- what was taken of bytes was taken of the line that they are
pub takes_line : {F : Type 0} (follows : F → Word → Type 0) (bytes shown : List ℕ)
    (old new : Session F) → bytes ≡ shown → Takes follows (text bytes) old new
    → Takes follows (text shown) old new
takes_line follows bytes shown old new same took =
    subst (λ (b : List ℕ). Takes follows (text b) old new) same took

module _ {F : Type 0} (follows : F → Word → Type 0) (on : CheckedQuery) (first : F)
    (session : Session F) (seed : ℕ) where
  -- whichever line is the header, no item comes of it
  no_item : (line : Shown) → on.layout.has_header ≡ true → items_of on.layout (line ∷ []) ≡ []
  no_item line is =
      ap (λ (h : Bool). flat_map (λ l. item_in (read_of on.layout.columns l))
      (body_of h (line ∷ []))) is

  pub other_header : (line other : Shown) → on.layout.has_header ≡ true
      → IsAfter follows (first_origin on first) (line ∷ []) session
      → IsAfter follows (first_origin on first) (other ∷ []) session
  other_header line other is holds_after =
      let same : items_of on.layout (line ∷ []) ≡ items_of on.layout (other ∷ []) =
      no_item line is ∙ sym (no_item other is) in
      record {
        same = holds_after.same;
        is_word = subst (IsWordOf on.layout.columns) same holds_after.is_word;
        carries = λ word followed. subst (λ (w : Word). follows session.follower (word ++ w)) same
            (holds_after.carries word followed);
        began_is = holds_after.began_is;
      }

  -- the lines of a drill begin with the header
  pub begins_with_header : on.layout.has_header ≡ true
      → drilled_lines on.layout 0 seed ≡ ended_by_lf (row_of (names_of on.layout.columns)) ∷ []
  begins_with_header is = ap (λ (h : Bool).
      map ended_by_lf (if h then row_of (names_of on.layout.columns) ∷ [] else []) ++ []) is

  -- or with no line
  pub begins_with_none : on.layout.has_header ≡ false → drilled_lines on.layout 0 seed ≡ []
  begins_with_none is = ap (λ (h : Bool).
      map ended_by_lf (if h then row_of (names_of on.layout.columns) ∷ [] else []) ++ []) is

-- the header was taken
pub header_taken : {F : Type 0} (follows : F → Word → Type 0) (on : CheckedQuery) (seed : ℕ)
    (old new : Session F) (bytes : List ℕ) (layout : Layout) → on.layout.has_header ≡ true
    → layout ≡ on.layout → bytes ≡ bytes_of (header_of layout)
    → (result : Result (Unit {0}) AllocError)
    → OnOk result
    ((shown : List ℕ) → bytes ≡ bytes_of (shown ∷ []) → Takes follows (text shown) old new)
    → OnOk result ((first : F) → IsAfter follows (first_origin on first) [] old
    → IsAfter follows (first_origin on first) (drilled_lines on.layout 0 seed) new)
header_taken follows on seed old new bytes layout has same are (Err error) took = tt
header_taken follows on seed old new bytes layout has same are (Ok done) took =
    λ first holds_after. subst (λ (lines : List Shown).
    IsAfter follows (first_origin on first) lines new)
    (sym (begins_with_header follows on first new seed has))
    (other_header follows on first new seed (text row) (ended_by_lf row) has
    (took row line (first_origin on first) [] holds_after))
  where
    row : List ℕ
    row = row_of (names_of on.layout.columns)

    line : bytes ≡ bytes_of (row ∷ [])
    line = are ∙ ap (λ (l : Layout). bytes_of (header_of l)) same
        ∙ ap (λ (h : Bool). bytes_of (if h then row_of (names_of on.layout.columns) ∷ [] else []))
        has

-- there was none
pub none_taken : {F : Type 0} (follows : F → Word → Type 0) (on : CheckedQuery) (seed : ℕ)
    (session : Session F) → on.layout.has_header ≡ false → (first : F)
    → IsAfter follows (first_origin on first) [] session
    → IsAfter follows (first_origin on first) (drilled_lines on.layout 0 seed) session
none_taken follows on seed session none first holds_after =
    subst (λ (lines : List Shown). IsAfter follows (first_origin on first) lines session)
    (sym (begins_with_none follows on first session seed none)) holds_after

-- the next line was taken
pub next_taken : {F : Type 0} (follows : F → Word → Type 0) (old new : Session F)
    (bytes shown : List ℕ) → bytes ≡ bytes_of (shown ∷ []) → (result : Result (Unit {0}) AllocError)
    → OnOk result
    ((shown : List ℕ) → bytes ≡ bytes_of (shown ∷ []) → Takes follows (text shown) old new)
    → OnOk result (Takes follows (text shown) old new)
next_taken follows old new bytes shown are (Ok done) took = took shown are
next_taken follows old new bytes shown are (Err error) took = tt

-- the answer after lines is the value after them
pub answer_after : {F : Type 0} (follows : F → Word → Type 0) (query : F → Qre) (on : CheckedQuery)
    (first : F) (shown : List Shown) (session : Session F) (answer : Option Value)
    → IsClear free on.layout.columns (plain_of on.main.shape)
    → follows first [] → IsAfter follows (first_origin on first) shown session
    → query session.follower ≡ plain_of session.checked.now.main.shape
    → ((word : Word) → follows session.follower word
    → IsAnswer (query session.follower) word answer)
    → (meaning : Meaning) → IsMeaning (monitor_of on) meaning → answer ≡ value_after meaning shown
answer_after follows query on first shown session answer clear none holds_after query_is
    answers meaning means =
    let items = items_of on.layout shown in
    let asked : query session.follower ≡ plain_of on.main.shape =
    query_is ∙ ap (λ (o : CheckedQuery). plain_of o.main.shape) holds_after.same
    in
    one_answer free on.layout.columns (plain_of on.main.shape) items answer (meaning.value items)
    clear holds_after.is_word
    (subst (λ (q : Qre). IsAnswer q items answer) asked
    (answers items (holds_after.carries [] none)))
    (means.value items holds_after.is_word)
    ∙ ap (λ (l : Layout). meaning.value (items_of l shown)) (sym means.layout)
