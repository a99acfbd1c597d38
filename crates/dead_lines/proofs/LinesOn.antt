-- What one more line leaves possible.
use Rattle.std.proofs.Common.{◌≡◌, ◌∙◌, ◌+◌, ◌==◌, ℕ, Bool, false, cond, List, [], ◌∷◌, ◌++◌}
use Rattle.std.proofs.Common.{None, Some, Result, Ok, Err, IfOk, length, refl, sym, ap}
use Rattle.std.proofs.Common.{subst, inl, inr, append-nil, append_assoc, ◌⊎◌}
use Rattle.io_edge.specs.Lines.{Shown, text}
use Rattle.value_ops.specs.declared.field.Field.{Field}
use Rattle.item_schema.specs.Items.{IsItemOf}
use Rattle.line_reader.specs.Reading.{item_of}
use Rattle.line_reader.specs.declared.stop.Skip.{Skip}
use Rattle.rate_expr.specs.After.{IsAfter}
use Rattle.rate_expr.specs.Words.{Word, IsWordOf}
use Rattle.rate_expr.specs.declared.state.State.{State}
use Rattle.rate_expr.specs.declared.state.State.TheVariants.{Initial}
use Rattle.rate_expr.proofs.Wording.{word_more}
use Rattle.stream_run.specs.Endings.{Begins}
use Rattle.stream_run.specs.Output.{is_header, item_in, read_of}
use Rattle.stream_run.specs.SessionLaws.{no_items}
use Rattle.stream_run.proofs.LineItems.{items-push, read_after}
use Rattle.symbolic_nfa.specs.Automata.{Automaton}
use Rattle.symbolic_nfa.specs.States.{Extends, Steps}
use Rattle.symbolic_nfa.proofs.WordsAfter.{is_after-step}
use Rattle.dead_words.specs.Searched.{ExtendsAfter}
use Rattle.dead_lines.specs.Courses.{IsAlive, IsCourse, IsCourseFrom, items_in}
use Rattle.dead_lines.specs.DeadLines.{at_line, at_start}
use Rattle.dead_lines.specs.declared.course.Course.{Course}
use Rattle.dead_lines.specs.declared.course.Course.TheVariants.{Alive, Dead}
use Rattle.dead_lines.specs.declared.course.DeadLine.{DeadLine}

-- what begins a list with one element more begins the list, or is all of it
pub begins_more : (some before : List Shown) (line : Shown) → Begins some (before ++ line ∷ [])
    → Begins some before ⊎ (some ≡ before ++ line ∷ [])
begins_more [] before line begins = inl (before, refl)
begins_more (first ∷ some) [] line (others, is) = inr (one some others (cc))
  where
    one : (xs ys : List Shown) → line ∷ [] ≡ first ∷ (xs ++ ys) → first ∷ xs ≡ line ∷ []
    one [] ys same = cc
    one (x ∷ xs) ys same = absurd (cc)
begins_more (first ∷ some) (x ∷ before) line (others, is) =
    let heads : x ≡ first = cc in
    let tails : before ++ line ∷ [] ≡ some ++ others = cc in
    elim (begins_more some before line (others, tails)) [
      | inl (rest, same) ↦ inl (rest, cc)
      | inr same ↦ inr (cc)
    ]

module _ (nfa : Automaton) where
  -- what a line adds to the items of those before it
  module _ (before : List Shown) (line : Shown) where
    unread : item_in (read_after nfa.cells.layout before line) ≡ []
        → items_in nfa (before ++ line ∷ []) ≡ items_in nfa before
    unread none =
        items-push nfa.cells.layout before line ∙ ap (λ (w : Word). items_in nfa before ++ w) none
        ∙ append-nil (items_in nfa before)

    -- a line that is no item changes nothing
    pub alive_still : (state : State) → item_in (read_after nfa.cells.layout before line) ≡ []
        → IsAlive nfa before state → IsAlive nfa (before ++ line ∷ []) state
    alive_still state none alive =
        let same = sym (unread none) in
        let here = subst (λ (w : Word). ExtendsAfter nfa w) same
        (alive.extends before ([], sym (append-nil before))) in
        record {
          items = subst (IsWordOf nfa.cells.layout.columns) same alive.items;
          after = subst (λ (w : Word). IsAfter nfa.sets w state) same alive.after;
          extends = λ some begins. elim (begins_more some before line begins) [
            | inl front ↦ alive.extends some front
            | inr all ↦ subst (λ (s : List Shown). ExtendsAfter nfa (items_in nfa s)) (sym all) here
          ];
        }

    -- what was dead still is
    pub dead_still : (dead : DeadLine) → IsCourse nfa before (Dead dead)
        → IsCourse nfa (before ++ line ∷ []) (Dead dead)
    dead_still dead (at_start is_zero none ends) = at_start is_zero none ends
    dead_still dead (at_line front others is number ends goes) =
        at_line front (others ++ line ∷ [])
        (ap (λ (l : List Shown). l ++ line ∷ []) is
        ∙ append_assoc front (text dead.line ∷ others) (line ∷ []))
        number ends goes

    pub still_dead : (course : Course) (dead : DeadLine) → course ≡ Dead dead
        → IsCourse nfa before course → IsCourse nfa (before ++ line ∷ []) course
    still_dead course dead same is =
        subst (λ (c : Course). IsCourse nfa (before ++ line ∷ []) c) (sym same)
        (dead_still dead (subst (λ (c : Course). IsCourse nfa before c) same is))

    -- so it is of whatever the lines leave possible
    pub course_still : (course : Course) → item_in (read_after nfa.cells.layout before line) ≡ []
        → IsCourse nfa before course → IsCourse nfa (before ++ line ∷ []) course
    course_still (Alive state) none is = alive_still state none is
    course_still (Dead dead) none is = dead_still dead is

  -- one more item
  module _ (before : List Shown) (line : List ℕ) (item : List Field) (state : State)
      (is_item : IsItemOf nfa.cells.layout.columns item)
      (read : item_in (read_after nfa.cells.layout before (text line)) ≡ item ∷ [])
      (alive : IsAlive nfa before state) where
    items : items_in nfa (before ++ text line ∷ []) ≡ items_in nfa before ++ item ∷ []
    items = items-push nfa.cells.layout before (text line)
        ∙ ap (λ (w : Word). items_in nfa before ++ w) read

    word : IsWordOf nfa.cells.layout.columns (items_in nfa (before ++ text line ∷ []))
    word = subst (IsWordOf nfa.cells.layout.columns) (sym items)
        (word_more nfa.cells.layout.columns (items_in nfa before) item alive.items is_item)

    state_next : (next : State) → Steps nfa.sets state item next
        → IsAfter nfa.sets (items_in nfa (before ++ text line ∷ [])) next
    state_next next steps = subst (λ (w : Word). IsAfter nfa.sets w next) (sym items)
        (is_after-step nfa.sets (items_in nfa before) state next item alive.after steps)

    alive_next : (next : State) → Steps nfa.sets state item next → Extends nfa next
        → IsAlive nfa (before ++ text line ∷ []) next
    alive_next next steps extends = record {
      items = word;
      after = state_next next steps;
      extends = λ some begins. elim (begins_more some before (text line) begins) [
        | inl front ↦ alive.extends some front
        | inr all ↦ subst (λ (s : List Shown). ExtendsAfter nfa (items_in nfa s)) (sym all)
            (next, state_next next steps, extends)
      ];
    }

    dead_next : (number : ℕ) → number ≡ length before + 1 → (next : State)
        → Steps nfa.sets state item next → (Extends nfa next → ⊥)
        → IsCourse nfa (before ++ text line ∷ []) (Dead (record { number = number; line = line }))
    dead_next number is next steps dead =
        at_line before [] refl is (record {
          items = word;
          state = next;
          after = state_next next steps;
          dead = dead;
        }) alive.extends

    pub course_next : (number : ℕ) → number ≡ length before + 1 → (course : Course)
        → IsCourseFrom nfa state item number line course
        → IsCourse nfa (before ++ text line ∷ []) course
    course_next number is (Alive next) (steps, extends) = alive_next next steps extends
    course_next number is (Dead dead) (number_is, line_is, next, steps, ends) =
        subst (λ (l : List ℕ). IsCourse nfa (before ++ text line ∷ [])
        (Dead (record { number = dead.number; line = l }))) (sym line_is)
        (subst (λ (n : ℕ). IsCourse nfa (before ++ text line ∷ [])
        (Dead (record { number = n; line = line }))) (sym number_is)
        (dead_next number is next steps ends))

-- what is read of a line that is not the header
module _ (nfa : Automaton) (before : List Shown) (line : List ℕ)
    (after_header : is_header nfa.cells.layout before ≡ false) where
  read_then : read_after nfa.cells.layout before (text line)
      ≡ read_of nfa.cells.layout.columns (text line)
  read_then = ap (λ (b : Bool). cond b None (read_of nfa.cells.layout.columns (text line)))
      after_header

  read_some : (length line == 0) ≡ false
      → read_of nfa.cells.layout.columns (text line)
      ≡ Some (item_of nfa.cells.layout.columns line)
  read_some some = at line some
    where
      at : (l : List ℕ) → (length l == 0) ≡ false
          → read_of nfa.cells.layout.columns (text l)
          ≡ Some (item_of nfa.cells.layout.columns l)
      at [] none = absurd (cc)
      at (byte ∷ bytes) none = refl

  -- an item
  pub reads_item : (item : List Field) → (length line == 0) ≡ false
      → item_of nfa.cells.layout.columns line ≡ Ok item
      → item_in (read_after nfa.cells.layout before (text line)) ≡ item ∷ []
  reads_item item some is = ap item_in (read_then ∙ read_some some ∙ ap Some is)

  -- a line that is skipped
  pub reads_skip : (why : Skip) → (length line == 0) ≡ false
      → item_of nfa.cells.layout.columns line ≡ Err why
      → item_in (read_after nfa.cells.layout before (text line)) ≡ []
  reads_skip why some is = ap item_in (read_then ∙ read_some some ∙ ap Some is)

  -- an empty line
  pub reads_empty : line ≡ [] → item_in (read_after nfa.cells.layout before (text line)) ≡ []
  reads_empty none = ap item_in (read_then
      ∙ ap (λ (l : List ℕ). read_of nfa.cells.layout.columns (text l)) none)

module _ (nfa : Automaton) where
  -- no lines have no items
  none : items_in nfa [] ≡ []
  none = no_items nfa.cells.layout

  begins_none : (some : List Shown) → Begins some [] → some ≡ []
  begins_none [] begins = refl
  begins_none (line ∷ some) (others, is) = absurd (cc)

  first_items : IsWordOf nfa.cells.layout.columns (items_in nfa [])
  first_items = subst (IsWordOf nfa.cells.layout.columns) (sym none) tt

  first_state : IsAfter nfa.sets (items_in nfa []) Initial
  first_state = subst (λ (w : Word). IsAfter nfa.sets w Initial) (sym none) tt

  -- before the first line
  pub alive_first : Extends nfa Initial → IsCourse nfa [] (Alive Initial)
  alive_first extends = record {
    items = first_items;
    after = first_state;
    extends = λ some begins.
        subst (λ (s : List Shown). ExtendsAfter nfa (items_in nfa s))
        (sym (begins_none some begins)) (Initial, first_state, extends);
  }

  pub dead_first : (line : List ℕ) → line ≡ [] → (Extends nfa Initial → ⊥)
      → IsCourse nfa [] (Dead (record { number = 0; line = line }))
  dead_first line is dead =
      at_start refl is
      (record { items = first_items; state = Initial; after = first_state; dead = dead })

  -- after a line that is read to an item
  pub course_of_item : {E : Type 0} (result : Result Course E) (line : List ℕ) (item : List Field)
      (state : State) (number : ℕ) → IsItemOf nfa.cells.layout.columns item
      → (length line == 0) ≡ false → item_of nfa.cells.layout.columns line ≡ Ok item
      → IfOk result (IsCourseFrom nfa state item number line)
      → IfOk result (λ course. (before : List Shown) → is_header nfa.cells.layout before ≡ false
      → number ≡ length before + 1 → IsAlive nfa before state
      → IsCourse nfa (before ++ text line ∷ []) course)
  course_of_item (Ok course) line item state number is_item some read from =
      λ before header is alive. course_next nfa before line item state is_item
      (reads_item nfa before line header item some read) alive number is course from
  course_of_item (Err error) line item state number is_item some read from = tt
