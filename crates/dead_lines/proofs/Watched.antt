-- What is kept after one more line.
use Rattle.std.proofs.Common.{◌≡◌, ◌∙◌, ◌⊎◌, ◌+◌, ◌-◌, ◌<◌, ◌^◌, ◌==◌, ◌&&◌, ℕ, Bool}
use Rattle.std.proofs.Common.{true, false, cond, List, [], ◌∷◌, ◌++◌, None, length, length-append}
use Rattle.std.proofs.Common.{refl, sym, ap, subst, inl, inr, append_assoc, arith, min}
use Rattle.std.proofs.Math.Nat.{min-eq_left, min-eq_right}
use Rattle.std.proofs.lemmas.Bool.{cases_lt, eqb-true}
use Rattle.io_edge.specs.Lines.{Shown, long}
use Rattle.item_schema.specs.Layout.{Layout}
use Rattle.stream_run.specs.Output.{is_header, item_in, read_of}
use Rattle.stream_run.specs.Replying.{Replies}
use Rattle.stream_run.proofs.LineItems.{read_after}
use Rattle.symbolic_nfa.specs.Automata.{Automaton}
use Rattle.dead_lines.specs.Courses.{IsCourse}
use Rattle.dead_lines.specs.Watching.{TakesLine, Watches, WatchesOn, awaits_header}
use Rattle.dead_lines.specs.declared.course.Course.{Course}
use Rattle.dead_lines.specs.declared.watch.Watch.{Watch}
use Rattle.dead_lines.proofs.LinesOn.{course_still}

-- there is one line more
length_more : (before : List Shown) (line : Shown)
    → length (before ++ line ∷ []) ≡ length before + 1
length_more before line = length-append before (line ∷ [])

-- so many lines are counted while there is room for more
pub counted : (count : ℕ) (before : List Shown)
    → (count ≡ length before) ⊎ (count ≡ 2 ^ 64 - 1) → count < 2 ^ 62 + 2 ^ 63
    → count ≡ length before
counted count before (inl is) room = is
counted count before (inr most) room = absurd (omega (arith, most, room))

-- one more is counted
count_more : (count : ℕ) (before : List Shown) (line : Shown) → count ≡ length before
    → count + 1 ≡ length (before ++ line ∷ [])
count_more count before line is = omega (arith, is, length_more before line)

-- and so it is of a line that is too long, up to the greatest count
pub long_count : (count next : ℕ) (before : List Shown) (line : Shown)
    → (count ≡ length before) ⊎ (count ≡ 2 ^ 64 - 1) → next ≡ min (count + 1) (2 ^ 64 - 1)
    → (next ≡ length (before ++ line ∷ [])) ⊎ (next ≡ 2 ^ 64 - 1)
long_count count next before line old is = elim (cases_lt (2 ^ 64 - 1) (count + 1)) [
  | inl over ↦ inr (is ∙ min-eq_right (omega (arith, over)))
  | inr within ↦ elim old [
    | inl all ↦ inl (is ∙ min-eq_left within ∙ count_more count before line all)
    | inr most ↦ absurd (omega (arith, most, within))
  ]
]

-- the header is the first line
pub first_is_header : (layout : Layout) (before : List Shown) (count : ℕ) → count ≡ length before
    → ((count == 0) && layout.has_header) ≡ is_header layout before
first_is_header layout [] count is = ap (λ (n : ℕ). (n == 0) && layout.has_header) is
first_is_header layout (line ∷ before) count is = at (count == 0) refl
  where
    at : (b : Bool) → (count == 0) ≡ b → (b && layout.has_header) ≡ false
    at true first = absurd (let none = eqb-true count 0 first in omega (arith, is))
    at false later = refl

pub header_is : (watch : Watch) (nfa : Automaton) (before : List Shown)
    → watch.nfa.now ≡ nfa → watch.lines ≡ length before
    → is_header nfa.cells.layout before ≡ awaits_header watch
header_is watch nfa before same count =
    sym (first_is_header nfa.cells.layout before watch.lines count)
    ∙ ap (λ (n : Automaton). (watch.lines == 0) && n.cells.layout.has_header) (sym same)

-- of the header nothing is read
pub header_unread : (layout : Layout) (before : List Shown) (line : Shown)
    → is_header layout before ≡ true → item_in (read_after layout before line) ≡ []
header_unread layout before line is =
    ap (λ (b : Bool). item_in (cond b None (read_of layout.columns line))) is

-- nor of a line that is too long
pub long_unread : (layout : Layout) (before : List Shown)
    → item_in (read_after layout before long) ≡ []
long_unread layout before = at (is_header layout before)
  where
    at : (b : Bool) → item_in (cond b None (read_of layout.columns long)) ≡ []
    at true = refl
    at false = refl

module _ (old new : Watch) (same : new.nfa ≡ old.nfa) where
  -- one more line with what it leaves possible
  pub takes_line : (line : Shown) → old.lines < 2 ^ 62 + 2 ^ 63 → new.lines ≡ old.lines + 1
      → ((nfa : Automaton) (before : List Shown) → old.nfa.now ≡ nfa → old.lines ≡ length before
      → IsCourse nfa before old.course → IsCourse nfa (before ++ line ∷ []) new.course)
      → TakesLine line old new
  takes_line line room more so nfa before watches =
      let is = counted old.lines before watches.count room in
      record {
        nfa_is = ap (λ n. n.now) same ∙ watches.nfa_is;
        count = inl (more ∙ count_more old.lines before line is);
        course = so nfa before watches.nfa_is is watches.course;
      }

-- a text with no bytes replies to a line that is taken
pub replies_none : (line : Shown) (written : List ℕ) (old new : Watch) → TakesLine line old new
    → written ≡ [] → Replies WatchesOn (λ first lines said. said ≡ []) line written old new
replies_none line written old new takes none = record {
  stands = λ first before stands nfa front watches.
      subst (λ (l : List Shown). Watches nfa l new) (append_assoc front before (line ∷ []))
      (takes nfa (front ++ before) (stands nfa front watches));
  says = λ first before said stands is. ap (λ (t : List ℕ). t ++ written) is ∙ none;
}

-- what a line that is too long leaves possible
pub takes_long : (old new : Watch) → new.nfa ≡ old.nfa → new.course ≡ old.course
    → new.lines ≡ min (old.lines + 1) (2 ^ 64 - 1) → TakesLine long old new
takes_long old new same course lines nfa before watches = record {
  nfa_is = ap (λ n. n.now) same ∙ watches.nfa_is;
  count = long_count old.lines new.lines before long watches.count lines;
  course = subst (λ (c : Course). IsCourse nfa (before ++ long ∷ []) c) (sym course)
      (course_still nfa before long old.course (long_unread nfa.cells.layout before)
      watches.course);
}
