-- The answers of a composition.
use Rattle.std.proofs.Common.{append-nil, append_assoc, ◌≡◌, ◌≤◌, ℕ, suc, ◌+◌, ◌++◌, ◌∙◌, List, []}
use Rattle.std.proofs.Common.{◌∷◌, Option, Some, None, length, take, drop, get_or, refl, sym, subst}
use Rattle.std.proofs.Common.{ap, arith, inl, inr, length-append, length-take-le, take_at, take_all}
use Rattle.std.proofs.Common.{get_or-take}
use Rattle.std.proofs.lemmas.List.{take-take}
use Rattle.std.specs.Prelude.{MatchOption}
use Rattle.std.specs.Option.{option_and}
use Rattle.value_ops.specs.declared.value.Value.{Value}
use Rattle.rate_expr.specs.Words.{Word}
use Rattle.query_model.specs.Denotation.{Den, Emits, Outputs}
use Rattle.query_model.specs.Following.{IsAnswer}
use Rattle.query_model.specs.Queries.{Qre, compose}
use Rattle.query_model.specs.QueryTypes.{derived_columns, type_of}
use Rattle.query_model.proofs.Typed.{den_typed, outputs_word}
use Rattle.query_model.proofs.Unique.{one_value, outputs_one}
use Rattle.slow_eval.specs.Answers.{AreAnswers, CanBeRead}
use Rattle.slow_eval.specs.Streams.{IsOnStream, stream_of}
use Rattle.slow_eval.proofs.Cutting.{front_word}
use Rattle.slow_eval.proofs.Streaming.{stream_front}

-- the value on a word, or that there is none
abbrev IsValueOn : (Word → Value → Type 0) → Word → Option Value → Type 0
IsValueOn D word answer = MatchOption answer ((v : Value) → D word v → ⊥) (D word)

-- what comes out on a word
emits : (D : Word → Value → Type 0) (word : Word) (answer : Option Value) → IsValueOn D word answer
    → Emits D word (stream_of (answer ∷ []))
emits D word None none = inr (none, refl)
emits D word (Some v) den = inl (v, den, refl)

stream_first : (answer : Option Value) (row : List (Option Value))
    → stream_of (answer ∷ row) ≡ stream_of (answer ∷ []) ++ stream_of row
stream_first None row = refl
stream_first (Some v) row = refl

-- the values on all fronts of a word after a first part come out
outputs : (D : Word → Value → Type 0) (before word : Word) (row : List (Option Value))
    → length row ≡ length word + 1
    → ((k : ℕ) → k ≤ length word → IsValueOn D (before ++ take k word) (get_or row k None))
    → Outputs D before word (stream_of row)
outputs D before [] [] count each = absurd (omega arith)
outputs D before [] (answer ∷ []) count each =
    subst (λ w. Emits D w (stream_of (answer ∷ []))) (append-nil before)
    (emits D (before ++ []) answer (each 0 (omega arith)))
outputs D before [] (answer ∷ other ∷ row) count each = absurd (omega arith)
outputs D before (item ∷ word) [] count each = absurd (omega arith)
outputs D before (item ∷ word) (answer ∷ row) count each = (
  stream_of (answer ∷ []),
  stream_of row,
  subst (λ w. Emits D w (stream_of (answer ∷ []))) (append-nil before)
      (emits D (before ++ []) answer (each 0 (omega arith))),
  outputs D (before ++ item ∷ []) word row (omega arith)
      (λ k inside. subst (λ w. IsValueOn D w (get_or row k None))
      (sym (append_assoc before (item ∷ []) (take k word))) (each (suc k) (omega arith))),
  stream_first answer row,
)

-- those on the fronts of a front
outputs_at : (f : Qre) (word : Word) (firsts : List (Option Value)) (place : ℕ)
    → AreAnswers f word firsts → place ≤ length word
    → Outputs (Den f) [] (take place word) (stream_of (take (place + 1) firsts))
outputs_at f word firsts place answers inside =
    let count : length firsts ≡ length word + 1 = answers.count in
    let short : length (take place word) ≡ place = length-take-le place word inside in
    outputs (Den f) [] (take place word) (take (place + 1) firsts)
    (length-take-le (place + 1) firsts (omega arith) ∙ ap (λ n. n + 1) (sym short))
    (λ k within.
    let below : k ≤ place = omega arith in
    subst (IsAnswer f (take k (take place word)))
    (sym (get_or-take (place + 1) firsts k None (omega arith)))
    (subst (λ w. IsAnswer f w (get_or firsts k None)) (sym (take-take k place word below))
    (answers.each k (omega arith))))

-- those on the whole word
outputs_all : (f : Qre) (word : Word) (firsts : List (Option Value)) → AreAnswers f word firsts
    → Outputs (Den f) [] word (stream_of firsts)
outputs_all f word firsts answers =
    let count : length firsts ≡ length word + 1 = answers.count in
    subst (λ w. Outputs (Den f) [] w (stream_of firsts)) (take_all (length word) word (omega arith))
    (subst (λ row. Outputs (Den f) [] (take (length word) word) (stream_of row))
    (take_all (length word + 1) firsts (omega arith))
    (outputs_at f word firsts (length word) answers (omega arith)))

-- the first operand of a composition, and the second on what comes out of it
abbrev pub of_source : (f g : Qre) (word : Word) → CanBeRead (compose f g) word → CanBeRead f word
of_source f g word can = record {
  standing = can.standing;
  columns = can.columns;
  clear = can.clear.0;
  is_word = can.is_word;
  positions = can.positions.0;
}

pub of_stream : (f g : Qre) (word : Word) (firsts : List (Option Value))
    → CanBeRead (compose f g) word → AreAnswers f word firsts → CanBeRead g (stream_of firsts)
of_stream f g word firsts can answers = record {
  standing = can.standing;
  columns = derived_columns (type_of can.columns f);
  clear = can.clear.1;
  is_word = outputs_word can.columns (type_of can.columns f) (Den f)
      (λ part v part_is den. den_typed can.standing can.columns f part v can.clear.0 part_is den)
      [] word (stream_of firsts) tt can.is_word (outputs_all f word firsts answers);
  positions = can.positions.1;
}

module _ (f g : Qre) (word : Word) (firsts seconds : List (Option Value)) (place : ℕ)
    (can : CanBeRead (compose f g) word) (left : AreAnswers f word firsts)
    (right : AreAnswers g (stream_of firsts) seconds) (inside : place ≤ length word) where
  -- the second query's answer on it
  outer : IsAnswer g (stream_of (take (place + 1) firsts))
      (get_or seconds (length (stream_of (take (place + 1) firsts))) None)
  outer =
      let front = stream_of (take (place + 1) firsts) in
      let after = stream_of (drop (place + 1) firsts) in
      let whole : stream_of firsts ≡ front ++ after = stream_front firsts (place + 1) in
      let long : length (stream_of firsts) ≡ length front + length after =
      ap length whole ∙ length-append front after in
      subst (λ w. IsAnswer g w (get_or seconds (length front) None))
      (ap (take (length front)) whole ∙ take_at front after (length front) refl)
      (right.each (length front) (omega arith))

  -- nothing else comes out
  only : (other : Word) → Outputs (Den f) [] (take place word) other
      → other ≡ stream_of (take (place + 1) firsts)
  only other outputs_other =
      outputs_one can.columns (Den f)
      (λ part v w part_is den den'. one_value can.standing can.columns f part v w can.clear.0
      part_is den den')
      [] (take place word) other (stream_of (take (place + 1) firsts)) tt
      (front_word can.columns word place can.is_word) outputs_other
      (outputs_at f word firsts place left inside)

  composed_at : (first second : Option Value) → IsAnswer f (take place word) first
      → IsAnswer g (stream_of (take (place + 1) firsts)) second
      → IsAnswer (compose f g) (take place word) (option_and first second)
  composed_at None second none answer = λ v (x, other, den, outputs_other, den'). none x den
  composed_at (Some x) None den none =
      λ v (x', other, den'', outputs_other, den').
      none v (subst (λ o. Den g o v) (only other outputs_other) den')
  composed_at (Some x) (Some v) den den' = (
    x,
    stream_of (take (place + 1) firsts),
    den,
    outputs_at f word firsts place left inside,
    den',
  )

-- all answers of a composition
pub composed : (f g : Qre) (word : Word) (firsts seconds row : List (Option Value))
    → CanBeRead (compose f g) word → AreAnswers f word firsts
    → AreAnswers g (stream_of firsts) seconds → IsOnStream firsts seconds row
    → AreAnswers (compose f g) word row
composed f g word firsts seconds row can left right is = record {
  count = is.count ∙ left.count;
  each = λ place inside.
      let count : length firsts ≡ length word + 1 = left.count in
      subst (IsAnswer (compose f g) (take place word)) (sym (is.each place (omega arith)))
      (composed_at f g word firsts seconds place can left right inside
      (get_or firsts place None)
      (get_or seconds (length (stream_of (take (place + 1) firsts))) None)
      (left.each place inside) (outer f g word firsts seconds place can left right inside));
}
