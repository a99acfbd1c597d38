-- Rows that are filled with what a left value on a front and a right value after it give.
use Rattle.std.proofs.Common.{◌≡◌, ◌<◌, ◌≤◌, ℕ, ◌+◌, ◌-◌, ◌∙◌, List, Option, Some, None, length}
use Rattle.std.proofs.Common.{take, drop, get_or, refl, sym, subst, arith, ◌⊎◌, inl, inr}
use Rattle.value_ops.specs.declared.value.Value.{Value}
use Rattle.expressions.specs.Expressions.{Expression}
use Rattle.rate_expr.specs.Words.{Word}
use Rattle.query_model.specs.Denotation.{on_both}
use Rattle.slow_eval.specs.Rows.{IsGiven, IsJoined, IsPut}
use Rattle.std.proofs.lemmas.Bool.{cases_lt}
use borrow.Author.Count.{below_more}

-- some value, or none
pub some_or_none : (answer : Option Value) → ((v : Value) × (answer ≡ Some v)) ⊎ (answer ≡ None)
some_or_none None = inr refl
some_or_none (Some v) = inl (v, refl)

-- The values of the row are values of the whole, and where the row has none, no left value on a
-- front shorter than `at` and right value after it give one.
pub record IsFilled (L R W : Word → Value → Type 0) (expression : Expression) (word : Word) (at : ℕ)
    (row : List (Option Value)) : Type 0 where
  pub count : length row ≡ length word + 1
  pub sound : (place : ℕ) (v : Value) → place ≤ length word → get_or row place None ≡ Some v
      → W (take place word) v
  pub full : (k : ℕ) → k < at → (m : ℕ) (x y v : Value) → k + m ≤ length word → L (take k word) x
      → R (take m (drop k word)) y → on_both expression x y ≡ Some v
      → get_or row (k + m) None ≡ None → ⊥

-- there is no left value on the front
pub skipped : (L R W : Word → Value → Type 0) (expression : Expression) (word : Word) (at : ℕ)
    (row : List (Option Value)) → IsFilled L R W expression word at row
    → ((x : Value) → L (take at word) x → ⊥) → IsFilled L R W expression word (at + 1) row
skipped L R W expression word at row filled none = record {
  count = filled.count;
  sound = filled.sound;
  full = below_more _ _ filled.full (λ m x y v inside left right gives empty. none x left);
}

-- the right answers after a front
pub record AreAfter (R : Word → Value → Type 0) (word : Word) (at : ℕ)
    (right : List (Option Value)) : Type 0 where
  pub count : length right ≡ length word - at + 1
  pub some : (m : ℕ) (y : Value) → at + m ≤ length word → get_or right m None ≡ Some y
      → R (take m (drop at word)) y
  pub none : (m : ℕ) (y : Value) → at + m ≤ length word → get_or right m None ≡ None
      → R (take m (drop at word)) y → ⊥

-- what is put is given, or stood there
pub put_or_same : (expression : Expression) (x : Value) (right old new : Option Value)
    → IsPut expression x right old new
    → ((y : Value) × (right ≡ Some y) × IsGiven expression x y new) ⊎ ((right ≡ None) × (new ≡ old))
put_or_same expression x None old new same = inr (refl, same)
put_or_same expression x (Some y) old new given = inl (y, refl, given)

pub some_not_none : (v : Value) (answer : Option Value) → answer ≡ Some v → answer ≡ None → ⊥
some_not_none v answer some none = let both : Some v ≡ None = sym some ∙ none in cc

-- the same values
values_same : (a b : Value) → Some a ≡ Some b → a ≡ b
values_same a b same = cc

-- a value at the place of a joined row
joined_at : (L R W : Word → Value → Type 0) (expression : Expression) (word : Word) (at : ℕ)
    (old new right : List (Option Value)) (x : Value) → IsFilled L R W expression word at old
    → IsJoined expression x right at old new → AreAfter R word at right
    → ((m : ℕ) (y v : Value) → at + m ≤ length word → R (take m (drop at word)) y
    → on_both expression x y ≡ Some v → W (take (at + m) word) v)
    → (m : ℕ) (v : Value) → at + m ≤ length word → get_or new (at + m) None ≡ Some v
    → W (take (at + m) word) v
joined_at L R W expression word at old new right x filled is_joined after whole m v within there =
    let count : length right ≡ length word - at + 1 = after.count in
    let below : m < length right = omega arith in
    elim (put_or_same expression x _ _ _ (is_joined.after m below)) [
      | inl (y, some, (w, is, gives)) ↦ subst (W (take (at + m) word))
          (values_same w v (sym is ∙ there)) (whole m y w within (after.some m y within some) gives)
      | inr (none, same) ↦ filled.sound (at + m) v within (sym same ∙ there)
    ]

-- a place is before another, or after it by this many
before_or_after : (at place : ℕ) → (place < at) ⊎ ((m : ℕ) × (place ≡ at + m))
before_or_after at place =
    elim (cases_lt place at) [
      | inl below ↦ inl below
      | inr above ↦ inr (place - at, omega arith)
    ]

-- a place of a joined row stays filled
kept_at : (L R W : Word → Value → Type 0) (expression : Expression) (word : Word) (at : ℕ)
    (old new right : List (Option Value)) (x : Value) → IsJoined expression x right at old new
    → AreAfter R word at right → (place : ℕ) → place ≤ length word → get_or new place None ≡ None
    → get_or old place None ≡ None
kept_at L R W expression word at old new right x is_joined after place within none =
    elim (before_or_after at place) [
      | inl below ↦ sym (is_joined.before place below) ∙ none
      | inr (m, is) ↦
          let count : length right ≡ length word - at + 1 = after.count in
          let below : m < length right = omega arith in
          let there : get_or new (at + m) None ≡ None =
          subst (λ p. get_or new p None ≡ None) is none in
          subst (λ p. get_or old p None ≡ None) (sym is)
          (elim (put_or_same expression x _ _ _ (is_joined.after m below)) [
            | inl (y, some, (w, given, gives)) ↦ absurd (some_not_none w _ given there)
            | inr (free, same) ↦ sym same ∙ there
          ])
    ]

-- a left value on the front, joined with all right values after it
pub joined : (L R W : Word → Value → Type 0) (expression : Expression) (word : Word) (at : ℕ)
    (old new right : List (Option Value)) (x : Value) → IsFilled L R W expression word at old
    → IsJoined expression x right at old new → AreAfter R word at right → at ≤ length word
    → ((other : Value) → L (take at word) other → other ≡ x)
    → ((m : ℕ) (y v : Value) → at + m ≤ length word → R (take m (drop at word)) y
    → on_both expression x y ≡ Some v → W (take (at + m) word) v)
    → IsFilled L R W expression word (at + 1) new
joined L R W expression word at old new right x filled is_joined after inside one whole = record {
  count = is_joined.count ∙ filled.count;
  sound = λ place v within there. elim (before_or_after at place) [
    | inl below ↦ filled.sound place v within (sym (is_joined.before place below) ∙ there)
    | inr (m, is) ↦ subst (λ p. W (take p word) v) (sym is)
        (joined_at L R W expression word at old new right x filled is_joined after whole m v
        (subst (λ p. p ≤ length word) is within) (subst (λ p. get_or new p None ≡ Some v) is there))
  ];
  full = below_more _ _
      (λ k below m z y v within left right_den gives none. filled.full k below m z y v within
      left right_den gives
      (kept_at L R W expression word at old new right x is_joined after (k + m) within none))
      (λ m z y v within left right_den gives none.
      let count : length right ≡ length word - at + 1 = after.count in
      let below : m < length right = omega arith in
      elim (put_or_same expression x _ _ _ (is_joined.after m below)) [
        | inl (w, some, (u, given, made)) ↦ some_not_none u _ given none
        | inr (free, same) ↦ after.none m y within free right_den
      ]);
}
