-- What the tests of the code say of queries and of expressions.
use Rattle.std.proofs.Common.{◌≡◌, ◌≤◌, ◌<◌, ◌+◌, ◌*◌, ◌∙◌, ℕ, zero, Bool, true, false, []}
use Rattle.std.proofs.Common.{◌∷◌, ◌++◌, refl, sym, ap, subst, ◌⊎◌, inl, inr, arith}
use Rattle.std.specs.Prelude.{not, ◌&&◌, ◌||◌}
use Rattle.std.proofs.Math.Nat.{add-mul, le_of_mul-le-mul_left, mul-add, one-mul}
use Rattle.std.proofs.lemmas.Bool.{and_parts, both_ways, or_parts, le-leb, leb-true, not-true}
use Rattle.std.proofs.lemmas.Bool.{false_from_ne_true, not_from_false}
use Rattle.std.proofs.lemmas.Nat.{mul-le}
use Rattle.expressions.specs.declared.expr.Var.{Var}
use Rattle.expressions.specs.declared.expr.Var.TheVariants as var
use Rattle.expressions.specs.Expressions.{Expression, literal, read, unary, binary, choice, sum}
use Rattle.expressions.specs.Expressions.{count, most, least, entry, rec, part, Expressions, none}
use Rattle.expressions.specs.Expressions.{more}
use Rattle.rate_expr.specs.Language.{In}
use Rattle.rate_expr.specs.Rates as rate
use Rattle.rate_expr.specs.Rates.{Regex}
use Rattle.rate_expr.specs.Words.{Word}
use Rattle.query_model.specs.Bounds.{inner_of, places_of, slots_of, width_of}
use Rattle.query_model.specs.Queries.{Qre}
use Rattle.query_model.specs.Rates.{rate_of}
use Rattle.query_rewrite.specs.Counting.{as_whole, both_read, is_read_once, reading_of}
use Rattle.query_rewrite.specs.Counting.{reading_of_all}
use Rattle.query_rewrite.specs.Filling.{any_names_left, filled, is_left, names_left, reads_of}
use Rattle.query_rewrite.specs.Filling.{reads_of_all}
use Rattle.query_rewrite.specs.declared.reading.Reading.{Reading}
use Rattle.query_rewrite.specs.declared.reading.Reading.TheVariants.{Never, Once, Otherwise}
use Rattle.query_rewrite.specs.Levels.{levels_of, max_levels}
use Rattle.query_rewrite.specs.Rewriting.{IsReadOnce, Merge, Turn}
use Rattle.query_rewrite.specs.Steps.{has_empty, is_left_value, merge, turn}

-- Expressions that are made one.

pub left_value : (e : Expression) → is_left_value e ≡ true → e ≡ read var.Left
left_value (read var.Left) is = refl
left_value (read var.Right) is = cc
left_value (read (var.Field column)) is = cc
left_value _ is = cc

or_true : (a b : Bool) → (a || b) ≡ true → (a ≡ true) ⊎ (b ≡ true)
or_true true b is = inl refl
or_true false b is = inr is

pub first_true : (a b : Bool) → a ≡ true → (a || b) ≡ true
first_true true b is = refl
first_true false b is = cc

pub second_true : (a b : Bool) → b ≡ true → (a || b) ≡ true
second_true true b is = refl
second_true false b is = is

both_true : (a b : Bool) → a ≡ true → b ≡ true → (a && b) ≡ true
both_true true b first second = second
both_true false b first second = cc

-- what is known of how an expression reads its left value
abbrev Says : Reading → ℕ → Bool → Type 0
Says Never reads named = (reads ≡ 0) × (named ≡ false)
Says Once reads named = (reads ≡ 1) × (named ≡ false)
Says Otherwise reads named = reads ≤ 1 → named ≡ false → ⊥

neither_named : (n m : Bool) → n ≡ false → m ≡ false → (n || m) ≡ false
neither_named true m first second = cc
neither_named false m first second = second

both_say : (a b : Reading) (r s : ℕ) (n m : Bool) → Says a r n → Says b s m
    → Says (both_read a b) (r + s) (n || m)
both_say Never Never r s n m first second =
    (omega (arith, first.0, second.0), neither_named n m first.1 second.1)
both_say Never Once r s n m first second =
    (omega (arith, first.0, second.0), neither_named n m first.1 second.1)
both_say Never Otherwise r s n m first second =
    λ few other. second (omega (arith, few)) (or_parts n m other).1
both_say Once Never r s n m first second =
    (omega (arith, first.0, second.0), neither_named n m first.1 second.1)
both_say Once Once r s n m first second =
    λ few other. absurd (omega (arith, first.0, second.0, few))
both_say Once Otherwise r s n m first second =
    λ few other. second (omega (arith, few)) (or_parts n m other).1
both_say Otherwise b r s n m first second =
    λ few other. first (omega (arith, few)) (or_parts n m other).0

whole_says : (name : Var) (reading : Reading) (reads : ℕ) (named : Bool) → Says reading reads named
    → Says (both_read (as_whole name) reading) reads (is_left name || named)
whole_says var.Left reading reads named says = λ few other. cc
whole_says var.Right reading reads named says = says
whole_says (var.Field column) reading reads named says = says

name_says : (name : Var) → Says (as_whole name) 0 (is_left name)
name_says var.Left = λ few other. cc
name_says var.Right = (refl, refl)
name_says (var.Field column) = (refl, refl)

mutual
  reading_says : (e : Expression) → Says (reading_of e) (reads_of e) (names_left e)
  reading_says (literal number) = (refl, refl)
  reading_says (read var.Left) = (refl, refl)
  reading_says (read var.Right) = (refl, refl)
  reading_says (read (var.Field column)) = (refl, refl)
  reading_says (unary op inner) = reading_says inner
  reading_says (binary op first second) =
      both_say (reading_of first) (reading_of second) (reads_of first) (reads_of second)
      (names_left first) (names_left second) (reading_says first) (reading_says second)
  reading_says (choice test first second met other) =
      both_say (both_read (reading_of first) (reading_of second))
      (both_read (reading_of met) (reading_of other)) (reads_of first + reads_of second)
      (reads_of met + reads_of other) (names_left first || names_left second)
      (names_left met || names_left other)
      (both_say (reading_of first) (reading_of second) (reads_of first) (reads_of second)
      (names_left first) (names_left second) (reading_says first) (reading_says second))
      (both_say (reading_of met) (reading_of other) (reads_of met) (reads_of other)
      (names_left met) (names_left other) (reading_says met) (reading_says other))
  reading_says (sum name) = name_says name
  reading_says (count name) = name_says name
  reading_says (most name first) =
      whole_says name (reading_of first) (reads_of first) (names_left first) (reading_says first)
  reading_says (least name first) =
      whole_says name (reading_of first) (reads_of first) (names_left first) (reading_says first)
  reading_says (entry name key other) =
      whole_says name (reading_of other) (reads_of other) (names_left other) (reading_says other)
  reading_says (rec parts) = all_say parts
  reading_says (part name place) = name_says name

  all_say : (parts : Expressions)
      → Says (reading_of_all parts) (reads_of_all parts) (any_names_left parts)
  all_say none = (refl, refl)
  all_say (more first rest) =
      both_say (reading_of first) (reading_of_all rest) (reads_of first) (reads_of_all rest)
      (names_left first) (any_names_left rest) (reading_says first) (all_say rest)

once_says : (reading : Reading) (e : Expression) → Says reading (reads_of e) (names_left e)
    → is_read_once reading ≡ true → IsReadOnce e
once_says Never e says is = record { once = omega (arith, says.0); operand = says.1 }
once_says Once e says is = record { once = omega (arith, says.0); operand = says.1 }
once_says Otherwise e says is = cc

says_once : (reading : Reading) (e : Expression) → Says reading (reads_of e) (names_left e)
    → IsReadOnce e → is_read_once reading ≡ true
says_once Never e says is = refl
says_once Once e says is = refl
says_once Otherwise e says is = absurd (says is.once is.operand)

pub merge_is : (e d : Expression) → merge e d ≡ true → Merge e d
merge_is e d is =
    let parts = and_parts (is_left_value e || is_read_once (reading_of d)) _ is in
    record {
      levels = leb-true (levels_of (filled e d)) max_levels parts.1;
      once = elim (or_true (is_left_value e) (is_read_once (reading_of d)) parts.0) [
        | inl left ↦ inl (left_value e left)
        | inr once ↦ inr (once_says (reading_of d) d (reading_says d) once)
      ];
    }

pub is_merge : (e d : Expression) → Merge e d → merge e d ≡ true
is_merge e d can =
    both_true (is_left_value e || is_read_once (reading_of d)) _
    (elim can.once [
      | inl left ↦ first_true (is_left_value e) _ (ap is_left_value left)
      | inr once ↦ second_true (is_left_value e) (is_read_once (reading_of d))
          (says_once (reading_of d) d (reading_says d) once)
    ])
    (le-leb (levels_of (filled e d)) max_levels can.levels)

-- The empty word of a rate.

both_empty : (u v : Word) → [] ≡ u ++ v → (u ≡ []) × (v ≡ [])
both_empty [] v same = (refl, sym same)
both_empty (item ∷ u) v same = cc

pub empty_in : (r : Regex) → has_empty r ≡ true → In r []
empty_in rate.empty has = refl
empty_in (rate.one pred) has = cc
empty_in (rate.sequence left right) has =
    let parts = and_parts (has_empty left) (has_empty right) has in
    ([], [], refl, empty_in left parts.0, empty_in right parts.1)
empty_in (rate.choice left right) has =
    elim (or_true (has_empty left) (has_empty right) has) [
      | inl first ↦ inl (empty_in left first)
      | inr second ↦ inr (empty_in right second)
    ]
empty_in (rate.star inner) has = ([], refl, tt)

pub in_empty : (r : Regex) → In r [] → has_empty r ≡ true
in_empty rate.empty in_rate = refl
in_empty (rate.one pred) (item, whole, meets) = cc
in_empty (rate.sequence left right) (u, v, whole, first, second) =
    let empty = both_empty u v whole in
    both_true (has_empty left) (has_empty right)
    (in_empty left (subst (In left) empty.0 first))
    (in_empty right (subst (In right) empty.1 second))
in_empty (rate.choice left right) (inl first) =
    first_true (has_empty left) (has_empty right) (in_empty left first)
in_empty (rate.choice left right) (inr second) =
    second_true (has_empty left) (has_empty right) (in_empty right second)
in_empty (rate.star inner) in_rate = refl

-- Compositions that are grouped from the left: for each start of the first query and for one more,
-- a runner of the second and one of the third are kept in place of one of both.

grown : (p s : ℕ) → (p + 1) * (1 + s) ≡ p * (s + 1) + (s + 1)
grown p s =
    let order : 1 + s ≡ s + 1 = omega arith in
    ap (λ n. (p + 1) * n) order ∙ add-mul p 1 (s + 1) ∙ ap (λ n. p * (s + 1) + n) (one-mul (s + 1))

each_less : (i w p s v : ℕ) → w ≤ v + p * (s + 1)
    → (1 + (i + 1 + w)) + (1 + s) ≤ 1 + (i + (p + 1) * (1 + s) + 1 + v)
each_less i w p s v less = omega (arith, grown p s)

less_each : (i w p s v : ℕ) → (1 + (i + 1 + w)) + (1 + s) ≤ 1 + (i + (p + 1) * (1 + s) + 1 + v)
    → w ≤ v + p * (s + 1)
less_each i w p s v less = omega (arith, grown p s)

all_less : (x n a b c v : ℕ) → a + b ≤ c → x + n * a + n * b + 1 + v ≤ x + n * c + 1 + v
all_less x n a b c v less =
    omega (arith, mul-add n a b, mul-le n (a + b) n c (omega arith) less)

less_all : (x n a b c v : ℕ) → x + (n + 1) * a + (n + 1) * b + 1 + v ≤ x + (n + 1) * c + 1 + v
    → a + b ≤ c
less_all x n a b c v less =
    let some : zero < n + 1 = omega arith in
    let times : (n + 1) * (a + b) ≤ (n + 1) * c = omega (arith, mul-add (n + 1) a b, less) in
    le_of_mul-le-mul_left times some

pub turn_is : (f g h : Qre) → turn g h ≡ true → Turn f g h
turn_is f g h is =
    let parts = and_parts (not (has_empty (rate_of g))) _ is in
    let less = leb-true (width_of g) (width_of h + places_of g * (slots_of h + 1)) parts.1 in
    record {
      fed = λ in_rate. both_ways (has_empty (rate_of g)) (not-true (has_empty (rate_of g)) parts.0)
          (in_empty (rate_of g) in_rate);
      slots = all_less (inner_of f) (places_of f + 1) _ _ _ (width_of h)
          (each_less (inner_of g) (width_of g) (places_of g) (inner_of h + 1 + width_of h)
          (width_of h) less);
    }

pub is_turn : (f g h : Qre) → Turn f g h → turn g h ≡ true
is_turn f g h can =
    both_true _ _ (not_from_false (has_empty (rate_of g))
    (false_from_ne_true (has_empty (rate_of g)) (λ has. can.fed (empty_in (rate_of g) has))))
    (le-leb (width_of g) (width_of h + places_of g * (slots_of h + 1))
    (less_each (inner_of g) (width_of g) (places_of g) (inner_of h + 1 + width_of h) (width_of h)
    (less_all (inner_of f) (places_of f) (1 + (inner_of g + 1 + width_of g))
    (1 + (inner_of h + 1 + width_of h)) _ (width_of h) can.slots)))

-- so it does not matter what comes first
pub turn_after_any : (f other g h : Qre) → Turn f g h → Turn other g h
turn_after_any f other g h can = turn_is other g h (is_turn f g h can)
