-- A word of either of two automata.
use Rattle.std.proofs.Common.{◌≡◌, ◌⊎◌, inl, inr, Bool, true, false, ◌||◌, [], ◌∷◌, refl}
use Rattle.rate_expr.specs.Words.{Word}
use Rattle.rate_expr.proofs.Automata.{Automaton, Continues, Accepts, of_choice}

-- one of two tests holds
pub either : (x y : Bool) → (x || y) ≡ true → (x ≡ true) ⊎ (y ≡ true)
either true y is = inl refl
either false y is = inr is

-- where the first does
pub or_first : (x y : Bool) → x ≡ true → (x || y) ≡ true
or_first true y is = refl
or_first false y is = absurd (cc)

-- and where the second does
pub or_second : (x y : Bool) → y ≡ true → (x || y) ≡ true
or_second true y is = refl
or_second false y is = is

-- a path of the first stays in it
stays_first : (a b : Automaton) (p : a.State) (word : Word) → Continues (of_choice a b) (inl p) word
    → Continues a p word
stays_first a b p [] last = last
stays_first a b p (item ∷ word) (inl q, follow, meet, on) =
    (q, follow, meet, stays_first a b q word on)
stays_first a b p (item ∷ word) (inr q, follow, meet, on) = absurd follow

-- a path of the second stays in it
stays_second : (a b : Automaton) (q : b.State) (word : Word)
    → Continues (of_choice a b) (inr q) word → Continues b q word
stays_second a b q [] last = last
stays_second a b q (item ∷ word) (inl p, follow, meet, on) = absurd follow
stays_second a b q (item ∷ word) (inr p, follow, meet, on) =
    (p, follow, meet, stays_second a b p word on)

-- a path of the first is there
is_first : (a b : Automaton) (p : a.State) (word : Word) → Continues a p word
    → Continues (of_choice a b) (inl p) word
is_first a b p [] last = last
is_first a b p (item ∷ word) (q, follow, meet, on) = (inl q, follow, meet, is_first a b q word on)

-- a path of the second is there
is_second : (a b : Automaton) (q : b.State) (word : Word) → Continues b q word
    → Continues (of_choice a b) (inr q) word
is_second a b q [] last = last
is_second a b q (item ∷ word) (p, follow, meet, on) = (inr p, follow, meet, is_second a b p word on)

-- what the automaton of a choice accepts is a word of either
pub choice_only : (a b : Automaton) (word : Word) → Accepts (of_choice a b) word
    → Accepts a word ⊎ Accepts b word
choice_only a b [] nullable = either a.nullable b.nullable nullable
choice_only a b (item ∷ word) (inl p, first, meet, on) =
    inl (p, first, meet, stays_first a b p word on)
choice_only a b (item ∷ word) (inr q, first, meet, on) =
    inr (q, first, meet, stays_second a b q word on)

-- and each such word is accepted
pub choice_each : (a b : Automaton) (word : Word) → Accepts a word ⊎ Accepts b word
    → Accepts (of_choice a b) word
choice_each a b [] (inl nullable) = or_first a.nullable b.nullable nullable
choice_each a b [] (inr nullable) = or_second a.nullable b.nullable nullable
choice_each a b (item ∷ word) (inl (p, first, meet, on)) =
    (inl p, first, meet, is_first a b p word on)
choice_each a b (item ∷ word) (inr (q, first, meet, on)) =
    (inr q, first, meet, is_second a b q word on)
