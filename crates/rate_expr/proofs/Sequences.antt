-- A word of one automaton and then of another.
use Rattle.std.proofs.Common.{◌≡◌, inl, inr, Bool, true, false, ◌&&◌, [], ◌∷◌, ◌++◌, refl, ap}
use Rattle.rate_expr.specs.Words.{Word}
use Rattle.rate_expr.proofs.Automata.{Automaton, Continues, Accepts, of_sequence}

-- a test and another hold only both
pub both : (x y : Bool) → (x && y) ≡ true → (x ≡ true) × (y ≡ true)
both true y is = (refl, is)
both false y is = absurd (cc)

-- and then both do
pub and_both : (x y : Bool) → x ≡ true → y ≡ true → (x && y) ≡ true
and_both true y is other = other
and_both false y is other = is

-- the word is one of the first and then one of the second
abbrev Splits : (a b : Automaton) → (Word → Type 0) → Word → Type 0
Splits a b Begin word = (u : Word) × (v : Word) × (word ≡ u ++ v) × Begin u × Accepts b v

-- in the second a path stays
stays : (a b : Automaton) (q : b.State) (word : Word) → Continues (of_sequence a b) (inr q) word
    → Continues b q word
stays a b q [] last = last
stays a b q (item ∷ word) (inl p, follow, meet, on) = absurd follow
stays a b q (item ∷ word) (inr p, follow, meet, on) = (p, follow, meet, stays a b p word on)

-- so that one of the second is one of both
is_there : (a b : Automaton) (q : b.State) (word : Word) → Continues b q word
    → Continues (of_sequence a b) (inr q) word
is_there a b q [] last = last
is_there a b q (item ∷ word) (p, follow, meet, on) = (inr p, follow, meet, is_there a b p word on)

-- a path after a state of the first passes into the second once
goes_over : (a b : Automaton) (p : a.State) (word : Word) → Continues (of_sequence a b) (inl p) word
    → Splits a b (Continues a p) word
goes_over a b p [] (last, nullable) = ([], [], refl, last, nullable)
goes_over a b p (item ∷ word) (inl q, follow, meet, on) =
    let rest = goes_over a b q word on in
    (item ∷ rest.0, rest.1, ap (λ w. item ∷ w) rest.2, (q, follow, meet, rest.3), rest.4)
goes_over a b p (item ∷ word) (inr q, (last, first), meet, on) =
    ([], item ∷ word, refl, last, (q, first, meet, stays a b q word on))

-- and may go over at each end
may_go_over : (a b : Automaton) (p : a.State) (u v : Word) → Continues a p u → Accepts b v
    → Continues (of_sequence a b) (inl p) (u ++ v)
may_go_over a b p [] [] last nullable = (last, nullable)
may_go_over a b p [] (item ∷ v) last (q, first, meet, on) =
    (inr q, (last, first), meet, is_there a b q v on)
may_go_over a b p (item ∷ u) v (q, follow, meet, on) accepts =
    (inl q, follow, meet, may_go_over a b q u v on accepts)

-- what the automaton of a sequence accepts is a word of the first and then one of the second
pub sequence_only : (a b : Automaton) (word : Word) → Accepts (of_sequence a b) word
    → (u : Word) × (v : Word) × (word ≡ u ++ v) × Accepts a u × Accepts b v
sequence_only a b [] nullable = let each = both a.nullable b.nullable nullable in
    ([], [], refl, each.0, each.1)
sequence_only a b (item ∷ word) (inl p, first, meet, on) =
    let rest = goes_over a b p word on in
    (item ∷ rest.0, rest.1, ap (λ w. item ∷ w) rest.2, (p, first, meet, rest.3), rest.4)
sequence_only a b (item ∷ word) (inr q, (nullable, first), meet, on) =
    ([], item ∷ word, refl, nullable, (q, first, meet, stays a b q word on))

-- and each such word is accepted
pub sequence_each : (a b : Automaton) (u v : Word) → Accepts a u → Accepts b v
    → Accepts (of_sequence a b) (u ++ v)
sequence_each a b [] [] nullable accepts = and_both a.nullable b.nullable nullable accepts
sequence_each a b [] (item ∷ v) nullable (q, first, meet, on) =
    (inr q, (nullable, first), meet, is_there a b q v on)
sequence_each a b (item ∷ u) v (p, first, meet, on) accepts =
    (inl p, first, meet, may_go_over a b p u v on accepts)
