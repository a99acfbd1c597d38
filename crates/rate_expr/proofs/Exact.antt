-- The automaton of a rate accepts exactly its words.
use Rattle.std.proofs.Common.{◌⊎◌, inl, inr, List, [], ◌∷◌, refl, sym, subst}
use Rattle.std.specs.List.{AllByRecursion}
use Rattle.rate_expr.specs.Language.{In}
use Rattle.rate_expr.specs.Rates.{Regex, empty, one, sequence, choice, star}
use Rattle.rate_expr.specs.Words.{Word}
use Rattle.rate_expr.proofs.Automata.{Accepts, automaton_of}
use Rattle.rate_expr.proofs.Sequences.{sequence_only, sequence_each}
use Rattle.rate_expr.proofs.Choices.{choice_only, choice_each}
use Rattle.rate_expr.proofs.Stars.{star_only, star_each}

-- what follows for each word follows for all
each_of : (P Q : Word → Type 0) → ((word : Word) → P word → Q word) → (words : List Word)
    → AllByRecursion P words → AllByRecursion Q words
each_of P Q follows [] all = tt
each_of P Q follows (word ∷ words) (at, all) = (follows word at, each_of P Q follows words all)

-- a word of a rate is accepted
pub in_accepted : (rate : Regex) (word : Word) → In rate word → Accepts (automaton_of rate) word
in_accepted empty word is = subst (Accepts (automaton_of empty)) (sym is) refl
in_accepted (one pred) word (item, is, meet) =
    subst (Accepts (automaton_of (one pred))) (sym is) (tt, tt, meet, tt)
in_accepted (sequence first second) word (u, v, is, left, right) =
    subst (Accepts (automaton_of (sequence first second))) (sym is)
    (sequence_each (automaton_of first) (automaton_of second) u v (in_accepted first u left)
    (in_accepted second v right))
in_accepted (choice first second) word (inl left) =
    choice_each (automaton_of first) (automaton_of second) word (inl (in_accepted first word left))
in_accepted (choice first second) word (inr right) =
    choice_each (automaton_of first) (automaton_of second) word
    (inr (in_accepted second word right))
in_accepted (star inner) word (pieces, is, all) =
    subst (Accepts (automaton_of (star inner))) (sym is)
    (star_each (automaton_of inner) pieces
    (each_of (In inner) (Accepts (automaton_of inner)) (in_accepted inner) pieces all))

-- the word is in either rate, as it is accepted for either
in_either : (first second : Regex) (word : Word)
    → (Accepts (automaton_of first) word → In first word)
    → (Accepts (automaton_of second) word → In second word)
    → Accepts (automaton_of first) word ⊎ Accepts (automaton_of second) word
    → In (choice first second) word
in_either first second word left right (inl accepts) = inl (left accepts)
in_either first second word left right (inr accepts) = inr (right accepts)

-- an accepted word is one of the rate
pub accepted_in : (rate : Regex) (word : Word) → Accepts (automaton_of rate) word → In rate word
accepted_in empty [] accepts = refl
accepted_in empty (item ∷ word) accepts = absurd accepts.0
accepted_in (one pred) [] accepts = absurd (cc)
accepted_in (one pred) (item ∷ []) accepts = (item, refl, accepts.2)
accepted_in (one pred) (item ∷ other ∷ word) accepts = absurd accepts.3.1
accepted_in (sequence first second) word accepts =
    let parts = sequence_only (automaton_of first) (automaton_of second) word accepts in (
      parts.0,
      parts.1,
      parts.2,
      accepted_in first parts.0 parts.3,
      accepted_in second parts.1 parts.4,
    )
accepted_in (choice first second) word accepts =
    in_either first second word (accepted_in first word) (accepted_in second word)
    (choice_only (automaton_of first) (automaton_of second) word accepts)
accepted_in (star inner) word accepts =
    let parts = star_only (automaton_of inner) word accepts in (
      parts.0,
      parts.1,
      each_of (Accepts (automaton_of inner)) (In inner) (accepted_in inner) parts.0 parts.2,
    )
