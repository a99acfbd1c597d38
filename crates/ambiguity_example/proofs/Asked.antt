-- What is asked with automata is asked of the rates that these are of.
use Rattle.std.proofs.Common.{◌≡◌, sym, subst}
use Rattle.std.specs.Borrow.{Bor}
use Rattle.std.specs.Prelude.{Result, Ok, Err, IfOk, Option, MatchOption}
use Rattle.rate_expr.specs.Paths.{AreOf}
use Rattle.rate_expr.specs.Rates.{Regex}
use Rattle.rate_expr.specs.Readings.{AreDisjoint, HaveOneSplit, HasOneFactoring}
use Rattle.symbolic_nfa.specs.Automata.{Automaton}
use Rattle.ambiguity_example.specs.Asks.{Asks, columns_of}
use Rattle.ambiguity_example.specs.Shows.{Shown, Question, choice, split, iter, IsKept}
use Rattle.ambiguity_example.specs.Shows.{IsShortestShown}
use Rattle.ambiguity_example.specs.declared.question.Ask.{Ask}
use Rattle.ambiguity_example.specs.declared.question.Ask.TheVariants.{Choice, Split, Iter}

-- what is found answers each question that is asked
abbrev pub Answers : Ask → Option Shown → Type 0
Answers ask found = (question : Question) → Asks ask question → MatchOption found
    (IsKept (columns_of ask) question) (IsShortestShown (columns_of ask) question)

-- the same where it may be missing
answers_as : {E : Type 0} (ask other : Ask) (result : Result (Option Shown) E) → ask ≡ other
    → IfOk result (Answers other) → IfOk result (Answers ask)
answers_as ask other result is says = subst (λ (a : Ask). IfOk result (Answers a)) (sym is) says

module _ {E : Type 0} (first second : Bor Automaton) where
  choice_asked : (result : Result (Option Shown) E) → IfOk result (λ found. (r s : Regex)
      → AreOf first.now.sets r → AreOf second.now.sets s → MatchOption found
      (AreDisjoint first.now.cells.layout.columns r s)
      (IsShortestShown first.now.cells.layout.columns (choice r s)))
      → IfOk result (Answers (Choice first second))
  choice_asked (Err e) says = tt
  choice_asked (Ok found) says = asked
    where
      asked : Answers (Choice first second) found
      asked (choice r s) (of_r, of_s) = says r s of_r of_s
      asked (split r s) none = absurd none
      asked (iter r) none = absurd none

  split_asked : (result : Result (Option Shown) E) → IfOk result (λ found. (r s : Regex)
      → AreOf first.now.sets r → AreOf second.now.sets s → MatchOption found
      (HaveOneSplit first.now.cells.layout.columns r s)
      (IsShortestShown first.now.cells.layout.columns (split r s)))
      → IfOk result (Answers (Split first second))
  split_asked (Err e) says = tt
  split_asked (Ok found) says = asked
    where
      asked : Answers (Split first second) found
      asked (choice r s) none = absurd none
      asked (split r s) (of_r, of_s) = says r s of_r of_s
      asked (iter r) none = absurd none

iter_asked : {E : Type 0} (nfa : Bor Automaton) (result : Result (Option Shown) E)
    → IfOk result (λ found. (r : Regex) → AreOf nfa.now.sets r → MatchOption found
    (HasOneFactoring nfa.now.cells.layout.columns r)
    (IsShortestShown nfa.now.cells.layout.columns (iter r)))
    → IfOk result (Answers (Iter nfa))
iter_asked nfa (Err e) says = tt
iter_asked nfa (Ok found) says = asked
  where
    asked : Answers (Iter nfa) found
    asked (choice r s) none = absurd none
    asked (split r s) none = absurd none
    asked (iter r) of_r = says r of_r

-- each form of a question
pub answers_choice : {E : Type 0} (ask : Ask) (first second : Bor Automaton)
    (result : Result (Option Shown) E) → ask ≡ Choice first second
    → IfOk result (λ found. (r s : Regex)
    → AreOf first.now.sets r → AreOf second.now.sets s → MatchOption found
    (AreDisjoint first.now.cells.layout.columns r s)
    (IsShortestShown first.now.cells.layout.columns (choice r s)))
    → IfOk result (Answers ask)
answers_choice ask first second result is says =
    answers_as ask (Choice first second) result is (choice_asked first second result says)

pub answers_split : {E : Type 0} (ask : Ask) (first second : Bor Automaton)
    (result : Result (Option Shown) E) → ask ≡ Split first second
    → IfOk result (λ found. (r s : Regex)
    → AreOf first.now.sets r → AreOf second.now.sets s → MatchOption found
    (HaveOneSplit first.now.cells.layout.columns r s)
    (IsShortestShown first.now.cells.layout.columns (split r s)))
    → IfOk result (Answers ask)
answers_split ask first second result is says =
    answers_as ask (Split first second) result is (split_asked first second result says)

pub answers_iter : {E : Type 0} (ask : Ask) (nfa : Bor Automaton) (result : Result (Option Shown) E)
    → ask ≡ Iter nfa → IfOk result (λ found. (r : Regex) → AreOf nfa.now.sets r
    → MatchOption found (HasOneFactoring nfa.now.cells.layout.columns r)
    (IsShortestShown nfa.now.cells.layout.columns (iter r)))
    → IfOk result (Answers ask)
answers_iter ask nfa result is says =
    answers_as ask (Iter nfa) result is (iter_asked nfa result says)
