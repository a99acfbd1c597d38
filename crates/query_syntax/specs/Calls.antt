-- For the prover. Calls that stand before other terms.
use Rattle.std.specs.Prelude.{◌≡◌, ℕ, List}
use Rattle.language_base.specs.declared.span.Span.{Span}
use Rattle.query_forms.specs.Terms.{Terms, call}
use Rattle.query_parser.specs.declared.term.Term.{Term}
use Rattle.query_parser.specs.Plain.{terms_of}

-- what is written before other terms is the call of this word with these arguments
abbrev pub IsCall : List ℕ → List Term → Span → (Terms → Terms) → Type 0
IsCall word arguments span written =
    (rest : Terms) → call word (terms_of arguments) span rest ≡ written rest
