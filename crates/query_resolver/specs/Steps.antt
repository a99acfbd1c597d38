-- Statement. One step after another, of which each may stop.
use Rattle.std.specs.Prelude.{Bool, Option, None, Some, Result, Ok, Err, if◌then◌else◌}
use Rattle.language_base.specs.declared.refusal.Refusal.{Refusal}
use Rattle.language_base.specs.declared.rule.Rule.{Rule}
use Rattle.language_base.specs.declared.span.Span.{Span}

infixl 10 ◌>>=◌
-- the next step, unless the one before it stopped
abbrev pub ◌>>=◌ : {A B E : Type 0} → Result A E → (A → Result B E) → Result B E
Ok value >>= next = next value
Err stop >>= next = Err stop

-- a step that stops if a place was found
abbrev pub unless : Option Span → Result (Unit {0}) Span
unless None = Ok tt
unless (Some span) = Err span

-- a refusal by a rule
abbrev pub refusal : Rule → Span → Refusal
refusal rule span = record { rule = rule; span = span }

-- the refusal by a rule at the place where a step stopped
abbrev pub because : {A : Type 0} → Rule → Result A Span → Result A Refusal
because rule (Ok value) = Ok value
because rule (Err span) = Err (refusal rule span)

-- a step that is refused at a place if a test fails
abbrev pub provided : Rule → Span → Bool → Result (Unit {0}) Refusal
provided rule span passes = if passes then Ok tt else Err (refusal rule span)

-- a step that is refused at a place if there is no value
abbrev pub found : {A : Type 0} → Rule → Span → Option A → Result A Refusal
found rule span None = Err (refusal rule span)
found rule span (Some value) = Ok value
