-- For the prover. Why there are no lines of origins. Want of memory says nothing of the text.
use Rattle.std.specs.Prelude.{◌≡◌, ◌⊎◌, ◌<◌, ℕ, ◌+◌, List, length}
use Rattle.language_base.specs.Limits.{max_text}
use Rattle.language_base.specs.declared.refusal.Refusal.{Refusal}
use Rattle.language_base.specs.declared.rule.Rule.TheVariants as rule
use Rattle.query_parser.specs.Reading as reading
use Rattle.template_expansion.specs.Meaning.{IsExpansionOf, IsRefused}
use Rattle.template_expansion.specs.declared.stop.ExpandStop.{ExpandStop}
use Rattle.template_expansion.specs.declared.stop.ExpandStop.TheVariants.{Memory, Refused, Template}

-- the plain query is too long for a text
abbrev pub IsLong : List ℕ → Refusal → Type 0
IsLong text refusal = (plain : List ℕ) × IsExpansionOf text plain × (max_text < length plain)
    × (refusal ≡ reading.refusal rule.Long max_text (max_text + 1))

-- the text is refused, or its plain query is too long
abbrev pub IsOriginStop : List ℕ → ExpandStop → Type 0
IsOriginStop text (Refused refusal) = IsRefused text (Refused refusal) ⊎ IsLong text refusal
IsOriginStop text (Template refusal) = IsRefused text (Template refusal)
IsOriginStop text Memory = Unit {0}
