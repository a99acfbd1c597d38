-- Statement. What each command writes about a text.
use Rattle.std.specs.Prelude.{◌≡◌, ◌⊎◌, ℕ, List, []}
use Rattle.template_expansion.specs.Meaning.{IsExpansionOf}
use Rattle.expand_run.specs.Explanations.{ExplainsRefusal}
use Rattle.expand_run.specs.Marks.{mark_text}
use Rattle.expand_run.specs.OriginLines.{AreOriginsOf, TellsLong}
use Rattle.expand_run.specs.RefusalTexts.{TellsRefusal}
use Rattle.expand_run.specs.declared.command.Command.{Command}
use Rattle.expand_run.specs.declared.command.Command.TheVariants.{Expand, Origins, Explain, Mark}

-- the text stands for a plain query
abbrev pub HasPlain : List ℕ → Type 0
HasPlain text = (plain : List ℕ) × IsExpansionOf text plain

-- what it asks for: the plain query, where its nodes come from, no explanation where there is a
-- plain query, or a place
abbrev pub Answers : Command → List ℕ → List ℕ → Type 0
Answers Expand text lines = IsExpansionOf text lines
Answers Origins text lines = AreOriginsOf text lines
Answers Explain text lines = HasPlain text × (lines ≡ [])
Answers (Mark place) text lines = lines ≡ mark_text text place

-- why the text is refused, or that its plain query is too long to have places; a place is shown in
-- any text
abbrev pub Refuses : Command → List ℕ → List ℕ → Type 0
Refuses Expand text lines = TellsRefusal text lines
Refuses Origins text lines = TellsRefusal text lines ⊎ TellsLong text lines
Refuses Explain text lines = ExplainsRefusal text lines
Refuses (Mark place) text lines = ⊥
