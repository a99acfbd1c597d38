-- Statement. The drawing that stands after the explanation of a query with a word of two readings.
use Rattle.std.specs.Prelude.{◌≡◌, ℕ, List}
use Rattle.language_base.specs.declared.refusal.Refusal.{Refusal}
use Rattle.ambiguity_example.specs.Shows.{Shown}
use Rattle.drawn_example.specs.Drawings.{drawing, readers_of}
use Rattle.query_compiler.specs.Ambiguities.{ShowsWhy}

-- it draws a word that shows why the text is refused, as a run of `why` shows one
pub record DrawsWhy (text : List ℕ) (why : Refusal) (drawn : List ℕ) : Type 0 where
  pub word : Shown
  pub shows : ShowsWhy text why word
  pub lines : drawn ≡ drawing shows.node.columns (readers_of shows.question) word
