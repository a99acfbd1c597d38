-- Statement. The text that says by which lines two queries differ.
use Rattle.std.specs.Prelude.{ℕ, List, [], ◌∷◌, ◌++◌, codes}
use Rattle.std.specs.List.{flat_map}
use Rattle.separating_word.specs.declared.separation.Side.{Side}
use Rattle.separating_word.specs.declared.separation.Side.TheVariants.{Left, Right}

-- which query alone has a value, and on what
unfoldable pub said_of : Side → List (List ℕ) → List ℕ
said_of Left [] = codes "Only the left operand has a value on no items at all.\n"
said_of Right [] = codes "Only the right operand has a value on no items at all.\n"
said_of Left (line ∷ lines) = codes "Only the left operand has a value on these items:\n"
said_of Right (line ∷ lines) = codes "Only the right operand has a value on these items:\n"

-- a line as it is shown
abbrev pub shown_line : List ℕ → List ℕ
shown_line line = codes "    " ++ line ++ codes "\n"

-- this sentence and the lines
abbrev pub separation_text : Side → List (List ℕ) → List ℕ
separation_text side lines = said_of side lines ++ flat_map shown_line lines
