-- Statement. Texts joined to one. A `\` stands before each `\` and each `|` of a text, so that a
-- `|` without it stands between two texts.
use Rattle.std.specs.Prelude.{◌==◌, ◌||◌, ℕ, Bool, List, [], ◌∷◌, ◌++◌, if◌then◌else◌}
use Rattle.std.specs.List.{flat_map}

-- `|`
abbrev pub bar : ℕ
bar = 124

-- `\`
abbrev pub backslash : ℕ
backslash = 92

-- a byte that stands for itself only after a `\`
abbrev pub is_mark : ℕ → Bool
is_mark byte = byte == bar || byte == backslash

-- a byte of a text
abbrev pub escaped_byte : ℕ → List ℕ
escaped_byte byte = if is_mark byte then backslash ∷ byte ∷ [] else byte ∷ []

-- a text
abbrev pub escaped : List ℕ → List ℕ
escaped text = flat_map escaped_byte text

-- texts, each after a `|`
abbrev pub after_bars : List (List ℕ) → List ℕ
after_bars texts = flat_map (λ text. bar ∷ escaped text) texts

-- texts with a `|` between them
abbrev pub joined : List (List ℕ) → List ℕ
joined [] = []
joined (text ∷ texts) = escaped text ++ after_bars texts
