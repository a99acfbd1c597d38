-- Statement. What it is to reply to one line of a stream, for anything that replies to lines, where
-- `Stands first lines now` says that from where `first` stands `now` stands after these lines, and
-- `Says first lines text` what a text is to the lines that it is written for from there on.
use Rattle.std.specs.Prelude.{ℕ, List, [], ◌∷◌, ◌++◌}
use Rattle.io_edge.specs.Lines.{Shown}

-- One line is taken by what is `old` before it and `new` after it, and this is written. Wherever it
-- began, and whichever lines came before this one, it stands after these and the line, and the text
-- for these and then this one is a text for these and the line.
pub record Replies {S : Type 0} (Stands : S → List Shown → S → Type 0)
    (Says : S → List Shown → List ℕ → Type 0) (line : Shown) (written : List ℕ) (old new : S)
    : Type 0 where
  pub stands : (first : S) (before : List Shown) → Stands first before old
      → Stands first (before ++ line ∷ []) new
  pub says : (first : S) (before : List Shown) (text : List ℕ) → Stands first before old
      → Says first before text → Says first (before ++ line ∷ []) (text ++ written)
