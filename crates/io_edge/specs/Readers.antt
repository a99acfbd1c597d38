-- Statement. A source over a reader: what is left of it, and that it is closed at its end.
use Rattle.std.specs.Prelude.{◌≡◌, ◌<◌, ℕ, List, [], Option, Some, None}

-- the reader while it is open, and the counts
pub record ReaderState (I : Type 0) : Type 0 where
  pub input : Option I
  pub faults : ℕ
  pub ends : ℕ

-- the bytes that are left to read, if they are known; nothing is left after the reader is closed
abbrev pub left_of : {I : Type 0} → (I → Option (List ℕ)) → Option I → Option (List ℕ)
left_of remaining (Some input) = remaining input
left_of remaining None = Some []

-- it is closed as soon as its end is met
abbrev pub ClosesAtEnd : {I : Type 0} → ReaderState I → Type 0
ClosesAtEnd source = 0 < source.ends → source.input ≡ None
