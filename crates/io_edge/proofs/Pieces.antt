-- Bytes that a sink takes in pieces.
use Rattle.std.proofs.Common.{ℕ, ◌+◌, List, Option, take, drop, sym, subst, take-add}
use Rattle.std.proofs.lemmas.List.{take-append-drop}
use Rattle.std.specs.Io.KnownBytes.{Appends, Keeps}
use Rattle.std.proofs.KnownBytes.{Appends-trans, Appends-kept}
use Rattle.io_edge.specs.Written.{AppendsSome}

-- m more bytes after the first n
pub Appends-take : (a b c : Option (List ℕ)) (bytes : List ℕ) (n m : ℕ)
    → Appends a b (take n bytes) → Appends b c (take m (drop n bytes))
    → Appends a c (take (n + m) bytes)
Appends-take a b c bytes n m front next =
    subst (Appends a c) (sym (take-add n m bytes))
    (Appends-trans a b c (take n bytes) (take m (drop n bytes)) front next)

-- nothing after the first n
pub AppendsSome-take : (a b c : Option (List ℕ)) (bytes : List ℕ) (n : ℕ)
    → Appends a b (take n bytes) → Keeps b c → AppendsSome a c bytes
AppendsSome-take a b c bytes n front kept = (
  take n bytes,
  drop n bytes,
  sym (take-append-drop n bytes),
  Appends-kept a b c (take n bytes) front kept,
)
