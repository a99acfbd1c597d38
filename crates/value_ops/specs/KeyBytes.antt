-- For the prover. How a table keeps its entries: the bytes of all keys in one list.
use Rattle.std.specs.Prelude.{◌≡◌, ◌≤◌, ℕ, List, [], ◌∷◌, map}
use Rattle.std.specs.List.{between}
use Rattle.value_ops.specs.declared.scalar.Scalar.{Scalar}
use Rattle.value_ops.specs.declared.entries.Entry.{Entry}

-- the entries, whose keys lie one after the other in the bytes, the first from a place on
abbrev pub entries_from : ℕ → List Entry → List ℕ → List (List ℕ × Scalar)
entries_from start [] bytes = []
entries_from start (entry ∷ entries) bytes =
    (between start entry.end bytes, entry.value) ∷ entries_from entry.end entries bytes

-- no key ends before it begins, and the last one ends with the bytes
abbrev pub KeysFill : ℕ → List Entry → ℕ → Type 0
KeysFill start [] size = start ≡ size
KeysFill start (entry ∷ entries) size = (start ≤ entry.end) × KeysFill entry.end entries size

-- where the keys end
abbrev pub ends_of : List Entry → List ℕ
ends_of entries = map (λ e. e.end) entries
