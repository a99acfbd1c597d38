-- Statement. Lists without repetitions, in rising order.
use Rattle.std.specs.Prelude.{List, [], ◌∷◌}
use Rattle.std.specs.BTreeSet.{insert_key}
use Rattle.std.specs.declared.cmp.Ordering.{Ordering}

-- the members of a list from the least to the greatest, each of them once
unfoldable pub rising : {A : Type 0} → (A → A → Ordering) → List A → List A
rising cmp [] = []
rising cmp (x ∷ xs) = insert_key cmp (rising cmp xs) x
