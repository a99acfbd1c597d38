-- Texts with a mark between each two.
use Rattle.std.proofs.Common.{◌≡◌, ℕ, List, [], ◌∷◌, ◌++◌, ◌≤◌, length, get_or, take, drop, refl}
use Rattle.std.proofs.Common.{arith}
use Rattle.std.specs.List.{flat_map, join_by}
use Rattle.std.proofs.lemmas.List.{take_all}

-- a thing after another: the mark, and its text
abbrev pub marked : {X : Type 0} → (X → List ℕ) → List ℕ → X → List ℕ
marked text mark x = mark ++ text x

-- the text of the first, and those of all others after it, are the text of all
pub all_joined : {X : Type 0} (text : X → List ℕ) (mark : List ℕ) (xs : List X) (first : X)
    (others : List X) (count : ℕ) → 1 ≤ length xs → first ≡ get_or xs 0 first → others ≡ drop 1 xs
    → length others ≤ count
    → text first ++ flat_map (marked text mark) (take count others) ≡ join_by text mark xs
all_joined text mark [] first others count some is after all = absurd (omega arith)
all_joined text mark (x ∷ xs) first others count some is after all =
    rw (is, take_all count others all, after) refl

-- what is first, if there is one, whatever stands for what is not there
pub first_same : {X : Type 0} (xs : List X) (d : X) → 1 ≤ length xs
    → get_or xs 0 d ≡ get_or xs 0 (get_or xs 0 d)
first_same [] d some = absurd (omega arith)
first_same (x ∷ xs) d some = refl
