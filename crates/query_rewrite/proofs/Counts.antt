-- What a node keeps is no more where its operands keep no more.
use Rattle.std.proofs.Common.{◌≡◌, ◌≤◌, ◌+◌, ◌*◌, ℕ, arith}
use Rattle.std.proofs.lemmas.Nat.{mul-le}

plus_same : (x x' y y' z : ℕ) → x' ≤ x → y' ≤ y → x' + y' + z ≤ x + y + z
plus_same x x' y y' z first second = omega arith

plus_less : (x x' y y' : ℕ) → x' ≤ x → y' ≤ y → x' + y' ≤ x + y
plus_less x x' y y' first second = omega arith

-- a split, where the operands' width and places stay
pub split_keeps : (x x' y y' w w' p p' : ℕ) → x' ≤ x → y' ≤ y → w' ≡ w → p' ≡ p
    → x' + y' + (2 + w') * p' ≤ x + y + (2 + w) * p
split_keeps x x' y y' w w' p p' first second width places =
    rw (width, places) (plus_same x x' y y' ((2 + w) * p) first second)

-- as many runners, each of which keeps no more
runners_keep : (n y y' w : ℕ) → y' ≤ y → n * (1 + (y' + 1 + w)) ≤ n * (1 + (y + 1 + w))
runners_keep n y y' w less =
    mul-le n (1 + (y' + 1 + w)) n (1 + (y + 1 + w)) (omega arith) (omega arith)

-- a composition
pub compose_keeps : (x x' p p' y y' w w' : ℕ) → x' ≤ x → p' ≡ p → y' ≤ y → w' ≡ w
    → x' + (p' + 1) * (1 + (y' + 1 + w')) ≤ x + (p + 1) * (1 + (y + 1 + w))
compose_keeps x x' p p' y y' w w' first places second width =
    rw (places, width) (plus_less x x' ((p + 1) * (1 + (y + 1 + w)))
    ((p + 1) * (1 + (y' + 1 + w))) first (runners_keep (p + 1) y y' w second))

-- a collect
pub collect_keeps : (s x x' w w' : ℕ) → x' ≤ x → w' ≡ w
    → (s + 1) * (1 + s + (x' + 1 + w')) ≤ (s + 1) * (1 + s + (x + 1 + w))
collect_keeps s x x' w w' less width =
    rw width (mul-le (s + 1) (1 + s + (x' + 1 + w)) (s + 1) (1 + s + (x + 1 + w))
    (omega arith) (omega arith))
