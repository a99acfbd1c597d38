-- Sums of what is kept, where each part is at most so much.
use Rattle.std.proofs.Common.{◌≡◌, ◌≤◌, ◌+◌, ◌*◌, ℕ, List, [], ◌∷◌, length, sum_by, ap, arith}
use Rattle.std.specs.List.{Contains}
use Rattle.std.proofs.Math.Nat.{add-mul, mul-add, mul-le-mul_left, mul-le-mul_right, mul_assoc}
use Rattle.std.proofs.Math.Nat.{mul_comm, suc-mul}
use Rattle.std.proofs.lemmas.List.Sums.{sum_by-cons}
use Rattle.eval_nodes.proofs.Members.{first_member, later_member}

pub sum_few : {A : Type 0} (size : A → ℕ) (most : ℕ) (xs : List A)
    → ((x : A) → Contains xs x → size x ≤ most) → sum_by size xs ≤ length xs * most
sum_few size most [] each = omega arith
sum_few size most (x ∷ xs) each =
    let whole = sum_by-cons size x xs in
    let first = each x (first_member x xs) in
    let rest = sum_few size most xs (λ y there. each y (later_member x y xs there)) in
    let parts = suc-mul (length xs) most in
    omega (arith, whole, first, rest, parts)

-- of more keys
pub scaled : (x a k n : ℕ) → x ≤ a * (1 + k) → k ≤ n → x ≤ a * (1 + n)
scaled x a k n few less =
    let up : 1 + k ≤ 1 + n = omega (arith, less) in
    let more = mul-le-mul_left a up in
    omega (arith, few, more)

-- of two parts, and of three
pub two_parts : (x y a b n : ℕ) → x ≤ a * (1 + n) → y ≤ b * (1 + n) → x + y ≤ (a + b) * (1 + n)
two_parts x y a b n first second =
    let parts = add-mul a b (1 + n) in omega (arith, first, second, parts)

pub three_parts : (x y z a b c n : ℕ) → x ≤ a * (1 + n) → y ≤ b * (1 + n) → z ≤ c * (1 + n)
    → x + y + z ≤ (a + b + c) * (1 + n)
three_parts x y z a b c n first second third =
    let both = two_parts x y a b n first second in
    let parts = add-mul (a + b) c (1 + n) in
    omega (arith, both, third, parts)

-- this many of this much each
pub many_parts : (x count places each n : ℕ) → x ≤ count * (each * (1 + n)) → count ≤ places
    → x ≤ places * each * (1 + n)
many_parts x count places each n few fewer =
    let up = mul-le-mul_right (each * (1 + n)) fewer in
    let same = mul_assoc places each (1 + n) in
    omega (arith, few, up, same)

-- a value of this width that has this many entries at the most, with what is kept beside it
pub value_fits : (beside width n size : ℕ) → 1 ≤ beside → size ≤ width + n
    → beside + size ≤ (beside + width) * (1 + n)
value_fits beside width n size some few =
    let whole = mul-add (beside + width) 1 n in
    let turned = mul_comm (beside + width) n in
    let some_of_all : 1 ≤ beside + width = omega (arith, some) in
    let less = mul-le-mul_left n some_of_all in
    omega (arith, few, whole, turned, less)

-- two lists of such
pub together : (x y i j places each n : ℕ) → x ≤ i * (each * (1 + n)) → y ≤ j * (each * (1 + n))
    → i + j ≡ places → x + y ≤ places * each * (1 + n)
together x y i j places each n first second full =
    let parts = add-mul i j (each * (1 + n)) in
    many_parts (x + y) (i + j) places each n (omega (arith, first, second, parts))
    (omega (arith, full))

-- a start of a collect: the start, a state of this many positions at the most, and what is
-- kept for its keys
pub track_fits : (state size keys slots n : ℕ) → state ≤ size → keys ≤ slots + n * (1 + slots)
    → 1 + state + keys ≤ (1 + size + slots) * (1 + n)
track_fits state size keys slots n few kept =
    let whole = mul-add (1 + size + slots) 1 n in
    let turned = mul_comm (1 + size + slots) n in
    let fewer : 1 + slots ≤ 1 + size + slots = omega arith in
    let less = mul-le-mul_left n fewer in
    omega (arith, few, kept, whole, turned, less)

pub in_turn : (x a b n : ℕ) → x ≤ a * b * (1 + n) → x ≤ b * a * (1 + n)
in_turn x a b n few =
    let same = ap (λ (m : ℕ). m * (1 + n)) (mul_comm a b) in omega (arith, few, same)
