-- Values of a type whose bytes are few have bytes that can be read again.
use Rattle.std.proofs.Common.{◌<◌, ◌≤◌, ◌^◌, ℕ, suc, List, [], ◌∷◌, ◌++◌, Option, Some, None}
use Rattle.std.proofs.Common.{length, subst, sym, arith}
use Rattle.std.specs.List.{All, AllByRecursion, flat_map}
use Rattle.std.proofs.lemmas.List.{length-append}
use Rattle.few_parts.specs.Sizes.{IsRecordSize}
use Rattle.value_ops.specs.Entries.{values_of}
use Rattle.value_ops.specs.Types.{IsScalar, IsValueOf}
use Rattle.value_ops.specs.declared.scalar.Scalar.{Scalar}
use Rattle.value_ops.specs.declared.scalar.Scalar.TheVariants as scalar
use Rattle.value_ops.specs.declared.value.Value.{Value}
use Rattle.value_ops.specs.declared.value.Value.TheVariants as value
use Rattle.value_ops.specs.declared.value.ValueType.{ValueType}
use Rattle.value_ops.specs.declared.value.ValueType.TheVariants.{Number, Rec, Table}
use Rattle.eval_nodes.specs.Sound.{IsTyped}
use Rattle.runner_snapshot.specs.Bytes.{answer_bytes, entry_bytes, in_eight, in_four, scalar_bytes}
use Rattle.runner_snapshot.specs.Bytes.{text_bytes, value_bytes, waiting_bytes}
use Rattle.runner_snapshot.specs.Ranges.{AreCounted, IsReadableAnswer, IsTableEntry, IsValue}
use Rattle.runner_snapshot.specs.Ranges.{IsWaiting}
use Rattle.runner_snapshot.specs.declared.entries.Entry.{Entry}
use Rattle.eval_snapshot.specs.Fits.{FitsWaiting}

-- ---- bytes

-- so few that each list of them has a count
abbrev pub AreFew : List ℕ → Type 0
AreFew bytes = length bytes < 2 ^ 32

pub front : (a b : List ℕ) → AreFew (a ++ b) → AreFew a
front a b few = let both = length-append a b in omega (arith, few, both)

pub back : (a b : List ℕ) → AreFew (a ++ b) → AreFew b
back a b few = let both = length-append a b in omega (arith, few, both)

pub under : (byte : ℕ) (bytes : List ℕ) → AreFew (byte ∷ bytes) → AreFew bytes
under byte bytes few = omega (arith, few)

-- at least as many, with others before or after them
pub after : (a b : List ℕ) (n : ℕ) → n ≤ length b → n ≤ length (a ++ b)
after a b n many = let both = length-append a b in omega (arith, many, both)

pub before : (a b : List ℕ) (n : ℕ) → n ≤ length a → n ≤ length (a ++ b)
before a b n many = let both = length-append a b in omega (arith, many, both)

pub grows : (a b : List ℕ) (n : ℕ) → 1 ≤ length a → n ≤ length b → suc n ≤ length (a ++ b)
grows a b n some many = let both = length-append a b in omega (arith, some, many, both)

-- a list has no more elements than bytes, where each element has some
count_within : {A : Type 0} (f : A → List ℕ) → ((x : A) → 1 ≤ length (f x)) → (xs : List A)
    → length xs ≤ length (flat_map f xs)
count_within f some [] = omega arith
count_within f some (x ∷ xs) =
    grows (f x) (flat_map f xs) (length xs) (some x) (count_within f some xs)

pub counted : {A : Type 0} (f : A → List ℕ) → ((x : A) → 1 ≤ length (f x)) → (xs : List A)
    → AreFew (flat_map f xs) → length xs < 2 ^ 32
counted f some xs few = let within = count_within f some xs in omega (arith, few, within)

-- ---- values

scalar_some : (one : Scalar) → 1 ≤ length (scalar_bytes one)
scalar_some (scalar.Number number) = omega arith
scalar_some scalar.Overflow = omega arith
scalar_some scalar.DivZero = omega arith

value_some : (one : Value) → 1 ≤ length (value_bytes one)
value_some (value.Scalar one) = scalar_some one
value_some (value.Table entries) = omega arith
value_some (value.Rec parts) = omega arith

pub answer_some : (answer : Option Value) → 1 ≤ length (answer_bytes answer)
answer_some None = omega arith
answer_some (Some one) = value_some one

-- what holds of the element at each place
each_of : {A : Type 0} (P : A → Type 0) (xs : List A) → All P xs → AllByRecursion P xs
each_of P [] all = tt
each_of P (x ∷ xs) all =
    (all 0 x (omega arith), each_of P xs (λ k d within. all (suc k) d (omega (arith, within))))

entry_some : (entry : List ℕ × Scalar) → 1 ≤ length (entry_bytes entry)
entry_some entry = after (text_bytes entry.0) (scalar_bytes entry.1) 1 (scalar_some entry.1)

entries_spelled : (entries : List (List ℕ × Scalar)) → AllByRecursion IsScalar (values_of entries)
    → AreFew (flat_map entry_bytes entries) → AllByRecursion IsTableEntry entries
entries_spelled [] all few = tt
entries_spelled (entry ∷ entries) all few =
    let one = front (entry_bytes entry) (flat_map entry_bytes entries) few in
    let text = front (text_bytes entry.0) (scalar_bytes entry.1) one in (
      (back (in_four (length entry.0)) entry.0 text, all.0),
      entries_spelled entries all.1 (back (entry_bytes entry) (flat_map entry_bytes entries) few),
    )

pub value_spelled : (type : ValueType) (one : Value) → IsValueOf type one
    → AreFew (value_bytes one) → IsValue one
value_spelled Number (value.Scalar one) is few = is
value_spelled (Rec size) (value.Rec parts) is few =
    (subst IsRecordSize (sym is.count) is.few, each_of IsScalar parts is.scalars)
value_spelled Table (value.Table entries) is few =
    let bytes = back (in_four (length entries)) (flat_map entry_bytes entries)
    (under 3 (in_four (length entries) ++ flat_map entry_bytes entries) few) in (
      (
        counted entry_bytes entry_some entries bytes,
        entries_spelled entries (each_of IsScalar (values_of entries) is.scalars) bytes,
      ),
      is.distinct,
    )
value_spelled Number (value.Table entries) is few = absurd is
value_spelled Number (value.Rec parts) is few = absurd is
value_spelled (Rec size) (value.Scalar one) is few = absurd is
value_spelled (Rec size) (value.Table entries) is few = absurd is
value_spelled Table (value.Scalar one) is few = absurd is
value_spelled Table (value.Rec parts) is few = absurd is

pub answer_spelled : (type : ValueType) (answer : Option Value) → IsTyped type answer
    → AreFew (answer_bytes answer) → IsReadableAnswer answer
answer_spelled type None is few = tt
answer_spelled type (Some one) is few = value_spelled type one is few

-- ---- values that wait

waiting_some : (entry : Entry) → 1 ≤ length (waiting_bytes entry)
waiting_some entry =
    after (in_eight entry.inner) (in_eight entry.outer ++ value_bytes entry.value) 1
    (after (in_eight entry.outer) (value_bytes entry.value) 1 (value_some entry.value))

waiting_each : (type : ValueType) (position : ℕ) (entries : List Entry) → position < 2 ^ 64
    → AllByRecursion (FitsWaiting type position) entries → AreFew (flat_map waiting_bytes entries)
    → AllByRecursion IsWaiting entries
waiting_each type position [] far all few = tt
waiting_each type position (entry ∷ entries) far all few =
    let outer = all.0.outer in
    let inner = all.0.inner in
    let one = front (waiting_bytes entry) (flat_map waiting_bytes entries) few in
    let starts = back (in_eight entry.inner) (in_eight entry.outer ++ value_bytes entry.value) one in (
      (
        omega (arith, inner, far),
        omega (arith, outer, inner, far),
        value_spelled type entry.value all.0.typed
            (back (in_eight entry.outer) (value_bytes entry.value) starts),
      ),
      waiting_each type position entries far all.1
          (back (waiting_bytes entry) (flat_map waiting_bytes entries) few),
    )

pub waiting_spelled : (type : ValueType) (position : ℕ) (entries : List Entry) → position < 2 ^ 64
    → AllByRecursion (FitsWaiting type position) entries
    → AreFew (in_four (length entries) ++ flat_map waiting_bytes entries)
    → AreCounted IsWaiting entries
waiting_spelled type position entries far all few =
    let bytes = back (in_four (length entries)) (flat_map waiting_bytes entries) few in (
      counted waiting_bytes waiting_some entries bytes,
      waiting_each type position entries far all bytes,
    )
