-- What a record keeps determines its scalars, and is determined by them.
use Rattle.std.proofs.Common.{◌≡◌, ◌<◌, ◌≤◌, ◌+◌, ◌-◌, ℕ, zero, suc, ℤ, pos, List, [], ◌∷◌, ◌++◌}
use Rattle.std.proofs.Common.{length, get_or, set, take, replicate, map, slice_get, All, Some, refl}
use Rattle.std.proofs.Common.{◌∙◌, ap, ap₂, sym, subst, arith, rules, append_assoc, lt_of_not-le}
use Rattle.std.proofs.Common.{FitsSigned, w64, to_z, of_z, to_z-of_z}
use Rattle.std.proofs.lemmas.List.{get_or_default, length-map, length-take-le, length_push}
use Rattle.std.proofs.lemmas.List.{map_push, set_at, take_all, take_more}
use Rattle.std.proofs.lemmas.List.Elements.{All-more}
use Rattle.value_ops.specs.declared.rec.Part.{Part}
use Rattle.value_ops.specs.declared.rec.Part.TheVariants.{Absent}
use Rattle.value_ops.specs.declared.scalar.Scalar.{Scalar}
use Rattle.value_ops.specs.declared.scalar.Scalar.TheVariants.{Number, Overflow, DivZero}
use Rattle.value_ops.specs.Records.{IsKept, filled, number_of, numbers_of, part_of, parts_of}
use Rattle.value_ops.specs.Records.{scalar_with, scalars_of}
use Rattle.few_parts.specs.Sizes.{IsRecordSize}
use Rattle.value_ops.specs.Types.{IsScalar}

-- what scalars fill, whatever stands after them, has them
scalars_back : (scalars : List Scalar) (n : ℕ)
    → scalars_of (map part_of scalars ++ replicate n Absent)
    (map number_of scalars ++ replicate n (pos 0)) ≡ scalars
scalars_back [] zero = refl
scalars_back [] (suc n) = refl
scalars_back (Number x ∷ scalars) n = ap (λ rest. Number x ∷ rest) (scalars_back scalars n)
scalars_back (Overflow ∷ scalars) n = ap (λ rest. Overflow ∷ rest) (scalars_back scalars n)
scalars_back (DivZero ∷ scalars) n = ap (λ rest. DivZero ∷ rest) (scalars_back scalars n)

-- so what they fill is a record of them
kept_of : (scalars : List Scalar) (parts : List Part) (numbers : List ℤ)
    → parts ≡ parts_of scalars → numbers ≡ numbers_of scalars → IsRecordSize (length scalars)
    → All IsScalar scalars → IsKept parts numbers × (scalars_of parts numbers ≡ scalars)
kept_of scalars parts numbers parts_are numbers_are size all =
    let back : scalars_of parts numbers ≡ scalars =
    ap₂ scalars_of parts_are numbers_are ∙ scalars_back scalars (8 - length scalars) in (
      record {
        same_parts = ap parts_of back ∙ sym parts_are;
        same_numbers = ap numbers_of back ∙ sym numbers_are;
        size = subst (λ (s : List Scalar). IsRecordSize (length s)) (sym back) size;
        scalars = subst (All IsScalar) (sym back) all;
      },
      back,
    )

-- what fills places begins with one of them
replicate_less : {A : Type 0} (n : ℕ) (x : A) → 0 < n → replicate n x ≡ x ∷ replicate (n - 1) x
replicate_less zero x some = absurd (omega arith)
replicate_less (suc n) x some =
    let same : n ≡ suc n - 1 = omega arith in
    ap (λ m. x ∷ replicate m x) same

-- one more scalar is filled in after those before it
filled_push : {A : Type 0} (said : Scalar → A) (blank : A) (room : ℕ) (front : List Scalar)
    (scalar : Scalar) → length front < room
    → set (filled said blank room front) (length front) (said scalar)
    ≡ filled said blank room (front ++ scalar ∷ [])
filled_push {A} said blank room front scalar within =
    let free : 0 < room - length front = omega arith in
    let others : List A = replicate (room - length front - 1) blank in
    let places : replicate (room - length front) blank ≡ blank ∷ others =
    replicate_less (room - length front) blank free in
    let fewer : room - length (front ++ scalar ∷ []) ≡ room - length front - 1 =
    omega (arith, length_push front scalar) in
    ap (λ (b : List A). set (map said front ++ b) (length front) (said scalar)) places
    ∙ set_at (map said front) blank others (said scalar) (length front) (length-map front said)
    ∙ sym (
    ap (λ m. map said (front ++ scalar ∷ []) ++ replicate m blank) fewer
    ∙ ap (λ (b : List A). b ++ others) (map_push said front scalar)
    ∙ append_assoc (map said front) (said scalar ∷ []) others
    )

-- the same of the scalars of a list
pub filled_more : {A : Type 0} (said : Scalar → A) (blank : A) (room : ℕ) (scalars : List Scalar)
    (i : ℕ) (scalar : Scalar) → i < length scalars → length scalars ≤ room
    → scalar ≡ get_or scalars i scalar
    → set (filled said blank room (take i scalars)) i (said scalar)
    ≡ filled said blank room (take (i + 1) scalars)
filled_more said blank room scalars i scalar within fit is =
    let count : length (take i scalars) ≡ i = length-take-le i scalars (omega arith) in
    let more : take (i + 1) scalars ≡ take i scalars ++ scalar ∷ [] =
    take_more scalars i scalar within ∙ ap (λ last. take i scalars ++ last ∷ []) (sym is) in
    ap (λ n. set (filled said blank room (take i scalars)) n (said scalar)) (sym count)
    ∙ filled_push said blank room (take i scalars) scalar (omega arith)
    ∙ ap (filled said blank room) (sym more)

-- a scalar is what it is, with its number
scalar_is : (scalar : Scalar) → Some scalar ≡ scalar_with (part_of scalar) (number_of scalar)
scalar_is (Number x) = refl
scalar_is Overflow = refl
scalar_is DivZero = refl

read_back : (scalars : List Scalar) (n i : ℕ) (p : Part) (x : ℤ) → i < length scalars
    → slice_get scalars i ≡ scalar_with (get_or (map part_of scalars ++ replicate n Absent) i p)
    (get_or (map number_of scalars ++ replicate n (pos 0)) i x)
read_back [] n i p x within = absurd (omega arith)
read_back (first ∷ scalars) n zero p x within = scalar_is first
read_back (first ∷ scalars) n (suc i) p x within = read_back scalars n i p x (omega arith)

-- its number is one of 64 bits
number_fits : (scalar : Scalar) → IsScalar scalar → FitsSigned w64 (number_of scalar)
number_fits (Number x) fits = fits
number_fits Overflow fits = search rules
number_fits DivZero fits = search rules

number_at : (scalars : List Scalar) (n i : ℕ) (x : ℤ) → i < length scalars
    → get_or (map number_of scalars ++ replicate n (pos 0)) i x
    ≡ number_of (get_or scalars i DivZero)
number_at [] n i x within = absurd (omega arith)
number_at (first ∷ scalars) n zero x within = refl
number_at (first ∷ scalars) n (suc i) x within = number_at scalars n i x (omega arith)

-- a scalar that is read is the one at its place
pub part_read : (scalars : List Scalar) (parts : List Part) (numbers : List ℤ) (i : ℕ)
    (p : Part) (x : ℤ) → scalars_of parts numbers ≡ scalars → IsKept parts numbers
    → i < length scalars → slice_get scalars i
    ≡ scalar_with (get_or parts i p) (to_z w64 (of_z w64 (get_or numbers i x)))
part_read scalars parts numbers i p x seen kept within =
    let s : List Scalar = scalars_of parts numbers in
    let here : i < length s = rw seen within in
    let same : get_or (numbers_of s) i x ≡ get_or numbers i x =
    ap (λ (ns : List ℤ). get_or ns i x) kept.same_numbers in
    let fits : FitsSigned w64 (get_or numbers i x) = subst (FitsSigned w64)
    (sym (number_at s (8 - length s) i x here) ∙ same)
    (number_fits (get_or s i DivZero) (kept.scalars i DivZero here)) in
    ap (λ (left : List Scalar). slice_get left i) (sym seen)
    ∙ read_back s (8 - length s) i p x here
    ∙ ap₂ scalar_with (ap (λ (ps : List Part). get_or ps i p) kept.same_parts)
    (same ∙ sym (to_z-of_z fits))

-- at the place of a scalar one stands
part_is_there : (scalar : Scalar) → part_of scalar ≡ Absent → ⊥
part_is_there (Number x) is = cc
part_is_there Overflow is = cc
part_is_there DivZero is = cc

there : (scalars : List Scalar) (n i : ℕ) (p : Part) → i < length scalars
    → get_or (map part_of scalars ++ replicate n Absent) i p ≡ Absent → ⊥
there [] n i p within is = omega arith
there (first ∷ scalars) n zero p within is = part_is_there first is
there (first ∷ scalars) n (suc i) p within is = there scalars n i p (omega arith) is

-- so where none stands there are no more
pub none_left : (scalars : List Scalar) (parts : List Part) (numbers : List ℤ) (i : ℕ) (p : Part)
    → scalars_of parts numbers ≡ scalars → IsKept parts numbers → get_or parts i p ≡ Absent
    → length scalars ≤ i
none_left scalars parts numbers i p seen kept absent =
    let s = scalars_of parts numbers in
    let few : length s < suc i =
    lt_of_not-le (λ (within : suc i ≤ length s). there s (8 - length s) i p (omega arith)
    (ap (λ (ps : List Part). get_or ps i p) kept.same_parts ∙ absent)) in
    omega (arith, few, ap length seen)

-- what is kept after some of the scalars
pub record IsFilled (scalars : List Scalar) (parts : List Part) (numbers : List ℤ)
    (i : ℕ) : Type 0 where
  pub parts_are : parts ≡ parts_of (take i scalars)
  pub numbers_are : numbers ≡ numbers_of (take i scalars)
  pub fit : All IsScalar (take i scalars)

pub more_filled : (scalars : List Scalar) (parts : List Part) (numbers : List ℤ) (i : ℕ)
    (d scalar : Scalar) (part : Part) (number : ℤ) → i < length scalars → length scalars ≤ 8
    → scalar ≡ get_or scalars i d → IsScalar (get_or scalars i d) → part ≡ part_of scalar
    → number ≡ number_of scalar → IsFilled scalars parts numbers i
    → IsFilled scalars (set parts i part) (set numbers i (to_z w64 (of_z w64 number))) (i + 1)
more_filled scalars parts numbers i d scalar part number within few same fit part_is
    number_is so_far =
    let is : scalar ≡ get_or scalars i scalar = same ∙ get_or_default scalars i d scalar within in
    let fits : FitsSigned w64 number = subst (FitsSigned w64) (sym number_is)
    (number_fits scalar (subst IsScalar (sym same) fit)) in
    record {
      parts_are = ap₂ (λ (ps : List Part) (p : Part). set ps i p) so_far.parts_are part_is
          ∙ filled_more part_of Absent 8 scalars i scalar within few is;
      numbers_are =
          ap₂ (λ (ns : List ℤ) (n : ℤ). set ns i n) so_far.numbers_are (to_z-of_z fits ∙ number_is)
          ∙ filled_more number_of (pos 0) 8 scalars i scalar within few is;
      fit = All-more IsScalar scalars i d within so_far.fit fit;
    }

-- after all of them it is a record of them
pub all_filled : (scalars : List Scalar) (parts : List Part) (numbers : List ℤ) (i : ℕ)
    → length scalars ≤ i → IsRecordSize (length scalars) → IsFilled scalars parts numbers i
    → IsKept parts numbers × (scalars_of parts numbers ≡ scalars)
all_filled scalars parts numbers i end size filled_in =
    let all : take i scalars ≡ scalars = take_all i scalars end in
    kept_of scalars parts numbers (filled_in.parts_are ∙ ap parts_of all)
    (filled_in.numbers_are ∙ ap numbers_of all) size (subst (All IsScalar) all filled_in.fit)
