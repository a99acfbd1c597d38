-- Scalars and values are read as they are spelled.
use Rattle.std.proofs.Common.{◌≡◌, ◌<◌, ◌^◌, ℕ, zero, suc, ℤ, pos, negsuc, Bool, true, false}
use Rattle.std.proofs.Common.{cond}
use Rattle.std.proofs.Common.{eqb, leb, ◌&&◌, ◌||◌, List, [], ◌∷◌, ◌++◌, length, Option, None}
use Rattle.std.proofs.Common.{Some}
use Rattle.std.proofs.Common.{refl, sym, ap, subst, ◌∙◌, append_assoc, arith}
use Rattle.std.specs.Int.{w32, w64, cast_signed, cast_unsigned}
use Rattle.std.specs.Prelude.{FitsSigned, find, is_some}
use Rattle.std.specs.List.{flat_map, list_any, AllByRecursion, IsDistinct}
use Rattle.std.specs.Str.{bytes_eq}
use Rattle.std.proofs.lemmas.Bool.{eqb-true, false≢true, leb-true, le-leb}
use Rattle.std.proofs.lemmas.Cmp.{nat_list_eq_equiv}
use Rattle.std.proofs.lemmas.Int.{of_z-to_z, to_z-of_z}
use Rattle.std.proofs.lemmas.List.{append-nil, map_push}
use Rattle.std.proofs.lemmas.Map.Keys.{IsDistinct-push}
use Rattle.std.proofs.lemmas.Option.{none-some, same_Some}
use borrow.Author.Gap.{read_sfits}
use Rattle.few_parts.specs.Sizes.{IsRecordSize}
use Rattle.value_ops.specs.Entries.{keys_of, value_at, HasDistinctKeys}
use Rattle.value_ops.specs.Types.{IsScalar}
use Rattle.value_ops.specs.declared.scalar.Scalar.{Scalar}
use Rattle.value_ops.specs.declared.scalar.Scalar.TheVariants as scalar
use Rattle.value_ops.specs.declared.value.Value.{Value}
use Rattle.value_ops.specs.declared.value.Value.TheVariants as value
use Rattle.runner_snapshot.specs.declared.tags.ValueTag.{ValueTag}
use Rattle.runner_snapshot.specs.declared.tags.ValueTag.TheVariants as tag
use Rattle.runner_snapshot.specs.Bytes.{in_eight, in_four, scalar_bytes, text_bytes, entry_bytes}
use Rattle.runner_snapshot.specs.Bytes.{table_bytes, parts_bytes, value_bytes}
use Rattle.runner_snapshot.specs.Ranges.{AreCounted, IsCount, IsPlace, IsShort}
use Rattle.runner_snapshot.specs.Ranges.{IsTableEntry}
use Rattle.runner_snapshot.specs.Ranges.{IsValue}
use Rattle.runner_snapshot.specs.Reading.{Read, ◌>>=◌, entries_at}
use Rattle.runner_snapshot.specs.Reading.{made_at, more_entries_at, number_at, pair_at, parts_at}
use Rattle.runner_snapshot.specs.Reading.{repeat_at, scalar_at, scalar_of, signed_at, text_at}
use Rattle.runner_snapshot.specs.Reading.{value_of, value_read_at}
use Rattle.runner_snapshot.specs.Tags.{value_byte, value_tag, value_tags}
use Rattle.runner_snapshot.proofs.Readers.{IsBytes, IsBytes-rest, Takes, Takes-then, bind_some}
use Rattle.runner_snapshot.proofs.Readers.{Reads}
use Rattle.runner_snapshot.proofs.Readers.{both, made, repeat_takes, repeat_again, tagged}
use Rattle.runner_snapshot.proofs.Readers.{arm_takes, arm_again, alone_takes, tagged_takes}
use Rattle.runner_snapshot.proofs.ReadNumbers.{number32, number64, texts}

-- ---- tags

found_first : {X : Type 0} (test : X → Bool) (first found : X) (rest : Option X) (is : Bool)
    → test first ≡ is → cond is (Some first) rest ≡ Some found
    → (rest ≡ Some found → test found ≡ true) → test found ≡ true
found_first {X} test first found rest true is e other =
    subst (λ (x : X). test x ≡ true) (same_Some first found e) is
found_first test first found rest false is e other = other e

-- what is found meets the test
pub found_meets : {X : Type 0} (test : X → Bool) (xs : List X) (found : X)
    → find test xs ≡ Some found → test found ≡ true
found_meets test [] found e = absurd (none-some found e)
found_meets test (x ∷ xs) found e =
    found_first test x found (find test xs) (test x) refl e (found_meets test xs found)

-- a byte that says a value is the byte of its tag
pub known_value : (byte : ℕ) (tag : ValueTag) → value_tag byte ≡ Some tag → value_byte tag ≡ byte
known_value byte tag e =
    eqb-true (value_byte tag) byte
    (found_meets (λ (one : ValueTag). eqb (value_byte one) byte) value_tags tag e)

-- ---- scalars

unsigned_below : (number : ℤ) → FitsSigned w64 number → cast_unsigned w64 number < 2 ^ 64
unsigned_below (pos n) fits = let below : n < 2 ^ 63 = fits.sfits in omega arith
unsigned_below (negsuc n) fits = let below : n < 2 ^ 63 = fits.sfits in omega arith

signed : Reads (λ (number : ℤ). in_eight (cast_unsigned w64 number)) (FitsSigned w64) signed_at
unfolding signed_at
signed =
    made in_eight IsPlace (number_at w64) (cast_signed w64) (cast_unsigned w64)
    (λ (number : ℤ). in_eight (cast_unsigned w64 number)) (FitsSigned w64)
    (λ number fits. to_z-of_z w64 number fits) (λ n below. ap in_eight (of_z-to_z w64 n below))
    (λ n below. read_sfits w64 n) (λ number fits. unsigned_below number fits) number64

abbrev SpelledScalar : List ℕ → Scalar → List ℕ → Type 0
SpelledScalar bytes x rest = Takes bytes (scalar_bytes x) rest × IsScalar x

scalar_after : (tag : ValueTag) (bytes : List ℕ) (x : Scalar) (rest : List ℕ) → IsBytes bytes
    → scalar_of (Some tag) bytes ≡ Some (x, rest) → SpelledScalar (value_byte tag ∷ bytes) x rest
unfolding scalar_of
scalar_after tag.Number bytes x rest are_bytes e =
    arm_takes (λ (number : ℤ). in_eight (cast_unsigned w64 number)) (FitsSigned w64) signed_at
    scalar.Number scalar_bytes IsScalar 0 (λ number fits. refl) (λ number fits. fits) signed
    bytes x rest are_bytes e
scalar_after tag.Overflow bytes x rest are_bytes e =
    alone_takes scalar.Overflow scalar_bytes IsScalar 1 refl tt bytes x rest are_bytes e
scalar_after tag.DivZero bytes x rest are_bytes e =
    alone_takes scalar.DivZero scalar_bytes IsScalar 2 refl tt bytes x rest are_bytes e
scalar_after tag.Table bytes x rest are_bytes e = absurd (none-some (x, rest) e)
scalar_after tag.Rec bytes x rest are_bytes e = absurd (none-some (x, rest) e)
scalar_after tag.Absent bytes x rest are_bytes e = absurd (none-some (x, rest) e)

no_scalar : (rest : List ℕ) → scalar_of None rest ≡ None
unfolding scalar_of
no_scalar rest = refl

scalar_takes : (bytes : List ℕ) (x : Scalar) (rest : List ℕ) → IsBytes bytes
    → scalar_at bytes ≡ Some (x, rest) → SpelledScalar bytes x rest
unfolding scalar_at
scalar_takes bytes x rest are_bytes e =
    tagged_takes value_tag value_byte known_value scalar_of no_scalar scalar_bytes IsScalar
    scalar_after bytes x rest are_bytes e

scalar_again : (x : Scalar) (rest : List ℕ) → IsScalar x
    → scalar_at (scalar_bytes x ++ rest) ≡ Some (x, rest)
unfolding scalar_at scalar_of
scalar_again (scalar.Number number) rest is =
    arm_again (λ (number : ℤ). in_eight (cast_unsigned w64 number)) (FitsSigned w64) signed_at
    scalar.Number signed number rest is
scalar_again scalar.Overflow rest is = refl
scalar_again scalar.DivZero rest is = refl

pub scalars : Reads scalar_bytes IsScalar scalar_at
scalars = record { takes = scalar_takes; again = scalar_again }

-- ---- tables

entries : Reads entry_bytes IsTableEntry (pair_at text_at scalar_at)
entries = both text_bytes IsShort text_at scalar_bytes IsScalar scalar_at texts scalars

guard_none : {A : Type 0} (test : Bool) (read : Option A) (y : A) → cond test None read ≡ Some y
    → (test ≡ false) × (read ≡ Some y)
guard_none true read y e = absurd (none-some y e)
guard_none false read y e = (refl, e)

none_from_test : {A : Type 0} (found : Option A) → is_some found ≡ false → found ≡ None
none_from_test None e = refl
none_from_test (Some x) e = absurd cc

-- where nothing is found, the first key is another one, and so are the others
neither : (first others : Bool) (value : Scalar) (rest : Option Scalar)
    → cond first (Some value) rest ≡ None → (rest ≡ None → others ≡ false)
    → (first || others) ≡ false
neither true others value rest none further = cc
neither false others value rest none further = further none

no_key : (key : List ℕ) (held : List (List ℕ × Scalar)) → value_at key held ≡ None
    → list_any (bytes_eq key) (keys_of held) ≡ false
no_key key [] none = refl
no_key key (entry ∷ held) none =
    ap (λ b. b || list_any (bytes_eq key) (keys_of held)) (nat_list_eq_equiv.symm key entry.0)
    ∙ neither (bytes_eq entry.0 key) _ entry.1 (value_at key held) none (no_key key held)

distinct_more : (held : List (List ℕ × Scalar)) (entry : List ℕ × Scalar) → HasDistinctKeys held
    → value_at entry.0 held ≡ None → HasDistinctKeys (held ++ entry ∷ [])
distinct_more held entry distinct none =
    subst (IsDistinct bytes_eq) (sym (map_push (λ (e : List ℕ × Scalar). e.0) held entry))
    (IsDistinct-push nat_list_eq_equiv (keys_of held) entry.0 distinct (no_key entry.0 held none))

-- what is read of a table's entries after those that it has
record AreMore (held : List (List ℕ × Scalar)) (count : ℕ) (bytes : List ℕ)
    (all : List (List ℕ × Scalar)) (rest : List ℕ) : Type 0 where
  more : List (List ℕ × Scalar)
  all_is : all ≡ held ++ more
  count_is : length more ≡ count
  takes : Takes bytes (flat_map entry_bytes more) rest
  each : AllByRecursion IsTableEntry more
  distinct : HasDistinctKeys all

more_takes : (count : ℕ) (held : List (List ℕ × Scalar)) (bytes : List ℕ)
    (all : List (List ℕ × Scalar)) (rest : List ℕ) → IsBytes bytes → HasDistinctKeys held
    → more_entries_at held count bytes ≡ Some (all, rest) → AreMore held count bytes all rest
more_takes zero held bytes all rest are_bytes distinct e =
    let it : List (List ℕ × Scalar) × List ℕ = (held, bytes) in
    subst (λ (r : List (List ℕ × Scalar) × List ℕ). AreMore held zero bytes r.0 r.1)
    (same_Some it (all, rest) e)
    (record {
      more = [];
      all_is = sym (append-nil held);
      count_is = refl;
      takes = record { parts = refl; rest_fits = are_bytes };
      each = tt;
      distinct = distinct;
    })
more_takes (suc count) held bytes all rest are_bytes distinct e =
    let a = bind_some (pair_at text_at scalar_at bytes) (λ entry.
    cond (is_some (value_at entry.0.0 held)) None
    (more_entries_at (held ++ entry.0 ∷ []) count entry.1)) (all, rest) e in
    let entry = a.0.0 in
    let g = guard_none (is_some (value_at entry.0 held))
    (more_entries_at (held ++ entry ∷ []) count a.0.1) (all, rest) a.2 in
    let front = entries.takes bytes entry a.0.1 are_bytes a.1 in
    let grown = distinct_more held entry distinct (none_from_test (value_at entry.0 held) g.0) in
    let others = more_takes count (held ++ entry ∷ []) a.0.1 all rest front.0.rest_fits grown g.1 in
    let counted : length others.more ≡ count = others.count_is in
    record {
      more = entry ∷ others.more;
      all_is = others.all_is ∙ append_assoc held (entry ∷ []) others.more;
      count_is = ap suc counted;
      takes = Takes-then bytes (entry_bytes entry) a.0.1 (flat_map entry_bytes others.more) rest
          front.0 others.takes;
      each = (front.1, others.each);
      distinct = others.distinct;
    }

-- each of a list, also the one at a place
there : (P : List ℕ → Type 0) (before more : List (List ℕ × Scalar)) (entry : List ℕ × Scalar)
    → AllByRecursion P (keys_of (before ++ entry ∷ more)) → P entry.0
there P [] more entry all = all.0
there P (first ∷ before) more entry all = there P before more entry all.1

absent_before : (before more : List (List ℕ × Scalar)) (entry : List ℕ × Scalar)
    → HasDistinctKeys (before ++ entry ∷ more) → value_at entry.0 before ≡ None
unfolding IsDistinct
absent_before [] more entry distinct = refl
absent_before (first ∷ before) more entry distinct =
    let other : bytes_eq first.0 entry.0 ≡ false =
    there (λ key. bytes_eq first.0 key ≡ false) before more entry distinct.0 in
    ap (λ (same : Bool). cond same (Some first.1) (value_at entry.0 before)) other
    ∙ absent_before before more entry distinct.1

more_again : (before more : List (List ℕ × Scalar)) (rest : List ℕ)
    → HasDistinctKeys (before ++ more) → AllByRecursion IsTableEntry more
    → more_entries_at before (length more) (flat_map entry_bytes more ++ rest)
    ≡ Some (before ++ more, rest)
more_again before [] rest distinct each =
    ap (λ (all : List (List ℕ × Scalar)). Some (all, rest)) (sym (append-nil before))
more_again before (entry ∷ more) rest distinct each =
    let none : value_at entry.0 before ≡ None = absent_before before more entry distinct in
    let same : (before ++ entry ∷ []) ++ more ≡ before ++ entry ∷ more =
    append_assoc before (entry ∷ []) more in
    ap (more_entries_at before (length (entry ∷ more)))
    (append_assoc (entry_bytes entry) (flat_map entry_bytes more) rest)
    ∙ ap (λ (r : Read (List ℕ × Scalar)). r >>= λ x.
    cond (is_some (value_at x.0.0 before)) None
    (more_entries_at (before ++ x.0 ∷ []) (length more) x.1))
    (entries.again entry (flat_map entry_bytes more ++ rest) each.0)
    ∙ ap (λ (found : Option Scalar). cond (is_some found) None
    (more_entries_at (before ++ entry ∷ []) (length more) (flat_map entry_bytes more ++ rest))) none
    ∙ more_again (before ++ entry ∷ []) more rest
    (subst HasDistinctKeys (sym same) distinct) each.1
    ∙ ap (λ (all : List (List ℕ × Scalar)). Some (all, rest)) same

abbrev IsTableOf : List (List ℕ × Scalar) → Type 0
IsTableOf held = AreCounted IsTableEntry held × HasDistinctKeys held

no_keys : HasDistinctKeys []
unfolding IsDistinct
no_keys = tt

tables : Reads table_bytes IsTableOf entries_at
unfolding entries_at
tables = record {
  takes = λ bytes all rest are_bytes e.
      let a = bind_some (number_at w32 bytes) (λ count. more_entries_at [] count.0 count.1)
      (all, rest) e in
      let front = number32.takes bytes a.0.0 a.0.1 are_bytes a.1 in
      let others = more_takes a.0.0 [] a.0.1 all rest front.0.rest_fits no_keys a.2 in
      let same : others.more ≡ all = sym others.all_is in
      let count : length all ≡ a.0.0 = ap length (sym same) ∙ others.count_is in
      let back : Takes a.0.1 (flat_map entry_bytes all) rest =
      subst (λ (held : List (List ℕ × Scalar)). Takes a.0.1 (flat_map entry_bytes held) rest)
      same others.takes in
      let whole = Takes-then bytes (in_four a.0.0) a.0.1 (flat_map entry_bytes all) rest front.0
      back in (
        subst (λ (count : ℕ). Takes bytes (in_four count ++ flat_map entry_bytes all) rest)
            (sym count) whole,
        (
          (subst IsCount (sym count) front.1, subst (AllByRecursion IsTableEntry) same others.each),
          others.distinct,
        ),
      );
  again = λ all rest are.
      ap entries_at (append_assoc (in_four (length all)) (flat_map entry_bytes all) rest)
      ∙ ap (λ (r : Read ℕ). r >>= λ count. more_entries_at [] count.0 count.1)
      (number32.again (length all) (flat_map entry_bytes all ++ rest) are.0.0)
      ∙ more_again [] all rest are.1 are.0.1;
}

-- ---- records

abbrev IsRecordOf : List Scalar → Type 0
IsRecordOf parts = IsRecordSize (length parts) × AllByRecursion IsScalar parts

pub guard_met : {A : Type 0} (test : Bool) (read : Option A) (y : A) → cond test read None ≡ Some y
    → (test ≡ true) × (read ≡ Some y)
guard_met true read y e = (refl, e)
guard_met false read y e = absurd (none-some y e)

both_true : (first second : Bool) → (first && second) ≡ true
    → (first ≡ true) × (second ≡ true)
both_true true true e = (refl, refl)
both_true true false e = absurd (false≢true e)
both_true false true e = absurd (false≢true e)
both_true false false e = absurd (false≢true e)

true_both : (first second : Bool) → first ≡ true → second ≡ true → (first && second) ≡ true
true_both true true p q = refl
true_both true false p q = q
true_both false true p q = p
true_both false false p q = p

is_size : (count : ℕ) → (leb 2 count && leb count 8) ≡ true → IsRecordSize count
is_size count e =
    let each = both_true (leb 2 count) (leb count 8) e in
    (leb-true 2 count each.0, leb-true count 8 each.1)

size_is : (count : ℕ) → IsRecordSize count → (leb 2 count && leb count 8) ≡ true
size_is count is =
    true_both (leb 2 count) (leb count 8) (le-leb 2 count is.0) (le-leb count 8 is.1)

parts_takes : (bytes : List ℕ) (xs : List Scalar) (rest : List ℕ) → IsBytes bytes
    → parts_at bytes ≡ Some (xs, rest) → Takes bytes (parts_bytes xs) rest × IsRecordOf xs
unfolding parts_at
parts_takes [] xs rest are_bytes e = absurd (none-some (xs, rest) e)
parts_takes (count ∷ bytes) xs rest are_bytes e =
    let g = guard_met (leb 2 count && leb count 8) (repeat_at scalar_at count bytes) (xs, rest) e in
    let all = repeat_takes scalar_bytes IsScalar scalar_at scalars count bytes xs rest
    (IsBytes-rest count bytes are_bytes) g.1 in (
      subst (λ (k : ℕ). Takes (k ∷ bytes) (parts_bytes xs) rest) all.1
          (tagged (length xs) bytes (flat_map scalar_bytes xs) rest all.0),
      (subst IsRecordSize (sym all.1) (is_size count g.0), all.2),
    )

parts_again : (xs : List Scalar) (rest : List ℕ) → IsRecordOf xs
    → parts_at (parts_bytes xs ++ rest) ≡ Some (xs, rest)
unfolding parts_at
parts_again xs rest are =
    ap (λ (met : Bool). cond met
    (repeat_at scalar_at (length xs) (flat_map scalar_bytes xs ++ rest)) None)
    (size_is (length xs) are.0)
    ∙ repeat_again scalar_bytes IsScalar scalar_at scalars xs rest are.1

parts : Reads parts_bytes IsRecordOf parts_at
parts = record { takes = parts_takes; again = parts_again }

-- ---- values

abbrev SpelledValue : List ℕ → Value → List ℕ → Type 0
SpelledValue bytes x rest = Takes bytes (value_bytes x) rest × IsValue x

-- a scalar is a value
value_from_scalar : (tag : ValueTag) (bytes : List ℕ) (x : Value) (rest : List ℕ) → IsBytes bytes
    → made_at value.Scalar (scalar_of (Some tag)) bytes ≡ Some (x, rest)
    → SpelledValue (value_byte tag ∷ bytes) x rest
value_from_scalar tag bytes x rest are_bytes e =
    let a = bind_some (scalar_of (Some tag) bytes) (λ y. Some (value.Scalar y.0, y.1)) (x, rest) e
    in
    let front = scalar_after tag bytes a.0.0 a.0.1 are_bytes a.1 in
    let it : Value × List ℕ = (value.Scalar a.0.0, a.0.1) in
    subst (λ (r : Value × List ℕ). SpelledValue (value_byte tag ∷ bytes) r.0 r.1)
    (same_Some it (x, rest) a.2) front

pub value_after : (tag : ValueTag) (bytes : List ℕ) (x : Value) (rest : List ℕ) → IsBytes bytes
    → value_of (Some tag) bytes ≡ Some (x, rest) → SpelledValue (value_byte tag ∷ bytes) x rest
unfolding value_of
value_after tag.Number bytes x rest are_bytes e = value_from_scalar tag.Number bytes x rest
    are_bytes e
value_after tag.Overflow bytes x rest are_bytes e =
    value_from_scalar tag.Overflow bytes x rest are_bytes e
value_after tag.DivZero bytes x rest are_bytes e =
    value_from_scalar tag.DivZero bytes x rest are_bytes e
value_after tag.Table bytes x rest are_bytes e =
    arm_takes table_bytes IsTableOf entries_at value.Table value_bytes IsValue 3
    (λ held is. refl) (λ held is. is) tables bytes x rest are_bytes e
value_after tag.Rec bytes x rest are_bytes e =
    arm_takes parts_bytes IsRecordOf parts_at value.Rec value_bytes IsValue 4
    (λ xs is. refl) (λ xs is. is) parts bytes x rest are_bytes e
value_after tag.Absent bytes x rest are_bytes e = value_from_scalar tag.Absent bytes x rest
    are_bytes e

no_value : (rest : List ℕ) → value_of None rest ≡ None
unfolding value_of scalar_of
no_value rest = refl

value_takes : (bytes : List ℕ) (x : Value) (rest : List ℕ) → IsBytes bytes
    → value_read_at bytes ≡ Some (x, rest) → SpelledValue bytes x rest
unfolding value_read_at
value_takes bytes x rest are_bytes e =
    tagged_takes value_tag value_byte known_value value_of no_value value_bytes IsValue value_after
    bytes x rest are_bytes e

-- a value that is no scalar, and a scalar
pub value_again : (x : Value) (rest : List ℕ) → IsValue x
    → value_read_at (value_bytes x ++ rest) ≡ Some (x, rest)
unfolding value_read_at value_of scalar_of
value_again (value.Scalar (scalar.Number number)) rest is =
    ap (λ (r : Read Scalar). r >>= λ x. Some (value.Scalar x.0, x.1))
    (arm_again (λ (number : ℤ). in_eight (cast_unsigned w64 number)) (FitsSigned w64) signed_at
    scalar.Number signed number rest is)
value_again (value.Scalar scalar.Overflow) rest is = refl
value_again (value.Scalar scalar.DivZero) rest is = refl
value_again (value.Table held) rest is =
    arm_again table_bytes IsTableOf entries_at value.Table tables held rest is
value_again (value.Rec xs) rest is =
    arm_again parts_bytes IsRecordOf parts_at value.Rec parts xs rest is

pub values : Reads value_bytes IsValue value_read_at
values = record { takes = value_takes; again = value_again }
