-- Numbers, texts and states are read as they are spelled.
use Rattle.std.proofs.Common.{◌≡◌, ◌<◌, ◌≤◌, ◌+◌, ◌*◌, ◌/◌, ◌%◌, ◌^◌, ℕ, zero, suc, Bool, true}
use Rattle.std.proofs.Common.{false}
use Rattle.std.proofs.Common.{cond, ltb, List, [], ◌∷◌, ◌++◌, length, take, drop}
use Rattle.std.proofs.Common.{None}
use Rattle.std.proofs.Common.{Some, refl, sym, ap, subst, ◌∙◌, append_assoc, arith, inl, inr}
use Rattle.std.specs.Int.{Width, w32, w64, byte_len, from_be_bytes, to_be_bytes}
use Rattle.std.specs.List.{flat_map}
use Rattle.std.proofs.lemmas.Bool.{cases_lt, ltb-false, le-ltb}
use Rattle.std.proofs.lemmas.List.{take_at, drop_at, take-append-drop, length-append, length-take}
use Rattle.std.proofs.lemmas.List.{get_or-drop, get_or-take, get_or_past}
use Rattle.std.proofs.lemmas.Nat.{be_bytes_4, be_bytes_8, from_be_bytes-to_be_bytes_4}
use Rattle.std.proofs.lemmas.Nat.{from_be_bytes-to_be_bytes_8}
use Rattle.std.proofs.lemmas.Option.{none-some, same_Some}
use Rattle.rate_expr.specs.declared.state.State.{State}
use Rattle.rate_expr.specs.declared.state.State.TheVariants.{Initial, At}
use Rattle.runner_snapshot.specs.Bytes.{in_four, in_eight, in_sixteen, text_bytes, state_bytes}
use Rattle.runner_snapshot.specs.Ranges.{AreCounted, IsCount, IsPlace, IsShort, IsState}
use Rattle.runner_snapshot.specs.Reading.{Read, ◌>>=◌, bytes_at, number_at, counted_at, text_at}
use Rattle.runner_snapshot.specs.Reading.{mask_at, pair_at, repeat_at, mask_of}
use Rattle.runner_snapshot.specs.Reading.{state_at}
use Rattle.runner_snapshot.proofs.Readers.{IsBytes, IsBytes-rest, Takes, Takes-then, bind_some}
use Rattle.runner_snapshot.proofs.Readers.{Reads}
use Rattle.runner_snapshot.proofs.Readers.{both, made, repeat_takes, repeat_again}
use Rattle.runner_snapshot.proofs.Readers.{arm_takes, arm_again, alone_takes}

IsBytes-drop : (n : ℕ) (bytes : List ℕ) → IsBytes bytes → IsBytes (drop n bytes)
IsBytes-drop n bytes h i = rw get_or-drop (h (n + i))

IsBytes-take : (n : ℕ) (bytes : List ℕ) → IsBytes bytes → IsBytes (take n bytes)
IsBytes-take n bytes h i =
    elim (cases_lt i n) [
      | inl lt ↦ rw (get_or-take n bytes i 0 lt) (h i)
      | inr le ↦ rw (get_or_past (take n bytes) i 0 (omega (arith, length-take n bytes))) (omega
          arith)
    ]

-- a test that did not fail
guard_some : {A : Type 0} (test : Bool) (x y : A) → cond test None (Some x) ≡ Some y
    → (test ≡ false) × (x ≡ y)
guard_some true x y e = absurd (none-some y e)
guard_some false x y e = (refl, same_Some x y e)

-- ---- so many bytes

pub bytes_takes : (count : ℕ) (bytes text rest : List ℕ) → IsBytes bytes
    → bytes_at count bytes ≡ Some (text, rest)
    → Takes bytes text rest × (length text ≡ count) × IsBytes text
bytes_takes count bytes text rest are_bytes e =
    let cut : List ℕ × List ℕ = (take count bytes, drop count bytes) in
    let g = guard_some (ltb (length bytes) count) cut (text, rest) e in
    let long : count ≤ length bytes = ltb-false _ _ g.0 in
    let len : length (take count bytes) ≡ count = omega (arith, length-take count bytes) in
    let takes : Takes bytes (take count bytes) (drop count bytes) = record {
      parts = sym (take-append-drop count bytes);
      rest_fits = IsBytes-drop count bytes are_bytes;
    } in
    subst (λ (p : List ℕ × List ℕ). Takes bytes p.0 p.1 × (length p.0 ≡ count) × IsBytes p.0) g.1
    (takes, len, IsBytes-take count bytes are_bytes)

pub bytes_again : (count : ℕ) (text rest : List ℕ) → length text ≡ count
    → bytes_at count (text ++ rest) ≡ Some (text, rest)
bytes_again count text rest len =
    let long : ltb (length (text ++ rest)) count ≡ false =
    le-ltb _ _ (omega (arith, length-append text rest)) in
    rw (long, take_at text rest count len, drop_at text rest count len) refl

-- ---- numbers

pub record IsWide (w : Width) (limit : ℕ) : Type 0 where
  pub len : (n : ℕ) → length (to_be_bytes w n) ≡ byte_len w
  pub back : (bytes : List ℕ) → length bytes ≡ byte_len w → IsBytes bytes
      → to_be_bytes w (from_be_bytes w bytes) ≡ bytes
  pub again : (n : ℕ) → n < limit → from_be_bytes w (to_be_bytes w n) ≡ n
  pub below : (bytes : List ℕ) → IsBytes bytes → from_be_bytes w bytes < limit

wide32 : IsWide w32 (2 ^ 32)
wide32 = record {
  len = λ n. refl;
  back = λ bytes len are. be_bytes_4 bytes _ len are refl;
  again = λ n lt. from_be_bytes-to_be_bytes_4 n lt;
  below = λ bytes are. omega (arith, are 0, are 1, are 2, are 3);
}

wide64 : IsWide w64 (2 ^ 64)
wide64 = record {
  len = λ n. refl;
  back = λ bytes len are. be_bytes_8 bytes _ len are refl;
  again = λ n lt. from_be_bytes-to_be_bytes_8 n lt;
  below = λ bytes are.
      omega (arith, are 0, are 1, are 2, are 3, are 4, are 5, are 6, are 7);
}

number : (w : Width) (limit : ℕ) → IsWide w limit
    → Reads (to_be_bytes w) (λ n. n < limit) (number_at w)
unfolding number_at
number w limit wide = record {
  takes = λ bytes n rest are_bytes e.
      let a = bind_some (bytes_at (byte_len w) bytes) (λ x. Some (from_be_bytes w x.0, x.1))
      (n, rest) e in
      let front = bytes_takes (byte_len w) bytes a.0.0 a.0.1 are_bytes a.1 in
      let it : ℕ × List ℕ = (from_be_bytes w a.0.0, a.0.1) in
      subst (λ (r : ℕ × List ℕ). Takes bytes (to_be_bytes w r.0) r.1 × (r.0 < limit))
      (same_Some it (n, rest) a.2) (
        subst (λ (s : List ℕ). Takes bytes s a.0.1) (sym (wide.back a.0.0 front.1 front.2)) front.0,
        wide.below a.0.0 front.2,
      );
  again = λ n rest lt.
      ap (λ (r : Read (List ℕ)). r >>= λ x. Some (from_be_bytes w x.0, x.1))
      (bytes_again (byte_len w) (to_be_bytes w n) rest (wide.len n))
      ∙ ap (λ (m : ℕ). Some (m, rest)) (wide.again n lt);
}

pub number32 : Reads in_four IsCount (number_at w32)
number32 = number w32 (2 ^ 32) wide32

pub number64 : Reads in_eight IsPlace (number_at w64)
number64 = number w64 (2 ^ 64) wide64

-- ---- counts and texts

pub counted : {A : Type 0} (spelled : A → List ℕ) (fits : A → Type 0) (f : List ℕ → Read A)
    → Reads spelled fits f
    → Reads (λ (xs : List A). in_four (length xs) ++ flat_map spelled xs) (AreCounted fits)
    (counted_at f)
unfolding counted_at
counted {A} spelled fits f reads = record {
  takes = λ bytes xs rest are_bytes e.
      let a = bind_some (number_at w32 bytes) (λ count. repeat_at f count.0 count.1) (xs, rest) e in
      let front = number32.takes bytes a.0.0 a.0.1 are_bytes a.1 in
      let others = repeat_takes spelled fits f reads a.0.0 a.0.1 xs rest front.0.rest_fits a.2 in
      let all = Takes-then bytes (in_four a.0.0) a.0.1 (flat_map spelled xs) rest front.0 others.0
      in (
        subst (λ (count : ℕ). Takes bytes (in_four count ++ flat_map spelled xs) rest)
            (sym others.1) all,
        (subst IsCount (sym others.1) front.1, others.2),
      );
  again = λ xs rest are.
      ap (counted_at f) (append_assoc (in_four (length xs)) (flat_map spelled xs) rest)
      ∙ ap (λ (r : Read ℕ). r >>= λ count. repeat_at f count.0 count.1)
      (number32.again (length xs) (flat_map spelled xs ++ rest) are.0)
      ∙ repeat_again spelled fits f reads xs rest are.1;
}

pub texts : Reads text_bytes IsShort text_at
unfolding text_at
texts = record {
  takes = λ bytes x rest are_bytes e.
      let a = bind_some (number_at w32 bytes) (λ count. bytes_at count.0 count.1) (x, rest) e in
      let front = number32.takes bytes a.0.0 a.0.1 are_bytes a.1 in
      let back = bytes_takes a.0.0 a.0.1 x rest front.0.rest_fits a.2 in
      let all = Takes-then bytes (in_four a.0.0) a.0.1 x rest front.0 back.0 in (
        subst (λ (count : ℕ). Takes bytes (in_four count ++ x) rest) (sym back.1) all,
        subst IsCount (sym back.1) front.1,
      );
  again = λ x rest short.
      ap text_at (append_assoc (in_four (length x)) x rest)
      ∙ ap (λ (r : Read ℕ). r >>= λ count. bytes_at count.0 count.1)
      (number32.again (length x) (x ++ rest) short)
      ∙ bytes_again (length x) x rest refl;
}

-- ---- states

whole_mask : (mask : ℕ) → mask_of (mask / 2 ^ 64, mask % 2 ^ 64) ≡ mask
whole_mask mask = omega arith

high_half : (high low : ℕ) → low < 2 ^ 64 → (high * 2 ^ 64 + low) / 2 ^ 64 ≡ high
high_half high low below = omega arith

low_half : (high low : ℕ) → low < 2 ^ 64 → (high * 2 ^ 64 + low) % 2 ^ 64 ≡ low
low_half high low below = omega arith

few_halves : (high low : ℕ) → high < 2 ^ 64 → low < 2 ^ 64 → high * 2 ^ 64 + low < 2 ^ 128
few_halves high low above below = omega arith

few_high : (mask : ℕ) → mask < 2 ^ 128 → mask / 2 ^ 64 < 2 ^ 64
few_high mask below = omega arith

few_low : (mask : ℕ) → mask % 2 ^ 64 < 2 ^ 64
few_low mask = omega arith

masks : Reads in_sixteen (λ mask. mask < 2 ^ 128) mask_at
unfolding mask_at
masks =
    made (λ (p : ℕ × ℕ). in_eight p.0 ++ in_eight p.1) (λ (p : ℕ × ℕ). IsPlace p.0 × IsPlace p.1)
    (pair_at (number_at w64) (number_at w64)) mask_of (λ mask. (mask / 2 ^ 64, mask % 2 ^ 64))
    in_sixteen (λ mask. mask < 2 ^ 128) (λ mask below. whole_mask mask)
    (λ halves are. ap (λ (high : ℕ). in_eight high ++ in_eight (mask_of halves % 2 ^ 64))
    (high_half halves.0 halves.1 are.1)
    ∙ ap (λ (low : ℕ). in_eight halves.0 ++ in_eight low) (low_half halves.0 halves.1 are.1))
    (λ halves are. few_halves halves.0 halves.1 are.0 are.1)
    (λ mask below. (few_high mask below, few_low mask))
    (both in_eight IsPlace (number_at w64) in_eight IsPlace (number_at w64) number64 number64)

state_takes : (bytes : List ℕ) (x : State) (rest : List ℕ) → IsBytes bytes
    → state_at bytes ≡ Some (x, rest) → Takes bytes (state_bytes x) rest × IsState x
unfolding state_at
state_takes [] x rest are_bytes e = absurd (none-some (x, rest) e)
state_takes (zero ∷ bytes) x rest are_bytes e =
    alone_takes Initial state_bytes IsState 0 refl tt bytes x rest (IsBytes-rest 0 bytes are_bytes)
    e
state_takes (suc zero ∷ bytes) x rest are_bytes e =
    arm_takes in_sixteen (λ mask. mask < 2 ^ 128) mask_at At state_bytes IsState 1
    (λ mask below. refl) (λ mask below. below) masks bytes x rest (IsBytes-rest 1 bytes are_bytes) e
state_takes (suc (suc byte) ∷ bytes) x rest are_bytes e = absurd (none-some (x, rest) e)

state_again : (x : State) (rest : List ℕ) → IsState x
    → state_at (state_bytes x ++ rest) ≡ Some (x, rest)
unfolding state_at
state_again Initial rest is = refl
state_again (At mask) rest is =
    arm_again in_sixteen (λ mask. mask < 2 ^ 128) mask_at At masks mask rest is

pub states : Reads state_bytes IsState state_at
states = record { takes = state_takes; again = state_again }
