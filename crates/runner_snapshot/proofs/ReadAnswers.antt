-- Answers are read as they are spelled.
use Rattle.std.proofs.Common.{◌≡◌, ℕ}
use Rattle.std.proofs.Common.{List, ◌∷◌, ◌++◌, Option, None}
use Rattle.std.proofs.Common.{Some}
use Rattle.std.proofs.Common.{refl, ap, subst, ◌∙◌}
use Rattle.std.proofs.lemmas.Option.{same_Some}
use Rattle.value_ops.specs.declared.scalar.Scalar.TheVariants as scalar
use Rattle.value_ops.specs.declared.value.Value.{Value}
use Rattle.value_ops.specs.declared.value.Value.TheVariants as value
use Rattle.runner_snapshot.specs.declared.tags.ValueTag.{ValueTag}
use Rattle.runner_snapshot.specs.declared.tags.ValueTag.TheVariants as tag
use Rattle.runner_snapshot.specs.Bytes.{value_bytes, answer_bytes}
use Rattle.runner_snapshot.specs.Ranges.{IsReadableAnswer}
use Rattle.runner_snapshot.specs.Reading.{Read, ◌>>=◌, answer_at, answer_of}
use Rattle.runner_snapshot.specs.Reading.{made_at}
use Rattle.runner_snapshot.specs.Reading.{scalar_of}
use Rattle.runner_snapshot.specs.Reading.{value_of, value_read_at}
use Rattle.runner_snapshot.specs.Tags.{value_byte, value_tag}
use Rattle.runner_snapshot.proofs.Readers.{IsBytes, Takes, bind_some}
use Rattle.runner_snapshot.proofs.Readers.{Reads}
use Rattle.runner_snapshot.proofs.Readers.{alone_takes, tagged_takes}
use Rattle.runner_snapshot.proofs.ReadValues.{known_value, value_after, value_again}

abbrev SpelledAnswer : List ℕ → Option Value → List ℕ → Type 0
SpelledAnswer bytes x rest = Takes bytes (answer_bytes x) rest × IsReadableAnswer x

answer_from_value : (tag : ValueTag) (bytes : List ℕ) (x : Option Value) (rest : List ℕ)
    → IsBytes bytes → made_at Some (value_of (Some tag)) bytes ≡ Some (x, rest)
    → SpelledAnswer (value_byte tag ∷ bytes) x rest
answer_from_value tag bytes x rest are_bytes e =
    let a = bind_some (value_of (Some tag) bytes) (λ y. Some (Some y.0, y.1)) (x, rest) e in
    let front = value_after tag bytes a.0.0 a.0.1 are_bytes a.1 in
    let it : Option Value × List ℕ = (Some a.0.0, a.0.1) in
    subst (λ (r : Option Value × List ℕ). SpelledAnswer (value_byte tag ∷ bytes) r.0 r.1)
    (same_Some it (x, rest) a.2) front

answer_after : (tag : ValueTag) (bytes : List ℕ) (x : Option Value) (rest : List ℕ)
    → IsBytes bytes → answer_of (Some tag) bytes ≡ Some (x, rest)
    → SpelledAnswer (value_byte tag ∷ bytes) x rest
unfolding answer_of
answer_after tag.Number bytes x rest are_bytes e =
    answer_from_value tag.Number bytes x rest are_bytes e
answer_after tag.Overflow bytes x rest are_bytes e =
    answer_from_value tag.Overflow bytes x rest are_bytes e
answer_after tag.DivZero bytes x rest are_bytes e =
    answer_from_value tag.DivZero bytes x rest are_bytes e
answer_after tag.Table bytes x rest are_bytes e =
    answer_from_value tag.Table bytes x rest are_bytes e
answer_after tag.Rec bytes x rest are_bytes e = answer_from_value tag.Rec bytes x rest are_bytes e
answer_after tag.Absent bytes x rest are_bytes e =
    alone_takes None answer_bytes IsReadableAnswer 255 refl tt bytes x rest are_bytes e

no_answer : (rest : List ℕ) → answer_of None rest ≡ None
unfolding answer_of value_of scalar_of
no_answer rest = refl

answer_takes : (bytes : List ℕ) (x : Option Value) (rest : List ℕ) → IsBytes bytes
    → answer_at bytes ≡ Some (x, rest) → SpelledAnswer bytes x rest
unfolding answer_at
answer_takes bytes x rest are_bytes e =
    tagged_takes value_tag value_byte known_value answer_of no_answer answer_bytes IsReadableAnswer
    answer_after bytes x rest are_bytes e

-- an answer that is there is read as its value
answer_is_value : (x : Value) (rest : List ℕ)
    → answer_at (value_bytes x ++ rest)
    ≡ (value_read_at (value_bytes x ++ rest) >>= λ y. Some (Some y.0, y.1))
unfolding answer_at answer_of value_read_at
answer_is_value (value.Scalar (scalar.Number number)) rest = refl
answer_is_value (value.Scalar scalar.Overflow) rest = refl
answer_is_value (value.Scalar scalar.DivZero) rest = refl
answer_is_value (value.Table held) rest = refl
answer_is_value (value.Rec xs) rest = refl

answer_again : (x : Option Value) (rest : List ℕ) → IsReadableAnswer x
    → answer_at (answer_bytes x ++ rest) ≡ Some (x, rest)
unfolding answer_at answer_of
answer_again None rest is = refl
answer_again (Some x) rest is =
    answer_is_value x rest
    ∙ ap (λ (r : Read Value). r >>= λ y. Some (Some y.0, y.1)) (value_again x rest is)

pub answers : Reads answer_bytes IsReadableAnswer answer_at
answers = record { takes = answer_takes; again = answer_again }
