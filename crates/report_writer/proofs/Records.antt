-- The texts of the parts of a record, from one to the next.
use Rattle.std.proofs.Common.{◌≡◌, ℕ, ◌+◌, List, [], ◌∷◌, ◌++◌, Some, Result, Ok, Err, OnOk, length}
use Rattle.std.proofs.Common.{take, codes, sym, ap, ◌∙◌, append-nil, append_assoc, slice_get, arith}
use Rattle.std.specs.declared.alloc.AllocError.{AllocError}
use Rattle.std.proofs.lemmas.List.{flat_map_more, length-take-le, take_more}
use Rattle.std.proofs.lemmas.Option.{get_or_from_slice_get, slice_get_within}
use Rattle.value_ops.specs.declared.scalar.Scalar.{Scalar}
use Rattle.report_writer.specs.Commas.{comma_at}
use Rattle.report_writer.specs.Texts.{parts_text, scalar_text}

-- one part more
parts_text-push : (parts : List Scalar) (part : Scalar)
    → parts_text (parts ++ part ∷ [])
    ≡ parts_text parts ++ (comma_at (length parts) ++ scalar_text part)
parts_text-push [] part = append-nil (scalar_text part)
parts_text-push (first ∷ others) part =
    sym (flat_map_more (λ (p : Scalar). codes "," ++ scalar_text p) (scalar_text first) others part)

-- after a front and the parts so far, a comma and a part make the text of one part more
pub pushed_part : (result : Result (Unit {0}) AllocError) (parts : List Scalar)
    (place : ℕ) (part : Scalar) (old after_comma new : List ℕ) → slice_get parts place ≡ Some part
    → after_comma ≡ old ++ comma_at place → OnOk result (new ≡ after_comma ++ scalar_text part)
    → OnOk result ((front : List ℕ) → old ≡ front ++ parts_text (take place parts)
    → new ≡ front ++ parts_text (take (place + 1) parts))
pushed_part (Err error) parts place part old a new is comma last = tt
pushed_part (Ok done) parts place part old a new is comma last =
    λ front are. last ∙ ap (λ (l : List ℕ). l ++ scalar_text part)
    (comma ∙ ap (λ (l : List ℕ). l ++ comma_at place) are)
    ∙ apart front (parts_text (take place parts)) (comma_at place) (scalar_text part)
    ∙ ap (λ (n : ℕ). front ++ (parts_text (take place parts) ++ (comma_at n ++ scalar_text part)))
    (sym count) ∙ ap (λ (l : List ℕ). front ++ l) (sym (parts_text-push (take place parts) part))
    ∙ ap (λ (ps : List Scalar). front ++ parts_text ps) (sym next)
  where
    count : length (take place parts) ≡ place
    count = length-take-le place parts (omega (arith, slice_get_within parts place part is))

    next : take (place + 1) parts ≡ take place parts ++ part ∷ []
    next = take_more parts place part (slice_get_within parts place part is)
        ∙ ap (λ (p : Scalar). take place parts ++ p ∷ [])
        (get_or_from_slice_get parts place part part is)

    apart : (f t m s : List ℕ) → ((f ++ t) ++ m) ++ s ≡ f ++ (t ++ (m ++ s))
    apart f t m s = simp append_assoc
