-- The texts of entries, from one to the next.
use Rattle.std.proofs.Common.{◌≡◌, ℕ, zero, suc, ◌+◌, List, [], ◌∷◌, ◌++◌, Some, Result, Ok, Err}
use Rattle.std.proofs.Common.{OnOk, length, take, codes, refl, sym, ap, ◌∙◌, append_assoc}
use Rattle.std.proofs.Common.{slice_get, arith}
use Rattle.std.specs.declared.alloc.AllocError.{AllocError}
use Rattle.value_ops.specs.declared.scalar.Scalar.{Scalar}
use Rattle.value_ops.specs.Entries.{keys_of, values_of}
use Rattle.report_writer.specs.Commas.{comma_at}
use Rattle.report_writer.specs.Texts.{entries_text, entry_text, key_text, scalar_text}

-- one entry more
entries_text-push : (entries : List (List ℕ × Scalar)) (entry : List ℕ × Scalar)
    → entries_text (entries ++ entry ∷ [])
    ≡ entries_text entries ++ comma_at (length entries) ++ entry_text entry
entries_text-push [] entry = refl
entries_text-push (first ∷ []) entry = refl
entries_text-push (first ∷ second ∷ others) entry =
    ap (λ (l : List ℕ). entry_text first ++ codes "," ++ l)
    (entries_text-push (second ∷ others) entry) ∙ apart (entry_text first)
    (entries_text (second ∷ others)) (comma_at (length (second ∷ others))) (entry_text entry)
  where
    apart : (a b c d : List ℕ) → a ++ codes "," ++ (b ++ c ++ d) ≡ a ++ codes "," ++ b ++ c ++ d
    apart a b c d = simp append_assoc

-- a pair by its parts
pair_of : (entry : List ℕ × Scalar) (key : List ℕ) (scalar : Scalar) → Some entry.0 ≡ Some key
    → Some entry.1 ≡ Some scalar → entry ∷ [] ≡ (key, scalar) ∷ []
pair_of entry key scalar is_key is_scalar =
    let first : entry.0 ≡ key = cc in
    let second : entry.1 ≡ scalar = cc in
    ap (λ (k : List ℕ). (k, entry.1) ∷ []) first ∙ ap (λ (s : Scalar). (key, s) ∷ []) second

-- the entries up to a place and the one there
take_next : (entries : List (List ℕ × Scalar)) (place : ℕ) (key : List ℕ) (scalar : Scalar)
    → slice_get (keys_of entries) place ≡ Some key
    → slice_get (values_of entries) place ≡ Some scalar
    → (take (suc place) entries ≡ take place entries ++ (key, scalar) ∷ [])
    × (length (take place entries) ≡ place)
take_next [] place key scalar is_key is_scalar = absurd (cc)
take_next (entry ∷ entries) zero key scalar is_key is_scalar =
    (pair_of entry key scalar is_key is_scalar, refl)
take_next (entry ∷ entries) (suc place) key scalar is_key is_scalar =
    let next = take_next entries place key scalar is_key is_scalar in
    (ap (λ (l : List (List ℕ × Scalar)). entry ∷ l) next.0, ap suc next.1)

-- the text of the entries up to a place and the one there
entries_text-next : (entries : List (List ℕ × Scalar)) (place : ℕ) (key : List ℕ) (scalar : Scalar)
    → slice_get (keys_of entries) place ≡ Some key
    → slice_get (values_of entries) place ≡ Some scalar → entries_text (take (suc place) entries)
    ≡ entries_text (take place entries) ++ comma_at place ++ entry_text (key, scalar)
entries_text-next entries place key scalar is_key is_scalar =
    let next = take_next entries place key scalar is_key is_scalar in
    ap entries_text next.0 ∙ entries_text-push (take place entries) (key, scalar)
    ∙ ap (λ (n : ℕ). entries_text (take place entries) ++ comma_at n ++ entry_text (key, scalar))
    next.1

-- after a front and the entries so far, the parts of an entry make the text of one entry more
pub pushed_entry : (result : Result (Unit {0}) AllocError)
    (entries : List (List ℕ × Scalar)) (place : ℕ) (key : List ℕ) (scalar : Scalar)
    (old after_comma after_key after_colon new : List ℕ)
    → slice_get (keys_of entries) place ≡ Some key
    → slice_get (values_of entries) place ≡ Some scalar
    → after_comma ≡ old ++ comma_at place → after_key ≡ after_comma ++ key_text key
    → after_colon ≡ after_key ++ codes ":" → OnOk result (new ≡ after_colon ++ scalar_text scalar)
    → OnOk result ((front : List ℕ) → old ≡ front ++ entries_text (take place entries)
    → new ≡ front ++ entries_text (take (place + 1) entries))
pushed_entry (Err error) entries place key scalar old a b c new is_key is_scalar comma
    keyed colon last = tt
pushed_entry (Ok done) entries place key scalar old a b c new is_key is_scalar comma
    keyed colon last =
    λ front are. last ∙ ap (λ (l : List ℕ). l ++ scalar_text scalar)
    (colon ∙ ap (λ (l : List ℕ). l ++ codes ":")
    (keyed ∙ ap (λ (l : List ℕ). l ++ key_text key)
    (comma ∙ ap (λ (l : List ℕ). l ++ comma_at place) are)))
    ∙ apart front (entries_text (take place entries)) (comma_at place) (key_text key) (codes ":")
    (scalar_text scalar) ∙ ap (λ (l : List ℕ). front ++ l)
    (sym (entries_text-next entries place key scalar is_key is_scalar))
    ∙ ap (λ (n : ℕ). front ++ entries_text (take n entries)) more
  where
    more : suc place ≡ place + 1
    more = omega arith

    apart : (f t m k n s : List ℕ)
        → ((((f ++ t) ++ m) ++ k) ++ n) ++ s ≡ f ++ (t ++ m ++ (k ++ n ++ s))
    apart f t m k n s = simp append_assoc
