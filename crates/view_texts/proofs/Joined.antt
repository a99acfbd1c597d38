-- Texts with a comma between each two, from one to the next.
use Rattle.std.proofs.Common.{◌≡◌, ℕ, zero, suc, ◌+◌, List, [], ◌∷◌, ◌++◌, Some, Result, Ok, Err}
use Rattle.std.proofs.Common.{OnOk, length, take, codes, sym, ap, ◌∙◌, append-nil, append_assoc}
use Rattle.std.proofs.Common.{slice_get, arith}
use Rattle.std.specs.declared.alloc.AllocError.{AllocError}
use Rattle.std.specs.List.{join_by}
use Rattle.std.proofs.lemmas.List.{flat_map_more, length-take-le, take_more}
use Rattle.std.proofs.lemmas.Option.{get_or_from_slice_get, slice_get_within}
use Rattle.value_ops.specs.Entries.{keys_of, values_of}
use Rattle.value_ops.specs.declared.scalar.Scalar.{Scalar}
use Rattle.view_texts.specs.Commas.{comma_at}

module _ {X : Type 0} (text : X → List ℕ) where
  -- the texts of all
  abbrev pub joined : List X → List ℕ
  joined xs = join_by text (codes ",") xs

  -- one more
  joined-push : (xs : List X) (x : X)
      → joined (xs ++ x ∷ []) ≡ joined xs ++ (comma_at (length xs) ++ text x)
  joined-push [] x = append-nil (text x)
  joined-push (first ∷ others) x =
      sym (flat_map_more (λ (y : X). codes "," ++ text y) (text first) others x)

  -- after a front and those so far, a comma and a text make the text of one more
  pub pushed : (result : Result (Unit {0}) AllocError) (xs : List X) (place : ℕ) (x : X)
      (old after_comma new : List ℕ) → slice_get xs place ≡ Some x
      → after_comma ≡ old ++ comma_at place → OnOk result (new ≡ after_comma ++ text x)
      → OnOk result ((front : List ℕ) → old ≡ front ++ joined (take place xs)
      → new ≡ front ++ joined (take (place + 1) xs))
  pushed (Err error) xs place x old after_comma new is comma last = tt
  pushed (Ok done) xs place x old after_comma new is comma last =
      λ front are. last
      ∙ ap (λ (l : List ℕ). l ++ text x) (comma ∙ ap (λ (l : List ℕ). l ++ comma_at place) are)
      ∙ apart front (joined (take place xs)) (comma_at place) (text x)
      ∙ ap (λ (n : ℕ). front ++ (joined (take place xs) ++ (comma_at n ++ text x))) (sym count)
      ∙ ap (λ (l : List ℕ). front ++ l) (sym (joined-push (take place xs) x))
      ∙ ap (λ (ys : List X). front ++ joined ys) (sym next)
    where
      count : length (take place xs) ≡ place
      count = length-take-le place xs (omega (arith, slice_get_within xs place x is))

      next : take (place + 1) xs ≡ take place xs ++ x ∷ []
      next = take_more xs place x (slice_get_within xs place x is)
          ∙ ap (λ (y : X). take place xs ++ y ∷ []) (get_or_from_slice_get xs place x x is)

      apart : (f t m s : List ℕ) → ((f ++ t) ++ m) ++ s ≡ f ++ (t ++ (m ++ s))
      apart f t m s = simp append_assoc

-- an entry by its key and its scalar
pub entry_at : (entries : List (List ℕ × Scalar)) (place : ℕ) (key : List ℕ) (scalar : Scalar)
    → slice_get (keys_of entries) place ≡ Some key
    → slice_get (values_of entries) place ≡ Some scalar
    → slice_get entries place ≡ Some (key, scalar)
entry_at [] place key scalar is_key is_scalar = absurd (cc)
entry_at (entry ∷ entries) zero key scalar is_key is_scalar =
    let first : entry.0 ≡ key = cc in
    let second : entry.1 ≡ scalar = cc in
    ap (λ (k : List ℕ). Some (k, entry.1)) first ∙ ap (λ (s : Scalar). Some (key, s)) second
entry_at (entry ∷ entries) (suc place) key scalar is_key is_scalar =
    entry_at entries place key scalar is_key is_scalar

-- the parts of a text, one after the other, are put behind another
pub behind : (result : Result (Unit {0}) AllocError) (old first second after_first after_second new
    third : List ℕ) → after_first ≡ old ++ first → after_second ≡ after_first ++ second
    → OnOk result (new ≡ after_second ++ third)
    → OnOk result (new ≡ old ++ (first ++ second ++ third))
behind (Err error) old first second a b new third is_first is_second last = tt
behind (Ok done) old first second a b new third is_first is_second last =
    last ∙ ap (λ (l : List ℕ). l ++ third)
    (is_second ∙ ap (λ (l : List ℕ). l ++ second) is_first) ∙ simp append_assoc
