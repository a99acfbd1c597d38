-- One more scalar in a fold.
use Rattle.std.proofs.Common.{◌≡◌, ℕ, ◌+◌, List, ◌∷◌, [], ◌++◌, take, Some, ◌∙◌, ap, add-one}
use Rattle.std.specs.List.{slice_get, fold}
use Rattle.std.proofs.Math.Seq.{take-suc}
use Rattle.std.proofs.lemmas.Option.{slice_get_within, get_or_from_slice_get}
use Rattle.std.proofs.lemmas.List.Sums.{fold_push}

-- a fold over the elements up to one more is a step from the fold before it
pub fold_more : {A B : Type 0} (f : B → A → B) (first : B) (xs : List A) (i : ℕ) (x : A)
    → slice_get xs i ≡ Some x → fold f first (take (i + 1) xs) ≡ f (fold f first (take i xs)) x
fold_more f first xs i x found =
    let last : take (i + 1) xs ≡ take i xs ++ x ∷ [] =
    ap (λ n. take n xs) (add-one i) ∙ take-suc xs i x (slice_get_within xs i x found)
    ∙ ap (λ y. take i xs ++ y ∷ []) (get_or_from_slice_get xs i x x found) in
    ap (fold f first) last ∙ fold_push f first (take i xs) x
