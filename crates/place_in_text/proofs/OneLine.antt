-- What stands of a line before a place and from it on holds no LF.
use Rattle.std.proofs.Common.{◌≡◌, ◌≢◌, ◌<◌, ◌≤◌, ℕ, ◌+◌, ◌-◌, Bool, true, false, List, length}
use Rattle.std.proofs.Common.{take, drop, get_or, refl, sym, ap, subst, ◌∙◌, arith}
use Rattle.std.specs.Prelude.{not, reverse}
use Rattle.std.specs.List.{All, after_last, before_first, prefix_len, suffix_len}
use Rattle.std.proofs.lemmas.List.{get_or-drop, get_or-reverse, get_or-take, length-drop}
use Rattle.std.proofs.lemmas.List.Elements.{All-from_get_or}
use Rattle.std.proofs.lemmas.List.Folds.{length-prefix_len}
use Rattle.std.proofs.lemmas.List.Sums.{prefix_len_passes, suffix_len-le-length}
use Rattle.place_in_text.specs.Places.{is_lf}

abbrev not_lf : ℕ → Bool
not_lf byte = not (is_lf byte)

-- a byte that ends no line is no LF
no_lf : (byte : ℕ) → not_lf byte ≡ true → byte ≢ 10
no_lf byte passes is = let differs : false ≡ true =
    subst (λ (b : ℕ). not_lf b ≡ true) is passes in cc

-- the bytes up to the first LF
pub first_line-no_lf : (bytes : List ℕ) → All (λ byte. byte ≢ 10) (before_first is_lf bytes)
first_line-no_lf bytes =
    All-from_get_or (λ byte. byte ≢ 10) (take (prefix_len not_lf bytes) bytes) 0 (λ k below.
    let inside : k < prefix_len not_lf bytes = omega (arith, length-prefix_len not_lf bytes) in
    subst (λ (b : ℕ). b ≢ 10) (sym (get_or-take (prefix_len not_lf bytes) bytes k 0 inside))
    (no_lf (get_or bytes k 0) (prefix_len_passes not_lf bytes k 0 inside)))

-- a byte among this many at the end, which all pass
last-passes : (bytes : List ℕ) (count k : ℕ) → count ≤ length bytes
    → count ≡ prefix_len not_lf (reverse bytes) → k < count
    → not_lf (get_or (drop (length bytes - count) bytes) k 0) ≡ true
last-passes bytes count k fits is inside =
    let place : length bytes - 1 - (count - 1 - k) ≡ length bytes - count + k = omega arith in
    let passes : not_lf (get_or (reverse bytes) (count - 1 - k) 0) ≡ true =
    prefix_len_passes not_lf (reverse bytes) (count - 1 - k) 0 (omega arith) in
    let same : get_or (reverse bytes) (count - 1 - k) 0
    ≡ get_or (drop (length bytes - count) bytes) k 0 =
    get_or-reverse bytes (count - 1 - k) 0 (omega arith)
    ∙ ap (λ (i : ℕ). get_or bytes i 0) place ∙ sym (get_or-drop (length bytes - count) bytes k 0) in
    subst (λ (b : ℕ). not_lf b ≡ true) same passes

-- the bytes after the last LF
pub last_line-no_lf : (bytes : List ℕ) → All (λ byte. byte ≢ 10) (after_last is_lf bytes)
last_line-no_lf bytes = from (suffix_len not_lf bytes) (suffix_len-le-length not_lf bytes) refl
  where
    from : (count : ℕ) → count ≤ length bytes → count ≡ prefix_len not_lf (reverse bytes)
        → All (λ byte. byte ≢ 10) (drop (length bytes - count) bytes)
    from count fits is =
        All-from_get_or (λ byte. byte ≢ 10) (drop (length bytes - count) bytes) 0 (λ k below.
        let inside : k < count = omega (arith, length-drop (length bytes - count) bytes) in
        no_lf (get_or (drop (length bytes - count) bytes) k 0)
        (last-passes bytes count k fits is inside))
