-- The order of texts by their bytes.
use Rattle.std.proofs.Common.{◌≡◌, ℕ, true, List, Ordering, Less, Equal, Greater, nat_cmp, is_eq}
use Rattle.std.proofs.Common.{is_lt, refl, sym, ap, ◌∙◌, true≢false}
use Rattle.std.specs.Cmp.Lexicographic.{slice_cmp, lists_ties}
use Rattle.std.specs.Ordering.{eq_by_cmp, ordering_reverse}
use Rattle.std.specs.Str.{bytes_eq}
use Rattle.std.proofs.lemmas.Bool.Decides.{nat_tests}
use Rattle.std.proofs.lemmas.Cmp.{nat_list_cmp_total}
use Rattle.std.proofs.lemmas.Slice.Eq.{bytes_eq-Decides}
use Rattle.std.proofs.Common.{nat_eq, arith}

nat_ties : (x y : ℕ) → nat_eq x y ≡ is_eq (nat_cmp x y)
nat_ties x y = grind (arith, nat_tests)

-- two texts are the same where they stand at one place
pub bytes_eq_by_cmp : (s t : List ℕ) → bytes_eq s t ≡ is_eq (slice_cmp nat_cmp s t)
bytes_eq_by_cmp s t = lists_ties nat_cmp nat_ties s t

pub bytes_eq_is : bytes_eq ≡ eq_by_cmp (slice_cmp nat_cmp)
bytes_eq_is = λ i s t. bytes_eq_by_cmp s t i

pub same_text : (s t : List ℕ) → slice_cmp nat_cmp s t ≡ Equal → s ≡ t
same_text s t e = (bytes_eq-Decides s t).0 (bytes_eq_by_cmp s t ∙ ap is_eq e)

pub less_from_lt : (r : Ordering) → is_lt r ≡ true → r ≡ Less
less_from_lt Less e = refl
less_from_lt Equal e = absurd (true≢false (sym e))
less_from_lt Greater e = absurd (true≢false (sym e))

-- what comes before a text comes before those after it
pub lt_before : (s t n : List ℕ) → slice_cmp nat_cmp s t ≡ Less
    → is_lt (slice_cmp nat_cmp n s) ≡ true → is_lt (slice_cmp nat_cmp n t) ≡ true
lt_before s t n less e = ap is_lt (nat_list_cmp_total.trans n s t (less_from_lt _ e) less)

pub turned : (s t : List ℕ) → slice_cmp nat_cmp s t ≡ Greater → slice_cmp nat_cmp t s ≡ Less
turned s t e = nat_list_cmp_total.antisymm t s ∙ ap ordering_reverse e
