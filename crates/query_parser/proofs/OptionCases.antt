-- Where a choice of places is none.
use Rattle.std.proofs.Common.{◌≡◌, Bool, true, false, cond, Option, Some, None, refl, ap}
use Rattle.std.proofs.lemmas.Bool.{true≢false}
use Rattle.std.specs.Prelude.{is_some}
use Rattle.language_base.specs.declared.span.Span.{Span}
use Rattle.query_trees.specs.Trees.{first_of_two}

-- a place is not none
pub Some-no_none : (span : Span) → Some span ≡ None → ⊥
Some-no_none span e = true≢false (ap (λ o. is_some o) e)

-- of two there is none
pub first_of_two-none : (first second : Option Span) → first_of_two first second ≡ None
    → (first ≡ None) × (second ≡ None)
first_of_two-none (Some span) second e = absurd (Some-no_none span e)
first_of_two-none None second e = (refl, e)

-- where both are none
pub first_of_two-both : (first second : Option Span) → first ≡ None → second ≡ None
    → first_of_two first second ≡ None
first_of_two-both first second one two = rw one two

-- a test passed, and what follows is none
pub chosen-none : (test : Bool) (others : Option Span) (span : Span)
    → cond test others (Some span) ≡ None → (test ≡ true) × (others ≡ None)
chosen-none true others span e = (refl, e)
chosen-none false others span e = absurd (Some-no_none span e)

-- where the test passed, and what follows is none
pub chosen-both : (test : Bool) (others : Option Span) (span : Span) → test ≡ true → others ≡ None
    → cond test others (Some span) ≡ None
chosen-both test others span passed none = rw passed none

-- a test failed, and what follows is none
pub refused-none : (test : Bool) (span : Span) (others : Option Span)
    → cond test (Some span) others ≡ None → (test ≡ false) × (others ≡ None)
refused-none true span others e = absurd (Some-no_none span e)
refused-none false span others e = (refl, e)
