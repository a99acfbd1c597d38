-- A section that was added to a text.
use Rattle.std.proofs.Common.{◌≡◌, ◌∙◌, ℕ, List, [], ◌++◌, Result, Ok, Err, sym, ap, append-nil}
use Rattle.std.specs.Prelude.{OnOk}
use Rattle.hints_run.specs.Sections.{Adds}

-- this one was
pub added : {T E : Type 0} (result : Result T E) (IsSuch : List ℕ → Type 0)
    (section old new : List ℕ) → IsSuch section → OnOk result (new ≡ old ++ section)
    → OnOk result (Adds IsSuch old new)
added (Ok value) IsSuch section old new is wrote = (section, is, wrote)
added (Err error) IsSuch section old new is wrote = tt

-- the empty one was
pub added_none : (IsSuch : List ℕ → Type 0) (text : List ℕ) → IsSuch [] → Adds IsSuch text text
added_none IsSuch text is = ([], is, sym (append-nil text))

-- three sections after one another
pub three_added : (none first second third a b c : List ℕ) → none ≡ [] → first ≡ none ++ a
    → second ≡ first ++ b → third ≡ second ++ c → third ≡ a ++ b ++ c
three_added none first second third a b c none_is first_is second_is third_is =
    third_is ∙ ap (λ (l : List ℕ). l ++ c) (second_is
    ∙ ap (λ (l : List ℕ). l ++ b) (first_is ∙ ap (λ (l : List ℕ). l ++ a) none_is))
