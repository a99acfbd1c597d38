-- What begins as a snapshot does.
use Rattle.std.proofs.Common.{◌≡◌, ◌+◌, ℕ, true, false, List, ◌++◌, length, take, drop}
use Rattle.std.proofs.Common.{Option, None}
use Rattle.std.proofs.Common.{Some, Bor, refl, sym, ap, ◌∙◌}
use Rattle.std.specs.Prelude.{IfNone, IfSome, MatchOption}
use Rattle.std.specs.Str.{bytes_eq}
use Rattle.std.proofs.lemmas.Bool.{false≢true}
use Rattle.std.proofs.lemmas.List.{take_at, take-append-drop}
use Rattle.std.proofs.lemmas.Slice.Eq.{bytes_eq-Decides}
use Rattle.runner_snapshot.specs.Bytes.{head}
use Rattle.runner_snapshot.specs.Stops.{HasHead}

-- what cutting a front off gives
abbrev pub Cuts : List ℕ → List ℕ → Option (Bor (List ℕ)) → Type 0
Cuts front bytes result =
    MatchOption result (bytes_eq (take (length front) bytes) front ≡ false)
    (λ x. (bytes_eq (take (length front) bytes) front ≡ true)
    × (x.now ≡ drop (length front) bytes) × (length x.now + length front ≡ length bytes))

pub cut_some : (bytes : List ℕ) (result : Option (Bor (List ℕ))) → Cuts head bytes result
    → IfSome result (λ rest. bytes ≡ head ++ rest.now)
cut_some bytes None cuts = tt
cut_some bytes (Some rest) cuts =
    let front : take (length head) bytes ≡ head =
    (bytes_eq-Decides (take (length head) bytes) head).0 cuts.0 in
    sym (take-append-drop (length head) bytes)
    ∙ ap (λ (text : List ℕ). text ++ drop (length head) bytes) front
    ∙ ap (λ (text : List ℕ). head ++ text) (sym cuts.1)

pub cut_none : (bytes : List ℕ) (result : Option (Bor (List ℕ))) → Cuts head bytes result
    → IfNone result (HasHead bytes → ⊥)
cut_none bytes (Some rest) cuts = tt
cut_none bytes None cuts = λ headed.
    let front : take (length head) bytes ≡ head =
    ap (take (length head)) headed.1 ∙ take_at head headed.0 (length head) refl in
    false≢true (sym cuts ∙ (bytes_eq-Decides (take (length head) bytes) head).1 front)
