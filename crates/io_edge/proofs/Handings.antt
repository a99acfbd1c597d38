-- Bytes that are held back from a writer, or given to it, are the same bytes in all.
use Rattle.std.proofs.Common.{◌≡◌, ℕ, List, Option, None, Some, refl, ap}
use Rattle.std.specs.Io.KnownBytes.{Keeps, append_known}

-- where the writer has the same bytes afterwards as before
pub kept_alike : (before now : Option (List ℕ)) (held held' : List ℕ) → (before ≡ None → now ≡ None)
    → Keeps (append_known before held) (append_known now held')
    → append_known now held' ≡ append_known before held
kept_alike None now held held' alike kept =
    ap (λ (k : Option (List ℕ)). append_known k held') (alike refl)
kept_alike (Some bytes) None held held' alike kept = absurd kept
kept_alike (Some bytes) (Some bytes') held held' alike kept = ap Some kept
