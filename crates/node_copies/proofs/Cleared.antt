-- Nodes in memory that are cleared, and the runners that come to rest.
use Rattle.std.proofs.Common.{◌≡◌, ℕ, ◌+◌, suc, false, List, [], ◌∷◌, Some, set, slice_get, refl}
use Rattle.std.proofs.Common.{sym, subst, arith}
use Rattle.query_model.specs.Queries.{Qre}
use Rattle.split_eval.specs.Entries.{live_entries}
use Rattle.split_eval.specs.declared.entry.Entry.{Entry}
use Rattle.eval_nodes.specs.declared.progress.Progress.{Progress}
use Rattle.eval_nodes.specs.Cleared.{AreCleared, IsCleared, IsClearedIn}
use Rattle.eval_nodes.specs.Holdings.{Holding}
use Rattle.eval_nodes.specs.Plain.{seen_of}
use Rattle.node_copies.proofs.Clearing.{one_cleared}

-- a fact on a query, and on a node before the call and after it
pub cleared_as : (q q' : Qre) (h h' k k' : Holding Progress) → q' ≡ q → h' ≡ h → k' ≡ k
    → IsCleared seen_of q h k → IsCleared seen_of q' h' k'
cleared_as q q' h h' k k' query before after is =
    subst (λ (x : Qre). IsCleared seen_of x h' k') (sym query)
    (subst (λ (x : Holding Progress). IsCleared seen_of q x k') (sym before)
    (subst (λ (x : Holding Progress). IsCleared seen_of q h x) (sym after) is))

pub none_kept : {V : Type 0} (entries : List (Entry V)) → live_entries (λ start. false) entries ≡ []
none_kept [] = refl
none_kept (entry ∷ entries) = none_kept entries

-- one more runner
pub next_cleared : (q : Qre) (i : ℕ) (old new : List Progress) (x w : Progress)
    → AreCleared seen_of q i old new → slice_get new i ≡ Some x → IsClearedIn seen_of q x w
    → AreCleared seen_of q (i + 1) old (set new i w)
next_cleared q i old new x w are at is =
    let more : suc i ≡ i + 1 = omega arith in
    subst (λ (n : ℕ). AreCleared seen_of q n old (set new i w)) more
    (one_cleared seen_of q i old new x w are at is)
