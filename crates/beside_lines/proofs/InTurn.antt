-- The elements of a list are led on in turn, up to an index and up to the end.
use Rattle.std.proofs.Common.{set, ◌≡◌, ◌+◌, ◌<◌, ℕ, zero, suc, List, [], ◌∷◌, get_or, length}
use Rattle.std.proofs.Common.{refl, ap, subst, arith}
use Rattle.beside_lines.specs.Filling.{AllInTurn}

module _ {A B : Type 0} (Leads : A → A → B → B → Type 0) where
  -- so many of the first are led on, and the others are as they were
  abbrev pub InTurnTo : ℕ → List A → List A → B → B → Type 0
  InTurnTo zero olds nows before now = (nows ≡ olds) × (now ≡ before)
  InTurnTo (suc k) (old ∷ olds) (new ∷ nows) before now =
      (middle : B) × Leads old new before middle × InTurnTo k olds nows middle now
  InTurnTo (suc k) _ _ before now = ⊥

  turn_suc : (k : ℕ) (olds nows : List A) (before now after : B) (d new : A)
      → InTurnTo k olds nows before now → k < length nows → Leads (get_or nows k d) new now after
      → InTurnTo (suc k) olds (set nows k new) before after
  turn_suc k olds [] before now after d new turns inside leads =
      absurd (omega (arith, inside))
  turn_suc zero olds (x ∷ nows) before now after d new turns inside leads =
      subst (λ (os : List A). InTurnTo 1 os (new ∷ nows) before after) turns.0
      (after, subst (λ (b : B). Leads x new b after) turns.1 leads, (refl, refl))
  turn_suc (suc k) (old ∷ olds) (x ∷ nows) before now after d new turns inside leads = (
    turns.0,
    turns.1,
    turn_suc k olds nows turns.0 now after d new turns.2 (omega (arith, inside)) leads,
  )
  turn_suc (suc k) [] (x ∷ nows) before now after d new turns inside leads = absurd turns

  -- the next one is led on
  pub turn_next : (k : ℕ) (olds nows : List A) (before now after : B) (d new : A)
      → InTurnTo k olds nows before now → k < length nows → Leads (get_or nows k d) new now after
      → InTurnTo (k + 1) olds (set nows k new) before after
  turn_next k olds nows before now after d new turns inside leads =
      let more : suc k ≡ k + 1 = omega arith in
      subst (λ (n : ℕ). InTurnTo n olds (set nows k new) before after) more
      (turn_suc k olds nows before now after d new turns inside leads)

  -- until all are
  pub turns_all : (k : ℕ) (olds nows : List A) (before now : B) → InTurnTo k olds nows before now
      → k ≡ length nows → AllInTurn Leads olds nows before now
  turns_all zero olds [] before now turns all =
      subst (λ (os : List A). AllInTurn Leads os [] before now) turns.0 turns.1
  turns_all zero olds (x ∷ nows) before now turns all = absurd (omega (arith, all))
  turns_all (suc k) [] [] before now turns all = absurd turns
  turns_all (suc k) [] (x ∷ nows) before now turns all = absurd turns
  turns_all (suc k) (old ∷ olds) [] before now turns all = absurd turns
  turns_all (suc k) (old ∷ olds) (x ∷ nows) before now turns all =
      (turns.0, turns.1, turns_all k olds nows turns.0 now turns.2 (omega (arith, all)))

  -- the next one is as it was
  pub turn_same : (k : ℕ) (olds nows : List A) (before now : B) (d : A)
      → InTurnTo k olds nows before now → get_or nows k d ≡ get_or olds k d
  turn_same zero olds nows before now d turns = ap (λ (xs : List A). get_or xs 0 d) turns.0
  turn_same (suc k) [] [] before now d turns = absurd turns
  turn_same (suc k) [] (x ∷ nows) before now d turns = absurd turns
  turn_same (suc k) (old ∷ olds) [] before now d turns = absurd turns
  turn_same (suc k) (old ∷ olds) (x ∷ nows) before now d turns =
      turn_same k olds nows turns.0 now d turns.2

  -- there are as many as there were
  pub turns_long : (k : ℕ) (olds nows : List A) (before now : B) → InTurnTo k olds nows before now
      → length nows ≡ length olds
  turns_long zero olds nows before now turns = ap length turns.0
  turns_long (suc k) [] [] before now turns = absurd turns
  turns_long (suc k) [] (x ∷ nows) before now turns = absurd turns
  turns_long (suc k) (old ∷ olds) [] before now turns = absurd turns
  turns_long (suc k) (old ∷ olds) (x ∷ nows) before now turns =
      ap suc (turns_long k olds nows turns.0 now turns.2)

  -- and so all are
  pub all_long : (olds news : List A) (before after : B) → AllInTurn Leads olds news before after
      → length news ≡ length olds
  all_long [] [] before after turns = refl
  all_long [] (new ∷ news) before after turns = absurd turns
  all_long (old ∷ olds) [] before after turns = absurd turns
  all_long (old ∷ olds) (new ∷ news) before after turns =
      ap suc (all_long olds news turns.0 after turns.2)
