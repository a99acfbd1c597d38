-- Statement. Entries of left values, as a list and as a finite map from inner starts.
use Rattle.std.specs.Prelude.{◌≡◌, ◌==◌, ◌≤◌, ℕ, Bool, not, List, [], ◌∷◌, length, filter, find}
use Rattle.std.specs.Prelude.{Option, None}
use Rattle.split_eval.specs.declared.entry.Entry.{Entry}

-- the entries in the order in which they were put, and for how many there is room
pub record Contents (V : Type 0) : Type 0 where
  pub entries : List (Entry V)
  pub room : ℕ

module _ {V : Type 0} where
  -- whether the entry has this inner start
  abbrev pub is_at : ℕ → Entry V → Bool
  is_at inner entry = entry.inner == inner

  -- the first entry with this inner start
  abbrev pub entry_at : List (Entry V) → ℕ → Option (Entry V)
  entry_at entries inner = find (is_at inner) entries

  -- those whose inner start is live
  abbrev pub live_entries : (ℕ → Bool) → List (Entry V) → List (Entry V)
  live_entries is_live entries = filter (λ entry. is_live entry.inner) entries

  -- those with another inner start
  abbrev pub without : List (Entry V) → ℕ → List (Entry V)
  without entries inner = live_entries (λ start. not (start == inner)) entries

  -- no two have the same inner start
  abbrev pub AreDistinct : List (Entry V) → Type 0
  AreDistinct [] = Unit {0}
  AreDistinct (entry ∷ entries) = (entry_at entries entry.inner ≡ None) × AreDistinct entries

  -- memory is reserved for exactly `room` entries, and there are no more than that, all distinct
  pub record IsKept (entries : List (Entry V)) (room capacity : ℕ) : Type 0 where
    pub reserved : capacity ≡ room
    pub few : length entries ≤ room
    pub distinct : AreDistinct entries

-- each call at a start answers as the test does
abbrev pub AnswersAs : {F : Type 0} → (F → ℕ → Bool → Type 0) → F → (ℕ → Bool) → Type 0
AnswersAs post live is_live =
    (start : ℕ) (answer : Bool) → post live start answer → answer ≡ is_live start
