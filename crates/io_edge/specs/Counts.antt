-- Statement. The counts by which a source or a sink reports that it failed, or that its input
-- ended.
use Rattle.std.specs.Prelude.{◌≡◌, ◌<◌, ◌≤◌, ℕ, ◌+◌, ◌-◌, ◌^◌, min, Result, MatchResult, is_err}
use Rattle.std.specs.Prelude.{◌==◌, if◌then◌else◌}

-- the count after one more event; it stays at its greatest value
abbrev pub next_count : ℕ → ℕ
next_count count = min (count + 1) (2 ^ 64 - 1)

-- the count is greater than before, or has its greatest value
abbrev pub Rose : ℕ → ℕ → Type 0
Rose before now = next_count before ≤ now

-- a call that fails raises the count by one, and any other leaves it as it was
abbrev pub FailsByFault : {T E : Type 0} → ℕ → ℕ → Result T E → Type 0
FailsByFault before now result =
    (before ≤ now) × MatchResult result (λ _. now ≡ before) (λ _. now ≡ next_count before)

-- the same for a call with several answers, of which only `failed` raises the count
pub record FailsBy (before now : ℕ) (failed : Type 0) : Type 0 where
  pub later : before ≤ now
  pub by_one : failed → now ≡ next_count before
  pub else_same : (failed → ⊥) → now ≡ before

-- a read raises the count of ends by one if it had room and gave nothing, and any other leaves it
-- as it was
abbrev pub EndsByEnd : {E : Type 0} → ℕ → ℕ → Result ℕ E → ℕ → Type 0
EndsByEnd before now result room = (before ≤ now) × MatchResult result
    (λ n. (n ≡ 0 → 0 < room → now ≡ next_count before) × (0 < n → now ≡ before))
    (λ _. now ≡ before)

-- the count of faults as a function of the answer: it is raised by one if the call failed
abbrev pub CountsFault : {T E : Type 0} → ℕ → ℕ → Result T E → Type 0
CountsFault before now result = now ≡ (if is_err result then next_count before else before)

-- the count of ends as a function of the answer to a read that had room: it is raised by one if
-- nothing was given
abbrev pub CountsEnd : {E : Type 0} → ℕ → ℕ → Result ℕ E → Type 0
CountsEnd before now result = MatchResult result
    (λ n. now ≡ (if n == 0 then next_count before else before))
    (λ _. now ≡ before)

-- what a read does to the counts of faults and of ends
pub record CountsRead {E : Type 0} (faults faults' ends ends' : ℕ) (result : Result ℕ E) (room : ℕ)
    : Type 0 where
  pub cause : FailsByFault faults faults' result
  pub end : EndsByEnd ends ends' result room
  pub faults_by_one : CountsFault faults faults' result
  pub ends_by_one : CountsEnd ends ends' result
