-- Where words continue in the positions of a rate, item by item.
use Rattle.std.proofs.Common.{◌≡◌, inl, inr, ℕ, ◌+◌, ◌^◌, ◌<◌, ◌≤◌, ◌↔◌, ◌++◌, ◌∙◌, Bool, true}
use Rattle.std.proofs.Common.{false, List, [], ◌∷◌, Some, IsTrue, bit_or, length, take, get_or}
use Rattle.std.proofs.Common.{refl, sym, ap, subst, arith}
use Rattle.std.specs.Prelude.{MatchBool, slice_get}
use Rattle.std.proofs.lemmas.List.{get_or_append_left, get_or_push, length_push, take_more}
use Rattle.value_ops.specs.declared.field.Field.{Field}
use Rattle.rate_expr.specs.Paths.{AreOf, Follows, Leads, Meets, Spells}
use Rattle.rate_expr.specs.Rates.{Regex}
use Rattle.rate_expr.specs.Sets.{AreSets, Has, Sets}
use Rattle.rate_expr.specs.Words.{Word}
use Rattle.rate_expr.proofs.MaskMembers.{has_added, has_added_same, has_first, has_or, has_second}
use Rattle.rate_expr.proofs.MaskMembers.{has_zero}
use Rattle.rate_expr.proofs.MaskSets.{AreMeeting, below-more, overlap_decides}
use Rattle.rate_expr.proofs.PathSteps.{follows_below, leads_less, leads_more, leads_one}
use Rattle.rate_expr.proofs.PathSteps.{leads_only_one, meets_below}
use Rattle.slow_eval.specs.Fronts.{AreAfter, AreInRate, AreMet, AreSpelled}

-- those of the positions below a bound that the mask has and the item meets
abbrev pub AreMetBelow : Sets → ℕ → List Field → ℕ → ℕ → Type 0
AreMetBelow sets mask item bound met =
    (position : ℕ)
    → Has met position ↔ ((position < bound) × Has mask position × Meets sets position item)

pub met_none : (sets : Sets) (mask : ℕ) (item : List Field) → AreMetBelow sets mask item 0 0
met_none sets mask item position = (
  λ has. absurd (has_zero position has),
  λ both. let below = both.0 in absurd (omega arith),
)

-- one more that is met
pub met_added : (sets : Sets) (mask : ℕ) (item : List Field) (at met : ℕ)
    → AreMetBelow sets mask item at met → Has mask at → Meets sets at item
    → AreMetBelow sets mask item (at + 1) (bit_or met (2 ^ at))
met_added sets mask item at met so_far has meets position = (
  λ there. elim (has_added met at position there) [
    | inl before ↦ let is = (so_far position).0 before in let below = is.0 in
        (omega arith, is.1, is.2)
    | inr here ↦ (
      omega arith,
      subst (Has mask) (sym here) has,
      subst (λ p. Meets sets p item) (sym here) meets,
    )
  ],
  λ is. elim (below-more position at is.0) [
    | inl here ↦ subst (Has (bit_or met (2 ^ at))) (sym here) (has_added_same met at)
    | inr before ↦ has_first met (2 ^ at) position ((so_far position).1 (before, is.1, is.2))
  ],
)

-- one more that is not
pub met_passed : (sets : Sets) (mask : ℕ) (item : List Field) (at met : ℕ)
    → AreMetBelow sets mask item at met → (Has mask at → Meets sets at item → ⊥)
    → AreMetBelow sets mask item (at + 1) met
met_passed sets mask item at met so_far not position = (
  λ there. let is = (so_far position).0 there in let below = is.0 in (omega arith, is.1, is.2),
  λ is. elim (below-more position at is.0) [
    | inl here ↦
        absurd (not (subst (Has mask) here is.1) (subst (λ p. Meets sets p item) here is.2))
    | inr before ↦ (so_far position).1 (before, is.1, is.2)
  ],
)

-- all of them
pub met_all : (sets : Sets) (mask : ℕ) (item : List Field) (bound met : ℕ)
    → AreMetBelow sets mask item bound met → length sets.preds ≤ bound → AreMet sets mask item met
met_all sets mask item bound met so_far all position = (
  λ there. let is = (so_far position).0 there in (is.1, is.2),
  λ both. let below = meets_below sets position item both.1 in
      (so_far position).1 (omega arith, both.0, both.1),
)

-- the positions after those of the mask that are below a bound
abbrev pub AreAfterBelow : Sets → ℕ → ℕ → ℕ → Type 0
AreAfterBelow sets mask bound reached =
    (next : ℕ)
    → Has reached next ↔ ((from : ℕ) × (from < bound) × Has mask from × Follows sets from next)

pub after_none : (sets : Sets) (mask : ℕ) → AreAfterBelow sets mask 0 0
after_none sets mask next = (
  λ has. absurd (has_zero next has),
  λ (from, below, has, follows). absurd (omega arith),
)

-- one mask of followers
followers : (sets : Sets) (at follow next : ℕ) → slice_get sets.follow at ≡ Some follow
    → Follows sets at next → Has follow next
followers sets at follow next read (other, found, has) =
    let same : other ≡ follow = cc in subst (λ m. Has m next) same has

pub after_added : (sets : Sets) (mask at reached follow : ℕ)
    → AreAfterBelow sets mask at reached → Has mask at → slice_get sets.follow at ≡ Some follow
    → AreAfterBelow sets mask (at + 1) (bit_or reached follow)
after_added sets mask at reached follow so_far has read next = (
  λ there. elim (has_or reached follow next there) [
    | inl before ↦ let (from, below, has', follows) = (so_far next).0 before in
        (from, omega arith, has', follows)
    | inr here ↦ (at, omega arith, has, (follow, read, here))
  ],
  λ (from, below, has', follows). elim (below-more from at below) [
    | inl here ↦ has_second reached follow next
        (followers sets at follow next read (subst (λ p. Follows sets p next) here follows))
    | inr before ↦ has_first reached follow next ((so_far next).1 (from, before, has', follows))
  ],
)

pub after_passed : (sets : Sets) (mask at reached : ℕ) → AreAfterBelow sets mask at reached
    → (Has mask at → ⊥) → AreAfterBelow sets mask (at + 1) reached
after_passed sets mask at reached so_far not next = (
  λ there. let (from, below, has, follows) = (so_far next).0 there in
      (from, omega arith, has, follows),
  λ (from, below, has, follows). elim (below-more from at below) [
    | inl here ↦ absurd (not (subst (Has mask) here has))
    | inr before ↦ (so_far next).1 (from, before, has, follows)
  ],
)

pub after_all : (sets : Sets) (mask bound reached : ℕ) → AreSets sets
    → AreAfterBelow sets mask bound reached → length sets.preds ≤ bound → AreAfter sets mask reached
after_all sets mask bound reached are so_far all next = (
  λ there. let (from, below, has, follows) = (so_far next).0 there in (from, has, follows),
  λ (from, has, follows).
      let below : from < length sets.follow = follows_below sets from next follows in
      let each : length sets.follow ≡ length sets.preds = are.each in
      (so_far next).1 (from, omega arith, has, follows),
)

-- a word continues in the position
abbrev pub Continues : Sets → Word → ℕ → Type 0
Continues sets [] next = Has sets.first next
Continues sets (item ∷ word) next =
    (from : ℕ) × Leads sets (item ∷ word) from × Follows sets from next

-- the mask has exactly those in which it does
abbrev pub AreWays : Sets → Word → ℕ → Type 0
AreWays sets word ways = (next : ℕ) → Has ways next ↔ Continues sets word next

-- and exactly those in which paths of its end
abbrev pub AreEnds : Sets → Word → ℕ → Type 0
AreEnds sets word ends = (to : ℕ) → Has ends to ↔ Leads sets word to

-- the ways on that one more item meets are the ends of the longer word
pub ends_more : (sets : Sets) (word : Word) (item : List Field) (ways ends : ℕ)
    → AreWays sets word ways → AreMet sets ways item ends → AreEnds sets (word ++ item ∷ []) ends
ends_more sets [] item ways ends are met to = (
  λ has. let both = (met to).0 has in leads_one sets item to ((are to).0 both.0) both.1,
  λ leads. let both = leads_only_one sets item to leads in (met to).1 ((are to).1 both.0, both.1),
)
ends_more sets (first ∷ word) item ways ends are met to = (
  λ has.
      let both = (met to).0 has in
      let (from, leads, follows) = (are to).0 both.0 in
      leads_more sets (first ∷ word) from item to leads follows both.1,
  λ leads.
      let (from, less, follows, meets) = leads_less sets (first ∷ word) item to
      (omega arith) leads in
      (met to).1 ((are to).1 (from, less, follows), meets),
)

-- what comes after the ends are the ways on
pub ways_more : (sets : Sets) (word : Word) (item : List Field) (ends ways : ℕ)
    → AreEnds sets (word ++ item ∷ []) ends → AreAfter sets ends ways
    → AreWays sets (word ++ item ∷ []) ways
ways_more sets [] item ends ways are reached next = (
  λ has. let (from, end, follows) = (reached next).0 has in (from, (are from).0 end, follows),
  λ (from, leads, follows). (reached next).1 (from, (are from).1 leads, follows),
)
ways_more sets (first ∷ word) item ends ways are reached next = (
  λ has. let (from, end, follows) = (reached next).0 has in (from, (are from).0 end, follows),
  λ (from, leads, follows). (reached next).1 (from, (are from).1 leads, follows),
)

-- a word is spelled where one of its ends is one of the rate
spells_more : (sets : Sets) (word : Word) (item : List Field) (ends : ℕ) (test : Bool)
    → AreEnds sets (word ++ item ∷ []) ends → IsTrue test ↔ AreMeeting ends sets.last
    → IsTrue test ↔ Spells sets (word ++ item ∷ [])
spells_more sets [] item ends test are meeting = (
  λ is. let (end, has, last) = meeting.0 is in (end, (are end).0 has, last),
  λ (end, leads, last). meeting.1 (end, (are end).1 leads, last),
)
spells_more sets (first ∷ word) item ends test are meeting = (
  λ is. let (end, has, last) = meeting.0 is in (end, (are end).0 has, last),
  λ (end, leads, last). meeting.1 (end, (are end).1 leads, last),
)

-- which of the fronts so far are spelled, and where the longest of them continues
pub record IsStepped (sets : Sets) (word : Word) (at ways : ℕ) (fronts : List Bool) : Type 0 where
  pub count : length fronts ≡ at + 1
  pub each : (place : ℕ) → place ≤ at
      → IsTrue (get_or fronts place false) ↔ Spells sets (take place word)
  pub continues : AreWays sets (take at word) ways

pub step_none : (sets : Sets) (word : Word) → IsStepped sets word 0 sets.first (sets.nullable ∷ [])
step_none sets word = record {
  count = refl;
  each = λ place none. rw (first place none) (nullable_is sets.nullable);
  continues = λ next. (λ has. has, λ has. has);
}
  where
    first : (place : ℕ) → place ≤ 0 → place ≡ 0
    first place none = omega arith

    nullable_is : (nullable : Bool) → IsTrue nullable ↔ (nullable ≡ true)
    nullable_is nullable = (λ is. is, λ is. is)

-- one more item
pub step_more : (sets : Sets) (word : Word) (at ways ends after : ℕ) (fronts : List Bool)
    (item : List Field) (test : Bool) → IsStepped sets word at ways fronts → at < length word
    → get_or word at item ≡ item → AreMet sets ways item ends → AreAfter sets ends after
    → MatchBool test ((p : ℕ) × Has ends p × Has sets.last p)
    ((p : ℕ) → Has ends p → Has sets.last p → ⊥)
    → IsStepped sets word (at + 1) after (fronts ++ test ∷ [])
step_more sets word at ways ends after fronts item test so_far inside read met reached overlaps =
    let more : take (at + 1) word ≡ take at word ++ item ∷ [] =
    take_more word at item inside ∙ ap (λ x. take at word ++ x ∷ []) read in
    let are : AreEnds sets (take at word ++ item ∷ []) ends =
    ends_more sets (take at word) item ways ends so_far.continues met in
    let long : length fronts ≡ at + 1 = so_far.count in
    record {
      count = length_push fronts test ∙ ap (λ n. n + 1) long;
      each = λ place within. elim (below-more place (at + 1) (omega arith)) [
        | inl here ↦
            subst (λ p. IsTrue (get_or (fronts ++ test ∷ []) p false) ↔ Spells sets (take p word))
            (sym here) (subst (λ b. IsTrue b ↔ Spells sets (take (at + 1) word))
            (sym (get_or_push fronts test false (at + 1) long))
            (subst (λ w. IsTrue test ↔ Spells sets w) (sym more)
            (spells_more sets (take at word) item ends test are
            (overlap_decides ends sets.last test overlaps))))
        | inr before ↦
            subst (λ b. IsTrue b ↔ Spells sets (take place word))
            (sym (get_or_append_left fronts (test ∷ []) false place (omega arith)))
            (so_far.each place (omega arith))
      ];
      continues = subst (λ w. AreWays sets w after) (sym more)
          (ways_more sets (take at word) item ends after are reached);
    }

-- all fronts
pub step_all : (sets : Sets) (word : Word) (at ways : ℕ) (fronts : List Bool)
    → IsStepped sets word at ways fronts → at ≡ length word → AreSpelled sets word fronts
step_all sets word at ways fronts all whole = record {
  count = all.count ∙ ap (λ n. n + 1) whole;
  each = λ place inside. all.each place (omega arith);
}

-- those that are spelled are in the rate
pub spelled_in : (sets : Sets) (rate : Regex) (word : Word) (fronts : List Bool) → AreOf sets rate
    → AreSpelled sets word fronts → AreInRate rate word fronts
spelled_in sets rate word fronts are all = record {
  count = all.count;
  each = λ place inside.
      let is = all.each place inside in
      let of = are (take place word) in
      (λ test. of.1 (is.0 test), λ in_rate. is.1 (of.0 in_rate));
}
