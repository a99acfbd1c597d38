-- Values of the types of queries: in lists of left values, and given by expressions.
use Rattle.std.proofs.Common.{◌≡◌, ◌≤◌, ◌==◌, ℕ, ◌+◌, ◌∙◌, Bool, true, false, cond, List, [], ◌∷◌}
use Rattle.std.proofs.Common.{◌++◌, Option, Some, None, MatchOption, filter, length, refl, sym, ap}
use Rattle.std.proofs.Common.{subst, arith, inl, inr, length-append}
use Rattle.std.specs.List.{AllByRecursion}
use Rattle.std.proofs.lemmas.Option.{none-some, same_Some}
use Rattle.value_ops.specs.declared.value.Value.{Value}
use Rattle.value_ops.specs.declared.value.ValueType.{ValueType}
use Rattle.expressions.specs.Expressions.{Expression}
use Rattle.value_ops.specs.Types.{IsValueOf}
use Rattle.expressions.specs.Typing.{HasType}
use Rattle.query_model.specs.QueryTypes.{of_one, of_two}
use Rattle.query_model.proofs.Expressed.{one_ranges, two_ranges}
use Rattle.query_model.proofs.ItemFields.{one_type, two_types}
use Rattle.split_eval.specs.Entries.{Contents, entry_at, live_entries, AreDistinct}
use Rattle.split_eval.specs.declared.entry.Entry.{Entry}
use Rattle.split_eval.proofs.Distinct.{AreDistinct-live, AreDistinct-put}
use Rattle.eval_nodes.specs.Sound.{AreEntriesOf}
use Rattle.step_laws.specs.declared.hit.Hit.{Hit}
use Rattle.step_laws.specs.Lefts.{AreCombined, AreTypedOnHits, AreTypedWith, IsApplied, IsEnded}
use Rattle.step_laws.specs.Lefts.{IsJoined, IsJoinedWith, IsPut, IsTypedOnBoth, IsTypedOnHit}
use Rattle.step_laws.specs.Lefts.{IsTypedOnOne, IsTypedWith}
use Rattle.step_laws.specs.Steps.{IsHitAt, IsHitOf}

all_push : {A : Type 0} (P : A → Type 0) (xs : List A) (x : A) → AllByRecursion P xs → P x
    → AllByRecursion P (xs ++ x ∷ [])
all_push P [] x all is = (is, tt)
all_push P (y ∷ xs) x all is = (all.0, all_push P xs x all.1 is)

all_chosen : {A : Type 0} (P : A → Type 0) (test : Bool) (x : A) (rest : List A) → P x
    → AllByRecursion P rest → AllByRecursion P (cond test (x ∷ rest) rest)
all_chosen P true x rest is all = (is, all)
all_chosen P false x rest is all = all

all_filtered : {A : Type 0} (P : A → Type 0) (test : A → Bool) (xs : List A) → AllByRecursion P xs
    → AllByRecursion P (filter test xs)
all_filtered P test [] all = tt
all_filtered P test (x ∷ xs) all =
    all_chosen P (test x) x (filter test xs) all.0 (all_filtered P test xs all.1)

few_chosen : {A : Type 0} (test : Bool) (x : A) (rest : List A) (n : ℕ) → length rest ≤ n
    → length (cond test (x ∷ rest) rest) ≤ n + 1
few_chosen true x rest n few = omega (arith, few)
few_chosen false x rest n few = omega (arith, few)

few_filtered : {A : Type 0} (test : A → Bool) (xs : List A) → length (filter test xs) ≤ length xs
few_filtered test [] = omega arith
few_filtered test (x ∷ xs) =
    let rest = few_chosen (test x) x (filter test xs) (length xs) (few_filtered test xs) in
    omega (arith, rest)

-- one more entry, or none
pub entries_put : (type : ValueType) (room : ℕ) (live : Bool) (old new : Contents Value)
    (entry : Entry Value) → AreEntriesOf type room old → IsValueOf type entry.value
    → IsPut live old entry new → AreEntriesOf type room new
entries_put type room live old new entry are is put = elim put [
  | inl (can, entries, same) ↦
      let rooms = are.room in
      let spare = can.room in
      let few : length (old.entries ++ entry ∷ []) ≤ new.room =
      (let count = length-append old.entries (entry ∷ []) in omega (arith, spare, count, same)) in
      record {
        room = same ∙ rooms;
        few = subst (λ (es : List (Entry Value)). length es ≤ new.room) (sym entries) few;
        distinct = subst AreDistinct (sym entries)
            (AreDistinct-put old.entries entry are.distinct can.fresh);
        typed = subst (AllByRecursion (λ (e : Entry Value). IsValueOf type e.value)) (sym entries)
            (all_push (λ (e : Entry Value). IsValueOf type e.value) old.entries entry are.typed is);
      }
  | inr (cannot, same) ↦ subst (AreEntriesOf type room) (sym same) are
]

-- those that are live
pub entries_kept : (type : ValueType) (room : ℕ) (live : ℕ → Bool) (old new : Contents Value)
    → AreEntriesOf type room old → new.entries ≡ live_entries live old.entries → new.room ≡ old.room
    → AreEntriesOf type room new
entries_kept type room live old new are entries same =
    let fewer : length (live_entries live old.entries) ≤ length old.entries =
    few_filtered (λ (e : Entry Value). live e.inner) old.entries in
    let few = are.few in
    let count = ap length entries in
    record {
      room = same ∙ are.room;
      few = omega (arith, fewer, few, count, same);
      distinct = subst AreDistinct (sym entries) (AreDistinct-live old.entries live are.distinct);
      typed = subst (AllByRecursion (λ (e : Entry Value). IsValueOf type e.value)) (sym entries)
          (all_filtered (λ (e : Entry Value). IsValueOf type e.value)
          (λ (e : Entry Value). live e.inner) old.entries are.typed);
    }

pub found_typed : (P : Entry Value → Type 0) (entries : List (Entry Value)) (inner : ℕ)
    (entry : Entry Value) → AllByRecursion P entries → entry_at entries inner ≡ Some entry → P entry
found_typed P [] inner entry all found = absurd (none-some entry found)
found_typed P (x ∷ entries) inner entry all found =
    first (x.inner == inner) (found_typed P entries inner entry all.1) found
  where
    first : (same : Bool) → (entry_at entries inner ≡ Some entry → P entry)
        → cond same (Some x) (entry_at entries inner) ≡ Some entry → P entry
    first true later there = subst P (same_Some x entry there) all.0
    first false later there = later there

-- expressions on values of the types that they are for
pub typed_on_one : (type result : ValueType) (e : Expression) (x : Value) → IsValueOf type x
    → HasType (of_one type) e result → IsTypedOnOne e x
typed_on_one type result e x is typed =
    (result, subst (λ t. HasType t e result) (sym (one_type type x is)) typed)

pub typed_on_both : (type other result : ValueType) (e : Expression) (x y : Value)
    → IsValueOf type x → IsValueOf other y → HasType (of_two type other) e result
    → IsTypedOnBoth e x y
typed_on_both type other result e x y is is' typed =
    (result, subst (λ t. HasType t e result) (sym (two_types type other x y is is')) typed)

pub hit_of : (type : ValueType) (at : ℕ) (hit : Option Hit) → IsHitAt type at hit → IsHitOf type hit
hit_of type at None is = tt
hit_of type at (Some found) is = is.1

pub typed_on_hit : (type result : ValueType) (e : Expression) (hit : Option Hit) → IsHitOf type hit
    → HasType (of_one type) e result → IsTypedOnHit e hit
typed_on_hit type result e None is typed = tt
typed_on_hit type result e (Some found) is typed = typed_on_one type result e found.value is typed

pub typed_with : (type other result : ValueType) (e : Expression) (x : Value) (right : Option Hit)
    → IsValueOf type x → IsHitOf other right → HasType (of_two type other) e result
    → IsTypedWith e x right
typed_with type other result e x None is is' typed = tt
typed_with type other result e x (Some found) is is' typed =
    typed_on_both type other result e x found.value is is' typed

pub all_typed_with : (type other result : ValueType) (e : Expression) (entries : List (Entry Value))
    (right : Option Hit)
    → AllByRecursion (λ (entry : Entry Value). IsValueOf type entry.value) entries
    → IsHitOf other right → HasType (of_two type other) e result → AreTypedWith e entries right
all_typed_with type other result e entries None all is typed = tt
all_typed_with type other result e entries (Some found) all is typed = λ entry there.
    typed_on_both type other result e entry.value found.value
    (found_typed (λ (one : Entry Value). IsValueOf type one.value) entries found.start entry
    all there) is typed

-- what they give
pub applied_of : (type result : ValueType) (e : Expression) (inner hit : Option Hit)
    → IsHitOf type inner → HasType (of_one type) e result → IsApplied e inner hit
    → IsHitOf result hit
applied_of type result e None hit is typed applied = subst (IsHitOf result) (sym applied) tt
applied_of type result e (Some found) hit is typed (v, same, gives) =
    subst (IsHitOf result) (sym same) (one_ranges type result e found.value v is typed gives)

pub applied_at : (type result : ValueType) (e : Expression) (at : ℕ) (inner hit : Option Hit)
    → IsHitAt type at inner → HasType (of_one type) e result → IsApplied e inner hit
    → IsHitAt result at hit
applied_at type result e at None hit is typed applied = subst (IsHitAt result at) (sym applied) tt
applied_at type result e at (Some found) hit is typed (v, same, gives) =
    subst (IsHitAt result at) (sym same)
    (is.0, one_ranges type result e found.value v is.1 typed gives)

pub joined_of : (type other result : ValueType) (e : Expression) (start : ℕ) (x : Value)
    (right hit : Option Hit) → IsValueOf type x → IsHitOf other right
    → HasType (of_two type other) e result → IsJoined e start x right hit → IsHitAt result start hit
joined_of type other result e start x None hit is is' typed joined =
    subst (IsHitAt result start) (sym joined) tt
joined_of type other result e start x (Some found) hit is is' typed (v, same, gives) =
    subst (IsHitAt result start) (sym same)
    (refl, two_ranges type other result e x found.value v is is' typed gives)

ended_with : (type other result : ValueType) (e : Expression)
    (waits : Option (Entry Value)) (right : Hit) (hit : Option Hit)
    → MatchOption waits (Unit {0}) (λ entry. IsValueOf type entry.value)
    → IsValueOf other right.value → HasType (of_two type other) e result
    → IsJoinedWith e waits (Some right) hit → IsHitOf result hit
ended_with type other result e None right hit is is' typed joined =
    subst (IsHitOf result) (sym joined) tt
ended_with type other result e (Some entry) right hit is is' typed joined =
    hit_of result entry.outer hit
    (joined_of type other result e entry.outer entry.value (Some right) hit is is' typed joined)

waits_typed : (type : ValueType) (entries : List (Entry Value)) (inner : ℕ)
    (waits : Option (Entry Value))
    → AllByRecursion (λ (entry : Entry Value). IsValueOf type entry.value) entries
    → entry_at entries inner ≡ waits
    → MatchOption waits (Unit {0}) (λ entry. IsValueOf type entry.value)
waits_typed type entries inner None all found = tt
waits_typed type entries inner (Some entry) all found =
    found_typed (λ (one : Entry Value). IsValueOf type one.value) entries inner entry all found

pub ended_of : (type other result : ValueType) (e : Expression) (entries : List (Entry Value))
    (right hit : Option Hit)
    → AllByRecursion (λ (entry : Entry Value). IsValueOf type entry.value) entries
    → IsHitOf other right → HasType (of_two type other) e result → IsEnded e entries right hit
    → IsHitOf result hit
ended_of type other result e entries None hit all is typed ended =
    subst (IsHitOf result) (sym ended) tt
ended_of type other result e entries (Some right) hit all is typed ended =
    ended_with type other result e (entry_at entries right.start) right hit
    (waits_typed type entries right.start (entry_at entries right.start) all refl) is typed ended

-- two hits
pub typed_on_hits : (type other result : ValueType) (e : Expression) (left right : Option Hit)
    → IsHitOf type left → IsHitOf other right → HasType (of_two type other) e result
    → AreTypedOnHits e left right
typed_on_hits type other result e None right is is' typed = tt
typed_on_hits type other result e (Some found) right is is' typed =
    typed_with type other result e found.value right is is' typed

pub combined_at : (type other result : ValueType) (e : Expression) (at : ℕ)
    (left right hit : Option Hit) → IsHitAt type at left → IsHitOf other right
    → HasType (of_two type other) e result → AreCombined e left right hit → IsHitAt result at hit
combined_at type other result e at None right hit is is' typed combined =
    subst (IsHitAt result at) (sym combined) tt
combined_at type other result e at (Some found) right hit is is' typed combined =
    subst (λ s. IsHitAt result s hit) is.0
    (joined_of type other result e found.start found.value right hit is.1 is' typed combined)

pub combined_of : (type other result : ValueType) (e : Expression) (left right hit : Option Hit)
    → IsHitOf type left → IsHitOf other right → HasType (of_two type other) e result
    → AreCombined e left right hit → IsHitOf result hit
combined_of type other result e None right hit is is' typed combined =
    subst (IsHitOf result) (sym combined) tt
combined_of type other result e (Some found) right hit is is' typed combined =
    hit_of result found.start hit
    (joined_of type other result e found.start found.value right hit is is' typed combined)
