-- Entries that are added to a table one after the other.
use Rattle.std.proofs.Common.{◌≡◌, ◌<◌, ◌≤◌, ◌+◌, ◌-◌, ℕ, suc, Bool, true, false, cond, ◌||◌}
use Rattle.std.proofs.Common.{List, [], ◌∷◌, ◌++◌, Option, None, Some, refl, sym, ap, ◌∙◌}
use Rattle.std.proofs.Common.{arith}
use Rattle.std.specs.Prelude.{is_some}
use Rattle.std.specs.List.{list_any}
use Rattle.std.specs.Str.{bytes_eq}
use Rattle.std.proofs.lemmas.Bool.{false≢true}
use Rattle.std.proofs.lemmas.Cmp.{nat_list_eq_equiv}
use Rattle.std.proofs.lemmas.List.{map_push}
use Rattle.value_ops.specs.Entries.{keys_of, value_at}
use Rattle.value_ops.specs.declared.scalar.Scalar.{Scalar}
use Rattle.runner_snapshot.specs.declared.flaw.SnapStop.{SnapStop}
use Rattle.runner_snapshot.specs.Reading.{Read, ◌>>=◌, IsUnread, more_entries_at}
use Rattle.runner_snapshot.specs.Reading.{pair_at, scalar_at, text_at}
use Rattle.runner_snapshot.proofs.Repeating.{unread_first, unread_same}

-- entries as a table has them
abbrev pub Held : Type 0
Held = List (List ℕ × Scalar)

neither : (first others : Bool) → (first || others) ≡ false → (first ≡ false) × (others ≡ false)
neither true others e = absurd (false≢true (sym e))
neither false others e = (refl, e)

-- a key that is none of the keys has no value
pub none_held : (key : List ℕ) (held : Held) → list_any (bytes_eq key) (keys_of held) ≡ false
    → value_at key held ≡ None
none_held key [] none = refl
none_held key (entry ∷ held) none =
    let each = neither (bytes_eq key entry.0) (list_any (bytes_eq key) (keys_of held)) none in
    ap (λ (same : Bool). cond same (Some entry.1) (value_at key held))
    (sym (nat_list_eq_equiv.symm key entry.0) ∙ each.0)
    ∙ none_held key held each.1

first_held : (first others : Bool) (value : Scalar) (rest : Option Scalar)
    → (first || others) ≡ true → (others ≡ true → is_some rest ≡ true)
    → is_some (cond first (Some value) rest) ≡ true
first_held true others value rest e further = refl
first_held false others value rest e further = further e

-- a key that is one of them has a value
pub some_held : (key : List ℕ) (held : Held) → list_any (bytes_eq key) (keys_of held) ≡ true
    → is_some (value_at key held) ≡ true
some_held key [] some = absurd (false≢true some)
some_held key (entry ∷ held) some =
    first_held (bytes_eq entry.0 key) (list_any (bytes_eq key) (keys_of held)) entry.1
    (value_at key held)
    (ap (λ (same : Bool). same || list_any (bytes_eq key) (keys_of held))
    (sym (nat_list_eq_equiv.symm key entry.0)) ∙ some)
    (some_held key held)

-- one more key, which was not there
pub more_keys : (key name : List ℕ) (names new : List (List ℕ)) → name ≡ key
    → list_any (bytes_eq key) names ≡ false
    → new ≡ cond (list_any (bytes_eq name) names) names (names ++ name ∷ [])
    → new ≡ names ++ key ∷ []
more_keys key name names new is none inserted =
    inserted
    ∙ ap (λ (b : Bool). cond b names (names ++ name ∷ []))
    (ap (λ (text : List ℕ). list_any (bytes_eq text) names) is ∙ none)
    ∙ ap (λ (text : List ℕ). names ++ text ∷ []) is

pub keys_after : (held new : Held) (key : List ℕ) (scalar : Scalar) (names now : List (List ℕ))
    → names ≡ keys_of held → new ≡ held ++ (key, scalar) ∷ [] → now ≡ names ++ key ∷ []
    → now ≡ keys_of new
keys_after held new key scalar names now are is more =
    let entry : List ℕ × Scalar = (key, scalar) in
    more ∙ ap (λ (before : List (List ℕ)). before ++ key ∷ []) are
    ∙ sym (map_push (λ (e : List ℕ × Scalar). e.0) held entry) ∙ ap keys_of (sym is)

-- ---- a loop over entries

-- what is read of an entry, and what comes of it
abbrev after_entry : Held → ℕ → (List ℕ × Scalar) × List ℕ → Read Held
after_entry held left entry =
    cond (is_some (value_at entry.0.0 held)) None
    (more_entries_at (held ++ entry.0 ∷ []) left entry.1)

one_left : (held : Held) (count i : ℕ) (bytes : List ℕ) → i < count
    → more_entries_at held (count - i) bytes
    ≡ (pair_at text_at scalar_at bytes >>= after_entry held (count - (i + 1)))
one_left held count i bytes within =
    let left : count - i ≡ suc (count - (i + 1)) = omega arith in
    ap (λ (n : ℕ). more_entries_at held n bytes) left

pub table_goes_on : (held : Held) (key : List ℕ) (scalar : Scalar) (count i : ℕ)
    (bytes after : List ℕ) (total : Read Held) → i < count
    → pair_at text_at scalar_at bytes ≡ Some ((key, scalar), after) → value_at key held ≡ None
    → more_entries_at held (count - i) bytes ≡ total
    → more_entries_at (held ++ (key, scalar) ∷ []) (count - (i + 1)) after ≡ total
table_goes_on held key scalar count i bytes after total within reads none so_far =
    let one : more_entries_at held (count - i) bytes
    ≡ more_entries_at (held ++ (key, scalar) ∷ []) (count - (i + 1)) after =
    one_left held count i bytes within
    ∙ ap (λ (r : Read (List ℕ × Scalar)). r >>= after_entry held (count - (i + 1))) reads
    ∙ ap (λ (found : Option Scalar). cond (is_some found) None
    (more_entries_at (held ++ (key, scalar) ∷ []) (count - (i + 1)) after)) none in
    sym one ∙ so_far

pub table_ends : (stop : SnapStop) (held : Held) (count i : ℕ) (bytes : List ℕ)
    (total : Read Held) → i < count → IsUnread stop (pair_at text_at scalar_at bytes)
    → more_entries_at held (count - i) bytes ≡ total → IsUnread stop total
table_ends stop held count i bytes total within unread so_far =
    unread_same stop (pair_at text_at scalar_at bytes >>= after_entry held (count - (i + 1))) total
    (sym so_far ∙ one_left held count i bytes within)
    (unread_first stop (pair_at text_at scalar_at bytes) (after_entry held (count - (i + 1)))
    unread)

pub table_repeats : (held : Held) (key : List ℕ) (scalar : Scalar) (count i : ℕ)
    (bytes after : List ℕ) (total : Read Held) → i < count
    → pair_at text_at scalar_at bytes ≡ Some ((key, scalar), after)
    → is_some (value_at key held) ≡ true → more_entries_at held (count - i) bytes ≡ total
    → total ≡ None
table_repeats held key scalar count i bytes after total within reads some so_far =
    sym so_far ∙ one_left held count i bytes within
    ∙ ap (λ (r : Read (List ℕ × Scalar)). r >>= after_entry held (count - (i + 1))) reads
    ∙ ap (λ (test : Bool). cond test None
    (more_entries_at (held ++ (key, scalar) ∷ []) (count - (i + 1)) after)) some

pub table_done : (held : Held) (count i : ℕ) (bytes : List ℕ) (total : Read Held) → count ≤ i
    → more_entries_at held (count - i) bytes ≡ total → total ≡ Some (held, bytes)
table_done held count i bytes total end so_far =
    let left : count - i ≡ 0 = omega arith in
    sym so_far ∙ ap (λ (n : ℕ). more_entries_at held n bytes) left
