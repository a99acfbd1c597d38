-- For the prover. What becomes of left values: they are put in, found for a right hit, and joined
-- with it.
use Rattle.std.specs.Prelude.{◌≡◌, ◌≢◌, ◌<◌, ◌⊎◌, ℕ, Bool, true, List, [], ◌∷◌, ◌++◌, Option, None}
use Rattle.std.specs.Prelude.{Some, MatchOption, length}
use Rattle.value_ops.specs.declared.field.Field.{Field}
use Rattle.value_ops.specs.declared.value.Value.{Value}
use Rattle.value_ops.specs.declared.value.ValueType.{ValueType}
use Rattle.value_ops.specs.declared.value.ValueType.TheVariants.{Table}
use Rattle.expressions.specs.Evaluation.{given, value_of}
use Rattle.expressions.specs.Expressions.{Expression}
use Rattle.expressions.specs.Typing.{HasType, Types, types_of}
use Rattle.query_model.specs.Denotation.{on_both, on_one}
use Rattle.split_eval.specs.Entries.{Contents, entry_at}
use Rattle.split_eval.specs.declared.entry.Entry.{Entry}
use Rattle.step_laws.specs.declared.hit.Hit.{Hit}

-- a hit at the start with what the expression computes of the fields
abbrev pub IsFound : Expression → ℕ → List Field → Option Hit → Type 0
IsFound expression start fields hit =
    (value : Value) × (hit ≡ Some (record { start = start; value = value }))
    × (value_of (given fields None None) expression ≡ Some value)

-- the value is put in if the start is live, no value has its inner start, and there is room
pub record CanPut (continues : Bool) (held : Contents Value) (inner : ℕ) : Type 0 where
  pub live : continues ≡ true
  pub fresh : entry_at held.entries inner ≡ None
  pub room : length held.entries < held.room

-- the entry is put in if it can be, and else nothing changes
abbrev pub IsPut : Bool → Contents Value → Entry Value → Contents Value → Type 0
IsPut live old entry new =
    (CanPut live old entry.inner × (new.entries ≡ old.entries ++ entry ∷ [])
    × (new.room ≡ old.room))
    ⊎ ((CanPut live old entry.inner → ⊥) × (new ≡ old))

-- a hit at the start with what the expression computes of the left value and the right one, and no
-- hit if there is no right one
abbrev pub IsJoined : Expression → ℕ → Value → Option Hit → Option Hit → Type 0
IsJoined expression start left right joined = MatchOption right (joined ≡ None) (λ found.
    (value : Value) × (joined ≡ Some (record { start = start; value = value }))
    × (on_both expression left found.value ≡ Some value))

-- the same with the left value that waits at the start of the right hit, and no hit if none waits
abbrev pub IsJoinedWith : Expression → Option (Entry Value) → Option Hit → Option Hit → Type 0
IsJoinedWith expression waiting right joined =
    MatchOption waiting (joined ≡ None)
    (λ entry. IsJoined expression entry.outer entry.value right joined)

abbrev pub IsEnded : Expression → List (Entry Value) → Option Hit → Option Hit → Type 0
IsEnded expression entries right joined = MatchOption right (joined ≡ None) (λ found.
    IsJoinedWith expression (entry_at entries found.start) right joined)

-- if both have a hit, one at the left one's start with what the expression computes of both values,
-- and else none
abbrev pub AreCombined : Expression → Option Hit → Option Hit → Option Hit → Type 0
AreCombined expression left right combined = MatchOption left (combined ≡ None) (λ found.
    IsJoined expression found.start found.value right combined)

-- a hit with what the expression computes of the value of the operand's hit
abbrev pub IsApplied : Expression → Option Hit → Option Hit → Type 0
IsApplied expression inner applied = MatchOption inner (applied ≡ None) (λ found.
    (value : Value) × (applied ≡ Some (record { start = found.start; value = value }))
    × (on_one expression found.value ≡ Some value))

-- the expression is well typed on one value, and on two
abbrev pub IsTypedOnOne : Expression → Value → Type 0
IsTypedOnOne expression left =
    (type : ValueType) × HasType (types_of (given [] (Some left) None)) expression type

abbrev pub IsTypedOnBoth : Expression → Value → Value → Type 0
IsTypedOnBoth expression left right =
    (type : ValueType) × HasType (types_of (given [] (Some left) (Some right))) expression type

-- the expression is well typed on the value of a hit; on a left value and that of a right hit; on
-- the values of two hits; and on a value that waits and that of a right hit
abbrev pub IsTypedOnHit : Expression → Option Hit → Type 0
IsTypedOnHit expression inner = MatchOption inner (Unit {0})
    (λ found. IsTypedOnOne expression found.value)

abbrev pub IsTypedWith : Expression → Value → Option Hit → Type 0
IsTypedWith expression left right =
    MatchOption right (Unit {0}) (λ found. IsTypedOnBoth expression left found.value)

abbrev pub AreTypedOnHits : Expression → Option Hit → Option Hit → Type 0
AreTypedOnHits expression left right =
    MatchOption left (Unit {0}) (λ found. IsTypedWith expression found.value right)

abbrev pub AreTypedWith : Expression → List (Entry Value) → Option Hit → Type 0
AreTypedWith expression entries right = MatchOption right (Unit {0}) (λ found. (entry : Entry Value)
    → entry_at entries found.start ≡ Some entry → IsTypedOnBoth expression entry.value found.value)

-- the expression is well typed, and gives no table
abbrev pub GivesNoTable : Types → Expression → Type 0
GivesNoTable types expression =
    (type : ValueType) × (type ≢ Table) × HasType types expression type

-- so it is on a value, and on two
abbrev pub IsNoTableOnOne : Expression → Value → Type 0
IsNoTableOnOne expression left = GivesNoTable (types_of (given [] (Some left) None)) expression

abbrev pub IsNoTableOnBoth : Expression → Value → Value → Type 0
IsNoTableOnBoth expression left right =
    GivesNoTable (types_of (given [] (Some left) (Some right))) expression

-- the expression gives no table on the same of hits and of what waits
abbrev pub IsNoTableOnHit : Expression → Option Hit → Type 0
IsNoTableOnHit expression inner =
    MatchOption inner (Unit {0}) (λ found. IsNoTableOnOne expression found.value)

abbrev pub IsNoTableWith : Expression → Value → Option Hit → Type 0
IsNoTableWith expression left right =
    MatchOption right (Unit {0}) (λ found. IsNoTableOnBoth expression left found.value)

abbrev pub AreNoTablesOnHits : Expression → Option Hit → Option Hit → Type 0
AreNoTablesOnHits expression left right =
    MatchOption left (Unit {0}) (λ found. IsNoTableWith expression found.value right)

abbrev pub AreNoTablesWith : Expression → List (Entry Value) → Option Hit → Type 0
AreNoTablesWith expression entries right = MatchOption right (Unit {0}) (λ found.
    (entry : Entry Value) → entry_at entries found.start ≡ Some entry
    → IsNoTableOnBoth expression entry.value found.value)
