-- What is read of the entries of a table, and what becomes of them where one is pushed.
use Rattle.std.proofs.Common.{◌≡◌, ◌<◌, ◌≤◌, ◌↔◌, ◌==◌, ◌+◌, ◌-◌, ℕ, zero, suc, Bool, false, List}
use Rattle.std.proofs.Common.{[], ◌∷◌, ◌++◌, length, get_or, take, drop, map, Some, refl, ◌∙◌, ap}
use Rattle.std.proofs.Common.{arith, sym, subst}
use Rattle.std.specs.Prelude.{IsTrue}
use Rattle.std.specs.List.{between, slice_get}
use Rattle.std.specs.Option.{option_map}
use Rattle.std.proofs.lemmas.Bool.{eq-eqb, false≢true, ne_eqb}
use Rattle.std.proofs.lemmas.List.{drop-append-le, drop_at, drop_more, length-append, length-drop}
use Rattle.std.proofs.lemmas.List.{take-append-le, take_all}
use Rattle.std.proofs.lemmas.Option.{slice_get-get_or, slice_get-map, slice_get_read}
use Rattle.value_ops.specs.declared.scalar.Scalar.{Scalar}
use Rattle.value_ops.specs.declared.entries.Entry.{Entry}
use Rattle.value_ops.specs.Entries.{keys_of, values_of}
use Rattle.value_ops.specs.KeyBytes.{ends_of, entries_from, KeysFill}

-- there are as many as are kept
pub length-entries_from : (start : ℕ) (entries : List Entry) (bytes : List ℕ)
    → length (entries_from start entries bytes) ≡ length entries
length-entries_from start [] bytes = refl
length-entries_from start (entry ∷ entries) bytes =
    ap suc (length-entries_from entry.end entries bytes)

-- what is an entry of the table is one that is kept
pub kept_within : (entries : List Entry) (bytes : List ℕ) (pairs : List (List ℕ × Scalar)) (i : ℕ)
    → entries_from 0 entries bytes ≡ pairs → i < length pairs → i < length entries
kept_within entries bytes pairs i seen within =
    omega (arith, length-entries_from 0 entries bytes, ap length seen)

-- and there are none exactly where none are kept
pub is_none_kept : (start : ℕ) (entries : List Entry) (bytes : List ℕ) (none : Bool)
    → none ≡ (length entries == 0) → IsTrue none ↔ (entries_from start entries bytes ≡ [])
is_none_kept start [] bytes none is = (λ yes. refl, λ same. is ∙ eq-eqb 0 0 refl)
is_none_kept start (entry ∷ entries) bytes none is =
    let some : (length (entry ∷ entries) == 0) ≡ false =
    ne_eqb (length (entry ∷ entries)) 0 (λ z. omega (arith, z)) in
    (λ yes. absurd (false≢true (sym (is ∙ some) ∙ yes)), λ same. cc)

-- the first key begins within the bytes
first_within : (start : ℕ) (entries : List Entry) (size : ℕ)
    → KeysFill start entries size → start ≤ size
first_within start [] size fill = omega (arith, fill)
first_within start (entry ∷ entries) size fill =
    omega (arith, fill.0, first_within entry.end entries size fill.1)

-- and so does the key that is the first of those that are left
pub left_within : (start : ℕ) (entries : List Entry) (i size : ℕ) (d : Entry) → i < length entries
    → KeysFill start (drop i entries) size → (get_or entries i d).end ≤ size
left_within start entries i size d within fill =
    let left : KeysFill start (get_or entries i d ∷ drop (i + 1) entries) size
    = subst (λ (es : List Entry). KeysFill start es size) (drop_more entries i d within) fill in
    first_within (get_or entries i d).end (drop (i + 1) entries) size left.1

-- each key lies within the bytes
key_within : (first : ℕ) (entries : List Entry) (size i start end : ℕ) → KeysFill first entries size
    → slice_get (first ∷ ends_of entries) i ≡ Some start → slice_get (ends_of entries) i ≡ Some end
    → (start ≤ end) × (end ≤ size)
key_within first [] size i start end fill begins ends = cc
key_within first (entry ∷ entries) size zero start end fill begins ends =
    let start_is : first ≡ start = cc in
    let end_is : entry.end ≡ end = cc in
    (omega (arith, fill.0), omega (arith, first_within entry.end entries size fill.1))
key_within first (entry ∷ entries) size (suc i) start end fill begins ends =
    key_within entry.end entries size i start end fill.1 begins ends

-- and is what lies between its start and its end
key_between : (first : ℕ) (entries : List Entry) (bytes : List ℕ) (i start end : ℕ)
    → slice_get (first ∷ ends_of entries) i ≡ Some start → slice_get (ends_of entries) i ≡ Some end
    → slice_get (keys_of (entries_from first entries bytes)) i ≡ Some (between start end bytes)
key_between first [] bytes i start end begins ends = cc
key_between first (entry ∷ entries) bytes zero start end begins ends =
    let start_is : first ≡ start = cc in
    let end_is : entry.end ≡ end = cc in
    rw (start_is, end_is) refl
key_between first (entry ∷ entries) bytes (suc i) start end begins ends =
    key_between entry.end entries bytes i start end begins ends

-- where the key of an entry that was read ends
end_at : (entries : List Entry) (i : ℕ) (entry : Entry) → i < length entries
    → entry ≡ get_or entries i entry → slice_get (ends_of entries) i ≡ Some entry.end
end_at entries i entry within is =
    slice_get-map (λ (e : Entry). e.end) entries i
    ∙ ap (option_map (λ (e : Entry). e.end))
    (slice_get_read entries (length entries) i entry refl within is)

-- and where a key begins that is not the first
pub start_at : (entries : List Entry) (i : ℕ) (d : Entry) → 0 < i → i < length entries
    → slice_get (0 ∷ ends_of entries) i ≡ Some (get_or entries (i - 1) d).end
start_at entries zero d after within = absurd (omega arith)
start_at entries (suc i) d after within =
    let before : suc i - 1 ≡ i = omega arith in
    rw before (slice_get-map (λ (e : Entry). e.end) entries i
    ∙ ap (option_map (λ (e : Entry). e.end)) (slice_get-get_or entries i d (omega arith)))

-- so it is with an entry that was read, and with the start that was found for it
pub read_within : (entries found : List Entry) (size i start : ℕ) (entry : Entry)
    → KeysFill 0 entries size → i < length entries → found ≡ entries
    → slice_get (0 ∷ ends_of found) i ≡ Some start → entry ≡ get_or entries i entry
    → (start ≤ entry.end) × (entry.end ≤ size)
read_within entries found size i start entry fill within same begins is =
    key_within 0 entries size i start entry.end fill (rw same at begins)
    (end_at entries i entry within is)

pub key_at : (entries found : List Entry) (bytes : List ℕ) (i start : ℕ) (entry : Entry)
    → i < length entries → found ≡ entries → slice_get (0 ∷ ends_of found) i ≡ Some start
    → entry ≡ get_or entries i entry
    → slice_get (keys_of (entries_from 0 entries bytes)) i ≡ Some (between start entry.end bytes)
key_at entries found bytes i start entry within same begins is =
    key_between 0 entries bytes i start entry.end (rw same at begins)
    (end_at entries i entry within is)

-- the scalars are those that are kept
values_of-entries_from : (start : ℕ) (entries : List Entry) (bytes : List ℕ)
    → values_of (entries_from start entries bytes) ≡ map (λ (e : Entry). e.value) entries
values_of-entries_from start [] bytes = refl
values_of-entries_from start (entry ∷ entries) bytes =
    ap (λ values. entry.value ∷ values) (values_of-entries_from entry.end entries bytes)

pub scalar_at : (start : ℕ) (entries : List Entry) (bytes : List ℕ) (i : ℕ) (entry : Entry)
    → i < length entries → entry ≡ get_or entries i entry
    → slice_get (values_of (entries_from start entries bytes)) i ≡ Some entry.value
scalar_at start entries bytes i entry within is =
    rw (values_of-entries_from start entries bytes)
    (slice_get-map (λ (e : Entry). e.value) entries i
    ∙ ap (option_map (λ (e : Entry). e.value))
    (slice_get_read entries (length entries) i entry refl within is))

-- bytes after a key do not change it
between-append : (start end : ℕ) (bytes more : List ℕ) → start ≤ end → end ≤ length bytes
    → between start end (bytes ++ more) ≡ between start end bytes
between-append start end bytes more up within =
    let below : start ≤ length bytes = omega arith in
    let size = length-drop start bytes in
    let fits : end - start ≤ length (drop start bytes) = omega arith in
    rw (drop-append-le start bytes more below)
    (take-append-le (end - start) (drop start bytes) more fits)

-- a key after the bytes of the others becomes the last one
pub entries_from-push : (start : ℕ) (entries : List Entry) (bytes key : List ℕ) (entry : Entry)
    → KeysFill start entries (length bytes) → entry.end ≡ length (bytes ++ key)
    → entries_from start (entries ++ entry ∷ []) (bytes ++ key)
    ≡ entries_from start entries bytes ++ (key, entry.value) ∷ []
entries_from-push start [] bytes key entry fill ends =
    let size = length-append bytes key in
    let after : drop start (bytes ++ key) ≡ key = drop_at bytes key start (sym fill) in
    let whole : take (entry.end - start) key ≡ key =
    take_all (entry.end - start) key (omega arith) in
    rw (after, whole) refl
entries_from-push start (first ∷ entries) bytes key entry fill ends =
    let within = first_within first.end entries (length bytes) fill.1 in
    let same : between start first.end (bytes ++ key) ≡ between start first.end bytes
    = between-append start first.end bytes key fill.0 within in
    rw (same, entries_from-push first.end entries bytes key entry fill.1 ends) refl

-- and ends with the bytes
pub KeysFill-push : (start : ℕ) (entries : List Entry) (bytes key : List ℕ) (entry : Entry)
    → KeysFill start entries (length bytes) → entry.end ≡ length (bytes ++ key)
    → KeysFill start (entries ++ entry ∷ []) (length (bytes ++ key))
KeysFill-push start [] bytes key entry fill ends =
    (omega (arith, fill, ends, length-append bytes key), ends)
KeysFill-push start (first ∷ entries) bytes key entry fill ends =
    (fill.0, KeysFill-push first.end entries bytes key entry fill.1 ends)
