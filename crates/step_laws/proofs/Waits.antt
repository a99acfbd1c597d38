-- Left values that wait: before the end of the word, and with those of pieces that end there.
use Rattle.std.proofs.Common.{◌≡◌, ◌≢◌, ◌≤◌, ◌<◌, ◌↔◌, ◌==◌, ℕ, ◌∙◌, Bool, true, false, cond, List}
use Rattle.std.proofs.Common.{[], ◌∷◌, ◌++◌, Option, Some, None, IsTrue, if◌then◌else◌, drop}
use Rattle.std.proofs.Common.{length, refl, sym, ap, subst, arith, inl, inr}
use Rattle.std.specs.List.{Contains}
use Rattle.std.proofs.lemmas.Bool.{eqb-true, eqb-false}
use Rattle.std.proofs.lemmas.Option.{none-some, same_Some}
use Rattle.std.proofs.lemmas.List.Elements.{Contains-append_left, Contains-push_cases}
use Rattle.value_ops.specs.declared.field.Field.{Field}
use Rattle.value_ops.specs.declared.value.Value.{Value}
use Rattle.rate_expr.specs.Words.{Word}
use Rattle.split_eval.specs.Entries.{Contents, entry_at, live_entries, AreDistinct}
use Rattle.split_eval.specs.declared.entry.Entry.{Entry}
use Rattle.split_eval.proofs.Found.{entry_at-live, entry_at-put, entry_at-put_other}
use Rattle.split_eval.proofs.Distinct.{AreDistinct-put}
use Rattle.eval_nodes.specs.Represents.{AreWaiting, IsEntry}
use Rattle.eval_nodes.specs.Starts.{IsPiece}
use Rattle.eval_nodes.proofs.Pieces.{drop_more, empty_is, end_is, end_piece, length_more}
use Rattle.eval_nodes.proofs.Pieces.{piece_less, piece_more}
use Rattle.eval_nodes.proofs.Entries.{is_entry}
use Rattle.step_laws.specs.Lefts.{IsPut}
use Rattle.step_laws.proofs.Ends.{before_end}

-- the entries are the values of pieces that end before the end of the word
abbrev pub AreWaitingBefore : (Word → Value → Type 0) → (Word → Type 0) → Word → List ℕ
    → List (Entry Value) → Type 0
AreWaitingBefore D continues word starts entries =
    (inner outer : ℕ) (v : Value) → IsEntry entries inner outer v ↔ (Contains starts outer
    × ((piece : Word) × IsPiece word outer piece inner × (inner < length word) × D piece v)
    × continues (drop inner word))

-- a choice of what is found
kept_found : (live : Bool) (found : Option (Entry Value)) (entry : Entry Value)
    → (if live then found else None) ≡ Some entry → (live ≡ true) × (found ≡ Some entry)
kept_found true found entry there = (refl, there)
kept_found false found entry there = absurd (none-some entry there)

pub live_found : (entries : List (Entry Value)) (live : ℕ → Bool) (inner : ℕ) (entry : Entry Value)
    → entry_at (live_entries live entries) inner ≡ Some entry
    → (live inner ≡ true) × (entry_at entries inner ≡ Some entry)
live_found entries live inner entry there =
    kept_found (live inner) (entry_at entries inner) entry
    (sym (entry_at-live entries live inner) ∙ there)

found_live : (entries : List (Entry Value)) (live : ℕ → Bool) (inner : ℕ) (entry : Entry Value)
    → live inner ≡ true → entry_at entries inner ≡ Some entry
    → entry_at (live_entries live entries) inner ≡ Some entry
found_live entries live inner entry is there =
    entry_at-live entries live inner
    ∙ ap (λ (b : Bool). cond b (entry_at entries inner) None) is ∙ there

module _ (D : Word → Value → Type 0) (continues : Word → Type 0) where
  -- One more item: those whose right piece can still continue are kept.
  pub waiting_more : (word : Word) (item : List Field) (starts ends : List ℕ)
      (entries : List (Entry Value)) (live : ℕ → Bool)
      → ((u : Word) → continues (u ++ item ∷ []) → continues u)
      → AreWaiting D continues word starts entries
      → ((outer inner : ℕ) (piece : Word) (v : Value) → Contains starts outer
      → IsPiece word outer piece inner → D piece v → Contains ends inner)
      → ((inner : ℕ)
      → IsTrue (live inner) ↔ (Contains ends inner × continues (drop inner (word ++ item ∷ []))))
      → AreWaitingBefore D continues (word ++ item ∷ []) starts (live_entries live entries)
  waiting_more word item starts ends entries live less waiting reached lives = λ inner outer v. (
    λ there.
        let both = live_found entries live inner _ there in
        let (from, (piece, is, den), more) = (waiting.each inner outer v).0 both.1 in
        let inside = is.inside in
        let longer = length_more word item in (
          from,
          (piece, piece_more word item outer inner piece is, omega (arith, inside, longer), den),
          ((lives inner).0 both.0).1,
        ),
    λ (from, (piece, is, below, den), more).
        let longer = length_more word item in
        let inside : inner ≤ length word = omega (arith, below, longer) in
        let old = piece_less word item outer inner piece is inside in
        let was : continues (drop inner word) =
        less (drop inner word) (subst continues (drop_more word item inner inside) more) in
        found_live entries live inner _
        ((lives inner).1 (reached outer inner piece v from old den, more))
        ((waiting.each inner outer v).1 (from, (piece, old, den), was)),
  )

  -- no value of a piece to the end
  pub waiting_all : (word : Word) (starts : List ℕ) (entries : List (Entry Value))
      → AreDistinct entries → AreWaitingBefore D continues word starts entries
      → ((start : ℕ) (v : Value) → Contains starts start → D (drop start word) v → ⊥)
      → AreWaiting D continues word starts entries
  waiting_all word starts entries distinct before none = record {
    distinct = distinct;
    each = λ inner outer v. (
      λ there. let (from, (piece, is, below, den), more) = (before inner outer v).0 there in
          (from, (piece, is, den), more),
      λ (from, (piece, is, den), more). elim (before_end word inner is.inside) [
        | inl below ↦ (before inner outer v).1 (from, (piece, is, below, den), more)
        | inr last ↦ absurd (none outer v from
            (subst (λ u. D u v) (end_is word outer inner piece is last) den))
      ],
    );
  }

  -- nothing waits at the end yet
  pub fresh_end : (word : Word) (starts : List ℕ) (entries : List (Entry Value))
      → AreWaitingBefore D continues word starts entries → entry_at entries (length word) ≡ None
  fresh_end word starts entries before = none (entry_at entries (length word)) refl
    where
      none : (found : Option (Entry Value)) → entry_at entries (length word) ≡ found → found ≡ None
      none None is = refl
      none (Some entry) is =
          let (from, (piece, cut, below, den), more) =
          (before (length word) entry.outer entry.value).0
          (is_entry entries (length word) entry is) in
          absurd (omega (arith, below))

  -- The one value of a piece to the end is put where more may continue after it.
  pub waiting_end : (word : Word) (starts : List ℕ) (old new : Contents Value) (begun : ℕ)
      (x : Value) (live : Bool) → AreDistinct old.entries
      → AreWaitingBefore D continues word starts old.entries
      → Contains starts begun → begun ≤ length word → D (drop begun word) x
      → ((start : ℕ) (v : Value) → Contains starts start → D (drop start word) v
      → (start ≡ begun) × (v ≡ x))
      → (IsTrue live ↔ continues (drop (length word) word))
      → (live ≡ true → length old.entries < old.room)
      → IsPut live old (record { inner = length word; outer = begun; value = x }) new
      → AreWaiting D continues word starts new.entries
  waiting_end word starts old new begun x live distinct before there inside den one lives room put =
      let entry : Entry Value = record { inner = length word; outer = begun; value = x } in
      let fresh = fresh_end word starts old.entries before in
      elim put [
        | inl (can, entries, same) ↦
            subst (AreWaiting D continues word starts) (sym entries) (record {
              distinct = AreDistinct-put old.entries entry distinct fresh;
              each = λ inner outer v. (
                λ found. was_put inner outer v (inner == length word) refl can.live found,
                λ (from, (piece, is, den'), more). elim (before_end word inner is.inside) [
                  | inl below ↦
                      entry_at-put_other old.entries entry inner
                      (λ same. let s : inner ≡ length word = same in omega (arith, s, below))
                      ∙ (before inner outer v).1 (from, (piece, is, below, den'), more)
                  | inr last ↦
                      let only = one outer v from
                      (subst (λ u. D u v) (end_is word outer inner piece is last) den') in
                      ap (entry_at (old.entries ++ entry ∷ [])) last
                      ∙ entry_at-put old.entries entry fresh
                      ∙ same_entry inner outer v last only.0 only.1
                ],
              );
            })
        | inr (cannot, same) ↦
            subst (AreWaiting D continues word starts)
            (sym (ap (λ (held : Contents Value). held.entries) same)) (record {
              distinct = distinct;
              each = λ inner outer v. (
                λ found. let (from, (piece, is, below, den'), more) =
                    (before inner outer v).0 found in
                    (from, (piece, is, den'), more),
                λ (from, (piece, is, den'), more). elim (before_end word inner is.inside) [
                  | inl below ↦ (before inner outer v).1 (from, (piece, is, below, den'), more)
                  | inr last ↦
                      let is_live = lives.1 (subst (λ at. continues (drop at word)) last more) in
                      absurd
                      (cannot (record { live = is_live; fresh = fresh; room = room is_live }))
                ],
              );
            })
      ]
    where
      same_entry : (inner outer : ℕ) (v : Value) → inner ≡ length word → outer ≡ begun → v ≡ x
          → ◌≡◌ {A = Option (Entry Value)}
          (Some (record { inner = length word; outer = begun; value = x }))
          (Some (record { inner = inner; outer = outer; value = v }))
      same_entry inner outer v a b c =
          ap (λ i. Some (record { inner = i; outer = begun; value = x })) (sym a)
          ∙ ap (λ o. Some (record { inner = inner; outer = o; value = x })) (sym b)
          ∙ ap (λ y. Some (record { inner = inner; outer = outer; value = y })) (sym c)

      was_put : (inner outer : ℕ) (v : Value) (same : Bool)
          → (inner == length word) ≡ same → live ≡ true
          → IsEntry (old.entries ++ record { inner = length word; outer = begun; value = x } ∷ [])
          inner outer v
          → Contains starts outer × ((piece : Word) × IsPiece word outer piece inner × D piece v)
          × continues (drop inner word)
      was_put inner outer v true is is_live found =
          let last : inner ≡ length word = eqb-true inner (length word) is in
          let fresh = fresh_end word starts old.entries before in
          let same : ◌≡◌ {A = Option (Entry Value)}
          (Some (record { inner = length word; outer = begun; value = x }))
          (Some (record { inner = inner; outer = outer; value = v })) =
          sym (ap (entry_at (old.entries
          ++ record { inner = length word; outer = begun; value = x } ∷ [])) last
          ∙ entry_at-put old.entries (record { inner = length word; outer = begun; value = x })
          fresh) ∙ found in
          let alike = same_Some _ _ same in
          let outers : begun ≡ outer = ap (λ (e : Entry Value). e.outer) alike in
          let values : x ≡ v = ap (λ (e : Entry Value). e.value) alike in (
            subst (Contains starts) outers there,
            (
              drop outer word,
              subst (IsPiece word outer (drop outer word)) (sym last)
                  (end_piece word outer (subst (λ s. s ≤ length word) outers inside)),
              subst (λ s. D (drop s word) v) outers (subst (D (drop begun word)) values den),
            ),
            subst (λ at. continues (drop at word)) (sym last) (lives.0 is_live),
          )
      was_put inner outer v false is is_live found =
          let differs : inner ≢ length word = eqb-false inner (length word) is in
          let (from, (piece, cut, below, den'), more) = (before inner outer v).0
          (sym (entry_at-put_other old.entries
          (record { inner = length word; outer = begun; value = x }) inner differs)
          ∙ found) in
          (from, (piece, cut, den'), more)

  -- a new start at the end, whose empty piece has no value
  pub waiting_same : (word : Word) (starts : List ℕ) (entries : List (Entry Value)) (at : ℕ)
      → at ≡ length word → ((v : Value) → D [] v → ⊥) → AreWaiting D continues word starts entries
      → AreWaiting D continues word (starts ++ at ∷ []) entries
  waiting_same word starts entries at last none waiting = record {
    distinct = waiting.distinct;
    each = λ inner outer v. (
      λ there. let (from, rest, more) = (waiting.each inner outer v).0 there in
          (Contains-append_left starts (at ∷ []) outer from, rest, more),
      λ (from, (piece, is, den), more). elim (Contains-push_cases starts at outer from) [
        | inl old ↦ (waiting.each inner outer v).1 (old, (piece, is, den), more)
        | inr new ↦ absurd (none v
            (subst (λ u. D u v) (empty_is word outer inner piece is (sym new ∙ last)).0 den))
      ],
    );
  }

  -- or where no old piece to the end has one
  pub waiting_new : (word : Word) (starts : List ℕ) (entries : List (Entry Value)) (at : ℕ)
      → at ≡ length word
      → ((start : ℕ) (v : Value) → Contains starts start → D (drop start word) v → ⊥)
      → AreWaiting D continues word starts entries
      → AreWaitingBefore D continues word (starts ++ at ∷ []) entries
  waiting_new word starts entries at last none waiting = λ inner outer v. (
    λ there. let (from, (piece, is, den), more) = (waiting.each inner outer v).0 there in
        elim (before_end word inner is.inside) [
          | inl below ↦
              (Contains-append_left starts (at ∷ []) outer from, (piece, is, below, den), more)
          | inr same ↦ absurd (none outer v from
              (subst (λ u. D u v) (end_is word outer inner piece is same) den))
        ],
    λ (from, (piece, is, below, den), more). elim (Contains-push_cases starts at outer from) [
      | inl old ↦ (waiting.each inner outer v).1 (old, (piece, is, den), more)
      | inr new ↦ let same = (empty_is word outer inner piece is (sym new ∙ last)).1 in
          absurd (omega (arith, new, last, below, same))
    ],
  )
