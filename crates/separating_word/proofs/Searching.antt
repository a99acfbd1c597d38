-- What a search has found out, level by level.
use Rattle.std.proofs.Common.{◌≡◌, ℕ, ◌+◌, ◌<◌, ◌≤◌, ◌⊎◌, List, [], ◌∷◌, ◌++◌, length, refl, sym}
use Rattle.std.proofs.Common.{ap, subst, inl, inr, arith}
use Rattle.std.specs.List.{Contains}
use Rattle.std.proofs.lemmas.Bool.{cases_lt}
use Rattle.value_ops.specs.declared.field.Field.{Field}
use Rattle.item_schema.specs.Items.{IsItemOf}
use Rattle.rate_expr.specs.Words.{Word, IsWordOf}
use Rattle.rate_expr.specs.declared.state.State.{State}
use Rattle.rate_expr.specs.declared.state.State.TheVariants.{Initial, At}
use Rattle.rate_expr.proofs.Wording.{word_parts}
use Rattle.symbolic_nfa.proofs.WordsAfter.{is_after-step}
use Rattle.separating_word.specs.Searched.{Agree, AgreeBelow, AreAfter, AreAmong, AreKnown, IsGrown}
use Rattle.separating_word.specs.Searched.{IsSearched, LeadIntoKnown}
use Rattle.separating_word.specs.declared.automata.Automata.{Automata}
use Rattle.separating_word.specs.declared.search.Reached.{Reached}
use Rattle.separating_word.proofs.Growing.{lead_more}

-- a word of some items and its last one
last_item : (word : Word) → 0 < length word
    → (front : Word) × (item : List Field) × (word ≡ front ++ item ∷ [])
last_item [] some = absurd (omega arith)
last_item (x ∷ []) some = ([], x, refl)
last_item (x ∷ y ∷ word) some =
    let rest = last_item (y ∷ word) (omega arith) in
    (x ∷ rest.0, rest.1, ap (λ (w : Word). x ∷ w) rest.2)

length_front : (front : Word) (item : List Field) → length (front ++ item ∷ []) ≡ length front + 1
length_front [] item = refl
length_front (x ∷ front) item = let rest = length_front front item in omega arith

none_in : (masks : ℕ × ℕ) → Contains [] masks → ⊥
none_in masks (k, below, is) = absurd (omega arith)

module _ (automata : Automata) where
  -- before the first item, the initial states are the only ones known
  module _ (known : List (ℕ × ℕ)) (none : known ≡ []) (level : List Reached)
      (agree : Agree automata Initial Initial) (among : AreAmong level Initial Initial) where
    none_known : (masks : ℕ × ℕ) → Contains known masks → ⊥
    none_known masks c = none_in masks (subst (λ (l : List (ℕ × ℕ)). Contains l masks) none c)

    first_agree : (left right : State) → AreKnown known left right → Agree automata left right
    first_agree Initial Initial is_known = agree
    first_agree Initial (At right) is_known = absurd is_known
    first_agree (At left) Initial is_known = absurd is_known
    first_agree (At left) (At right) is_known = absurd (none_known (left, right) is_known)

    first_words : (word : Word) → IsWordOf automata.left.cells.layout.columns word → length word ≤ 0
        → (left : State) × (right : State) × AreAfter automata word left right
        × AreKnown known left right
    first_words [] is few = (Initial, Initial, (tt, tt), tt)
    first_words (item ∷ word) is few = absurd (omega arith)

    first_gone : (left right : State) → AreKnown known left right
        → LeadIntoKnown automata known left right ⊎ AreAmong level left right
    first_gone Initial Initial is_known = inr among
    first_gone Initial (At right) is_known = absurd is_known
    first_gone (At left) Initial is_known = absurd is_known
    first_gone (At left) (At right) is_known = absurd (none_known (left, right) is_known)

    pub searched_first : IsSearched automata 0 known level
    searched_first = record { agree = first_agree; words = first_words; gone = first_gone }

  -- a word with one more item than those that are searched is a shortest one
  pub searched_below : (items : ℕ) (known : List (ℕ × ℕ)) (level : List Reached)
      → IsSearched automata items known level → (count : ℕ) → count ≡ items + 1
      → AgreeBelow automata count
  searched_below items known level searched count is word is_word less =
      let found = searched.words word is_word (omega (arith, is, less)) in
      (found.0, found.1, found.2, searched.agree found.0 found.1 found.3)

  module _ (items : ℕ) (old new : List (ℕ × ℕ)) (level next : List Reached)
      (before : IsSearched automata items old level) (grown : IsGrown automata old new next)
      (went : (reached : Reached) → Contains level reached
      → LeadIntoKnown automata new reached.left reached.right) where
    -- what was known still is
    known_still : (left right : State) → AreKnown old left right → AreKnown new left right
    known_still Initial Initial known = tt
    known_still Initial (At right) known = absurd known
    known_still (At left) Initial known = absurd known
    known_still (At left) (At right) known = grown.kept (left, right) known

    -- items lead on from it
    leads_on : (left right : State) → AreKnown old left right
        → LeadIntoKnown automata new left right
    leads_on left right known = elim (before.gone left right known) [
      | inl led ↦ lead_more automata old new grown.kept left right led
      | inr (reached, c, same, same') ↦
          subst (λ (s : State). LeadIntoKnown automata new s right) same
          (subst (λ (s : State). LeadIntoKnown automata new reached.left s) same' (went reached c))
    ]

    -- known states agree
    agree_on : (left right : State) → AreKnown new left right → Agree automata left right
    agree_on Initial Initial known = before.agree Initial Initial tt
    agree_on Initial (At right) known = absurd known
    agree_on (At left) Initial known = absurd known
    agree_on (At left) (At right) known = elim (grown.more (left, right) known) [
      | inl was ↦ before.agree (At left) (At right) was
      | inr (agrees, among) ↦ agrees
    ]

    -- items lead on from known states, or these are next
    continued : (left right : State) → AreKnown new left right
        → LeadIntoKnown automata new left right ⊎ AreAmong next left right
    continued Initial Initial known = inl (leads_on Initial Initial tt)
    continued Initial (At right) known = absurd known
    continued (At left) Initial known = absurd known
    continued (At left) (At right) known = elim (grown.more (left, right) known) [
      | inl was ↦ inl (leads_on (At left) (At right) was)
      | inr (agrees, among) ↦ inr among
    ]

    -- a word with one more item leads to known states
    one_more : (word : Word) (item : List Field) → IsWordOf automata.left.cells.layout.columns word
        → IsItemOf automata.left.cells.layout.columns item → length word ≤ items
        → (left : State) × (right : State) × AreAfter automata (word ++ item ∷ []) left right
        × AreKnown new left right
    one_more word item is is_item few =
        let at = before.words word is few in
        let led = leads_on at.0 at.1 at.3 item is_item in (
          At led.0.0,
          At led.0.1,
          (
            is_after-step automata.left.sets word at.0 (At led.0.0) item at.2.0 led.2,
            is_after-step automata.right.sets word at.1 (At led.0.1) item at.2.1 led.3,
          ),
          led.1,
        )

    words_on : (word : Word) → IsWordOf automata.left.cells.layout.columns word
        → length word ≤ items + 1 → (left : State) × (right : State)
        × AreAfter automata word left right × AreKnown new left right
    words_on word is few = elim (cases_lt items (length word)) [
      | inr most ↦
          let at = before.words word is most in
          (at.0, at.1, at.2, known_still at.0 at.1 at.3)
      | inl more ↦
          let last = last_item word (omega (arith, more)) in
          let parts = word_parts automata.left.cells.layout.columns last.0 (last.1 ∷ [])
          (subst (IsWordOf automata.left.cells.layout.columns) last.2 is) in
          subst (λ (w : Word). (left : State) × (right : State) × AreAfter automata w left right
          × AreKnown new left right) (sym last.2)
          (one_more last.0 last.1 parts.0 parts.1.0
          (omega (arith, few, ap length last.2, length_front last.0 last.1)))
    ]

    -- one level more
    pub searched_next : IsSearched automata (items + 1) new next
    searched_next = record { agree = agree_on; words = words_on; gone = continued }
