-- What a search has found out, level by level.
use Rattle.std.proofs.Common.{◌≡◌, ℕ, ◌+◌, ◌<◌, ◌≤◌, ◌⊎◌, List, [], ◌∷◌, ◌++◌, length, refl, sym}
use Rattle.std.proofs.Common.{ap, subst, inl, inr, arith, Bool, true, ◌==◌, ◌∙◌}
use Rattle.std.specs.List.{Contains}
use Rattle.std.proofs.lemmas.Bool.{cases_lt, eqb-true}
use Rattle.std.proofs.lemmas.List.{append_assoc, append-nil, nil_from_length}
use Rattle.value_ops.specs.declared.field.Field.{Field}
use Rattle.item_schema.specs.Items.{IsItemOf}
use Rattle.rate_expr.specs.After.{IsAfter}
use Rattle.rate_expr.specs.Words.{Word, IsWordOf}
use Rattle.rate_expr.specs.declared.state.State.{State}
use Rattle.rate_expr.specs.declared.state.State.TheVariants.{Initial, At}
use Rattle.rate_expr.proofs.Wording.{word_parts}
use Rattle.symbolic_nfa.specs.Automata.{Automaton}
use Rattle.symbolic_nfa.specs.States.{Extends}
use Rattle.symbolic_nfa.proofs.WordsAfter.{is_after-step}
use Rattle.dead_words.specs.Searched.{ExtendBelow, ExtendsAfter, IsAmong, IsGrown, IsKnown}
use Rattle.dead_words.specs.Searched.{IsSearched, LeadsIntoKnown}
use Rattle.dead_words.specs.declared.search.Reached.{Reached}
use Rattle.dead_words.proofs.Growing.{lead_more}

-- a word of some items and its last one
last_item : (word : Word) → 0 < length word
    → (front : Word) × (item : List Field) × (word ≡ front ++ item ∷ [])
last_item [] some = absurd (omega arith)
last_item (x ∷ []) some = ([], x, refl)
last_item (x ∷ y ∷ word) some =
    let rest = last_item (y ∷ word) (omega arith) in
    (x ∷ rest.0, rest.1, ap (λ (w : Word). x ∷ w) rest.2)

length_front : (front : Word) (item : List Field) → length (front ++ item ∷ []) ≡ length front + 1
length_front [] item = refl
length_front (x ∷ front) item = let rest = length_front front item in omega arith

none_in : {A : Type 0} (x : A) → Contains [] x → ⊥
none_in x (k, below, is) = absurd (omega arith)

-- a list is empty if it has the length 0
pub none_if : {A : Type 0} (xs : List A) (test : Bool) → test ≡ (length xs == 0) → test ≡ true
    → xs ≡ []
none_if xs test is holds = nil_from_length xs (eqb-true (length xs) 0 (sym is ∙ holds))

module _ (nfa : Automaton) where
  -- before the first item, the initial state is the only one known
  module _ (known : List ℕ) (none : known ≡ []) (level : List Reached)
      (extends : Extends nfa Initial) (among : IsAmong level Initial) where
    none_known : (mask : ℕ) → Contains known mask → ⊥
    none_known mask c = none_in mask (subst (λ (l : List ℕ). Contains l mask) none c)

    first_extend : (state : State) → IsKnown known state → Extends nfa state
    first_extend Initial is_known = extends
    first_extend (At mask) is_known = absurd (none_known mask is_known)

    first_words : (word : Word) → IsWordOf nfa.cells.layout.columns word → length word ≤ 0
        → (state : State) × IsAfter nfa.sets word state × IsKnown known state
    first_words [] is few = (Initial, tt, tt)
    first_words (item ∷ word) is few = absurd (omega arith)

    first_gone : (state : State) → IsKnown known state
        → LeadsIntoKnown nfa known state ⊎ IsAmong level state
    first_gone Initial is_known = inr among
    first_gone (At mask) is_known = absurd (none_known mask is_known)

    pub searched_first : IsSearched nfa 0 known level
    searched_first = record { extend = first_extend; words = first_words; gone = first_gone }

  -- after each word with at most as many items as were searched, the state extends
  pub searched_below : (items : ℕ) (known : List ℕ) (level : List Reached)
      → IsSearched nfa items known level → (count : ℕ) → count ≡ items + 1
      → ExtendBelow nfa count
  searched_below items known level searched count is word is_word less =
      let found = searched.words word is_word (omega (arith, is, less)) in
      (found.0, found.1, searched.extend found.0 found.2)

  -- where the level is empty, each word leads to a known state
  module _ (items : ℕ) (known : List ℕ) (level : List Reached)
      (searched : IsSearched nfa items known level) (none : level ≡ []) where
    leads_on : (state : State) → IsKnown known state → LeadsIntoKnown nfa known state
    leads_on state is_known = elim (searched.gone state is_known) [
      | inl led ↦ led
      | inr (reached, c, same) ↦
          absurd (none_in reached (subst (λ (l : List Reached). Contains l reached) none c))
    ]

    -- from a known state, items lead to a known one
    lead_to : (front word : Word) (state : State) → IsAfter nfa.sets front state
        → IsKnown known state → IsWordOf nfa.cells.layout.columns word
        → (next : State) × IsAfter nfa.sets (front ++ word) next × IsKnown known next
    lead_to front [] state after is_known is = (
      state,
      subst (λ (w : Word). IsAfter nfa.sets w state) (sym (append-nil front)) after,
      is_known,
    )
    lead_to front (item ∷ word) state after is_known is =
        let led = leads_on state is_known item is.0 in
        let rest = lead_to (front ++ item ∷ []) word (At led.0)
        (is_after-step nfa.sets front state (At led.0) item after led.2) led.1 is.1 in (
          rest.0,
          subst (λ (w : Word). IsAfter nfa.sets w rest.0) (append_assoc front (item ∷ []) word)
              rest.1,
          rest.2,
        )

    pub searched_all : (word : Word) → IsWordOf nfa.cells.layout.columns word
        → ExtendsAfter nfa word
    searched_all word is =
        let found = lead_to [] word Initial tt tt is in
        (found.0, found.1, searched.extend found.0 found.2)

  module _ (items : ℕ) (old new : List ℕ) (level next : List Reached)
      (before : IsSearched nfa items old level) (grown : IsGrown nfa old new next)
      (went : (reached : Reached) → Contains level reached
      → LeadsIntoKnown nfa new reached.state) where
    -- what was known still is
    known_still : (state : State) → IsKnown old state → IsKnown new state
    known_still Initial known = tt
    known_still (At mask) known = grown.kept mask known

    -- items lead on from it
    led_on : (state : State) → IsKnown old state → LeadsIntoKnown nfa new state
    led_on state known = elim (before.gone state known) [
      | inl led ↦ lead_more nfa old new grown.kept state led
      | inr (reached, c, same) ↦ subst (LeadsIntoKnown nfa new) same (went reached c)
    ]

    -- known states extend
    extend_on : (state : State) → IsKnown new state → Extends nfa state
    extend_on Initial known = before.extend Initial tt
    extend_on (At mask) known = elim (grown.more mask known) [
      | inl was ↦ before.extend (At mask) was
      | inr (extends, among) ↦ extends
    ]

    -- items lead on from a known state, or it is next
    continued : (state : State) → IsKnown new state
        → LeadsIntoKnown nfa new state ⊎ IsAmong next state
    continued Initial known = inl (led_on Initial tt)
    continued (At mask) known = elim (grown.more mask known) [
      | inl was ↦ inl (led_on (At mask) was)
      | inr (extends, among) ↦ inr among
    ]

    -- a word with one more item leads to a known state
    one_more : (word : Word) (item : List Field) → IsWordOf nfa.cells.layout.columns word
        → IsItemOf nfa.cells.layout.columns item → length word ≤ items
        → (state : State) × IsAfter nfa.sets (word ++ item ∷ []) state × IsKnown new state
    one_more word item is is_item few =
        let at = before.words word is few in
        let led = led_on at.0 at.2 item is_item in
        (At led.0, is_after-step nfa.sets word at.0 (At led.0) item at.1 led.2, led.1)

    words_on : (word : Word) → IsWordOf nfa.cells.layout.columns word → length word ≤ items + 1
        → (state : State) × IsAfter nfa.sets word state × IsKnown new state
    words_on word is few = elim (cases_lt items (length word)) [
      | inr most ↦
          let at = before.words word is most in
          (at.0, at.1, known_still at.0 at.2)
      | inl more ↦
          let last = last_item word (omega (arith, more)) in
          let parts = word_parts nfa.cells.layout.columns last.0 (last.1 ∷ [])
          (subst (IsWordOf nfa.cells.layout.columns) last.2 is) in
          subst (λ (w : Word). (state : State) × IsAfter nfa.sets w state × IsKnown new state)
          (sym last.2)
          (one_more last.0 last.1 parts.0 parts.1.0
          (omega (arith, few, ap length last.2, length_front last.0 last.1)))
    ]

    -- one level more
    pub searched_next : IsSearched nfa (items + 1) new next
    searched_next = record { extend = extend_on; words = words_on; gone = continued }
