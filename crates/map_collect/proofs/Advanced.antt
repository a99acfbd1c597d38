-- Tracks whose states continue one after the other.
use Rattle.std.proofs.Common.{set, ◌≡◌, ◌==◌, ◌+◌, ◌<◌, ◌∙◌, ◌++◌, ℕ, zero, suc, List, [], ◌∷◌}
use Rattle.std.proofs.Common.{drop, get_or, length, refl, sym, ap, subst, take, arith}
use Rattle.std.specs.List.{IsDistinct}
use Rattle.value_ops.specs.declared.field.Field.{Field}
use Rattle.rate_expr.specs.After.{IsStateOf}
use Rattle.rate_expr.specs.Sets.{Sets}
use Rattle.map_collect.specs.Tracks.{starts_of, Advances, AllAdvance, AreStates, AreTracks}
use Rattle.map_collect.specs.declared.track.Track.{Track}

module _ {R : Type 0} (sets : Sets) where
  -- the state of a track that is read at an index
  pub state_read : (tracks : List (Track R)) (i : ℕ) (d : Track R) → AreStates sets tracks
      → i < length tracks → IsStateOf sets (get_or tracks i d).state
  state_read [] i d all inside = absurd (omega (arith, inside))
  state_read (t ∷ tracks) zero d all inside = all.0
  state_read (t ∷ tracks) (suc i) d all inside = state_read tracks i d all.1 (omega (arith, inside))

  -- a track is another one
  pub states_with : (tracks : List (Track R)) (i : ℕ) (y : Track R) → AreStates sets tracks
      → IsStateOf sets y.state → AreStates sets (set tracks i y)
  states_with [] i y all one = all
  states_with (t ∷ tracks) zero y all one = (one, all.1)
  states_with (t ∷ tracks) (suc i) y all one = (all.0, states_with tracks i y all.1 one)

  module _ (item : List Field) where
    -- the item has led on this many of the first, and the others are as they were
    abbrev pub AdvancedBelow : ℕ → List (Track R) → List (Track R) → Type 0
    AdvancedBelow zero old now = now ≡ old
    AdvancedBelow (suc i) [] [] = Unit {0}
    AdvancedBelow (suc i) (x ∷ old) (y ∷ now) = Advances sets item x y × AdvancedBelow i old now
    AdvancedBelow (suc i) _ _ = ⊥

    advanced_suc : (i : ℕ) (old now : List (Track R)) (d y : Track R) → AdvancedBelow i old now
        → i < length now → Advances sets item (get_or now i d) y
        → AdvancedBelow (suc i) old (set now i y)
    advanced_suc i old [] d y below inside goes = absurd (omega (arith, inside))
    advanced_suc zero old (t ∷ now) d y below inside goes =
        subst (λ (ts : List (Track R)). AdvancedBelow 1 ts (y ∷ now)) below (goes, refl)
    advanced_suc (suc i) (s ∷ old) (t ∷ now) d y below inside goes =
        (below.0, advanced_suc i old now d y below.1 (omega (arith, inside)) goes)
    advanced_suc (suc i) [] (t ∷ now) d y below inside goes = absurd below

    -- it leads on the next one
    pub advanced_next : (i : ℕ) (old now : List (Track R)) (d y : Track R) → AdvancedBelow i old now
        → i < length now → Advances sets item (get_or now i d) y
        → AdvancedBelow (i + 1) old (set now i y)
    advanced_next i old now d y below inside goes =
        let more : suc i ≡ i + 1 = omega arith in
        subst (λ (n : ℕ). AdvancedBelow n old (set now i y)) more
        (advanced_suc i old now d y below inside goes)

    -- until it has led on all
    pub advanced_all : (i : ℕ) (old now : List (Track R)) → AdvancedBelow i old now → i ≡ length now
        → AllAdvance sets item old now
    advanced_all zero old [] below all =
        subst (λ (ts : List (Track R)). AllAdvance sets item ts []) below tt
    advanced_all zero old (t ∷ now) below all = absurd (omega (arith, all))
    advanced_all (suc i) [] [] below all = tt
    advanced_all (suc i) (s ∷ old) [] below all = absurd below
    advanced_all (suc i) [] (t ∷ now) below all = absurd below
    advanced_all (suc i) (s ∷ old) (t ∷ now) below all =
        (below.0, advanced_all i old now below.1 (omega (arith, all)))

    same_starts : (old now : List (Track R)) → AllAdvance sets item old now
        → starts_of now ≡ starts_of old
    same_starts [] [] all = refl
    same_starts (s ∷ old) (t ∷ now) all = λ i. all.0.start i ∷ same_starts old now all.1 i
    same_starts [] (t ∷ now) all = absurd all
    same_starts (s ∷ old) [] all = absurd all

    as_many : (old now : List (Track R)) → AllAdvance sets item old now → length now ≡ length old
    as_many [] [] all = refl
    as_many (s ∷ old) (t ∷ now) all = ap suc (as_many old now all.1)
    as_many [] (t ∷ now) all = absurd all
    as_many (s ∷ old) [] all = absurd all

    put_back : (old now : List (Track R)) → length now ≡ length old
        → take (length old) (now ++ drop (length now) old) ≡ now
    put_back [] [] many = refl
    put_back (s ∷ old) (t ∷ now) many =
        ap (λ (ts : List (Track R)). t ∷ ts) (put_back old now (omega (arith, many)))
    put_back [] (t ∷ now) many = absurd (omega (arith, many))
    put_back (s ∷ old) [] many = absurd (omega (arith, many))

    -- a vector's tracks, once they are advanced in place
    pub advanced_back : (old now : List (Track R)) (len : ℕ) → len ≡ length old
        → AllAdvance sets item old now → take len (now ++ drop (length now) old) ≡ now
    advanced_back old now len is all =
        ap (λ (n : ℕ). take n (now ++ drop (length now) old)) is
        ∙ put_back old now (as_many old now all)

    -- the starts are those that were
    pub AreTracks-advanced : (old now : List (Track R)) → AllAdvance sets item old now
        → AreStates sets now → AreTracks sets old → AreTracks sets now
    AreTracks-advanced old now all states were = record {
      distinct = subst (IsDistinct ◌==◌) (sym (same_starts old now all)) were.distinct;
      states = states;
    }
