-- For the prover. Predicates as lists of numbers, by which proofs distinguish them.
use Rattle.std.specs.Prelude.{◌≡◌, ◌==◌, ℕ, ℤ, pos, List, [], ◌∷◌, if◌then◌else◌, refl}
use Rattle.std.specs.Coded.{Coded, code_by, coded×, coded_ℕ, coded_ℤ, coded_list}
use Rattle.std.proofs.Common.{◌∙◌, ap}
use Rattle.predicates.specs.Predicates.{Predicate, any, eq, ne, lt, le, gt, ge, between}
use Rattle.predicates.specs.Predicates.{eq_text, ne_text, is_num, conjunction, disjunction}
use Rattle.predicates.specs.Predicates.{negation}

-- a step that builds a predicate from those that were built last: its kind, and the column, the
-- numbers and the text of a test
abbrev pub Step : Type 0
Step = ℕ × (ℕ × (ℤ × (ℤ × List ℕ)))

-- the test that a step builds
abbrev pub test_of : ℕ → ℕ → ℤ → ℤ → List ℕ → Predicate
test_of kind column low high text =
    if kind == 1 then eq column low else if kind == 2 then ne column low
    else if kind == 3 then lt column low else if kind == 4 then le column low
    else if kind == 5 then gt column low else if kind == 6 then ge column low
    else if kind == 7 then between column low high else if kind == 8 then eq_text column text
    else if kind == 9 then ne_text column text else if kind == 10 then is_num column else any

-- the predicates that were built, the last one first, after the last two are joined
abbrev pub joined : (Predicate → Predicate → Predicate) → List Predicate → List Predicate
joined join (second ∷ first ∷ built) = join first second ∷ built
joined join built = built

-- the same after the last one is negated
abbrev pub negated : List Predicate → List Predicate
negated (inner ∷ built) = negation inner ∷ built
negated [] = []

-- the same after one step
abbrev pub step : Step → List Predicate → List Predicate
step (kind, (column, (low, (high, text)))) built =
    if kind == 11 then joined conjunction built else if kind == 12 then joined disjunction built
    else if kind == 13 then negated built else test_of kind column low high text ∷ built

-- the same after all steps
abbrev pub build : List Step → List Predicate → List Predicate
build [] built = built
build (first ∷ steps) built = build steps (step first built)

-- a step with nothing but its kind
abbrev pub bare : ℕ → Step
bare kind = (kind, (0, (pos 0, (pos 0, []))))

-- a test of a number
abbrev pub of_number : ℕ → ℕ → ℤ → Step
of_number kind column number = (kind, (column, (number, (pos 0, []))))

-- a test of a text
abbrev pub of_text : ℕ → ℕ → List ℕ → Step
of_text kind column text = (kind, (column, (pos 0, (pos 0, text))))

-- the steps that build a predicate, and then others
abbrev pub steps_onto : Predicate → List Step → List Step
steps_onto any more = bare 0 ∷ more
steps_onto (eq column number) more = of_number 1 column number ∷ more
steps_onto (ne column number) more = of_number 2 column number ∷ more
steps_onto (lt column number) more = of_number 3 column number ∷ more
steps_onto (le column number) more = of_number 4 column number ∷ more
steps_onto (gt column number) more = of_number 5 column number ∷ more
steps_onto (ge column number) more = of_number 6 column number ∷ more
steps_onto (between column low high) more = (7, (column, (low, (high, [])))) ∷ more
steps_onto (eq_text column text) more = of_text 8 column text ∷ more
steps_onto (ne_text column text) more = of_text 9 column text ∷ more
steps_onto (is_num column) more = (10, (column, (pos 0, (pos 0, [])))) ∷ more
steps_onto (conjunction first second) more = steps_onto first (steps_onto second (bare 11 ∷ more))
steps_onto (disjunction first second) more = steps_onto first (steps_onto second (bare 12 ∷ more))
steps_onto (negation inner) more = steps_onto inner (bare 13 ∷ more)

-- the predicate that was built last
abbrev pub last_built : List Predicate → Predicate
last_built [] = any
last_built (last ∷ built) = last

-- the steps of a predicate build it
pub build-steps : (p : Predicate) (more : List Step) (built : List Predicate)
    → build (steps_onto p more) built ≡ build more (p ∷ built)
build-steps any more built = refl
build-steps (eq column number) more built = refl
build-steps (ne column number) more built = refl
build-steps (lt column number) more built = refl
build-steps (le column number) more built = refl
build-steps (gt column number) more built = refl
build-steps (ge column number) more built = refl
build-steps (between column low high) more built = refl
build-steps (eq_text column text) more built = refl
build-steps (ne_text column text) more built = refl
build-steps (is_num column) more built = refl
build-steps (conjunction first second) more built =
    build-steps first (steps_onto second (bare 11 ∷ more)) built
    ∙ build-steps second (bare 11 ∷ more) (first ∷ built)
build-steps (disjunction first second) more built =
    build-steps first (steps_onto second (bare 12 ∷ more)) built
    ∙ build-steps second (bare 12 ∷ more) (first ∷ built)
build-steps (negation inner) more built = build-steps inner (bare 13 ∷ more) built

-- the steps of a predicate build it again
pub built-again : (p : Predicate) → last_built (build (steps_onto p []) []) ≡ p
built-again p = ap last_built (build-steps p [] [])

-- a predicate is stored as its steps
abbrev pub coded_predicate : Coded Predicate
coded_predicate =
    code_by (List Step)
    (coded_list (coded× coded_ℕ
    (coded× coded_ℕ (coded× coded_ℤ (coded× coded_ℤ (coded_list coded_ℕ))))))
    (λ p. steps_onto p []) (λ steps. last_built (build steps [])) built-again
