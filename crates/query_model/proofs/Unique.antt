-- Each word has at most one value.
use Rattle.std.proofs.Common.{◌≡◌, ℕ, ◌++◌, ◌∙◌, List, [], ◌∷◌, None, sym, subst, ap}
use Rattle.std.proofs.Common.{inl, inr}
use Rattle.std.proofs.lemmas.List.{append_cancel_left}
use Rattle.value_ops.specs.declared.scalar.Scalar.{Scalar}
use Rattle.value_ops.specs.declared.scalar.Scalar.TheVariants.{Number}
use Rattle.value_ops.specs.declared.value.Value.{Value}
use Rattle.value_ops.specs.declared.value.Value.TheVariants as value
use Rattle.expressions.specs.Evaluation.{given, value_of}
use Rattle.expressions.specs.Expressions.{Expression}
use Rattle.item_schema.specs.declared.column.Column.{Column}
use Rattle.item_schema.specs.Items.{fields_of_value}
use Rattle.rate_expr.specs.Language.{In}
use Rattle.rate_expr.specs.Words.{Word, IsWordOf, join}
use Rattle.rate_expr.proofs.Wording.{word_parts, word_more}
use Rattle.query_model.specs.Denotation.{AreEntries, Den, Emits, Folds, Outputs, keys_after, on_one}
use Rattle.query_model.specs.Denotation.{on_both, projection}
use Rattle.query_model.specs.Queries.{Qre, atom, eps, choice, split, iter, combine, apply, compose}
use Rattle.query_model.specs.Queries.{collect}
use Rattle.query_model.specs.QueryTypes.{derived_columns, type_of}
use Rattle.query_model.specs.Rates.{rate_of}
use Rattle.query_model.specs.Rules.{Standing, bound, IsClear}
use Rattle.query_model.proofs.Inside.{same_inside}
use Rattle.query_model.proofs.InRates.{den_in, pieces_in}
use Rattle.query_model.proofs.Keys.{kept_word}
use Rattle.query_model.proofs.Typed.{den_typed, on_keys, outputs_word}

-- there is at most one value on each word of a stream
abbrev pub IsOne : List Column → (Word → Value → Type 0) → Type 0
IsOne columns D =
    (word : Word) (v other : Value) → IsWordOf columns word → D word v → D word other → v ≡ other

-- the heads and the tails of equal lists
head_same : {A : Type 0} (x y : A) (xs ys : List A) → x ∷ xs ≡ y ∷ ys → x ≡ y
head_same x y xs ys same = cc

-- a fold over the same pieces gives one value
fold_one : (columns : List Column) (D : Word → Value → Type 0) (expression : Expression)
    → IsOne columns D → (pieces : List Word) (so_far v other : Value)
    → IsWordOf columns (join pieces) → Folds D expression so_far pieces v
    → Folds D expression so_far pieces other → v ≡ other
fold_one columns D expression one [] so_far v other is folds others = folds ∙ sym others
fold_one columns D expression one (piece ∷ pieces) so_far v other is (last, next, den, gives, folds)
    (last', next', den', gives', folds') =
    let parts = word_parts columns piece (join pieces) is in
    let lasts : last' ≡ last = one piece last' last parts.0 den' den in
    let nexts : next' ≡ next =
    same_inside next' next (sym gives' ∙ ap (on_both expression so_far) lasts ∙ gives) in
    fold_one columns D expression one pieces next v other parts.1 folds
    (subst (λ n. Folds D expression n pieces other) nexts folds')

-- one value is emitted or none
emits_one : (columns : List Column) (D : Word → Value → Type 0) → IsOne columns D
    → (word items others : Word) → IsWordOf columns word → Emits D word items → Emits D word others
    → items ≡ others
emits_one columns D one word items others is emits emits' =
    elim emits [
      | inl (v, den, whole) ↦ elim emits' [
        | inl (v', den', whole') ↦
            whole ∙ ap (λ x. fields_of_value x ∷ []) (one word v v' is den den') ∙ sym whole'
        | inr (none, empty) ↦ absurd (none v den)
      ]
      | inr (none, empty) ↦ elim emits' [
        | inl (v', den', whole') ↦ absurd (none v' den')
        | inr (none', empty') ↦ empty ∙ sym empty'
      ]
    ]

pub outputs_one : (columns : List Column) (D : Word → Value → Type 0) → IsOne columns D
    → (before word items others : Word) → IsWordOf columns before → IsWordOf columns word
    → Outputs D before word items → Outputs D before word others → items ≡ others
outputs_one columns D one before [] items others is rest outputs outputs' =
    emits_one columns D one before items others is outputs outputs'
outputs_one columns D one before (item ∷ word) items others is rest
    (first, more, emits, outputs, whole) (first', more', emits', outputs', whole') =
    let firsts = emits_one columns D one before first first' is emits emits' in
    let mores = outputs_one columns D one (before ++ item ∷ []) word more more'
    (word_more columns before item is rest.0) rest.1 outputs outputs' in
    whole ∙ ap (λ u. u ++ more) firsts ∙ ap (λ u. first' ++ u) mores ∙ sym whole'

-- a scalar in a value
scalar_inside : (a b : Scalar) → value.Scalar a ≡ value.Scalar b → a ≡ b
scalar_inside a b same = cc

-- keys have one list of entries
entries_one : (D : List ℕ → Value → Type 0)
    → ((key : List ℕ) (v other : Value) → D key v → D key other → v ≡ other)
    → (keys : List (List ℕ)) (entries others : List (List ℕ × Scalar))
    → AreEntries D keys entries → AreEntries D keys others → entries ≡ others
entries_one D one [] entries others are are' = are ∙ sym are'
entries_one D one (key ∷ keys) entries others are are' =
    elim are [
      | inl (scalar, more, den, rest, whole) ↦ elim are' [
        | inl (scalar', more', den', rest', whole') ↦
            let scalars = scalar_inside scalar scalar'
            (one key (value.Scalar scalar) (value.Scalar scalar') den den') in
            whole ∙ ap (λ s. (key, s) ∷ more) scalars
            ∙ ap (λ es. (key, scalar') ∷ es) (entries_one D one keys more more' rest rest')
            ∙ sym whole'
        | inr (none, rest') ↦ absurd (none (value.Scalar scalar) den)
      ]
      | inr (none, rest) ↦ elim are' [
        | inl (scalar', more', den', rest', whole') ↦ absurd (none (value.Scalar scalar') den')
        | inr (none', rest') ↦ entries_one D one keys entries others rest rest'
      ]
    ]

-- there is at most one value on a word
pub one_value : (standing : Standing) (columns : List Column) (q : Qre) (word : Word)
    (v other : Value) → IsClear standing columns q → IsWordOf columns word → Den q word v
    → Den q word other → v ≡ other
one_value standing columns (atom pred expression) word v other clear is (item, whole, meets, gives)
    (item', whole', meets', gives') =
    let items : item ≡ item' = head_same item item' [] [] (sym whole ∙ whole') in
    same_inside v other
    (sym gives ∙ ap (λ i. value_of (given i None None) expression) items ∙ gives')
one_value standing columns (eps number) word v other clear is den den' = den.1 ∙ sym den'.1
one_value standing columns (choice f g) word v other clear is den den' =
    elim den [
      | inl left ↦ elim den' [
        | inl left' ↦ one_value bound columns f word v other clear.0 is left left'
        | inr right' ↦ absurd (clear.3 word is (den_in bound columns f word v clear.0 is left)
            (den_in bound columns g word other clear.1 is right'))
      ]
      | inr right ↦ elim den' [
        | inl left' ↦ absurd (clear.3 word is (den_in bound columns f word other clear.0 is left')
            (den_in bound columns g word v clear.1 is right))
        | inr right' ↦ one_value bound columns g word v other clear.1 is right right'
      ]
    ]
one_value standing columns (split f g expression) word v other clear is
    (first, second, x, y, whole, left, right, gives)
    (first', second', x', y', whole', left', right', gives') =
    let parts = word_parts columns first second (subst (IsWordOf columns) whole is) in
    let parts' = word_parts columns first' second' (subst (IsWordOf columns) whole' is) in
    let firsts : first ≡ first' =
    clear.3 first second first' second' (subst (IsWordOf columns) whole is)
    (den_in bound columns f first x clear.0 parts.0 left)
    (den_in bound columns g second y clear.1 parts.1 right)
    (den_in bound columns f first' x' clear.0 parts'.0 left')
    (den_in bound columns g second' y' clear.1 parts'.1 right') (sym whole ∙ whole') in
    let seconds : second ≡ second' = append_cancel_left first' second second'
    (subst (λ u. u ++ second ≡ first' ++ second') firsts (sym whole ∙ whole')) in
    let lefts = one_value bound columns f first' x x' clear.0 parts'.0
    (subst (λ u. Den f u x) firsts left) left' in
    let rights = one_value bound columns g second' y y' clear.1 parts'.1
    (subst (λ u. Den g u y) seconds right) right' in
    same_inside v other (sym gives ∙ ap (λ a. on_both expression a y) lefts
    ∙ ap (on_both expression x') rights ∙ gives')
one_value standing columns (iter f number expression) word v other clear is (pieces, whole, folds)
    (pieces', whole', folds') =
    let words = subst (IsWordOf columns) whole is in
    let words' = subst (IsWordOf columns) whole' is in
    let same : pieces ≡ pieces' = clear.3 pieces pieces' words
    (pieces_in columns (Den f) (In (rate_of f)) expression
    (λ piece last piece_is den. den_in bound columns f piece last clear.0 piece_is den)
    pieces _ v words folds)
    (pieces_in columns (Den f) (In (rate_of f)) expression
    (λ piece last piece_is den. den_in bound columns f piece last clear.0 piece_is den) pieces' _
    other words' folds')
    (sym whole ∙ whole') in
    fold_one columns (Den f) expression
    (λ piece a b piece_is den den'. one_value bound columns f piece a b clear.0 piece_is den den')
    pieces' (value.Scalar (Number number)) v other words'
    (subst (λ us. Folds (Den f) expression (value.Scalar (Number number)) us v) same folds) folds'
one_value standing columns (combine f g expression) word v other clear is (x, y, left, right, gives)
    (x', y', left', right', gives') =
    let lefts = one_value bound columns f word x x' clear.0 is left left' in
    let rights = one_value bound columns g word y y' clear.1 is right right' in
    same_inside v other (sym gives ∙ ap (λ a. on_both expression a y) lefts
    ∙ ap (on_both expression x') rights ∙ gives')
one_value standing columns (apply f expression) word v other clear is (x, inner, gives)
    (x', inner', gives') =
    let inners = one_value bound columns f word x x' clear.0 is inner inner' in
    same_inside v other (sym gives ∙ ap (on_one expression) inners ∙ gives')
one_value standing columns (compose f g) word v other clear is (x, out, inner, outputs, outer)
    (x', out', inner', outputs', outer') =
    let outs : out ≡ out' = outputs_one columns (Den f)
    (λ part a b part_is den den'. one_value standing columns f part a b clear.0 part_is den den')
    [] word out out' tt is outputs outputs' in
    one_value standing (derived_columns (type_of columns f)) g out' v other clear.1
    (outputs_word columns (type_of columns f) (Den f)
    (λ part last part_is den. den_typed standing columns f part last clear.0 part_is den)
    [] word out' tt is outputs') (subst (λ o. Den g o v) outs outer) outer'
one_value standing columns (collect chosen sync rate f) word v other clear is
    (entries, in_rate, each, same) (entries', in_rate', each', same') =
    same ∙ ap value.Table (entries_one (on_keys f chosen sync word)
    (λ key a b den den'. one_value bound columns f (projection chosen sync key word) a b clear.0
    (kept_word columns _ word is) den den')
    (keys_after chosen sync [] word) entries entries' each each') ∙ sym same'
