-- An iteration as a split: what some number of pieces is to the next one, a left piece is to
-- the right one.
use Rattle.std.proofs.Common.{◌≡◌, ◌∙◌, List, [], ◌∷◌, ◌++◌, Some, length, refl, sym, ap, subst}
use Rattle.std.proofs.Common.{arith, append-nil, append_assoc, length-append, inl, inr}
use Rattle.std.specs.Prelude.{ℤ, ℕ}
use Rattle.std.specs.List.{AllByRecursion}
use Rattle.value_ops.specs.declared.field.Field.{Field}
use Rattle.value_ops.specs.declared.value.Value.{Value}
use Rattle.value_ops.specs.declared.value.ValueType.TheVariants.{Number}
use Rattle.expressions.specs.Expressions as expr
use Rattle.expressions.specs.Expressions.{Expression}
use Rattle.expressions.specs.Typing.{HasType, Types}
use Rattle.item_schema.specs.declared.column.Column.{Column}
use Rattle.rate_expr.specs.Language.{In}
use Rattle.rate_expr.specs.Rates as rate
use Rattle.rate_expr.specs.Readings.{HasExtension, HasOneFactoring, HaveOneSplit}
use Rattle.rate_expr.specs.Words.{Word, IsWordOf, join}
use Rattle.rate_expr.proofs.Wording.{comparable, word_parts}
use Rattle.query_model.specs.Denotation.{Den, Folds, on_both}
use Rattle.query_model.specs.Queries.{Qre, split, iter}
use Rattle.query_model.specs.QueryTypes.{of_two, type_or_number, type_of}
use Rattle.query_model.specs.Rates.{rate_of}
use Rattle.query_model.specs.Rules.{bound, IsClear, IsTyped}
use Rattle.eval_nodes.specs.Starts.{AreApart}
use Rattle.eval_nodes.proofs.Pieces.{some_item}

-- one more piece
join_push : (pieces : List Word) (piece : Word) → join (pieces ++ piece ∷ []) ≡ join pieces ++ piece
join_push [] piece = append-nil piece
join_push (u ∷ pieces) piece =
    ap (λ w. u ++ w) (join_push pieces piece) ∙ sym (append_assoc u (join pieces) piece)

all_push : (P : Word → Type 0) (pieces : List Word) (piece : Word)
    → AllByRecursion P pieces → P piece → AllByRecursion P (pieces ++ piece ∷ [])
all_push P [] piece all is = (is, tt)
all_push P (u ∷ pieces) piece all is = (all.0, all_push P pieces piece all.1 is)

pub star_push : (r : rate.Regex) (u v : Word) → In (rate.star r) u → In r v
    → In (rate.star r) (u ++ v)
star_push r u v (pieces, whole, all) in_r = (
  pieces ++ v ∷ [],
  ap (λ w. w ++ v) whole ∙ sym (join_push pieces v),
  all_push (In r) pieces v all in_r,
)

fold_push : (D : Word → Value → Type 0) (e : Expression) (pieces : List Word) (v : Word)
    (so_far x y z : Value) → Folds D e so_far pieces x → D v y → on_both e x y ≡ Some z
    → Folds D e so_far (pieces ++ v ∷ []) z
fold_push D e [] v so_far x y z folds den gives =
    (y, z, den, subst (λ a. on_both e a y ≡ Some z) folds gives, refl)
fold_push D e (u ∷ pieces) v so_far x y z (last, next, in_u, begins, folds) den gives =
    (last, next, in_u, begins, fold_push D e pieces v next x y z folds den gives)

pub den_push : (f : Qre) (number : ℤ) (e : Expression) (u v : Word) (x y z : Value)
    → Den (iter f number e) u x → Den f v y → on_both e x y ≡ Some z
    → Den (iter f number e) (u ++ v) z
den_push f number e u v x y z (pieces, whole, folds) den gives = (
  pieces ++ v ∷ [],
  ap (λ w. w ++ v) whole ∙ sym (join_push pieces v),
  fold_push (Den f) e pieces v _ x y z folds den gives,
)

-- lists with a last element that are the same, but for it
init_same : (us vs : List Word) (u v : Word) → us ++ u ∷ [] ≡ vs ++ v ∷ [] → us ≡ vs
init_same [] [] u v same = refl
init_same [] (y ∷ vs) u v same =
    let count = ap length same in
    let more = length-append vs (v ∷ []) in
    absurd (omega (arith, count, more))
init_same (x ∷ us) [] u v same =
    let count = ap length same in
    let more = length-append us (u ∷ []) in
    absurd (omega (arith, count, more))
init_same (x ∷ us) (y ∷ vs) u v same =
    let heads : x ≡ y = cc in
    let tails : us ++ u ∷ [] ≡ vs ++ v ∷ [] = cc in
    ap (λ w. w ∷ us) heads ∙ ap (λ ws. y ∷ ws) (init_same us vs u v tails)

-- no piece is empty, since it could be left out
pub no_empty : (columns : List Column) (r : rate.Regex) → HasOneFactoring columns r → In r [] → ⊥
no_empty columns r one in_r =
    let wrong : ◌≡◌ {A = List Word} [] ([] ∷ []) = one [] ([] ∷ []) tt tt (in_r, tt) refl in cc

-- some pieces and one more split a word in one way
one_split : (columns : List Column) (r : rate.Regex) → HasOneFactoring columns r
    → HaveOneSplit columns (rate.star r) r
one_split columns r one = λ u v u' v' is (us, whole, all) in_v (us', whole', all') in_v' same.
    let first : u ++ v ≡ join (us ++ v ∷ []) = ap (λ w. w ++ v) whole ∙ sym (join_push us v) in
    let second : u' ++ v' ≡ join (us' ++ v' ∷ []) =
    ap (λ w. w ++ v') whole' ∙ sym (join_push us' v') in
    let lists = one (us ++ v ∷ []) (us' ++ v' ∷ []) (subst (IsWordOf columns) first is)
    (all_push (In r) us v all in_v) (all_push (In r) us' v' all' in_v')
    (sym first ∙ same ∙ second) in
    whole ∙ ap join (init_same us us' v v' lists) ∙ sym whole'

typed_number : (types : Types) (e : Expression) → HasType types e Number → IsTyped types e
typed_number types (expr.read name) is =
    subst (λ type. HasType types (expr.read name) (type_or_number type)) (sym is) is
typed_number types (expr.rec parts) is = absurd is
typed_number types e is = is

pub chain_clear : (columns : List Column) (f : Qre) (number : ℤ) (e : Expression)
    → IsClear bound columns (iter f number e) → IsClear bound columns (split (iter f number e) f e)
chain_clear columns f number e clear = (
  clear,
  clear.0,
  typed_number (of_two Number (type_of columns f)) e clear.2,
  one_split columns (rate_of f) clear.3,
)

pub chain_apart : (columns : List Column) (f : Qre) (number : ℤ) (e : Expression) (word : Word)
    (starts : List ℕ) → AreApart columns (iter f number e) word starts
    → AreApart columns (split (iter f number e) f e) word starts
chain_apart columns f number e word starts apart =
    λ i j more is first second (u, v, whole, in_u, in_v) (u', v', whole', in_u', in_v').
    apart i j more is first second
    (subst (In (rate.star (rate_of f))) (sym whole) (star_push (rate_of f) u v in_u in_v))
    (subst (In (rate.star (rate_of f))) (sym whole') (star_push (rate_of f) u' v' in_u' in_v'))

-- a word is some pieces and one that continues after it
abbrev pub IsCrossed : List Column → rate.Regex → Word → Type 0
IsCrossed columns r word = (first : Word) × (second : Word) × (word ≡ first ++ second)
    × In (rate.star r) first × HasExtension columns r second

first_crossed : (columns : List Column) (r : rate.Regex) (pieces : List Word) (word : Word)
    (item : List Field) (more t u : Word) → IsWordOf columns (item ∷ more) → In r u → u ≡ word ++ t
    → item ∷ more ≡ t ++ join pieces
    → ((t : Word) → word ≡ u ++ t → join pieces ≡ t ++ item ∷ more → IsCrossed columns r word)
    → IsCrossed columns r word
first_crossed columns r pieces word item more [] u is in_r longer rest later =
    later [] (sym (append-nil word) ∙ sym longer ∙ sym (append-nil u)) (sym rest)
first_crossed columns r pieces word item more (x ∷ t) u is in_r longer rest later =
    let parts = word_parts columns (x ∷ t) (join pieces) (subst (IsWordOf columns) rest is) in
    ([], word, refl, ([], refl, tt), (x, t, parts.0, subst (In r) longer in_r))

-- the piece in which a word ends that continues to a word of pieces
pub crossed : (columns : List Column) (r : rate.Regex) (pieces : List Word) (word : Word)
    (item : List Field) (more : Word) → IsWordOf columns (item ∷ more)
    → word ++ item ∷ more ≡ join pieces → AllByRecursion (In r) pieces → IsCrossed columns r word
crossed columns r [] word item more is whole all = absurd (some_item word item more whole)
crossed columns r (u ∷ pieces) word item more is whole all =
    let later : (t : Word) → word ≡ u ++ t → join pieces ≡ t ++ item ∷ more
    → IsCrossed columns r word =
    (λ t longer rest.
    let (first, second, same, (us, us_are, each), continues) =
    crossed columns r pieces t item more is (sym rest) all.1 in (
      u ++ first,
      second,
      longer ∙ ap (λ w. u ++ w) same ∙ sym (append_assoc u first second),
      (u ∷ us, ap (λ w. u ++ w) us_are, (all.0, each)),
      continues,
    )) in
    elim (comparable word (item ∷ more) u (join pieces) whole) [
      | inl (t, longer, rest) ↦
          first_crossed columns r pieces word item more t u is all.0 longer rest later
      | inr (t, longer, rest) ↦ later t longer rest
    ]

last_piece : (r : rate.Regex) (u : Word) (pieces : List Word) → AllByRecursion (In r) (u ∷ pieces)
    → (first : Word) × (last : Word) × (join (u ∷ pieces) ≡ first ++ last)
    × In (rate.star r) first × In r last
last_piece r u [] all = ([], u, append-nil u, ([], refl, tt), all.0)
last_piece r u (v ∷ pieces) all =
    let (first, last, whole, (us, us_are, each), in_r) = last_piece r v pieces all.1 in (
      u ++ first,
      last,
      ap (λ w. u ++ w) whole ∙ sym (append_assoc u first last),
      (u ∷ us, ap (λ w. u ++ w) us_are, (all.0, each)),
      in_r,
    )

-- pieces that have an item are some and a last one
pub star_last : (r : rate.Regex) (word : Word) (item : List Field)
    → In (rate.star r) (word ++ item ∷ []) → (first : Word) × (last : Word)
    × (word ++ item ∷ [] ≡ first ++ last) × In (rate.star r) first × In r last
star_last r word item ([], whole, all) = absurd (some_item word item [] whole)
star_last r word item (u ∷ pieces, whole, all) =
    let (first, last, same, in_pieces, in_r) = last_piece r u pieces all in
    (first, last, whole ∙ same, in_pieces, in_r)
