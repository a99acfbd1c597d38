-- Each rate of a query that keeps the rules has a word.
use Rattle.std.proofs.Common.{List, [], ◌∷◌, ◌++◌, refl, inl}
use Rattle.std.specs.List.{AllByRecursion}
use Rattle.item_schema.specs.declared.column.Column.{Column}
use Rattle.rate_expr.specs.Language.{In}
use Rattle.rate_expr.specs.Rates as rate
use Rattle.rate_expr.specs.Words.{Word, IsWordOf}
use Rattle.query_model.specs.Queries.{Qre, atom, eps, choice, split, iter, combine, apply, compose}
use Rattle.query_model.specs.Queries.{collect}
use Rattle.query_model.specs.Rates.{rate_of}
use Rattle.query_model.specs.Rules.{Standing, bound, CanBeMet, IsClear}
use Rattle.eval_nodes.proofs.Pieces.{word_join}

-- a word of the stream that is in the rate
abbrev pub HasWord : List Column → rate.Regex → Type 0
HasWord columns r = (word : Word) × IsWordOf columns word × In r word

all_parts : {A : Type 0} (P : A → Type 0) (xs ys : List A) → AllByRecursion P (xs ++ ys)
    → AllByRecursion P xs × AllByRecursion P ys
all_parts P [] ys all = (tt, all)
all_parts P (x ∷ xs) ys all = let rest = all_parts P xs ys all.1 in ((all.0, rest.0), rest.1)

rate_word : (columns : List Column) (r : rate.Regex)
    → AllByRecursion (CanBeMet columns) (rate.preds_of r) → HasWord columns r
rate_word columns rate.empty all = ([], tt, refl)
rate_word columns (rate.one pred) all =
    (all.0.item ∷ [], (all.0.is_item, tt), (all.0.item, refl, all.0.meets))
rate_word columns (rate.sequence left right) all =
    let parts = all_parts (CanBeMet columns) (rate.preds_of left) (rate.preds_of right) all in
    let u = rate_word columns left parts.0 in
    let v = rate_word columns right parts.1 in
    (u.0 ++ v.0, word_join columns u.0 v.0 u.1 v.1, (u.0, v.0, refl, u.2, v.2))
rate_word columns (rate.choice left right) all =
    let parts = all_parts (CanBeMet columns) (rate.preds_of left) (rate.preds_of right) all in
    let u = rate_word columns left parts.0 in
    (u.0, u.1, inl u.2)
rate_word columns (rate.star inner) all = ([], tt, ([], refl, tt))

pub some_word : (standing : Standing) (columns : List Column) (q : Qre) → IsClear standing columns q
    → HasWord columns (rate_of q)
some_word standing columns (atom pred expression) clear =
    (clear.0.item ∷ [], (clear.0.is_item, tt), (clear.0.item, refl, clear.0.meets))
some_word standing columns (eps number) clear = ([], tt, refl)
some_word standing columns (choice f g) clear =
    let u = some_word bound columns f clear.0 in (u.0, u.1, inl u.2)
some_word standing columns (split f g expression) clear =
    let u = some_word bound columns f clear.0 in
    let v = some_word bound columns g clear.1 in
    (u.0 ++ v.0, word_join columns u.0 v.0 u.1 v.1, (u.0, v.0, refl, u.2, v.2))
some_word standing columns (iter f number expression) clear = ([], tt, ([], refl, tt))
some_word standing columns (combine f g expression) clear = some_word bound columns f clear.0
some_word standing columns (apply f expression) clear = some_word bound columns f clear.0
some_word standing columns (compose f g) clear = some_word standing columns f clear.0
some_word standing columns (collect chosen sync rate f) clear = rate_word columns rate clear.5
