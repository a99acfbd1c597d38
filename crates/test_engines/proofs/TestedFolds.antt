-- The query of the test on two iterations keeps the rules.
use Rattle.std.proofs.Common.{◌≡◌, ◌∙◌, List, [], ◌∷◌, ◌++◌, ap, arith, refl, rules, sym, subst}
use Rattle.std.specs.Prelude.{IsTrue, pos, FitsSigned}
use Rattle.std.specs.Int.{w64}
use Rattle.std.specs.List.{AllByRecursion, list_all}
use Rattle.value_ops.specs.declared.field.Field.{Field}
use Rattle.value_ops.specs.declared.field.Field.TheVariants as field
use Rattle.item_schema.specs.declared.column.Column.{Column}
use Rattle.item_schema.specs.Layout.{is_read}
use Rattle.predicates.specs.Predicates.{any}
use Rattle.rate_expr.specs.Language.{In}
use Rattle.rate_expr.specs.Rates.{one}
use Rattle.rate_expr.specs.Readings.{HasOneFactoring}
use Rattle.rate_expr.specs.Words.{Word, join}
use Rattle.query_model.specs.Checked.{IsChecked, CheckedQuery}
use Rattle.query_model.specs.Queries.{plain_of}
use Rattle.query_model.specs.Rules.{CanBeMet, IsClear, free}
use Rattle.query_model.specs.Sizes.{IsSmall}
use Rattle.test_engines.specs.TestedQueries.{excess, numbers}

five : FitsSigned w64 (pos 5)
five = search rules

met : CanBeMet numbers any
met = record { fit = refl; item = field.Int (pos 5) ∷ []; is_item = (five, tt); meets = refl }

zero_fits : FitsSigned w64 (pos 0)
zero_fits = search rules

one_fits : FitsSigned w64 (pos 1)
one_fits = search rules

-- each piece is one item
same_pieces : (us vs : List Word) → AllByRecursion (In (one any)) us
    → AllByRecursion (In (one any)) vs → join us ≡ join vs → us ≡ vs
same_pieces [] [] all others same = refl
same_pieces [] (v ∷ vs) all ((y, is, meets), others) same =
    let wrong : ◌≡◌ {A = Word} [] (y ∷ join vs) = same ∙ ap (λ (w : Word). w ++ join vs) is in cc
same_pieces (u ∷ us) [] ((x, is, meets), all) others same =
    let wrong : ◌≡◌ {A = Word} (x ∷ join us) [] =
    sym (ap (λ (w : Word). w ++ join us) is) ∙ same in cc
same_pieces (u ∷ us) (v ∷ vs) ((x, is, meets), all) ((y, is', meets'), others) same =
    let both : x ∷ join us ≡ y ∷ join vs =
    sym (ap (λ (w : Word). w ++ join us) is) ∙ same ∙ ap (λ (w : Word). w ++ join vs) is' in
    let heads : x ≡ y = cc in
    let tails : join us ≡ join vs = cc in
    let firsts : u ≡ v = is ∙ ap (λ (item : List Field). item ∷ []) heads ∙ sym is' in
    ap (λ (w : Word). w ∷ us) firsts
    ∙ ap (λ (ws : List Word). v ∷ ws) (same_pieces us vs all others tails)

one_factoring : (columns : List Column) → HasOneFactoring columns (one any)
one_factoring columns us vs is all others same = same_pieces us vs all others same

clear : IsClear free numbers excess
clear = (
  ((met, refl), zero_fits, (refl, refl), one_factoring numbers),
  ((met, one_fits), zero_fits, (refl, refl), one_factoring numbers),
  (refl, refl),
  λ word is. (λ there. there, λ there. there),
)

small : IsSmall numbers excess
small = record {
  nodes = omega arith;
  positions = (tt, tt);
  slots = omega arith;
  cells = omega arith;
  derived = (tt, tt);
}

pub excess_checked : (on : CheckedQuery) → on.layout.columns ≡ numbers
    → plain_of on.main.shape ≡ excess → IsChecked on
excess_checked on columns query = record {
  read = subst (λ (cs : List Column). IsTrue (list_all (λ (c : Column). is_read c.kind) cs))
      (sym columns) (search rules);
  clear = subst (λ (cs : List Column). IsClear free cs (plain_of on.main.shape)) (sym columns)
      (subst (IsClear free numbers) (sym query) clear);
  small = subst (λ (cs : List Column). IsSmall cs (plain_of on.main.shape)) (sym columns)
      (subst (IsSmall numbers) (sym query) small);
}
