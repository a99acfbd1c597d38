-- Alternatives are grouped from the right.
use Rattle.std.proofs.Common.{◌∙◌, ◌⊎◌, List, refl, sym, arith, inl}
use Rattle.std.proofs.Common.{inr, append_assoc}
use Rattle.item_schema.specs.declared.column.Column.{Column}
use Rattle.query_model.specs.Queries.{Qre, choice}
use Rattle.query_model.specs.Rules.{Standing, IsClear}
use Rattle.query_model.specs.Sizes.{predicates_of}
use Rattle.query_rewrite.proofs.Alike.{IsAlike}

to_the_right : {A B C : Type 0} → (A ⊎ B) ⊎ C → A ⊎ (B ⊎ C)
to_the_right (inl (inl x)) = inl x
to_the_right (inl (inr y)) = inr (inl y)
to_the_right (inr z) = inr (inr z)

to_the_left : {A B C : Type 0} → A ⊎ (B ⊎ C) → (A ⊎ B) ⊎ C
to_the_left (inl x) = inl (inl x)
to_the_left (inr (inl y)) = inl (inr y)
to_the_left (inr (inr z)) = inr z

neither : {A B : Type 0} → (A → ⊥) → (B → ⊥) → A ⊎ B → ⊥
neither first second (inl x) = first x
neither first second (inr y) = second y

pub choice_turned : (standing : Standing) (columns : List Column) (f g h : Qre)
    → IsClear standing columns (choice (choice f g) h)
    → IsAlike standing columns (choice (choice f g) h) (choice f (choice g h))
choice_turned standing columns f g h (left, third, last, apart) = record {
  clear = (
    left.0,
    (
      left.1,
      third,
      last ∙ sym left.2,
      (λ word is in_g in_h. apart word is (inr in_g) in_h),
    ),
    left.2,
    (λ word is in_f. neither (left.3 word is in_f) (apart word is (inl in_f))),
  );
  type = refl;
  words = λ word. (to_the_right, to_the_left);
  positions = omega arith;
  places = omega arith;
  inner = omega arith;
  nodes = omega arith;
  tests = sym (append_assoc (predicates_of f) (predicates_of g) (predicates_of h));
  few_positions = λ few. (few.0.0, (few.0.1, few.1, omega (arith, few.2)), omega (arith, few.2));
  few_cells = λ few. (few.0.0, (few.0.1, few.1));
  few_levels = λ few. (few.0.0, (few.0.1, few.1));
  no_collect = λ none. (none.0.0, (none.0.1, none.1));
  means = λ word v is. (to_the_right, to_the_left);
}
