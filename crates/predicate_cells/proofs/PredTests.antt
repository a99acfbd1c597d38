-- Which predicates in memory are tests of a column.
use Rattle.std.proofs.Common.{◌≡◌, ℕ, ℤ, List, ◌⊎◌, inl, inr, refl}
use Rattle.predicates.specs.Plain.{plain_of}
use Rattle.predicates.specs.declared.pred.Pred.{Pred}
use Rattle.predicates.specs.declared.pred.Pred.TheVariants.{Eq, Ne, Lt, Le, Gt, Ge, Between}
use Rattle.predicates.specs.declared.pred.Pred.TheVariants.{EqText, NeText, IsNum}
use Rattle.predicate_cells.proofs.TruthLists.{IsTest}

-- each of these ten
pub is_test : (column : ℕ) (pred : Pred)
    → ((n : ℤ) × (pred ≡ Eq column n)) ⊎ (((n : ℤ) × (pred ≡ Ne column n))
    ⊎ (((n : ℤ) × (pred ≡ Lt column n)) ⊎ (((n : ℤ) × (pred ≡ Le column n))
    ⊎ (((n : ℤ) × (pred ≡ Gt column n)) ⊎ (((n : ℤ) × (pred ≡ Ge column n))
    ⊎ (((low : ℤ) × (high : ℤ) × (pred ≡ Between column low high))
    ⊎ (((text : List ℕ) × (pred ≡ EqText column text))
    ⊎ (((text : List ℕ) × (pred ≡ NeText column text)) ⊎ (pred ≡ IsNum column)))))))))
    → IsTest column (plain_of pred)
is_test column pred (inl (n, e)) = rw e refl
is_test column pred (inr (inl (n, e))) = rw e refl
is_test column pred (inr (inr (inl (n, e)))) = rw e refl
is_test column pred (inr (inr (inr (inl (n, e))))) = rw e refl
is_test column pred (inr (inr (inr (inr (inl (n, e)))))) = rw e refl
is_test column pred (inr (inr (inr (inr (inr (inl (n, e))))))) = rw e refl
is_test column pred (inr (inr (inr (inr (inr (inr (inl (low, high, e)))))))) = rw e refl
is_test column pred (inr (inr (inr (inr (inr (inr (inr (inl (text, e))))))))) = rw e refl
is_test column pred (inr (inr (inr (inr (inr (inr (inr (inr (inl (text, e)))))))))) = rw e refl
is_test column pred (inr (inr (inr (inr (inr (inr (inr (inr (inr e))))))))) = rw e refl
