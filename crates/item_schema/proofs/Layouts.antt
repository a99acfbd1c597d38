-- What the test of columns says.
use Rattle.std.proofs.Common.{◌≡◌, ◌&&◌, nat_lt, nat_le, Bool, true, false, List, [], ◌∷◌, length}
use Rattle.std.proofs.Common.{IsTrue, refl, arith}
use Rattle.std.proofs.lemmas.Bool.Decides.{nat_tests}
use Rattle.std.specs.List.{list_all}
use Rattle.item_schema.specs.declared.column.Column.{Column}
use Rattle.language_base.specs.Limits.{max_columns}
use Rattle.item_schema.specs.Layout.{IsLayout, are_columns, are_distinct, has_digits, is_read}

-- both parts of a test hold
pub both : (a b : Bool) → IsTrue (a && b) → IsTrue a × IsTrue b
both true true holds = (refl, refl)
both true false holds = absurd (cc)
both false b holds = absurd (cc)

-- one test of two, and then another of the rest
both_again : (a b rest rest' : Bool) → IsTrue ((a && b) && rest) → (IsTrue rest → IsTrue rest')
    → IsTrue (a && rest')
both_again true true rest rest' holds continues = continues holds
both_again true false rest rest' holds continues = absurd (cc)
both_again false b rest rest' holds continues = absurd (cc)

-- of columns that all pass two tests all pass the first
pub all_left : (test other : Column → Bool) (columns : List Column)
    → IsTrue (list_all (λ c. test c && other c) columns) → IsTrue (list_all test columns)
all_left test other [] holds = refl
all_left test other (column ∷ columns) holds =
    both_again (test column) (other column) _ _ holds (all_left test other columns)

-- columns that pass the test are a layout
pub is_layout : (columns : List Column) → IsTrue (are_columns columns) → IsLayout columns
is_layout columns holds =
    let some = nat_lt 0 (length columns) in
    let few = nat_le (length columns) max_columns in
    let distinct = are_distinct columns in
    let kinds = both (some && few && distinct) _ holds in
    let names = both (some && few) distinct kinds.0 in
    let counts = both some few names.0 in
    let above : nat_lt 0 (length columns) ≡ true = counts.0 in
    let below : nat_le (length columns) max_columns ≡ true = counts.1 in
    record {
      some = grind (arith, nat_tests);
      few = grind (arith, nat_tests);
      distinct = names.1;
      digits = all_left (λ c. has_digits c.kind) (λ c. is_read c.kind) columns kinds.1;
    }
