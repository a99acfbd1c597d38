-- A query has one answer on a word.
use Rattle.std.proofs.Common.{◌≡◌, List, Option, Some, None, ap, refl}
use Rattle.value_ops.specs.declared.value.Value.{Value}
use Rattle.item_schema.specs.declared.column.Column.{Column}
use Rattle.rate_expr.specs.Words.{Word, IsWordOf}
use Rattle.query_model.specs.Following.{IsAnswer}
use Rattle.query_model.specs.Queries.{Qre}
use Rattle.query_model.specs.Rules.{Standing, IsClear}
use Rattle.query_model.proofs.Unique.{one_value}

pub one_answer : (standing : Standing) (columns : List Column) (q : Qre) (word : Word)
    (one other : Option Value) → IsClear standing columns q → IsWordOf columns word
    → IsAnswer q word one → IsAnswer q word other → one ≡ other
one_answer standing columns q word None None clear is none none' = refl
one_answer standing columns q word None (Some v) clear is none den = absurd (none v den)
one_answer standing columns q word (Some v) None clear is den none = absurd (none v den)
one_answer standing columns q word (Some v) (Some v') clear is den den' =
    ap Some (one_value standing columns q word v v' clear is den den')
