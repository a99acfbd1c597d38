-- A word with an item left out.
use Rattle.std.proofs.Common.{ℕ, ◌+◌, List, [], ◌∷◌, ◌++◌, take, drop}
use Rattle.item_schema.specs.declared.column.Column.{Column}
use Rattle.ambiguity_example.proofs.Readable.{word_front, word_rest}
use Rattle.rate_expr.specs.Words.{Word, IsWordOf}

-- words of the columns one after the other
joined : (columns : List Column) (word other : Word) → IsWordOf columns word
    → IsWordOf columns other → IsWordOf columns (word ++ other)
joined columns [] other are also = also
joined columns (item ∷ word) other are also = (are.0, joined columns word other are.1 also)

-- what is left are items of the columns
pub left_out : (columns : List Column) (word : Word) (place : ℕ) → IsWordOf columns word
    → IsWordOf columns (take place word ++ drop (place + 1) word)
left_out columns word place are = joined columns (take place word) (drop (place + 1) word)
    (word_front columns word place are) (word_rest columns word (place + 1) are)
