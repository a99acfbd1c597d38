-- The words of operators, each with its form.
use Rattle.std.proofs.Common.{◌≡◌, true, ◌∷◌, [], Some, refl}
use Rattle.language_base.specs.declared.binary.BinaryOp.{BinaryOp}
use Rattle.language_base.specs.declared.binary.BinaryOp.TheVariants.{Add, Sub, Mul, Div, Rem, Min}
use Rattle.language_base.specs.declared.binary.BinaryOp.TheVariants.{Max}
use Rattle.language_base.specs.declared.compare.Compare.{Compare}
use Rattle.language_base.specs.declared.compare.Compare.TheVariants.{Lt, Le, Gt, Ge, Eq, Ne}
use Rattle.language_base.specs.declared.unary.UnaryOp.{UnaryOp}
use Rattle.language_base.specs.declared.unary.UnaryOp.TheVariants.{Neg, Abs}
use Rattle.query_forms.specs.declared.term_place.TermPlace.TheVariants.{Compare as at_compare, Expr}
use Rattle.query_forms.specs.Forms.{places_of}
use Rattle.query_syntax.specs.Words.{binary_word, compare_word, unary_word}
use Rattle.text_reads_back.proofs.KnownWords.{is_word}

pub unary_form : (op : UnaryOp) → (places_of Expr (unary_word op) 1 ≡ Some (Expr ∷ []))
    × (is_word (unary_word op) ≡ true)
unary_form Neg = (refl, refl)
unary_form Abs = (refl, refl)

pub binary_form : (op : BinaryOp)
    → (places_of Expr (binary_word op) 2 ≡ Some (Expr ∷ Expr ∷ [])) × (is_word (binary_word op) ≡ true)
binary_form Add = (refl, refl)
binary_form Sub = (refl, refl)
binary_form Mul = (refl, refl)
binary_form Div = (refl, refl)
binary_form Rem = (refl, refl)
binary_form Min = (refl, refl)
binary_form Max = (refl, refl)

pub compare_form : (test : Compare)
    → (places_of at_compare (compare_word test) 2 ≡ Some (Expr ∷ Expr ∷ []))
    × (is_word (compare_word test) ≡ true)
compare_form Lt = (refl, refl)
compare_form Le = (refl, refl)
compare_form Gt = (refl, refl)
compare_form Ge = (refl, refl)
compare_form Eq = (refl, refl)
compare_form Ne = (refl, refl)
