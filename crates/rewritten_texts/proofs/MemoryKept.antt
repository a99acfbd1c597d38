-- The keys of tables in an expression stay texts where it is reduced and where it is given another
-- for its left value, so what lies in memory does so where it is rewritten.
use Rattle.std.proofs.Common.{Bool, true, false}
use Rattle.std.specs.Prelude.{if◌then◌else◌}
use Rattle.expressions.specs.declared.expr.Var.TheVariants as var
use Rattle.expressions.specs.Expressions.{Expression, literal, read, unary, binary, choice, sum}
use Rattle.expressions.specs.Expressions.{count, most, least, entry, rec, part, Expressions, none}
use Rattle.expressions.specs.Expressions.{more}
use Rattle.language_base.specs.Comparisons.{compares}
use Rattle.language_base.specs.declared.binary.BinaryOp.{BinaryOp}
use Rattle.language_base.specs.declared.compare.Compare.{Compare}
use Rattle.language_base.specs.declared.unary.UnaryOp.{UnaryOp}
use Rattle.query_model.specs.Queries.{Qre}
use Rattle.query_rewrite.specs.Filling.{each_filled, filled}
use Rattle.query_rewrite.specs.Reducing.{binary_reduced, choice_reduced, each_reduced, literal_or}
use Rattle.query_rewrite.specs.Reducing.{reduced, unary_reduced}
use Rattle.query_rewrite.specs.Rewriting.{Rewrites, same, twice, merged, turned_choice}
use Rattle.query_rewrite.specs.Rewriting.{turned_compose, reduced_atom, reduced_split, reduced_iter}
use Rattle.query_rewrite.specs.Rewriting.{reduced_combine, reduced_apply, in_choice, in_split}
use Rattle.query_rewrite.specs.Rewriting.{in_iter, in_combine, in_apply, in_compose, in_collect}
use Rattle.query_text.specs.Memory.{FitsMemory, HasTextKeys, HaveTextKeys}
use Rattle.value_ops.specs.declared.scalar.Scalar.{Scalar}
use Rattle.value_ops.specs.declared.scalar.Scalar.TheVariants.{Number, Overflow, DivZero}
use Rattle.value_ops.specs.Operators.{binary_of, unary_of}

mutual
  keys_filled : (e d : Expression) → HasTextKeys e → HasTextKeys d → HasTextKeys (filled e d)
  keys_filled e (literal number) inner keys = tt
  keys_filled e (read var.Left) inner keys = inner
  keys_filled e (read var.Right) inner keys = tt
  keys_filled e (read (var.Field column)) inner keys = tt
  keys_filled e (unary op first) inner keys = keys_filled e first inner keys
  keys_filled e (binary op first second) inner keys =
      (keys_filled e first inner keys.0, keys_filled e second inner keys.1)
  keys_filled e (choice test first second met other) inner keys = (
    keys_filled e first inner keys.0,
    keys_filled e second inner keys.1,
    keys_filled e met inner keys.2,
    keys_filled e other inner keys.3,
  )
  keys_filled e (sum name) inner keys = tt
  keys_filled e (count name) inner keys = tt
  keys_filled e (most name first) inner keys = keys_filled e first inner keys
  keys_filled e (least name first) inner keys = keys_filled e first inner keys
  keys_filled e (entry name key other) inner keys =
      (keys.0, keys_filled e other inner keys.1)
  keys_filled e (rec parts) inner keys = all_keys_filled e parts inner keys
  keys_filled e (part name place) inner keys = tt

  all_keys_filled : (e : Expression) (parts : Expressions) → HasTextKeys e → HaveTextKeys parts
      → HaveTextKeys (each_filled e parts)
  all_keys_filled e none inner keys = tt
  all_keys_filled e (more first rest) inner keys =
      (keys_filled e first inner keys.0, all_keys_filled e rest inner keys.1)

literal_keys : (s : Scalar) (e : Expression) → HasTextKeys e → HasTextKeys (literal_or s e)
literal_keys (Number number) e keys = tt
literal_keys Overflow e keys = keys
literal_keys DivZero e keys = keys

unary_keys : (op : UnaryOp) (e : Expression) → HasTextKeys e → HasTextKeys (unary_reduced op e)
unary_keys op (literal number) keys =
    literal_keys (unary_of op (Number number)) (unary op (literal number)) tt
unary_keys op _ keys = keys

binary_keys : (op : BinaryOp) (a b : Expression) → HasTextKeys a → HasTextKeys b
    → HasTextKeys (binary_reduced op a b)
binary_keys op (literal x) (literal y) first second =
    literal_keys (binary_of op (Number x) (Number y)) (binary op (literal x) (literal y)) (tt, tt)
binary_keys op _ _ first second = (first, second)

either_keys : (b : Bool) (met other : Expression) → HasTextKeys met → HasTextKeys other
    → HasTextKeys (if b then met else other)
either_keys true met other first second = first
either_keys false met other first second = second

choice_keys : (test : Compare) (a b met other : Expression) → HasTextKeys a → HasTextKeys b
    → HasTextKeys met → HasTextKeys other → HasTextKeys (choice_reduced test a b met other)
choice_keys test (literal x) (literal y) met other p q r s =
    either_keys (compares test x y) met other r s
choice_keys test _ _ met other p q r s = (p, q, r, s)

mutual
  keys_reduced : (e : Expression) → HasTextKeys e → HasTextKeys (reduced e)
  keys_reduced (literal number) keys = tt
  keys_reduced (read name) keys = tt
  keys_reduced (unary op inner) keys = unary_keys op (reduced inner) (keys_reduced inner keys)
  keys_reduced (binary op first second) keys =
      binary_keys op (reduced first) (reduced second) (keys_reduced first keys.0)
      (keys_reduced second keys.1)
  keys_reduced (choice test first second met other) keys =
      choice_keys test (reduced first) (reduced second) (reduced met) (reduced other)
      (keys_reduced first keys.0) (keys_reduced second keys.1) (keys_reduced met keys.2)
      (keys_reduced other keys.3)
  keys_reduced (sum name) keys = tt
  keys_reduced (count name) keys = tt
  keys_reduced (most name first) keys = keys_reduced first keys
  keys_reduced (least name first) keys = keys_reduced first keys
  keys_reduced (entry name key other) keys = (keys.0, keys_reduced other keys.1)
  keys_reduced (rec parts) keys = all_keys_reduced parts keys
  keys_reduced (part name place) keys = tt

  all_keys_reduced : (parts : Expressions) → HaveTextKeys parts → HaveTextKeys (each_reduced parts)
  all_keys_reduced none keys = tt
  all_keys_reduced (more first rest) keys =
      (keys_reduced first keys.0, all_keys_reduced rest keys.1)

pub memory_kept : (p q : Qre) → Rewrites p q → FitsMemory p → FitsMemory q
memory_kept p q (same _) fits = fits
memory_kept p q (twice _ middle _ first second) fits =
    memory_kept middle q second (memory_kept p middle first fits)
memory_kept p q (merged f e d can) fits = (fits.0.0, keys_filled e d fits.0.1 fits.1)
memory_kept p q (turned_choice f g h) fits = (fits.0.0, (fits.0.1, fits.1))
memory_kept p q (turned_compose f g h can) fits = ((fits.0, fits.1.0), fits.1.1)
memory_kept p q (reduced_atom pred e) fits = (fits.0, keys_reduced e fits.1)
memory_kept p q (reduced_split f g e) fits = (fits.0, fits.1, keys_reduced e fits.2)
memory_kept p q (reduced_iter f number e) fits = (fits.0, keys_reduced e fits.1)
memory_kept p q (reduced_combine f g e) fits = (fits.0, fits.1, keys_reduced e fits.2)
memory_kept p q (reduced_apply f e) fits = (fits.0, keys_reduced e fits.1)
memory_kept p q (in_choice f f' g g' first second) fits =
    (memory_kept f f' first fits.0, memory_kept g g' second fits.1)
memory_kept p q (in_split f f' g g' e first second) fits =
    (memory_kept f f' first fits.0, memory_kept g g' second fits.1, fits.2)
memory_kept p q (in_iter f f' number e inner) fits = (memory_kept f f' inner fits.0, fits.1)
memory_kept p q (in_combine f f' g g' e first second) fits =
    (memory_kept f f' first fits.0, memory_kept g g' second fits.1, fits.2)
memory_kept p q (in_apply f f' e inner) fits = (memory_kept f f' inner fits.0, fits.1)
memory_kept p q (in_compose f f' g g' first second) fits =
    (memory_kept f f' first fits.0, memory_kept g g' second fits.1)
memory_kept p q (in_collect chosen sync rate f f' inner) fits =
    (memory_kept f f' inner fits.0, fits.1, fits.2, fits.3)
