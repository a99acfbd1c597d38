-- Expressions in the text of a file: their numbers have 64 bits, their keys are texts, and they
-- have few levels.
use Rattle.std.proofs.Common.{◌≡◌, ◌≤◌, ℕ, ◌+◌, Some, codes, arith}
use Rattle.expressions.specs.declared.expr.Var.{Var}
use Rattle.expressions.specs.Expressions as value
use Rattle.expressions.specs.Expressions.{Expression, Expressions}
use Rattle.language_base.specs.Limits.{max_level}
use Rattle.query_forms.specs.Terms.{Terms}
use Rattle.query_forms.specs.Terms as terms
use Rattle.query_resolver.specs.Expressions.{Scope, expression_over, expressions_over}
use Rattle.query_resolver.specs.Expressions.{extremum_of, named_in, summary_of}
use Rattle.query_resolver.specs.Scopes.{HasFittingNumbers, HaveFittingNumbers}
use Rattle.query_rewrite.specs.Levels.{levels_of, most_levels}
use Rattle.query_syntax.specs.declared.operator.Extremum.{Extremum}
use Rattle.query_syntax.specs.declared.operator.Extremum.TheVariants.{Max, Min}
use Rattle.query_syntax.specs.declared.operator.Summary.{Summary}
use Rattle.query_syntax.specs.declared.operator.Summary.TheVariants.{Sum, Count}
use Rattle.query_syntax.specs.Expressions as e
use Rattle.query_syntax.specs.Words.{binary_word, compare_word, extremum_word, summary_word}
use Rattle.query_syntax.specs.Words.{unary_word}
use Rattle.query_syntax.specs.Written.{expression_before, expressions_terms, index_before}
use Rattle.query_syntax.specs.Written.{name_before, text_before}
use Rattle.query_text.specs.Memory.{HasTextKeys, HaveTextKeys}
use Rattle.rewritten_texts.proofs.Found.{of_both, of_choice, of_found, of_mapped, of_more, of_table}
use Rattle.rewritten_texts.proofs.SaidNumbers.{number_fits, text_of}
use Rattle.rewritten_texts.proofs.Taken.{AreSaid, take_call, take_number}
use Rattle.rewritten_texts.proofs.Taken.{take_string, take_word}

-- an expression that stands at a level of a text
pub record IsSaid (level : ℕ) (x : Expression) : Type 0 where
  pub numbers : HasFittingNumbers x
  pub keys : HasTextKeys x
  pub levels : level + levels_of x ≤ max_level + 1

pub record AllSaid (level : ℕ) (xs : Expressions) : Type 0 where
  pub numbers : HaveFittingNumbers xs
  pub keys : HaveTextKeys xs
  pub levels : level + most_levels xs ≤ max_level + 1

-- whatever its names stand for
abbrev pub ValueSaid : ℕ → e.Expression → Type 0
ValueSaid level tree =
    (scope : Scope) (x : Expression) → expression_over scope tree ≡ Some x → IsSaid level x

abbrev ValuesSaid : ℕ → e.Expressions → Type 0
ValuesSaid level trees =
    (scope : Scope) (xs : Expressions) → expressions_over scope trees ≡ Some xs → AllSaid level xs

-- the summary of a table, and an extremum of one and of a first number
summary_said : (level : ℕ) (op : Summary) (name : Var) → level + 1 ≤ max_level
    → IsSaid level (summary_of op name)
summary_said level Sum name few =
    record { numbers = tt; keys = tt; levels = omega (arith, few) }
summary_said level Count name few =
    record { numbers = tt; keys = tt; levels = omega (arith, few) }

extremum_said : (level : ℕ) (op : Extremum) (name : Var) (x : Expression)
    → IsSaid (level + 1) x → IsSaid level (extremum_of op name x)
extremum_said level Max name x is =
    record { numbers = is.numbers; keys = is.keys; levels = omega (arith, is.levels) }
extremum_said level Min name x is =
    record { numbers = is.numbers; keys = is.keys; levels = omega (arith, is.levels) }

-- an expression before other terms, with what is known of these
pub record TakesValue (level : ℕ) (tree : e.Expression) (rest : Terms) : Type 0 where
  pub value : ValueSaid level tree
  pub others : AreSaid level rest

mutual
  pub take_value : (tree : e.Expression) (level : ℕ) (rest : Terms)
      → AreSaid level (expression_before tree rest) → TakesValue level tree rest
  take_value (e.number n) level rest said =
      let taken = take_number level rest n.span n.value said in record {
        value = λ scope x is. of_found (IsSaid level) (value.literal n.value) x is (record {
          numbers = number_fits n.value taken.within;
          keys = tt;
          levels = omega (arith, taken.few);
        });
        others = taken.others;
      }
  take_value (e.name n) level rest said =
      let taken = take_word level rest n.span n.bytes said in record {
        value = λ scope x is. of_mapped (IsSaid level) value.read (named_in scope n.bytes) x is
            (λ name there. record {
              numbers = tt;
              keys = tt;
              levels = omega (arith, taken.few);
            });
        others = taken.others;
      }
  take_value (e.unary op inner span) level rest said =
      let taken = take_call level rest span (unary_word op) (expression_before inner terms.none)
      said in
      let one = take_value inner (level + 1) terms.none taken.inner in record {
        value = λ scope x is. of_mapped (IsSaid level) (value.unary op)
            (expression_over scope inner) x is
            (λ a there. let of_a = one.value scope a there in record {
              numbers = of_a.numbers;
              keys = of_a.keys;
              levels = omega (arith, of_a.levels);
            });
        others = taken.others;
      }
  take_value (e.binary op left right span) level rest said =
      let taken = take_call level rest span (binary_word op)
      (expression_before left (expression_before right terms.none)) said in
      let one = take_value left (level + 1) (expression_before right terms.none) taken.inner in
      let other = take_value right (level + 1) terms.none one.others in record {
        value = λ scope x is. of_both (IsSaid level) x (value.binary op)
            (expression_over scope left) (expression_over scope right) is
            (λ a b there also.
            let of_a = one.value scope a there in
            let of_b = other.value scope b also in record {
              numbers = (of_a.numbers, of_b.numbers);
              keys = (of_a.keys, of_b.keys);
              levels = omega (arith, of_a.levels, of_b.levels);
            });
        others = taken.others;
      }
  take_value (e.choice op left right at met other span) level rest said =
      let last = expression_before met (expression_before other terms.none) in
      let compared = expression_before left (expression_before right terms.none) in
      let taken = take_call level rest span (codes "if")
      (terms.call (compare_word op) compared at last) said in
      let test = take_call (level + 1) last at (compare_word op) compared taken.inner in
      let one = take_value left (level + 1 + 1) (expression_before right terms.none)
      test.inner in
      let two = take_value right (level + 1 + 1) terms.none one.others in
      let three = take_value met (level + 1) (expression_before other terms.none) test.others in
      let four = take_value other (level + 1) terms.none three.others in record {
        value = λ scope x is. of_choice (IsSaid level) x (value.choice op)
            (expression_over scope left) (expression_over scope right) (expression_over scope met)
            (expression_over scope other) is
            (λ a b c d is_a is_b is_c is_d.
            let of_a = one.value scope a is_a in
            let of_b = two.value scope b is_b in
            let of_c = three.value scope c is_c in
            let of_d = four.value scope d is_d in record {
              numbers = (of_a.numbers, of_b.numbers, of_c.numbers, of_d.numbers);
              keys = (of_a.keys, of_b.keys, of_c.keys, of_d.keys);
              levels = omega (arith, of_a.levels, of_b.levels, of_c.levels, of_d.levels);
            });
        others = taken.others;
      }
  take_value (e.summary op table span) level rest said =
      let taken = take_call level rest span (summary_word op) (name_before table terms.none) said in
      let named = take_word (level + 1) terms.none table.span table.bytes taken.inner in
      record {
        value = λ scope x is. of_mapped (IsSaid level) (summary_of op)
            (named_in scope table.bytes) x is
            (λ name there. summary_said level op name named.few);
        others = taken.others;
      }
  take_value (e.extremum op table first span) level rest said =
      let taken = take_call level rest span (extremum_word op)
      (name_before table (expression_before first terms.none)) said in
      let named = take_word (level + 1) (expression_before first terms.none) table.span table.bytes
      taken.inner in
      let one = take_value first (level + 1) terms.none named.others in record {
        value = λ scope x is. of_table (IsSaid level) x (extremum_of op)
            (named_in scope table.bytes) (expression_over scope first) is
            (λ name a there. extremum_said level op name a (one.value scope a there));
        others = taken.others;
      }
  take_value (e.get table key other span) level rest said =
      let last = expression_before other terms.none in
      let taken = take_call level rest span (codes "tget")
      (name_before table (text_before key last)) said in
      let named = take_word (level + 1) (text_before key last) table.span table.bytes
      taken.inner in
      let text = take_string (level + 1) last key.span key.bytes named.others in
      let one = take_value other (level + 1) terms.none text.others in record {
        value = λ scope x is. of_table (IsSaid level) x
            (λ name inner. value.entry name key.bytes inner)
            (named_in scope table.bytes) (expression_over scope other) is
            (λ name a there. let of_a = one.value scope a there in record {
              numbers = of_a.numbers;
              keys = (text_of key.bytes text.are_bytes, of_a.keys);
              levels = omega (arith, of_a.levels);
            });
        others = taken.others;
      }
  take_value (e.rec parts span) level rest said =
      let taken = take_call level rest span (codes "rec") (expressions_terms parts) said in
      let few = taken.few in
      let all = take_values parts (level + 1) (omega (arith, few)) taken.inner in record {
        value = λ scope x is. of_mapped (IsSaid level) value.rec (expressions_over scope parts) x is
            (λ xs there. let of_them = all scope xs there in record {
              numbers = of_them.numbers;
              keys = of_them.keys;
              levels = omega (arith, of_them.levels);
            });
        others = taken.others;
      }
  take_value (e.part whole index span) level rest said =
      let taken = take_call level rest span (codes "part")
      (name_before whole (index_before index terms.none)) said in
      let named = take_word (level + 1) (index_before index terms.none) whole.span whole.bytes
      taken.inner in record {
        value = λ scope x is. of_mapped (IsSaid level) (λ name. value.part name index.value)
            (named_in scope whole.bytes) x is
            (λ name there. record {
              numbers = tt;
              keys = tt;
              levels = omega (arith, named.few);
            });
        others = taken.others;
      }

  take_values : (trees : e.Expressions) (level : ℕ) → level ≤ max_level + 1
      → AreSaid level (expressions_terms trees) → ValuesSaid level trees
  take_values e.none level few said scope xs is =
      of_found (AllSaid level) value.none xs is
      (record { numbers = tt; keys = tt; levels = omega (arith, few) })
  take_values (e.more first others) level few said scope xs is =
      let one = take_value first level (expressions_terms others) said in
      let rest = take_values others level few one.others in
      of_more (AllSaid level) xs (expression_over scope first) (expressions_over scope others) is
      (λ a ys there also.
      let of_a = one.value scope a there in
      let of_them = rest scope ys also in record {
        numbers = (of_a.numbers, of_them.numbers);
        keys = (of_a.keys, of_them.keys);
        levels = omega (arith, of_a.levels, of_them.levels);
      })
