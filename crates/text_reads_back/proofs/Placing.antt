-- The lets of a query stand for its nodes.
use Rattle.std.proofs.Common.{◌≡◌, ◌<◌, ◌≤◌, ℕ, ◌+◌, ◌^◌, ℤ, List, length, codes, Some, FitsSigned, w64}
use Rattle.std.proofs.Common.{unwrap_or, refl, ap, ap₂, ◌∙◌, arith}
use Rattle.expressions.specs.Expressions.{Expression}
use Rattle.language_base.specs.Limits.{max_nodes}
use Rattle.query_forms.specs.Terms.{Terms, none, number}
use Rattle.query_forms.specs.declared.term_place.TermPlace.TheVariants as spot
use Rattle.query_lets.specs.Unfolded.{Binding, meaning, replaced}
use Rattle.query_parser.specs.Printing.{nowhere}
use Rattle.query_syntax.specs.Queries as q
use Rattle.query_syntax.specs.Queries.{Query}
use Rattle.query_syntax.specs.Written.{expression_before, query_before}
use Rattle.query_text.specs.Lets.{Placed, let_at, with_query}
use Rattle.query_text.specs.Names.{Naming, let_name}
use Rattle.query_text.specs.Trees.{expression_tree, numbered}
use Rattle.text_reads_back.proofs.BareTrees.{expression_is_bare}
use Rattle.text_reads_back.proofs.Bindings.{bindings}
use Rattle.text_reads_back.proofs.Fitted.{Stands, call_of_three, call_of_two}
use Rattle.text_reads_back.proofs.Fitted.{number_stands, word_stands}
use Rattle.text_reads_back.proofs.LetNames.{let_name_is_word}
use Rattle.text_reads_back.proofs.Ranges.{number_within}
use Rattle.text_reads_back.proofs.Sharing.{AreLets, IsLet, IsPlaced, query_placed}

-- the name of a let stands where queries stand
pub named_stands : (at : ℕ) (rest : Terms) → at < 2 ^ 32
    → Stands 3 spot.Query (query_before (let_at at) rest) rest
named_stands at rest small =
    word_stands 3 spot.Query (let_name at) rest nowhere (omega arith) (let_name_is_word at small) refl

-- a name of a let that stands for a query
pub named_means : (bound : List Binding) (at : ℕ) (tree : Query)
    → meaning bound (let_name at) ≡ Some tree → replaced bound (let_at at) ≡ tree
named_means bound at tree is = ap (λ found. unwrap_or found (let_at at)) is

-- a node without operands, with one and with two
module _ (queries : List Query) where
  pub alone_placed : (body tree : Query) → AreLets queries → IsLet (length queries) body
      → length queries < 2 ^ 32 → replaced (bindings queries) body ≡ tree
      → IsPlaced queries (with_query queries body) tree 1
  alone_placed body tree lets is small same =
      let one = query_placed queries lets body is small in
      record {
        lets = one.lets;
        longer = one.longer;
        few = one.few;
        within = one.within;
        means = one.means ∙ ap Some same;
        kept = one.kept;
      }

  pub one_placed : (inner : Placed) (body first tree : Query) (nodes : ℕ)
      → IsPlaced queries inner first nodes
      → IsLet (length inner.queries) body → length inner.queries < 2 ^ 32
      → replaced (bindings inner.queries) body ≡ tree
      → IsPlaced queries (with_query inner.queries body) tree (nodes + 1)
  one_placed inner body first tree nodes operand is small same =
      let one = query_placed inner.queries operand.lets body is small in
      record {
        lets = one.lets;
        longer = omega (arith, one.longer, operand.longer);
        few = omega (arith, one.few, operand.few);
        within = one.within;
        means = one.means ∙ ap Some same;
        kept = λ place other less means. one.kept place other (omega (arith, less, operand.longer))
            (operand.kept place other less means);
      }

  two_placed : (left right : Placed) (body first second tree : Query) (nodes others : ℕ)
      → IsPlaced queries left first nodes → IsPlaced left.queries right second others
      → IsLet (length right.queries) body → length right.queries < 2 ^ 32
      → replaced (bindings right.queries) body ≡ tree
      → IsPlaced queries (with_query right.queries body) tree (nodes + others + 1)
  two_placed left right body first second tree nodes others operand also is small same =
      let one = query_placed right.queries also.lets body is small in
      record {
        lets = one.lets;
        longer = omega (arith, one.longer, also.longer, operand.longer);
        few = omega (arith, one.few, also.few, operand.few);
        within = one.within;
        means = one.means ∙ ap Some same;
        kept = λ place other less means.
            one.kept place other (omega (arith, less, operand.longer, also.longer))
            (also.kept place other (omega (arith, less, operand.longer))
            (operand.kept place other less means));
      }

-- lets for a pair of operands, which are named in their query
module _ (queries : List Query) (left right : Placed) (first second : Query) (nodes others : ℕ)
    (operand : IsPlaced queries left first nodes)
    (also : IsPlaced left.queries right second others)
    (few : length queries + nodes + others + 1 ≤ max_nodes) where
  small : length right.queries < 2 ^ 32
  small = omega (arith, few, operand.few, also.few)

  left_small : left.place < length right.queries
  left_small = omega (arith, operand.within, also.longer)

  left_means : replaced (bindings right.queries) (let_at left.place) ≡ first
  left_means = named_means (bindings right.queries) left.place first
      (also.kept left.place first operand.within operand.means)

  right_means : replaced (bindings right.queries) (let_at right.place) ≡ second
  right_means = named_means (bindings right.queries) right.place second also.means

  left_stands : (rest : Terms) → Stands 3 spot.Query (query_before (let_at left.place) rest) rest
  left_stands rest = named_stands left.place rest (omega (arith, left_small, small))

  right_stands : (rest : Terms) → Stands 3 spot.Query (query_before (let_at right.place) rest) rest
  right_stands rest = named_stands right.place rest (omega (arith, also.within, small))

  -- a choice, and a composition
  pub or_placed : IsPlaced queries
      (with_query right.queries (q.or (let_at left.place) (let_at right.place) nowhere))
      (q.or first second nowhere) (nodes + others + 1)
  or_placed =
      two_placed queries left right (q.or (let_at left.place) (let_at right.place) nowhere)
      first second (q.or first second nowhere) nodes others operand also
      (record {
        stands = λ rest. call_of_two 2 spot.Query (codes "or") rest nowhere spot.Query spot.Query
            (query_before (let_at left.place) (query_before (let_at right.place) none))
            (query_before (let_at right.place) none) refl refl (omega arith)
            (left_stands (query_before (let_at right.place) none)) (right_stands none);
        bare = refl;
        closed = ((left.place, left_small, refl), ((right.place, also.within, refl), tt));
      })
      small (ap₂ (λ a b. q.or a b nowhere) left_means right_means)

  pub compose_placed : IsPlaced queries
      (with_query right.queries (q.compose (let_at left.place) (let_at right.place) nowhere))
      (q.compose first second nowhere) (nodes + others + 1)
  compose_placed =
      two_placed queries left right (q.compose (let_at left.place) (let_at right.place) nowhere)
      first second (q.compose first second nowhere) nodes others operand also
      (record {
        stands = λ rest. call_of_two 2 spot.Query (codes "compose") rest nowhere spot.Query
            spot.Query (query_before (let_at left.place) (query_before (let_at right.place) none))
            (query_before (let_at right.place) none) refl refl (omega arith)
            (left_stands (query_before (let_at right.place) none)) (right_stands none);
        bare = refl;
        closed = ((left.place, left_small, refl), ((right.place, also.within, refl), tt));
      })
      small (ap₂ (λ a b. q.compose a b nowhere) left_means right_means)

  -- a split, and a combination
  module _ (naming : Naming) (e : Expression)
      (written : (rest : Terms)
      → Stands 3 spot.Expr (expression_before (expression_tree naming e) rest) rest) where
    abbrev last : Terms
    last = expression_before (expression_tree naming e) none

    pub split_placed : IsPlaced queries
        (with_query right.queries (q.split (let_at left.place) (let_at right.place)
        (expression_tree naming e) nowhere))
        (q.split first second (expression_tree naming e) nowhere) (nodes + others + 1)
    split_placed =
        two_placed queries left right
        (q.split (let_at left.place) (let_at right.place) (expression_tree naming e) nowhere)
        first second (q.split first second (expression_tree naming e) nowhere) nodes others operand
        also
        (record {
          stands = λ rest. call_of_three 2 spot.Query (codes "split") rest nowhere spot.Query
              spot.Query spot.Expr
              (query_before (let_at left.place) (query_before (let_at right.place) last))
              (query_before (let_at right.place) last) last refl refl (omega arith)
              (left_stands (query_before (let_at right.place) last)) (right_stands last)
              (written none);
          bare = ap (λ t. q.split (let_at left.place) (let_at right.place) t nowhere)
              (expression_is_bare naming e);
          closed = ((left.place, left_small, refl), ((right.place, also.within, refl), tt));
        })
        small (ap₂ (λ a b. q.split a b (expression_tree naming e) nowhere) left_means right_means)

    pub combine_placed : IsPlaced queries
        (with_query right.queries (q.combine (let_at left.place) (let_at right.place)
        (expression_tree naming e) nowhere))
        (q.combine first second (expression_tree naming e) nowhere) (nodes + others + 1)
    combine_placed =
        two_placed queries left right
        (q.combine (let_at left.place) (let_at right.place) (expression_tree naming e) nowhere)
        first second (q.combine first second (expression_tree naming e) nowhere) nodes others
        operand also
        (record {
          stands = λ rest. call_of_three 2 spot.Query (codes "combine") rest nowhere spot.Query
              spot.Query spot.Expr
              (query_before (let_at left.place) (query_before (let_at right.place) last))
              (query_before (let_at right.place) last) last refl refl (omega arith)
              (left_stands (query_before (let_at right.place) last)) (right_stands last)
              (written none);
          bare = ap (λ t. q.combine (let_at left.place) (let_at right.place) t nowhere)
              (expression_is_bare naming e);
          closed = ((left.place, left_small, refl), ((right.place, also.within, refl), tt));
        })
        small (ap₂ (λ a b. q.combine a b (expression_tree naming e) nowhere) left_means right_means)

-- lets for one operand
module _ (queries : List Query) (inner : Placed) (first : Query) (nodes : ℕ)
    (operand : IsPlaced queries inner first nodes)
    (few : length queries + nodes + 1 ≤ max_nodes) where
  pub little : length inner.queries < 2 ^ 32
  little = omega (arith, few, operand.few)

  pub inner_means : replaced (bindings inner.queries) (let_at inner.place) ≡ first
  inner_means = named_means (bindings inner.queries) inner.place first operand.means

  pub inner_stands : (rest : Terms) → Stands 3 spot.Query (query_before (let_at inner.place) rest) rest
  inner_stands rest = named_stands inner.place rest (omega (arith, operand.within, little))

  module _ (naming : Naming) (e : Expression)
      (written : (rest : Terms)
      → Stands 3 spot.Expr (expression_before (expression_tree naming e) rest) rest) where
    pub iter_placed : (value : ℤ) → FitsSigned w64 value → IsPlaced queries
        (with_query inner.queries (q.iter (let_at inner.place) (numbered value)
        (expression_tree naming e) nowhere))
        (q.iter first (numbered value) (expression_tree naming e) nowhere) (nodes + 1)
    iter_placed value fits =
        let last = expression_before (expression_tree naming e) none in
        let then = number value nowhere last in
        one_placed queries inner
        (q.iter (let_at inner.place) (numbered value) (expression_tree naming e) nowhere)
        first (q.iter first (numbered value) (expression_tree naming e) nowhere) nodes operand
        (record {
          stands = λ rest. call_of_three 2 spot.Query (codes "iter") rest nowhere spot.Query
              spot.Number spot.Expr (query_before (let_at inner.place) then) then last refl
              refl (omega arith) (inner_stands then)
              (number_stands 3 spot.Number value last nowhere (omega arith)
              (number_within value fits) refl)
              (written none);
          bare = ap (λ t. q.iter (let_at inner.place) (numbered value) t nowhere)
              (expression_is_bare naming e);
          closed = ((inner.place, operand.within, refl), tt);
        })
        little (ap (λ a. q.iter a (numbered value) (expression_tree naming e) nowhere) inner_means)

    pub apply_placed : IsPlaced queries
        (with_query inner.queries (q.apply (let_at inner.place) (expression_tree naming e) nowhere))
        (q.apply first (expression_tree naming e) nowhere) (nodes + 1)
    apply_placed =
        let last = expression_before (expression_tree naming e) none in
        one_placed queries inner
        (q.apply (let_at inner.place) (expression_tree naming e) nowhere)
        first (q.apply first (expression_tree naming e) nowhere) nodes operand
        (record {
          stands = λ rest. call_of_two 2 spot.Query (codes "apply") rest nowhere spot.Query
              spot.Expr (query_before (let_at inner.place) last) last refl refl
              (omega arith) (inner_stands last) (written none);
          bare = ap (λ t. q.apply (let_at inner.place) t nowhere) (expression_is_bare naming e);
          closed = ((inner.place, operand.within, refl), tt);
        })
        little (ap (λ a. q.apply a (expression_tree naming e) nowhere) inner_means)
