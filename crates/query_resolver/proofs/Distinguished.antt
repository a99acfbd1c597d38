-- The first composition that distinguishes too many values, by those in the operands of a query.
use Rattle.std.proofs.Common.{◌≡◌, Bool, true, false, cond, not, List, [], ◌∷◌, ◌++◌, Option, Some}
use Rattle.std.proofs.Common.{None, refl, sym, subst, ap, ap₂, ◌∙◌}
use Rattle.std.specs.Option.{option_or}
use Rattle.item_schema.specs.Layout.{Layout, derived_layout}
use Rattle.item_schema.specs.declared.column.Column.{Column}
use Rattle.language_base.specs.declared.span.Span.{Span}
use Rattle.query_model.specs.Queries.{compose, plain_of}
use Rattle.query_model.specs.QueryTypes.{derived_columns, type_of}
use Rattle.query_model.specs.Rules.{Standing, bound}
use Rattle.query_model.specs.declared.query.Query.{Query}
use Rattle.query_model.specs.declared.query.Shape.{Shape}
use Rattle.query_resolver.specs.Findings.{KeepsTypes, derives_many, first_after, first_in}
use Rattle.query_resolver.specs.Findings.{places_at}
use Rattle.query_resolver.specs.Findings.{places_in}
use Rattle.query_resolver.specs.Nodes.{Node, Places, first_where, nodes_in, root, with_two}
use Rattle.query_model.specs.Few.{has_few_cells}
use Rattle.query_resolver.specs.Sizes.{derives_many_cells}
use Rattle.query_resolver.proofs.OfOperands.{first_of_one, first_of_two, or_none}
use Rattle.query_resolver.specs.Findings.{nodes_at}

-- the root of a query in memory that has this shape
abbrev root_of : List Column → Standing → Shape → Span → Node
root_of columns standing shape span = root columns standing (plain_of shape) (places_at shape span)

-- the first in a query that has nodes like these
first_like : (columns : List Column) (standing : Standing) (query : Query) (shape : Shape)
    → query.shape ≡ shape → (nodes : List Node)
    → nodes_in columns standing (plain_of shape) (places_at shape query.span) ≡ nodes
    → first_in derives_many columns standing query ≡ first_where derives_many nodes
first_like columns standing query shape is nodes same =
    ap (λ (s : Shape).
    first_where derives_many (nodes_in columns standing (plain_of s) (places_at s query.span))) is
    ∙ ap (first_where derives_many) same

-- the query is no composition, and has this operand on its own stream
pub record IsAbove (query f : Query) : Type 0 where
  pub keeps : (columns : List Column) → KeepsTypes columns (plain_of query.shape)
      → KeepsTypes columns (plain_of f.shape)
  pub first : (columns : List Column) (standing : Standing) (found : Option Span)
      → first_in derives_many columns bound f ≡ found
      → first_in derives_many columns standing query ≡ found

pub above : (query : Query) (shape : Shape) (f : Query) → query.shape ≡ shape
    → ((columns : List Column) → KeepsTypes columns (plain_of shape)
    → KeepsTypes columns (plain_of f.shape))
    → ((columns : List Column) (standing : Standing) (span : Span)
    → nodes_in columns standing (plain_of shape) (places_at shape span)
    ≡ nodes_at columns bound f ++ root_of columns standing shape span ∷ [])
    → ((columns : List Column) → derives_many_cells columns (plain_of shape) ≡ false)
    → IsAbove query f
above query shape f is keeps nodes single = record {
  keeps = λ columns kept. keeps columns
      (subst (λ (s : Shape). KeepsTypes columns (plain_of s)) is kept);
  first = λ columns standing found one.
      let last = root_of columns standing shape query.span in
      first_like columns standing query shape is _ (nodes columns standing query.span)
      ∙ first_of_one derives_many last columns bound f found one
      ∙ ap (λ (b : Bool). option_or found (cond b (Some last.place) None)) (single columns)
      ∙ or_none found;
}

-- the query is no composition, and has these two
pub record IsBeside (query f g : Query) : Type 0 where
  pub keeps : (columns : List Column) → KeepsTypes columns (plain_of query.shape)
      → KeepsTypes columns (plain_of f.shape) × KeepsTypes columns (plain_of g.shape)
  pub first : (columns : List Column) (standing : Standing) (found later : Option Span)
      → first_in derives_many columns bound f ≡ found
      → first_in derives_many columns bound g ≡ later
      → first_in derives_many columns standing query ≡ option_or found later

pub beside : (query : Query) (shape : Shape) (f g : Query) → query.shape ≡ shape
    → ((columns : List Column) → KeepsTypes columns (plain_of shape)
    → KeepsTypes columns (plain_of f.shape) × KeepsTypes columns (plain_of g.shape))
    → ((columns : List Column) (standing : Standing) (span : Span)
    → nodes_in columns standing (plain_of shape) (places_at shape span)
    ≡ nodes_at columns bound f ++ nodes_at columns bound g
    ++ root_of columns standing shape span ∷ [])
    → ((columns : List Column) → derives_many_cells columns (plain_of shape) ≡ false)
    → IsBeside query f g
beside query shape f g is keeps nodes single = record {
  keeps = λ columns kept. keeps columns
      (subst (λ (s : Shape). KeepsTypes columns (plain_of s)) is kept);
  first = λ columns standing found later one other.
      let last = root_of columns standing shape query.span in
      first_like columns standing query shape is _ (nodes columns standing query.span)
      ∙ first_of_two derives_many last columns bound f columns bound g found later one other
      ∙ ap (λ (b : Bool). option_or (option_or found later) (cond b (Some last.place) None))
      (single columns) ∙ or_none (option_or found later);
}

-- the first of three places
or_either : {A : Type 0} (a b c : Option A)
    → option_or (option_or a b) c ≡ option_or a (option_or b c)
or_either (Some x) b c = refl
or_either None b c = refl

if_not : (few : Bool) (span : Span) → cond few None (Some span) ≡ cond (not few) (Some span) None
if_not true span = refl
if_not false span = refl

-- the first after an operand, by what is found of each
pub here_after : (values : List Column) (standing : Standing) (g : Query) (span : Span)
    (later here : Option Span) → first_in derives_many values standing g ≡ later
    → here ≡ cond (not (has_few_cells values (plain_of g.shape))) (Some span) None
    → option_or later here ≡ first_after values standing g span
here_after values standing g span later here one many =
    ap₂ option_or (sym one) (many ∙ sym (if_not (has_few_cells values (plain_of g.shape)) span))

-- the query is a composition
module _ (query : Query) (shape : Shape) (f g : Query) (is : query.shape ≡ shape)
    (plain : plain_of shape ≡ compose (plain_of f.shape) (plain_of g.shape))
    (places : places_at shape ≡ with_two (places_in f) (places_in g)) (columns : List Column) where
  abbrev values : List Column
  values = derived_columns (type_of columns (plain_of f.shape))

  pub compose_keeps : KeepsTypes columns (plain_of query.shape)
      → KeepsTypes columns (plain_of f.shape) × KeepsTypes values (plain_of g.shape)
  compose_keeps kept =
      let both = subst (KeepsTypes columns) plain
      (subst (λ (s : Shape). KeepsTypes columns (plain_of s)) is kept) in
      (both.0, both.1)

  pub compose_first : (standing : Standing) (found later here : Option Span)
      → first_in derives_many columns standing f ≡ found
      → first_in derives_many values standing g ≡ later
      → here ≡ cond (not (has_few_cells values (plain_of g.shape))) (Some query.span) None
      → first_in derives_many columns standing query ≡ option_or (option_or found later) here
  compose_first standing found later here one other many =
      first_like columns standing query shape is _
      (ap₂ (nodes_in columns standing) plain
      (ap (λ (placed : Span → Places). placed query.span) places))
      ∙ first_of_two derives_many
      (root columns standing (compose (plain_of f.shape) (plain_of g.shape))
      (with_two (places_in f) (places_in g) query.span)) columns standing f values standing g
      found later one other ∙ ap (option_or (option_or found later)) (sym many)

  pub compose_after : (standing : Standing) (found after : Option Span)
      → first_in derives_many columns standing f ≡ found
      → after ≡ first_after values standing g query.span
      → first_in derives_many columns standing query ≡ option_or found after
  compose_after standing found after one later =
      compose_first standing found _ _ one refl
      (if_not (has_few_cells values (plain_of g.shape)) query.span)
      ∙ or_either found _ _ ∙ ap (option_or found) (sym later)

-- what holds over the stream of values
pub on_stream : (layout : Layout) (columns : List Column) (f : Query)
    → layout ≡ derived_layout (type_of columns (plain_of f.shape)) → (P : List Column → Type 0)
    → P (derived_columns (type_of columns (plain_of f.shape))) → P layout.columns
on_stream layout columns f is P holds = subst (λ (l : Layout). P l.columns) (sym is) holds
