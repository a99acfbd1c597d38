-- What a node takes from its operands: their places, and the first refusal of theirs.
use Rattle.std.proofs.Common.{◌≡◌, List, Result, Ok, Err, unwrap_or, refl, sym, ◌∙◌, ap, ap₂, subst}
use Rattle.item_schema.specs.declared.column.Column.{Column}
use Rattle.language_base.specs.declared.refusal.Refusal.{Refusal}
use Rattle.language_base.specs.declared.span.Span.{Span}
use Rattle.query_lets.specs.Places.{IsRoot, query_of, unfolded_at, unfolded_of}
use Rattle.query_lets.specs.declared.scope.Scope.{Scope}
use Rattle.query_model.specs.Queries.{Qre, plain_of}
use Rattle.query_model.specs.QueryTypes.{type_of}
use Rattle.query_model.specs.declared.query.Query.{Query}
use Rattle.query_syntax.specs.Expressions as e
use Rattle.query_syntax.specs.Queries as q
use Rattle.query_syntax.specs.declared.leaf.Name.{Name}
use Rattle.query_syntax.specs.declared.leaf.Number.{Number}
use Rattle.query_resolver.specs.Findings.{KeepsTypes, places_at, places_in}
use Rattle.query_resolver.specs.Joints.{joint_node}
use Rattle.query_resolver.specs.Nodes.{Places, alone, places_of, with_one, with_two}
use Rattle.query_resolver.specs.Resolutions.{IsMade, IsMadeOfOne, IsMadeOfTwo, IsRefused}
use Rattle.query_resolver.specs.Resolutions.{IsRefusedOfTwo, IsRefusedOverOne, IsRefusedOverTwo}
use Rattle.query_resolver.specs.Resolved.{Nesting, resolved}
use Rattle.query_resolver.specs.Steps.{◌>>=◌}
use Rattle.query_resolver.specs.declared.query_types.Typed.{Typed}
use Rattle.query_resolver.specs.declared.shapes.Joint.{Joint}
use Rattle.query_resolver.specs.declared.shapes.Joint.TheVariants.{Choice, Split, Combine}
use Rattle.query_resolver.specs.declared.stop.CheckStop.{CheckStop}
use Rattle.query_resolver.specs.declared.stop.CheckStop.TheVariants.{Refused, Memory}
use Rattle.std.specs.Result.{IfErr, IfOk}
use Rattle.std.proofs.lemmas.Result.{IfErr-weaker, IfOk-weaker}

-- the place of a node with no operand
pub no_place : (made : Query) (span : Span) → places_at made.shape ≡ alone → made.span ≡ span
    → places_in made ≡ alone span
no_place made span places at =
    ap (λ (placed : Span → Places). placed made.span) places ∙ ap alone at

-- the places of a node with one operand
pub one_place : (f : q.Query) (inner : Typed) (made : Query) (span : Span)
    → places_in inner.query.value ≡ places_of f
    → places_at made.shape ≡ with_one (places_in inner.query.value) → made.span ≡ span
    → places_in made ≡ with_one (places_of f) span
one_place f inner made span same places at =
    ap (λ (placed : Span → Places). placed made.span) places ∙ ap₂ with_one same at

-- and with two
pub two_places : (f g : q.Query) (left right : Typed) (made : Query) (span : Span)
    → places_in left.query.value ≡ places_of f → places_in right.query.value ≡ places_of g
    → places_at made.shape ≡ with_two (places_in left.query.value) (places_in right.query.value)
    → made.span ≡ span → places_in made ≡ with_two (places_of f) (places_of g) span
two_places f g left right made span first second places at =
    ap (λ (placed : Span → Places). placed made.span) places
    ∙ ap₂ (λ (one two : Places). with_two one two made.span) first second
    ∙ ap (with_two (places_of f) (places_of g)) at

-- why a step stops
abbrev why_of : {A : Type 0} → Refusal → Result A Refusal → Refusal
why_of other (Ok value) = other
why_of other (Err why) = why

-- two steps of which one stops, before a third
stops_in_two : {A B C : Type 0} (first : Result A Refusal) (second : Result B Refusal)
    (rest : A → B → Result C Refusal) (why : Refusal) → (first >>= (λ a. second)) ≡ Err why
    → (first >>= (λ a. second >>= rest a)) ≡ Err why
stops_in_two (Ok a) (Ok b) rest why is = absurd (cc)
stops_in_two (Ok a) (Err other) rest why is = ap Err (ap (why_of other) is)
stops_in_two (Err other) second rest why is = ap Err (ap (why_of other) is)

-- a name of no let stands for itself
pub name_itself : (scope : Scope) → IsRoot scope → (name : Name) → query_of scope ≡ q.name name
    → unfolded_of scope ≡ q.name name
name_itself scope root name is =
    ap (unfolded_at scope) is ∙ ap (λ o. unwrap_or o (q.name name)) (root name is)

module _ (nesting : Nesting) (columns : List Column) where
  -- a query that is resolved to a query in memory
  pub made_of : (tree : q.Query) (made : Typed) (query : Qre)
      → plain_of made.query.value.shape ≡ query → resolved nesting columns tree ≡ Ok query
      → made.ty ≡ type_of columns query → KeepsTypes columns query
      → places_in made.query.value ≡ places_of tree → IsMade nesting columns tree made
  made_of tree made query is named ty keeps places = record {
    resolved = named ∙ ap Ok (sym is);
    typed = record {
      type = ty ∙ ap (type_of columns) (sym is);
      keeps = subst (KeepsTypes columns) (sym is) keeps;
    };
    places = places;
  }

  -- what is made or refused at every place is so at this one
  module _ (tree : q.Query) (result : Result Typed CheckStop) where
    pub made_there : IfOk result (λ made. (there : Nesting) → IsMade there columns tree made)
        → IfOk result (IsMade nesting columns tree)
    made_there is =
        IfOk-weaker result (λ made. (there : Nesting) → IsMade there columns tree made)
        (IsMade nesting columns tree) (λ made everywhere. everywhere nesting) is

    pub refused_there : IfErr result (λ stop. (there : Nesting) → IsRefused there columns tree stop)
        → IfErr result (IsRefused nesting columns tree)
    refused_there is =
        IfErr-weaker result (λ stop. (there : Nesting) → IsRefused there columns tree stop)
        (IsRefused nesting columns tree) (λ stop everywhere. everywhere nesting) is

  -- a node is refused where its first operand is
  module _ (f : q.Query) where
    pub iter_first : (value : e.Expression) (first : Number) (span : Span) (stop : CheckStop)
        → IsRefused nesting columns f stop
        → IsRefused nesting columns (q.iter f first value span) stop
    unfolding resolved
    iter_first value first span (Refused why) left = rw left refl
    iter_first value first span Memory left = tt

    pub apply_first : (value : e.Expression) (span : Span) (stop : CheckStop)
        → IsRefused nesting columns f stop → IsRefused nesting columns (q.apply f value span) stop
    unfolding resolved
    apply_first value span (Refused why) left = rw left refl
    apply_first value span Memory left = tt

    -- where one of its two operands is
    module _ (g : q.Query) where
      pub joint_operands : (joint : Joint) (span : Span) (stop : CheckStop)
          → IsRefusedOfTwo nesting columns f g stop
          → IsRefused nesting columns (joint_node joint span f g) stop
      unfolding resolved
      joint_operands joint span Memory is = tt
      joint_operands Choice span (Refused why) is =
          stops_in_two (resolved nesting columns f) (resolved nesting columns g) _ why is
      joint_operands (Split value) span (Refused why) is =
          stops_in_two (resolved nesting columns f) (resolved nesting columns g) _ why is
      joint_operands (Combine value) span (Refused why) is =
          stops_in_two (resolved nesting columns f) (resolved nesting columns g) _ why is

      -- which is the first, or the second after it
      pub first_of_two : (stop : CheckStop) → IsRefused nesting columns f stop
          → IsRefusedOfTwo nesting columns f g stop
      first_of_two (Refused why) left = rw left refl
      first_of_two Memory left = tt

      pub second_of_two : (made : Typed) → IsMade nesting columns f made → (stop : CheckStop)
          → IsRefused nesting columns g stop → IsRefusedOfTwo nesting columns f g stop
      second_of_two made is (Refused why) right = rw (is.resolved, right) refl
      second_of_two made is Memory right = tt

  -- a node of one operand that is resolved, and of two
  module _ (f : q.Query) (inner : Typed) (is_inner : IsMade nesting columns f inner)
      (node : q.Query → q.Query) (result : Result Typed CheckStop) where
    pub one_made : IfOk result (IsMadeOfOne node inner)
        → IfOk result (IsMade nesting columns (node f))
    one_made is =
        IfOk-weaker result (IsMadeOfOne node inner) (IsMade nesting columns (node f))
        (λ made of_it. of_it nesting columns f is_inner) is

    pub one_refused : IfErr result (IsRefusedOverOne node inner)
        → IfErr result (IsRefused nesting columns (node f))
    one_refused is =
        IfErr-weaker result (IsRefusedOverOne node inner) (IsRefused nesting columns (node f))
        (λ stop over. over nesting columns f is_inner) is

  module _ (f g : q.Query) (left right : Typed) (is_left : IsMade nesting columns f left)
      (is_right : IsMade nesting columns g right) (node : q.Query → q.Query → q.Query)
      (result : Result Typed CheckStop) where
    pub two_made : IfOk result (IsMadeOfTwo node left right)
        → IfOk result (IsMade nesting columns (node f g))
    two_made is =
        IfOk-weaker result (IsMadeOfTwo node left right) (IsMade nesting columns (node f g))
        (λ made of_them. of_them nesting columns f g is_left is_right) is

    pub two_refused : IfErr result (IsRefusedOverTwo node left right)
        → IfErr result (IsRefused nesting columns (node f g))
    two_refused is =
        IfErr-weaker result (IsRefusedOverTwo node left right)
        (IsRefused nesting columns (node f g))
        (λ stop over. over nesting columns f g is_left is_right) is
