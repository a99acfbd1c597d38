-- Statement. The first use of a let, in the order in which the main query reaches the uses, by
-- which its query stands inside of another: in the right operand of a composition, or there or in a
-- collection. Also whether the let is used elsewhere.
use Rattle.std.specs.Prelude.{ℕ, Bool, false, not, ◌||◌, ◌&&◌, is_some, List, [], ◌∷◌, Option, None}
use Rattle.std.specs.Prelude.{Some, if◌then◌else◌, unwrap_or}
use Rattle.std.specs.Str.{bytes_eq}
use Rattle.language_base.specs.declared.span.Span.{Span}
use Rattle.query_syntax.specs.Programs.{Let, Program}
use Rattle.query_syntax.specs.Queries as q
use Rattle.query_syntax.specs.Queries.{Query}
use Rattle.explanation.specs.Spots.{has_in}
use Rattle.explanation.specs.declared.uses.Inside.{Inside}
use Rattle.explanation.specs.declared.uses.Inside.TheVariants.{Compositions, Collections}
use Rattle.explanation.specs.declared.uses.Lead.{Lead}

-- a let by its name, and whether it leads to a place
pub record Known : Type 0 where
  pub name : List ℕ
  pub lead : Lead

-- what is known of a name: the latest let with this name counts
abbrev pub lead_named : List Known → List ℕ → Option Lead
lead_named [] name = None
lead_named (first ∷ known) name =
    if bytes_eq name first.name then Some first.lead else lead_named known name

-- a name of no let leads nowhere
abbrev pub no_lead : Lead
no_lead = record { leads = false; outside = false; used = None }

-- whether a name leads to the place
abbrev pub lead_of : List Known → List ℕ → Lead
lead_of known name = unwrap_or (lead_named known name) no_lead

-- the first place, if there is one, or else the second
abbrev pub earlier_of : Option Span → Option Span → Option Span
earlier_of (Some span) other = Some span
earlier_of None other = other

-- the first name in a query that leads to the place
abbrev pub first_lead : List Known → Query → Option Span
first_lead known (q.name name) = if (lead_of known name.bytes).leads then Some name.span else None
first_lead known (q.atom predicate value span) = None
first_lead known (q.eps number span) = None
first_lead known (q.or f g span) = earlier_of (first_lead known f) (first_lead known g)
first_lead known (q.split f g value span) = earlier_of (first_lead known f) (first_lead known g)
first_lead known (q.iter f first step span) = first_lead known f
first_lead known (q.combine f g value span) = earlier_of (first_lead known f) (first_lead known g)
first_lead known (q.apply f value span) = first_lead known f
first_lead known (q.compose f g span) = earlier_of (first_lead known f) (first_lead known g)
first_lead known (q.collect key sync rate f span) = first_lead known f

-- some name outside of the right operands of compositions leads to the place
abbrev pub leads_outside : List Known → Query → Bool
leads_outside known (q.name name) = (lead_of known name.bytes).outside
leads_outside known (q.atom predicate value span) = false
leads_outside known (q.eps number span) = false
leads_outside known (q.or f g span) = leads_outside known f || leads_outside known g
leads_outside known (q.split f g value span) = leads_outside known f || leads_outside known g
leads_outside known (q.iter f first step span) = leads_outside known f
leads_outside known (q.combine f g value span) = leads_outside known f || leads_outside known g
leads_outside known (q.apply f value span) = leads_outside known f
leads_outside known (q.compose f g span) = leads_outside known f
leads_outside known (q.collect key sync rate f span) = leads_outside known f

-- the first name that leads to the place and stands inside of these
abbrev pub first_inside : Inside → List Known → Query → Option Span
first_inside inside known (q.name name) = (lead_of known name.bytes).used
first_inside inside known (q.atom predicate value span) = None
first_inside inside known (q.eps number span) = None
first_inside inside known (q.or f g span) =
    earlier_of (first_inside inside known f) (first_inside inside known g)
first_inside inside known (q.split f g value span) =
    earlier_of (first_inside inside known f) (first_inside inside known g)
first_inside inside known (q.iter f first step span) = first_inside inside known f
first_inside inside known (q.combine f g value span) =
    earlier_of (first_inside inside known f) (first_inside inside known g)
first_inside inside known (q.apply f value span) = first_inside inside known f
first_inside inside known (q.compose f g span) =
    earlier_of (first_inside inside known f) (first_lead known g)
first_inside Compositions known (q.collect key sync rate f span) = first_inside Compositions known f
first_inside Collections known (q.collect key sync rate f span) = first_lead known f

-- a let leads to the places in its query, and to where the names in its query lead
abbrev pub lead_to : Inside → Span → List Known → Let → Lead
lead_to inside place known one = record {
  leads = has_in one.span place || is_some (first_lead known one.query);
  outside = has_in one.span place || leads_outside known one.query;
  used = first_inside inside known one.query;
}

-- what is known after these lets, the latest first, if this is known before them
abbrev pub known_after : Inside → Span → List Known → List Let → List Known
known_after inside place known [] = known
known_after inside place known (one ∷ lets) = known_after inside place
    ((record { name = one.name.bytes; lead = lead_to inside place known one }) ∷ known) lets

-- the first use of the let that contains the place
abbrev pub first_use : Inside → Span → Program → Option Span
first_use inside place program =
    first_inside inside (known_after inside place [] program.lets) program.main.query

-- the let that contains the place is used only in the right operands of compositions
abbrev pub is_on_values : Span → Program → Bool
is_on_values place program =
    let known = known_after Compositions place [] program.lets in
    is_some (first_inside Compositions known program.main.query)
    && not (leads_outside known program.main.query)
