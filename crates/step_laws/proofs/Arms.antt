-- The same calls of the same nodes.
use Rattle.std.proofs.Common.{◌≡◌, ◌∙◌, ℕ, Bool, List, Option, Result, Ok, Err, ap, sym, subst}
use Rattle.std.proofs.Common.{arith, of_z, to_z, to_z-of_z, w64}
use Rattle.std.specs.Prelude.{ℤ, FitsSigned, IfOk, IsErr, IsOk, OnErr}
use Rattle.std.proofs.lemmas.Bool.{false≢true}
use Rattle.value_ops.specs.declared.field.Field.{Field}
use Rattle.value_ops.specs.declared.scalar.Scalar.TheVariants.{Number}
use Rattle.value_ops.specs.declared.value.Value.{Value}
use Rattle.value_ops.specs.declared.value.Value.TheVariants as value
use Rattle.expressions.specs.Expressions.{Expression}
use Rattle.query_model.specs.declared.query.Query.{Query}
use Rattle.query_model.specs.Queries.{Qre, plain_of}
use Rattle.split_eval.specs.Entries.{Contents}
use Rattle.eval_nodes.specs.declared.node.Node.{Node}
use Rattle.eval_nodes.specs.declared.progress.Progress.{Progress}
use Rattle.eval_nodes.specs.Holdings.{Holding}
use Rattle.std.specs.declared.alloc.AllocError.{AllocError}
use Rattle.eval_nodes.specs.Live.{live_of}
use Rattle.eval_nodes.specs.Plain.{holding_of, seen_of}
use Rattle.step_laws.specs.declared.hit.Hit.{Hit}
use Rattle.step_laws.specs.Calls.{Found, found_in, HasStarted, HasStepped}
use Rattle.step_laws.specs.Lefts.{IsEnded}
use Rattle.step_laws.specs.Numbers.{StartsNumbers, StepsNumbers}
use Rattle.step_laws.specs.Steps.{CanStart, CanStep, StartsSoundly, StepsSoundly}

pub same_node : (x y : Node) → x ≡ y → holding_of y.state ≡ holding_of x.state
same_node x y same = ap (λ (node : Node). holding_of node.state) (sym same)

pub live_as : (query other : Query) (node beside : Node) (start : ℕ) (live : Bool)
    → query ≡ other → node ≡ beside
    → live ≡ live_of (plain_of query.shape) (holding_of node.state) start
    → live ≡ live_of (plain_of other.shape) (holding_of beside.state) start
live_as query other node beside start live same_one same_other is =
    is ∙ ap (λ (q : Query). live_of (plain_of q.shape) (holding_of node.state) start) same_one
    ∙ ap (λ (n : Node). live_of (plain_of other.shape) (holding_of n.state) start) same_other

pub both_ok : {T E : Type 0} → (result : Result T E) (P Q : T → Type 0)
    → IfOk result P → IfOk result Q → IfOk result (λ x. P x × Q x)
both_ok (Ok x) P Q one other = (one, other)
both_ok (Err e) P Q one other = tt

pub on_err : {T E : Type 0} → (result : Result T E) (P : Type 0) → P → OnErr result P
on_err (Ok x) P is = tt
on_err (Err e) P is = is

-- what a call promises of the same query, of nodes that are the same before it and after it, and of
-- the same result
pub started_from : (q q' : Qre) (h h' k : Holding Progress) (at : ℕ) (result : Found)
    → q' ≡ q → h' ≡ h → HasStarted seen_of q h at k result → HasStarted seen_of q' h' at k result
started_from q q' h h' k at result query before is =
    subst (λ (x : Qre). HasStarted seen_of x h' at k result) (sym query)
    (subst (λ (x : Holding Progress). HasStarted seen_of q x at k result) (sym before) is)

pub started_as : (q q' : Qre) (h h' k k' : Holding Progress) (at : ℕ) (result result' : Found)
    → q' ≡ q → h' ≡ h → k' ≡ k → result' ≡ result → HasStarted seen_of q h at k result
    → HasStarted seen_of q' h' at k' result'
started_as q q' h h' k k' at result result' query before after results is =
    started_from q q' h h' k' at result' query before
    (subst (λ (x : Holding Progress). HasStarted seen_of q h at x result') (sym after)
    (subst (λ (x : Found). HasStarted seen_of q h at k x) (sym results) is))

pub stepped_from :
    (q q' : Qre) (h h' k : Holding Progress) (now : ℕ) (item : List Field) (result : Found) → q' ≡ q
    → h' ≡ h → HasStepped seen_of q h now item k result → HasStepped seen_of q' h' now item k result
stepped_from q q' h h' k now item result query before is =
    subst (λ (x : Qre). HasStepped seen_of x h' now item k result) (sym query)
    (subst (λ (x : Holding Progress). HasStepped seen_of q x now item k result) (sym before) is)

pub stepped_as : (q q' : Qre) (h h' k k' : Holding Progress) (now : ℕ) (item : List Field)
    (result result' : Found) → q' ≡ q → h' ≡ h → k' ≡ k → result' ≡ result
    → HasStepped seen_of q h now item k result → HasStepped seen_of q' h' now item k' result'
stepped_as q q' h h' k k' now item result result' query before after results is =
    stepped_from q q' h h' k' now item result' query before
    (subst (λ (x : Holding Progress). HasStepped seen_of q h now item x result') (sym after)
    (subst (λ (x : Found). HasStepped seen_of q h now item k x) (sym results) is))

-- the last call ends this one, and where there is memory what it promises of the hit in its
-- place is known
pub when_started : {A : Type 0}
    → (q : Qre) (h k : Holding Progress) (at : ℕ) (result : Result A AllocError)
    (hit : Option Hit) (P : Type 0) → (P → HasStarted seen_of q h at k (Ok hit))
    → IfOk result (λ done. P) → (StartsNumbers seen_of q h at → IsOk result)
    → HasStarted seen_of q h at k (found_in result hit)
when_started q h k at (Ok done) hit P each is free = each is
when_started q h k at (Err e) hit P each is free =
    record { word = tt; sound = tt; no_memory = free }

pub when_stepped : {A : Type 0} → (q : Qre) (h k : Holding Progress) (now : ℕ) (item : List Field)
    (result : Result A AllocError) (hit : Option Hit) (P : Type 0)
    → (P → HasStepped seen_of q h now item k (Ok hit)) → IfOk result (λ done. P)
    → (StepsNumbers seen_of q h now item → IsOk result)
    → HasStepped seen_of q h now item k (found_in result hit)
when_stepped q h k now item (Ok done) hit P each is free = each is
when_stepped q h k now item (Err e) hit P each is free =
    record { word = tt; sound = tt; no_memory = free }

-- memory runs out, but not in a number query
pub start_fails : (q q' : Qre) (h h' k : Holding Progress) (at : ℕ) (result : Found) → IsErr result
    → q' ≡ q → h' ≡ h → (StartsNumbers seen_of q h at → ⊥) → HasStarted seen_of q' h' at k result
start_fails q q' h h' k at (Ok hit) failed query before never = absurd (false≢true failed)
start_fails q q' h h' k at (Err e) failed query before never =
    started_from q q' h h' k at (Err e) query before (record {
      word = tt;
      sound = tt;
      no_memory = λ free. absurd (never free);
    })

pub step_fails : (q q' : Qre) (h h' k : Holding Progress) (now : ℕ) (item : List Field)
    (result : Found) → IsErr result → q' ≡ q → h' ≡ h → (StepsNumbers seen_of q h now item → ⊥)
    → HasStepped seen_of q' h' now item k result
step_fails q q' h h' k now item (Ok hit) failed query before never = absurd (false≢true failed)
step_fails q q' h h' k now item (Err e) failed query before never =
    stepped_from q q' h h' k now item (Err e) query before (record {
      word = tt;
      sound = tt;
      no_memory = λ free. absurd (never free);
    })

-- a fact on a query, a node before a call and after it, and a hit
moved : (P : Qre → Holding Progress → Holding Progress → Option Hit → Type 0) (q q' : Qre)
    (h h' k k' : Holding Progress)
    (hit hit' : Option Hit) → q' ≡ q → h' ≡ h → k' ≡ k → hit' ≡ hit → P q h k hit → P q' h' k' hit'
moved P q q' h h' k k' hit hit' query before after hits is =
    subst (λ (x : Qre). P x h' k' hit') (sym query)
    (subst (λ (x : Holding Progress). P q x k' hit') (sym before)
    (subst (λ (x : Holding Progress). P q h x hit') (sym after)
    (subst (λ (x : Option Hit). P q h k x) (sym hits) is)))

pub soundly_started_as :
    (q q' : Qre) (h h' k k' : Holding Progress) (at : ℕ) (hit hit' : Option Hit) → q' ≡ q
    → h' ≡ h → k' ≡ k → hit' ≡ hit → StartsSoundly seen_of q h at k hit
    → StartsSoundly seen_of q' h' at k' hit'
soundly_started_as q q' h h' k k' at hit hit' =
    moved (λ p old new found. StartsSoundly seen_of p old at new found) q q' h h' k k' hit hit'

pub soundly_stepped_as : (q q' : Qre) (h h' k k' : Holding Progress) (now : ℕ) (item : List Field)
    (hit hit' : Option Hit) → q' ≡ q → h' ≡ h → k' ≡ k → hit' ≡ hit
    → StepsSoundly seen_of q h now item k hit → StepsSoundly seen_of q' h' now item k' hit'
soundly_stepped_as q q' h h' k k' now item hit hit' =
    moved (λ p old new found. StepsSoundly seen_of p old now item new found) q q' h h' k k' hit hit'

pub can_start_as : (q q' : Qre) (h h' : Holding Progress) (at : ℕ) → q' ≡ q → h' ≡ h
    → CanStart seen_of q h at → CanStart seen_of q' h' at
can_start_as q q' h h' at query before is =
    subst (λ (x : Qre). CanStart seen_of x h' at) (sym query)
    (subst (λ (x : Holding Progress). CanStart seen_of q x at) (sym before) is)

pub can_step_as : (q q' : Qre) (h h' : Holding Progress) (now : ℕ) (item : List Field)
    → q' ≡ q → h' ≡ h → CanStep seen_of q h now item → CanStep seen_of q' h' now item
can_step_as q q' h h' now item query before is =
    subst (λ (x : Qre). CanStep seen_of x h' now item) (sym query)
    (subst (λ (x : Holding Progress). CanStep seen_of q x now item) (sym before) is)

pub numbers_start_as : (q q' : Qre) (h h' : Holding Progress) (at : ℕ) → q' ≡ q → h' ≡ h
    → StartsNumbers seen_of q h at → StartsNumbers seen_of q' h' at
numbers_start_as q q' h h' at query before is =
    subst (λ (x : Qre). StartsNumbers seen_of x h' at) (sym query)
    (subst (λ (x : Holding Progress). StartsNumbers seen_of q x at) (sym before) is)

pub numbers_step_as : (q q' : Qre) (h h' : Holding Progress) (now : ℕ) (item : List Field)
    → q' ≡ q → h' ≡ h → StepsNumbers seen_of q h now item → StepsNumbers seen_of q' h' now item
numbers_step_as q q' h h' now item query before is =
    subst (λ (x : Qre). StepsNumbers seen_of x h' now item) (sym query)
    (subst (λ (x : Holding Progress). StepsNumbers seen_of q x now item) (sym before) is)

pub ended_as : (e : Expression) (held so_far : Contents Value) (right hit hit' : Option Hit)
    → held ≡ so_far → hit ≡ hit' → IsEnded e held.entries right hit
    → IsEnded e so_far.entries right hit'
ended_as e held so_far right hit hit' same hits is =
    subst (IsEnded e so_far.entries right) hits
    (subst (λ (x : Contents Value). IsEnded e x.entries right hit) same is)

-- a number that was passed on
pub number_hit : (hit : Hit) (at : ℕ) (number : ℤ) → FitsSigned w64 number
    → hit ≡ record { start = at; value = value.Scalar (Number (to_z w64 (of_z w64 number))) }
    → hit ≡ record { start = at; value = value.Scalar (Number number) }
number_hit hit at number fits is =
    let same : to_z w64 (of_z w64 number) ≡ number = grind (arith, to_z-of_z) in
    is ∙ ap (λ (n : ℤ). record { start = at; value = value.Scalar (Number n) }) same
