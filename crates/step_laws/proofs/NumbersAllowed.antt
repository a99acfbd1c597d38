-- The operands and runners of a number query are of number queries too, and so are the calls
-- that go to them.
use Rattle.std.proofs.Common.{◌≡◌, ℕ, ◌+◌, List, Option, Some, None}
use Rattle.std.specs.Prelude.{slice_get, ℤ}
use Rattle.value_ops.specs.declared.field.Field.{Field}
use Rattle.value_ops.specs.declared.value.Value.{Value}
use Rattle.expressions.specs.Expressions.{Expression}
use Rattle.query_model.specs.Queries.{Qre, choice, split, iter, combine, apply, compose}
use Rattle.split_eval.specs.Entries as entries
use Rattle.compose_eval.specs.Followers.{Contents, followers_of}
use Rattle.eval_nodes.specs.Cleared.{IsCleared}
use Rattle.eval_nodes.specs.Holdings.{Holding, choice_held, combine_held, apply_held, split_held}
use Rattle.eval_nodes.specs.Holdings.{iter_held, compose_held, Seen}
use Rattle.step_laws.specs.declared.hit.Hit.{Hit}
use Rattle.step_laws.specs.Feeds.{IsRenewed, item_of}
use Rattle.step_laws.specs.Numbers.{BeginsNumbers, CarriesNumbers, FeedsNumbers, PassesNumbers}
use Rattle.step_laws.specs.Numbers.{StartsNumbers, StepsNumbers}
use Rattle.step_laws.specs.Steps.{StartsSoundly, StepsSoundly}
use Rattle.step_laws.proofs.Allowed.{start_after, start_first, start_left, start_operand}
use Rattle.step_laws.proofs.Allowed.{start_right, start_second, step_first, step_left, step_operand}
use Rattle.step_laws.proofs.Allowed.{step_right, step_second}
use Rattle.step_laws.proofs.ComposeAllowed.{carry_begun, feeds_allowed, passes_allowed}
use Rattle.step_laws.proofs.ComposeAllowed.{start_cleared, start_fed, step_carried, step_fed}
use Rattle.step_laws.proofs.Feeding.{begin_last, renew_allowed, deliver_allowed}
use Rattle.step_laws.proofs.FoldsAllowed.{start_next, start_one, start_other, start_piece, step_one}
use Rattle.step_laws.proofs.FoldsAllowed.{step_other, step_piece}
use Rattle.step_laws.proofs.NumberQueries.{out_numbers}

module _ {R : Type 0} (seen : R → Seen R) where
  -- a choice
  pub first_starts : (f g : Qre) (a b : Holding R) (at : ℕ)
      → StartsNumbers seen (choice f g) (choice_held a b) at → StartsNumbers seen f a at
  unfolding start_first
  first_starts f g a b at free = (
    start_first seen f g a b at free.0,
    record { no_collect = free.1.no_collect.0; no_tables = free.1.no_tables },
  )

  pub second_starts : (f g : Qre) (a b : Holding R) (at : ℕ)
      → StartsNumbers seen (choice f g) (choice_held a b) at → StartsNumbers seen g b at
  unfolding start_second
  second_starts f g a b at free = (
    start_second seen f g a b at free.0,
    record { no_collect = free.1.no_collect.1; no_tables = free.1.no_tables },
  )

  pub first_steps : (f g : Qre) (a b : Holding R) (now : ℕ) (item : List Field)
      → StepsNumbers seen (choice f g) (choice_held a b) now item → StepsNumbers seen f a now item
  unfolding step_first
  first_steps f g a b now item free = (
    step_first seen f g a b now item free.0,
    record { no_collect = free.1.no_collect.0; no_tables = free.1.no_tables },
  )

  pub second_steps : (f g : Qre) (a b : Holding R) (now : ℕ) (item : List Field)
      → StepsNumbers seen (choice f g) (choice_held a b) now item → StepsNumbers seen g b now item
  unfolding step_second
  second_steps f g a b now item free = (
    step_second seen f g a b now item free.0,
    record { no_collect = free.1.no_collect.1; no_tables = free.1.no_tables },
  )

  -- an apply
  pub operand_starts : (f : Qre) (e : Expression) (a : Holding R) (at : ℕ)
      → StartsNumbers seen (apply f e) (apply_held a) at → StartsNumbers seen f a at
  unfolding start_operand
  operand_starts f e a at free = (
    start_operand seen f e a at free.0,
    record { no_collect = free.1.no_collect; no_tables = free.1.no_tables },
  )

  pub operand_steps : (f : Qre) (e : Expression) (a : Holding R) (now : ℕ) (item : List Field)
      → StepsNumbers seen (apply f e) (apply_held a) now item → StepsNumbers seen f a now item
  unfolding step_operand
  operand_steps f e a now item free = (
    step_operand seen f e a now item free.0,
    record { no_collect = free.1.no_collect; no_tables = free.1.no_tables },
  )

  -- a split
  pub left_starts : (f g : Qre) (e : Expression) (a b : Holding R)
      (held : entries.Contents Value) (at : ℕ)
      → StartsNumbers seen (split f g e) (split_held a b held) at → StartsNumbers seen f a at
  unfolding start_left
  left_starts f g e a b held at free = (
    start_left seen f g e a b held at free.0,
    record { no_collect = free.1.no_collect.0; no_tables = free.1.no_tables },
  )

  pub right_starts : (f g : Qre) (e : Expression) (a b : Holding R)
      (held : entries.Contents Value) (at : ℕ)
      → StartsNumbers seen (split f g e) (split_held a b held) at → StartsNumbers seen g b at
  unfolding start_right
  right_starts f g e a b held at free = (
    start_right seen f g e a b held at free.0,
    record { no_collect = free.1.no_collect.1; no_tables = free.1.no_tables },
  )

  pub left_steps : (f g : Qre) (e : Expression) (a b : Holding R)
      (held : entries.Contents Value) (now : ℕ) (item : List Field)
      → StepsNumbers seen (split f g e) (split_held a b held) now item
      → StepsNumbers seen f a now item
  unfolding step_left
  left_steps f g e a b held now item free = (
    step_left seen f g e a b held now item free.0,
    record { no_collect = free.1.no_collect.0; no_tables = free.1.no_tables },
  )

  pub right_steps : (f g : Qre) (e : Expression) (a b : Holding R)
      (held : entries.Contents Value) (now : ℕ) (item : List Field)
      → StepsNumbers seen (split f g e) (split_held a b held) now item
      → StepsNumbers seen g b now item
  unfolding step_right
  right_steps f g e a b held now item free = (
    step_right seen f g e a b held now item free.0,
    record { no_collect = free.1.no_collect.1; no_tables = free.1.no_tables },
  )

  pub right_begins : (f g : Qre) (e : Expression) (a b b' : Holding R)
      (held : entries.Contents Value) (now : ℕ) (item : List Field) (right : Option Hit)
      → StepsNumbers seen (split f g e) (split_held a b held) now item
      → StepsSoundly seen g b now item b' right → StartsNumbers seen g b' now
  unfolding start_after
  right_begins f g e a b b' held now item right free second = (
    start_after seen f g e a b b' held now item right free.0 second,
    record { no_collect = free.1.no_collect.1; no_tables = free.1.no_tables },
  )

  -- a combine
  pub one_starts : (f g : Qre) (e : Expression) (a b : Holding R) (at : ℕ)
      → StartsNumbers seen (combine f g e) (combine_held a b) at → StartsNumbers seen f a at
  unfolding start_one
  one_starts f g e a b at free = (
    start_one seen f g e a b at free.0,
    record { no_collect = free.1.no_collect.0; no_tables = free.1.no_tables },
  )

  pub other_starts : (f g : Qre) (e : Expression) (a b : Holding R) (at : ℕ)
      → StartsNumbers seen (combine f g e) (combine_held a b) at → StartsNumbers seen g b at
  unfolding start_other
  other_starts f g e a b at free = (
    start_other seen f g e a b at free.0,
    record { no_collect = free.1.no_collect.1; no_tables = free.1.no_tables },
  )

  pub one_steps : (f g : Qre) (e : Expression) (a b : Holding R) (now : ℕ) (item : List Field)
      → StepsNumbers seen (combine f g e) (combine_held a b) now item
      → StepsNumbers seen f a now item
  unfolding step_one
  one_steps f g e a b now item free = (
    step_one seen f g e a b now item free.0,
    record { no_collect = free.1.no_collect.0; no_tables = free.1.no_tables },
  )

  pub other_steps : (f g : Qre) (e : Expression) (a b : Holding R) (now : ℕ) (item : List Field)
      → StepsNumbers seen (combine f g e) (combine_held a b) now item
      → StepsNumbers seen g b now item
  unfolding step_other
  other_steps f g e a b now item free = (
    step_other seen f g e a b now item free.0,
    record { no_collect = free.1.no_collect.1; no_tables = free.1.no_tables },
  )

  -- an iter
  pub piece_starts : (f : Qre) (number : ℤ) (e : Expression) (a : Holding R)
      (so_far : entries.Contents Value)
      (at : ℕ) → StartsNumbers seen (iter f number e) (iter_held a so_far) at
      → StartsNumbers seen f a at
  unfolding start_piece
  piece_starts f number e a so_far at free = (
    start_piece seen f number e a so_far at free.0,
    record { no_collect = free.1.no_collect; no_tables = free.1.no_tables },
  )

  pub piece_steps : (f : Qre) (number : ℤ) (e : Expression) (a : Holding R)
      (so_far : entries.Contents Value) (now : ℕ) (item : List Field)
      → StepsNumbers seen (iter f number e) (iter_held a so_far) now item
      → StepsNumbers seen f a now item
  unfolding step_piece
  piece_steps f number e a so_far now item free = (
    step_piece seen f number e a so_far now item free.0,
    record { no_collect = free.1.no_collect; no_tables = free.1.no_tables },
  )

  pub piece_begins : (f : Qre) (number : ℤ) (e : Expression) (a a' : Holding R)
      (so_far : entries.Contents Value) (now : ℕ) (item : List Field) (piece : Option Hit)
      → StepsNumbers seen (iter f number e) (iter_held a so_far) now item
      → StepsSoundly seen f a now item a' piece → StartsNumbers seen f a' now
  unfolding start_next
  piece_begins f number e a a' so_far now item piece free first = (
    start_next seen f number e a a' so_far now item piece free.0 first,
    record { no_collect = free.1.no_collect; no_tables = free.1.no_tables },
  )

  -- a compose
  pub fed_starts : (f g : Qre) (a : Holding R) (held : Contents R) (at : ℕ)
      → StartsNumbers seen (compose f g) (compose_held a held) at → StartsNumbers seen f a at
  unfolding start_fed
  fed_starts f g a held at free = (
    start_fed seen f g a held at free.0,
    record { no_collect = free.1.no_collect.0; no_tables = free.1.no_tables },
  )

  pub fed_steps : (f g : Qre) (a : Holding R) (held : Contents R) (now : ℕ) (item : List Field)
      → StepsNumbers seen (compose f g) (compose_held a held) now item
      → StepsNumbers seen f a now item
  unfolding step_fed
  fed_steps f g a held now item free = (
    step_fed seen f g a held now item free.0,
    record { no_collect = free.1.no_collect.0; no_tables = free.1.no_tables },
  )

  pub passes_on : (f g : Qre) (a a' : Holding R) (held : Contents R) (now : ℕ) (item : List Field)
      (left : Option Hit) → StepsNumbers seen (compose f g) (compose_held a held) now item
      → StepsSoundly seen f a now item a' left → PassesNumbers seen g held left
  unfolding passes_allowed
  passes_on f g a a' held now item left free first = (
    passes_allowed seen f g a a' held now item left free.0 first,
    out_numbers free.0.columns f g free.1,
  )

  pub feeds_on : (f g : Qre) (a a' : Holding R) (held : Contents R) (at : ℕ) (left : Option Hit)
      → StartsNumbers seen (compose f g) (compose_held a held) at
      → StartsSoundly seen f a at a' left → FeedsNumbers seen g held left
  unfolding feeds_allowed
  feeds_on f g a a' held at left free first =
      (feeds_allowed seen f g a a' held at left free.0 first, out_numbers free.0.columns f g free.1)

  -- a runner
  pub last_begins : (g : Qre) (old : Contents R) (left : Option Hit) (i : ℕ) (runner : R)
      → FeedsNumbers seen g old left → slice_get old.idle i ≡ Some runner
      → BeginsNumbers seen g runner left
  unfolding begin_last
  last_begins g old left i runner free read =
      (begin_last seen g old left i runner free.0 read, free.1)

  pub runner_renews : (g : Qre) (runner : R) (left : Option Hit) → BeginsNumbers seen g runner left
      → BeginsNumbers seen g runner None
  unfolding renew_allowed
  runner_renews g runner left free = (renew_allowed seen g runner left free.0, free.1)

  pub cleared_starts : (g : Qre) (runner : R) (left : Option Hit) (cleared : Holding R)
      → BeginsNumbers seen g runner left → IsCleared seen g (seen runner).node cleared
      → StartsNumbers seen g cleared 0
  unfolding start_cleared
  cleared_starts g runner left cleared free is =
      (start_cleared seen g runner left cleared free.0 is, free.1)

  pub begun_carries : (g : Qre) (runner between : R) (found : Hit)
      → BeginsNumbers seen g runner (Some found) → IsRenewed seen g runner between
      → CarriesNumbers seen g between (item_of found.value)
  unfolding carry_begun
  begun_carries g runner between found free renewed =
      (carry_begun seen g runner between found free.0 renewed, free.1)

  pub place_decides : (g : Qre) (old : Contents R) (found : Hit) (place : ℕ) (runner : R)
      → PassesNumbers seen g old (Some found)
      → slice_get (followers_of old.live) place ≡ Some runner
      → CarriesNumbers seen g runner (item_of found.value)
  unfolding deliver_allowed
  place_decides g old found place runner free read =
      (deliver_allowed seen g old found place runner free.0 read, free.1)

  pub runner_steps : (q : Qre) (runner : R) (item : List Field) → CarriesNumbers seen q runner item
      → StepsNumbers seen q (seen runner).node ((seen runner).position + 1) item
  unfolding step_carried
  runner_steps q runner item free = (step_carried seen q runner item free.0, free.1)
