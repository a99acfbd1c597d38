-- Statement. What there is to report of a query that is accepted.
use Rattle.std.specs.Prelude.{◌≡◌, ℕ, List, ◌++◌}
use Rattle.query_model.specs.Checked.{CheckedQuery}
use Rattle.hints_run.specs.EarlySections.{IsEarlySection}
use Rattle.hints_run.specs.EndingSections.{IsEndingSection}
use Rattle.hints_run.specs.KeylessSections.{IsKeylessSection}

-- this is what is shown of a query with this text: a section for each kind of thing
pub record AreHints (text : List ℕ) (on : CheckedQuery) (shown : List ℕ) : Type 0 where
  pub ending : List ℕ
  pub keyless : List ℕ
  pub early : List ℕ
  pub is_ending : IsEndingSection on ending
  pub is_keyless : IsKeylessSection text on keyless
  pub is_early : IsEarlySection text on early
  pub shown_are : shown ≡ ending ++ keyless ++ early
