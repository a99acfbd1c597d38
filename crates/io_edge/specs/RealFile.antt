-- Statement. A source over the file of a path, or over standard input. Its bytes are not known
-- before it is opened; after that, they are known if the system's reader knows them.
use Rattle.std.specs.Prelude.{◌≡◌, ◌<◌, ℕ, Bool, false, List, Option, Some, None, Result, Ok}
use Rattle.std.specs.Prelude.{is_some}
use Rattle.io_edge.specs.Counts.{CountsFault, CountsEnd}
use Rattle.io_edge.specs.Readers.{left_of}
use Rattle.io_edge.specs.declared.input.Opened.{Opened}
use Rattle.io_edge.specs.declared.input.Opened.TheVariants.{Input, File}

-- the bytes that are left in what was opened, if they are known
abbrev pub left_in : {I F : Type 0} → (I → Option (List ℕ)) → (F → Option (List ℕ)) → Opened I F
    → Option (List ℕ)
left_in in_input in_file (Input source) = left_of in_input source.input
left_in in_input in_file (File source) = left_of in_file source.input

abbrev pub faults_of : {I F : Type 0} → Opened I F → ℕ
faults_of (Input source) = source.faults
faults_of (File source) = source.faults

abbrev pub ends_of : {I F : Type 0} → Opened I F → ℕ
ends_of (Input source) = source.ends
ends_of (File source) = source.ends

abbrev pub is_open : {I F : Type 0} → Opened I F → Bool
is_open (Input source) = is_some source.input
is_open (File source) = is_some source.input

-- it was just opened, after `faults` faults
abbrev pub IsNew : {I F : Type 0} → ℕ → Opened I F → Type 0
IsNew faults opened = (faults_of opened ≡ faults) × (ends_of opened ≡ 0)

-- what contracts say of the source: the path that it opens, the bytes that are left, its counts,
-- and whether it is open
pub record FileSource : Type 0 where
  pub path : List ℕ
  pub left : Option (List ℕ)
  pub faults : ℕ
  pub ends : ℕ
  pub is_open : Bool

-- the same, from what was opened and how often opening failed
abbrev pub source_of : {I F : Type 0} → (I → Option (List ℕ)) → (F → Option (List ℕ)) → List ℕ → ℕ
    → Option (Opened I F) → FileSource
source_of in_input in_file path faults None =
    record { path = path; left = None; faults = faults; ends = 0; is_open = false }
source_of in_input in_file path faults (Some opened) = record {
  path = path;
  left = left_in in_input in_file opened;
  faults = faults_of opened;
  ends = ends_of opened;
  is_open = is_open opened;
}

-- one read into a buffer that has room; once its end was met, a file gives no more bytes, even if
-- some are written to it
pub record ReadsFile {E : Type 0} (old new : FileSource) (result : Result ℕ E) : Type 0 where
  pub faults : CountsFault old.faults new.faults result
  pub ends : CountsEnd old.ends new.ends result
  pub path : new.path ≡ old.path
  pub again : 0 < old.ends → result ≡ Ok 0
  pub closed : 0 < new.ends → new.is_open ≡ false
