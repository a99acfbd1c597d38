use Rattle.std.proofs.Common.{◌≡◌, ◌≤◌, ℕ, List, fold, take}
use Rattle.explanation.specs.Calls.{scanned, start}
use Rattle.explanation.specs.declared.calls.Scan.{Scan}
use Rattle.explanation.proofs.calls.scan_of.Given as goal

-- what is known of this many bytes of the text
pub record Scanned (level : ℕ) (text : List ℕ) (count : ℕ) (scan : Scan) : Type 0 where
  pub is : scan ≡ fold (scanned level) start (take count text)
  pub at : scan.at ≡ count
  pub within : scan.level ≤ scan.at
  pub commas : scan.call.argument ≤ scan.at

abbrev pub invariant-bytes : goal.invariant-bytes
invariant-bytes l = Scanned l.level l.text l.byte-index l.scan
