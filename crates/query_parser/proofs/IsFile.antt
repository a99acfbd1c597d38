-- What trees are read to is a file.
use Rattle.std.proofs.Common.{◌<◌, ℕ, List, length}
use Rattle.std.specs.Prelude.{All}
use Rattle.query_trees.specs.Trees.{Trees}
use Rattle.query_forms.specs.Terms.{Terms}
use Rattle.query_parser.specs.Printing.{IsFile}
use Rattle.query_parser.specs.TreeReading.{AreFileOf, AreReadable}
use Rattle.query_parser.proofs.Built.{built_trees}
use Rattle.query_parser.proofs.ReadTerms.{said-writable}
use Rattle.query_parser.proofs.PlacedFile.{unfit_file-end}

-- the terms that trees of a text of bytes say are a file
pub is_file : (text : List ℕ) (trees : Trees) (terms : Terms) → All (λ byte. byte < 256) text
    → AreReadable text trees → AreFileOf text trees terms → IsFile terms
is_file text trees terms small readable are = record {
  writable = said-writable text trees terms 1 small are.say
      (built_trees text trees readable.built) readable.not_deep;
  fit = unfit_file-end terms (length text) 0 are.fit;
  within = are.within;
}
