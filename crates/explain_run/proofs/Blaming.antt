-- From a blame to the drawing of a word that shows it.
use Rattle.std.proofs.Common.{◌≡◌, ℕ, List, Result, Ok, Err, IfOk, subst}
use Rattle.std.specs.declared.alloc.AllocError.{AllocError}
use Rattle.item_schema.specs.declared.column.Column.{Column}
use Rattle.query_parser.specs.Reading.{IsFileOf}
use Rattle.query_syntax.specs.Files.{program_terms}
use Rattle.query_syntax.specs.Programs.{Program}
use Rattle.ambiguity_example.specs.Asks.{Asks, columns_of}
use Rattle.ambiguity_example.specs.Shows.{IsShortestShown, Question, Shown}
use Rattle.ambiguity_example.specs.declared.question.Ask.{Ask}
use Rattle.drawn_example.specs.Drawings.{drawing, readers_of}
use Rattle.type_checker.specs.Blames.{IsAskOf, IsBlameOf, ambiguity_of, refusal_of}
use Rattle.type_checker.specs.declared.blame.Blame.{Blame}
use Rattle.query_compiler.proofs.Shortest.{found_shortest}
use Rattle.explain_run.specs.Blamed.{DrawsBlame}
use Rattle.explain_run.specs.TwoReadings.{DrawsWhy}

-- the drawing of a word that is found
pub draws_blame : (blame : Blame) (ask : Ask) → IsAskOf (ambiguity_of blame) ask → (word : Shown)
    → ((question : Question) → Asks ask question → IsShortestShown (columns_of ask) question word)
    → (drawn : Result (List ℕ) AllocError)
    → IfOk drawn (λ text. (question : Question) → Asks ask question
    → text ≡ drawing (columns_of ask) (readers_of question) word)
    → IfOk drawn (DrawsBlame blame)
draws_blame blame ask of_it word finds (Ok text) drawn = (
  word,
  found_shortest blame ask of_it word finds,
  λ node broken at.
      let asks = at.automata ask of_it in
      subst (λ (c : List Column). text ≡ drawing c (readers_of at.question) word) asks.2
      (drawn at.question asks.0),
)
draws_blame blame ask of_it word finds (Err error) drawn = tt

-- where a text writes the blamed program
pub draws_why : (text drawn : List ℕ) (program : Program) (blame : Blame)
    → IsFileOf text (program_terms program) → IsBlameOf program blame → DrawsBlame blame drawn
    → DrawsWhy text (refusal_of blame) drawn
draws_why text drawn program blame file is (word, shortest, lines) = record {
  word = word;
  shows = record {
    node = is.node;
    broken = is.broken;
    at = record {
      program = program;
      written = file;
      query = is.query;
      measured = is.measured;
      first = is.first;
    };
    why_is = is.at.refusal;
    question = is.at.question;
    asked = is.at.asked;
    shortest = shortest is.node is.broken is.at;
  };
  lines = lines is.node is.broken is.at;
}
