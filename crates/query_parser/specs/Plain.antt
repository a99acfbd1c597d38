-- Statement. Terms as plain ones, without where they lie in memory.
use Rattle.std.specs.Prelude.{List, [], ◌∷◌}
use Rattle.query_forms.specs.Terms as plain
use Rattle.query_parser.specs.declared.term.Term.{Term, Word, Number, Text, Call', Row_of-Term}
use Rattle.query_parser.specs.declared.term.Term.{end_of-Term, more_of-Term}

abbrev mutual
  -- a term before others
  pub term_before : Term → plain.Terms → plain.Terms
  term_before (Word bytes span) rest = plain.word bytes span rest
  term_before (Number value span) rest = plain.number value span rest
  term_before (Text bytes span) rest = plain.string bytes span rest
  term_before (Call' head shape arguments span) rest =
      plain.call head (row_terms arguments) span rest

  -- the arguments of a call
  pub row_terms : {m : _} → Row_of-Term m → plain.Terms
  row_terms end_of-Term = plain.none
  row_terms (more_of-Term term rest) = term_before term (row_terms rest)

-- the terms of a list
abbrev pub terms_of : List Term → plain.Terms
terms_of [] = plain.none
terms_of (term ∷ rest) = term_before term (terms_of rest)
