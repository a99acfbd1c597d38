-- For the prover. The top terms of a file, as they fit.
use Rattle.std.specs.Prelude.{◌≡◌, ℕ, List, [], ◌∷◌, ◌++◌, All, codes, None}
use Rattle.query_forms.specs.declared.term_place.TermPlace.{TermPlace}
use Rattle.query_forms.specs.declared.term_place.TermPlace.TheVariants.{Query, Name}
use Rattle.query_forms.specs.Terms.{none}
use Rattle.query_forms.specs.Tops.{unfit_call, unfit_stream}
use Rattle.query_parser.specs.declared.term.Term.{Term}
use Rattle.query_parser.specs.Plain.{term_before}

-- the term is a call of this word whose arguments have forms of these places
pub record FitsTop (word : List ℕ) (places : List TermPlace) (term : Term) : Type 0 where
  pub fit : unfit_call word places (term_before term none) ≡ None

-- the term is a `stream`
pub record FitsStream (term : Term) : Type 0 where
  pub fit : unfit_stream (term_before term none) ≡ None

-- the term is a `let`
abbrev pub FitsLet : Term → Type 0
FitsLet = FitsTop (codes "let") (Name ∷ Query ∷ [])

-- the term is a `main`
abbrev pub FitsMain : Term → Type 0
FitsMain = FitsTop (codes "main") (Query ∷ [])

-- the terms are lets and then `main`
pub record AreBody (terms : List Term) : Type 0 where
  pub lets : List Term
  pub main : Term
  pub split : terms ≡ lets ++ main ∷ []
  pub lets_fit : All FitsLet lets
  pub main_fits : FitsMain main

-- the terms are `stream`, lets and `main`
pub record AreTops (terms : List Term) : Type 0 where
  pub stream : Term
  pub body : List Term
  pub split : terms ≡ stream ∷ body
  pub stream_fits : FitsStream stream
  pub are_body : AreBody body
