-- What each rule of reading leaves to the next.
use Rattle.std.proofs.Common.{◌≡◌, ℕ, ◌<◌, List, length, Some, None, get_or, Fits, w8, sym, arith}
use Rattle.std.specs.Prelude.{All}
use Rattle.std.proofs.lemmas.Grind.{get_or_default_zero}
use Rattle.language_base.specs.declared.refusal.Refusal.{Refusal}
use Rattle.language_base.specs.declared.span.Span.{Span}
use Rattle.language_base.specs.declared.rule.Rule.TheVariants as Rule
use Rattle.query_trees.specs.Trees.{Trees}
use Rattle.query_forms.specs.Terms.{IsTokenOf, Terms, Say}
use Rattle.query_forms.specs.File.{unfit_file, first_large}
use Rattle.query_parser.specs.declared.stop.ReadStop.{ReadStop}
use Rattle.query_parser.specs.declared.stop.ReadStop.TheVariants.{Refused, Memory}
use Rattle.query_parser.specs.Reading.{HasTrees, HasTerms, IsFileOf, IsRefused}
use Rattle.query_parser.specs.Reading as whole
use Rattle.query_parser.specs.Sayable.{AreSayable}
use Rattle.query_parser.specs.Stop.{IsStopAfter, IsStopAt, IsStopBefore}
use Rattle.query_parser.specs.TreeReading.{AreBuilt, AreFileOf, AreReadable, AreRefused, AreShallow}
use Rattle.query_parser.specs.TreeReading.{form, literal}
use Rattle.query_parser.proofs.Built.{built_readable, said_built}
use Rattle.query_parser.proofs.Readable.{Readable, terms_read}
use Rattle.query_parser.proofs.ReadTrees.{terms-trees}
use Rattle.query_parser.proofs.TextTokens.{tokens_of_text}
use Rattle.query_parser.proofs.Within.{sayable_within}

module _ (text : List ℕ) (trees : Trees) where
  -- the trees of a text are of the text, and say some terms
  pub readable : HasTrees text trees → Readable text trees
  readable has =
      terms_read text trees has.tokens has.are (tokens_of_text text has.tokens has.has.are)

  -- so they are built of it
  built : HasTrees text trees → AreBuilt text trees
  built has =
      let says = (readable has).1 in
      said_built text trees says.0 (terms-trees (IsTokenOf text) trees has.tokens has.are
      (tokens_of_text text has.tokens has.has.are)) says.1

  -- shallow trees of a text can be read
  pub shallow_readable : AreShallow text trees → AreReadable text trees
  shallow_readable shallow = record {
    short = shallow.has.has.short;
    built = built shallow.has;
    not_deep = shallow.not_deep;
  }

  -- an unfit term is refused
  pub form_refused : AreReadable text trees → (span : Span) →
      ((terms : Terms) → Say text trees terms → Some span ≡ unfit_file (length text) terms) →
      AreRefused text trees (record { rule = Rule.Form; span = span })
  form_refused are span unfit =
      let says = (built_readable text trees are.built).1 in
      form says.0 span says.1 (sym (unfit says.0 says.1))

  -- and so is a number out of range, where no term is unfit
  pub literal_refused : AreReadable text trees → (span : Span) →
      ((terms : Terms) → Say text trees terms → None ≡ unfit_file (length text) terms) →
      ((terms : Terms) → Say text trees terms → Some span ≡ first_large terms) →
      AreRefused text trees (record { rule = Rule.Literal; span = span })
  literal_refused are span fit large =
      let says = (built_readable text trees are.built).1 in
      literal says.0 span says.1 (sym (fit says.0 says.1)) (sym (large says.0 says.1))

  -- trees without such a number can be said
  pub readable_sayable : AreReadable text trees →
      ((terms : Terms) → Say text trees terms → None ≡ first_large terms) → AreSayable text trees
  readable_sayable are within =
      let says = (built_readable text trees are.built).1 in
      sayable_within text trees says.0 says.1 (sym (within says.0 says.1))

  -- what shallow trees say are terms of the text
  terms_are : AreShallow text trees → (terms : Terms) → Say text trees terms → HasTerms text terms
  terms_are shallow terms say =
      record { trees = trees; has = shallow.has; not_deep = shallow.not_deep; say = say }

  -- the file that they are is the text's
  pub whole_file : AreShallow text trees → (terms : Terms) → AreFileOf text trees terms
      → IsFileOf text terms
  whole_file shallow terms are = record {
    has = record { has = terms_are shallow terms are.say; fit = are.fit };
    within = are.within;
  }

  -- and so is their refusal
  whole_refusal : AreShallow text trees → (refusal : Refusal) → AreRefused text trees refusal
      → IsRefused text refusal
  whole_refusal shallow _ (form terms span say unfit) =
      whole.form terms span (terms_are shallow terms say) unfit
  whole_refusal shallow _ (literal terms span say fit large) = whole.literal terms span
      (record { has = terms_are shallow terms say; fit = fit }) large

  -- so where trees stop, the text does
  pub stops_after : AreShallow text trees → (stop : ReadStop) → IsStopAfter text trees stop
      → IsStopAt text stop
  stops_after shallow (Refused refusal) is = whole_refusal shallow refusal is
  stops_after shallow Memory is = tt

-- a text without trees is refused
pub stops_before : (text : List ℕ) (stop : ReadStop) → IsStopBefore text stop
    → IsStopAt text stop
stops_before text (Refused refusal) is = is.is
stops_before text Memory is = tt

-- the bytes of a slice are bytes
pub bytes_small : (text : List ℕ) → ((i : ℕ) → Fits w8 (get_or text i 0))
    → All (λ byte. byte < 256) text
bytes_small text small i d lt = let fits = small i in
    rw (get_or_default_zero text i d lt) (omega arith)
