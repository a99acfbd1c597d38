-- What is read on a walk of two factorings.
use Rattle.std.proofs.Common.{◌≡◌, ℕ, ◌+◌, List, [], ◌∷◌, ◌++◌, ◌∙◌, refl, sym, ap, subst, inl, inr}
use Rattle.std.proofs.Common.{arith, length, length-append}
use Rattle.std.specs.List.{AllByRecursion}
use Rattle.item_schema.specs.declared.column.Column.{Column}
use Rattle.rate_expr.specs.Language.{In}
use Rattle.rate_expr.specs.Paths.{Follows, Leads, Spells, AreOf}
use Rattle.rate_expr.specs.Rates.{Regex}
use Rattle.rate_expr.specs.Sets.{Sets, Has}
use Rattle.rate_expr.specs.Words.{Word, IsWordOf, join}
use Rattle.rate_expr.proofs.PathSteps.{leads_one, leads_more}
use Rattle.rate_expr.proofs.PathsOn.{spells_at}
use Rattle.rate_expr.proofs.Wording.{word_more}
use Rattle.ambiguity_check.specs.declared.graph.Node.{Node}
use Rattle.ambiguity_check.specs.declared.graph.Phase.{Phase}
use Rattle.ambiguity_check.specs.declared.graph.Phase.TheVariants.{Together, Parted, Rejoined}
use Rattle.ambiguity_check.specs.Factorings.{BeginsFactors, FactorsOn, Factors, FollowsInIteration}
use Rattle.ambiguity_check.specs.Lengths.{TwoFactoringsOf}
use Rattle.ambiguity_check.specs.Meetings.{MeetOne, AreMeetings}
use Rattle.ambiguity_check.specs.Overlaps.{IsInRows}
use Rattle.ambiguity_check.specs.Walks.{IsWalk, at_once, later}
use Rattle.ambiguity_check.proofs.FactorRuns.{ReadsFactors, ReadsLonger, factors_on, longer_on}
use Rattle.ambiguity_check.proofs.FactorRuns.{begin_apart, join_more, all_more, all_as}
use Rattle.ambiguity_check.proofs.Walking.{one_longer}

module _ (columns : List Column) (sets : Sets) (rows : List ℕ)
    (are : AreMeetings columns sets sets rows) where
  -- a walk of this many items leads to the node
  abbrev pub Walk : ℕ → Node → Type 0
  Walk items node = IsWalk (BeginsFactors sets) (Factors sets) (IsInRows rows) items node

  -- the left one has read a first factor and more, and the right one the same word of this many
  -- items with a longer first factor
  pub record AreParted (items left right : ℕ) : Type 0 where
    pub read : Word
    pub long : length read ≡ items
    pub first : Word
    pub is : IsWordOf columns read
    pub spells : Spells sets first
    pub by_left : ReadsFactors sets first read left
    pub by_right : ReadsLonger sets first read right

  -- what was read: first one word in the first factors of both
  abbrev pub AreRead : ℕ → Phase → ℕ → ℕ → Type 0
  AreRead items Together left right =
      (w : Word) × (length w ≡ items) × IsWordOf columns w × Leads sets w left × Leads sets w right
  AreRead items Parted left right = AreParted items left right
  AreRead items Rejoined left right = AreParted items left right

  -- one more item is read by each in its own way
  parted_on : (items left right : ℕ) (node : Node) → AreParted items left right
      → FollowsInIteration sets left node.left → FollowsInIteration sets right node.right
      → MeetOne columns sets sets node.left node.right → AreParted (items + 1) node.left node.right
  parted_on items left right node reads goes goes' one = record {
    read = reads.read ++ one.0 ∷ [];
    long = one_longer reads.read one.0 items reads.long;
    first = reads.first;
    is = word_more columns reads.read one.0 reads.is one.1;
    spells = reads.spells;
    by_left = factors_on sets reads.first reads.read left one.0 node.left reads.by_left goes one.2;
    by_right =
        longer_on sets reads.first reads.read right one.0 node.right reads.by_right goes' one.3;
  }

  -- one more item is read after the left one's first factor
  now_parted : (items left right : ℕ) (node : Node) → AreRead items Together left right
      → Has sets.last left → Has sets.first node.left
      → Follows sets right node.right → MeetOne columns sets sets node.left node.right
      → AreParted (items + 1) node.left node.right
  now_parted items left right node (w, long, is, leads, leads') ends begins follows one = record {
    read = w ++ one.0 ∷ [];
    long = one_longer w one.0 items long;
    first = w;
    is = word_more columns w one.0 is one.1;
    spells = spells_at sets w left leads ends;
    by_left = record {
      words = [];
      last = one.0 ∷ [];
      spelled = tt;
      leads = leads_one sets one.0 node.left begins one.2;
      whole = refl;
    };
    by_right = record {
      words = [];
      last = w ++ one.0 ∷ [];
      spelled = tt;
      leads = leads_more sets w right one.0 node.right leads' follows one.3;
      whole = refl;
      longer = omega (arith, length-append w (one.0 ∷ []));
    };
  }

  -- one more item is read
  reads_on : (items : ℕ) (phase : Phase) (left right : ℕ) (node : Node)
      → AreRead items phase left right → FactorsOn sets phase left right node
      → MeetOne columns sets sets node.left node.right
      → AreRead (items + 1) node.phase node.left node.right
  reads_on items Together left right node (w, long, is, leads, leads')
      (inl (phase, follows, follows')) one =
      subst (λ p. AreRead (items + 1) p node.left node.right) (sym phase) (
        w ++ one.0 ∷ [],
        one_longer w one.0 items long,
        word_more columns w one.0 is one.1,
        leads_more sets w left one.0 node.left leads follows one.2,
        leads_more sets w right one.0 node.right leads' follows' one.3,
      )
  reads_on items Together left right node reads (inr (ends, phase, begins, follows)) one =
      subst (λ p. AreRead (items + 1) p node.left node.right) (sym phase)
      (now_parted items left right node reads ends begins follows one)
  reads_on items Parted left right node reads (phase, goes, goes') one =
      subst (λ p. AreRead (items + 1) p node.left node.right) (sym phase)
      (parted_on items left right node reads goes goes' one)
  reads_on items Rejoined left right node reads (phase, goes, goes') one =
      subst (λ p. AreRead (items + 1) p node.left node.right) (sym phase)
      (parted_on items left right node reads goes goes' one)

  -- what a walk reads
  pub walk_reads : (items : ℕ) (node : Node) → Walk items node
      → AreRead items node.phase node.left node.right
  walk_reads _ _ (at_once node begins met) =
      let one = (are node.left node.right).0 met in
      subst (λ p. AreRead 1 p node.left node.right) (sym begins.0) (
        one.0 ∷ [],
        refl,
        (one.1, tt),
        leads_one sets one.0 node.left begins.1 one.2,
        leads_one sets one.0 node.right begins.2 one.3,
      )
  walk_reads _ _ (later items before node walk goes met) =
      reads_on items before.phase before.left before.right node (walk_reads items before walk) goes
      ((are node.left node.right).0 met)

  module _ (r : Regex) (of_r : AreOf sets r) where
    -- spelled words are words of the rate
    all_in : (words : List Word) → AllByRecursion (Spells sets) words → AllByRecursion (In r) words
    all_in words all = all_as (Spells sets) (In r) (λ word. (of_r word).1) words all

    -- what was read to an end by each in its own way has two factorings
    pub two_factorings : (items left right : ℕ) → AreParted items left right → Has sets.last left
        → Has sets.last right → TwoFactoringsOf columns r items
    two_factorings items left right reads ends ends' =
        let one = reads.by_left in
        let other = reads.by_right in
        let whole : reads.first ++ join (one.words ++ one.last ∷ []) ≡ reads.read =
        ap (λ v. reads.first ++ v) (join_more one.words one.last) ∙ sym one.whole in
        let whole' : join (other.words ++ other.last ∷ [])
        ≡ reads.read = join_more other.words other.last ∙ sym other.whole in (
          record {
            us = reads.first ∷ (one.words ++ one.last ∷ []);
            vs = other.words ++ other.last ∷ [];
            word = rw whole reads.is;
            first = all_in (reads.first ∷ (one.words ++ one.last ∷ [])) (
              reads.spells,
              all_more (Spells sets) one.words one.last one.spelled
                  (spells_at sets one.last left one.leads ends),
            );
            second = all_in (other.words ++ other.last ∷ [])
                (all_more (Spells sets) other.words other.last other.spelled
                (spells_at sets other.last right other.leads ends'));
            same = whole ∙ sym whole';
            differ =
                begin_apart sets reads.first (one.words ++ one.last ∷ []) other.words other.last
                other.longer;
          },
          ap length whole ∙ reads.long,
        )
