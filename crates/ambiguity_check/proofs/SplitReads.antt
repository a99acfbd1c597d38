-- What is read on a walk of two splits.
use Rattle.std.proofs.Common.{◌≡◌, ℕ, ◌+◌, ◌<◌, List, [], ◌∷◌, ◌++◌, length, refl, sym, subst, inl}
use Rattle.std.proofs.Common.{inr, ⊎_elim, append_assoc}
use Rattle.std.proofs.lemmas.List.{append-nil}
use Rattle.item_schema.specs.declared.column.Column.{Column}
use Rattle.rate_expr.specs.Paths.{Follows, Leads, Spells, AreOf}
use Rattle.rate_expr.specs.Rates.{Regex}
use Rattle.rate_expr.specs.Sets.{Sets}
use Rattle.rate_expr.specs.Words.{Word, IsWordOf}
use Rattle.rate_expr.proofs.PathSteps.{leads_one, leads_more}
use Rattle.rate_expr.proofs.PathsOn.{leads_some, spells_at}
use Rattle.rate_expr.proofs.Wording.{word_more, longer}
use Rattle.ambiguity_check.specs.declared.graph.Node.{Node}
use Rattle.ambiguity_check.specs.declared.graph.Phase.{Phase}
use Rattle.ambiguity_check.specs.declared.graph.Phase.TheVariants.{Together, Parted, Rejoined}
use Rattle.ambiguity_check.specs.Lengths.{TwoSplitsOf}
use Rattle.ambiguity_check.specs.Meetings.{MeetOne, AreMeetings}
use Rattle.ambiguity_check.specs.Splits.{left_of, right_of, BeginsSplits, TurnsTo, Continues}
use Rattle.ambiguity_check.specs.Splits.{EndsSplits, MeetIn, rows_in}
use Rattle.ambiguity_check.specs.Walks.{IsWalk, at_once, later}
use Rattle.ambiguity_check.proofs.Marking.{node_at}
use Rattle.ambiguity_check.proofs.Walking.{one_longer}

-- the meetings of each phase
pub meetings_in : (columns : List Column) (first second : Sets) (together parted rejoined : List ℕ)
    → AreMeetings columns first first together → AreMeetings columns second first parted
    → AreMeetings columns second second rejoined
    → (phase : Phase)
    → AreMeetings columns (left_of first second phase) (right_of first second phase)
    (rows_in together parted rejoined phase)
meetings_in columns first second together parted rejoined one two three Together = one
meetings_in columns first second together parted rejoined one two three Parted = two
meetings_in columns first second together parted rejoined one two three Rejoined = three

module _ (columns : List Column) (first second : Sets) (together parted rejoined : List ℕ)
    (are : (phase : Phase) → AreMeetings columns (left_of first second phase)
    (right_of first second phase)
    (rows_in together parted rejoined phase)) where
  -- a walk of this many items leads to the node
  abbrev pub Walk : ℕ → Node → Type 0
  Walk items node = IsWalk (BeginsSplits first second) (Continues first second)
      (MeetIn together parted rejoined) items node

  -- what was read in this many items: one word in the first part by both; a word and then a part of
  -- a second word by the left one, all of it in the first part by the right one; and parts of
  -- second words by both, the left one's longer
  abbrev pub AreRead : ℕ → Phase → ℕ → ℕ → Type 0
  AreRead items Together left right = (w : Word) × (length w ≡ items) × IsWordOf columns w
      × Leads first w left × Leads first w right
  AreRead items Parted left right =
      (u : Word) × (t : Word) × (length (u ++ t) ≡ items) × IsWordOf columns (u ++ t)
      × Spells first u × Leads second t left × Leads first (u ++ t) right
  AreRead items Rejoined left right =
      (u : Word) × (t : Word) × (z : Word) × (length (u ++ (t ++ z)) ≡ items)
      × IsWordOf columns (u ++ (t ++ z)) × (0 < length t)
      × Spells first u
      × Leads second (t ++ z) left × Spells first (u ++ t) × Leads second z right

  -- an item of the stream that meets both places
  abbrev MeetHere : Phase → ℕ → ℕ → Type 0
  MeetHere phase left right = MeetOne columns (left_of first second phase)
      (right_of first second phase) left right

  -- one more item is read in the same parts
  reads_on : (items : ℕ) (phase : Phase) (left right left' right' : ℕ)
      → AreRead items phase left right → Follows (left_of first second phase) left left'
      → Follows (right_of first second phase) right right'
      → MeetHere phase left' right' → AreRead (items + 1) phase left' right'
  reads_on items Together left right left' right' (w, long, is, leads, leads') follows
      follows' one = (
        w ++ one.0 ∷ [],
        one_longer w one.0 items long,
        word_more columns w one.0 is one.1,
        leads_more first w left one.0 left' leads follows one.2,
        leads_more first w right one.0 right' leads' follows' one.3,
      )
  reads_on items Parted left right left' right'
      (u, t, long, is, spells, leads, leads') follows follows' one = (
        u,
        t ++ one.0 ∷ [],
        rw append_assoc at (one_longer (u ++ t) one.0 items long),
        rw append_assoc at (word_more columns (u ++ t) one.0 is one.1),
        spells,
        leads_more second t left one.0 left' leads follows one.2,
        rw append_assoc at (leads_more first (u ++ t) right one.0 right' leads' follows' one.3),
      )
  reads_on items Rejoined left right left' right'
      (u, t, z, long, is, some, spells, leads, spells', leads') follows follows' one = (
        u,
        t,
        z ++ one.0 ∷ [],
        rw (append_assoc u (t ++ z) (one.0 ∷ []), append_assoc t z (one.0 ∷ []))
            at (one_longer (u ++ (t ++ z)) one.0 items long),
        rw (append_assoc u (t ++ z) (one.0 ∷ []), append_assoc t z (one.0 ∷ []))
            at (word_more columns (u ++ (t ++ z)) one.0 is one.1),
        some,
        spells,
        rw append_assoc at (leads_more second
            (t ++ z) left one.0 left' leads follows one.2),
        spells',
        leads_more second z right one.0 right' leads' follows' one.3,
      )

  -- one more item is read after the end of a first part
  reads_turned : (items : ℕ) (phase : Phase) (left right : ℕ) (node : Node)
      → AreRead items phase left right → TurnsTo first second phase left right node
      → MeetHere node.phase node.left node.right
      → AreRead (items + 1) node.phase node.left node.right
  reads_turned items Together left right node (w, long, is, leads, leads')
      (ends, phase, begins, follows) met =
      subst (λ p. AreRead (items + 1) p node.left node.right) (sym phase)
      (let one = rw phase at met in (
        w,
        one.0 ∷ [],
        one_longer w one.0 items long,
        word_more columns w one.0 is one.1,
        spells_at first w left leads ends,
        leads_one second one.0 node.left begins one.2,
        leads_more first w right one.0 node.right leads' follows one.3,
      ))
  reads_turned items Parted left right node (u, t, long, is, spells, leads, leads')
      (ends, phase, follows, begins) met =
      subst (λ p. AreRead (items + 1) p node.left node.right) (sym phase)
      (let one = rw phase at met in (
        u,
        t,
        one.0 ∷ [],
        rw append_assoc at (one_longer (u ++ t) one.0 items long),
        rw append_assoc at (word_more columns (u ++ t) one.0 is one.1),
        leads_some second t left leads,
        spells,
        leads_more second t left one.0 node.left leads follows one.2,
        spells_at first (u ++ t) right leads' ends,
        leads_one second one.0 node.right begins one.3,
      ))
  reads_turned items Rejoined left right node reads turns met = absurd turns

  -- the first item is read
  reads_first : (node : Node) → BeginsSplits first second node
      → MeetHere node.phase node.left node.right
      → AreRead 1 node.phase node.left node.right
  reads_first node (inl (phase, begins, begins')) met =
      subst (λ p. AreRead 1 p node.left node.right) (sym phase) (let one = rw phase at met in (
        one.0 ∷ [],
        refl,
        (one.1, tt),
        leads_one first one.0 node.left begins one.2,
        leads_one first one.0 node.right begins' one.3,
      ))
  reads_first node (inr (nullable, phase, begins, begins')) met =
      subst (λ p. AreRead 1 p node.left node.right) (sym phase) (let one = rw phase at met in (
        [],
        one.0 ∷ [],
        refl,
        (one.1, tt),
        nullable,
        leads_one second one.0 node.left begins one.2,
        leads_one first one.0 node.right begins' one.3,
      ))

  -- what a walk reads
  pub walk_reads : (items : ℕ) (node : Node) → Walk items node
      → AreRead items node.phase node.left node.right
  walk_reads _ _ (at_once node begins met) = reads_first node begins
      ((are node.phase node.left node.right).0 met)
  walk_reads _ _ (later items before node walk goes met) =
      let one = (are node.phase node.left node.right).0 met in
      ⊎_elim (λ stays. subst (λ p. AreRead (items + 1) p node.left node.right) (sym stays.0)
      (reads_on items before.phase before.left before.right node.left node.right
      (walk_reads items before walk) stays.1 stays.2 (rw (stays.0) at one)))
      (λ turns. reads_turned items before.phase before.left before.right node
      (walk_reads items before walk) turns one)
      goes

  -- both splits end at the node
  abbrev pub Ends : Node → Type 0
  Ends node = EndsSplits first second node

  module _ (r s : Regex) (of_r : AreOf first r) (of_s : AreOf second s) where
    -- what a walk to an end reads has two splits
    pub two_splits : (items : ℕ) (phase : Phase) (left right : ℕ) → AreRead items phase left right
        → Ends (node_at phase left right) → TwoSplitsOf columns r s items
    two_splits items Together left right reads (inl ends) = absurd (cc)
    two_splits items Together left right reads (inr ends) = absurd (cc)
    two_splits items Rejoined left right reads (inl ends) = absurd (cc)
    two_splits items Parted left right reads (inr ends) = absurd (cc)
    two_splits items Parted left right (u, t, long, is, spells, leads, leads')
        (inl (phase, nullable, ends, ends')) = (
          record {
            u = u;
            v = t;
            u' = u ++ t;
            v' = [];
            word = is;
            first = ((of_r u).1 spells, (of_s t).1 (spells_at second t left leads ends));
            second = (
              (of_r (u ++ t)).1 (spells_at first (u ++ t) right leads' ends'),
              (of_s []).1 nullable,
            );
            same = sym (append-nil (u ++ t));
            differ = longer u t (leads_some second t left leads);
          },
          long,
        )
    two_splits items Rejoined left right (u, t, z, long, is, some, spells, leads, spells', leads')
        (inr (phase, ends, ends')) = (
          record {
            u = u;
            v = t ++ z;
            u' = u ++ t;
            v' = z;
            word = is;
            first =
                ((of_r u).1 spells, (of_s (t ++ z)).1 (spells_at second (t ++ z) left leads ends));
            second =
                ((of_r (u ++ t)).1 spells', (of_s z).1 (spells_at second z right leads' ends'));
            same = sym (append_assoc u t z);
            differ = longer u t some;
          },
          long,
        )
