-- A walk of splits to an end, read as a word with two splits.
use Rattle.std.proofs.Common.{◌≡◌, ℕ, ◌+◌, ◌<◌, ◌↔◌, inl, inr, ⊎_elim, List, [], ◌∷◌, ◌++◌, length}
use Rattle.std.proofs.Common.{take, drop, refl, sym, ap, ◌∙◌, subst, arith, append_assoc}
use Rattle.std.proofs.Common.{length-append}
use Rattle.std.proofs.lemmas.List.{append-nil}
use Rattle.std.proofs.Math.Seq.{take-append_seam, drop-append_seam}
use Rattle.value_ops.specs.declared.field.Field.{Field}
use Rattle.item_schema.specs.declared.column.Column.{Column}
use Rattle.rate_expr.specs.Language.{In}
use Rattle.rate_expr.specs.Paths.{LeadsOn, Spells, AreOf}
use Rattle.rate_expr.specs.Rates.{Regex}
use Rattle.rate_expr.specs.Readings.{HaveOneSplit}
use Rattle.rate_expr.specs.Sets.{Sets, Has}
use Rattle.rate_expr.specs.Words.{Word, IsWordOf}
use Rattle.ambiguity_check.proofs.Marking.{node_at, same_parts}
use Rattle.ambiguity_check.proofs.SplitWalks.{splits_walks, same_split}
use Rattle.ambiguity_check.specs.declared.graph.Node.{Node}
use Rattle.ambiguity_check.specs.declared.graph.Phase.{Phase}
use Rattle.ambiguity_check.specs.declared.graph.Phase.TheVariants.{Together, Parted, Rejoined}
use Rattle.ambiguity_check.specs.Lengths.{EndsAfter}
use Rattle.ambiguity_check.specs.Splits.{left_of, right_of, BeginsSplits, Continues, EndsSplits}
use Rattle.ambiguity_check.specs.Splits.{MeetIn, AreRows}
use Rattle.ambiguity_example.proofs.Halves.{InBoth, splits_shown}
use Rattle.ambiguity_example.proofs.MetItems.{all_meet_long, all_meet_word}
use Rattle.ambiguity_example.specs.Counts.{is_same, count_in}
use Rattle.ambiguity_example.specs.Met.{MeetsBoth, AllMeet}
use Rattle.ambiguity_example.specs.Shows.{Shown, ShowsSplits, IsShortestShown, split}
use Rattle.ambiguity_example.specs.WalkLists.{GoesAlong, IsWalkOf, IsShortestWalk}

module _ (columns : List Column) (first second : Sets) (together parted rejoined : List ℕ)
    (ends : Node → Type 0) (exact : (node : Node) → ends node ↔ EndsSplits first second node) where
  -- the walk leads from a node along others
  abbrev Along : Node → List Node → Type 0
  Along node nodes =
      GoesAlong (Continues first second) (MeetIn together parted rejoined) ends node nodes

  -- the items meet the places of the nodes
  abbrev Meet : List Node → Word → Type 0
  Meet nodes word = AllMeet columns (left_of first second) (right_of first second) nodes word

  -- a node is the one with its parts
  known_phase : (node : Node) (phase : Phase) (nodes : List Node) → node.phase ≡ phase
      → Along node nodes → Along (node_at phase node.left node.right) nodes
  known_phase node phase nodes is along =
      subst (λ n. Along n nodes) (same_parts node phase node.left node.right is refl refl) along

  -- an item meets both places in the phase that a node has
  known_meets : (node : Node) (phase : Phase) (item : List Field) → node.phase ≡ phase
      → MeetsBoth columns (left_of first second node.phase) (right_of first second node.phase)
      node.left node.right item
      → MeetsBoth columns (left_of first second phase) (right_of first second phase)
      node.left node.right item
  known_meets node phase item is meets =
      subst (λ p. MeetsBoth columns (left_of first second p) (right_of first second p)
      node.left node.right item) is meets

  -- one node more of a phase, and of another
  counts : (phase of : Phase) (node : Node) (nodes : List Node) → node.phase ≡ of
      → count_in phase (node ∷ nodes) ≡ is_same phase of + count_in phase nodes
  counts phase of node nodes is = ap (λ p. is_same phase p + count_in phase nodes) is

  -- both stay in their second parts
  record Rejoins (left right : ℕ) (nodes : List Node) (word : Word) : Type 0 where
    no_together : count_in Together nodes ≡ 0
    no_parted : count_in Parted nodes ≡ 0
    end : ℕ
    on : LeadsOn second left word end
    last : Has second.last end
    end' : ℕ
    on' : LeadsOn second right word end'
    last' : Has second.last end'

  rejoins : (left right : ℕ) (nodes : List Node) (word : Word)
      → Along (node_at Rejoined left right) nodes → Meet nodes word → Rejoins left right nodes word
  rejoins left right [] [] ended meet = elim ((exact (node_at Rejoined left right)).0 ended) [
    | inl never ↦ absurd (let apart : Rejoined ≡ Parted = never.0 in cc)
    | inr end ↦ record {
      no_together = refl;
      no_parted = refl;
      end = left;
      on = refl;
      last = end.1;
      end' = right;
      on' = refl;
      last' = end.2;
    }
  ]
  rejoins left right [] (item ∷ word) along meet = absurd meet
  rejoins left right (next ∷ nodes) [] along meet = absurd meet
  rejoins left right (next ∷ nodes) (item ∷ word) (inr never, met, along) (one, meet) = absurd never
  rejoins left right (next ∷ nodes) (item ∷ word)
      (inl (is, follows, follows'), met, along) (one, meet) =
      let rest = rejoins next.left next.right nodes word (known_phase next Rejoined nodes is along)
      meet in
      let meets = known_meets next Rejoined item is one in record {
        no_together =
            counts Together Rejoined next nodes is ∙ (let none = rest.no_together in omega arith);
        no_parted =
            counts Parted Rejoined next nodes is ∙ (let none = rest.no_parted in omega arith);
        end = rest.end;
        on = (next.left, follows, meets.1, rest.on);
        last = rest.last;
        end' = rest.end';
        on' = (next.right, follows', meets.2, rest.on');
        last' = rest.last';
      }

  -- the left one stays in its second part, the right one in its first and then in its second
  record Parts (left right : ℕ) (nodes : List Node) (word : Word) : Type 0 where
    t : Word
    v : Word
    whole : word ≡ t ++ v
    long : length t ≡ count_in Parted nodes
    no_together : count_in Together nodes ≡ 0
    end : ℕ
    on : LeadsOn second left word end
    last : Has second.last end
    end' : ℕ
    on' : LeadsOn first right t end'
    last' : Has first.last end'
    spells : Spells second v

  parts : (left right : ℕ) (nodes : List Node) (word : Word)
      → Along (node_at Parted left right) nodes → Meet nodes word → Parts left right nodes word
  parts left right [] [] ended meet = elim ((exact (node_at Parted left right)).0 ended) [
    | inl end ↦ record {
      t = [];
      v = [];
      whole = refl;
      long = refl;
      no_together = refl;
      end = left;
      on = refl;
      last = end.2;
      end' = right;
      on' = refl;
      last' = end.3;
      spells = end.1;
    }
    | inr never ↦ absurd (let apart : Parted ≡ Rejoined = never.0 in cc)
  ]
  parts left right [] (item ∷ word) along meet = absurd meet
  parts left right (next ∷ nodes) [] along meet = absurd meet
  parts left right (next ∷ nodes) (item ∷ word)
      (inl (is, follows, follows'), met, along) (one, meet) =
      let rest = parts next.left next.right nodes word
      (known_phase next Parted nodes is along) meet in
      let meets = known_meets next Parted item is one in record {
        t = item ∷ rest.t;
        v = rest.v;
        whole = ap (λ w. item ∷ w) rest.whole;
        long = (let long = rest.long in omega (arith, counts Parted Parted next nodes is));
        no_together =
            counts Together Parted next nodes is ∙ (let none = rest.no_together in omega arith);
        end = rest.end;
        on = (next.left, follows, meets.1, rest.on);
        last = rest.last;
        end' = rest.end';
        on' = (next.right, follows', meets.2, rest.on');
        last' = rest.last';
        spells = rest.spells;
      }
  parts left right (next ∷ nodes) (item ∷ word)
      (inr (ends', is, follows, begins), met, along) (one, meet) =
      let rest = rejoins next.left next.right nodes word (known_phase next Rejoined nodes is along)
      meet in
      let meets = known_meets next Rejoined item is one in record {
        t = [];
        v = item ∷ word;
        whole = refl;
        long = (let none = rest.no_parted in omega (arith, counts Parted Rejoined next nodes is));
        no_together =
            counts Together Rejoined next nodes is ∙ (let none = rest.no_together in omega arith);
        end = rest.end;
        on = (next.left, follows, meets.1, rest.on);
        last = rest.last;
        end' = right;
        on' = refl;
        last' = ends';
        spells = (rest.end', (next.right, begins, meets.2, rest.on'), rest.last');
      }

  -- both stay in their first parts, and then the left one is in its second
  record Joins (left right : ℕ) (nodes : List Node) (word : Word) : Type 0 where
    x : Word
    t : Word
    v : Word
    whole : word ≡ x ++ (t ++ v)
    some : 0 < length t
    long : length x ≡ count_in Together nodes
    longer : length t ≡ count_in Parted nodes
    end : ℕ
    on : LeadsOn first left x end
    last : Has first.last end
    spells : Spells second (t ++ v)
    end' : ℕ
    on' : LeadsOn first right (x ++ t) end'
    last' : Has first.last end'
    spells' : Spells second v

  together_on : (left right : ℕ) (nodes : List Node) (word : Word)
      → Along (node_at Together left right) nodes → Meet nodes word → Joins left right nodes word
  together_on left right [] [] ended meet = elim ((exact (node_at Together left right)).0 ended) [
    | inl never ↦ absurd (let apart : Together ≡ Parted = never.0 in cc)
    | inr never ↦ absurd (let apart : Together ≡ Rejoined = never.0 in cc)
  ]
  together_on left right [] (item ∷ word) along meet = absurd meet
  together_on left right (next ∷ nodes) [] along meet = absurd meet
  together_on left right (next ∷ nodes) (item ∷ word) (inl (is, follows, follows'), met, along)
      (one, meet) =
      let rest = together_on next.left next.right nodes word
      (known_phase next Together nodes is along) meet in
      let meets = known_meets next Together item is one in record {
        x = item ∷ rest.x;
        t = rest.t;
        v = rest.v;
        whole = ap (λ w. item ∷ w) rest.whole;
        some = rest.some;
        long = (let long = rest.long in omega (arith, counts Together Together next nodes is));
        longer = (let longer = rest.longer in omega (arith, counts Parted Together next nodes is));
        end = rest.end;
        on = (next.left, follows, meets.1, rest.on);
        last = rest.last;
        spells = rest.spells;
        end' = rest.end';
        on' = (next.right, follows', meets.2, rest.on');
        last' = rest.last';
        spells' = rest.spells';
      }
  together_on left right (next ∷ nodes) (item ∷ word) (inr (ends', is, begins, follows), met, along)
      (one, meet) =
      let rest = parts next.left next.right nodes word
      (known_phase next Parted nodes is along) meet in
      let meets = known_meets next Parted item is one in record {
        x = [];
        t = item ∷ rest.t;
        v = rest.v;
        whole = ap (λ w. item ∷ w) rest.whole;
        some = omega arith;
        long = (let none = rest.no_together in omega (arith, counts Together Parted next nodes is));
        longer = (let long = rest.long in omega (arith, counts Parted Parted next nodes is));
        end = left;
        on = refl;
        last = ends';
        spells = subst (λ w. Spells second (item ∷ w)) rest.whole
            (rest.end, (next.left, begins, meets.1, rest.on), rest.last);
        end' = rest.end';
        on' = (next.right, follows, meets.2, rest.on');
        last' = rest.last';
        spells' = rest.spells;
      }

  -- two splits of a word, the first after as many items as nodes are together, the second after as
  -- many more as are parted
  pub record AreSplit (nodes : List Node) (word : Word) : Type 0 where
    pub u : Word
    pub t : Word
    pub v : Word
    pub whole : word ≡ u ++ (t ++ v)
    pub some : 0 < length t
    pub long : length u ≡ count_in Together nodes
    pub longer : length t ≡ count_in Parted nodes
    pub spells : Spells first u × Spells second (t ++ v)
    pub spells' : Spells first (u ++ t) × Spells second v

  walk_split : (nodes : List Node) (word : Word)
      → IsWalkOf (BeginsSplits first second) (Continues first second)
      (MeetIn together parted rejoined) ends nodes → Meet nodes word → AreSplit nodes word
  walk_split [] word walk meet = absurd walk
  walk_split (node ∷ nodes) [] walk meet = absurd meet
  walk_split (node ∷ nodes) (item ∷ word) (inl (is, begins, begins'), met, along) (one, meet) =
      let rest = together_on node.left node.right nodes word
      (known_phase node Together nodes is along) meet in
      let meets = known_meets node Together item is one in record {
        u = item ∷ rest.x;
        t = rest.t;
        v = rest.v;
        whole = ap (λ w. item ∷ w) rest.whole;
        some = rest.some;
        long = (let long = rest.long in omega (arith, counts Together Together node nodes is));
        longer = (let longer = rest.longer in omega (arith, counts Parted Together node nodes is));
        spells = ((rest.end, (node.left, begins, meets.1, rest.on), rest.last), rest.spells);
        spells' = ((rest.end', (node.right, begins', meets.2, rest.on'), rest.last'), rest.spells');
      }
  walk_split (node ∷ nodes) (item ∷ word)
      (inr (nullable, is, begins, begins'), met, along) (one, meet) =
      let rest = parts node.left node.right nodes word
      (known_phase node Parted nodes is along) meet in
      let meets = known_meets node Parted item is one in record {
        u = [];
        t = item ∷ rest.t;
        v = rest.v;
        whole = ap (λ w. item ∷ w) rest.whole;
        some = omega arith;
        long = (let none = rest.no_together in omega (arith, counts Together Parted node nodes is));
        longer = (let long = rest.long in omega (arith, counts Parted Parted node nodes is));
        spells = (
          nullable,
          subst (λ w. Spells second (item ∷ w)) rest.whole
              (rest.end, (node.left, begins, meets.1, rest.on), rest.last),
        );
        spells' = ((rest.end', (node.right, begins', meets.2, rest.on'), rest.last'), rest.spells);
      }

  module _ (r s : Regex) (of_r : AreOf first r) (of_s : AreOf second s) where
    -- a word splits at the end of its first part
    split_at : (word u v : Word) (middle : ℕ) → word ≡ u ++ v → length u ≡ middle → In r u → In s v
        → InBoth r s word middle
    split_at word u v middle whole long in_r in_s = (
      subst (λ (n : ℕ). In r (take n word)) long
          (subst (λ w. In r (take (length u) w)) (sym whole)
          (subst (In r) (sym (take-append_seam u v)) in_r)),
      subst (λ (n : ℕ). In s (drop n word)) long
          (subst (λ w. In s (drop (length u) w)) (sym whole)
          (subst (In s) (sym (drop-append_seam u v)) in_s)),
    )

    -- the splits of a walk are shown by the numbers of its nodes
    split_shown : (nodes : List Node) (shown : Shown)
        → shown.first ≡ 0 ∷ count_in Together nodes ∷ length shown.items ∷ []
        → shown.second
        ≡ 0 ∷ (count_in Together nodes + count_in Parted nodes) ∷ length shown.items ∷ []
        → AreSplit nodes shown.items → ShowsSplits r s shown
    split_shown nodes shown first' second' are =
        let some = are.some in
        let long = are.long in
        let longer = are.longer in
        let whole : shown.items ≡ (are.u ++ are.t) ++ are.v =
        are.whole ∙ sym (append_assoc are.u are.t are.v) in
        let short : length (are.u ++ are.t) ≡ count_in Together nodes + count_in Parted nodes =
        omega (arith, length-append are.u are.t) in
        splits_shown r s shown (count_in Together nodes)
        (count_in Together nodes + count_in Parted nodes) first' second'
        (omega (arith, ap length whole, length-append (are.u ++ are.t) are.v)) (omega arith)
        (split_at shown.items are.u (are.t ++ are.v) (count_in Together nodes) are.whole long
        ((of_r are.u).1 are.spells.0) ((of_s (are.t ++ are.v)).1 are.spells.1))
        (split_at shown.items (are.u ++ are.t) are.v
        (count_in Together nodes + count_in Parted nodes) whole short
        ((of_r (are.u ++ are.t)).1 are.spells'.0) ((of_s are.v).1 are.spells'.1))

    -- a walk of this many items leads to an end
    abbrev pub EndWalk : ℕ → Type 0
    EndWalk items = EndsAfter (BeginsSplits first second) (Continues first second)
        (MeetIn together parted rejoined) ends items

    module _ (are : AreRows columns first second together parted rejoined) where
      -- a word with two splits has a walk to an end
      splits_walk : (u v u' v' : Word) → IsWordOf columns (u ++ v) → In r u → In s v
          → In r u' → In s v' → u ++ v ≡ u' ++ v' → (u ≡ u' → ⊥) → EndWalk (length (u ++ v))
      splits_walk u v u' v' word in_r in_s in_r' in_s' same differ =
          let walk = splits_walks columns first second together parted rejoined are r s of_r of_s
          (length (u ++ v)) (
            record {
              u = u;
              v = v;
              u' = u';
              v' = v';
              word = word;
              first = (in_r, in_s);
              second = (in_r', in_s');
              same = same;
              differ = differ;
            },
            refl,
          ) in
          (walk.0, walk.1, (exact walk.0).1 walk.2)

      -- where there is none, no word has two splits
      pub none_halved : ((items : ℕ) → EndWalk items → ⊥) → HaveOneSplit columns r s
      none_halved none u v u' v' word in_r in_s in_r' in_s' same = ⊎_elim (λ e. e)
          (λ walk. absurd (none (length (u ++ v)) (walk.0, walk.1, (exact walk.0).1 walk.2)))
          (same_split columns first second together parted rejoined are r s of_r of_s u v u' v' word
          in_r in_s in_r' in_s' same)

      -- splits that are shown have a walk
      shown_walk : (shown : Shown) → IsWordOf columns shown.items → ShowsSplits r s shown
          → EndWalk (length shown.items)
      shown_walk shown word shows =
          let whole : shows.u ++ shows.v ≡ shown.items =
          ap (λ w. shows.u ++ w) (sym (append-nil shows.v)) ∙ shows.first.whole in
          let whole' : shows.u' ++ shows.v' ≡ shown.items =
          ap (λ w. shows.u' ++ w) (sym (append-nil shows.v')) ∙ shows.second.whole in
          subst (λ (w : Word). EndWalk (length w)) whole
          (splits_walk shows.u shows.v shows.u' shows.v' (subst (IsWordOf columns) (sym whole) word)
          shows.in_first.0 shows.in_second.0 shows.in_first.1 shows.in_second.1
          (whole ∙ sym whole')
          (λ same. let less = shows.shorter in absurd (omega (arith, ap length same))))

      -- a shortest walk is a shortest word
      pub walk_halved : (nodes : List Node) (shown : Shown)
          → IsShortestWalk (BeginsSplits first second) (Continues first second)
          (MeetIn together parted rejoined) ends nodes → Meet nodes shown.items
          → shown.first ≡ 0 ∷ count_in Together nodes ∷ length shown.items ∷ []
          → shown.second
          ≡ 0 ∷ (count_in Together nodes + count_in Parted nodes) ∷ length shown.items ∷ []
          → IsShortestShown columns (split r s) shown
      walk_halved nodes shown shortest meet first' second' = record {
        shows = (
          all_meet_word columns (left_of first second) (right_of first second) nodes
              shown.items meet,
          split_shown nodes shown first' second' (walk_split nodes shown.items shortest.walk meet),
        );
        none = λ other fewer shows. shortest.none (length other.items)
            (omega (
              arith,
              all_meet_long columns (left_of first second) (right_of first second) nodes
                  shown.items meet,
            ))
            (shown_walk other shows.0 shows.1);
      }
