-- How words that follow one another are read.
use Rattle.std.proofs.Common.{◌≡◌, ◌≢◌, ℕ, ◌<◌, true, List, [], ◌∷◌, ◌++◌, length, refl, sym, ap}
use Rattle.std.proofs.Common.{◌∙◌, subst, inl, inr, arith, append_assoc, length-append}
use Rattle.std.specs.List.{AllByRecursion}
use Rattle.std.proofs.lemmas.List.{append-nil}
use Rattle.value_ops.specs.declared.field.Field.{Field}
use Rattle.rate_expr.specs.Paths.{Meets, Leads, LeadsOn, Spells}
use Rattle.rate_expr.specs.Sets.{Sets, Has}
use Rattle.rate_expr.specs.Words.{Word, join}
use Rattle.rate_expr.proofs.PathSteps.{leads_one, leads_more}
use Rattle.rate_expr.proofs.PathsOn.{spells_at}
use Rattle.ambiguity_check.specs.Factorings.{FollowsInIteration}

-- one more word at the end
pub join_more : (words : List Word) (word : Word) → join (words ++ word ∷ []) ≡ join words ++ word
join_more [] word = append-nil word
join_more (w ∷ words) word = ap (λ rest. w ++ rest) (join_more words word)
    ∙ sym (append_assoc w (join words) word)

-- one more at the end of which a fact holds
pub all_more : {A : Type 0} (P : A → Type 0) (xs : List A) (x : A) → AllByRecursion P xs → P x
    → AllByRecursion P (xs ++ x ∷ [])
all_more P [] x all one = (one, tt)
all_more P (y ∷ xs) x all one = (all.0, all_more P xs x all.1 one)

-- a fact of each that is another fact of it
pub all_as : {A : Type 0} (P Q : A → Type 0) → ((x : A) → P x → Q x) → (xs : List A)
    → AllByRecursion P xs → AllByRecursion Q xs
all_as P Q is [] all = tt
all_as P Q is (x ∷ xs) all = (is x all.0, all_as P Q is xs all.1)

-- a run through words that follow one another
abbrev pub RunsOn : Sets → ℕ → Word → ℕ → Type 0
RunsOn sets from [] to = from ≡ to
RunsOn sets from (item ∷ word) to =
    (next : ℕ) × FollowsInIteration sets from next × Meets sets next item × RunsOn sets next word to

module _ (sets : Sets) where
  -- a path is a run, and another one may follow it
  pub runs_along : (from : ℕ) (word : Word) (mid : ℕ) (rest : Word) (end : ℕ)
      → LeadsOn sets from word mid → RunsOn sets mid rest end
      → RunsOn sets from (word ++ rest) end
  runs_along from [] mid rest end on run = subst (λ (p : ℕ). RunsOn sets p rest end) (sym on) run
  runs_along from (item ∷ word) mid rest end on run =
      (on.0, inl on.1, on.2, runs_along on.0 word mid rest end on.3 run)

  -- words of some items follow an end
  pub runs_from_end : (sets.nullable ≡ true → ⊥) → (from : ℕ) (words : List Word)
      → Has sets.last from → AllByRecursion (Spells sets) words
      → (end : ℕ) × RunsOn sets from (join words) end × Has sets.last end
  runs_from_end not_empty from [] ends all = (from, refl, ends)
  runs_from_end not_empty from ([] ∷ words) ends all = absurd (not_empty all.0)
  runs_from_end not_empty from ((item ∷ word) ∷ words) ends all =
      let first = all.0 in
      let rest = runs_from_end not_empty first.0 words first.2 all.1 in (
        rest.0,
        (
          first.1.0,
          inr (ends, first.1.1),
          first.1.2,
          runs_along first.1.0 word first.0 (join words) rest.0 first.1.3 rest.1,
        ),
        rest.2,
      )

  -- a first word and then others to a position: some words, and a last one that leads there
  pub record ReadsFactors (first word : Word) (to : ℕ) : Type 0 where
    pub words : List Word
    pub last : Word
    pub spelled : AllByRecursion (Spells sets) words
    pub leads : Leads sets last to
    pub whole : word ≡ first ++ (join words ++ last)

  -- the first of some words and a last one is longer than a word
  abbrev pub BeginsLonger : Word → List Word → Word → Type 0
  BeginsLonger first [] last = length first < length last
  BeginsLonger first (word ∷ words) last = length first < length word

  -- words to a position, the first of which, ended or not, is longer than a word
  pub record ReadsLonger (first word : Word) (to : ℕ) : Type 0 where
    pub words : List Word
    pub last : Word
    pub spelled : AllByRecursion (Spells sets) words
    pub leads : Leads sets last to
    pub whole : word ≡ join words ++ last
    pub longer : BeginsLonger first words last

  -- one more item, in the last word or at the beginning of another
  pub factors_on : (first word : Word) (to : ℕ) (item : List Field) (next : ℕ)
      → ReadsFactors first word to
      → FollowsInIteration sets to next → Meets sets next item
      → ReadsFactors first (word ++ item ∷ []) next
  factors_on first word to item next reads (inl follows) meets = record {
    words = reads.words;
    last = reads.last ++ item ∷ [];
    spelled = reads.spelled;
    leads = leads_more sets reads.last to item next reads.leads follows meets;
    whole = ap (λ w. w ++ item ∷ []) reads.whole
        ∙ append_assoc first (join reads.words ++ reads.last) (item ∷ [])
        ∙ ap (λ w. first ++ w) (append_assoc (join reads.words) reads.last (item ∷ []));
  }
  factors_on first word to item next reads (inr (ends, begins)) meets = record {
    words = reads.words ++ reads.last ∷ [];
    last = item ∷ [];
    spelled = all_more (Spells sets) reads.words reads.last reads.spelled
        (spells_at sets reads.last to reads.leads ends);
    leads = leads_one sets item next begins meets;
    whole = ap (λ w. w ++ item ∷ []) reads.whole
        ∙ append_assoc first (join reads.words ++ reads.last) (item ∷ [])
        ∙ ap (λ w. first ++ (w ++ item ∷ [])) (sym (join_more reads.words reads.last));
  }

  -- the first word stays longer where the last one grows
  longer_grown : (first : Word) (words : List Word) (last : Word) (item : List Field)
      → BeginsLonger first words last
      → BeginsLonger first words (last ++ item ∷ [])
  longer_grown first [] last item longer = omega (arith, length-append last (item ∷ []))
  longer_grown first (word ∷ words) last item longer = longer

  -- and where it is ended
  longer_ended : (first : Word) (words : List Word) (last new : Word)
      → BeginsLonger first words last → BeginsLonger first (words ++ last ∷ []) new
  longer_ended first [] last new longer = longer
  longer_ended first (word ∷ words) last new longer = longer

  -- one more item
  pub longer_on : (first word : Word) (to : ℕ) (item : List Field) (next : ℕ)
      → ReadsLonger first word to
      → FollowsInIteration sets to next → Meets sets next item
      → ReadsLonger first (word ++ item ∷ []) next
  longer_on first word to item next reads (inl follows) meets = record {
    words = reads.words;
    last = reads.last ++ item ∷ [];
    spelled = reads.spelled;
    leads = leads_more sets reads.last to item next reads.leads follows meets;
    whole = ap (λ w. w ++ item ∷ []) reads.whole
        ∙ append_assoc (join reads.words) reads.last (item ∷ []);
    longer = longer_grown first reads.words reads.last item reads.longer;
  }
  longer_on first word to item next reads (inr (ends, begins)) meets = record {
    words = reads.words ++ reads.last ∷ [];
    last = item ∷ [];
    spelled = all_more (Spells sets) reads.words reads.last reads.spelled
        (spells_at sets reads.last to reads.leads ends);
    leads = leads_one sets item next begins meets;
    whole = ap (λ w. w ++ item ∷ []) reads.whole
        ∙ ap (λ w. w ++ item ∷ []) (sym (join_more reads.words reads.last));
    longer = longer_ended first reads.words reads.last (item ∷ []) reads.longer;
  }

  -- words that begin with a word are not ones that begin with a longer one
  pub begin_apart : (first : Word) (words others : List Word) (last : Word)
      → BeginsLonger first others last
      → first ∷ words ≢ others ++ last ∷ []
  begin_apart first words [] last longer same = let e : first
      ≡ last = cc in absurd (omega (arith, ap length e))
  begin_apart first words (word ∷ others) last longer same = let e : first
      ≡ word = cc in absurd (omega (arith, ap length e))
