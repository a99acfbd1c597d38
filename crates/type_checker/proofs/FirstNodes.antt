-- The first node that breaks a rule of words, among nodes with others before or after them.
use Rattle.std.proofs.Common.{inl, inr, List, [], ◌∷◌, ◌++◌, Some, None, refl, sym, ap, subst, ◌∙◌}
use Rattle.std.proofs.Common.{append_assoc, Option}
use Rattle.std.specs.List.{AllByRecursion}
use Rattle.language_base.specs.declared.refusal.Refusal.{Refusal}
use Rattle.language_base.specs.declared.rule.Rule.{Rule}
use Rattle.type_checker.specs.Blames.{IsFirstBroken}
use Rattle.query_resolver.specs.Nodes.{Node}
use Rattle.query_resolver.specs.Steps.{refusal}
use Rattle.type_checker.specs.WordRules.{Breaks, FirstBroken}

module _ (node : Node) (rule : Rule) where
  -- it decides
  decides : (before after : List Node) → AllByRecursion (λ earlier. Breaks earlier None) before
      → Breaks node (Some rule)
      → FirstBroken (before ++ node ∷ after) (Some (refusal rule node.place))
  decides [] after kept breaks = inl (rule, breaks, refl)
  decides (earlier ∷ before) after kept breaks = inr (kept.0, decides before after kept.1 breaks)

  pub first_refused : (nodes : List Node) → IsFirstBroken nodes node rule
      → FirstBroken nodes (Some (refusal rule node.place))
  first_refused nodes first =
      subst (λ (l : List Node). FirstBroken l (Some (refusal rule node.place))) (sym first.whole)
      (decides first.before first.after first.kept first.breaks)

  -- alone
  pub first_alone : Breaks node (Some rule) → IsFirstBroken (node ∷ []) node rule
  first_alone breaks = record { before = []; after = []; whole = refl; kept = tt; breaks = breaks }

  -- with others after it
  pub first_with_more : (nodes others : List Node) → IsFirstBroken nodes node rule
      → IsFirstBroken (nodes ++ others) node rule
  first_with_more nodes others first = record {
    before = first.before;
    after = first.after ++ others;
    whole = ap (λ (l : List Node). l ++ others) first.whole
        ∙ append_assoc first.before (node ∷ first.after) others;
    kept = first.kept;
    breaks = first.breaks;
  }

  -- after others that break no rule
  pub first_after_kept : (nodes others : List Node) → FirstBroken nodes None
      → IsFirstBroken others node rule → IsFirstBroken (nodes ++ others) node rule
  first_after_kept [] others kept first = first
  first_after_kept (other ∷ nodes) others (inl (one, breaks, is)) first = absurd (cc)
  first_after_kept (other ∷ nodes) others (inr (here, kept)) first =
      let later = first_after_kept nodes others kept first in record {
        before = other ∷ later.before;
        after = later.after;
        whole = ap (λ (l : List Node). other ∷ l) later.whole;
        kept = (here, later.kept);
        breaks = later.breaks;
      }

-- none of the first nodes breaks a rule, and the first of the others that does decides
pub broken_after : (nodes others : List Node) (why : Option Refusal) → FirstBroken nodes None
    → FirstBroken others why → FirstBroken (nodes ++ others) why
broken_after [] others why kept later = later
broken_after (node ∷ nodes) others why (inl (rule, broken, is)) later = absurd (cc)
broken_after (node ∷ nodes) others why (inr (here, kept)) later =
    inr (here, broken_after nodes others why kept later)
