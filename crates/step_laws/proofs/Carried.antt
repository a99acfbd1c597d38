-- A runner takes one more item, or begins anew: what it follows then, and that it stays sound.
use Rattle.std.proofs.Common.{◌≡◌, ℕ, ◌+◌, ◌∙◌, List, [], ◌∷◌, ◌++◌, Option, Some, None, option_map}
use Rattle.std.proofs.Common.{length, refl, sym, ap, subst}
use Rattle.value_ops.specs.declared.field.Field.{Field}
use Rattle.value_ops.specs.declared.value.ValueType.{ValueType}
use Rattle.item_schema.specs.declared.column.Column.{Column}
use Rattle.query_model.specs.Following.{IsAnswer}
use Rattle.query_model.specs.Queries.{Qre}
use Rattle.query_model.specs.QueryTypes.{type_of}
use Rattle.query_model.specs.Rules.{Standing, HasNoCollect, IsClear}
use Rattle.eval_nodes.specs.declared.progress.Progress.{Progress}
use Rattle.eval_nodes.specs.Cleared.{IsCleared}
use Rattle.eval_nodes.specs.Runners.{IsSoundOf, IsAt}
use Rattle.eval_nodes.specs.Holdings.{Holding, Seen}
use Rattle.eval_nodes.specs.Plain.{holding_of, seen_of}
use Rattle.eval_nodes.specs.Represents.{Represents}
use Rattle.eval_nodes.specs.Sound.{IsSound, IsTyped}
use Rattle.eval_nodes.proofs.Members.{no_member}
use Rattle.eval_nodes.proofs.Pieces.{length_more}
use Rattle.step_laws.specs.declared.hit.Hit.{Hit}
use Rattle.step_laws.specs.Feeds.{IsCarried, IsRenewed}
use Rattle.step_laws.specs.Steps.{IsHitOf, Starts, StartsSoundly, Steps, StepsSoundly}
use Rattle.step_laws.proofs.Followed.{first_answers, hit_answers, one_apart, one_position}
use Rattle.step_laws.proofs.Typed.{hit_of}

typed_answer : (type : ValueType) (hit : Option Hit) → IsHitOf type hit
    → IsTyped type (option_map (λ (found : Hit). found.value) hit)
typed_answer type None is = tt
typed_answer type (Some found) is = is

module _ {R : Type 0} (seen : R → Seen R) where
  pub carried_on : (q : Qre) (old new : R) (item : List Field) (hit : Option Hit)
      → Steps seen q (seen old).node ((seen old).position + 1) item (seen new).node hit
      → StepsSoundly seen q (seen old).node ((seen old).position + 1) item (seen new).node hit
      → (seen new).position ≡ (seen old).position + 1
      → (seen new).answer ≡ option_map (λ (found : Hit). found.value) hit
      → IsCarried seen q old item new
  carried_on q old new item hit steps soundly position answer = record {
    word = λ standing columns word clear longer follows.
        let end : (seen old).position ≡ length word = follows.position in
        let stepped = steps standing columns word (0 ∷ []) clear longer
        (one_position word) follows.node (ap (λ (n : ℕ). n + 1) end)
        (one_apart columns q (word ++ item ∷ [])) in
        record {
          position = position ∙ ap (λ (n : ℕ). n + 1) end ∙ sym (length_more word item);
          node = stepped.after;
          answer = subst (IsAnswer q (word ++ item ∷ [])) (sym answer)
              (hit_answers q (word ++ item ∷ []) hit stepped.hit);
        };
    sound = λ standing columns clear is_item is.
        let after = soundly standing columns (seen old).position refl clear is_item is.node in
        record {
          node =
              subst (λ (n : ℕ). IsSound seen columns q n (seen new).node) (sym position) after.node;
          answer = subst (IsTyped (type_of columns q)) (sym answer)
              (typed_answer (type_of columns q) hit after.hit);
        };
    position = position;
  }

  -- the node was cleared, for some columns and so for all
  pub begun_anew : (q : Qre) (old new : R) (cleared : Holding R) (hit : Option Hit)
      (columns : List Column) → HasNoCollect q → IsSoundOf seen columns q old
      → IsCleared seen q (seen old).node cleared → Starts seen q cleared 0 (seen new).node hit
      → StartsSoundly seen q cleared 0 (seen new).node hit
      → (seen new).position ≡ 0 → (seen new).answer ≡ option_map (λ (found : Hit). found.value) hit
      → IsRenewed seen q old new
  begun_anew q old new cleared hit some no_collect is_sound is_cleared starts soundly position
      answer = record {
        word = λ standing columns clear.
            let rep = (is_cleared no_collect some (seen old).position is_sound.node).0 columns in
            let started = starts standing columns [] [] clear tt
            (λ start there. absurd (no_member start there)) rep
            (λ there. no_member 0 there) refl (one_apart columns q []) in
            record {
              position = position;
              node = started.after;
              answer = subst (IsAnswer q []) (sym answer) (first_answers q hit started.hit);
            };
        sound = λ standing columns clear is.
            let sound = soundly standing columns clear
            ((is_cleared no_collect columns (seen old).position is.node).1 0) in
            record {
              node =
                  subst (λ (n : ℕ). IsSound seen columns q n (seen new).node)
                  (sym position) sound.node;
              answer = subst (IsTyped (type_of columns q)) (sym answer)
                  (typed_answer (type_of columns q) hit
                  (hit_of (type_of columns q) 0 hit sound.hit));
            };
        position = position;
      }

pub begun : (standing : Standing) (columns : List Column) (q : Qre) (old : Holding Progress)
    (new : Progress) (hit : Option Hit) → IsClear standing columns q
    → Represents seen_of columns q old [] [] → IsSound seen_of columns q 0 old
    → Starts seen_of q old 0 (holding_of new.node.state) hit
    → StartsSoundly seen_of q old 0 (holding_of new.node.state) hit → new.position ≡ 0
    → new.answer ≡ option_map (λ (found : Hit). found.value) hit → IsAt columns q [] new
begun standing columns q old new hit clear rep is_sound starts soundly position answer =
    let started = starts standing columns [] [] clear tt
    (λ start there. absurd (no_member start there)) rep
    (λ there. no_member 0 there) refl (one_apart columns q []) in
    let sound = soundly standing columns clear is_sound in
    record {
      is_word = tt;
      sound = record {
        node = subst (λ (n : ℕ). IsSound seen_of columns q n (holding_of new.node.state))
            (sym position) sound.node;
        answer = subst (IsTyped (type_of columns q)) (sym answer)
            (typed_answer (type_of columns q) hit (hit_of (type_of columns q) 0 hit sound.hit));
      };
      follows = record {
        position = position;
        node = started.after;
        answer = subst (IsAnswer q []) (sym answer) (first_answers q hit started.hit);
      };
    }
