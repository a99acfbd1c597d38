use Rattle.std.proofs.Common.{◌≡◌, ◌-◌, ◌^◌, ℕ, min, List, Result, Ok, Err, IfOk, ap, ◌∙◌}
use Rattle.std.specs.declared.alloc.AllocError.{AllocError}
use Rattle.query_model.specs.Bounds.{places_of, slots_of}
use Rattle.query_model.specs.Queries.{plain_of}
use Rattle.query_model.specs.declared.query.Query.{Query}
use Rattle.report_writer.specs.Texts.{bound_text}
use Rattle.sqre_run.proofs.Commands.{bounds_are_small}
use Rattle.sqre_run.proofs.engine.bound_line.Goals as goal

-- the text of the same bounds
same_bounds : (made : Result (List ℕ) AllocError) (places slots places' slots' : ℕ)
    → IfOk made (λ line. line ≡ bound_text places slots)
    → places ≡ places' → slots ≡ slots' → IfOk made (λ line. line ≡ bound_text places' slots')
same_bounds (Ok line) places slots places' slots' is same same' =
    is ∙ ap (λ (n : ℕ). bound_text n slots) same ∙ ap (λ (n : ℕ). bound_text places' n) same'
same_bounds (Err error) places slots places' slots' is same same' = tt

pub returns : goal.returns
returns c =
    let main = c.main-main.ensures.main in
    let small = bounds_are_small (plain_of c.args.checked.now.main.shape)
    c.main-main.ensures.checked.small.slots in
    let places = c.places.ensures
    ∙ ap (λ (q : Query). min (places_of (plain_of q.shape)) (2 ^ 32 - 1)) main ∙ small.0 in
    let slots = c.slots.ensures
    ∙ ap (λ (q : Query). min (slots_of (plain_of q.shape)) (2 ^ 32 - 1)) main ∙ small.1 in
    same_bounds _ _ _ _ _ c.bound_text.ensures places slots
