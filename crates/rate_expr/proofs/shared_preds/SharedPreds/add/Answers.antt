use Rattle.rate_expr.proofs.Sharing.{known_shared, known_listed, new_shared, new_listed}
use Rattle.rate_expr.proofs.shared_preds.SharedPreds.add.Goals as goal

pub returns-in_ok-push-in-Some-clause-shared : goal.returns-in_ok-push-in-Some-clause-shared
returns-in_ok-push-in-Some-clause-shared c =
    known_shared _ _ _ _ _ _ c.self.view_is c.requires c.in-Some.ensures.found
    c.in_ok-push-in-Some.ensures.items

pub returns-in_ok-push-in-Some-clause-listed : goal.returns-in_ok-push-in-Some-clause-listed
returns-in_ok-push-in-Some-clause-listed c =
    known_listed _ _ _ _ _ _ c.self.view_is c.in-Some.ensures.found
    c.in_ok-push-in-Some.ensures.items

pub returns-in_ok-push-in-None-clause-shared : goal.returns-in_ok-push-in-None-clause-shared
returns-in_ok-push-in-None-clause-shared c =
    new_shared _ _ _ _ _ _ _ c.self.view_is c.requires c.in-None.ensures.missing
    c.in_ok-add-in-None.ensures.ok c.len-place.ensures c.in_ok-push-in-None.ensures.items

pub returns-in_ok-push-in-None-clause-listed : goal.returns-in_ok-push-in-None-clause-listed
returns-in_ok-push-in-None-clause-listed c =
    new_listed _ _ _ _ _ _ _ c.self.view_is c.requires
    c.in_ok-add-in-None.ensures.ok c.len-place.ensures c.in_ok-push-in-None.ensures.items
