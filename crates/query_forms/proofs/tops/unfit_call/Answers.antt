use Rattle.query_forms.proofs.tops.unfit_call.Goals as goal

pub first_unfit-requires : goal.first_unfit-requires
first_unfit-requires c = c.arguments_of.ensures.of_text c.args.text.now c.requires
