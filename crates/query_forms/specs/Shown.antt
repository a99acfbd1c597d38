-- For the prover. The forms that the tables of the program hold.
use Rattle.query_forms.specs.Forms as forms
use Rattle.query_forms.specs.declared.form.Form.{Form}

-- a form as plain lists
abbrev pub shown : Form → forms.Form
shown form = record { head = form.0.now; arguments = form.1.now }
