use Rattle.row_laws.proofs.Tables.{form}
use Rattle.row_laws.proofs.laws.tables_have_their_form.Goals as goal

pub returns : goal.returns
returns c = record { form = form }
