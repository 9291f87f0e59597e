use Rattle.std.proofs.Common.{[], ap, subst, sym}
use Rattle.cl_base.specs.declared.command.Table.TheVariants.{Infrastructure}
use Rattle.ccr_text.specs.TableText.{AreRows}
use Rattle.ccr_rows.specs.Rows.{rows_of}
use Rattle.row_tests.proofs.rows.expect_first.Goals as goal

pub expect_printed-requires : goal.expect_printed-requires
expect_printed-requires g c = record {
  form = subst AreRows (sym (ap (λ s. rows_of s Infrastructure) c.in_ok-config.ensures.value)) (c.tables_have_their_form.ensures.form c.args.header.now [] Infrastructure tt);
}
