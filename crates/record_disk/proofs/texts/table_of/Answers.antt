use Rattle.std.proofs.Common.{◌≡◌, ◌∙◌, sym, ap, subst, arith}
use Rattle.std.proofs.lemmas.Result.{IfOk-weaker}
use Rattle.ccr_text.specs.TableText.{AreRows, table_text}
use Rattle.cmm_member.specs.Records.{IsRecord}
use Rattle.cmm_member.specs.Views.{kept}
use Rattle.record_disk.specs.Images.{IsTextFor}
use Rattle.ccr_commit.specs.Entries.{texts_of}
use Rattle.record_disk.proofs.Fits.{row_texts}
use Rattle.record_disk.proofs.texts.table_of.Goals as goal

pub print_table-requires : goal.print_table-requires
print_table-requires c =
    let w = c.in_ok-rows.ensures.widths in
    let is_record : IsRecord (kept c.args.durable.now) = record { order = c.requires.order; width = w.width; nodes = w.nodes; devices = w.devices; count = w.count } in
    record { form = subst AreRows (sym c.in_ok-rows.ensures.rows) (c.rows_are_a_table.ensures.table (kept c.args.durable.now) is_record (row_texts (texts_of c.args.durable.now.entries) c.requires.texts)) }

pub returns : goal.returns
returns c =
    let r = kept c.args.durable.now in
    let w = c.in_ok-rows.ensures.widths in
    let is_record : IsRecord r = record { order = c.requires.order; width = w.width; nodes = w.nodes; devices = w.devices; count = w.count } in
    IfOk-weaker c.print_table.result (λ text. text.items ≡ table_text c.args.saves c.in_ok-rows.rows) (λ text. IsTextFor text.items c.args.saves r)
    (λ text is. record {
      form = is_record;
      table = record {
        fits = omega arith;
        form = c.rows_are_a_table.ensures.table r is_record (row_texts (texts_of c.args.durable.now.entries) c.requires.texts);
        spelled = is ∙ ap (table_text c.args.saves) c.in_ok-rows.ensures.rows;
      };
    })
    c.print_table.ensures.text
