use Rattle.ccr_text.proofs.TableLemmas.{table_from}
use Rattle.ccr_text.proofs.print.print_table.Goals as goal

pub returns : goal.returns
returns c = record {
  text = table_from c.args.gennum c.args.rows.now c.in_ok-text.text.items c.in_ok-body.body.items c.extend_from_slice.new.self.items c.digest-digest.result
      (cc (c.in_ok-extend_from_slice.ensures.items, c.as_slice-2.ensures.value))
      c.in_ok-text.ensures
      (cc (c.digest-digest.ensures, c.as_slice.ensures.value))
      (cc (c.in_ok-body.ensures, c.items.ensures.value));
}
