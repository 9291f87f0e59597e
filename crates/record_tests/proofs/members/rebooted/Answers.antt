use Rattle.std.proofs.Common.{rules, ◌<◌, ◌^◌, ◌∙◌, inr, arith}
use Rattle.ccr_text.specs.TableText.{AreRows}
use Rattle.cmm_member.proofs.RowLemmas.{record_text}
use Rattle.record_tests.proofs.members.rebooted.Goals as goal

pub boot-requires : goal.boot-requires
boot-requires c =
    let table : AreRows c.in_ok-rows.rows = search rules in
    let fits : c.args.saves < 2 ^ 64 = omega arith in
    record {
      text = inr (record_text c.as_slice-2.result.now c.args.saves c.args.node.now.saved c.in_ok-rows.rows c.in_ok-rows.ensures.is_record fits c.in_ok-rows.ensures.rows table (c.as_slice-2.ensures.value ∙ c.in_ok-text.ensures.text));
    }
