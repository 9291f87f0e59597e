use Rattle.std.proofs.Common.{rules, ◌≡◌, ◌≤◌, true, length, arith}
use Rattle.std.specs.List.{list_all}
use Rattle.ccr_commit.specs.Entries.{texts_of}
use Rattle.cmm_member.specs.Views.{kept}
use Rattle.record_disk.specs.Disks.{is_row_text}
use Rattle.record_disk.proofs.Fits.{too_long, all_fit}
use Rattle.record_disk.proofs.texts.text_for.Goals as goal

pub returns-then-len-gt-MOST_BYTES : goal.returns-then-len-gt-MOST_BYTES
returns-then-len-gt-MOST_BYTES c =
    let r = kept c.args.durable.now in
    let long = c.records_have_their_length.ensures.length c.in_ok-text.text.items c.args.saves r c.in_ok-text.ensures.table in
    let order : c.args.durable.now.installed ≤ c.args.durable.now.promised = grind arith in
    let texts : list_all is_row_text (texts_of c.args.durable.now.entries) ≡ true = search rules in
    record { fits = too_long c.args.saves r order texts (omega (arith, c.if-len-gt-MOST_BYTES.true, c.len.ensures, c.in_ok-text.text.ok, long)); text = tt; most = tt }

pub returns : goal.returns
returns c =
    let r = kept c.args.durable.now in
    let long = c.records_have_their_length.ensures.length c.in_ok-text.text.items c.args.saves r c.in_ok-text.ensures.table in
    let order : c.args.durable.now.installed ≤ c.args.durable.now.promised = grind arith in
    let texts : list_all is_row_text (texts_of c.args.durable.now.entries) ≡ true = search rules in
    let most : length c.in_ok-text.text.items ≤ 65536 = omega (arith, c.if-len-gt-MOST_BYTES.false, c.len.ensures, c.in_ok-text.text.ok) in
    record { fits = all_fit c.args.saves r order texts (omega (arith, long, most)); text = c.in_ok-text.ensures; most = most }
