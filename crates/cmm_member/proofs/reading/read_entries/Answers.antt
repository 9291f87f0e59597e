use Rattle.std.proofs.Common.{◌∙◌, ap}
use Rattle.cmm_member.specs.Views.{all_next}
use Rattle.cmm_member.proofs.EntryLemmas.{read_pending, read_committed, values}
use Rattle.cmm_member.proofs.reading.read_entries.Goals as goal

pub returns-then-ends_pending : goal.returns-then-ends_pending
returns-then-ends_pending c = λ e is.
    read_pending e c.args.rows.now c.append_rows.new.entries c.ends_pending.result is (c.in_ok-append_rows.ensures ∙ ap (λ e. all_next e (values c.args.rows.now)) c.new-entries.ensures.value) c.ends_pending.ensures c.if-ends_pending.true

pub returns : goal.returns
returns c = λ e is.
    c.commit_pending.ensures.after
    ∙ read_committed e c.args.rows.now c.append_rows.new.entries c.ends_pending.result is (c.in_ok-append_rows.ensures ∙ ap (λ e. all_next e (values c.args.rows.now)) c.new-entries.ensures.value) c.ends_pending.ensures c.if-ends_pending.false
