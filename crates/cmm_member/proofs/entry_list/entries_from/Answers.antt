use Rattle.std.proofs.Common.{◌≡◌, ◌∙◌, ap, sym}
use Rattle.std.specs.Prelude.{None, Some}
use Rattle.ccr_commit.specs.Entries.{EntryList, all_committed}
use Rattle.cmm_member.specs.Views.{all_next}
use Rattle.cmm_member.proofs.EntryLemmas.{all_then_commit, next_after_commit}
use Rattle.cmm_member.proofs.entry_list.entries_from.Goals as goal

pub returns-in_default : goal.returns-in_default
returns-in_default c =
    let whole : c.commit_pending.new.self ≡ record { committed = c.args.committed.now; pending = None } =
    c.commit_pending.ensures.after ∙ ap all_committed (c.in_ok-append_texts.ensures ∙ ap (λ e. all_next e c.args.committed.now) c.new-entries.ensures.value) ∙ all_then_commit c.args.committed.now in
    whole ∙ ap (λ p. let e : EntryList = record { committed = c.args.committed.now; pending = p } in e) (sym c.in_default.is)

pub returns : goal.returns
returns c =
    let whole : c.commit_pending.new.self ≡ record { committed = c.args.committed.now; pending = None } =
    c.commit_pending.ensures.after ∙ ap all_committed (c.in_ok-append_texts.ensures ∙ ap (λ e. all_next e c.args.committed.now) c.new-entries.ensures.value) ∙ all_then_commit c.args.committed.now in
    c.in_ok-append.ensures ∙ next_after_commit c.commit_pending.new.self c.args.committed.now c.items.result.now whole
    ∙ ap (λ p. let e : EntryList = record { committed = c.args.committed.now; pending = p } in e) (ap Some c.items.ensures.value ∙ sym c.in-Some.is)
