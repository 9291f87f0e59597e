use Rattle.std.proofs.Common.{rules, ap, ◌∙◌}
use Rattle.ccr_commit.specs.Entries.{all_committed}
use Rattle.ccr_commit.proofs.EntryLemmas.{seen_whole}
use Rattle.ccr_commit.proofs.entries.Entries.commit_pending.Goals as goal

pub returns : goal.returns
returns c = record { after = seen_whole c.self.inside.texts.items c.self.inside.committed _ c.self.invariant.1 (search rules) ∙ ap all_committed c.self.view_is }
