use Rattle.std.proofs.Common.{rules, is_some}
use Rattle.rg_props.specs.Lookups.{named}
use Rattle.rgm_member.specs.Keeping.{marks_kept}
use Rattle.rgm_member.proofs.Kept.{retained}
use Rattle.rgm_member.proofs.keeping.keep_resources.Goals as goal

pub returns : goal.returns
returns c = retained _ (λ e. is_some (named c.args.groups.now.resources e.0)) (λ e. marks_kept (named c.args.groups.now.resources e.0) e.1) _
    (λ k v b w q called. search rules) _ _ c.retain.ensures.filtered
