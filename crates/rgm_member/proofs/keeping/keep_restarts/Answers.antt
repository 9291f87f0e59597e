use Rattle.std.proofs.Common.{rules, is_some}
use Rattle.std.proofs.lemmas.Map.Made.{filter_same_pairs}
use Rattle.rg_props.specs.Lookups.{named}
use Rattle.rgm_member.proofs.keeping.keep_restarts.Goals as goal

pub returns : goal.returns
returns c = filter_same_pairs _ (λ e. is_some (named c.args.groups.now.resources e.0)) _ (λ k v b w q called. search rules) _ _ c.retain.ensures.filtered
