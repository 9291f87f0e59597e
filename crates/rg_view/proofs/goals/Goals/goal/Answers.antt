use Rattle.std.proofs.Common.{◌≡◌, rules}
use Rattle.std.specs.Map.{lookup}
use Rattle.std.specs.Option.{option_copied}
use Rattle.cl_base.proofs.NameLemmas.{by_bytes}
use Rattle.rg_view.proofs.goals.Goals.goal.Goals as goal

pub returns : goal.returns
returns c = let found = by_bytes (λ eq. option_copied c.get.result ≡ lookup (eq c.args.g.now) c.self.inside.goals.entries) c.get.ensures.value in search rules
