use Rattle.std.proofs.Common.{◌≡◌, rules}
use Rattle.std.specs.Map.{lookup}
use Rattle.std.specs.Option.{option_copied}
use Rattle.cl_base.proofs.NameLemmas.{by_bytes}
use Rattle.rgm_member.proofs.tables.marks_of.Goals as goal

pub returns-in-Some : goal.returns-in-Some
returns-in-Some c = let found = by_bytes (λ eq. option_copied c.get.result ≡ lookup (eq c.args.r.now) c.args.resources.now.entries) c.get.ensures.value in search rules

pub returns-in-None : goal.returns-in-None
returns-in-None c = let found = by_bytes (λ eq. option_copied c.get.result ≡ lookup (eq c.args.r.now) c.args.resources.now.entries) c.get.ensures.value in search rules
