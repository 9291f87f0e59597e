use Rattle.std.proofs.Common.{◌≡◌}
use Rattle.indexmap.specs.IndexMap.{insert_entry}
use Rattle.cl_base.proofs.NameLemmas.{by_bytes}
use Rattle.rgm_member.proofs.tables.put.Goals as goal

pub returns-in-Ok : goal.returns-in-Ok
returns-in-Ok g c = let h = rw c.in-Ok.is at c.insert.ensures.entries in
    by_bytes (λ eq. c.insert.new.self.entries ≡ insert_entry eq c.args.things.now.entries c.args.name c.args.x) h
