use Rattle.std.proofs.Common.{rules}
use Rattle.schedule_text.proofs.HeaderLemmas.{header_more}
use Rattle.schedule_text.proofs.cluster_header.with_device.Goals as goal

pub returns-clause-allowed : goal.returns-clause-allowed
returns-clause-allowed c = header_more c.args.header.now c.args.device _ (search rules) c.requires.before c.requires.room c.requires.attached
