use Rattle.std.proofs.Common.{◌≡◌, drop}
use Rattle.ccr_tables.specs.State.{first_config}
use Rattle.update_log.specs.Logs.{with_texts}
use Rattle.update_log.proofs.configuration.config_after.Given as goal

abbrev pub invariant-loop-text : goal.invariant-loop-text
invariant-loop-text l = with_texts (first_config l.header) l.texts ≡ with_texts l.config (drop l.text-index l.texts)
