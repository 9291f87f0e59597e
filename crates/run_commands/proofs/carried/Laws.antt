-- The setting of a header reads words and answers as its nodes do, so the laws hold of it.
use Rattle.std.specs.Prelude.{ℕ, ◌≡◌, List, Some}
use Rattle.std.proofs.Common.{ap, ◌∙◌}
use Rattle.ccr_tables.specs.declared.command.AdminCommand.{AdminCommand}
use Rattle.ccr_tables.specs.declared.command.AdminCommand.TheVariants.{Act, Change, Rows, Status}
use Rattle.cl_base.specs.declared.header.Header.{Header}
use Rattle.cmm_attempt.proofs.Basics.{none_some}
use Rattle.history_setting.specs.Settings.{canonical_in, canonical_words, setting_of}
use Rattle.world_model.specs.First.{first_cluster}
use Rattle.run_commands.specs.carried.Laws.{RepliesOfEachRun, UpdatesOfEachRun}
use Rattle.run_commands.proofs.carried.Asides.{text_of}
use Rattle.run_commands.proofs.carried.Commands.{ReadsRequests}
use Rattle.run_commands.proofs.carried.Runs.{carried_in_each, replies_in_each}
use Rattle.run_commands.proofs.carried.Steps.{Reads}
use Rattle.run_commands.proofs.carried.Texts.{answers_read}

-- the words of a request are canonical
request_words : (a : AdminCommand) (text : List ℕ) → text_of a ≡ Some text → Some (canonical_words a) ≡ Some text
request_words (Change u) text is = is
request_words (Act a) text is = is
request_words (Status q) text is = absurd (none_some text is)
request_words (Rows name) text is = absurd (none_some text is)

requests_read : (h : Header) → ReadsRequests (first_cluster h) (setting_of h)
requests_read h words text a is so = ap canonical_in is ∙ request_words a text so

pub reads : (h : Header) → Reads (first_cluster h) (setting_of h)
reads h = record { answers = answers_read h; requests = requests_read h }

pub updates_of_each_run : UpdatesOfEachRun
updates_of_each_run h cells hs few small may lines = carried_in_each (setting_of h) h cells hs (reads h) (record { few = few; small = small }) may lines

pub replies_of_each_run : RepliesOfEachRun
replies_of_each_run h cells hs few small may lines = replies_in_each (setting_of h) h cells hs (reads h) (record { few = few; small = small }) may lines
