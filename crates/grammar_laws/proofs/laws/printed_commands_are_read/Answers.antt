use Rattle.grammar_laws.proofs.Commands.{command_read}
use Rattle.grammar_laws.proofs.laws.printed_commands_are_read.Goals as goal

pub returns : goal.returns
returns c = record { read = command_read }
