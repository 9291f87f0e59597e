use Rattle.grammar_laws.proofs.Lengths.{commands_fit_their_lines}
use Rattle.grammar_laws.proofs.laws.read_commands_fit_their_lines.Goals as goal

pub returns : goal.returns
returns c = commands_fit_their_lines
