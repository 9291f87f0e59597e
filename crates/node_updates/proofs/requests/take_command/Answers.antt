use Rattle.std.proofs.Common.{rules}
use Rattle.admin_words.specs.Commands.{command_of}
use Rattle.node_model.specs.Seats.{version_of}
use Rattle.node_updates.proofs.Commanding.{has_read}
use Rattle.node_updates.proofs.requests.take_command.Goals as goal

pub obey-requires : goal.obey-requires
obey-requires g c = record {
  member = has_read c.args.up c.begin_with.new.up (command_of (version_of c.args.cluster.now) c.args.words.now) _ c.begin_with.ensures.after (search rules);
}
