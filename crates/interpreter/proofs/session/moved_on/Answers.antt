use Rattle.std.proofs.Common.{rules, ◌<◌}
use Rattle.interpreter.proofs.Rounds.{rounds_fit}
use Rattle.interpreter.proofs.session.moved_on.Goals as goal

pub after_event-requires : goal.after_event-requires
after_event-requires c =
    let fits : c.args.so_far.rounds < 18446744073709551616 = search rules in
    rounds_fit c.args.header.now c.args.so_far c.args.event.now c.requires fits
