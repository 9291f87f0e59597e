use Rattle.std.proofs.Common.{◌≡◌, true, sym, ◌∙◌, subst}
use Rattle.cl_base.specs.Sets.{has}
use Rattle.pgr_device.specs.Keys.{HasNoZeroKey}
use Rattle.pgr_device.specs.Kept.{IsDevice}
use Rattle.pgr_device.specs.Seen.{seen}
use Rattle.pgr_device.proofs.Keeps.{carried_out_keeps}
use Rattle.pgr_device.proofs.Room.{room}
use Rattle.pgr_device.proofs.ZeroKeys.{carried_out_gives}
use Rattle.pgr_device.proofs.device.Pgr.reply.Goals as goal

pub carry_out-requires : goal.carry_out-requires
carry_out-requires c = λ none. room c.self.inside.state.paths c.self.inside.state.registrations.items c.args.from c.has.ensures.low c.has.ensures.high c.self.invariant.apart none

pub invariant_of-self : goal.invariant_of-self
invariant_of-self c =
    let path : has c.self.inside.state.paths c.args.from ≡ true = sym c.has.ensures.value ∙ c.if-not-has.false in
    subst IsDevice (sym c.carry_out.ensures.after)
    (carried_out_keeps (seen c.self.inside.state) c.args.from c.args.command c.has.ensures.low c.has.ensures.high path c.requires c.self.invariant)

pub returns-clause-keys : goal.returns-clause-keys
returns-clause-keys c = subst HasNoZeroKey (sym c.carry_out.ensures.answer) (carried_out_gives (seen c.self.inside.state) c.args.from c.args.command c.self.invariant)
