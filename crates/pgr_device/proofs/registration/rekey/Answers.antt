use Rattle.std.proofs.Common.{arith, ap, ◌∙◌, sym, set}
use Rattle.std.proofs.lemmas.List.Edits.{map_over_more}
use Rattle.pgr_device.specs.Registered.{rekeyed}
use Rattle.pgr_device.specs.declared.registration.Registration.{Registration}
use Rattle.pgr_device.proofs.registration.rekey.Goals as goal

pub loop-r-preserved : goal.loop-r-preserved
loop-r-preserved c =
    ap (λ (r : Registration). set c.loop-r.registrations c.loop-r.r-index r) (c.rekeyed.ensures ∙ ap (rekeyed c.args.node c.args.key) (sym c.r-item.is))
    ∙ map_over_more (rekeyed c.args.node c.args.key) c.args.registrations.now c.loop-r.registrations c.loop-r.r-index c.r-item.result (omega arith) c.loop-r.invariant c.r-item.is
