use Rattle.std.proofs.Common.{◌≡◌, Bool, inr, sym, ◌∙◌, ap, subst}
use Rattle.std.specs.Prelude.{Err, if◌then◌else◌}
use Rattle.record_store.specs.Images.{IsMountable}
use Rattle.record_store.specs.declared.store.StoreError.TheVariants.{DiskFault}
use Rattle.record_disk.specs.declared.error.DiskError.TheVariants.{Lost}
use Rattle.record_disk.specs.declared.error.Loss.TheVariants.{Stopped, Fault}
use Rattle.record_disk.proofs.Stops.{Bad, bad, good}
use Rattle.record_disk.proofs.calls.read.Goals as goal

pub returns-in-Err-DiskFault-clause-settled : goal.returns-in-Err-DiskFault-clause-settled
returns-in-Err-DiskFault-clause-settled c =
    let same : c.crash.new.disk.reads ≡ c.args.disk.now.reads = c.requires.settled.synced c.crash.new.disk.reads (c.mount.ensures.images c.crash.new.disk.reads c.crash.ensures.allowed) in
    record { synced = c.crash.ensures.only; mountable = subst IsMountable (sym same) c.requires.settled.mountable }

pub returns-in-Err-DiskFault-clause-when : goal.returns-in-Err-DiskFault-clause-when
returns-in-Err-DiskFault-clause-when c =
    let fault : c.mount.result ≡ Err DiskFault = cc (c.in-Err-DiskFault.is, c.in-Err-DiskFault.field-0-is) in
    let b : Bad c.args.disk.now.stop c.mount.new.disk.stop = bad c.args.disk.now.stop c.mount.new.disk.stop (c.mount.ensures.calls_fault fault) in
    inr (ap Lost (c.crash.ensures.loss ∙ ap (λ (b : Bool). if b then Stopped else Fault) b.stopped), b.comes)

pub returns-in-Err-DiskFault-clause-stopped : goal.returns-in-Err-DiskFault-clause-stopped
returns-in-Err-DiskFault-clause-stopped c = λ told.
    let fault : c.mount.result ≡ Err DiskFault = cc (c.in-Err-DiskFault.is, c.in-Err-DiskFault.field-0-is) in
    let b : Bad c.args.disk.now.stop c.mount.new.disk.stop = bad c.args.disk.now.stop c.mount.new.disk.stop (c.mount.ensures.calls_fault fault) in
    c.crash.ensures.stop ∙ b.left

pub returns-in-Ok-clause-when : goal.returns-in-Ok-clause-when
returns-in-Ok-clause-when c = (good c.args.disk.now.stop c.mount.new.disk.stop c.in-Ok.ensures.calls c.mount.ensures.choice).none

pub returns-in-Ok-clause-stop : goal.returns-in-Ok-clause-stop
returns-in-Ok-clause-stop c = (good c.args.disk.now.stop c.mount.new.disk.stop c.in-Ok.ensures.calls c.mount.ensures.choice).left
