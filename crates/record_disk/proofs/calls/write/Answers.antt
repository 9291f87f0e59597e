use Rattle.std.proofs.Common.{Bool, sym, ◌∙◌, ap, subst}
use Rattle.std.specs.Prelude.{if◌then◌else◌}
use Rattle.local_disk.specs.Memory.{calls_of, choice_of}
use Rattle.record_store.specs.Store.{LeavesBy, replaced}
use Rattle.record_disk.specs.declared.error.Loss.TheVariants.{Stopped, Fault}
use Rattle.record_disk.proofs.Stops.{Bad, bad, good, gives_after}
use Rattle.record_disk.proofs.calls.write.Goals as goal

pub returns-in-Ok-clause-when : goal.returns-in-Ok-clause-when
returns-in-Ok-clause-when c = (good c.args.disk.now.stop c.save.new.disk.stop (c.in-Ok.ensures.calls c.requires.most) c.save.ensures.choice).none

pub returns-in-Ok-clause-stop : goal.returns-in-Ok-clause-stop
returns-in-Ok-clause-stop c = (good c.args.disk.now.stop c.save.new.disk.stop (c.in-Ok.ensures.calls c.requires.most) c.save.ensures.choice).left

pub returns-in-Err-clause-settled : goal.returns-in-Err-clause-settled
returns-in-Err-clause-settled c = record { synced = c.crash.ensures.only; mountable = c.save.ensures.mountable c.crash.new.disk.reads c.crash.ensures.allowed }

pub returns-in-Err-clause-left : goal.returns-in-Err-clause-left
returns-in-Err-clause-left c =
    let b : Bad c.args.disk.now.stop c.save.new.disk.stop = bad c.args.disk.now.stop c.save.new.disk.stop (c.in-Err.ensures.calls c.requires.most) in
    gives_after c.args.disk.now.stop c.args.store.now c.args.text.now c.crash.new.disk.reads b.comes
    (subst (LeavesBy (calls_of c.args.disk.now.stop) (choice_of c.args.disk.now.stop) c.args.store.now (replaced c.args.store.now c.args.text.now)) (sym c.crash.ensures.left) (c.in-Err.ensures.left c.requires.most))

pub returns-in-Err-clause-when : goal.returns-in-Err-clause-when
returns-in-Err-clause-when c =
    let b : Bad c.args.disk.now.stop c.save.new.disk.stop = bad c.args.disk.now.stop c.save.new.disk.stop (c.in-Err.ensures.calls c.requires.most) in
    (c.crash.ensures.loss ∙ ap (λ (b : Bool). if b then Stopped else Fault) b.stopped, b.comes)

pub returns-in-Err-clause-stop : goal.returns-in-Err-clause-stop
returns-in-Err-clause-stop c =
    let b : Bad c.args.disk.now.stop c.save.new.disk.stop = bad c.args.disk.now.stop c.save.new.disk.stop (c.in-Err.ensures.calls c.requires.most) in
    c.crash.ensures.stop ∙ b.left
