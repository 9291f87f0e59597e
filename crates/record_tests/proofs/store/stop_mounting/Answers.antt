use Rattle.std.proofs.Common.{sym, subst}
use Rattle.record_store.specs.Images.{IsMountable}
use Rattle.record_tests.proofs.store.stop_mounting.Goals as goal

pub mount-requires-2 : goal.mount-requires-2
mount-requires-2 c = λ image left.
    subst IsMountable (sym (c.crash.ensures.only image left)) (c.mount.ensures.mountable c.crash.new.self.reads c.crash.ensures.allowed)
