use Rattle.std.proofs.Common.{sym, subst}
use Rattle.record_store.specs.Images.{IsMountable}
use Rattle.record_tests.proofs.store.stop_save.Goals as goal

pub mount-requires : goal.mount-requires
mount-requires c = λ image left.
    subst IsMountable (sym (c.crash.ensures.only image left)) (c.save-saved.ensures.mountable c.crash.new.self.reads c.crash.ensures.allowed)
