use Rattle.std.proofs.Common.{◌≡◌, ◌==◌, false, subst, sym, ◌∙◌}
use Rattle.node_model.specs.Plans.{Follows}
use Rattle.node_model.specs.Members.{readying}
use Rattle.node_model.specs.Seats.{session_of}
use Rattle.node_model.proofs.Plans.{gives_follows}
use Rattle.node_members.specs.Installs.{installing_members}
use Rattle.node_members.proofs.Installs.{install_then}
use Rattle.node_members.proofs.Requests.{is_its}
use Rattle.node_members.proofs.install.take_install.Goals as goal

pub returns : goal.returns
returns g c =
    record {
      follows = install_then g.K.RecordDisk.saving c.args.cluster.now c.args.me c.args.up c.args.from c.args.i.now c.args.out.now.items c.install_members.new.out.items c.ready.new.out.items
          c.args.disk.now c.install_members.new.disk c.install_members.new.disk c.in_ok-up.up c.ready.result
          (subst (λ z. (c.args.i.now.epoch == z) ≡ false) c.zero.ensures.value (sym c.eq.ensures ∙ c.if-eq.false)) (is_its c.session.result (session_of c.args.up) c.args.i.now.epoch c.ne.result c.session.ensures.value c.ne.ensures c.if-ne.false)
          (subst (λ r. Follows g.K.RecordDisk.saving (installing_members c.args.cluster.now c.args.me c.args.up c.args.i.now c.args.up.seat) c.args.out.now.items c.args.disk.now r c.install_members.new.out.items c.install_members.new.disk) c.in_ok-up.was c.install_members.ensures)
          (gives_follows g.K.RecordDisk.saving (readying c.args.cluster.now c.in_ok-up.up c.args.from) c.install_members.new.out.items c.ready.new.out.items c.ready.result c.install_members.new.disk c.ready.ensures.follows);
    }
