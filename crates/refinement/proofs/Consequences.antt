-- What follows of every run.
use Rattle.std.specs.Prelude.{◌≡◌}
use Rattle.std.proofs.Common.{sym, ap, ◌∙◌}
use Rattle.cmm_attempt.proofs.Basics.{same_some}
use Rattle.wire.specs.declared.message.Body.TheVariants as body
use Rattle.wire.specs.declared.message.Install.{Install}
use Rattle.membership_machine.specs.State.{Memberships}
use Rattle.refinement.specs.Runs.{CollectsAgree, InstallsAgree, PreparesAgree, SameInstall}
use Rattle.refinement.specs.Ties.{InstallTold}
use Rattle.refinement.proofs.EveryRun.{true_of}

pub collects_agree : CollectsAgree
collects_agree c w from other p first second run one two n =
    sym ((true_of run.machine from (body.Collect p first) w.sent one run.sent).1 n) ∙ (true_of run.machine other (body.Collect p second) w.sent two run.sent).1 n

same_install : (M : Memberships) (i j : Install) → i.epoch ≡ j.epoch → InstallTold M i → InstallTold M j → SameInstall i j
same_install M i j e h k = record {
  members = λ n. sym (h.members n) ∙ (ap (λ q. (M.epoch q).members n) e ∙ k.members n);
  updates = sym h.base ∙ (ap (λ q. (M.epoch q).base) e ∙ k.base);
  committed = sym h.settled ∙ (ap (λ q. (M.epoch q).settled) e ∙ k.settled);
}

pub installs_agree : InstallsAgree
installs_agree c w from other i j run one two e =
    same_install run.machine i j e (true_of run.machine from (body.Install i) w.sent one run.sent) (true_of run.machine other (body.Install j) w.sent two run.sent)

pub prepares_agree : PreparesAgree
prepares_agree c w from other p place first second run one two =
    same_some first second
    (sym (true_of run.machine from (body.Prepare p place first) w.sent one run.sent) ∙ true_of run.machine other (body.Prepare p place second) w.sent two run.sent)
