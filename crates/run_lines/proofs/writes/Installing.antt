-- A node that promises has installed nothing in its new session; one that installs joins each device that was read, at once or by and by.
use Rattle.std.specs.Prelude.{ℕ, ◌≡◌, ◌<◌, ◌≤◌, Bool, true, false, List, Option, None, Some}
use Rattle.std.proofs.Common.{refl, sym, subst, ◌∙◌, arith}
use Rattle.cl_base.specs.Sets.{has}
use Rattle.cmm_attempt.proofs.Basics.{false_true}
use Rattle.cmm_attempt.specs.Attempts.{AttemptState}
use Rattle.cmm_member.specs.Nodes.{NodeState, installed_with}
use Rattle.device_queue.specs.Queue.{join_of}
use Rattle.device_queue.specs.declared.task.Task.{Task}
use Rattle.membership_machine.specs.State.{Memberships}
use Rattle.history.specs.Moment.{Moment}
use Rattle.node_model.specs.Attempts.{installing, joining_from}
use Rattle.node_model.specs.Clusters.{has_path}
use Rattle.node_model.specs.Members.{rested_by}
use Rattle.node_model.specs.Seats.{installed_of, promised_of, promising, session_of}
use Rattle.node_model.specs.declared.cluster.Cluster.{Cluster}
use Rattle.node_model.specs.declared.node.UpNode.{UpNode}
use Rattle.refinement.specs.Facts.{Facts, has_join}
use Rattle.wire.specs.declared.message.Install.{Install}
use Rattle.run_lines.specs.writes.Covers.{InstallCovers, has_reading}
use Rattle.run_lines.specs.writes.Joins.{AllLone, TaskSo, UpJoins, is_spoiled}
use Rattle.run_lines.proofs.writes.Tasks.{begins_from, lone_from, lone_none, none_from, none_of}

-- ---- in another session nothing is installed

pub not_yet : (a b p : ℕ) → a ≤ b → b < p → a ≡ p → ⊥
not_yet a b p l m e = omega (arith, l, m, e)

pub promised_joins : (c : Cluster) (N : Memberships) (ns : List Moment) (n p : ℕ) (x : UpNode) (o : Option AttemptState) → installed_of x ≤ promised_of x → promised_of x < p
    → UpJoins c N ns n (rested_by (promising x p) o)
promised_joins c N ns n p x None order more = record { lone = lone_none; joins = λ some is. absurd (not_yet (installed_of x) (promised_of x) p order more is) }
promised_joins c N ns n p x (Some a) order more = record { lone = lone_none; joins = λ some is. absurd (not_yet (installed_of x) (promised_of x) p order more is) }

-- ---- it installs

-- what it joined at once, what it begins to join, and what it does not hold
install_device : (c : Cluster) (N : Memberships) (ns : List Moment) (n had : ℕ) (tasks : List Task) (i : Install) → has_join tasks ≡ false → InstallCovers N i → (d : ℕ)
    → is_spoiled n d i.epoch ns ≡ false → has_path c.attached n d ≡ true
    → TaskSo i.epoch (has had d) (is_spoiled n d i.epoch ns) ((N.epoch i.epoch).holds d) (join_of (joining_from c n i.epoch had tasks i.readings) d)
install_device c N ns n had tasks i none covers d clean path = by_joined (has had d) refl
  where
    T : List Task
    T = joining_from c n i.epoch had tasks i.readings

    S : Bool
    S = is_spoiled n d i.epoch ns

    empty : join_of tasks d ≡ None
    empty = none_of d tasks none

    not_held : (h : Bool) → (N.epoch i.epoch).holds d ≡ h → has_reading d i.readings ≡ false → h ≡ false
    not_held true is read = absurd (false_true (sym read ∙ covers.read d is))
    not_held false is read = refl

    by_read : (b : Bool) → has_reading d i.readings ≡ b → has had d ≡ false → TaskSo i.epoch false S ((N.epoch i.epoch).holds d) (join_of T d)
    by_read true read out = subst (λ o. TaskSo i.epoch false S ((N.epoch i.epoch).holds d) o) (sym (begins_from c n i.epoch had d tasks i.readings path out read empty)) (refl, (refl, clean))
    by_read false read out =
        subst (λ o. TaskSo i.epoch false S ((N.epoch i.epoch).holds d) o) (sym (none_from c n i.epoch had d tasks i.readings (λ is. read) empty))
        (clean, (λ is. not_held ((N.epoch i.epoch).holds d) refl read))

    by_joined : (b : Bool) → has had d ≡ b → TaskSo i.epoch b S ((N.epoch i.epoch).holds d) (join_of T d)
    by_joined true is =
        subst (λ o. TaskSo i.epoch true S ((N.epoch i.epoch).holds d) o) (sym (none_from c n i.epoch had d tasks i.readings (λ out. absurd (false_true (sym out ∙ is))) empty))
        (clean, (λ out. absurd (false_true (sym out))))
    by_joined false is = by_read (has_reading d i.readings) refl is

pub install_joins : (c : Cluster) (N : Memberships) (ns : List Moment) (n : ℕ) (x : UpNode) (s : NodeState) (tasks : List Task) (i : Install) → s.session ≡ i.epoch → has_join tasks ≡ false → AllLone tasks
    → InstallCovers N i → ((d : ℕ) → is_spoiled n d i.epoch ns ≡ false) → UpJoins c N ns n (installing c n x s tasks i)
install_joins c N ns n x s tasks i session none lone covers clean = record {
  lone = lone_from c n i.epoch (installed_with s i).joined tasks i.readings lone;
  joins = λ some is. record {
    counted = subst (λ q. (N.epoch q).counted ≡ true) (sym session) covers.counted;
    devices = λ d path.
        subst (λ q. TaskSo q (has (installed_with s i).joined d) (is_spoiled n d q ns) ((N.epoch q).holds d) (join_of (joining_from c n i.epoch (installed_with s i).joined tasks i.readings) d)) (sym session)
        (install_device c N ns n (installed_with s i).joined tasks i none covers d (clean d) path);
  };
}

-- before it installs it joins nothing
pub no_joins : (x : UpNode) → Facts x → (installed_of x ≡ session_of x → ⊥) → has_join x.tasks ≡ false
no_joins x f never = by_test (has_join x.tasks) refl
  where
    by_test : (b : Bool) → has_join x.tasks ≡ b → has_join x.tasks ≡ false
    by_test true is = absurd (never (sym (f.joins is).1))
    by_test false is = is
