-- An install, and the answer.
use Rattle.std.proofs.Common.{sym, ap, ◌≡◌, ℕ, ◌==◌, nat_le, not, Bool, true, false, if◌then◌else◌, List, Result, Err, refl, subst, ◌∙◌, arith}
use Rattle.std.proofs.lemmas.Bool.{false≢true}
use Rattle.cmm_member.specs.Nodes.{installed_with}
use Rattle.cmm_member.specs.Records.{NodeRecord}
use Rattle.wire.specs.declared.message.Install.{Install}
use Rattle.node_model.specs.declared.cluster.Cluster.{Cluster}
use Rattle.node_model.specs.declared.node.UpNode.{UpNode}
use Rattle.node_model.specs.declared.output.Output.{Output}
use Rattle.node_model.specs.declared.seat.Seat.{Seat}
use Rattle.node_model.specs.declared.seat.Seat.TheVariants.{Forming, Member}
use Rattle.node_model.specs.declared.stop.Stop.{Stop}
use Rattle.node_model.specs.Attempts.{changed_by, install_of, installed_in, installed_so, installing}
use Rattle.node_model.specs.Members.{on_install, on_install_as, readying}
use Rattle.node_model.specs.Plans.{and_then, Follows, IsDone}
use Rattle.node_model.specs.Plans.Plan.{Stays}
use Rattle.node_model.specs.Seats.{session_of, state_of}
use Rattle.record_disk.specs.Savings.{Saving}
use Rattle.node_model.proofs.Plans.{done_then, stopped_then}
use Rattle.node_members.specs.Installs.{installing_members, settling}

some_of : (n : ℕ) → (n == 0) ≡ false → nat_le 1 n ≡ true
some_of n h = grind arith

-- an install and then the answer is the rule of an install
parts : (c : Cluster) (me : ℕ) (x : UpNode) (from : ℕ) (i : Install) (seat : Seat) → nat_le 1 i.epoch ≡ true → ((state_of seat).session == i.epoch) ≡ true
    → and_then (installing_members c me x i seat) (λ y. readying c y from) ≡ on_install_as c me x from i seat
parts c me x from i (Member s) some is = refl
parts c me x from i (Forming s) some is = rw (some, is) (by_test (s.saved.installed == i.epoch))
  where
    by_test : (b : Bool) → and_then (if not b then installed_so me (installing c me x s x.tasks i) i.epoch (Stays (installing c me x s x.tasks i)) else Stays x) (λ y. readying c y from)
        ≡ (if b then readying c x from else installed_so me (installing c me x s x.tasks i) i.epoch (readying c (installing c me x s x.tasks i) from))
    by_test true = refl
    by_test false = refl

whole : (c : Cluster) (me : ℕ) (x : UpNode) (from : ℕ) (i : Install) → nat_le 1 i.epoch ≡ true → (session_of x == i.epoch) ≡ true
    → and_then (installing_members c me x i x.seat) (λ y. readying c y from) ≡ on_install c me x from i
whole c me x from i some is = parts c me x from i x.seat some is ∙ (rw (some, is) refl)

pub install_then : {K : Type 0} → (saving : K → NodeRecord → Saving K) (c : Cluster) (me : ℕ) (x : UpNode) (from : ℕ) (i : Install) (given between after : List Output) (disk mid_disk left : K) (mid : UpNode) (result : Result UpNode Stop)
    → (i.epoch == 0) ≡ false → (session_of x == i.epoch) ≡ true
    → IsDone saving (installing_members c me x i x.seat) given disk mid between mid_disk → Follows saving (readying c mid from) between mid_disk result after left
    → Follows saving (on_install c me x from i) given disk result after left
install_then saving c me x from i given between after disk mid_disk left mid result some is done rest =
    subst (λ plan. Follows saving plan given disk result after left) (whole c me x from i (some_of i.epoch some) is)
    (done_then saving (installing_members c me x i x.seat) (λ y. readying c y from) given between after disk mid_disk left mid result done rest)

pub install_fails : {K : Type 0} → (saving : K → NodeRecord → Saving K) (c : Cluster) (me : ℕ) (x : UpNode) (from : ℕ) (i : Install) (given after : List Output) (disk left : K) (stop : Stop)
    → (i.epoch == 0) ≡ false → (session_of x == i.epoch) ≡ true
    → Follows saving (installing_members c me x i x.seat) given disk (Err stop) after left
    → Follows saving (on_install c me x from i) given disk (Err stop) after left
install_fails saving c me x from i given after disk left stop some is fails =
    subst (λ plan. Follows saving plan given disk (Err stop) after left) (whole c me x from i (some_of i.epoch some) is)
    (stopped_then saving (installing_members c me x i x.seat) (λ y. readying c y from) given after disk left stop fails)

abbrev with_seat : UpNode → Seat → UpNode
with_seat x s = record x { seat = s }

-- the node's record is that of the install now
installs_by : {K : Type 0} → (saving : K → NodeRecord → Saving K) (c : Cluster) (me : ℕ) (x z : UpNode) (i : Install) (seat : Seat) (given after : List Output) (disk left : K) (r : Result UpNode Stop)
    → z ≡ with_seat x (install_of i seat) → changed_by i seat ≡ true → Follows saving (settling c me z i) given disk r after left → Follows saving (installing_members c me x i seat) given disk r after left
installs_by saving c me x z i (Member s) given after disk left r so holds h = absurd (false≢true holds)
installs_by saving c me x z i (Forming s) given after disk left r so holds h =
    subst (λ (b : Bool). Follows saving (if b then settling c me (with_seat x (Forming (installed_with s i))) i else Stays x) given disk r after left) (sym holds)
    (subst (λ (n : UpNode). Follows saving (settling c me n i) given disk r after left) (so ∙ ap (λ (b : Bool). with_seat x (if b then Forming (installed_with s i) else Forming s)) holds) h)

pub installs_so : {K : Type 0} → (saving : K → NodeRecord → Saving K) (c : Cluster) (me : ℕ) (x z : UpNode) (i : Install) (changed : Bool) (given after : List Output) (disk left : K) (r s : Result UpNode Stop)
    → z ≡ installed_in i x → changed ≡ changed_by i x.seat → changed ≡ true → s ≡ r → Follows saving (settling c me z i) given disk r after left → Follows saving (installing_members c me x i x.seat) given disk s after left
installs_so saving c me x z i changed given after disk left r s so is holds same h =
    subst (λ (o : Result UpNode Stop). Follows saving (installing_members c me x i x.seat) given disk o after left) (sym same) (installs_by saving c me x z i x.seat given after disk left r so (sym is ∙ holds) h)
