-- What a node gives behind an install: its Installs, and the start where it has no other member.
use Rattle.std.specs.Prelude.{ℕ, ◌≡◌, ◌≤◌, ◌⊎◌, ◌++◌, ◌==◌, ◌&&◌, ◌||◌, nat_le, Bool, true, false, All, List, [], ◌∷◌, length, None, Some}
use Rattle.std.specs.List.{AllByRecursion, list_any}
use Rattle.std.proofs.Common.{refl, ap, sym, subst, ◌∙◌, inl, inr, arith}
use Rattle.attempt_laws.proofs.Goes.{Goes as GoesBy, chosen_reached, goes_by_call}
use Rattle.attempt_laws.proofs.Stays.{plan_stays}
use Rattle.attempt_laws.proofs.Told.{member_of_plan}
use Rattle.attempt_laws.specs.Machine.{is_member}
use Rattle.cl_base.proofs.SetLemmas.{none_of_zero}
use Rattle.cl_base.specs.Limits.{most_nodes}
use Rattle.cl_base.specs.Sets.{has}
use Rattle.cmm_attempt.proofs.Basics.{and_cases, false_true, none_some, same_number}
use Rattle.cmm_attempt.specs.Attempts.{AttemptState, install_in}
use Rattle.cmm_attempt.specs.Calls.{Call, IsDevice, installs_in, turn}
use Rattle.cmm_attempt.specs.declared.attached.AttachedDevice.{AttachedDevice}
use Rattle.cmm_attempt.specs.declared.plan.Plan.{Plan}
use Rattle.cmm_member.specs.Nodes.{NodeState}
use Rattle.cmm_member.specs.Records.{NodeRecord}
use Rattle.history.specs.Member.{members_of}
use Rattle.history.specs.Moment.{Moment}
use Rattle.history.specs.Setting.{coordinator}
use Rattle.history.specs.Trace.{attempt}
use Rattle.membership_machine.specs.State.{Memberships}
use Rattle.node_model.specs.Seats.{state_of}
use Rattle.node_model.specs.declared.cluster.Cluster.{Cluster}
use Rattle.node_model.specs.declared.node.Node.{Node}
use Rattle.node_model.specs.declared.node.Node.TheVariants.{Up}
use Rattle.node_model.specs.declared.node.UpNode.{UpNode}
use Rattle.node_model.specs.declared.output.Output.{Output}
use Rattle.node_model.specs.declared.output.Output.TheVariants.{Sends, Tells}
use Rattle.refinement.proofs.Attempts.{install_epoch, may_be_called}
use Rattle.refinement.specs.Doings.{Doing, given_all, site}
use Rattle.refinement.specs.Doings.Act.{Makes, Writes}
use Rattle.refinement.specs.Doings.Change.{Counts, Installs, Starts}
use Rattle.refinement.specs.Doings.Doing.{Does, Forgets, Loses, Saves}
use Rattle.refinement.specs.Guards.{MayCall, MayChange}
use Rattle.refinement.specs.Ties.{Coordinates, Delivered}
use Rattle.run_history.proofs.Changes.{At, at_attempt}
use Rattle.status_report.specs.declared.entry.Entry.{Entry}
use Rattle.status_report.specs.declared.entry.Entry.TheVariants as entry
use Rattle.status_report.specs.declared.node_entry.NodeEntry.TheVariants as note
use Rattle.wire.specs.declared.message.Body.{Body}
use Rattle.wire.specs.declared.message.Body.TheVariants as body
use Rattle.wire.specs.declared.message.Install.{Install}
use Rattle.run_packets.specs.installs.Passing.{AreElse, AttemptFew, FollowsIn, InstallFew, IsElse, IsLined, IsListed, IsMember, IsOther, IsSent, IsStarted, IsYoung, NoMember, OutSo, OutsSo, Passed, ReadingBy, SendsNext, StartsNext}
use Rattle.run_packets.proofs.installs.Alone.{install_by_one}
use Rattle.run_packets.proofs.installs.Few.{install_few}
use Rattle.run_packets.proofs.installs.Young.{still_stays}
use Rattle.run_packets.proofs.installs.Attempts.{still_call}

-- ---- the Installs behind an install

others_so : (before : List Moment) (n : ℕ) (first : Output) (os : List Output) → IsElse first → OutSo before n first os
others_so before n (Sends to b) os is = tt
others_so before n (Tells e) os is = by_entry e is
  where
    by_entry : (z : Entry) → IsElse (Tells z) → OutSo before n (Tells z) os
    by_entry (entry.Node k (note.Installed e)) is = absurd is
    by_entry _ is = tt

pub else_first : (before : List Moment) (n : ℕ) (first rest : List Output) → AreElse first → OutsSo before n rest → OutsSo before n (first ++ rest)
else_first before n [] rest are h = h
else_first before n (o ∷ first) rest are h = (others_so before n o (first ++ rest) are.0, else_first before n first rest are.1 h)

-- the Installs that come next
sent_next : (c : Cluster) (n m : ℕ) (b : Body) (y : UpNode) (disk : NodeRecord) (ds : List Doing) → SendsNext m b ds → IsSent m b (given_all c n (site (Up y) disk) ds)
sent_next c n m b y disk (Does (Writes to other) ∷ ds) (inl here) = inl here
sent_next c n m b y disk (Does (Writes to other) ∷ ds) (inr later) = inr (sent_next c n m b y disk ds later)
sent_next c n m b y disk _ h = absurd h

both_true : (a b : Bool) → a ≡ true → b ≡ true → (a && b) ≡ true
both_true a b h k = cc

low_number : (m : ℕ) → m ≤ most_nodes → nat_le m 32 ≡ true
low_number m h = grind arith

-- another member, by the line of the attempt, is one of the attempt
other_of : (c : Cluster) (M : Memberships) (n : ℕ) (s : NodeState) (before : List Moment) (a t : AttemptState) (e m : ℕ) → Coordinates c M n s a → t.plan ≡ a.plan → e ≡ a.plan.epoch → coordinator e ≡ n → IsLined before a → IsMember before e m → IsOther t m
other_of c M n s before a t e m co same epoch own lined member = (
  subst (λ (p : Plan). list_any (λ k. k == m) p.nodes ≡ true) (sym same)
      (member_of_plan M a m co.has ∙ by_lined (subst (λ z. has (members_of z before) m ≡ true) epoch member.1) lined),
  λ is. member.2 (is ∙ (ap (λ (p : Plan). p.coordinator) same ∙ (co.coordinator ∙ sym own))),
)
  where
    by_lined : has (members_of a.plan.epoch before) m ≡ true → IsLined before a → is_member a.plan.members m ≡ true
    by_lined has_m (inl is) = both_true (nat_le m 32) (has a.plan.members m) (low_number m member.0) (subst (λ set. has set m ≡ true) is has_m)
    by_lined has_m (inr none) = absurd (false_true (sym (none_of_zero m) ∙ subst (λ set. has set m ≡ true) none.0 has_m))

pub passed_on : (c : Cluster) (M : Memberships) (before : List Moment) (n : ℕ) (told : Delivered) (disk kept : NodeRecord) (x y : UpNode) (a : AttemptState) (k : Call) (s : NodeState) (i : Install) (ds : List Doing) → length c.attached ≤ 16
    → At c M n told disk x → MayChange c n told x (Counts a k s i) → IsLined before a → AttemptFew c (turn a k).after → FollowsIn n (Counts a k s i) ds → coordinator i.epoch ≡ n
    → (m : ℕ) → IsMember before i.epoch m → Passed m (given_all c n (site (Up y) kept) ds)
passed_on c M before n told disk kept x y a k s i ds small at may lined few follows own m member =
    at_attempt c M n told disk x a (Passed m (given_all c n (site (Up y) kept) ds)) at may.0
    (λ q shows co.
    let goes : GoesBy a.phase (turn a k) = goes_by_call a k (may_be_called c told a k may.2) (chosen_reached a co.reached) in
    let is : i ≡ install_in (turn a k).after = (goes.install i may.3).1 in
    let same : (turn a k).after.plan ≡ a.plan = plan_stays a k (may_be_called c told a k may.2) in
    let epoch : i.epoch ≡ a.plan.epoch = ap (λ (j : Install). j.epoch) is ∙ (install_epoch (turn a k).after ∙ ap (λ (p : Plan). p.epoch) same) in
    record {
      install = i;
      few = subst InstallFew (sym is) (install_few (turn a k).after few.0 (subst (λ (l : List AttachedDevice). length l ≤ 16) (sym few.1) small));
      goes = sent_next c n m (body.Install i) y kept ds (follows.0 m (other_of c M n q before a (turn a k).after i.epoch m co same epoch own lined member));
    })

-- ---- the start behind an install

each_listed : (P : ℕ → Type 0) (ns : List ℕ) → ((k : ℕ) → list_any (λ j. j == k) ns ≡ true → P k) → AllByRecursion P ns
each_listed P [] h = tt
each_listed P (k ∷ ns) h = (h k (or_first (k == k) (list_any (λ j. j == k) ns) (grind arith)), each_listed P ns (λ j is. h j (or_later (k == j) (list_any (λ i. i == j) ns) is)))
  where
    or_first : (a b : Bool) → a ≡ true → (a || b) ≡ true
    or_first true b h = refl
    or_first false b h = absurd (false_true h)

    or_later : (a b : Bool) → b ≡ true → (a || b) ≡ true
    or_later true b h = refl
    or_later false b h = h

-- where its line has no other member the attempt has none
alone_of : (c : Cluster) (M : Memberships) (n : ℕ) (told : Delivered) (s : NodeState) (before : List Moment) (a : AttemptState) (k : Call) (i : Install) (e : ℕ) → Coordinates c M n s a → e ≡ a.plan.epoch → coordinator e ≡ n → MayCall c told a k
    → installs_in (turn a k).steps ≡ Some i → IsLined before a → (told ≡ None) ⊎ IsListed before a → NoMember before e → AllByRecursion (λ j. j ≡ n) a.plan.nodes
alone_of c M n told s before a k i e co epoch own may installs lined placed none = by_lined lined placed
  where
    low_of : (j : ℕ) → nat_le j 32 ≡ true → j ≤ most_nodes
    low_of j h = grind arith

    listed_alone : IsListed before a → AllByRecursion (λ j. j ≡ n) a.plan.nodes
    listed_alone listed = each_listed (λ j. j ≡ n) a.plan.nodes (λ j is. by_test j (j == n) refl (and_cases (nat_le j 32) (has a.plan.members j) (sym (member_of_plan M a j co.has) ∙ is)))
      where
        by_test : (j : ℕ) (b : Bool) → (j == n) ≡ b → (nat_le j 32 ≡ true) × (has a.plan.members j ≡ true) → j ≡ n
        by_test j true is member = same_number j n is
        by_test j false is member =
            absurd (none j (low_of j member.0, subst (λ z. has (members_of z before) j ≡ true) (sym epoch) (subst (λ set. has set j ≡ true) (sym listed) member.1), λ same. unlike j (same ∙ own) is))
          where
            unlike : (k : ℕ) → k ≡ n → (k == n) ≡ false → ⊥
            unlike k h g = grind arith

    by_lined : IsLined before a → (told ≡ None) ⊎ IsListed before a → AllByRecursion (λ j. j ≡ n) a.plan.nodes
    by_lined lined (inr listed) = listed_alone listed
    by_lined (inl listed) (inl silent) = listed_alone listed
    by_lined (inr young) (inl silent) = by_young young.1
      where
        by_young : IsYoung a → AllByRecursion (λ j. j ≡ n) a.plan.nodes
        by_young (inl waits) = absurd (none_some i (sym (still_stays a k (may_be_called c told a k may) (still_call c told a k may silent) waits).1 ∙ installs))
        by_young (inr one) = subst (λ m. AllByRecursion (λ j. j ≡ m) a.plan.nodes) co.coordinator one

-- the start that comes next
start_next : (c : Cluster) (n e : ℕ) (y : UpNode) (disk : NodeRecord) (ds : List Doing) → StartsNext e ds → IsStarted n e (given_all c n (site (Up y) disk) ds)
start_next c n e y disk (Saves (Starts a k s) ∷ ds) h = inr (inl h)
start_next c n e y disk (Does (Makes (Starts a k s)) ∷ ds) h = inl h
start_next c n e y disk (Loses (Starts a k s) why ∷ ds) h = inl (refl, h)
start_next c n e y disk (Forgets (Starts a k s) why ∷ ds) h = inl (refl, h)
start_next c n e y disk _ h = absurd h

pub started_on : (c : Cluster) (M : Memberships) (before : List Moment) (n : ℕ) (told : Delivered) (disk kept : NodeRecord) (x y : UpNode) (a : AttemptState) (k : Call) (s : NodeState) (i : Install) (ds : List Doing) → All IsDevice c.attached
    → At c M n told disk x → MayChange c n told x (Counts a k s i) → (state_of x.seat).me ≡ n → IsLined before a → (told ≡ None) ⊎ IsListed before a → AttemptFew c (turn a k).after → FollowsIn n (Counts a k s i) ds → coordinator i.epoch ≡ n
    → NoMember before i.epoch → IsStarted n i.epoch (given_all c n (site (Up y) kept) ds)
started_on c M before n told disk kept x y a k s i ds fits at may me lined placed few follows own none =
    at_attempt c M n told disk x a (IsStarted n i.epoch (given_all c n (site (Up y) kept) ds)) at may.0
    (λ q shows co.
    let goes : GoesBy a.phase (turn a k) = goes_by_call a k (may_be_called c told a k may.2) (chosen_reached a co.reached) in
    let is : i ≡ install_in (turn a k).after = (goes.install i may.3).1 in
    let same : (turn a k).after.plan ≡ a.plan = plan_stays a k (may_be_called c told a k may.2) in
    let epoch : i.epoch ≡ a.plan.epoch = ap (λ (j : Install). j.epoch) is ∙ (install_epoch (turn a k).after ∙ ap (λ (p : Plan). p.epoch) same) in
    let one : AllByRecursion (λ j. j ≡ n) (turn a k).after.plan.nodes =
    subst (λ (p : Plan). AllByRecursion (λ j. j ≡ n) p.nodes) (sym same) (alone_of c M n told q before a k i i.epoch co epoch own may.2 may.3 lined placed none) in
    start_next c n i.epoch y kept ds
    (follows.1 (record {
      alone = (ap (λ (p : Plan). p.coordinator) same ∙ co.coordinator, one);
      me = ap (λ z. (state_of z).me) (sym may.1) ∙ me;
      own = subst (λ (j : Install). AllByRecursion (ReadingBy n) j.readings) (sym is) (install_by_one n (turn a k).after (subst (λ (l : List AttachedDevice). All IsDevice l) (sym few.1) fits) one few.2);
    })))
