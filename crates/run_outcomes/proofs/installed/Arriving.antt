-- What is known of a node where a packet comes to it.
use Rattle.std.specs.Prelude.{ℕ, ◌==◌, ◌&&◌, ◌||◌, ◌<◌, ◌≡◌, ◌≢◌, ◌≤◌, ◌⊎◌, not, Bool, true, false, List, ◌∷◌, None, Some}
use Rattle.std.proofs.Common.{refl, sym, ap, subst, ◌∙◌, inl, inr}
use Rattle.cl_base.specs.declared.method.Outcome as method
use Rattle.cmm_attempt.proofs.Basics.{and_cases, false_true, same_number, same_some}
use Rattle.history.specs.Letters.{Letter, is_letter, letter_of, passes}
use Rattle.history.specs.Member.{number_of}
use Rattle.history.specs.Messages.{are_same}
use Rattle.history.specs.Moment.{Moment}
use Rattle.history.specs.Names.{named, same_name}
use Rattle.history.specs.Names as name
use Rattle.history.specs.Seizing.{is_number}
use Rattle.history.specs.Setting.{coordinator}
use Rattle.history.specs.Trace.{delivered}
use Rattle.interconnect.specs.Links.{Packet, packet_of}
use Rattle.node_model.specs.Members.{is_foreign}
use Rattle.node_model.specs.Seats.{installed_of, promised_of, session_of}
use Rattle.node_model.specs.Steps.{stepped}
use Rattle.node_model.specs.declared.cluster.Cluster.{Cluster}
use Rattle.node_model.specs.declared.input.Input.{Input}
use Rattle.node_model.specs.declared.input.Input.TheVariants as input
use Rattle.node_model.specs.declared.node.Node.{Node}
use Rattle.node_model.specs.declared.node.Node.TheVariants.{Down, Up}
use Rattle.node_model.specs.declared.node.UpNode.{UpNode}
use Rattle.record_disk.specs.Disks.{DiskState}
use Rattle.refinement.proofs.EveryRun.{is_true}
use Rattle.refinement.proofs.Handlers.{delivered_by}
use Rattle.refinement.specs.Guards.{Says}
use Rattle.refinement.specs.Runs.{WasSent}
use Rattle.refinement.specs.Steps.{disk_rules}
use Rattle.refinement.specs.Ties.{Delivered, InstallTold, MessageTold, NodeTied}
use Rattle.run_history.proofs.ContactFlying.{found_posted, number_found}
use Rattle.run_history.specs.Causes.{Caused, Posted}
use Rattle.run_history.specs.Happenings.{IsPlain, removed}
use Rattle.run_history.specs.Scenes.{Scene, telling}
use Rattle.run_history.specs.Stages.{Stage}
use Rattle.run_packets.specs.views.Laws.{is_foreign_to}
use Rattle.run_seizings.proofs.Promising.{and_both, same_so}
use Rattle.status_report.specs.declared.entry.Entry.TheVariants as entry
use Rattle.status_report.specs.declared.packet_entry.PacketEntry.TheVariants as packet
use Rattle.wire.specs.Reads.{whole_of}
use Rattle.wire.specs.Spelling.{IsNode}
use Rattle.wire.specs.declared.message.Body.{Body}
use Rattle.wire.specs.declared.message.Body.TheVariants as body
use Rattle.wire.specs.declared.message.Install.{Install}
use Rattle.wire.specs.declared.message.Message.{Message}
use Rattle.world_model.specs.Sends.{name_of}
use Rattle.run_outcomes.proofs.installed.Lines.{NotInstall, else_of, none_come, other_of}
use Rattle.run_outcomes.proofs.installed.Steps.{Sure, install_low, none_sure, step_sure}
use Rattle.run_outcomes.proofs.installed.Taking.{Comes, Ready, SoAt, came_so}
use Rattle.run_outcomes.specs.reports.Installs.{InstallsIn, InstallsSo, IsInstallOf, has_come, is_of}
use Rattle.run_outcomes.specs.saves.Kept.{IsAt}

-- ---- what comes to a node

in_hand : (came : ℕ → Bool) (n : ℕ) (told : Delivered) (x : UpNode) → InstallsSo came n x → InstallsIn came n told x
in_hand came n told x k = record { low = k.low; back = k.back; forth = λ some other is. inl (k.forth some other is) }

-- no packet comes
pub none_ready : (c : Cluster) (n now : ℕ) (ends : method.Outcome) (i : Input) (s : Scene) (node : Node) → delivered_by i ≡ None → SoAt n s.moments node → Ready c n now ends i s node
none_ready c n now ends i s Down none k = tt
none_ready c n now ends i s (Up x) none k =
    let came : ℕ → Bool = λ e. has_come n e s.moments in
    let after : Node = (stepped disk_rules c n now ends (Up x) (s.nodes.disk n) i).after in
    subst (λ told. Comes came n told x after) (sym none) (record { hand = λ j says. absurd says; here = in_hand came n None x k; sure = none_sure after })

pub plain_none : (i : Input) → IsPlain i → delivered_by i ≡ None
plain_none (input.Packet from m) is = absurd is
plain_none input.Boot is = refl
plain_none input.Crash is = refl
plain_none input.Tick is = refl
plain_none input.CommandDue is = refl
plain_none (input.Answered a) is = refl
plain_none (input.Wrote d value a) is = refl
plain_none (input.Commanded words) is = refl
plain_none (input.Reported r good) is = refl
plain_none (input.Client name number port) is = refl

or_first : (a b : Bool) → a ≡ true → (a || b) ≡ true
or_first true b is = refl
or_first false b is = absurd (false_true is)

or_later : (a b : Bool) → b ≡ true → (a || b) ≡ true
or_later true b is = refl
or_later false b is = is

or_cases : (a b : Bool) → (a || b) ≡ true → (a ≡ true) ⊎ (b ≡ true)
or_cases true b is = inl refl
or_cases false b is = inr is

-- the letter of the packet that comes
record Letters (s : Scene) (number : ℕ) (x : Packet) (b : Body) : Type 0 where
  letter : Letter
  at : letter_of number s.moments ≡ Some letter
  called : letter.name ≡ named (name_of b)
  receiver : letter.to ≡ x.to
  caused : Caused letter.before letter.from b

letter_at : (c : Cluster) (s : Scene) (number : ℕ) (x : Packet) (m : Message) → Stage c s → packet_of s.links.packets number ≡ Some x → whole_of x.bytes ≡ Some m → Letters s number x m.body
letter_at c s number x m b at reads =
    let p : Posted s.moments s.links.next x = found_posted s.moments s.links number x b.flying at in
    record {
      letter = p.letter;
      at = ap (λ j. letter_of j s.moments) (sym (number_found s.links number x at)) ∙ p.sent_so;
      called = (p.says m reads).0;
      receiver = p.receiver;
      caused = subst (λ k. Caused p.letter.before k m.body) (sym p.sender) (p.says m reads).1;
    }

-- it came with this line, or before
came_then : (n e number from : ℕ) (ms : List Moment) (l : Letter) → letter_of number ms ≡ Some l → has_come n e (delivered number from n ∷ ms) ≡ (is_of n e l || has_come n e ms)
came_then n e number from ms l at = ap (λ o. passes (is_of n e) o || has_come n e ms) at

is_epoch : (n e q : ℕ) (l : Letter) → number_of l ≡ Some q → is_of n e l ≡ true → e ≡ q
is_epoch n e q l at is =
    let parts : (is_letter name.Install l.from n l ≡ true) × ((are_same (Some e) (number_of l) && true) ≡ true) = and_cases (is_letter name.Install l.from n l) _ is in
    sym (same_number q e (ap (is_number e) (sym at) ∙ (and_cases (is_number e (number_of l)) true parts.1).0))

is_install : (n q : ℕ) (l : Letter) → l.name ≡ name.Install → l.to ≡ n → number_of l ≡ Some q → is_of n q l ≡ true
is_install n q l called to at =
    and_both (is_letter name.Install l.from n l) (are_same (Some q) (number_of l) && true)
    (and_both (same_name l.name name.Install && (l.from == l.from)) (l.to == n)
    (and_both (same_name l.name name.Install) (l.from == l.from) (ap (λ z. same_name z name.Install) called) (same_so l.from l.from refl)) (same_so l.to n to))
    (and_both (is_number q (number_of l)) true (ap (is_number q) at ∙ same_so q q refl) refl)

install_ready : (n from number : ℕ) (m : Message) (i : Install) (ms : List Moment) (x : UpNode) (l : Letter) (after : Node) → m.body ≡ body.Install i → letter_of number ms ≡ Some l → is_of n i.epoch l ≡ true → number_of l ≡ Some i.epoch
    → i.epoch ≤ promised_of x → IsAt (Sure (Some (from, m))) after → InstallsSo (λ e. has_come n e ms) n x → Comes (λ e. has_come n e (delivered number from n ∷ ms)) n (Some (from, m)) x after
install_ready n from number m i ms x l after is at here numbered low sure k = record {
  hand = λ j says. subst (λ (z : Install). has_come n z.epoch (delivered number from n ∷ ms) ≡ true) (same_install i j (sym is ∙ says)) (now i.epoch here);
  here = record {
    low = λ e came. by_low e (or_cases (is_of n e l) (has_come n e ms) (sym (came_then n e number from ms l at) ∙ came));
    back = λ some other same. came_then n (session_of x) number from ms l at ∙ or_later (is_of n (session_of x) l) (has_come n (session_of x) ms) (k.back some other same);
    forth = λ some other came. by_forth some other (or_cases (is_of n (session_of x) l) (has_come n (session_of x) ms) (sym (came_then n (session_of x) number from ms l at) ∙ came));
  };
  sure = sure;
}
  where
    same_install : (a b : Install) → body.Install a ≡ body.Install b → a ≡ b
    same_install a b e = cc

    now : (e : ℕ) → is_of n e l ≡ true → has_come n e (delivered number from n ∷ ms) ≡ true
    now e of = came_then n e number from ms l at ∙ or_first (is_of n e l) (has_come n e ms) of

    by_low : (e : ℕ) → (is_of n e l ≡ true) ⊎ (has_come n e ms ≡ true) → e ≤ promised_of x
    by_low e (inl of) = subst (λ q. q ≤ promised_of x) (sym (is_epoch n e i.epoch l numbered of)) low
    by_low e (inr before) = k.low e before

    by_forth : 0 < session_of x → coordinator (session_of x) ≢ n → (is_of n (session_of x) l ≡ true) ⊎ (has_come n (session_of x) ms ≡ true)
        → (installed_of x ≡ session_of x) ⊎ Says (IsInstallOf (session_of x)) (Some (from, m))
    by_forth some other (inl of) = inr (subst (IsInstallOf (session_of x)) (sym is) (sym (is_epoch n (session_of x) i.epoch l numbered of)))
    by_forth some other (inr before) = inl (k.forth some other before)

else_ready : (n from number : ℕ) (m : Message) (ms : List Moment) (x : UpNode) (after : Node) → ((i : Install) → m.body ≡ body.Install i → ⊥) → ((e : ℕ) → has_come n e (delivered number from n ∷ ms) ≡ has_come n e ms)
    → IsAt (Sure (Some (from, m))) after → InstallsSo (λ e. has_come n e ms) n x → Comes (λ e. has_come n e (delivered number from n ∷ ms)) n (Some (from, m)) x after
else_ready n from number m ms x after none same sure k = record {
  hand = λ j says. absurd (none j says);
  here = in_hand (λ e. has_come n e (delivered number from n ∷ ms)) n (Some (from, m)) x
      (came_so n (λ e. has_come n e ms) (λ e. has_come n e (delivered number from n ∷ ms)) (Up x) same k);
  sure = sure;
}

-- a packet comes to the node
pub packet_ready : (c : Cluster) (s : Scene) (number now : ℕ) (ends : method.Outcome) (x : Packet) (m : Message) (node : Node) → Stage c s → IsNode x.to → WasSent s.nodes (input.Packet x.from m) → s.nodes.node x.to ≡ node
    → packet_of s.links.packets number ≡ Some x → whole_of x.bytes ≡ Some m → false ≡ is_foreign_to c x.to node m.body → SoAt x.to s.moments node
    → Ready c x.to now ends (input.Packet x.from m) (telling (entry.Packet (packet.Delivered number x.from x.to)) (removed s number)) node
packet_ready c s number now ends x m Down b is was up at reads off k = tt
packet_ready c s number now ends x m (Up w) b is was up at reads off k = by_body m.body refl
  where
    n : ℕ
    n = x.to

    disk : DiskState
    disk = s.nodes.disk n

    tied : NodeTied c b.machine n disk.kept (Up w)
    tied = subst (NodeTied c b.machine n disk.kept) up (b.stands n).tied

    after : Node
    after = (stepped disk_rules c n now ends (Up w) disk (input.Packet x.from m)).after

    sure : IsAt (Sure (Some (x.from, m))) after
    sure = step_sure c b.machine n now ends w disk x.from m b.holds tied (sym off)

    p : Letters s number x m.body
    p = letter_at c s number x m b at reads

    Goal : Type 0
    Goal = Comes (λ e. has_come n e (delivered number x.from n ∷ s.moments)) n (Some (x.from, m)) w after

    else_so : (q : Body) → m.body ≡ q → NotInstall q → ((i : Install) → q ≡ body.Install i → ⊥) → Goal
    else_so q said not none =
        else_ready n x.from number m s.moments w after (λ i says. none i (sym said ∙ says))
        (λ e. none_come n e number x.from n s.moments (λ l found. else_of n e l q (ap (λ (z : Letter). z.name) (same_some l p.letter (sym found ∙ p.at)) ∙ (p.called ∙ ap (λ z. named (name_of z)) said)) not)) sure k

    by_body : (q : Body) → m.body ≡ q → Goal
    by_body (body.Install i) said =
        let caused : Caused p.letter.before p.letter.from (body.Install i) = subst (Caused p.letter.before p.letter.from) said p.caused in
        let told : InstallTold b.machine i = subst (MessageTold b.machine x.from) said (is_true b.machine s.nodes (input.Packet x.from m) was b.sent) in
        install_ready n x.from number m i s.moments w p.letter after said p.at (is_install n i.epoch p.letter (p.called ∙ ap (λ z. named (name_of z)) said) p.receiver caused.1) caused.1
        (install_low c b.machine n disk.kept w i is.1 b.holds tied told (subst (λ z. is_foreign c n w z ≡ false) said (sym off))) sure k
    by_body (body.Heartbeat promised session is_one) said = else_so (body.Heartbeat promised session is_one) said tt (λ i same. cc)
    by_body (body.Collect e members) said = else_so (body.Collect e members) said tt (λ i same. cc)
    by_body (body.Promise e newest members valid flagged committed pending) said = else_so (body.Promise e newest members valid flagged committed pending) said tt (λ i same. cc)
    by_body (body.Nack e promised) said = else_so (body.Nack e promised) said tt (λ i same. cc)
    by_body (body.SeizeQuorum e members d) said = else_so (body.SeizeQuorum e members d) said tt (λ i same. cc)
    by_body (body.SeizeData e members d) said = else_so (body.SeizeData e members d) said tt (λ i same. cc)
    by_body (body.Seized e d r) said = else_so (body.Seized e d r) said tt (λ i same. cc)
    by_body (body.Ready e joined report) said = else_so (body.Ready e joined report) said tt (λ i same. cc)
    by_body (body.Start e) said = else_so (body.Start e) said tt (λ i same. cc)
    by_body (body.Prepare e place text) said = else_so (body.Prepare e place text) said tt (λ i same. cc)
    by_body (body.Prepared e place) said = else_so (body.Prepared e place) said tt (λ i same. cc)
    by_body (body.Commit e place) said = else_so (body.Commit e place) said tt (λ i same. cc)
    by_body (body.Order order) said = else_so (body.Order order) said tt (λ i same. cc)
    by_body (body.Done e order outcome) said = else_so (body.Done e order outcome) said tt (λ i same. cc)
    by_body (body.Request e request words) said = else_so (body.Request e request words) said tt (λ i same. cc)
    by_body (body.Answer e request words) said = else_so (body.Answer e request words) said tt (λ i same. cc)
    by_body (body.Excluded e newest) said = else_so (body.Excluded e newest) said tt (λ i same. cc)

-- .. and not to others
pub others_then : (c : Cluster) (s : Scene) (number : ℕ) (x : Packet) (m : Message) → Stage c s → packet_of s.links.packets number ≡ Some x → whole_of x.bytes ≡ Some m → (k : ℕ) → k ≢ x.to → SoAt k s.moments (s.nodes.node k)
    → SoAt k (delivered number x.from x.to ∷ s.moments) (s.nodes.node k)
others_then c s number x m b at reads k ne so =
    let p : Letters s number x m.body = letter_at c s number x m b at reads in
    came_so k (λ e. has_come k e s.moments) (λ e. has_come k e (delivered number x.from x.to ∷ s.moments)) (s.nodes.node k)
    (λ e. none_come k e number x.from x.to s.moments (λ l found. other_of k e l (λ to. ne (sym to ∙ (ap (λ (z : Letter). z.to) (same_some l p.letter (sym found ∙ p.at)) ∙ p.receiver))))) so
