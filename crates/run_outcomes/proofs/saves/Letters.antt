-- At each message of an attempt the rules let a node save where it does.
use Rattle.std.specs.Prelude.{ℕ, ◌≡◌, ◌<◌, ◌≤◌, ◌==◌, ◌&&◌, nat_le, All, Bool, true, false, List, [], Option, None, Some, is_some}
use Rattle.std.specs.List.{list_any}
use Rattle.std.proofs.Common.{refl, sym, ap, subst, ◌∙◌, arith}
use Rattle.cl_base.specs.declared.method.Outcome as method
use Rattle.cmm_attempt.proofs.Basics.{and_cases, false_true, same_number}
use Rattle.cmm_attempt.specs.Attempts.{AttemptState}
use Rattle.cmm_attempt.specs.Calls.{IsDevice}
use Rattle.cmm_member.specs.Nodes.{NodeState}
use Rattle.cmm_member.specs.Records.{NodeRecord}
use Rattle.history.specs.Letters.{Letter, arrived}
use Rattle.history.specs.Member as member
use Rattle.history.specs.Member.{attempt_of, number_of}
use Rattle.history.specs.Moment.{Moment}
use Rattle.history.specs.Names.{named}
use Rattle.history.specs.Order.{under_way}
use Rattle.history.specs.Records.{record_of}
use Rattle.history.specs.Saves.{attempts, has_pending, may_save, or_zero, saves_at}
use Rattle.history.specs.Seizing.{acts_for, is_install, is_number}
use Rattle.history.specs.Setting.{Setting, coordinator}
use Rattle.history.specs.UnderWay.{is_under_way}
use Rattle.membership_machine.specs.Invariant.{Holds, NodeOk}
use Rattle.membership_machine.specs.Records.{Saved}
use Rattle.membership_machine.specs.State.{Memberships}
use Rattle.node_model.specs.Seats as seats
use Rattle.node_model.specs.Seats.{is_in, session_of, state_of}
use Rattle.node_model.specs.Steps.{Outcome, stepped}
use Rattle.node_model.specs.declared.cluster.Cluster.{Cluster}
use Rattle.node_model.specs.declared.input.Input.TheVariants as input
use Rattle.node_model.specs.declared.node.Node.{Node}
use Rattle.node_model.specs.declared.node.Node.TheVariants.{Down, Up}
use Rattle.node_model.specs.declared.node.UpNode.{UpNode}
use Rattle.node_model.specs.declared.seat.Seat.{Seat}
use Rattle.node_model.specs.declared.seat.Seat.TheVariants.{Forming}
use Rattle.record_disk.specs.Disks.{DiskState, saving}
use Rattle.refinement.proofs.Cuts.{step_of_node_is_its_course}
use Rattle.refinement.specs.Cuts.{course_at}
use Rattle.refinement.specs.Runs.{Nodes}
use Rattle.refinement.specs.Steps.{disk_rules}
use Rattle.refinement.specs.Ties.{NodeTied, SeatTied, setting_of}
use Rattle.refinement.specs.Whole.{Stands}
use Rattle.schedule_text.specs.declared.event.Event.{Event}
use Rattle.schedule_text.specs.declared.event.Event.TheVariants as event
use Rattle.wire.specs.declared.message.Body.{Body}
use Rattle.wire.specs.declared.message.Body.TheVariants as body
use Rattle.wire.specs.declared.message.Install.{Install}
use Rattle.wire.specs.declared.message.Message.{Message}
use Rattle.world_model.specs.Sends.{name_of}
use Rattle.run_history.specs.Scenes.{Scene, passing}
use Rattle.run_messages.specs.records.Kept.{AttemptIn, Came, NodeKept}
use Rattle.run_messages.specs.records.Shown.{RecordIn}
use Rattle.run_seizings.specs.Seized.{has_installed}
use Rattle.run_seizings.proofs.Tasks.{acts_so}
use Rattle.run_downs.proofs.Packets.{no_packets}
use Rattle.run_downs.proofs.Rules.{StopsIf}
use Rattle.run_downs.proofs.Steps.{packet_fine}
use Rattle.run_downs.proofs.Updates.{IsDelivering, both_so, letter_saves, pending_so}
use Rattle.run_attempts.specs.endings.Laws.{epoch_at, epoch_of}
use Rattle.run_outcomes.specs.saves.Kept.{AllHere, IsOnWay, OnWay, Rests, is_left, is_left_by, is_left_in}
use Rattle.run_outcomes.specs.saves.Courses.{InstallsAt, InstallsNow, StartsPending}
use Rattle.run_outcomes.proofs.saves.Here.{IsSilent, silent_here, stops_here}
use Rattle.run_outcomes.proofs.saves.AtInstall.{IsInstallBody, install_saves}
use Rattle.run_outcomes.proofs.saves.Once.{IsNackBody, IsReadyBody, SavesOnce, nack_saves, once_stops, ready_saves}
use Rattle.run_outcomes.proofs.saves.Trying.{Answers}
use Rattle.run_outcomes.proofs.saves.Walk.{answer_here}
use Rattle.run_outcomes.proofs.saves.Ways.{on_attempts}

-- ---- the attempt of a node is under way

itself : (e : ℕ) → (e == e) ≡ true
itself e = grind arith

pub on_way : (M : Memberships) (v : Nodes) (ms : List Moment) (n : ℕ) (node : Node) → ((e : ℕ) → is_under_way e ms ≡ is_number e (epoch_at (v.node (coordinator e)))) → v.node n ≡ node → NodeKept M ms n node → IsOnWay n ms node
on_way M v ms n Down theirs at kept = tt
on_way M v ms n (Up x) theirs at kept = by_attempt x.attempt refl kept.attempt
  where
    by_attempt : (o : Option AttemptState) → x.attempt ≡ o → AttemptIn M ms n (seats.record_of x) o → OnWay n ms (epoch_of o)
    by_attempt None is k = tt
    by_attempt (Some a) is k =
        let e : ℕ = a.plan.epoch in
        (k.own, theirs e ∙ (ap (λ j. is_number e (epoch_at (v.node j))) k.own ∙ (ap (λ z. is_number e (epoch_at z)) at ∙ (ap (λ z. is_number e (epoch_of z)) is ∙ itself e))))

-- ---- where a node installs it acts for that epoch

same_so : (a e : ℕ) → a ≤ e → e ≤ a → (a == e) ≡ true
same_so a e h k = grind arith

above : (e : ℕ) → nat_le 1 e ≡ true → 0 < e
above e h = grind arith

-- it is in the session of the epoch
session_is : (x : UpNode) (e : ℕ) → is_in x e ≡ true → (0 < e) × (session_of x ≡ e)
session_is x e h =
    let two : (nat_le 1 e ≡ true) × ((session_of x == e) ≡ true) = and_cases (nat_le 1 e) (session_of x == e) h in
    (above e two.0, same_number (session_of x) e two.1)

-- what it has installed is at most its session
installed_most : (c : Cluster) (M : Memberships) (n : ℕ) (x : UpNode) (s : NodeState) (disk : NodeRecord) → Holds (setting_of c) M → SeatTied c M n disk x.attempt (Forming s) → 0 < s.session → s.saved.installed ≤ s.session
installed_most c M n x s disk holds tied some =
    let ok : NodeOk M.epoch n (M.node n) = holds.node n in
    let session : s.session ≡ (M.node n).promised = sym tied.0.session ∙ ok.session (subst (λ k. 0 < k) (sym tied.0.session) some) in
    subst (λ k. s.saved.installed ≤ k) (sym session) (subst (λ k. k ≤ (M.node n).promised) (ap (λ (r : Saved). r.installed) tied.0.saved) ok.installed)

-- in the session of an epoch that it has not installed, no line says that it has
fresh_lines : (c : Cluster) (M : Memberships) (n : ℕ) (x : UpNode) (i : Install) (disk : NodeRecord) (ms : List Moment) → Holds (setting_of c) M → NodeTied c M n disk (Up x)
    → ((e : ℕ) → list_any (is_install n e) ms ≡ true → e ≤ disk.installed) → InstallsNow x i → has_installed n i.epoch ms ≡ false
fresh_lines c M n x i disk ms holds tied low q = by_lines (list_any (is_install n i.epoch) ms) refl
  where
    s : NodeState
    s = q.state

    seat : SeatTied c M n disk x.attempt (Forming s)
    seat = subst (SeatTied c M n disk x.attempt) q.seat tied.0

    here : (0 < i.epoch) × (session_of x ≡ i.epoch)
    here = session_is x i.epoch q.session

    session : s.session ≡ i.epoch
    session = sym (ap (λ (z : Seat). (state_of z).session) q.seat) ∙ here.1

    most : s.saved.installed ≤ i.epoch
    most = subst (λ k. s.saved.installed ≤ k) session (installed_most c M n x s disk holds seat (subst (λ k. 0 < k) (sym session) here.0))

    by_lines : (b : Bool) → list_any (is_install n i.epoch) ms ≡ b → b ≡ false
    by_lines true is = absurd (false_true (sym q.fresh ∙ same_so s.saved.installed i.epoch most (subst (λ (r : NodeRecord). i.epoch ≤ r.installed) seat.1 (low i.epoch is))))
    by_lines false is = refl

install_acts : (c : Cluster) (M : Memberships) (n : ℕ) (x : UpNode) (i : Install) (disk : NodeRecord) (ms : List Moment) (l : Letter) → Holds (setting_of c) M → NodeTied c M n disk (Up x)
    → ((e : ℕ) → list_any (is_install n e) ms ≡ true → e ≤ disk.installed) → (0 < session_of x → member.session_of n ms ≡ Some (session_of x)) → number_of l ≡ Some i.epoch → InstallsNow x i
    → acts_for n (or_zero (number_of l)) ms ≡ true
install_acts c M n x i disk ms l holds tied low session number q =
    let here : (0 < i.epoch) × (session_of x ≡ i.epoch) = session_is x i.epoch q.session in
    subst (λ o. acts_for n (or_zero o) ms ≡ true) (sym number)
    (acts_so n i.epoch ms (session (subst (λ k. 0 < k) (sym here.1) here.0) ∙ ap (λ k. Some k) here.1) (fresh_lines c M n x i disk ms holds tied low q))

-- ---- where a node starts its membership it has an attempt, and an update pending

starts_pending : (c : Cluster) (M : Memberships) (n : ℕ) (x : UpNode) (disk : NodeRecord) (ms : List Moment) → NodeTied c M n disk (Up x) → RecordIn ms n disk → IsOnWay n ms (Up x) → StartsPending x
    → (attempts n (attempt_of n ms) ms && has_pending n ms) ≡ true
starts_pending c M n x disk ms tied record_so on q =
    let seat : SeatTied c M n disk x.attempt (Forming q.state) = subst (SeatTied c M n disk x.attempt) q.seat tied.0 in
    both_so (attempts n (attempt_of n ms) ms) (has_pending n ms) (on_attempts n q.attempt.plan.epoch ms (subst (OnWay n ms) (ap epoch_of q.has) on))
    (pending_so disk (record_of n ms) record_so (ap (λ (r : NodeRecord). is_some r.entries.pending) seat.1 ∙ q.pending))

-- ---- a message

-- the number of an Install is that of the attempt in which it was sent
abbrev pub IsNumbered : Letter → Body → Type 0
IsNumbered l (body.Install i) = number_of l ≡ Some i.epoch
IsNumbered l _ = Unit {0}

-- what is known where a message comes to a node that is up
pub record Known (c : Cluster) (M : Memberships) (n from : ℕ) (b : Body) (x : UpNode) (disk : NodeRecord) (ms : List Moment) : Type 0 where
  pub holds : Holds (setting_of c) M
  pub stands : Stands c M n (Up x) disk
  pub delivers : IsDelivering (under_way ms)
  pub came : Came ms n from b
  pub numbered : IsNumbered came.letter b
  pub record_so : RecordIn ms n disk
  pub on : IsOnWay n ms (Up x)
  pub rests : Rests x
  pub low : (e : ℕ) → list_any (is_install n e) ms ≡ true → e ≤ disk.installed
  pub session : 0 < session_of x → member.session_of n ms ≡ Some (session_of x)

-- it saves at once, where the rules let it, or not at all
once_here : (S : Setting) (c : Cluster) (n now : ℕ) (ends : method.Outcome) (from : ℕ) (m : Message) (x : UpNode) (disk : DiskState) (s : Scene) (Q : Type 0) → SavesOnce Q n (course_at c n now ends x (input.Packet from m))
    → (Q → may_save S n s.moments ≡ true) → AllHere S s.moments → AllHere S (passing n (stepped disk_rules c n now ends (Up x) disk (input.Packet from m)).given s).moments
once_here S c n now ends from m x disk s Q saves rule so =
    stops_here S n Q (stepped disk_rules c n now ends (Up x) disk (input.Packet from m)).given s
    (subst (λ (o : Outcome DiskState). StopsIf Q n o.given) (sym ((step_of_node_is_its_course saving c n now ends x (input.Packet from m)).is [] disk))
    (once_stops Q c n x (course_at c n now ends x (input.Packet from m)) (packet_fine c n now ends x from m) saves disk)) rule so

-- the rules of the letter that has come
letter_may : (S : Setting) (n : ℕ) (b : Body) (l : Letter) (ms : List Moment) → IsDelivering (under_way ms) → arrived ms ≡ Some l → l.to ≡ n → l.name ≡ named (name_of b) → saves_at n l (named (name_of b)) ms ≡ true → may_save S n ms ≡ true
letter_may S n b l ms is here to called saves = letter_saves S n (under_way ms) l ms is here to (subst (λ a. saves_at n l a ms ≡ true) (sym called) saves)

answers_at : (n : ℕ) (l : Letter) (b : Body) (ms : List Moment) → Answers b → attempts n (attempt_of n ms) ms ≡ true → saves_at n l (named (name_of b)) ms ≡ true
answers_at n l (body.Promise e installed members valid flagged committed pending) ms is h = h
answers_at n l (body.Seized e d ended) ms is h = h
answers_at n l _ ms is h = absurd is

ready_at : (n : ℕ) (l : Letter) (b : Body) (ms : List Moment) → IsReadyBody b → (attempts n (attempt_of n ms) ms && has_pending n ms) ≡ true → saves_at n l (named (name_of b)) ms ≡ true
ready_at n l (body.Ready e devices report) ms is h = h
ready_at n l _ ms is h = absurd is

install_at : (c : Cluster) (M : Memberships) (n from : ℕ) (b : Body) (x : UpNode) (disk : NodeRecord) (ms : List Moment) (l : Letter) → Holds (setting_of c) M → NodeTied c M n disk (Up x)
    → ((e : ℕ) → list_any (is_install n e) ms ≡ true → e ≤ disk.installed) → (0 < session_of x → member.session_of n ms ≡ Some (session_of x)) → IsNumbered l b → InstallsAt x b
    → saves_at n l (named (name_of b)) ms ≡ true
install_at c M n from (body.Install i) x disk ms l holds tied low session number q = install_acts c M n x i disk ms l holds tied low session number q
install_at c M n from _ x disk ms l holds tied low session number q = absurd q

answering_here : (S : Setting) (c : Cluster) (M : Memberships) (n now : ℕ) (ends : method.Outcome) (from : ℕ) (m : Message) (x : UpNode) (disk : DiskState) (s : Scene) → n ≤ 32 → All IsDevice c.attached → Known c M n from m.body x disk.kept s.moments → Answers m.body
    → AllHere S s.moments → AllHere S (passing n (stepped disk_rules c n now ends (Up x) disk (input.Packet from m)).given s).moments
answering_here S c M n now ends from m x disk s low fits k is so =
    let l : Letter = k.came.letter in
    answer_here S c M n now ends from m x disk s (under_way s.moments) (Some l) low fits k.holds k.stands is k.on
    (λ ms same here h. letter_may S n m.body l ms (subst IsDelivering (sym same) k.delivers) here k.came.receiver k.came.called (answers_at n l m.body ms is h)) refl k.came.here so

readying_here : (S : Setting) (c : Cluster) (M : Memberships) (n now : ℕ) (ends : method.Outcome) (from : ℕ) (m : Message) (x : UpNode) (disk : DiskState) (s : Scene) → Known c M n from m.body x disk.kept s.moments → IsReadyBody m.body
    → AllHere S s.moments → AllHere S (passing n (stepped disk_rules c n now ends (Up x) disk (input.Packet from m)).given s).moments
readying_here S c M n now ends from m x disk s k is so =
    once_here S c n now ends from m x disk s (StartsPending x) (ready_saves c n now ends x from m is k.rests)
    (λ q. letter_may S n m.body k.came.letter s.moments k.delivers k.came.here k.came.receiver k.came.called
    (ready_at n k.came.letter m.body s.moments is (starts_pending c M n x disk.kept s.moments k.stands.tied k.record_so k.on q))) so

nacking_here : (S : Setting) (c : Cluster) (M : Memberships) (n now : ℕ) (ends : method.Outcome) (from : ℕ) (m : Message) (x : UpNode) (disk : DiskState) (s : Scene) → Known c M n from m.body x disk.kept s.moments → IsNackBody m.body
    → AllHere S s.moments → AllHere S (passing n (stepped disk_rules c n now ends (Up x) disk (input.Packet from m)).given s).moments
nacking_here S c M n now ends from m x disk s k is so = once_here S c n now ends from m x disk s ⊥ (nack_saves c n now ends x from m is k.rests) (λ never. absurd never) so

installing_here : (S : Setting) (c : Cluster) (M : Memberships) (n now : ℕ) (ends : method.Outcome) (from : ℕ) (m : Message) (x : UpNode) (disk : DiskState) (s : Scene) → Known c M n from m.body x disk.kept s.moments → IsInstallBody m.body
    → AllHere S s.moments → AllHere S (passing n (stepped disk_rules c n now ends (Up x) disk (input.Packet from m)).given s).moments
installing_here S c M n now ends from m x disk s k is so =
    once_here S c n now ends from m x disk s (InstallsAt x m.body) (install_saves c n now ends x from m is)
    (λ q. letter_may S n m.body k.came.letter s.moments k.delivers k.came.here k.came.receiver k.came.called
    (install_at c M n from m.body x disk.kept s.moments k.came.letter k.holds k.stands.tied k.low k.session k.numbered q)) so

-- another message is none of these
other_left : (e : Option Event) (l : Letter) → is_left_by l ≡ false → is_left_in e (Some l) ≡ false
other_left (Some (event.Deliver p)) l h = h
other_left (Some (event.Next from to)) l h = h
other_left _ l h = refl

other_silent : (ms : List Moment) (l : Letter) (b : Body) → arrived ms ≡ Some l → l.name ≡ named (name_of b) → is_left (named (name_of b)) ≡ false → IsSilent ms
other_silent ms l b here called other = ap (is_left_in (under_way ms)) here ∙ other_left (under_way ms) l (ap is_left called ∙ other)

other_here : (S : Setting) (c : Cluster) (M : Memberships) (n now : ℕ) (ends : method.Outcome) (from : ℕ) (m : Message) (x : UpNode) (disk : DiskState) (s : Scene) → Known c M n from m.body x disk.kept s.moments → is_left (named (name_of m.body)) ≡ false
    → AllHere S s.moments → AllHere S (passing n (stepped disk_rules c n now ends (Up x) disk (input.Packet from m)).given s).moments
other_here S c M n now ends from m x disk s k other so =
    silent_here S n (stepped disk_rules c n now ends (Up x) disk (input.Packet from m)).given s (no_packets c n now ends (Up x) disk (input.Packet from m)) (other_silent s.moments k.came.letter m.body k.came.here k.came.called other) so

pub up_here : (S : Setting) (c : Cluster) (M : Memberships) (n now : ℕ) (ends : method.Outcome) (from : ℕ) (m : Message) (x : UpNode) (disk : DiskState) (s : Scene) → n ≤ 32 → All IsDevice c.attached → Known c M n from m.body x disk.kept s.moments
    → AllHere S s.moments → AllHere S (passing n (stepped disk_rules c n now ends (Up x) disk (input.Packet from m)).given s).moments
up_here S c M n now ends from m x disk s low fits k so = by_body m.body refl
  where
    goal : Type 0
    goal = AllHere S (passing n (stepped disk_rules c n now ends (Up x) disk (input.Packet from m)).given s).moments

    other : (b : Body) → m.body ≡ b → is_left (named (name_of b)) ≡ false → goal
    other b is none = other_here S c M n now ends from m x disk s k (ap (λ (z : Body). is_left (named (name_of z))) is ∙ none) so

    by_body : (b : Body) → m.body ≡ b → goal
    by_body (body.Promise e installed members valid flagged committed pending) is = answering_here S c M n now ends from m x disk s low fits k (subst Answers (sym is) tt) so
    by_body (body.Seized e d ended) is = answering_here S c M n now ends from m x disk s low fits k (subst Answers (sym is) tt) so
    by_body (body.Ready e devices report) is = readying_here S c M n now ends from m x disk s k (subst IsReadyBody (sym is) tt) so
    by_body (body.Nack e promised) is = nacking_here S c M n now ends from m x disk s k (subst IsNackBody (sym is) tt) so
    by_body (body.Install i) is = installing_here S c M n now ends from m x disk s k (subst IsInstallBody (sym is) tt) so
    by_body (body.Heartbeat promised session member) is = other (body.Heartbeat promised session member) is refl
    by_body (body.Collect p members) is = other (body.Collect p members) is refl
    by_body (body.SeizeQuorum e members d) is = other (body.SeizeQuorum e members d) is refl
    by_body (body.SeizeData e members d) is = other (body.SeizeData e members d) is refl
    by_body (body.Start e) is = other (body.Start e) is refl
    by_body (body.Excluded e newest) is = other (body.Excluded e newest) is refl
    by_body (body.Prepare e place text) is = other (body.Prepare e place text) is refl
    by_body (body.Prepared e place) is = other (body.Prepared e place) is refl
    by_body (body.Commit e place) is = other (body.Commit e place) is refl
    by_body (body.Order o) is = other (body.Order o) is refl
    by_body (body.Done e number ended) is = other (body.Done e number ended) is refl
    by_body (body.Request e number text) is = other (body.Request e number text) is refl
    by_body (body.Answer e number text) is = other (body.Answer e number text) is refl
