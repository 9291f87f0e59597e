-- What a node does with each input may be done.
use Rattle.std.specs.Prelude.{ℕ, ◌≡◌, ◌≢◌, ◌<◌, ◌≤◌, ◌%◌, ◌/◌, ◌+◌, ◌*◌, ◌^◌, ◌++◌, ◌==◌, ◌&&◌, ◌||◌, nat_le, nat_lt, not, Bool, true, false, List, [], ◌∷◌, Option, None, Some, Ok, Err, All, is_some, if◌then◌else◌}
use Rattle.std.proofs.Common.{refl, sym, ap, subst, ◌∙◌, arith}
use Rattle.std.proofs.lemmas.Nat.{mod-mul-add}
use Rattle.std.specs.List.{find}
use Rattle.answer_words.specs.Answers.{answer_in}
use Rattle.cl_base.specs.Sets.{has}
use Rattle.cl_base.specs.Seizings.{SeizeResult}
use Rattle.cl_base.specs.declared.method.Outcome.{Outcome}
use Rattle.cl_base.specs.declared.panic.Panic.TheVariants as panic
use Rattle.cl_base.specs.declared.seizing.SeizeEnd.TheVariants as seized
use Rattle.device_queue.specs.declared.progress.Progress.{Progress}
use Rattle.device_queue.specs.declared.progress.Progress.TheVariants.{GoesOn, Seized, Joined}
use Rattle.device_queue.specs.declared.task.Task.{Task}
use Rattle.device_queue.specs.declared.task.Work.{Work}
use Rattle.device_queue.specs.declared.task.Work.TheVariants.{Seizing, Joining}
use Rattle.device_queue.specs.Queue.{after_answer, after_seize, begins_plainly, due_device, joins, kept_of, next_of, progress_after, progress_by, put_unless, seizure_of}
use Rattle.device_queue.specs.Tasks.{answered, is_joining, is_queued, progress_in, seizing_progress, work_answered}
use Rattle.pgr_device.specs.declared.command.PrAnswer.TheVariants as given
use Rattle.pgr_device.specs.declared.command.PrCommand.{PrCommand}
use Rattle.seize.specs.Answers.{Answer}
use Rattle.seize.specs.Seizing as seizing
use Rattle.seize.specs.declared.kind.JoinResult.{JoinResult}
use Rattle.seize.specs.declared.kind.JoinResult.TheVariants as join
use Rattle.seize.specs.declared.kind.SeizeKind.{SeizeKind}
use Rattle.seize.specs.declared.kind.SeizeKind.TheVariants.{Vote, Plain}
use Rattle.status_report.specs.declared.node_entry.DownCause.TheVariants as down
use Rattle.wire.specs.declared.message.Body.{Body}
use Rattle.wire.specs.declared.message.Body.TheVariants as body
use Rattle.wire.specs.declared.message.Install.{Install}
use Rattle.wire.specs.declared.message.Message.{Message}
use Rattle.cmm_attempt.specs.Attempts.{AttemptState, Turn, beginning}
use Rattle.cmm_attempt.specs.Calls.{IsDevice, Own_seized, Take, Tick as Call_tick, With_votes}
use Rattle.cmm_attempt.proofs.Basics.{and_cases, false_true, if_either, less, none_some, same_number, same_some}
use Rattle.cmm_member.specs.Nodes.{NodeState, promised_to, with_joined}
use Rattle.attempt_laws.specs.Machine.{is_member}
use Rattle.attempt_laws.specs.Staying.{IsOf}
use Rattle.attempt_laws.proofs.Stays.{plan_begins}
use Rattle.attempt_laws.proofs.Walk.{if_with}
use Rattle.heartbeats.specs.Due.{begins}
use Rattle.node_model.specs.Configurations.{configured_at}
use Rattle.node_model.specs.declared.cluster.Cluster.{Cluster}
use Rattle.node_model.specs.declared.input.Input.{Input}
use Rattle.node_model.specs.declared.input.Input.TheVariants.{Boot, Crash, Tick, Packet, CommandDue, Answered, Wrote, Commanded, Reported, Client}
use Rattle.node_model.specs.declared.node.UpNode.{UpNode}
use Rattle.node_model.specs.declared.presidency.Presidency.{Presidency}
use Rattle.node_model.specs.declared.seat.Seat.{Seat}
use Rattle.node_model.specs.declared.seat.Seat.TheVariants.{Forming, Member}
use Rattle.node_model.specs.Attempts.{is_choosing, may_count_on, next_epoch, own_promise, promise_of, starts_now, votes_in}
use Rattle.node_model.specs.Devices.{joining_so}
use Rattle.node_model.specs.Members.{are_devices, awaits_start, hearing, is_bad_log, is_bad_update, is_foreign, is_foreign_install, is_strange, promised_so, ready_of, rested_by}
use Rattle.node_model.specs.Seats as seats
use Rattle.node_model.specs.Seats.{coordinator_of, installed_of, is_in, promised_of, promising, record_of, session_of, state_of}
use Rattle.node_model.specs.Steps.{at_second}
use Rattle.node_model.specs.Ticks.{later, members_to_form, membership_of, to_form_in, waiting_less}
use Rattle.node_model.specs.Updates.{later_presidency}
use Rattle.proposals.specs.declared.arrived.Proposed.{Proposed}
use Rattle.refinement.specs.Doings.{answered_so, changed}
use Rattle.refinement.specs.Doings.Act.{Accepts, Hears, Makes, Waits}
use Rattle.refinement.specs.Doings.Change.{Distrusts, Installs, Leads, Promises, Sits}
use Rattle.refinement.specs.Courses.Course.{Acts, Falls as Course_falls, Keeps, Stops}
use Rattle.refinement.specs.Cuts as cuts
use Rattle.refinement.specs.Cuts.{begun_course, called, course_at, course_of, going_course, kept_if, own_ready_course, readied_course, steps_course, writing}
use Rattle.refinement.specs.Facts.{AttemptFacts, Facts, OfMember, OfPresident, OfProposed, OfSeat, has_join}
use Rattle.refinement.specs.Guards.{Asks, MayChange, MayGo, SameProposed}
use Rattle.refinement.specs.Ties.{Delivered, IsLog, ShowsLog}
use Rattle.refinement.proofs.Calls.{Any, MayTo, called_to, choosing_is, fit_to, go, going_to, joined_to as then_to, readied_to, started_same}
use Rattle.refinement.proofs.Changes.{first_not_installing}
use Rattle.refinement.proofs.Fits.{first_fits}
use Rattle.refinement.proofs.Requests.{President, any, asked_to, command_to, commit_to, done_to, facts_of, governing_to, in_session, or_second, order_to, prepare_to, prepared_to, president_of, reply_to, report_to, client_to}
use Rattle.refinement.proofs.Texts.{state_with}

-- The same facts, of a node with another view of the others, or other tasks.

pub facts_same : (x y : UpNode) → y.seat ≡ x.seat → y.attempt ≡ x.attempt → (has_join y.tasks ≡ true → has_join x.tasks ≡ true) → (OfPresident x.presidency x.seat → OfPresident y.presidency y.seat) → Facts x → Facts y
facts_same x y seat attempt tasks president f = record {
  attempt = subst (λ s. OfSeat y.attempt s) (sym seat) (subst (λ o. OfSeat o x.seat) (sym attempt) f.attempt);
  member = subst OfMember (sym seat) f.member;
  order = subst (λ s. (state_of s).saved.installed ≤ (state_of s).saved.promised) (sym seat) f.order;
  joins = λ h. subst (λ s. (0 < (state_of s).session) × ((state_of s).session ≡ (state_of s).saved.installed)) (sym seat) (f.joins (tasks h));
  president = president f.president;
}

-- The own attempt.

of_seat : (x : UpNode) (a : AttemptState) (P : Type 0) (seat : Seat) → x.seat ≡ seat → OfSeat (Some a) seat → ((s : NodeState) → x.seat ≡ Forming s → AttemptFacts s a → P) → P
of_seat x a P (Forming s) is h f = f s is h
of_seat x a P (Member s) is h f = absurd h

pub own_attempt : (x : UpNode) (a : AttemptState) (P : Type 0) → Facts x → x.attempt ≡ Some a → ((s : NodeState) → x.seat ≡ Forming s → AttemptFacts s a → P) → P
own_attempt x a P f attempt g = of_seat x a P x.seat refl (subst (λ o. OfSeat o x.seat) attempt f.attempt) g

answer_to : (c : Cluster) (me : ℕ) (x : UpNode) (from : ℕ) (m : Message) (o : Option AttemptState) → ShowsLog c m.body → Facts x → x.attempt ≡ o → MayTo c me (Some (from, m)) Any x (cuts.answer_course c me x from m o)
answer_to c me x from m None good f is = tt
answer_to c me x from m (Some a) good f is =
    own_attempt x a (MayTo c me (Some (from, m)) Any x (going_course c me x a (Take from m))) f is (λ s seat g. going_to c me (Some (from, m)) x a (Take from m) s is seat g (refl, good))

own_ready_to : (c : Cluster) (me : ℕ) (told : Delivered) (x : UpNode) → Facts x → MayTo c me told Any x (own_ready_course c me x)
own_ready_to c me told x f = by_attempt x.attempt refl
  where
    by_attempt : (o : Option AttemptState) → x.attempt ≡ o → MayTo c me told Any x (own_ready_course c me x)
    by_attempt None is =
        if_either (MayTo c me told Any x) (joins x.tasks) Stops (readied_course c me x x.attempt) tt
        (subst (λ o. MayTo c me told Any x (readied_course c me x o)) (sym is) tt)
    by_attempt (Some a) is = own_attempt x a (MayTo c me told Any x (own_ready_course c me x)) f is (λ s seat g. readied_to c me told x a s is seat g)

-- An attempt begins.

low_number : (me : ℕ) → me ≤ 32 → me < 64
low_number me h = grind arith

next_is_own : (me : ℕ) (x : UpNode) → me ≤ 32 → next_epoch me x % 64 ≡ me
next_is_own me x h = mod-mul-add (x.greatest / 64 + 1) 64 me (low_number me h)

above : (p q : ℕ) → p < q → 0 < q
above p q h = grind arith

below_all : (x p q : ℕ) → x ≤ p → p < q → x < q
below_all x p q h k = grind arith

within_32 : (members me : ℕ) → me ≤ 32 → has members me ≡ true → is_member members me ≡ true
within_32 members me low h = both (nat_le me 32) (has members me) (le me low) h
  where
    le : (k : ℕ) → k ≤ 32 → nat_le k 32 ≡ true
    le k l = grind arith

    both : (a b : Bool) → a ≡ true → b ≡ true → (a && b) ≡ true
    both true b e g = g
    both false b e g = absurd (false_true e)

leading_to : (c : Cluster) (me : ℕ) (told : Delivered) (x : UpNode) (p members : ℕ) → me ≤ 32 → All IsDevice c.attached → Facts x → p % 64 ≡ me → has members me ≡ true → p < 2 ^ 64
    → MayTo c me told Any x (cuts.leading_course c me x p members)
leading_to c me told x p members low fits f own member small =
    let y : UpNode = changed c me x (Leads p members) in
    let s : NodeState = promised_to (state_of x.seat) p in
    let m : Message = own_promise me (record (promising x p) { greatest = p }) p in
    let t : Turn = beginning p members m c.attached c.id in
    let of : IsOf t.after p members m c.attached c.id = plan_begins p members m c.attached c.id in
    if_with (MayTo c me told Any x) (nat_lt (promised_of x) p) (nat_lt (promised_of x) p) (Keeps (Leads p members) (begun_course c me y (cuts.first_turn c me x p members))) Stops refl
    (λ e.
    let up : promised_of x < p = less (promised_of x) p e in
    let g : AttemptFacts s t.after = record {
      epoch = of.of_epoch;
      some = subst (λ q. 0 < q) (sym of.of_epoch) (above (promised_of x) p up);
      reached = record { p = p; members = members; own = m; attached = c.attached; cluster = c.id; devices = fits; calls = []; run = refl };
      before = λ b. subst (λ q. (state_of x.seat).saved.installed < q) (sym of.of_epoch) (below_all (installed_of x) (promised_of x) p f.order up);
      installed = λ is. absurd (first_not_installing p members m c.attached c.id is);
    } in (
      (up, own, within_32 members me low member, small),
      if_with (MayTo c me told Any y) (is_choosing t.after.phase) (is_choosing t.after.phase) (called c me y t.after (With_votes (votes_in c t.after))) (steps_course c me y t.steps) refl
          (λ choosing. called_to c me told y t.after (With_votes (votes_in c t.after)) s refl refl g (refl, choosing_is t.after.phase choosing))
          (λ choosing. fit_to c me told Any y t.after t.steps (first_fits p members m c.attached c.id) refl (λ z. tt)),
    ))
    (λ e. tt)

-- the members are those of the view, which has the node
formed_view : (c : Cluster) (me : ℕ) (x : UpNode) (o : Option ℕ) (members : ℕ) → to_form_in c me x o ≡ Some members → has members me ≡ true
formed_view c me x None members h = absurd (none_some members h)
formed_view c me x (Some view) members h =
    by_test (may_count_on x.greatest && begins x.beats (configured_at c x) (membership_of x.seat)) (has view me) refl h
  where
    by_test : (first second : Bool) → has view me ≡ second → (if first && second then Some view else None) ≡ Some members → has members me ≡ true
    by_test true true is some = subst (λ v. has v me ≡ true) (same_some view members some) is
    by_test true false is some = absurd (none_some members some)
    by_test false second is some = absurd (none_some members some)

-- .. and there is an epoch above
formed_count : (c : Cluster) (me : ℕ) (x : UpNode) (o : Option ℕ) (members : ℕ) → to_form_in c me x o ≡ Some members → may_count_on x.greatest ≡ true
formed_count c me x None members h = absurd (none_some members h)
formed_count c me x (Some view) members h = by_test (may_count_on x.greatest) (begins x.beats (configured_at c x) (membership_of x.seat)) (has view me) h
  where
    by_test : (first second third : Bool) → (if first && second && third then Some view else None) ≡ Some members → first ≡ true
    by_test true second third is = refl
    by_test false second third is = absurd (none_some members is)

next_is_small : (me : ℕ) (x : UpNode) → me ≤ 32 → may_count_on x.greatest ≡ true → next_epoch me x < 2 ^ 64
next_is_small me x low may = small (x.greatest / 64) low (less (x.greatest / 64) (2 ^ 56) may)
  where
    small : (k : ℕ) → me ≤ 32 → k < 2 ^ 56 → (k + 1) * 64 + me < 2 ^ 64
    small k l b = omega (arith, l, b)

forming_to : (c : Cluster) (me : ℕ) (told : Delivered) (x : UpNode) (o : Option ℕ) → me ≤ 32 → All IsDevice c.attached → Facts x → members_to_form c me x ≡ o → MayTo c me told Any x (cuts.forming_course c me x o)
forming_to c me told x None low fits f is = tt
forming_to c me told x (Some members) low fits f is =
    leading_to c me told x (next_epoch me x) members low fits f (next_is_own me x low) (formed_view c me x x.beats.view members is)
    (next_is_small me x low (formed_count c me x x.beats.view members is))

ticked_to : (c : Cluster) (me : ℕ) (told : Delivered) (x : UpNode) (o : Option AttemptState) → me ≤ 32 → All IsDevice c.attached → Facts x → x.attempt ≡ o
    → MayTo c me told Any x (cuts.ticked_course c me x o)
ticked_to c me told x (Some a) low fits f is =
    own_attempt x a (MayTo c me told Any x (going_course c me x a Call_tick)) f is (λ s seat g. going_to c me told x a Call_tick s is seat g tt)
ticked_to c me told x None low fits f is =
    let y : UpNode = waiting_less x in
    if_either (MayTo c me told Any x) (nat_le 1 x.beats.wait) (Acts Waits Stops) (Acts Waits (cuts.forming_course c me y (members_to_form c me y))) (tt, tt)
    (tt, forming_to c me told y (members_to_form c me y) low fits (facts_same x y refl refl (λ h. h) (λ h. h) f) refl)

later_facts : (o : Option Presidency) (seat : Seat) → OfPresident o seat → OfPresident (later_presidency o) seat
later_facts None seat h = tt
later_facts (Some p) (Forming s) h = absurd h
later_facts (Some p) (Member s) h = h

later_same : (o : Option Presidency) → SameProposed o (later_presidency o)
later_same None = tt
later_same (Some p) = refl

pub tick_to : (c : Cluster) (me : ℕ) (told : Delivered) (outcome : Outcome) (x : UpNode) → me ≤ 32 → All IsDevice c.attached → Facts x → MayTo c me told Any x (cuts.tick_course c me outcome x)
tick_to c me told outcome x low fits f =
    let y : UpNode = later c x in
    let g : Facts y = facts_same x y refl refl (λ h. h) (later_facts x.presidency x.seat) f in (
      tt,
      then_to c me told President Any y (cuts.governing_course c me outcome x y) (λ z. cuts.ticked_course c me z z.attempt)
          (governing_to c me told outcome x y refl (later_same x.presidency) (president_of x f) (president_of y g))
          (λ z h. ticked_to c me told z z.attempt low fits (facts_of z h) refl),
    )

-- Messages.

heartbeat_to : (c : Cluster) (me : ℕ) (told : Delivered) (x : UpNode) (from session : ℕ) (member : Bool) → MayTo c me told Any x (cuts.heartbeat_course me x from session member)
heartbeat_to c me told x from session member =
    if_with (MayTo c me told Any x) (awaits_start me x from session member) (awaits_start me x from session member) (writing from (body.Start (session_of x))) Stops refl
    (λ e. ((first_of_five (seats.is_member x.seat) (session_of x % 64 == me) (session == session_of x) (not member) (has (record_of x).members from) e, refl), tt)) (λ e. tt)
  where
    first_of_five : (p q r s t : Bool) → (p && q && r && s && t) ≡ true → p ≡ true
    first_of_five true q r s t h = refl
    first_of_five false q r s t h = h

promised_session : (x : UpNode) (p : ℕ) (o : Option AttemptState) → p ≡ session_of (rested_by (promising x p) o)
promised_session x p None = refl
promised_session x p (Some a) = refl

collect_to : (c : Cluster) (me : ℕ) (x : UpNode) (from p members : ℕ) (m : Message) → m.body ≡ body.Collect p members → MayTo c me (Some (from, m)) Any x (cuts.collect_course x from p)
collect_to c me x from p members m is =
    if_with (MayTo c me (Some (from, m)) Any x) (nat_lt (promised_of x) p) (nat_lt (promised_of x) p) (Keeps (Promises p) (writing from (promise_of (promised_so x p) p)))
    (if is_in x p then writing from (promise_of x p) else writing from (body.Nack p (promised_of x))) refl
    (λ e. (
      (subst (Asks p) (sym is) refl, less (promised_of x) p e),
      ((above (promised_of x) p (less (promised_of x) p e), promised_session x p x.attempt, refl), tt),
    ))
    (λ e. if_with (MayTo c me (Some (from, m)) Any x) (is_in x p) (is_in x p) (writing from (promise_of x p)) (writing from (body.Nack p (promised_of x))) refl
    (λ h. (((in_session x p h).0, (in_session x p h).1, refl), tt)) (λ h. (tt, tt)))

request_to : (c : Cluster) (me : ℕ) (told : Delivered) (x : UpNode) (from : ℕ) (kind : SeizeKind) (e members d : ℕ) (o : Option SeizeResult)
    → e ≡ session_of x → MayTo c me told Any x (cuts.request_course x from kind e members d o)
request_to c me told x from kind e members d (Some result) here = (tt, tt)
request_to c me told x from kind e members d None here =
    if_either (MayTo c me told Any x) (installed_of x == e) (writing from (body.Seized e d seized.Fault)) (Acts (Accepts kind e members d) Stops) (tt, tt) (here, tt)

seizing_to : (c : Cluster) (me : ℕ) (told : Delivered) (x : UpNode) (from : ℕ) (kind : SeizeKind) (e members d : ℕ) → MayTo c me told Any x (cuts.seizing_course x from kind e members d)
seizing_to c me told x from kind e members d =
    if_with (MayTo c me told Any x) (is_in x e) (is_in x e) (cuts.request_course x from kind e members d (kept_of x.tasks d)) Stops refl
    (λ h. request_to c me told x from kind e members d (kept_of x.tasks d) (in_session x e h).1) (λ h. tt)

-- the node may answer that it is ready
Ready : UpNode → Type 0
Ready x = (0 < session_of x) × (session_of x ≡ installed_of x)

readying_to : (c : Cluster) (me : ℕ) (told : Delivered) (x : UpNode) (to : ℕ) → Ready x → MayTo c me told Any x (cuts.readying_course c x to)
unfolding Ready
readying_to c me told x to h = if_either (MayTo c me told Any x) (joins x.tasks) Stops (writing to (ready_of c x)) tt ((h.0, refl, h.1), tt)

or_false : (a b : Bool) → (a || b) ≡ false → a ≡ false
or_false true b h = h
or_false false b h = refl

not_false : (b : Bool) → not b ≡ false → b ≡ true
not_false true h = refl
not_false false h = sym h

-- an install that is not foreign has the node among its members, and no bad list
named_in : (c : Cluster) (me : ℕ) (i : Install) → is_foreign_install c me i ≡ false → has i.members me ≡ true
named_in c me i h =
    not_false (has i.members me)
    (or_false (not (has i.members me)) (is_strange c i.members)
    (or_false (not (has i.members me) || is_strange c i.members) (is_bad_log c i.committed i.pending) (or_false _ _ h)))

good_in : (c : Cluster) (me : ℕ) (i : Install) → is_foreign_install c me i ≡ false → IsLog c i.committed i.pending
good_in c me i h = not_false _ (or_second (not (has i.members me) || is_strange c i.members) (is_bad_log c i.committed i.pending) (or_false _ _ h))

not_same : (a b : ℕ) → (a == b) ≡ false → a ≢ b
not_same a b h e = grind arith

installed_to : (c : Cluster) (me : ℕ) (x : UpNode) (from : ℕ) (m : Message) (i : Install) (seat : Seat) → me ≤ 32 → m.body ≡ body.Install i → is_foreign_install c me i ≡ false
    → is_in x i.epoch ≡ true → OfMember seat → x.seat ≡ seat → MayTo c me (Some (from, m)) Any x (cuts.installed_course c me x from i seat)
unfolding Ready
installed_to c me x from m i (Member s) low is known here f at =
    readying_to c me (Some (from, m)) x from (subst (λ z. (0 < (state_of z).session) × ((state_of z).session ≡ (state_of z).saved.installed)) (sym at) f)
installed_to c me x from m i (Forming s) low is known here f at =
    let session : i.epoch ≡ session_of x = (in_session x i.epoch here).1 in
    let some : 0 < i.epoch = (in_session x i.epoch here).0 in
    let own : s.session ≡ i.epoch = ap (λ z. (state_of z).session) (sym at) ∙ sym session in
    let y : UpNode = changed c me x (Installs s i) in
    if_with (MayTo c me (Some (from, m)) Any x) (s.saved.installed == i.epoch) (s.saved.installed == i.epoch) (cuts.readying_course c x from)
    (Keeps (Installs s i) (cuts.readying_course c y from)) refl
    (λ e. readying_to c me (Some (from, m)) x from
    (subst (λ q. 0 < q) session some, sym session ∙ (sym (same_number s.saved.installed i.epoch e) ∙ ap (λ z. (state_of z).saved.installed) (sym at))))
    (λ e. (
      (at, is, some, own, not_same s.saved.installed i.epoch e, within_32 i.members me low (named_in c me i known), good_in c me i known),
      readying_to c me (Some (from, m)) y from (subst (λ q. 0 < q) (sym own) some, own),
    ))

install_to : (c : Cluster) (me : ℕ) (x : UpNode) (from : ℕ) (m : Message) (i : Install) → me ≤ 32 → m.body ≡ body.Install i → is_foreign_install c me i ≡ false → Facts x
    → MayTo c me (Some (from, m)) Any x (cuts.install_course c me x from i)
install_to c me x from m i low is known f =
    if_with (MayTo c me (Some (from, m)) Any x) (is_in x i.epoch) (is_in x i.epoch) (cuts.installed_course c me x from i x.seat) (writing from (body.Nack i.epoch (promised_of x))) refl
    (λ h. installed_to c me x from m i x.seat low is known h f.member refl) (λ h. (tt, tt))

start_to : (c : Cluster) (me : ℕ) (x : UpNode) (from e : ℕ) (m : Message) (seat : Seat) → m.body ≡ body.Start e → x.seat ≡ seat → MayTo c me (Some (from, m)) Any x (cuts.start_course e seat)
start_to c me x from e m (Member s) is at = tt
start_to c me x from e m (Forming s) is at =
    let pending : Bool = is_some s.saved.entries.pending in
    if_with (MayTo c me (Some (from, m)) Any x) (starts_now s e) (starts_now s e) (kept_if pending (Sits s e) Stops) Stops refl
    (λ h.
    let two : ((nat_le 1 e && (s.session == e)) ≡ true) × ((s.saved.installed == e) ≡ true) = and_cases (nat_le 1 e && (s.session == e)) (s.saved.installed == e) h in
    let may : MayChange c me (Some (from, m)) x (Sits s e) =
    (at, is, same_number s.session e (and_cases (nat_le 1 e) (s.session == e) two.0).1, same_number s.saved.installed e two.1) in
    if_with (MayTo c me (Some (from, m)) Any x) pending pending (Keeps (Sits s e) Stops) (Acts (Makes (Sits s e)) Stops) refl
    (λ p. (may, tt)) (λ p. ((may, started_same s p ∙ ap (λ z. (state_of z).saved) (sym at)), tt)))
    (λ h. tt)

notice_to : (c : Cluster) (me : ℕ) (told : Delivered) (x : UpNode) (e newest : ℕ) → MayTo c me told Any x (cuts.notice_course x e newest)
notice_to c me told x e newest = if_either (MayTo c me told Any x) (is_in x e) (Course_falls (down.Panic (panic.Excluded newest))) Stops tt tt

-- a Promise that is not foreign shows no bad list
good_promise : (c : Cluster) (members valid : ℕ) (committed : List (List ℕ)) (pending : Option (List ℕ))
    → (is_strange c members || not (are_devices c valid) || is_bad_log c committed pending) ≡ false → IsLog c committed pending
good_promise c members valid committed pending h = not_false _ (or_second (is_strange c members || not (are_devices c valid)) (is_bad_log c committed pending) h)

bad_update_same : (c : Cluster) (x z : UpNode) (e place : ℕ) (text : List ℕ) → x.seat ≡ z.seat → is_bad_update c z e place text ≡ false → is_bad_update c x e place text ≡ false
bad_update_same c x z e place text same h = subst (λ seat. is_bad_update c (record x { seat = seat }) e place text ≡ false) (sym same) h

-- z is the node before the packet was heard
body_to : (c : Cluster) (me : ℕ) (outcome : Outcome) (x z : UpNode) (from : ℕ) (m : Message) (b : Body) → me ≤ 32 → m.body ≡ b → x.seat ≡ z.seat → is_foreign c me z b ≡ false → Facts x
    → MayTo c me (Some (from, m)) Any x (cuts.body_course c me outcome x from m b)
body_to c me outcome x z from m (body.Heartbeat promised session member) low is same known f = heartbeat_to c me (Some (from, m)) x from session member
body_to c me outcome x z from m (body.Collect e members) low is same known f = collect_to c me x from e members m is
body_to c me outcome x z from m (body.Promise e installed members valid flagged committed pending) low is same known f =
    answer_to c me x from m x.attempt (subst (ShowsLog c) (sym is) (good_promise c members valid committed pending known)) f refl
body_to c me outcome x z from m (body.Nack e promised) low is same known f = answer_to c me x from m x.attempt (subst (ShowsLog c) (sym is) tt) f refl
body_to c me outcome x z from m (body.SeizeQuorum e members d) low is same known f = seizing_to c me (Some (from, m)) x from Vote e members d
body_to c me outcome x z from m (body.SeizeData e members d) low is same known f = seizing_to c me (Some (from, m)) x from Plain e members d
body_to c me outcome x z from m (body.Seized e d ended) low is same known f = answer_to c me x from m x.attempt (subst (ShowsLog c) (sym is) tt) f refl
body_to c me outcome x z from m (body.Install i) low is same known f = install_to c me x from m i low is known f
body_to c me outcome x z from m (body.Ready e devices report) low is same known f = answer_to c me x from m x.attempt (subst (ShowsLog c) (sym is) tt) f refl
body_to c me outcome x z from m (body.Start e) low is same known f = start_to c me x from e m x.seat is refl
body_to c me outcome x z from m (body.Excluded e newest) low is same known f = notice_to c me (Some (from, m)) x e newest
body_to c me outcome x z from m (body.Prepare e place text) low is same known f =
    prepare_to c me x from e place m text x.seat is refl f.member (bad_update_same c x z e place text same known)
body_to c me outcome x z from m (body.Prepared e place) low is same known f = any c me (Some (from, m)) President x (cuts.prepared_course c me x from e place) (prepared_to c me x from e place m is (president_of x f))
body_to c me outcome x z from m (body.Commit e place) low is same known f = commit_to c me x from e place m x.seat is refl
body_to c me outcome x z from m (body.Order o) low is same known f = order_to c me (Some (from, m)) outcome x from o
body_to c me outcome x z from m (body.Done e number ended) low is same known f =
    any c me (Some (from, m)) President x (cuts.done_course c me x from e number ended) (done_to c me (Some (from, m)) x from e number ended (president_of x f))
body_to c me outcome x z from m (body.Request e number text) low is same known f =
    any c me (Some (from, m)) President x (cuts.asked_course c me x from e number text) (asked_to c me (Some (from, m)) x from e number text (president_of x f))
body_to c me outcome x z from m (body.Answer e number text) low is same known f =
    any c me (Some (from, m)) President x (cuts.reply_course c me x e number (answer_in text)) (reply_to c me (Some (from, m)) x e number (answer_in text) (president_of x f))

pub packet_to : (c : Cluster) (me : ℕ) (outcome : Outcome) (x : UpNode) (from : ℕ) (m : Message) → me ≤ 32 → Facts x → MayTo c me (Some (from, m)) Any x (cuts.packet_course c me outcome x from m)
packet_to c me outcome x from m low f =
    let y : UpNode = hearing x from m.body in
    if_with (MayTo c me (Some (from, m)) Any x) (is_foreign c me x m.body) (is_foreign c me x m.body) Stops (Acts (Hears from m.body) (cuts.body_course c me outcome y from m m.body)) refl
    (λ e. tt) (λ e. (tt, body_to c me outcome y x from m m.body low refl refl e (facts_same x y refl refl (λ h. h) (λ h. h) f)))

-- Devices.

-- an answer that is taken leaves what a task is for
same_kind : (a : Answer) (w : Work) → is_joining (work_answered a w) ≡ is_joining w
same_kind a (Seizing s) = refl
same_kind a (Joining j) = refl

pub joins_answered : (tasks : List Task) (a : Answer) → has_join (after_answer tasks a) ≡ has_join tasks
joins_answered [] a = refl
joins_answered (t ∷ ts) a = by_test (is_queued t) (joins_answered ts a)
  where
    by_test : (b : Bool) → has_join (after_answer ts a) ≡ has_join ts → has_join (if b then answered a t ∷ ts else t ∷ after_answer ts a) ≡ (is_joining t.work || has_join ts)
    by_test true h = ap (λ b. b || has_join ts) (same_kind a t.work)
    by_test false h = ap (λ b. is_joining t.work || b) h

any_append : (tasks : List Task) (t : Task) → is_joining t.work ≡ false → has_join (tasks ++ t ∷ []) ≡ has_join tasks
any_append [] t h = ap (λ b. b || false) h
any_append (first ∷ tasks) t h = ap (λ b. is_joining first.work || b) (any_append tasks t h)

put_same : (o : Option Task) (tasks : List Task) (t : Task) → is_joining t.work ≡ false → has_join (put_unless o t tasks) ≡ has_join tasks
put_same None tasks t h = any_append tasks t h
put_same (Some earlier) tasks t h = refl

pub joins_seize : (tasks : List Task) (d : ℕ) (s : seizing.SeizeState) → has_join (after_seize tasks d s) ≡ has_join tasks
joins_seize tasks d s = put_same (seizure_of tasks d) tasks (record { device = d; work = Seizing s }) refl

-- where a joining has come to its end, one is there
seizing_is_none : (d e : ℕ) (o : Option SeizeResult) (r : JoinResult) → seizing_progress d o ≡ Joined e r → ⊥
seizing_is_none d e None r h = cc
seizing_is_none d e (Some result) r h = cc

joining_of : (d e : ℕ) (w : Work) (r : JoinResult) → progress_in d w ≡ Joined e r → is_joining w ≡ true
joining_of d e (Seizing s) r h = absurd (seizing_is_none d e (seizing.result_of s) r h)
joining_of d e (Joining j) r h = refl

goes_on_is_none : (d : ℕ) (r : JoinResult) → GoesOn ≡ Joined d r → ⊥
goes_on_is_none d r h = cc

or_right : (a b : Bool) → b ≡ true → (a || b) ≡ true
or_right true b h = refl
or_right false b h = h

or_left : (a b : Bool) → a ≡ true → (a || b) ≡ true
or_left a b h = subst (λ z. (z || b) ≡ true) (sym h) refl

pub joined_is_join : (tasks : List Task) (a : Answer) (d : ℕ) (r : JoinResult) → progress_by (find is_queued tasks) a ≡ Joined d r → has_join tasks ≡ true
joined_is_join [] a d r h = absurd (goes_on_is_none d r h)
joined_is_join (t ∷ ts) a d r h = by_test (is_queued t) h (joined_is_join ts a d r)
  where
    by_test : (b : Bool) → progress_by (if b then Some t else find is_queued ts) a ≡ Joined d r → (progress_by (find is_queued ts) a ≡ Joined d r → has_join ts ≡ true)
        → (is_joining t.work || has_join ts) ≡ true
    by_test true e f = or_left (is_joining t.work) (has_join ts) (sym (same_kind a t.work) ∙ joining_of t.device d (work_answered a t.work) r e)
    by_test false e f = or_right (is_joining t.work) (has_join ts) (f e)

distrusting_to : (c : Cluster) (me : ℕ) (told : Delivered) (x : UpNode) (o : Option ℕ) → MayTo c me told Any x (cuts.distrusting_course x o)
distrusting_to c me told x None = tt
distrusting_to c me told x (Some d) = if_either (MayTo c me told Any x) (has (record_of x).valid d) (Keeps (Distrusts d) Stops) Stops (tt, tt) tt

own_seized_to : (c : Cluster) (me : ℕ) (told : Delivered) (x : UpNode) (d : ℕ) (result : SeizeResult) (o : Option AttemptState) → Facts x → x.attempt ≡ o
    → MayTo c me told Any x (cuts.own_seized_course c me x d result o)
own_seized_to c me told x d result None f is = tt
own_seized_to c me told x d result (Some a) f is =
    own_attempt x a (MayTo c me told Any x (going_course c me x a (Own_seized d result))) f is (λ s seat g. going_to c me told x a (Own_seized d result) s is seat g tt)

seized_to : (c : Cluster) (me : ℕ) (told : Delivered) (x : UpNode) (d : ℕ) (result : SeizeResult) (o : Option ℕ) → Facts x → MayTo c me told Any x (cuts.seized_course c me x d result o)
seized_to c me told x d result None f = tt
seized_to c me told x d result (Some k) f =
    if_either (MayTo c me told Any x) (k == me) (cuts.own_seized_course c me x d result x.attempt) (writing k (body.Seized (session_of x) d result))
    (own_seized_to c me told x d result x.attempt f refl) (tt, tt)

joined_to : (c : Cluster) (me : ℕ) (told : Delivered) (x : UpNode) (o : Option ℕ) → Facts x → Ready x → MayTo c me told Any x (cuts.joined_course c me x o)
joined_to c me told x None f ready = tt
joined_to c me told x (Some k) f ready =
    if_either (MayTo c me told Any x) (k == me) (own_ready_course c me x) (cuts.readying_course c x k) (own_ready_to c me told x f) (readying_to c me told x k ready)

answered_facts : (x : UpNode) (a : Answer) → Facts x → Facts (answered_so x a)
answered_facts x a f = facts_same x (answered_so x a) refl refl (λ h. sym (joins_answered x.tasks a) ∙ h) (λ h. h) f

-- a joined device changes neither session nor what is installed
joined_seat : (d : ℕ) (o : Option AttemptState) (seat : Seat) → OfSeat o seat → OfSeat o (seats.with_state seat (with_joined (state_of seat) d))
joined_seat d None seat h = tt
joined_seat d (Some a) (Forming s) h = record { epoch = h.epoch; some = h.some; reached = h.reached; before = h.before; installed = h.installed }
joined_seat d (Some a) (Member s) h = absurd h

joined_member : (d : ℕ) (seat : Seat) → OfMember seat → OfMember (seats.with_state seat (with_joined (state_of seat) d))
joined_member d (Forming s) h = tt
joined_member d (Member s) h = h

joined_president : (d : ℕ) (o : Option Presidency) (seat : Seat) → OfPresident o seat → OfPresident o (seats.with_state seat (with_joined (state_of seat) d))
joined_president d None seat h = tt
joined_president d (Some p) (Forming s) h = absurd h
joined_president d (Some p) (Member s) h = by_proposed p.proposals.proposed h
  where
    by_proposed : (o : Option Proposed) → OfProposed s o → OfProposed (with_joined s d) o
    by_proposed None e = e
    by_proposed (Some q) e = e

joined_facts : (x : UpNode) (d : ℕ) → Facts x → Facts (joining_so x d)
joined_facts x d f =
    let s : NodeState = with_joined (state_of x.seat) d in
    record {
      attempt = joined_seat d x.attempt x.seat f.attempt;
      member = joined_member d x.seat f.member;
      order = subst (λ z. z.saved.installed ≤ z.saved.promised) (sym (state_with x.seat s)) f.order;
      joins = λ h. subst (λ z. (0 < z.session) × (z.session ≡ z.saved.installed)) (sym (state_with x.seat s)) (f.joins h);
      president = joined_president d x.presidency x.seat f.president;
    }

progress_to : (c : Cluster) (me : ℕ) (told : Delivered) (x : UpNode) (at : ℕ) (command : PrCommand) (a : Answer) (p : Progress) → Facts x → progress_after x.tasks a ≡ p
    → MayTo c me told Any x (cuts.progress_course c me x at command a p)
unfolding Ready
progress_to c me told x at command a GoesOn f is = (tt, tt)
progress_to c me told x at command a (Seized d result) f is =
    (tt, seized_to c me told (answered_so x a) d result (coordinator_of (answered_so x a)) (answered_facts x a f))
progress_to c me told x at command a (Joined d join.Joined) f is =
    let g : Facts (joining_so (answered_so x a) d) = joined_facts (answered_so x a) d (answered_facts x a f) in (
      tt,
      joined_to c me told (joining_so (answered_so x a) d) (coordinator_of (joining_so (answered_so x a) d)) g
          (g.joins (joins_answered x.tasks a ∙ joined_is_join x.tasks a d join.Joined is)),
    )
progress_to c me told x at command a (Joined d (join.Late w)) f is =
    (tt, joined_to c me told (answered_so x a) (coordinator_of (answered_so x a)) (answered_facts x a f) (f.joins (joined_is_join x.tasks a d (join.Late w) is)))
progress_to c me told x at command a (Joined d join.Fault) f is =
    (tt, joined_to c me told (answered_so x a) (coordinator_of (answered_so x a)) (answered_facts x a f) (f.joins (joined_is_join x.tasks a d join.Fault is)))

answered_to : (c : Cluster) (me : ℕ) (told : Delivered) (x : UpNode) (a : Answer) (o : Option ℕ) (p : Option PrCommand) → Facts x → MayTo c me told Any x (cuts.answered_course c me x a o p)
answered_to c me told x a (Some d) (Some command) f = progress_to c me told x d command a (progress_after x.tasks a) f refl
answered_to c me told x a None p f = tt
answered_to c me told x a (Some d) None f = tt

fenced_to : (c : Cluster) (me : ℕ) (told : Delivered) (x : UpNode) (d : ℕ) (a : Answer) → MayTo c me told Any x (cuts.fenced_course d a)
fenced_to c me told x d (Ok given.Good) = tt
fenced_to c me told x d (Ok given.Conflict) = tt
fenced_to c me told x d (Ok given.InvalidRelease) = tt
fenced_to c me told x d (Ok given.NoPath) = tt
fenced_to c me told x d (Ok (given.Keys keys)) = tt
fenced_to c me told x d (Ok (given.Holder holder)) = tt
fenced_to c me told x d (Ok (given.Word w)) = tt
fenced_to c me told x d (Ok (given.Value v)) = tt
fenced_to c me told x d (Ok (given.Miscompare w)) = tt
fenced_to c me told x d (Err e) = tt

-- Each input. What is delivered is the packet, where one is.

abbrev pub delivered_by : Input → Delivered
delivered_by (Packet from m) = Some (from, m)
delivered_by _ = None

step_to : (c : Cluster) (me : ℕ) (outcome : Outcome) (x : UpNode) (i : Input) → me ≤ 32 → All IsDevice c.attached → Facts x
    → MayTo c me (delivered_by i) Any x (course_of c me outcome x i)
step_to c me outcome x Boot low fits f = tt
step_to c me outcome x Crash low fits f = tt
step_to c me outcome x Tick low fits f = tick_to c me None outcome x low fits f
step_to c me outcome x (Packet from m) low fits f = packet_to c me outcome x from m low f
step_to c me outcome x CommandDue low fits f = distrusting_to c me None x (begins_plainly x.tasks)
step_to c me outcome x (Answered a) low fits f = answered_to c me None x a (due_device x.tasks) (next_of x.tasks) f
step_to c me outcome x (Commanded words) low fits f = any c me None President x (cuts.command_course c me x words) (command_to c me None x words (president_of x f))
step_to c me outcome x (Wrote d value a) low fits f = (tt, fenced_to c me None x d a)
step_to c me outcome x (Reported r good) low fits f = any c me None President x (cuts.report_course c me x r good) (report_to c me None x r good (president_of x f))
step_to c me outcome x (Client name client port) low fits f = any c me None President x (cuts.client_course c x name client port) (client_to c me None x name client port (president_of x f))

pub step_may_go : (c : Cluster) (me now : ℕ) (outcome : Outcome) (x : UpNode) (i : Input) → me ≤ 32 → All IsDevice c.attached → Facts x
    → MayGo c me (delivered_by i) x (course_at c me now outcome x i)
step_may_go c me now outcome x i low fits f =
    let y : UpNode = at_second now x in
    (tt, go c me (delivered_by i) Any y (course_of c me outcome y i) (step_to c me outcome y i low fits (facts_same x y refl refl (λ h. h) (λ h. h) f)))
