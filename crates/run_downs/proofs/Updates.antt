-- At a Start, a Prepare or a Commit a node stops only where the rules let it save.
use Rattle.std.specs.Prelude.{ℕ, ◌+◌, ◌==◌, ◌≡◌, ◌≤◌, ◌&&◌, not, Bool, true, false, List, length, Option, None, Some, IfSome, is_some, if◌then◌else◌, nat_lt}
use Rattle.std.proofs.Common.{refl, sym, ap, subst, ◌∙◌, arith}
use Rattle.ccr_commit.specs.Entries.{answer_for, texts_of}
use Rattle.ccr_commit.specs.declared.entries.Prepared.{Prepared}
use Rattle.ccr_commit.specs.declared.entries.Prepared.TheVariants.{Already, Gap, Taken}
use Rattle.cl_base.specs.Seizings.{SeizeResult}
use Rattle.cl_base.specs.declared.method.Outcome as method
use Rattle.cl_base.specs.declared.panic.Panic.TheVariants as panic
use Rattle.cl_base.specs.declared.seizing.SeizeEnd.TheVariants as seized
use Rattle.cmm_attempt.proofs.Basics.{if_either}
use Rattle.cmm_member.specs.Nodes.{NodeState}
use Rattle.cmm_member.specs.Records.{NodeRecord}
use Rattle.device_queue.specs.Queue.{kept_of}
use Rattle.history.specs.Letters.{Letter, arrived}
use Rattle.history.specs.Member.{member_of, number_of}
use Rattle.history.specs.Moment.{Moment}
use Rattle.history.specs.Names.{Name, named}
use Rattle.history.specs.Order.{under_way}
use Rattle.history.specs.Records as history
use Rattle.history.specs.Saves as history_saves
use Rattle.history.specs.Saves.{has_pending, may_be_pending, may_save, or_zero, saves_at, saves_at_letter, saves_in}
use Rattle.history.specs.Setting.{Setting}
use Rattle.node_model.specs.Attempts.{promise_of, starts_now}
use Rattle.node_model.specs.declared.cluster.Cluster.{Cluster}
use Rattle.node_model.specs.declared.node.UpNode.{UpNode}
use Rattle.node_model.specs.declared.seat.Seat.{Seat}
use Rattle.node_model.specs.declared.seat.Seat.TheVariants.{Forming, Member}
use Rattle.node_model.specs.Members.{awaits_start, hearing, is_foreign, promised_so}
use Rattle.node_model.specs.Seats.{installed_of, is_in, promised_of, session_of, state_of}
use Rattle.node_model.specs.Steps.{at_second}
use Rattle.node_model.specs.Updates.{commits_now}
use Rattle.node_model.specs.declared.input.Input.TheVariants as input
use Rattle.refinement.specs.Courses.Course.{Acts, Falls, Keeps, Stops}
use Rattle.refinement.specs.Cuts as cuts
use Rattle.refinement.specs.Cuts.{course_at}
use Rattle.refinement.specs.Doings.Act.{Accepts, Hears, Makes}
use Rattle.refinement.specs.Doings.Change.{Commits, Prepares, Promises, Sits}
use Rattle.schedule_text.specs.declared.event.Event.{Event}
use Rattle.schedule_text.specs.declared.event.Event.TheVariants as event
use Rattle.seize.specs.declared.kind.SeizeKind.{SeizeKind}
use Rattle.seize.specs.declared.kind.SeizeKind.TheVariants.{Plain, Vote}
use Rattle.status_report.specs.declared.node_entry.DownCause.TheVariants as down
use Rattle.wire.specs.declared.message.Body.{Body}
use Rattle.wire.specs.declared.message.Body.TheVariants as body
use Rattle.wire.specs.declared.message.Message.{Message}
use Rattle.world_model.specs.Sends.{name_of}
use Rattle.run_messages.specs.Laws.{membership_in}
use Rattle.run_messages.specs.records.Shown.{shown}
use Rattle.run_downs.proofs.Courses.{GoesFine, by_test}
use Rattle.run_downs.proofs.Rules.{CourseStops, keep_stops, none_stops}
use Rattle.run_downs.specs.Laws.{saves_at_once}

not_so : false ≡ true → ⊥
not_so h = cc

first_so : (a b : Bool) → (a && b) ≡ true → a ≡ true
first_so true b h = refl
first_so false b h = cc

second_so : (a b : Bool) → (a && b) ≡ true → b ≡ true
second_so true b h = h
second_so false b h = cc

-- ---- the courses

abbrev pub IsPending : NodeState → Type 0
IsPending s = is_some s.saved.entries.pending ≡ true

-- in this seat a node may save at such a message
abbrev pub SavesAt : Body → Seat → Type 0
SavesAt (body.Start e) (Forming s) = IsPending s
SavesAt (body.Start e) (Member s) = ⊥
SavesAt (body.Prepare e place text) (Forming s) = ⊥
SavesAt (body.Prepare e place text) (Member s) = Unit {0}
SavesAt (body.Commit e place) (Forming s) = ⊥
SavesAt (body.Commit e place) (Member s) = IsPending s
SavesAt (body.Collect p members) seat = nat_lt (state_of seat).saved.promised p ≡ true
SavesAt _ seat = ⊥

start_stops : (c : Cluster) (n : ℕ) (x : UpNode) (e : ℕ) (seat : Seat) → CourseStops (SavesAt (body.Start e) seat) c n x (cuts.start_course e seat)
start_stops c n x e (Member s) = none_stops ⊥ c n x Stops tt
start_stops c n x e (Forming s) =
    by_test (CourseStops (IsPending s) c n x) (starts_now s e) (cuts.kept_if (is_some s.saved.entries.pending) (Sits s e) Stops) Stops
    (λ now. by_test (CourseStops (IsPending s) c n x) (is_some s.saved.entries.pending) (Keeps (Sits s e) Stops) (Acts (Makes (Sits s e)) Stops)
    (λ some. keep_stops (IsPending s) c n x (Sits s e) Stops refl tt some) (λ none. none_stops (IsPending s) c n x (Acts (Makes (Sits s e)) Stops) (tt, tt)))
    (λ later. none_stops (IsPending s) c n x Stops tt)

preparing_stops : (c : Cluster) (n : ℕ) (x : UpNode) (from e place : ℕ) (s : NodeState) (text : List ℕ) (r : Prepared) → CourseStops (Unit {0}) c n x (cuts.preparing_course from e place s text r)
preparing_stops c n x from e place s text Taken = keep_stops (Unit {0}) c n x (Prepares s text) (cuts.writing from (body.Prepared e place)) refl (tt, tt) tt
preparing_stops c n x from e place s text Already = none_stops (Unit {0}) c n x (cuts.writing from (body.Prepared e place)) (tt, tt)
preparing_stops c n x from e place s text (Gap k) = none_stops (Unit {0}) c n x Stops tt

prepare_stops : (c : Cluster) (n : ℕ) (x : UpNode) (from e place : ℕ) (text : List ℕ) (seat : Seat)
    → CourseStops (SavesAt (body.Prepare e place text) seat) c n x (cuts.prepare_course x from e place text seat)
prepare_stops c n x from e place text (Forming s) = none_stops ⊥ c n x Stops tt
prepare_stops c n x from e place text (Member s) =
    let r : Prepared = answer_for (length (texts_of s.saved.entries)) place in
    by_test (CourseStops (Unit {0}) c n x) (is_in x e) (cuts.preparing_course from e place s text r) Stops (λ here. preparing_stops c n x from e place s text r)
    (λ there. none_stops (Unit {0}) c n x Stops tt)

commit_stops : (c : Cluster) (n : ℕ) (x : UpNode) (e place : ℕ) (seat : Seat) → CourseStops (SavesAt (body.Commit e place) seat) c n x (cuts.commit_course x e place seat)
commit_stops c n x e place (Forming s) = none_stops ⊥ c n x Stops tt
commit_stops c n x e place (Member s) =
    by_test (CourseStops (IsPending s) c n x) (is_in x e && commits_now s place) (Keeps (Commits s) Stops) Stops
    (λ now. keep_stops (IsPending s) c n x (Commits s) Stops refl tt
    (first_so (is_some s.saved.entries.pending) (place == length s.saved.entries.committed + 1) (second_so (is_in x e) (commits_now s place) now)))
    (λ later. none_stops (IsPending s) c n x Stops tt)

collect_stops : (c : Cluster) (n : ℕ) (x : UpNode) (from p : ℕ) → CourseStops (nat_lt (promised_of x) p ≡ true) c n x (cuts.collect_course x from p)
collect_stops c n x from p =
    by_test (CourseStops (nat_lt (promised_of x) p ≡ true) c n x) (nat_lt (promised_of x) p) (Keeps (Promises p) (cuts.writing from (promise_of (promised_so x p) p)))
    (if is_in x p then cuts.writing from (promise_of x p) else cuts.writing from (body.Nack p (promised_of x)))
    (λ less. keep_stops (nat_lt (promised_of x) p ≡ true) c n x (Promises p) (cuts.writing from (promise_of (promised_so x p) p)) refl (tt, tt) less)
    (λ more. none_stops (nat_lt (promised_of x) p ≡ true) c n x (if is_in x p then cuts.writing from (promise_of x p) else cuts.writing from (body.Nack p (promised_of x)))
    (if_either (GoesFine false) (is_in x p) (cuts.writing from (promise_of x p)) (cuts.writing from (body.Nack p (promised_of x))) (tt, tt) (tt, tt)))

-- it saves nothing

heartbeat_stops : (c : Cluster) (n : ℕ) (x : UpNode) (from session : ℕ) (member : Bool) → CourseStops ⊥ c n x (cuts.heartbeat_course n x from session member)
heartbeat_stops c n x from session member =
    none_stops ⊥ c n x (cuts.heartbeat_course n x from session member)
    (if_either (GoesFine false) (awaits_start n x from session member) (cuts.writing from (body.Start (session_of x))) Stops (tt, tt) tt)

requested_fine : (x : UpNode) (from : ℕ) (kind : SeizeKind) (e members d : ℕ) (o : Option SeizeResult) → GoesFine false (cuts.request_course x from kind e members d o)
requested_fine x from kind e members d (Some result) = (tt, tt)
requested_fine x from kind e members d None =
    if_either (GoesFine false) (installed_of x == e) (cuts.writing from (body.Seized e d seized.Fault)) (Acts (Accepts kind e members d) Stops) (tt, tt) (tt, tt)

seizing_stops : (c : Cluster) (n : ℕ) (x : UpNode) (from : ℕ) (kind : SeizeKind) (e members d : ℕ) → CourseStops ⊥ c n x (cuts.seizing_course x from kind e members d)
seizing_stops c n x from kind e members d =
    none_stops ⊥ c n x (cuts.seizing_course x from kind e members d)
    (if_either (GoesFine false) (is_in x e) (cuts.request_course x from kind e members d (kept_of x.tasks d)) Stops (requested_fine x from kind e members d (kept_of x.tasks d)) tt)

notice_stops : (c : Cluster) (n : ℕ) (x : UpNode) (e newest : ℕ) → CourseStops ⊥ c n x (cuts.notice_course x e newest)
notice_stops c n x e newest =
    none_stops ⊥ c n x (cuts.notice_course x e newest) (if_either (GoesFine false) (is_in x e) (Falls (down.Panic (panic.Excluded newest))) Stops tt tt)

-- the message is one of these
abbrev pub IsSettled : Body → Type 0
IsSettled b = saves_at_once (named (name_of b)) ≡ true

update_stops : (c : Cluster) (n : ℕ) (ends : method.Outcome) (x : UpNode) (from : ℕ) (m : Message) (b : Body) → IsSettled b
    → CourseStops (SavesAt b x.seat) c n x (cuts.body_course c n ends x from m b)
update_stops c n ends x from m (body.Start e) told = start_stops c n x e x.seat
update_stops c n ends x from m (body.Prepare e place text) told = prepare_stops c n x from e place text x.seat
update_stops c n ends x from m (body.Commit e place) told = commit_stops c n x e place x.seat
update_stops c n ends x from m (body.Collect p members) told = collect_stops c n x from p
update_stops c n ends x from m (body.Heartbeat promised session member) told = heartbeat_stops c n x from session member
update_stops c n ends x from m (body.SeizeQuorum e members d) told = seizing_stops c n x from Vote e members d
update_stops c n ends x from m (body.SeizeData e members d) told = seizing_stops c n x from Plain e members d
update_stops c n ends x from m (body.Excluded e newest) told = notice_stops c n x e newest
update_stops c n ends x from m _ told = absurd (not_so told)

-- .. of the message, at its second of the clock
pub message_stops : (c : Cluster) (n now : ℕ) (ends : method.Outcome) (x : UpNode) (from : ℕ) (m : Message) → IsSettled m.body
    → CourseStops (SavesAt m.body x.seat) c n x (course_at c n now ends x (input.Packet from m))
message_stops c n now ends x from m told =
    let y : UpNode = at_second now x in
    by_test (CourseStops (SavesAt m.body x.seat) c n y) (is_foreign c n y m.body) Stops (Acts (Hears from m.body) (cuts.body_course c n ends (hearing y from m.body) from m m.body))
    (λ foreign. none_stops (SavesAt m.body x.seat) c n y Stops tt) (λ own. update_stops c n ends (hearing y from m.body) from m m.body told)

-- ---- the lines

pub pending_so : (disk : NodeRecord) (o : Option history.NodeRecord) → IfSome o (λ r. r ≡ shown disk) → is_some disk.entries.pending ≡ true → may_be_pending o ≡ true
pending_so disk None h some = refl
pending_so disk (Some r) h some = ap (λ (z : history.NodeRecord). z.pending) h ∙ some

pub both_so : (a b : Bool) → a ≡ true → b ≡ true → (a && b) ≡ true
both_so true true h k = refl
both_so false b h k = cc
both_so true false h k = cc

less_through : (a b p : ℕ) → a ≤ b → nat_lt b p ≡ true → nat_lt a p ≡ true
less_through a b p low less = grind arith

-- a Collect was sent in the attempt that it is of
abbrev pub AskedSo : Letter → Body → Type 0
AskedSo l (body.Collect p members) = number_of l ≡ Some p
AskedSo l _ = Unit {0}

-- the rules let a node in this seat save at such a message
saves_so : (n : ℕ) (l : Letter) (b : Body) (seat : Seat) (ms : List Moment) → AskedSo l b → history_saves.promise_of n ms ≤ (state_of seat).saved.promised → member_of n ms ≡ membership_in seat
    → ((s : NodeState) → (seat ≡ Forming s) → is_some s.saved.entries.pending ≡ true → has_pending n ms ≡ true)
    → ((s : NodeState) → (seat ≡ Member s) → is_some s.saved.entries.pending ≡ true → has_pending n ms ≡ true) → SavesAt b seat
    → saves_at n l (named (name_of b)) ms ≡ true
saves_so n l (body.Start e) (Forming s) ms asked low member forming sitting q =
    both_so (not (is_some (member_of n ms))) (has_pending n ms) (ap (λ (o : Option ℕ). not (is_some o)) member) (forming s refl q)
saves_so n l (body.Start e) (Member s) ms asked low member forming sitting q = absurd q
saves_so n l (body.Prepare e place text) (Forming s) ms asked low member forming sitting q = absurd q
saves_so n l (body.Prepare e place text) (Member s) ms asked low member forming sitting q = ap (λ (o : Option ℕ). is_some o) member
saves_so n l (body.Commit e place) (Forming s) ms asked low member forming sitting q = absurd q
saves_so n l (body.Commit e place) (Member s) ms asked low member forming sitting q =
    both_so (is_some (member_of n ms)) (has_pending n ms) (ap (λ (o : Option ℕ). is_some o) member) (sitting s refl q)
saves_so n l (body.Collect p members) seat ms asked low member forming sitting q =
    subst (λ o. nat_lt (history_saves.promise_of n ms) (or_zero o) ≡ true) (sym asked) (less_through (history_saves.promise_of n ms) (state_of seat).saved.promised p low q)
saves_so n l _ seat ms asked low member forming sitting q = absurd q

abbrev pub IsDelivering : Option Event → Type 0
IsDelivering (Some (event.Deliver p)) = Unit {0}
IsDelivering (Some (event.Next from to)) = Unit {0}
IsDelivering _ = ⊥

same_number : (m n : ℕ) → m ≡ n → (m == n) ≡ true
same_number m n e = grind arith

pub letter_saves : (S : Setting) (n : ℕ) (e : Option Event) (l : Letter) (ms : List Moment) → IsDelivering e → arrived ms ≡ Some l → l.to ≡ n → saves_at n l l.name ms ≡ true → saves_in S n e ms ≡ true
letter_saves S n (Some (event.Deliver p)) l ms is here to saves = ap (λ o. saves_at_letter n o ms) here ∙ both_so (l.to == n) (saves_at n l l.name ms) (same_number l.to n to) saves
letter_saves S n (Some (event.Next from at)) l ms is here to saves = ap (λ o. saves_at_letter n o ms) here ∙ both_so (l.to == n) (saves_at n l l.name ms) (same_number l.to n to) saves
letter_saves S n _ l ms is here to saves = absurd is

pub may_save_so : (S : Setting) (n : ℕ) (l : Letter) (b : Body) (seat : Seat) (disk : NodeRecord) (ms : List Moment) → IsDelivering (under_way ms) → arrived ms ≡ Some l → l.to ≡ n → l.name ≡ named (name_of b)
    → AskedSo l b → history_saves.promise_of n ms ≤ disk.promised → member_of n ms ≡ membership_in seat → IfSome (history.record_of n ms) (λ r. r ≡ shown disk)
    → ((s : NodeState) → seat ≡ Forming s → disk ≡ s.saved) → ((s : NodeState) → seat ≡ Member s → disk ≡ s.saved) → SavesAt b seat → may_save S n ms ≡ true
may_save_so S n l b seat disk ms is here to called asked low member record_so forming sitting q =
    letter_saves S n (under_way ms) l ms is here to
    (subst (λ (a : Name). saves_at n l a ms ≡ true) (sym called)
    (saves_so n l b seat ms asked (seat_low seat forming sitting) member
    (λ s at some. pending_so disk (history.record_of n ms) record_so (ap (λ (r : NodeRecord). is_some r.entries.pending) (forming s at) ∙ some))
    (λ s at some. pending_so disk (history.record_of n ms) record_so (ap (λ (r : NodeRecord). is_some r.entries.pending) (sitting s at) ∙ some)) q))
  where
    seat_low : (k : Seat) → ((s : NodeState) → k ≡ Forming s → disk ≡ s.saved) → ((s : NodeState) → k ≡ Member s → disk ≡ s.saved) → history_saves.promise_of n ms ≤ (state_of k).saved.promised
    seat_low (Forming s) f g = subst (λ (r : NodeRecord). history_saves.promise_of n ms ≤ r.promised) (f s refl) low
    seat_low (Member s) f g = subst (λ (r : NodeRecord). history_saves.promise_of n ms ≤ r.promised) (g s refl) low
