-- At a Ready a node saves at once, or not at all; at a Nack it saves nothing.
use Rattle.std.specs.Prelude.{ℕ, ◌≡◌, ◌&&◌, not, true, false, List, [], ◌∷◌, Option, None, Some, is_some}
use Rattle.std.proofs.Common.{refl, sym, subst, ◌∙◌}
use Rattle.cl_base.specs.declared.method.Outcome as method
use Rattle.cmm_attempt.proofs.Basics.{false_true, if_either}
use Rattle.cmm_attempt.specs.Attempts.{AttemptState, Turn, all_ready, awaits_ready, is_of, is_over, readying, starting, taken, taking, waits}
use Rattle.cmm_attempt.specs.Calls.{Call, Take, With_votes, starts_in, turn}
use Rattle.cmm_attempt.specs.declared.step.Step.{Step}
use Rattle.cmm_attempt.specs.declared.step.Step.TheVariants as step
use Rattle.node_model.specs.Attempts.{is_choosing, starts_now, votes_in}
use Rattle.node_model.specs.Members.{hearing, is_foreign}
use Rattle.node_model.specs.Steps.{at_second}
use Rattle.node_model.specs.declared.cluster.Cluster.{Cluster}
use Rattle.node_model.specs.declared.input.Input.TheVariants as input
use Rattle.node_model.specs.declared.node.UpNode.{UpNode}
use Rattle.node_model.specs.declared.seat.Seat.{Seat}
use Rattle.node_model.specs.declared.seat.Seat.TheVariants.{Forming, Member}
use Rattle.refinement.specs.Courses.{Course, joined}
use Rattle.refinement.specs.Courses.Course.{Acts, Falls, Keeps, Stops}
use Rattle.refinement.specs.Cuts as cuts
use Rattle.refinement.specs.Cuts.{course_at, deciding_course, if_installed, if_started, steps_course}
use Rattle.refinement.specs.Doings.{Act, Change, acted, changed, first_lines, going}
use Rattle.refinement.specs.Doings.Act.{Accepts, Dates, Ends, Gives, Goes_on, Hears, Makes, Minds, Notes, Queues, Spreads, Stores, Takes, Ticks, Waits, Works, Writes}
use Rattle.refinement.specs.Doings.Change.{Starts}
use Rattle.wire.specs.Kinds.{is_ready}
use Rattle.wire.specs.declared.message.Body.{Body}
use Rattle.wire.specs.declared.message.Body.TheVariants as body
use Rattle.wire.specs.declared.message.Message.{Message}
use Rattle.run_downs.proofs.Courses.{GoesFine, KeepsNone, by_test}
use Rattle.run_downs.proofs.Rules.{CourseStops, keep_stops, none_stops}
use Rattle.run_outcomes.specs.saves.Kept.{RestsIn}
use Rattle.run_outcomes.specs.saves.Courses.{StartsPending}
use Rattle.run_outcomes.proofs.saves.Trying.{Tries, deciding_t, gone_t, joined_t, steps_t}

-- ---- courses that save at once

-- it saves first of all, where Q, or nothing
abbrev pub SavesOnce : Type 0 → ℕ → Course → Type 0
SavesOnce Q n Stops = Unit {0}
SavesOnce Q n (Acts (Dates now) rest) = SavesOnce Q n rest
SavesOnce Q n (Acts (Hears from b) rest) = SavesOnce Q n rest
SavesOnce Q n (Acts _ rest) = KeepsNone rest
SavesOnce Q n (Keeps change rest) = Q × (first_lines n change ≡ []) × KeepsNone rest
SavesOnce Q n (Falls why) = Unit {0}

none_fine : (k : Course) → GoesFine true k → KeepsNone k → GoesFine false k
none_fine Stops h none = tt
none_fine (Acts a rest) h none = (h.0, none_fine rest h.1 none)
none_fine (Keeps change rest) h none = absurd none
none_fine (Falls why) h none = h

-- an act that is no change comes first, and nothing is saved
acts_none : (Q : Type 0) (c : Cluster) (n : ℕ) (x : UpNode) (a : Act) (rest : Course) → GoesFine true (Acts a rest) → KeepsNone rest → CourseStops Q c n x (Acts a rest)
acts_none Q c n x a rest fine none = none_stops Q c n x (Acts a rest) (none_fine (Acts a rest) fine none)

pub once_stops : (Q : Type 0) (c : Cluster) (n : ℕ) (x : UpNode) (k : Course) → GoesFine true k → SavesOnce Q n k → CourseStops Q c n x k
once_stops Q c n x Stops fine h = none_stops Q c n x Stops tt
once_stops Q c n x (Acts (Dates now) rest) fine h = once_stops Q c n (acted c n x (Dates now)) rest fine.1 h
once_stops Q c n x (Acts (Hears from b) rest) fine h = once_stops Q c n (acted c n x (Hears from b)) rest fine.1 h
once_stops Q c n x (Acts Ticks rest) fine h = acts_none Q c n x Ticks rest fine h
once_stops Q c n x (Acts Waits rest) fine h = acts_none Q c n x Waits rest fine h
once_stops Q c n x (Acts (Goes_on a k) rest) fine h = acts_none Q c n x (Goes_on a k) rest fine h
once_stops Q c n x (Acts (Ends a e) rest) fine h = acts_none Q c n x (Ends a e) rest fine h
once_stops Q c n x (Acts (Queues a d kind) rest) fine h = acts_none Q c n x (Queues a d kind) rest fine h
once_stops Q c n x (Acts (Accepts kind e members d) rest) fine h = acts_none Q c n x (Accepts kind e members d) rest fine h
once_stops Q c n x (Acts (Takes at command a) rest) fine h = acts_none Q c n x (Takes at command a) rest fine h
once_stops Q c n x (Acts (Stores d value a) rest) fine h = acts_none Q c n x (Stores d value a) rest fine h
once_stops Q c n x (Acts (Writes to b) rest) fine h = acts_none Q c n x (Writes to b) rest fine h
once_stops Q c n x (Acts (Makes change) rest) fine h = acts_none Q c n x (Makes change) rest fine h
once_stops Q c n x (Acts (Gives os) rest) fine h = acts_none Q c n x (Gives os) rest fine h
once_stops Q c n x (Acts (Spreads receivers b) rest) fine h = acts_none Q c n x (Spreads receivers b) rest fine h
once_stops Q c n x (Acts (Minds q p) rest) fine h = acts_none Q c n x (Minds q p) rest fine h
once_stops Q c n x (Acts (Notes from place p) rest) fine h = acts_none Q c n x (Notes from place p) rest fine h
once_stops Q c n x (Acts (Works w) rest) fine h = acts_none Q c n x (Works w) rest fine h
once_stops Q c n x (Keeps change rest) fine h = keep_stops Q c n x change rest h.1 (none_fine rest fine.1 h.2) h.0
once_stops Q c n x (Falls why) fine h = none_stops Q c n x (Falls why) fine

pub none_once : (Q : Type 0) (n : ℕ) (k : Course) → KeepsNone k → SavesOnce Q n k
none_once Q n Stops h = tt
none_once Q n (Acts (Dates now) rest) h = none_once Q n rest h
none_once Q n (Acts (Hears from b) rest) h = none_once Q n rest h
none_once Q n (Acts _ rest) h = h
none_once Q n (Keeps change rest) h = absurd h
none_once Q n (Falls why) h = tt

-- nothing is changed
abbrev NoChange : Change → Type 0
NoChange change = ⊥

tries_none : (k : Course) → Tries NoChange k → KeepsNone k
tries_none Stops h = tt
tries_none (Acts a rest) h = tries_none rest h.1
tries_none (Keeps change rest) h = absurd h.0
tries_none (Falls why) h = tt

-- ---- the call

-- a start comes first, or nothing comes
abbrev pub IsReadySteps : List Step → Type 0
IsReadySteps [] = Unit {0}
IsReadySteps (step.StartHere ∷ rest) = Unit {0}
IsReadySteps _ = ⊥

-- an end comes first, or nothing comes
abbrev pub IsEndSteps : List Step → Type 0
IsEndSteps [] = Unit {0}
IsEndSteps (step.Ended e ∷ rest) = Unit {0}
IsEndSteps _ = ⊥

-- what is done in a call after its first change, where no install comes first
after_n : (c : Cluster) (me : ℕ) (x : UpNode) (k : Course) (steps : List Step) → Tries NoChange k → ((y : UpNode) → Tries NoChange (if_installed c me steps y)) → KeepsNone (joined c me x (joined c me x k (if_started c me steps)) (if_installed c me steps))
after_n c me x k steps h installed =
    tries_none (joined c me x (joined c me x k (if_started c me steps)) (if_installed c me steps))
    (joined_t NoChange c me x (joined c me x k (if_started c me steps)) (if_installed c me steps)
    (joined_t NoChange c me x k (if_started c me steps) h (λ y. if_either (Tries NoChange) (starts_in steps) (deciding_course c me y) Stops (deciding_t NoChange c me y) tt)) installed)

started_once : (c : Cluster) (n : ℕ) (x : UpNode) (a : AttemptState) (k : Call) (rest : List Step) (seat : Seat) → x.attempt ≡ Some a → x.seat ≡ seat
    → (let all : List Step = step.StartHere ∷ rest in SavesOnce (StartsPending x) n (joined c n x (joined c n x (cuts.started c n x a k rest seat) (if_started c n all)) (if_installed c n all)))
started_once c n x a k rest (Member s) has at = after_n c n (going x a k) (steps_course c n (going x a k) rest) (step.StartHere ∷ rest) (steps_t NoChange c n (going x a k) rest) (λ y. tt)
started_once c n x a k rest (Forming s) has at =
    by_test whole (starts_now s (turn a k).after.plan.epoch) (cuts.kept_if (is_some s.saved.entries.pending) (Starts a k s) more) (cuts.gone_on c n x a k rest)
    (λ now. by_test whole (is_some s.saved.entries.pending) (Keeps (Starts a k s) more) (Acts (Makes (Starts a k s)) more)
    (λ some. (record { attempt = a; has = has; state = s; seat = at; pending = some }, refl, after_n c n y more all (steps_t NoChange c n y rest) (λ z. tt)))
    (λ none. after_n c n y more all (steps_t NoChange c n y rest) (λ z. tt)))
    (λ later. after_n c n (going x a k) (steps_course c n (going x a k) rest) all (steps_t NoChange c n (going x a k) rest) (λ z. tt))
  where
    y : UpNode
    y = changed c n x (Starts a k s)

    more : Course
    more = steps_course c n y rest

    all : List Step
    all = step.StartHere ∷ rest

    whole : Course → Type 0
    whole r = SavesOnce (StartsPending x) n (joined c n x (joined c n x r (if_started c n all)) (if_installed c n all))

-- the course of a call with these steps
abbrev CallOf : Cluster → ℕ → UpNode → AttemptState → Call → List Step → Course
CallOf c n x a k steps = joined c n x (joined c n x (cuts.turned_by c n x a k steps) (if_started c n steps)) (if_installed c n steps)

ready_once : (c : Cluster) (n : ℕ) (x : UpNode) (a : AttemptState) (k : Call) (steps : List Step) → x.attempt ≡ Some a → IsReadySteps steps → SavesOnce (StartsPending x) n (CallOf c n x a k steps)
ready_once c n x a k [] has h = tt
ready_once c n x a k (step.StartHere ∷ rest) has h = started_once c n x a k rest x.seat has refl
ready_once c n x a k (step.Send to m ∷ rest) has h = absurd h
ready_once c n x a k (step.SeizeHere d kind ∷ rest) has h = absurd h
ready_once c n x a k (step.NeedVotes m ∷ rest) has h = absurd h
ready_once c n x a k (step.InstallHere i ∷ rest) has h = absurd h
ready_once c n x a k (step.Ended e ∷ rest) has h = absurd h

end_none : (c : Cluster) (n : ℕ) (x : UpNode) (a : AttemptState) (k : Call) (steps : List Step) → IsEndSteps steps → KeepsNone (CallOf c n x a k steps)
end_none c n x a k [] h = tt
end_none c n x a k (step.Ended e ∷ rest) h = after_n c n x (cuts.gone_on c n x a k (step.Ended e ∷ rest)) (step.Ended e ∷ rest) (gone_t NoChange c n x a k (step.Ended e ∷ rest)) (λ y. tt)
end_none c n x a k (step.StartHere ∷ rest) h = absurd h
end_none c n x a k (step.Send to m ∷ rest) h = absurd h
end_none c n x a k (step.SeizeHere d kind ∷ rest) h = absurd h
end_none c n x a k (step.NeedVotes m ∷ rest) h = absurd h
end_none c n x a k (step.InstallHere i ∷ rest) h = absurd h

-- ---- what the attempt makes of a Ready, and of a Nack

abbrev IsReadyTurn : Turn → Type 0
IsReadyTurn t = (is_choosing t.after.phase ≡ false) × IsReadySteps t.steps

abbrev IsEndTurn : Turn → Type 0
IsEndTurn t = (is_choosing t.after.phase ≡ false) × IsEndSteps t.steps

starting_ready : (a : AttemptState) → is_choosing a.phase ≡ false → IsReadyTurn (starting a)
unfolding starting
starting_ready a rests = if_either IsReadyTurn (a.own_ready && all_ready a) _ _ (refl, tt) (rests, tt)

readying_ready : (a : AttemptState) (from : ℕ) (m : Message) → is_choosing a.phase ≡ false → IsReadyTurn (readying a from m)
unfolding readying
readying_ready a from m rests = if_either IsReadyTurn (awaits_ready a from a.phase && is_ready m.body) _ _ (starting_ready _ rests) (rests, tt)

abbrev pub IsReadyBody : Body → Type 0
IsReadyBody (body.Ready e devices report) = Unit {0}
IsReadyBody _ = ⊥

abbrev pub IsNackBody : Body → Type 0
IsNackBody (body.Nack e promised) = Unit {0}
IsNackBody _ = ⊥

taken_ready : (a : AttemptState) (from : ℕ) (m : Message) (b : Body) → IsReadyBody b → is_choosing a.phase ≡ false → IsReadyTurn (taken a from m b)
taken_ready a from m (body.Ready e devices report) is rests = readying_ready a from m rests
taken_ready a from m _ is rests = absurd is

taking_ready : (a : AttemptState) (from : ℕ) (m : Message) → IsReadyBody m.body → is_choosing a.phase ≡ false → IsReadyTurn (taking a from m)
unfolding taking
taking_ready a from m is rests = if_either IsReadyTurn (not (is_over a.phase) && is_of a.plan.epoch m.body) (taken a from m m.body) (waits a) (taken_ready a from m m.body is rests) (rests, tt)

taken_nack : (a : AttemptState) (from : ℕ) (m : Message) (b : Body) → IsNackBody b → IsEndTurn (taken a from m b)
taken_nack a from m (body.Nack e promised) is = (refl, tt)
taken_nack a from m _ is = absurd is

taking_nack : (a : AttemptState) (from : ℕ) (m : Message) → IsNackBody m.body → is_choosing a.phase ≡ false → IsEndTurn (taking a from m)
unfolding taking
taking_nack a from m is rests = if_either IsEndTurn (not (is_over a.phase) && is_of a.plan.epoch m.body) (taken a from m m.body) (waits a) (taken_nack a from m m.body is) (rests, tt)

-- ---- the messages

rests_of : (o : Option AttemptState) (a : AttemptState) → o ≡ Some a → RestsIn o → is_choosing a.phase ≡ false
rests_of o a has rests = subst RestsIn has rests

going_ready : (c : Cluster) (n : ℕ) (x : UpNode) (a : AttemptState) (from : ℕ) (m : Message) → x.attempt ≡ Some a → IsReadyTurn (taking a from m) → SavesOnce (StartsPending x) n (cuts.going_course c n x a (Take from m))
going_ready c n x a from m has turned =
    by_test (SavesOnce (StartsPending x) n) (is_choosing (taking a from m).after.phase) (Acts (Goes_on a (Take from m)) (cuts.called c n (going x a (Take from m)) (taking a from m).after (With_votes (votes_in c (taking a from m).after))))
    (cuts.called c n x a (Take from m)) (λ chooses. absurd (false_true (sym turned.0 ∙ chooses))) (λ rests. ready_once c n x a (Take from m) (taking a from m).steps has turned.1)

answer_ready : (c : Cluster) (n : ℕ) (x : UpNode) (from : ℕ) (m : Message) (o : Option AttemptState) → x.attempt ≡ o → IsReadyBody m.body → RestsIn o → SavesOnce (StartsPending x) n (cuts.answer_course c n x from m o)
answer_ready c n x from m None has is rests = tt
answer_ready c n x from m (Some a) has is rests = going_ready c n x a from m has (taking_ready a from m is rests)

body_ready : (c : Cluster) (n : ℕ) (ends : method.Outcome) (x : UpNode) (from : ℕ) (m : Message) (b : Body) → IsReadyBody m.body → IsReadyBody b → RestsIn x.attempt → SavesOnce (StartsPending x) n (cuts.body_course c n ends x from m b)
body_ready c n ends x from m (body.Ready e devices report) is at rests = answer_ready c n x from m x.attempt refl is rests
body_ready c n ends x from m _ is at rests = absurd at

-- what is heard, and the second of the clock, leave attempt and seat
same_starts : (x y : UpNode) → y.attempt ≡ x.attempt → y.seat ≡ x.seat → StartsPending y → StartsPending x
same_starts x y attempt seat h = record { attempt = h.attempt; has = sym attempt ∙ h.has; state = h.state; seat = sym seat ∙ h.seat; pending = h.pending }

pub once_by : (Q R : Type 0) (n : ℕ) (k : Course) → (Q → R) → SavesOnce Q n k → SavesOnce R n k
once_by Q R n Stops f h = tt
once_by Q R n (Acts (Dates now) rest) f h = once_by Q R n rest f h
once_by Q R n (Acts (Hears from b) rest) f h = once_by Q R n rest f h
once_by Q R n (Acts _ rest) f h = h
once_by Q R n (Keeps change rest) f h = (f h.0, h.1, h.2)
once_by Q R n (Falls why) f h = tt

pub ready_saves : (c : Cluster) (n now : ℕ) (ends : method.Outcome) (x : UpNode) (from : ℕ) (m : Message) → IsReadyBody m.body → RestsIn x.attempt → SavesOnce (StartsPending x) n (course_at c n now ends x (input.Packet from m))
ready_saves c n now ends x from m is rests =
    let y : UpNode = at_second now x in
    let z : UpNode = hearing y from m.body in
    if_either (SavesOnce (StartsPending x) n) (is_foreign c n y m.body) Stops (Acts (Hears from m.body) (cuts.body_course c n ends z from m m.body)) tt
    (once_by (StartsPending z) (StartsPending x) n (cuts.body_course c n ends z from m m.body) (same_starts x z refl refl) (body_ready c n ends z from m m.body is is rests))

going_nack : (c : Cluster) (n : ℕ) (x : UpNode) (a : AttemptState) (from : ℕ) (m : Message) → IsEndTurn (taking a from m) → KeepsNone (cuts.going_course c n x a (Take from m))
going_nack c n x a from m turned =
    by_test KeepsNone (is_choosing (taking a from m).after.phase) (Acts (Goes_on a (Take from m)) (cuts.called c n (going x a (Take from m)) (taking a from m).after (With_votes (votes_in c (taking a from m).after))))
    (cuts.called c n x a (Take from m)) (λ chooses. absurd (false_true (sym turned.0 ∙ chooses))) (λ rests. end_none c n x a (Take from m) (taking a from m).steps turned.1)

answer_nack : (c : Cluster) (n : ℕ) (x : UpNode) (from : ℕ) (m : Message) (o : Option AttemptState) → IsNackBody m.body → RestsIn o → KeepsNone (cuts.answer_course c n x from m o)
answer_nack c n x from m None is rests = tt
answer_nack c n x from m (Some a) is rests = going_nack c n x a from m (taking_nack a from m is rests)

body_nack : (c : Cluster) (n : ℕ) (ends : method.Outcome) (x : UpNode) (from : ℕ) (m : Message) (b : Body) → IsNackBody m.body → IsNackBody b → RestsIn x.attempt → KeepsNone (cuts.body_course c n ends x from m b)
body_nack c n ends x from m (body.Nack e promised) is at rests = answer_nack c n x from m x.attempt is rests
body_nack c n ends x from m _ is at rests = absurd at

pub nack_saves : (c : Cluster) (n now : ℕ) (ends : method.Outcome) (x : UpNode) (from : ℕ) (m : Message) → IsNackBody m.body → RestsIn x.attempt → SavesOnce ⊥ n (course_at c n now ends x (input.Packet from m))
nack_saves c n now ends x from m is rests =
    let y : UpNode = at_second now x in
    let z : UpNode = hearing y from m.body in
    if_either (SavesOnce ⊥ n) (is_foreign c n y m.body) Stops (Acts (Hears from m.body) (cuts.body_course c n ends z from m m.body)) tt
    (none_once ⊥ n (cuts.body_course c n ends z from m m.body) (body_nack c n ends z from m m.body is is rests))
