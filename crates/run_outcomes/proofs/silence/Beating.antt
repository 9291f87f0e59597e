-- What a node that has an attempt gives in a tick: beats, and then the end of it for want of an answer, or nothing of such an end.
use Rattle.std.specs.Prelude.{ℕ, ◌+◌, ◌==◌, ◌++◌, ◌≡◌, ◌≤◌, ◌⊎◌, nat_le, Bool, true, false, List, [], ◌∷◌, Option, None, Some, find, if◌then◌else◌}
use Rattle.std.specs.List.{AllByRecursion, cons_option, filter_map}
use Rattle.std.proofs.Common.{arith, refl, sym, ap, subst, ◌∙◌, inl, inr}
use Rattle.cl_base.specs.Limits.{most_nodes}
use Rattle.cl_base.specs.Numbers.{numbers_to}
use Rattle.cl_base.specs.Seizings.{SeizeResult}
use Rattle.cl_base.specs.declared.method.Outcome as method
use Rattle.cmm_attempt.proofs.Basics.{false_true, if_either}
use Rattle.cmm_attempt.specs.Attempts as attempts
use Rattle.cmm_attempt.specs.Attempts.{AttemptState, Turn, again_in, collects, ends, is_missing, is_missing_in, is_over, silenced, ticked, ticking, voting, waits, with_steps}
use Rattle.cmm_attempt.specs.Calls.{starts_in}
use Rattle.cmm_attempt.specs.Seizings.{again_by, again_for, request_body}
use Rattle.cmm_attempt.specs.declared.phase.Phase.{Phase}
use Rattle.cmm_attempt.specs.declared.phase.Phase.TheVariants.{Choosing, Collecting, Installing, Over, SeizingOthers, SeizingVotes}
use Rattle.cmm_attempt.specs.declared.plan.Plan as attempt_plan
use Rattle.cmm_attempt.specs.declared.seizing.Seizing.{Seizing}
use Rattle.cmm_attempt.specs.declared.step.Step.{Step}
use Rattle.cmm_attempt.specs.declared.step.Step.TheVariants as step
use Rattle.history.specs.Attempts.{is_question}
use Rattle.history.specs.Names.{named}
use Rattle.node_model.specs.Attempts.{begins_install, going_on, is_choosing, own_ready, performed, performing, under_way, votes_in}
use Rattle.node_model.specs.Deciding.{deciding, deciding_by}
use Rattle.node_model.specs.Groups.{orders_again_by, own_order_of, own_turn}
use Rattle.node_model.specs.Plans.{Plan, and_then}
use Rattle.node_model.specs.Plans.Plan.{Says, Stays}
use Rattle.node_model.specs.Seats.{coordinator_of, is_member}
use Rattle.node_model.specs.Steps.{carried}
use Rattle.node_model.specs.Ticks.{attempt_ticked, governing, heartbeat_of, heartbeats_to, later, on_tick, ticked_output}
use Rattle.node_model.specs.Updates.{later_presidency, prepares_again_by, request_again, request_again_by, request_again_to}
use Rattle.node_model.specs.declared.cluster.Cluster.{Cluster}
use Rattle.node_model.specs.declared.node.UpNode.{UpNode}
use Rattle.node_model.specs.declared.output.Output.{Output}
use Rattle.node_model.specs.declared.output.Output.TheVariants.{Sends, Tells}
use Rattle.node_model.specs.declared.presidency.Presidency.{Presidency}
use Rattle.record_disk.specs.Disks.{DiskState, saving}
use Rattle.request_queue.specs.Queue as queue
use Rattle.request_queue.specs.declared.request.Request.{Request}
use Rattle.wire.specs.declared.message.Order.{Order}
use Rattle.run_history.proofs.Lists.{both, mapped}
use Rattle.status_report.specs.declared.attempt_entry.AttemptEntry.TheVariants as attempt
use Rattle.status_report.specs.declared.entry.Entry.TheVariants as entry
use Rattle.status_report.specs.declared.node_entry.NodeEntry.TheVariants as note
use Rattle.world_model.specs.Sends.{name_of}
use Rattle.run_outcomes.proofs.silence.BeatLines.{find_same}
use Rattle.run_outcomes.proofs.silence.Mute.{AreMute, IsMute, ticked_mute}

-- a packet that asks nothing
abbrev pub BeatOut : Output → Type 0
BeatOut (Sends to b) = is_question (named (name_of b)) ≡ false
BeatOut (Tells e) = ⊥

-- ---- beats

again_to_beat : (x : UpNode) (r : Option Request) (o : Option ℕ) → AllByRecursion BeatOut (request_again_to x r o)
again_to_beat x (Some r) (Some president) = (refl, tt)
again_to_beat x None president = tt
again_to_beat x (Some r) None = tt

again_by_beat : (x : UpNode) (o : Option Presidency) → AllByRecursion BeatOut (request_again_by x o)
again_by_beat x None =
    if_either (λ os. AllByRecursion BeatOut os) (queue.goes_again x.requests) (request_again_to x (queue.oldest x.requests) (coordinator_of x)) []
    (again_to_beat x (queue.oldest x.requests) (coordinator_of x)) tt
again_by_beat x (Some p) = tt

beats_beat : (x : UpNode) (receivers : ℕ) → AllByRecursion BeatOut (heartbeats_to x receivers)
unfolding heartbeats_to
beats_beat x receivers = mapped BeatOut (λ n. Sends n (heartbeat_of x)) (numbers_to receivers most_nodes) (λ n. refl)

ticked_beat : (c : Cluster) (before x : UpNode) → AllByRecursion BeatOut (ticked_output c before x)
ticked_beat c before x = both BeatOut (heartbeats_to x _) (request_again before) (beats_beat x _) (again_by_beat before before.presidency)

-- ---- steps that send alone

abbrev IsSend : Step → Type 0
IsSend (step.Send to m) = Unit {0}
IsSend _ = ⊥

abbrev GivesMute : ℕ → Plan → Type 0
GivesMute me p = (given : List Output) (disk : DiskState) → AreMute given → AreMute (carried saving me p given disk).given

sends_give : (c : Cluster) (me : ℕ) (y : UpNode) (steps : List Step) (f g : UpNode → Plan) → AllByRecursion IsSend steps → GivesMute me (and_then (f y) g) → GivesMute me (and_then (and_then (performing c me y steps) f) g)
sends_give c me y [] f g h k = k
sends_give c me y (step.Send to m ∷ steps) f g h k = λ given disk mute. sends_give c me y steps f g h.1 k (given ++ Sends to m.body ∷ []) disk (both IsMute given (Sends to m.body ∷ []) mute (tt, tt))
sends_give c me y (_ ∷ steps) f g h k = absurd h.0

no_start : (steps : List Step) → AllByRecursion IsSend steps → starts_in steps ≡ false
no_start [] h = refl
no_start (step.Send to m ∷ steps) h = no_start steps h.1
no_start (_ ∷ steps) h = absurd h.0

no_install : (steps : List Step) → AllByRecursion IsSend steps → begins_install steps ≡ false
no_install [] h = refl
no_install (step.Send to m ∷ steps) h = refl
no_install (_ ∷ steps) h = absurd h.0

nothing_more : (c : Cluster) (me : ℕ) (y : UpNode) (a b : Bool) → a ≡ false → b ≡ false → GivesMute me (and_then (if a then deciding c me y else Stays y) (λ z. if b then own_ready c me z else Stays z))
nothing_more c me y true b h k = absurd (false_true (sym h))
nothing_more c me y false true h k = absurd (false_true (sym k))
nothing_more c me y false false h k = λ given disk mute. mute

sends_performed : (c : Cluster) (me : ℕ) (y : UpNode) (steps : List Step) → AllByRecursion IsSend steps → GivesMute me (performed c me y steps)
sends_performed c me y steps h =
    sends_give c me y steps (λ z. if starts_in steps then deciding c me z else Stays z) (λ z. if begins_install steps then own_ready c me z else Stays z) h
    (nothing_more c me y (starts_in steps) (begins_install steps) (no_start steps h) (no_install steps h))

again_cons : (plan : attempt_plan.Plan) (x : Seizing) (r : Option SeizeResult) (o : Option ℕ) (rest : List Step) → AllByRecursion IsSend rest → AllByRecursion IsSend (cons_option (again_by plan x r o) rest)
again_cons plan x None (Some n) rest h = by_test (n == plan.coordinator)
  where
    by_test : (b : Bool) → AllByRecursion IsSend (cons_option (if b then None else Some (if b then step.SeizeHere x.attached.device x.kind else step.Send n (record { sender = plan.coordinator; body = request_body plan x.kind x.attached.device }))) rest)
    by_test true = h
    by_test false = (tt, h)
again_cons plan x None None rest h = h
again_cons plan x (Some r) o rest h = h

agains : (plan : attempt_plan.Plan) (xs : List Seizing) → AllByRecursion IsSend (filter_map (again_for plan) xs)
agains plan [] = tt
agains plan (x ∷ xs) = again_cons plan x x.result x.seizer (filter_map (again_for plan) xs) (agains plan xs)

again_sends : (s : AttemptState) (phase : Phase) → AllByRecursion IsSend (again_in s phase)
again_sends s Collecting = mapped IsSend _ (attempts.silent_others s) (λ n. tt)
again_sends s Choosing = tt
again_sends s SeizingVotes = agains s.plan s.devices
again_sends s SeizingOthers = agains s.plan s.devices
again_sends s Installing = mapped IsSend _ (attempts.silent_others s) (λ n. tt)
again_sends s Over = tt

-- ---- the attempt

-- it ends for want of m
record EndsHere (me : ℕ) (a : AttemptState) (p : Plan) : Type 0 where
  m : ℕ
  least : find (is_missing a) a.plan.nodes ≡ Some m
  late : 7 ≤ a.ticks
  gives : (given : List Output) (disk : DiskState) → (carried saving me p given disk).given ≡ given ++ Tells (entry.Attempt (attempt.Silent a.plan.epoch m)) ∷ []

abbrev Shape : ℕ → AttemptState → Plan → Type 0
Shape me a p = GivesMute me p ⊎ EndsHere me a p

still_missing : (a : AttemptState) (k m : ℕ) (p : Phase) → is_missing_in (record a { ticks = k }) m p ≡ is_missing_in a m p
still_missing a k m Collecting = refl
still_missing a k m Choosing = refl
still_missing a k m SeizingVotes = refl
still_missing a k m SeizingOthers = refl
still_missing a k m Installing = refl
still_missing a k m Over = refl

seven : (k : ℕ) → nat_le 8 (attempts.later k) ≡ true → 7 ≤ k
seven k h = by_test (nat_le 8 k) refl h
  where
    more : (k : ℕ) → nat_le 8 k ≡ true → 7 ≤ k
    more k h = grind arith

    last : (k : ℕ) → nat_le 8 (k + 1) ≡ true → 7 ≤ k
    last k h = grind arith

    by_test : (b : Bool) → nat_le 8 k ≡ b → nat_le 8 (if b then 8 else k + 1) ≡ true → 7 ≤ k
    by_test true is h = more k is
    by_test false is h = last k h

sends_shape : (c : Cluster) (me : ℕ) (y : UpNode) (a s : AttemptState) (steps : List Step) → is_choosing s.phase ≡ false → AllByRecursion IsSend steps → Shape me a (going_on c me y (with_steps s steps))
sends_shape c me y a s steps rests h = inl (by_test (is_choosing s.phase) rests)
  where
    by_test : (b : Bool) → b ≡ false → GivesMute me (if b then performed c me (under_way y (voting s (votes_in c s)).after) (voting s (votes_in c s)).steps else performed c me (under_way y s) steps)
    by_test true is = absurd (false_true (sym is))
    by_test false is = sends_performed c me (under_way y s) steps h

silenced_shape : (c : Cluster) (me : ℕ) (y : UpNode) (a : AttemptState) (k : ℕ) (o : Option ℕ) → is_choosing a.phase ≡ false → find (is_missing a) a.plan.nodes ≡ o → 7 ≤ a.ticks → Shape me a (going_on c me y (silenced (record a { ticks = k }) o))
silenced_shape c me y a k None rests least late = sends_shape c me y a (record a { ticks = k }) [] rests tt
silenced_shape c me y a k (Some m) rests least late = inr (record { m = m; least = least; late = late; gives = λ given disk. refl })

ticked_shape : (c : Cluster) (me : ℕ) (y : UpNode) (a : AttemptState) → is_choosing a.phase ≡ false → Shape me a (going_on c me y (ticked (record a { ticks = attempts.later a.ticks })))
ticked_shape c me y a rests = by_test (nat_le 8 s.ticks) refl
  where
    s : AttemptState
    s = record a { ticks = attempts.later a.ticks }

    same : find (is_missing s) s.plan.nodes ≡ find (is_missing a) a.plan.nodes
    same = find_same (is_missing s) (is_missing a) a.plan.nodes (λ m. still_missing a (attempts.later a.ticks) m a.phase)

    by_test : (b : Bool) → nat_le 8 s.ticks ≡ b
        → Shape me a (going_on c me y (if b then silenced s (find (is_missing s) s.plan.nodes) else (if s.ticks == 4 then with_steps s (again_in s s.phase) else waits s)))
    by_test true is = silenced_shape c me y a (attempts.later a.ticks) (find (is_missing s) s.plan.nodes) rests (sym same) (seven a.ticks is)
    by_test false is =
        if_either (λ (t : Turn). Shape me a (going_on c me y t)) (s.ticks == 4) (with_steps s (again_in s s.phase)) (waits s)
        (sends_shape c me y a s (again_in s s.phase) rests (again_sends s s.phase)) (sends_shape c me y a s [] rests tt)

ticking_shape : (c : Cluster) (me : ℕ) (y : UpNode) (a : AttemptState) → is_over a.phase ≡ false → is_choosing a.phase ≡ false → Shape me a (going_on c me y (ticking a))
unfolding ticking
ticking_shape c me y a live rests =
    subst (λ b. Shape me a (going_on c me y (if b then waits a else ticked (record a { ticks = attempts.later a.ticks })))) (sym live) (ticked_shape c me y a rests)

-- ---- the tick

either_none : (b : Bool) (o : Option Order) → o ≡ None → (if b then o else None) ≡ None
either_none true o h = h
either_none false o h = refl

governing_is : (c : Cluster) (me : ℕ) (ends_so : method.Outcome) (before y : UpNode) → before.presidency ≡ None → y.presidency ≡ None → governing c me ends_so before y ≡ Says [] (Stays y)
governing_is c me ends_so before y none now =
    ap (λ o. and_then (own_turn c me ends_so y o) (λ z. Says (prepares_again_by before before.presidency ++ orders_again_by before.presidency z.presidency) (deciding c me z))) (either_none (is_member y.seat) (own_order_of me y.presidency) (ap (own_order_of me) now))
    ∙ (ap (λ p. Says (prepares_again_by before p ++ orders_again_by p y.presidency) (deciding_by c me y y.presidency)) none ∙ ap (λ p. Says [] (deciding_by c me y p)) now)

-- what it gives ends so
pub record Silences (me : ℕ) (a : AttemptState) (os : List Output) : Type 0 where
  pub m : ℕ
  pub least : find (is_missing a) a.plan.nodes ≡ Some m
  pub late : 7 ≤ a.ticks
  pub beats : List Output
  pub are : AllByRecursion BeatOut beats
  pub is : os ≡ Tells (entry.Node me note.Ticked) ∷ (beats ++ Tells (entry.Attempt (attempt.Silent a.plan.epoch m)) ∷ [])

pub tick_shape : (c : Cluster) (me : ℕ) (ends_so : method.Outcome) (x : UpNode) (a : AttemptState) (disk : DiskState) → x.presidency ≡ None → x.attempt ≡ Some a → is_over a.phase ≡ false → is_choosing a.phase ≡ false
    → (let os : List Output = (carried saving me (on_tick c me ends_so x) [] disk).given in AreMute os ⊎ Silences me a os)
tick_shape c me ends_so x a disk none has live rests =
    subst (λ p. Result (carried saving me (and_then p (λ z. attempt_ticked c me z z.attempt)) first disk).given) (sym (governing_is c me ends_so x y none (ap later_presidency none)))
    (subst (λ o. Result (carried saving me (attempt_ticked c me y o) (first ++ []) disk).given) (sym has) (by_shape (ticking_shape c me y a live rests)))
  where
    y : UpNode
    y = later c x

    first : List Output
    first = Tells (entry.Node me note.Ticked) ∷ ticked_output c x y

    Result : List Output → Type 0
    Result os = AreMute os ⊎ Silences me a os

    by_shape : Shape me a (going_on c me y (ticking a)) → AreMute (carried saving me (going_on c me y (ticking a)) (first ++ []) disk).given ⊎ Silences me a (carried saving me (going_on c me y (ticking a)) (first ++ []) disk).given
    by_shape (inl mute) = inl (mute (first ++ []) disk (both IsMute first [] (tt, ticked_mute c x y) tt))
    by_shape (inr e) = inr (record { m = e.m; least = e.least; late = e.late; beats = ticked_output c x y ++ []; are = both BeatOut (ticked_output c x y) [] (ticked_beat c x y) tt; is = e.gives (first ++ []) disk })

-- ---- at the eighth tick it does end

later_eight : (k : ℕ) → 7 ≤ k → nat_le 8 (attempts.later k) ≡ true
later_eight k h = by_test (nat_le 8 k) refl
  where
    next : (k : ℕ) → 7 ≤ k → nat_le 8 (k + 1) ≡ true
    next k h = grind (arith, h)

    by_test : (b : Bool) → nat_le 8 k ≡ b → nat_le 8 (if b then 8 else k + 1) ≡ true
    by_test true is = refl
    by_test false is = next k h

silenced_ends : (c : Cluster) (me : ℕ) (y : UpNode) (a : AttemptState) (k m : ℕ) (o : Option ℕ) → o ≡ Some m → find (is_missing a) a.plan.nodes ≡ Some m → 7 ≤ a.ticks → EndsHere me a (going_on c me y (silenced (record a { ticks = k }) o))
silenced_ends c me y a k m o is least late = subst (λ z. EndsHere me a (going_on c me y (silenced (record a { ticks = k }) z))) (sym is) (record { m = m; least = least; late = late; gives = λ given disk. refl })

ticking_ends : (c : Cluster) (me : ℕ) (y : UpNode) (a : AttemptState) (m : ℕ) → is_over a.phase ≡ false → 7 ≤ a.ticks → find (is_missing a) a.plan.nodes ≡ Some m → EndsHere me a (going_on c me y (ticking a))
unfolding ticking
ticking_ends c me y a m live late least =
    let s : AttemptState = record a { ticks = attempts.later a.ticks } in
    let same : find (is_missing s) s.plan.nodes ≡ find (is_missing a) a.plan.nodes = find_same (is_missing s) (is_missing a) a.plan.nodes (λ j. still_missing a (attempts.later a.ticks) j a.phase) in
    subst (λ b. EndsHere me a (going_on c me y (if b then waits a else ticked s))) (sym live)
    (subst (λ b. EndsHere me a (going_on c me y (if b then silenced s (find (is_missing s) s.plan.nodes) else (if s.ticks == 4 then with_steps s (again_in s s.phase) else waits s)))) (sym (later_eight a.ticks late))
    (silenced_ends c me y a (attempts.later a.ticks) m (find (is_missing s) s.plan.nodes) (same ∙ least) least late))

pub tick_ends : (c : Cluster) (me : ℕ) (ends_so : method.Outcome) (x : UpNode) (a : AttemptState) (disk : DiskState) (m : ℕ) → x.presidency ≡ None → x.attempt ≡ Some a → is_over a.phase ≡ false → 7 ≤ a.ticks → find (is_missing a) a.plan.nodes ≡ Some m
    → (let os : List Output = (carried saving me (on_tick c me ends_so x) [] disk).given in Silences me a os)
tick_ends c me ends_so x a disk m none has live late least =
    subst (λ p. Silences me a (carried saving me (and_then p (λ z. attempt_ticked c me z z.attempt)) first disk).given) (sym (governing_is c me ends_so x y none (ap later_presidency none)))
    (subst (λ o. Silences me a (carried saving me (attempt_ticked c me y o) (first ++ []) disk).given) (sym has)
    (record { m = e.m; least = e.least; late = e.late; beats = ticked_output c x y ++ []; are = both BeatOut (ticked_output c x y) [] (ticked_beat c x y) tt; is = e.gives (first ++ []) disk }))
  where
    y : UpNode
    y = later c x

    first : List Output
    first = Tells (entry.Node me note.Ticked) ∷ ticked_output c x y

    e : EndsHere me a (going_on c me y (ticking a))
    e = ticking_ends c me y a m live late least
