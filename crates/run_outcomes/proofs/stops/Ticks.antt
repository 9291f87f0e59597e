-- The course of a tick: its first save is that of a proposal, or of the promise of an attempt of its own.
use Rattle.std.specs.Prelude.{ℕ, ◌≡◌, ◌==◌, Bool, true, false, List, [], ◌∷◌, Option, None, Some, nat_le, nat_lt, find, if◌then◌else◌}
use Rattle.std.specs.Option.{unwrap_or}
use Rattle.std.proofs.Common.{refl, sym, subst, ◌∙◌, inl, inr}
use Rattle.attempt_laws.proofs.Goes.{none_again_in}
use Rattle.attempt_laws.proofs.QuietLemmas.{quiet_again_in}
use Rattle.cl_base.specs.declared.method.Outcome as method
use Rattle.cl_base.specs.declared.panic.Panic.TheVariants as panic
use Rattle.cmm_attempt.proofs.Basics.{false_true, if_either, none_some}
use Rattle.cmm_attempt.specs.Attempts.{AttemptState, Turn, again_in, is_missing, is_over, later as later_ticks, newest_installed, silenced, ticked, ticking, waits, with_steps}
use Rattle.cmm_attempt.specs.Calls.{Call, installs_in, starts_in, turn}
use Rattle.cmm_attempt.specs.Calls.Call.{Tick as Call_tick, With_votes}
use Rattle.cmm_attempt.specs.declared.step.AttemptEnd.{AttemptEnd}
use Rattle.cmm_attempt.specs.declared.step.Step.{Step}
use Rattle.cmm_attempt.specs.declared.step.Step.TheVariants as step
use Rattle.node_model.specs.Attempts.{begins_install, is_choosing, left_out_by, next_epoch, votes_in}
use Rattle.node_model.specs.Seats.{promised_of}
use Rattle.node_model.specs.Ticks.{later, members_to_form, waiting_less}
use Rattle.node_model.specs.declared.cluster.Cluster.{Cluster}
use Rattle.node_model.specs.declared.node.UpNode.{UpNode}
use Rattle.refinement.specs.Courses.{Course, joined}
use Rattle.refinement.specs.Courses.Course.{Acts, Falls, Keeps, Stops}
use Rattle.refinement.specs.Cuts as cuts
use Rattle.refinement.specs.Cuts.{steps_course}
use Rattle.refinement.specs.Doings.{Act, acted, going}
use Rattle.refinement.specs.Doings.Act.{Gives, Goes_on, Minds, Spreads, Waits, Works}
use Rattle.refinement.specs.Doings.Change.{Leads, Proposes}
use Rattle.seize.specs.declared.kind.SeizeKind.{SeizeKind}
use Rattle.status_report.specs.declared.node_entry.DownCause.TheVariants as down
use Rattle.wire.specs.declared.message.Body.TheVariants as body
use Rattle.run_outcomes.specs.saves.Kept.{Rests, RestsIn}
use Rattle.run_outcomes.specs.stops.Courses.{ProposesFirst, SavesFirst, SavesNone, StillAct}
use Rattle.run_outcomes.proofs.stops.Presidents.{governing_f}

-- ---- an attempt that is under way

joined_n : (c : Cluster) (me : ℕ) (x : UpNode) (k : Course) (next : UpNode → Course) → SavesNone k → ((y : UpNode) → SavesNone (next y)) → SavesNone (joined c me x k next)
joined_n c me x Stops next h f = f x
joined_n c me x (Acts a rest) next h f = (h.0, joined_n c me (acted c me x a) rest next h.1 f)
joined_n c me x (Keeps change rest) next h f = absurd h
joined_n c me x (Falls why) next h f = h

excluded_n : (me e newest : ℕ) (o : Option ℕ) → SavesNone (cuts.excluded_course me e newest o)
excluded_n me e newest None = tt
excluded_n me e newest (Some m) = if_either SavesNone (m == me) (Falls (down.Panic (panic.Excluded newest))) (cuts.writing m (body.Excluded e newest)) tt (tt, tt)

ended_n : (me : ℕ) (e : AttemptEnd) (o : Option AttemptState) → SavesNone (cuts.ended_course me e o)
ended_n me e None = tt
ended_n me e (Some a) = (tt, excluded_n me a.plan.epoch (unwrap_or (newest_installed a) 0) (left_out_by e))

queued_n : (d : ℕ) (kind : SeizeKind) (o : Option AttemptState) → SavesNone (cuts.queued_course d kind o)
queued_n d kind None = tt
queued_n d kind (Some a) = (tt, tt)

step_n : (me : ℕ) (x : UpNode) (s : Step) → SavesNone (cuts.step_course me x s)
step_n me x (step.Send to m) = (tt, tt)
step_n me x (step.SeizeHere d kind) = queued_n d kind x.attempt
step_n me x (step.NeedVotes n) = tt
step_n me x (step.InstallHere i) = tt
step_n me x step.StartHere = tt
step_n me x (step.Ended e) = ended_n me e x.attempt

steps_n : (c : Cluster) (me : ℕ) (x : UpNode) (steps : List Step) → SavesNone (steps_course c me x steps)
steps_n c me x [] = tt
steps_n c me x (s ∷ steps) = joined_n c me x (cuts.step_course me x s) (λ y. steps_course c me y steps) (step_n me x s) (λ y. steps_n c me y steps)

-- a call that neither asks for votes, nor installs, nor starts
record IsRepeat (t : Turn) : Type 0 where
  rests : is_choosing t.after.phase ≡ false
  start : starts_in t.steps ≡ false
  install : installs_in t.steps ≡ None

silenced_repeat : (s : AttemptState) (o : Option ℕ) → is_choosing s.phase ≡ false → IsRepeat (silenced s o)
silenced_repeat s None h = record { rests = h; start = refl; install = refl }
silenced_repeat s (Some m) h = record { rests = refl; start = refl; install = refl }

ticked_repeat : (s : AttemptState) → is_choosing s.phase ≡ false → IsRepeat (ticked s)
ticked_repeat s h =
    if_either IsRepeat (nat_le 8 s.ticks) (silenced s (find (is_missing s) s.plan.nodes)) _ (silenced_repeat s (find (is_missing s) s.plan.nodes) h)
    (if_either IsRepeat (s.ticks == 4) (with_steps s (again_in s s.phase)) (waits s) (record { rests = h; start = (quiet_again_in s s.phase).start; install = none_again_in s s.phase })
    (record { rests = h; start = refl; install = refl }))

tick_repeats : (a : AttemptState) → is_choosing a.phase ≡ false → IsRepeat (turn a Call_tick)
unfolding ticking
tick_repeats a h =
    if_either IsRepeat (is_over a.phase) (waits a) (ticked (record a { ticks = later_ticks a.ticks })) (record { rests = h; start = refl; install = refl })
    (ticked_repeat (record a { ticks = later_ticks a.ticks }) h)

turned_n : (c : Cluster) (me : ℕ) (x : UpNode) (a : AttemptState) (k : Call) (steps : List Step) → starts_in steps ≡ false → installs_in steps ≡ None → SavesNone (cuts.turned_by c me x a k steps)
turned_n c me x a k [] start install = (tt, tt)
turned_n c me x a k (step.InstallHere i ∷ rest) start install = absurd (none_some i (sym install))
turned_n c me x a k (step.StartHere ∷ rest) start install = absurd (false_true (sym start))
turned_n c me x a k (step.Send to m ∷ rest) start install = (tt, steps_n c me (going x a k) (step.Send to m ∷ rest))
turned_n c me x a k (step.SeizeHere d kind ∷ rest) start install = (tt, steps_n c me (going x a k) (step.SeizeHere d kind ∷ rest))
turned_n c me x a k (step.NeedVotes n ∷ rest) start install = (tt, steps_n c me (going x a k) (step.NeedVotes n ∷ rest))
turned_n c me x a k (step.Ended e ∷ rest) start install = (tt, steps_n c me (going x a k) (step.Ended e ∷ rest))

begins_none : (steps : List Step) → installs_in steps ≡ None → begins_install steps ≡ false
begins_none [] h = refl
begins_none (step.InstallHere i ∷ rest) h = absurd (none_some i (sym h))
begins_none (step.StartHere ∷ rest) h = refl
begins_none (step.Send to m ∷ rest) h = refl
begins_none (step.SeizeHere d kind ∷ rest) h = refl
begins_none (step.NeedVotes n ∷ rest) h = refl
begins_none (step.Ended e ∷ rest) h = refl

unless_true : (b : Bool) (k : Course) → b ≡ false → SavesNone (if b then k else Stops)
unless_true true k h = absurd (false_true (sym h))
unless_true false k h = tt

called_n : (c : Cluster) (me : ℕ) (x : UpNode) (a : AttemptState) (k : Call) → IsRepeat (turn a k) → SavesNone (cuts.called c me x a k)
called_n c me x a k h =
    let t : Turn = turn a k in
    joined_n c me x (cuts.turned_all c me x a k) (cuts.if_installed c me t.steps)
    (joined_n c me x (cuts.turned c me x a k) (cuts.if_started c me t.steps) (turned_n c me x a k t.steps h.start h.install) (λ y. unless_true (starts_in t.steps) (cuts.deciding_course c me y) h.start))
    (λ y. unless_true (begins_install t.steps) (cuts.own_ready_course c me y) (begins_none t.steps h.install))

going_n : (c : Cluster) (me : ℕ) (x : UpNode) (a : AttemptState) (k : Call) → IsRepeat (turn a k) → SavesNone (cuts.going_course c me x a k)
going_n c me x a k h = by_test (is_choosing (turn a k).after.phase) h.rests
  where
    by_test : (b : Bool) → b ≡ false
        → SavesNone (if b then Acts (Goes_on a k) (cuts.called c me (going x a k) (turn a k).after (With_votes (votes_in c (turn a k).after))) else cuts.called c me x a k)
    by_test true e = absurd (false_true (sym e))
    by_test false e = called_n c me x a k h

-- ---- the attempt in a tick

none_first : (k : Course) → SavesNone k → SavesFirst k
none_first Stops h = tt
none_first (Acts a rest) h = inr h
none_first (Keeps change rest) h = absurd h
none_first (Falls why) h = h

leading_first : (c : Cluster) (me : ℕ) (x : UpNode) (p members : ℕ) → SavesFirst (cuts.leading_course c me x p members)
leading_first c me x p members = if_either SavesFirst (nat_lt (promised_of x) p) (Keeps (Leads p members) _) Stops tt tt

forming_first : (c : Cluster) (me : ℕ) (x : UpNode) (o : Option ℕ) → SavesFirst (cuts.forming_course c me x o)
forming_first c me x None = tt
forming_first c me x (Some members) = leading_first c me x (next_epoch me x) members

ticked_first : (c : Cluster) (me : ℕ) (x : UpNode) (o : Option AttemptState) → RestsIn o → SavesFirst (cuts.ticked_course c me x o)
ticked_first c me x (Some a) h = none_first (cuts.going_course c me x a Call_tick) (going_n c me x a Call_tick (tick_repeats a h))
ticked_first c me x None h =
    let y : UpNode = waiting_less x in
    if_either SavesFirst (nat_le 1 x.beats.wait) (Acts Waits Stops) (Acts Waits (cuts.forming_course c me y (members_to_form c me y))) (inl (tt, tt)) (inl (tt, forming_first c me y (members_to_form c me y)))

-- ---- the whole

still_attempt : (c : Cluster) (me : ℕ) (x : UpNode) (a : Act) → StillAct a → (acted c me x a).attempt ≡ x.attempt
still_attempt c me x (Gives os) h = refl
still_attempt c me x (Spreads receivers b) h = refl
still_attempt c me x (Minds q p) h = refl
still_attempt c me x (Works w) h = refl
still_attempt c me x Waits h = refl
still_attempt c me x _ h = absurd h

then_first : (c : Cluster) (me : ℕ) (x : UpNode) (k : Course) (next : UpNode → Course) → ProposesFirst k → ((y : UpNode) → y.attempt ≡ x.attempt → SavesFirst (next y)) → SavesFirst (joined c me x k next)
then_first c me x Stops next h f = f x refl
then_first c me x (Acts a rest) next h f = inl (h.0, then_first c me (acted c me x a) rest next h.1 (λ y same. f y (same ∙ still_attempt c me x a h.0)))
then_first c me x (Keeps (Proposes s p text) rest) next h f = tt
then_first c me x (Keeps _ rest) next h f = absurd h
then_first c me x (Falls why) next h f = h

-- what a node does in a tick behind its heartbeats
abbrev pub tick_rest : Cluster → ℕ → method.Outcome → UpNode → Course
tick_rest c me outcome x = joined c me (later c x) (cuts.governing_course c me outcome x (later c x)) (λ y. cuts.ticked_course c me y y.attempt)

pub tick_first : (c : Cluster) (me : ℕ) (outcome : method.Outcome) (x : UpNode) → Rests x → SavesFirst (tick_rest c me outcome x)
tick_first c me outcome x h =
    then_first c me (later c x) (cuts.governing_course c me outcome x (later c x)) (λ y. cuts.ticked_course c me y y.attempt) (governing_f c me outcome x (later c x))
    (λ y same. ticked_first c me y y.attempt (subst RestsIn (sym same) h))
