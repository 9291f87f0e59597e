-- Courses in which nobody is asked to seize a device.
use Rattle.std.specs.Prelude.{ℕ, ◌≡◌, ◌++◌, true, false, Bool, List, [], ◌∷◌, Ok, if◌then◌else◌}
use Rattle.std.proofs.Common.{refl}
use Rattle.cl_base.specs.Limits.{most_nodes}
use Rattle.cl_base.specs.Numbers.{numbers_to}
use Rattle.cmm_attempt.specs.Attempts.{AttemptState}
use Rattle.cmm_attempt.specs.declared.step.AttemptEnd.{AttemptEnd}
use Rattle.cmm_attempt.specs.declared.step.AttemptEnd.TheVariants as end
use Rattle.node_model.specs.Attempts.{ended_entry}
use Rattle.node_model.specs.Presidents.{sent_to}
use Rattle.node_model.specs.Ticks.{heartbeat_of, heartbeats_to, later, ticked_output}
use Rattle.node_model.specs.Updates.{request_again}
use Rattle.node_model.specs.declared.cluster.Cluster.{Cluster}
use Rattle.node_model.specs.declared.node.UpNode.{UpNode}
use Rattle.node_model.specs.declared.output.Output.{Output}
use Rattle.node_model.specs.declared.output.Output.TheVariants.{Sends, Tells}
use Rattle.pgr_device.specs.declared.command.PrAnswer.TheVariants as given
use Rattle.refinement.specs.Courses.{Course, Reply, joined, under}
use Rattle.refinement.specs.Courses.Course.{Acts, Falls, Keeps, Stops}
use Rattle.refinement.specs.Courses.Reply.{Done}
use Rattle.refinement.specs.Doings.{Act, Change, acted, changed, first_lines, last_lines, said, saved_lines, write_lines}
use Rattle.refinement.specs.Doings.Act.{Ends, Gives, Goes_on, Makes, Spreads, Stores, Takes, Ticks, Writes}
use Rattle.refinement.specs.Doings.Change.{Admits, Leads, Proposes}
use Rattle.refinement.specs.Guards.{MayAct, MayGo, TellNothing, TellsNothing}
use Rattle.refinement.specs.Ties.{Delivered}
use Rattle.run_attempts.proofs.Mild.{AreMild, IsMildLine, again_mild, last_mild}
use Rattle.run_attempts.specs.Steps.{CalmChange}
use Rattle.run_history.proofs.Lists.{both, mapped}
use Rattle.run_history.proofs.QuietCourses.{IsQuietBody, Quiet, QuietAct}
use Rattle.run_history.specs.Guards.{IsPlainBody}
use Rattle.run_history.specs.Marks.{ActSo, AllSo, AreMinor, IsMinor}
use Rattle.seize.specs.Answers.{Answer}
use Rattle.status_report.specs.declared.attempt_entry.AttemptEntry.TheVariants as attempt_entry
use Rattle.status_report.specs.declared.entry.Entry.{Entry}
use Rattle.status_report.specs.declared.entry.Entry.TheVariants as entry
use Rattle.wire.specs.declared.message.Body.{Body}
use Rattle.wire.specs.declared.message.Body.TheVariants as body
use Rattle.run_outcomes.specs.saves.Courses.{LeavesAct, LeavesChange}
use Rattle.run_outcomes.specs.Mute.{AskNone, AsksNone, GivesPlainly, GoesTo, IsNoAsk, Mute, MuteAct, PlainAct}
use Rattle.run_outcomes.proofs.results.Calm.{AllCalm, AllMute, IsMute, again_by_calm, all_mute, last_mute}

-- ---- outputs that ask nobody

line_none : (x : Entry) → IsMildLine x → AsksNone (Tells x)
line_none (entry.Attempt (attempt_entry.Begun f members)) h = h
line_none _ h = tt

body_none : (b : Body) → IsMute b → IsNoAsk b
body_none (body.SeizeQuorum e members d) h = h
body_none (body.SeizeData e members d) h = h
body_none _ h = tt

muted_none : (os : List Output) → AreMild os → AllMute os → AskNone os
muted_none [] h k = tt
muted_none (Tells x ∷ os) h k = (line_none x h.0, muted_none os h.1 k.1)
muted_none (Sends to b ∷ os) h k = (body_none b k.0, muted_none os h.1 k.1)

pub mild_none : (os : List Output) → AreMild os → AllCalm os → AskNone os
mild_none os h k = muted_none os h (all_mute os k)

leaves_calm : (change : Change) → LeavesChange change → CalmChange change
leaves_calm (Leads p members) h = h
leaves_calm _ h = tt

pub first_none : (me : ℕ) (change : Change) → AskNone (first_lines me change)
first_none me (Admits at command a d) = (tt, tt)
first_none me (Proposes s p text) = (tt, tt)
first_none me _ = tt

pub last_none : (c : Cluster) (me : ℕ) (x : UpNode) (change : Change) → LeavesChange change → AskNone (last_lines c me x change)
last_none c me x change h = muted_none (last_lines c me x change) (last_mild c me x change (leaves_calm change h)) (last_mute c me x change)

pub saved_none : (c : Cluster) (me : ℕ) (x : UpNode) (change : Change) → LeavesChange change → AskNone (first_lines me change ++ saved_lines c me x change)
saved_none c me x change h = both AsksNone (first_lines me change) (saved_lines c me x change) (first_none me change) (tt, last_none c me x change h)

made_none : (c : Cluster) (me : ℕ) (x : UpNode) (change : Change) → LeavesChange change → AskNone (first_lines me change ++ last_lines c me x change)
made_none c me x change h = both AsksNone (first_lines me change) (last_lines c me x change) (first_none me change) (last_none c me x change h)

beats_none : (x : UpNode) (receivers : ℕ) → AskNone (heartbeats_to x receivers)
unfolding heartbeats_to
beats_none x receivers = mapped AsksNone (λ n. Sends n (heartbeat_of x)) (numbers_to receivers most_nodes) (λ n. tt)

pub ticked_none : (c : Cluster) (before x : UpNode) → AskNone (ticked_output c before x)
ticked_none c before x = both AsksNone (heartbeats_to x _) (request_again before) (beats_none x _) (mild_none (request_again before) (again_mild before) (again_by_calm before before.presidency))

pub ended_none : (e : ℕ) (why : AttemptEnd) → AsksNone (Tells (entry.Attempt (ended_entry e why)))
ended_none e (end.Votes have need lacking) = tt
ended_none e (end.Superseded p) = tt
ended_none e (end.Silent n) = tt
ended_none e (end.Foreign n) = tt
ended_none e (end.Excluded n) = tt

pub write_none : (me : ℕ) (x : UpNode) (d value : ℕ) (a : Answer) → AskNone (write_lines me x d value a)
write_none me x d value (Ok given.Good) = (tt, tt)
write_none me x d value (Ok given.Conflict) = (tt, tt)
write_none me x d value _ = (tt, tt)

spread_none : (receivers : ℕ) (b : Body) → IsNoAsk b → AskNone (sent_to receivers b)
unfolding sent_to
spread_none receivers b h = mapped AsksNone (λ n. Sends n b) (numbers_to receivers most_nodes) (λ n. h)

pub said_none : (c : Cluster) (me : ℕ) (x : UpNode) (a : Act) → LeavesAct a → MuteAct a → PlainAct a → AskNone (said c me x a)
said_none c me x (Goes_on a k) leaves mute plain = tt
said_none c me x Ticks leaves mute plain = (tt, ticked_none c x (later c x))
said_none c me x (Ends a e) leaves mute plain = (ended_none a.plan.epoch e, tt)
said_none c me x (Takes at command a) leaves mute plain = (tt, tt)
said_none c me x (Stores d value a) leaves mute plain = (tt, write_none me x d value a)
said_none c me x (Writes to b) leaves mute plain = (mute, tt)
said_none c me x (Makes change) leaves mute plain = made_none c me x change leaves
said_none c me x (Gives os) leaves mute plain = plain
said_none c me x (Spreads receivers b) leaves mute plain = spread_none receivers b mute
said_none c me x _ leaves mute plain = tt

-- ---- what is given beside

minor_none : (x : Entry) → IsMinor x → AsksNone (Tells x)
minor_none (entry.Command e) h = tt
minor_none (entry.Call e) h = tt
minor_none (entry.Status e) h = tt
minor_none (entry.Address e) h = tt
minor_none _ h = absurd h

nothing_none : (to : ℕ) (b : Body) → TellsNothing (Sends to b) → IsNoAsk b
nothing_none to (body.SeizeQuorum e members d) h = absurd h
nothing_none to (body.SeizeData e members d) h = absurd h
nothing_none to _ h = tt

given_none : (os : List Output) → AreMinor os → TellNothing os → AskNone os
given_none [] h k = tt
given_none (Tells x ∷ os) h k = (minor_none x h.0, given_none os h.1 k.1)
given_none (Sends to b ∷ os) h k = (nothing_none to b k.0, given_none os h k.1)

act_plain : (c : Cluster) (me : ℕ) (told : Delivered) (x : UpNode) (a : Act) → MayAct c me told x a → ActSo a → PlainAct a
act_plain c me told x (Gives os) may so = given_none os so may
act_plain c me told x _ may so = tt

-- each course under its guards
pub gives_plainly : (c : Cluster) (me : ℕ) (told : Delivered) (x : UpNode) (k : Course) → MayGo c me told x k → ((replies : List Reply) → AllSo (under replies k)) → GivesPlainly k
gives_plainly c me told x Stops may so = tt
gives_plainly c me told x (Acts a rest) may so = (act_plain c me told x a may.0 (so []).0, gives_plainly c me told (acted c me x a) rest may.1 (λ replies. (so replies).1))
gives_plainly c me told x (Keeps change rest) may so = gives_plainly c me told (changed c me x change) rest may.1 (λ replies. (so (Done ∷ replies)).1)
gives_plainly c me told x (Falls why) may so = tt

-- ---- courses

pub plain_first : (c : Cluster) (me : ℕ) (x : UpNode) (k : Course) (next : UpNode → Course) → GivesPlainly (joined c me x k next) → GivesPlainly k
plain_first c me x Stops next h = tt
plain_first c me x (Acts a rest) next h = (h.0, plain_first c me (acted c me x a) rest next h.1)
plain_first c me x (Keeps change rest) next h = plain_first c me (changed c me x change) rest next h
plain_first c me x (Falls why) next h = tt

pub goes_joined : {T : Type 0} (count : T → List Output → T) (c : Cluster) (me : ℕ) (P Q : UpNode → T → Type 0) (x : UpNode) (g : T) (k : Course) (next : UpNode → Course) → GivesPlainly (joined c me x k next) → GoesTo count c me P x g k
    → ((y : UpNode) (f : T) → P y f → GivesPlainly (next y) → GoesTo count c me Q y f (next y)) → GoesTo count c me Q x g (joined c me x k next)
goes_joined count c me P Q x g Stops next plain h f = f x g h plain
goes_joined count c me P Q x g (Acts a rest) next plain h f = goes_joined count c me P Q (acted c me x a) (count g (said c me x a)) rest next plain.1 h f
goes_joined count c me P Q x g (Keeps change rest) next plain h f = goes_joined count c me P Q (changed c me x change) (count g (first_lines me change ++ saved_lines c me x change)) rest next plain h f
goes_joined count c me P Q x g (Falls why) next plain h f = tt

pub goes_if : {T : Type 0} (count : T → List Output → T) (c : Cluster) (me : ℕ) (J : UpNode → T → Type 0) (x : UpNode) (g : T) (b : Bool) (k l : Course) → GivesPlainly (if b then k else l) → (b ≡ true → GivesPlainly k → GoesTo count c me J x g k)
    → (b ≡ false → GivesPlainly l → GoesTo count c me J x g l) → GoesTo count c me J x g (if b then k else l)
goes_if count c me J x g true k l plain f h = f refl plain
goes_if count c me J x g false k l plain f h = h refl plain

-- a node without an attempt
abbrev pub Never : AttemptState → Type 0
Never a = ⊥

-- ---- courses that do nothing at devices

quiet_body : (b : Body) → IsQuietBody b → IsNoAsk b
quiet_body (body.SeizeQuorum e members d) h = h
quiet_body (body.SeizeData e members d) h = h
quiet_body _ h = tt

plain_body : (b : Body) → IsPlainBody b → IsNoAsk b
plain_body (body.SeizeQuorum e members d) h = h
plain_body (body.SeizeData e members d) h = h
plain_body _ h = tt

quiet_act : (a : Act) → QuietAct a → MuteAct a
quiet_act (Writes to b) h = quiet_body b h
quiet_act (Spreads receivers b) h = plain_body b h
quiet_act _ h = tt

pub quiet_mute : (k : Course) → Quiet k → Mute k
quiet_mute Stops h = tt
quiet_mute (Acts a rest) h = (quiet_act a h.0, quiet_mute rest h.1)
quiet_mute (Keeps change rest) h = quiet_mute rest h.1
quiet_mute (Falls why) h = tt
