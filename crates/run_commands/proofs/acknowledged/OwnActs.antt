-- An act of a node leaves what is known of its own requests.
use Rattle.std.specs.Prelude.{ℕ, ◌≡◌, ◌≢◌, List, [], ◌∷◌, Option, None, Some, Ok, is_some}
use Rattle.std.specs.List.{AllByRecursion}
use Rattle.std.proofs.Common.{refl, sym, ap, subst, ◌∙◌, inl, inr}
use Rattle.cl_base.specs.Limits.{most_nodes}
use Rattle.cl_base.specs.Numbers.{numbers_to}
use Rattle.cmm_attempt.proofs.Basics.{if_either}
use Rattle.heartbeats.specs.Views.{receivers_of}
use Rattle.pgr_device.specs.declared.command.PrAnswer.TheVariants as given
use Rattle.proposals.specs.declared.arrived.Arrived.{Arrived}
use Rattle.request_queue.specs.Queue as queue
use Rattle.request_queue.specs.Queue.{Queue, oldest}
use Rattle.request_queue.specs.declared.request.Request.{Request}
use Rattle.seize.specs.Answers.{Answer}
use Rattle.status_report.specs.declared.command_entry.Answer.{Answer as Reply}
use Rattle.wire.specs.declared.message.Body.{Body}
use Rattle.history.specs.Moment.{Moment}
use Rattle.history.specs.Setting.{Setting}
use Rattle.node_model.specs.Configurations.{configured_at}
use Rattle.node_model.specs.Presidents.{sent_to}
use Rattle.node_model.specs.Seats.{coordinator_of, session_of}
use Rattle.node_model.specs.Ticks.{heartbeat_of, heartbeats_to, later}
use Rattle.node_model.specs.Updates.{request_again, request_again_by, request_again_to}
use Rattle.node_model.specs.declared.cluster.Cluster.{Cluster}
use Rattle.node_model.specs.declared.input.Input.{Input}
use Rattle.node_model.specs.declared.node.UpNode.{UpNode}
use Rattle.node_model.specs.declared.output.Output.{Output}
use Rattle.node_model.specs.declared.output.Output.TheVariants.{Sends}
use Rattle.node_model.specs.declared.presidency.Presidency.{Presidency}
use Rattle.refinement.proofs.Handlers.{delivered_by}
use Rattle.refinement.specs.Doings.{Act, acted, said, write_lines}
use Rattle.refinement.specs.Doings.Act.{Accepts, Dates, Ends, Gives, Goes_on, Hears, Makes, Minds, Notes, Queues, Spreads, Stores, Takes, Ticks, Waits, Works, Writes}
use Rattle.run_history.proofs.Lists.{both, mapped}
use Rattle.run_history.specs.Scenes.{Scene, passing}
use Rattle.run_messages.specs.Outputs.{AreGood}
use Rattle.run_commands.specs.carried.Guards.{Command}
use Rattle.run_commands.proofs.carried.Acts.{NoMakes}
use Rattle.run_commands.proofs.carried.Lines.{SameAsked, passing_ask}
use Rattle.run_commands.proofs.carried.Plain.{plains_apart, spread_plain}
use Rattle.run_commands.specs.acknowledged.Steps.{HandIn}
use Rattle.run_commands.proofs.acknowledged.Carrying.{ActStep, Around}
use Rattle.run_commands.specs.acknowledged.AnsweringGuards.{ActSo, Due, GivesSo, IsNoAnswer, MindsSo}
use Rattle.run_commands.specs.acknowledged.AnsweringGuards.Due.{Even, Gave, Owes}
use Rattle.run_commands.proofs.acknowledged.Own.{ActOwn, GoesAway, OwnDue, OwnTold, OwnUp, ReadsOwn}
use Rattle.run_commands.proofs.acknowledged.OwnGiving.{OwnFacts, gives_told, goes_away, own_asked, own_reply, spread_quiet, writes_away}
use Rattle.run_commands.proofs.acknowledged.OwnLines.{AreQuiet, IsNoAnswerOut, IsQuietOut, passing_acked, passing_quiet}
use Rattle.run_commands.proofs.acknowledged.OwnMinds.{SoundIn}
use Rattle.run_commands.proofs.acknowledged.OwnNodes.{own_acts}

sound_in : (S : Setting) (c : Cluster) (ms : List Moment) (e : ℕ) (o : Option Presidency) → HandIn S c ms e o → SoundIn o
sound_in S c ms e None h = tt
sound_in S c ms e (Some p) h = h.sound

pub facts_of : (S : Setting) (c : Cluster) (n : ℕ) (i : Input) (v : Option ℕ) (o : Option Command) (h : Option ℕ) (promised : ℕ) (x : UpNode) (s : Scene) → Around S c n i v o h promised x s → OwnFacts S c n i x s.moments
facts_of S c n i v o h promised x s a = record {
  range = a.range;
  queued = a.before.queued;
  president = a.before.president;
  came = a.before.came;
  from = a.from;
  seated = a.seated;
  now = a.now;
  sound = sound_in S c s.moments (session_of x) x.presidency a.holds.up.hand;
}

-- ---- what an act gives

again_to_quiet : (n : ℕ) (x : UpNode) (r : Option Request) (to : Option ℕ) → x.presidency ≡ None → oldest x.requests ≡ r → coordinator_of x ≡ to → ((k : ℕ) → GoesAway x k → k ≢ n) → AreQuiet n (request_again_to x r to)
again_to_quiet n x (Some r) (Some president) none first is away = (away president (record { none = none; coordinates = is; waits = ap is_some first }), tt)
again_to_quiet n x None to none first is away = tt
again_to_quiet n x (Some r) None none first is away = tt

again_quiet : (n : ℕ) (x : UpNode) (o : Option Presidency) → x.presidency ≡ o → ((k : ℕ) → GoesAway x k → k ≢ n) → AreQuiet n (request_again_by x o)
again_quiet n x None none away =
    if_either (AreQuiet n) (queue.goes_again x.requests) (request_again_to x (oldest x.requests) (coordinator_of x)) [] (again_to_quiet n x (oldest x.requests) (coordinator_of x) none refl refl away) tt
again_quiet n x (Some p) is away = tt

beats_quiet : (n : ℕ) (x : UpNode) (receivers : ℕ) → AreQuiet n (heartbeats_to x receivers)
unfolding heartbeats_to
beats_quiet n x receivers = mapped (IsQuietOut n) (λ k. Sends k (heartbeat_of x)) (numbers_to receivers most_nodes) (λ k. tt)

write_quiet : (n : ℕ) (x : UpNode) (d value : ℕ) (a : Answer) → AreQuiet n (write_lines n x d value a)
write_quiet n x d value (Ok given.Good) = (tt, tt)
write_quiet n x d value (Ok given.Conflict) = (tt, tt)
write_quiet n x d value _ = (tt, tt)

act_told : (S : Setting) (c : Cluster) (n : ℕ) (i : Input) (v : Option ℕ) (x : UpNode) (a : Act) (d g : Due) (s : Scene) → ReadsOwn c S → OwnFacts S c n i x s.moments → NoMakes a → AreGood n (said c n x a) → ActSo c i n v x d a g
    → ActOwn i n v x a → OwnUp S n d x s.moments → OwnTold S s.moments → OwnTold S (passing n (said c n x a) s).moments
act_told S c n i v x (Gives os) d g s reads f nm good so own up told = gives_told S c n i x d g os s reads f good so own up told
act_told S c n i v x (Writes to b) d g s reads f nm good so own up told =
    passing_quiet S n (Sends to b ∷ []) s (writes_away S c n to i v x b s.moments f up.own told so.1 own, tt) told
act_told S c n i v x (Spreads receivers b) d g s reads f nm good so own up told = passing_quiet S n (sent_to receivers b) s (spread_quiet n receivers b so.0 own) told
act_told S c n i v x Ticks d g s reads f nm good so own up told =
    passing_quiet S n (said c n x Ticks) s (
      tt,
      both (IsQuietOut n) (heartbeats_to (later c x) (receivers_of (later c x).beats (configured_at c (later c x)))) (request_again x)
          (beats_quiet n (later c x) (receivers_of (later c x).beats (configured_at c (later c x)))) (again_quiet n x x.presidency refl (λ k. goes_away S c n k i x s.moments f up.own)),
    ) told
act_told S c n i v x (Ends a e) d g s reads f nm good so own up told = passing_quiet S n (said c n x (Ends a e)) s (tt, tt) told
act_told S c n i v x (Takes at command a) d g s reads f nm good so own up told = passing_quiet S n (said c n x (Takes at command a)) s (tt, tt) told
act_told S c n i v x (Stores device value a) d g s reads f nm good so own up told = passing_quiet S n (said c n x (Stores device value a)) s (tt, write_quiet n x device value a) told
act_told S c n i v x (Makes change) d g s reads f nm good so own up told = absurd nm
act_told S c n i v x (Hears from b) d g s reads f nm good so own up told = told
act_told S c n i v x Waits d g s reads f nm good so own up told = told
act_told S c n i v x (Goes_on a j) d g s reads f nm good so own up told = told
act_told S c n i v x (Queues a device kind) d g s reads f nm good so own up told = told
act_told S c n i v x (Accepts kind e members device) d g s reads f nm good so own up told = told
act_told S c n i v x (Minds q p) d g s reads f nm good so own up told = told
act_told S c n i v x (Notes from place p) d g s reads f nm good so own up told = told
act_told S c n i v x (Dates now) d g s reads f nm good so own up told = told
act_told S c n i v x (Works w) d g s reads f nm good so own up told = told

-- ---- what is due after it

pub even_due : (S : Setting) (n e : ℕ) (ms : List Moment) (g : Due) → g ≡ Even → OwnDue S n e ms g
even_due S n e ms g is = subst (OwnDue S n e ms) (sym is) tt

gave_due : (S : Setting) (n e : ℕ) (ms : List Moment) (g : Due) (a : Arrived) (reply : Reply) → g ≡ Gave a reply → OwnDue S n e ms g
gave_due S n e ms g a reply is = subst (OwnDue S n e ms) (sym is) tt

gives_due : (S : Setting) (c : Cluster) (n e : ℕ) (i : Input) (x : UpNode) (d g : Due) (os : List Output) (ms : List Moment) → GivesSo c i n x d os g → OwnDue S n e ms g
gives_due S c n e i x Even g os ms (inl k) = even_due S n e ms g k.1
gives_due S c n e i x Even g os ms (inr (inl k)) = gave_due S n e ms g k.request k.reply k.then
gives_due S c n e i x Even g os ms (inr (inr k)) = even_due S n e ms g k.1
gives_due S c n e i x (Gave a reply) g os ms so = absurd so
gives_due S c n e i x (Owes a) g os ms so = even_due S n e ms g so.1

spread_none : (receivers : ℕ) (b : Body) → IsNoAnswer b → AllByRecursion IsNoAnswerOut (sent_to receivers b)
unfolding sent_to
spread_none receivers b none = mapped IsNoAnswerOut (λ k. Sends k b) (numbers_to receivers most_nodes) (λ k. none)

spread_due : (S : Setting) (n e receivers : ℕ) (b : Body) (d : Due) (s : Scene) → IsNoAnswer b → OwnDue S n e s.moments d → OwnDue S n e (passing n (sent_to receivers b) s).moments d
spread_due S n e receivers b Even s none h = tt
spread_due S n e receivers b (Gave a reply) s none h = tt
spread_due S n e receivers b (Owes a) s none h =
    let f : SameAsked S n s.moments (passing n (sent_to receivers b) s).moments = (passing_ask S n n (sent_to receivers b) s (plains_apart n (sent_to receivers b) (spread_plain receivers b))).asks in
    λ mine words is update. passing_acked e n words (sent_to receivers b) s (spread_none receivers b none) (h mine words (sym (f.command a.number) ∙ is) update)

minds_due : (S : Setting) (c : Cluster) (n e : ℕ) (i : Input) (v : Option ℕ) (x : UpNode) (d g : Due) (p : Option Presidency) (ms : List Moment) → MindsSo c i n v x d p g → OwnDue S n e ms g
minds_due S c n e i v x Even g p ms so = even_due S n e ms g so.1
minds_due S c n e i v x (Gave a reply) g p ms so = even_due S n e ms g so.1
minds_due S c n e i v x (Owes a) g p ms so = absurd so

act_due : (S : Setting) (c : Cluster) (n : ℕ) (i : Input) (v : Option ℕ) (x : UpNode) (a : Act) (d g : Due) (s : Scene) → NoMakes a → ActSo c i n v x d a g → OwnUp S n d x s.moments
    → OwnDue S n (session_of (acted c n x a)) (passing n (said c n x a) s).moments g
act_due S c n i v x (Gives os) d g s nm so up = gives_due S c n (session_of x) i x d g os (passing n os s).moments so
act_due S c n i v x (Spreads receivers b) d g s nm so up =
    subst (OwnDue S n (session_of x) (passing n (sent_to receivers b) s).moments) (sym so.1) (spread_due S n (session_of x) receivers b d s so.0 up.due)
act_due S c n i v x (Minds q p) d g s nm so up = minds_due S c n (session_of (acted c n x (Minds q p))) i v x d g p s.moments so
act_due S c n i v x (Makes change) d g s nm so up = absurd nm
act_due S c n i v x (Writes to b) d g s nm so up = even_due S n (session_of x) (passing n (Sends to b ∷ []) s).moments g so.2
act_due S c n i v x Ticks d g s nm so up = even_due S n (session_of (acted c n x Ticks)) (passing n (said c n x Ticks) s).moments g so.1
act_due S c n i v x (Ends a e) d g s nm so up = even_due S n (session_of (acted c n x (Ends a e))) (passing n (said c n x (Ends a e)) s).moments g so.1
act_due S c n i v x (Takes at command a) d g s nm so up = even_due S n (session_of (acted c n x (Takes at command a))) (passing n (said c n x (Takes at command a)) s).moments g so.1
act_due S c n i v x (Stores device value a) d g s nm so up = even_due S n (session_of (acted c n x (Stores device value a))) (passing n (said c n x (Stores device value a)) s).moments g so.1
act_due S c n i v x (Hears from b) d g s nm so up = even_due S n (session_of (acted c n x (Hears from b))) (passing n (said c n x (Hears from b)) s).moments g so.1
act_due S c n i v x Waits d g s nm so up = even_due S n (session_of (acted c n x Waits)) (passing n (said c n x Waits) s).moments g so.1
act_due S c n i v x (Goes_on a j) d g s nm so up = even_due S n (session_of (acted c n x (Goes_on a j))) (passing n (said c n x (Goes_on a j)) s).moments g so.1
act_due S c n i v x (Queues a device kind) d g s nm so up = even_due S n (session_of (acted c n x (Queues a device kind))) (passing n (said c n x (Queues a device kind)) s).moments g so.1
act_due S c n i v x (Accepts kind e members device) d g s nm so up = even_due S n (session_of (acted c n x (Accepts kind e members device))) (passing n (said c n x (Accepts kind e members device)) s).moments g so.1
act_due S c n i v x (Notes from place p) d g s nm so up = even_due S n (session_of (acted c n x (Notes from place p))) (passing n (said c n x (Notes from place p)) s).moments g so.1
act_due S c n i v x (Dates now) d g s nm so up = even_due S n (session_of (acted c n x (Dates now))) (passing n (said c n x (Dates now)) s).moments g so.1
act_due S c n i v x (Works w) d g s nm so up = even_due S n (session_of (acted c n x (Works w))) (passing n (said c n x (Works w)) s).moments g so.1

-- ---- an act

pub own_act : (S : Setting) (c : Cluster) (n : ℕ) (i : Input) (v : Option ℕ) (o : Option Command) (h : Option ℕ) (promised : ℕ) (x : UpNode) (a : Act) (d g : Due) (s : Scene) → ReadsOwn c S → Around S c n i v o h promised x s
    → ActStep c n i v o h x a d g s → ActOwn i n v x a → OwnUp S n d x s.moments → OwnTold S s.moments
    → OwnUp S n g (acted c n x a) (passing n (said c n x a) s).moments × OwnTold S (passing n (said c n x a) s).moments
own_act S c n i v o h promised x a d g s reads around step own up told =
    let f : OwnFacts S c n i x s.moments = facts_of S c n i v o h promised x s around in (
      record {
        own = own_acts c i n v (delivered_by i) x a f.range f.sound (λ b. own_asked S c n i v x s.moments b f told) (λ q p. own_reply S c n i x s.moments q p f told) step.none step.may own up.own;
        due = act_due S c n i v x a d g s step.none step.so up;
      },
      act_told S c n i v x a d g s reads f step.none step.good step.so own up told,
    )
