-- A coordinator whose attempt seizes devices after a packet came has come to its tasks by it.
use Rattle.std.specs.Prelude.{ℕ, ◌≡◌, ◌<◌, ◌++◌, true, List, ◌∷◌, Some}
use Rattle.std.proofs.Common.{refl, sym, ap, subst, ◌∙◌, inl, inr}
use Rattle.cl_base.specs.declared.header.Header.{Header}
use Rattle.cmm_attempt.specs.Attempts.{AttemptState}
use Rattle.cmm_attempt.specs.Calls.{Call, Own_ready, Take, With_votes, turn}
use Rattle.cmm_attempt.specs.declared.counting.BothVotes.{BothVotes}
use Rattle.device_queue.specs.declared.task.Task.{Task}
use Rattle.history.specs.Member.{attempt_of}
use Rattle.history.specs.Moment.{Moment}
use Rattle.history.specs.Queue as told
use Rattle.history.specs.Setting.{Setting}
use Rattle.history.specs.Trace.{delivered}
use Rattle.history_setting.specs.Settings.{setting_of}
use Rattle.interconnect.specs.Links.{Packet, packet_of}
use Rattle.node_model.specs.Attempts.{votes_in}
use Rattle.node_model.specs.Seats.{record_of}
use Rattle.node_model.specs.declared.cluster.Cluster.{Cluster}
use Rattle.node_model.specs.declared.node.Node.TheVariants.{Up}
use Rattle.node_model.specs.declared.node.UpNode.{UpNode}
use Rattle.refinement.specs.Runs.{IsAmong}
use Rattle.run_history.specs.Happenings.{Happening, all_happened}
use Rattle.run_history.specs.Scenes.{Scene, first_scene}
use Rattle.run_messages.proofs.Reaching.{IsReached, IsSmall}
use Rattle.run_messages.specs.records.Kept.{Came}
use Rattle.run_seizings.specs.Sites.{UpIn, UpSo}
use Rattle.wire.specs.declared.message.Body.TheVariants as body
use Rattle.wire.specs.declared.message.Message.{Message}
use Rattle.world_model.specs.First.{first_cluster}
use Rattle.run_outcomes.specs.phases.Laws.{is_seizing}
use Rattle.run_outcomes.specs.tasks.Laws.{own_result}
use Rattle.run_outcomes.specs.tasks.Left.{IsClosed}
use Rattle.run_outcomes.specs.tasks.Onward.{ByEither}
use Rattle.run_outcomes.proofs.onward.Befores.{own_ready_same}
use Rattle.run_outcomes.proofs.onward.Comes.{no_votes}
use Rattle.run_outcomes.proofs.onward.Leads.{StepSo, TellsSo, packet_led}
use Rattle.run_outcomes.proofs.onward.Marks.{delivered_own, take_tells}
use Rattle.run_outcomes.proofs.onward.Passing.{Passed}
use Rattle.run_outcomes.proofs.others.Runs.{Point}
use Rattle.run_outcomes.proofs.outward.Addressed.{packet_to}
use Rattle.run_outcomes.proofs.outward.Collects.{own_attempt}
use Rattle.run_outcomes.proofs.outward.Runs.{requests_go_out}
use Rattle.run_outcomes.proofs.own_steps.Ended.{own_more, told_own}
use Rattle.run_outcomes.proofs.own_steps.Steps.{Follows, StepsAreSo}
use Rattle.run_outcomes.proofs.own_tasks.Grounds.{Ground, ground_at, seizing_at}
use Rattle.run_outcomes.proofs.told_tasks.Led.{LedOn}
use Rattle.run_outcomes.proofs.told_tasks.Queues.{SeizersHave}

-- ---- what the call has led to

follows : (c : Cluster) (n valid : ℕ) (a : AttemptState) (from : ℕ) (m : Message) (old : List Task) (b : AttemptState) (ts : List Task) → ByEither c n valid a (Take from m) old b ts → Follows a (Take from m) b
follows c n valid a from m old b ts (inl r) = (tt, inl r.1.is)
follows c n valid a from m old b ts (inr r) = (tt, inr (votes_in c (turn a (Take from m)).after, r.0, r.1.is))

record Grown (old ts : List Task) : Type 0 where
  new : List Task
  is : ts ≡ old ++ new

grown : (c : Cluster) (n valid : ℕ) (a : AttemptState) (k : Call) (old : List Task) (b : AttemptState) (ts : List Task) → ByEither c n valid a k old b ts → Grown old ts
grown c n valid a k old b ts (inl r) = record { new = r.1.new; is = r.1.tasks }
grown c n valid a k old b ts (inr r) = record { new = r.1.new; is = r.1.tasks }

take_votes : (from : ℕ) (m : Message) (v : BothVotes) → Take from m ≡ With_votes v → ⊥
take_votes from m v e = cc

module _ (steps : StepsAreSo) (h : Header) (cells : ℕ) (hs : List Happening) (z : Point h cells hs) (had : SeizersHave h (all_happened (first_cluster h) (first_scene h cells) hs)) (number : ℕ) (p : Packet)
    (flies : packet_of (all_happened (first_cluster h) (first_scene h cells) hs).links.packets number ≡ Some p) where
  abbrev s : Scene
  s = all_happened (first_cluster h) (first_scene h cells) hs

  abbrev S : Setting
  S = setting_of h

  abbrev come : List Moment
  come = delivered number p.from p.to ∷ s.moments

  size : IsSmall h
  size = record { few = z.few; small = z.small }

  here : IsReached h cells s
  here = record { happenings = hs; may = z.may; is = refl }

  -- by its line `history` adds what it has of its own alone
  adds_own : (x : UpNode) (a : AttemptState) (e : ℕ) → s.nodes.node p.to ≡ Up x → x.attempt ≡ Some a → attempt_of p.to s.moments ≡ Some e → told.tasks_of S p.to come ≡ told.with_own S p.to (Some e) come (told.tasks_of S p.to s.moments)
  adds_own x a e up has_it last =
      delivered_own S p.to number p.from e s.moments (own_attempt p.to e s.moments last) (seized.session (subst (λ q. 0 < q) g.so.epoch g.so.some) ∙ (ap Some (sym g.so.epoch) ∙ (sym g.so.last ∙ last))) last
      (requests_go_out h cells hs size z.may) (packet_to h cells s number p size here flies)
    where
      g : Ground h s p.to x a
      g = ground_at h cells s p.to x a size here up has_it

      seized : UpSo h s.moments p.to x
      seized = subst (UpIn h s.moments p.to) up ((seizing_at h cells s size here).sites p.to).up

  -- the attempt is as it was
  pub unmoved_led : (x y : UpNode) (b : AttemptState) (both : BothVotes) (moments : List Moment) → s.nodes.node p.to ≡ Up x → x.attempt ≡ Some b → y.tasks ≡ x.tasks → is_seizing b.phase ≡ true → b.votes ≡ Some both → IsClosed h s p.to
      → Passed p.to come moments → LedOn S p.to y b both moments
  unmoved_led x y b both moments up has_it same seizing given closed passed =
      let so : StepSo S (first_cluster h) p.to x Own_ready b both s.moments =
      steps h cells hs z.last z.nodes z.few z.small z.disks z.may z.shaped z.native z.boots z.left had p.to x b b both Own_ready up has_it closed (tt, inl (sym (own_ready_same b seizing))) seizing given in
      packet_led S (first_cluster h) p.to number p.from Own_ready s.moments moments x y b both passed (adds_own x b b.plan.epoch up has_it so.last) no_votes (λ a. tt) (λ a has is d j r says. absurd says) so (inl (has_it, same))

  -- it took the message
  pub taken_led : (m : Message) (x y : UpNode) (a b : AttemptState) (both : BothVotes) (moments : List Moment) → Came come p.to p.from m.body → IsAmong p.from m.body s.nodes.sent → s.nodes.node p.to ≡ Up x → x.attempt ≡ Some a
      → ByEither (first_cluster h) p.to (record_of x).valid a (Take p.from m) x.tasks b y.tasks → is_seizing b.phase ≡ true → b.votes ≡ Some both → IsClosed h s p.to → Passed p.to come moments → LedOn S p.to y b both moments
  taken_led m x y a b both moments came sent up has_it by seizing given closed passed =
      packet_led S c p.to number p.from k s.moments moments x y b both passed (adds_own x a b.plan.epoch up has_it so.last) (take_votes p.from m) (λ q. tt) tells so (inr (a, has_it, by))
    where
      c : Cluster
      c = first_cluster h

      k : Call
      k = Take p.from m

      so : StepSo S c p.to x k b both s.moments
      so =
          steps h cells hs z.last z.nodes z.few z.small z.disks z.may z.shaped z.native z.boots z.left had p.to x a b both k up has_it closed (follows c p.to (record_of x).valid a p.from m x.tasks b y.tasks by) seizing given

      more : Grown x.tasks y.tasks
      more = grown c p.to (record_of x).valid a k x.tasks b y.tasks by

      tells : (q : AttemptState) → x.attempt ≡ Some q → is_seizing q.phase ≡ true → TellsSo k q y.tasks come
      tells q has seizes d j r says = (
        take_tells q number p.from p.to m s.moments came (so.own q has).0 d j r says,
        λ same.
            subst (λ ts. own_result d ts ≡ Some r) (sym more.is)
            (own_more d r x.tasks more.new
            (told_own h cells hs z p.to x q up has seizes d r
            (subst (λ i. IsAmong i (body.Seized q.plan.epoch d r) s.nodes.sent) (says.0 ∙ (same ∙ (so.own q has).1)) (subst (λ w. IsAmong p.from w s.nodes.sent) says.1 sent)))),
      )
