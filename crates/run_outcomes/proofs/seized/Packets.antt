-- A packet that comes to a node: a Seized is taken, and tells what was told before.
use Rattle.std.specs.Prelude.{ℕ, ◌≡◌, ◌≢◌, ◌==◌, ◌≤◌, ◌⊎◌, Bool, true, false, List, ◌∷◌, Option, None, Some}
use Rattle.std.proofs.Common.{arith, refl, sym, ap, subst, ◌∙◌, inl, inr}
use Rattle.attempt_laws.specs.Asking.{DeviceHas}
use Rattle.attempt_laws.specs.Staying.{IsBefore}
use Rattle.cl_base.specs.Seizings.{SeizeResult}
use Rattle.cl_base.specs.declared.method.Outcome as method
use Rattle.cluster_ties.specs.Ties.{AttemptAt, NodeAt}
use Rattle.cluster_ties.specs.Told.{ToldOf}
use Rattle.cmm_attempt.proofs.Basics.{false_true, none_some, same_number, same_some}
use Rattle.cmm_attempt.specs.Attempts.{AttemptState}
use Rattle.cmm_attempt.specs.Calls.{Take, turn}
use Rattle.history.specs.Moment.{Moment}
use Rattle.history.specs.Queue as told
use Rattle.history.specs.Setting.{coordinator}
use Rattle.history.specs.Trace.{delivered}
use Rattle.interconnect.specs.Links.{Packet, packet_of}
use Rattle.node_model.specs.Members.{is_foreign}
use Rattle.node_model.specs.Steps.{stepped}
use Rattle.node_model.specs.declared.cluster.Cluster.{Cluster}
use Rattle.node_model.specs.declared.input.Input.TheVariants as input
use Rattle.node_model.specs.declared.node.Node.{Node}
use Rattle.node_model.specs.declared.node.Node.TheVariants.{Down, Up}
use Rattle.node_model.specs.declared.node.UpNode.{UpNode}
use Rattle.refinement.specs.Guards.{OfUp}
use Rattle.refinement.specs.Runs.{IsAmong}
use Rattle.refinement.specs.Steps.{disk_rules}
use Rattle.refinement.specs.Ties.{setting_of}
use Rattle.wire.specs.Reads.{whole_of}
use Rattle.wire.specs.declared.message.Body.{Body}
use Rattle.wire.specs.declared.message.Body.TheVariants as body
use Rattle.wire.specs.declared.message.Message.{Message}
use Rattle.run_history.proofs.Flying.{packet_told}
use Rattle.run_history.specs.Scenes.{Scene}
use Rattle.run_history.specs.Wholes.{IsWhole}
use Rattle.run_messages.proofs.records.Arrivals.{arrived_kept}
use Rattle.run_messages.specs.records.Kept.{Came}
use Rattle.run_packets.specs.views.Laws.{is_foreign_to}
use Rattle.run_outcomes.specs.phases.Kept.{In}
use Rattle.run_outcomes.specs.tasks.Answers.{Answered, Heard}
use Rattle.run_outcomes.specs.tasks.Said.{installed_in}
use Rattle.run_outcomes.proofs.phases.Leading.{Has as Has_in}
use Rattle.run_outcomes.proofs.phases.Runs.{ways_at}
use Rattle.run_outcomes.proofs.phases.Taken.{Ways}
use Rattle.run_outcomes.proofs.said.Tales.{same_seized}
use Rattle.run_outcomes.proofs.said.Silent.{IsSeized}
use Rattle.run_outcomes.proofs.seized.Arriving.{IsIdle, step_idle, step_takes}
use Rattle.run_outcomes.proofs.seized.Calls.{IsAside, aside_answered, own_answered}
use Rattle.run_outcomes.proofs.seized.Letters.{Hits, delivered_hits, delivered_tells}
use Rattle.run_outcomes.proofs.seized.Lines.{IsSame, heard_by}
use Rattle.run_outcomes.proofs.seized.Machine.{ended_was_asked}
use Rattle.run_outcomes.proofs.seized.Quiet.{Stays}
use Rattle.run_outcomes.proofs.seized.Taken.{IsNow, answered_same, ended_so, taken_answered, was_asked}
use Rattle.run_outcomes.proofs.seized.Scenes.{AllSent, Kept, OfAttempt, Scened}
use Rattle.run_outcomes.proofs.seized.Steps.{Comes_to, at_up, attempt_at, heard_in, quiet_here}

-- ---- a packet comes

-- to node n
pub record Packet_in (c : Cluster) (s : Scene) (number : ℕ) (x : Packet) (m : Message) : Type 0 where
  pub found : packet_of s.links.packets number ≡ Some x
  pub read : whole_of x.bytes ≡ Some m
  pub up : OfUp (λ y. Unit {0}) (s.nodes.node x.to)
  pub node : x.to ≤ 32
  pub among : IsAmong x.from m.body s.nodes.sent
  pub native : is_foreign_to c x.to (s.nodes.node x.to) m.body ≡ false

came_in : (c : Cluster) (s : Scene) (number : ℕ) (x : Packet) (m : Message) → Packet_in c s number x m → Scened c s → Came (delivered number x.from x.to ∷ s.moments) x.to x.from m.body
came_in c s number x m p z = arrived_kept c s number x m p.found p.read z.knows.known

-- nothing came for this attempt
same_but : (e number from n : ℕ) (ms : List Moment) (b : Body) (came : Came (delivered number from n ∷ ms) n from b) → ((d k : ℕ) → Hits e d k came.letter b → ⊥)
    → IsSame (heard_by e (delivered number from n ∷ ms)) (heard_by e ms)
same_but e number from n ms b came none d k = by_case (delivered_tells e d k number from n ms b came)
  where
    by_case : (told.seized_by e d k (delivered number from n ∷ ms) ≡ told.seized_by e d k ms) ⊎ Hits e d k came.letter b → told.seized_by e d k (delivered number from n ∷ ms) ≡ told.seized_by e d k ms
    by_case (inl same) = same
    by_case (inr hits) = absurd (none d k hits)

-- what came was sent
sent_in : (c : Cluster) (s : Scene) (number : ℕ) (x : Packet) (m : Message) → Packet_in c s number x m → Scened c s → AllSent s.nodes s.moments → AllSent s.nodes (delivered number x.from x.to ∷ s.moments)
sent_in c s number x m p z k e d j r is = by_case (delivered_tells e d j number x.from x.to s.moments m.body came)
  where
    came : Came (delivered number x.from x.to ∷ s.moments) x.to x.from m.body
    came = came_in c s number x m p z

    by_case : (told.seized_by e d j (delivered number x.from x.to ∷ s.moments) ≡ told.seized_by e d j s.moments) ⊎ Hits e d j came.letter m.body → IsAmong j (body.Seized e d r) s.nodes.sent
    by_case (inl same) = k e d j r (sym same ∙ is)
    by_case (inr hits) =
        let from : j ≡ x.from = sym hits.from ∙ came.sender in
        let own : coordinator e ≡ x.to = sym hits.to ∙ came.receiver in
        let now : told.seized_by e d x.from (delivered number x.from x.to ∷ s.moments) ≡ Some hits.result = delivered_hits e d number x.from x.to hits.result s.moments m.body came hits.body_so own in
        let same : hits.result ≡ r =
        same_some hits.result r (sym now ∙ subst (λ q. told.seized_by e d q (delivered number x.from x.to ∷ s.moments) ≡ Some r) from is) in
        subst (λ q. IsAmong q (body.Seized e d r) s.nodes.sent) (sym from) (subst (λ q. IsAmong x.from (body.Seized e d q) s.nodes.sent) same (subst (λ b. IsAmong x.from b s.nodes.sent) hits.body_so p.among))

-- ---- a Seized comes

seized_asked : (c : Cluster) (s : Scene) (number : ℕ) (x : Packet) (m : Message) (e d : ℕ) (r : SeizeResult) → Packet_in c s number x m → Scened c s → m.body ≡ body.Seized e d r → (w : IsWhole c s)
    → ((w.machine.device d).attempt e).asked x.from ≡ true
seized_asked c s number x m e d r p z is w =
    ended_was_asked (setting_of c) w.machine d w.reached x.from e
    (ended_so (w.machine.device d) e x.from r (subst (λ b. ToldOf w.machine x.from x.to b) is (packet_told w.machine s.links number x w.flying p.found m p.read)))

seized_now : (c : Cluster) (s : Scene) (number : ℕ) (x : Packet) (m : Message) (y : UpNode) (a : AttemptState) (d : ℕ) (r : SeizeResult) → Packet_in c s number x m → Scened c s → Kept s.nodes s.moments
    → s.nodes.node x.to ≡ Up y → y.attempt ≡ Some a → coordinator a.plan.epoch ≡ x.to → m.body ≡ body.Seized a.plan.epoch d r → IsBefore a.phase
    → IsNow (heard_by a.plan.epoch s.moments) (heard_by a.plan.epoch (delivered number x.from x.to ∷ s.moments)) d x.from r
seized_now c s number x m y a d r p z k up has own is before = record {
  now = delivered_hits e d number x.from x.to r s.moments m.body came is own;
  others = λ j l other. by_case j l other (delivered_tells e j l number x.from x.to s.moments m.body came);
  agrees = λ q was. by_side q ((z.said x.from).agree e d q r (k.sent e d x.from q was) (subst (λ b. IsAmong x.from b s.nodes.sent) is p.among) of.some);
}
  where
    e : ℕ
    e = a.plan.epoch

    came : Came (delivered number x.from x.to ∷ s.moments) x.to x.from m.body
    came = came_in c s number x m p z

    of : OfAttempt s.moments s.nodes x.to y a
    of = z.attempts x.to y a up has

    by_case : (j l : ℕ) → (j ≢ d) ⊎ (l ≢ x.from) → (told.seized_by e j l (delivered number x.from x.to ∷ s.moments) ≡ told.seized_by e j l s.moments) ⊎ Hits e j l came.letter m.body
        → told.seized_by e j l (delivered number x.from x.to ∷ s.moments) ≡ told.seized_by e j l s.moments
    by_case j l other (inl same) = same
    by_case j l (inl ne) (inr hits) = absurd (ne (sym (same_seized e j hits.result e d r (sym is ∙ hits.body_so)).device))
    by_case j l (inr ne) (inr hits) = absurd (ne (sym hits.from ∙ came.sender))

    by_side : (q : SeizeResult) → (q ≡ r) ⊎ (e ≤ installed_in s.nodes (coordinator e)) → q ≡ r
    by_side q (inl same) = same
    by_side q (inr late) = absurd (of.early before (subst (λ n. e ≤ installed_in s.nodes n) own late))

itself : (g q : ℕ) → g ≡ q → (g == q) ≡ true
itself g q h = grind arith

seized_taken : (c : Cluster) (s : Scene) (number : ℕ) (x : Packet) (m : Message) (y : UpNode) (a : AttemptState) (f d : ℕ) (r : SeizeResult) → Packet_in c s number x m → Scened c s → Kept s.nodes s.moments
    → s.nodes.node x.to ≡ Up y → y.attempt ≡ Some a → m.body ≡ body.Seized f d r
    → Answered (heard_by a.plan.epoch (delivered number x.from x.to ∷ s.moments)) a.plan.epoch (turn a (Take x.from m)).after
seized_taken c s number x m y a f d r p z k up has is = by_test (f == e) refl
  where
    e : ℕ
    e = a.plan.epoch

    came : Came (delivered number x.from x.to ∷ s.moments) x.to x.from m.body
    came = came_in c s number x m p z

    own : coordinator e ≡ x.to
    own = (ways_at c s z.knows).own x.to y a up has

    device_has : (j : ℕ) → DeviceHas (z.whole.machine.device j) a j
    device_has = subst (AttemptAt z.whole.machine) has (subst (NodeAt c z.whole.machine x.to (s.nodes.disk x.to).kept) up (z.whole.sites x.to).at).attempt

    by_test : (t : Bool) → (f == e) ≡ t → Answered (heard_by e (delivered number x.from x.to ∷ s.moments)) e (turn a (Take x.from m)).after
    by_test true same =
        let told_so : m.body ≡ body.Seized e d r = is ∙ ap (λ q. body.Seized q d r) (same_number f e same) in
        taken_answered (heard_by e s.moments) (heard_by e (delivered number x.from x.to ∷ s.moments)) e d x.from r m a told_so (delivered_hits e d number x.from x.to r s.moments m.body came told_so own)
        (λ before. (
          seized_now c s number x m y a d r p z k up has own told_so before,
          was_asked (z.whole.machine.device d) a d x.from (seized_asked c s number x m e d r p z told_so z.whole) before (device_has d),
        )) (k.answered x.to y a up has)
    by_test false other =
        aside_answered (heard_by e (delivered number x.from x.to ∷ s.moments)) e x.from m a (subst (IsAside e) (sym is) other)
        (answered_same (heard_by e s.moments) (heard_by e (delivered number x.from x.to ∷ s.moments)) e a
        (same_but e number x.from x.to s.moments m.body came
        (λ j l hits. false_true (sym other ∙ itself f e (same_seized e j hits.result f d r (sym is ∙ hits.body_so)).epoch))) (k.answered x.to y a up has))

seized_here : (c : Cluster) (s : Scene) (number now : ℕ) (ends : method.Outcome) (x : Packet) (m : Message) (f d : ℕ) (r : SeizeResult) (w : UpNode) (b : AttemptState) → Packet_in c s number x m → Scened c s
    → Kept s.nodes s.moments → m.body ≡ body.Seized f d r → (stepped disk_rules c x.to now ends (s.nodes.node x.to) (s.nodes.disk x.to) (input.Packet x.from m)).after ≡ Up w → w.attempt ≡ Some b
    → Stays (attempt_at (s.nodes.node x.to)) (heard_in (delivered number x.from x.to ∷ s.moments)) (s.nodes.disk x.to).kept.promised b
seized_here c s number now ends x m f d r w b p z k is up has = by_node (s.nodes.node x.to) refl p.up p.native up
  where
    by_attempt : (y : UpNode) → s.nodes.node x.to ≡ Up y → is_foreign c x.to y m.body ≡ false → (stepped disk_rules c x.to now ends (Up y) (s.nodes.disk x.to) (input.Packet x.from m)).after ≡ Up w → (o : Option AttemptState)
        → y.attempt ≡ o → Stays o (heard_in (delivered number x.from x.to ∷ s.moments)) (s.nodes.disk x.to).kept.promised b
    by_attempt y at native went None none =
        absurd (none_some b (sym (at_up IsIdle (stepped disk_rules c x.to now ends (Up y) (s.nodes.disk x.to) (input.Packet x.from m)).after w went
        (step_idle c x.to now ends y (s.nodes.disk x.to) x.from m f d r none is native)) ∙ has))
    by_attempt y at native went (Some a) own =
        let T : Heard = heard_by a.plan.epoch (delivered number x.from x.to ∷ s.moments) in
        let h : Answered T a.plan.epoch b =
        subst (In (Answered T a.plan.epoch)) has
        (at_up (Has_in (Answered T a.plan.epoch)) (stepped disk_rules c x.to now ends (Up y) (s.nodes.disk x.to) (input.Packet x.from m)).after w went
        (step_takes (Answered T a.plan.epoch) c x.to now ends y a (s.nodes.disk x.to) x.from m f d r (λ u q may led i. own_answered T a.plan.epoch u q may led i) own is native
        (seized_taken c s number x m y a f d r p z k at own is))) in
        inl (sym h.epoch, subst (λ q. Answered (heard_by q (delivered number x.from x.to ∷ s.moments)) q b) (sym h.epoch) h)

    by_node : (node : Node) → s.nodes.node x.to ≡ node → OfUp (λ y. Unit {0}) node → is_foreign_to c x.to node m.body ≡ false
        → (stepped disk_rules c x.to now ends node (s.nodes.disk x.to) (input.Packet x.from m)).after ≡ Up w
        → Stays (attempt_at node) (heard_in (delivered number x.from x.to ∷ s.moments)) (s.nodes.disk x.to).kept.promised b
    by_node Down at there native went = absurd there
    by_node (Up y) at there native went = by_attempt y at native went y.attempt refl

-- ---- whatever comes

silent_here : (c : Cluster) (s : Scene) (number now : ℕ) (ends : method.Outcome) (x : Packet) (m : Message) (w : UpNode) (b : AttemptState) → Packet_in c s number x m → Scened c s → Kept s.nodes s.moments
    → (IsSeized m.body → ⊥) → (stepped disk_rules c x.to now ends (s.nodes.node x.to) (s.nodes.disk x.to) (input.Packet x.from m)).after ≡ Up w → w.attempt ≡ Some b
    → Stays (attempt_at (s.nodes.node x.to)) (heard_in (delivered number x.from x.to ∷ s.moments)) (s.nodes.disk x.to).kept.promised b
silent_here c s number now ends x m w b p z k silent up has =
    let ms : List Moment = delivered number x.from x.to ∷ s.moments in
    quiet_here c x.to now ends (input.Packet x.from m) s ms w b z p.node silent
    (λ y a at own. answered_same (heard_by a.plan.epoch s.moments) (heard_by a.plan.epoch ms) a.plan.epoch a
    (same_but a.plan.epoch number x.from x.to s.moments m.body (came_in c s number x m p z) (λ d l hits. silent (subst IsSeized (sym hits.body_so) tt))) (k.answered x.to y a at own)) up has

packet_here : (c : Cluster) (s : Scene) (number now : ℕ) (ends : method.Outcome) (x : Packet) (m : Message) (w : UpNode) (b : AttemptState) → Packet_in c s number x m → Scened c s → Kept s.nodes s.moments
    → (stepped disk_rules c x.to now ends (s.nodes.node x.to) (s.nodes.disk x.to) (input.Packet x.from m)).after ≡ Up w → w.attempt ≡ Some b
    → (t : Body) → m.body ≡ t → Stays (attempt_at (s.nodes.node x.to)) (heard_in (delivered number x.from x.to ∷ s.moments)) (s.nodes.disk x.to).kept.promised b
packet_here c s number now ends x m w b p z k up has (body.Seized f d r) is = seized_here c s number now ends x m f d r w b p z k is up has
packet_here c s number now ends x m w b p z k up has t is = silent_here c s number now ends x m w b p z k (λ seized. subst IsSeized is seized) up has

pub packet_in : (c : Cluster) (s : Scene) (number : ℕ) (x : Packet) (m : Message) → Packet_in c s number x m → Scened c s → Kept s.nodes s.moments
    → Comes_to c x.to (input.Packet x.from m) s.nodes (delivered number x.from x.to ∷ s.moments)
packet_in c s number x m p z k = record {
  ways = record { theirs = w.theirs; own = w.own };
  attempts = λ j y a at own. let o : OfAttempt s.moments s.nodes j y a = z.attempts j y a at own in record { some = o.some; attempted = o.attempted; promised = o.promised; early = o.early };
  there = λ j y a ne at own.
      answered_same (heard_by a.plan.epoch s.moments) (heard_by a.plan.epoch (delivered number x.from x.to ∷ s.moments)) a.plan.epoch a
      (same_but a.plan.epoch number x.from x.to s.moments m.body came (λ d l hits. ne (sym (w.own j y a at own) ∙ (sym hits.to ∙ came.receiver)))) (k.answered j y a at own);
  here = λ now ends y b up has. packet_here c s number now ends x m y b p z k up has m.body refl;
  sent = sent_in c s number x m p z k.sent;
}
  where
    w : Ways s.nodes s.moments
    w = ways_at c s z.knows

    came : Came (delivered number x.from x.to ∷ s.moments) x.to x.from m.body
    came = came_in c s number x m p z
