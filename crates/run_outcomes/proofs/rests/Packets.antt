-- What a packet leaves of the tasks of a node that has no attempt after it.
use Rattle.std.specs.Prelude.{ℕ, ◌≡◌, ◌==◌, ◌&&◌, nat_le, true, false, List, [], Option, None, Some}
use Rattle.std.proofs.Common.{refl, sym, subst, ◌∙◌, inl, inr}
use Rattle.attempt_laws.specs.Laws.{HasCause}
use Rattle.cl_base.specs.Seizings.{SeizeResult}
use Rattle.cl_base.specs.declared.method.Outcome as method
use Rattle.cl_base.specs.declared.seizing.SeizeEnd.TheVariants as seized
use Rattle.cmm_attempt.proofs.Basics.{and_cases, false_true, if_either, same_number}
use Rattle.cmm_attempt.specs.Attempts.{AttemptState}
use Rattle.cmm_attempt.specs.Calls.{Take, turn}
use Rattle.cmm_attempt.specs.declared.step.AttemptEnd.{AttemptEnd}
use Rattle.cmm_attempt.specs.declared.step.AttemptEnd.TheVariants as end
use Rattle.cmm_member.specs.Nodes.{NodeState}
use Rattle.device_queue.specs.Queue.{joins, kept_of}
use Rattle.history.specs.Setting.{coordinator}
use Rattle.node_model.specs.Members.{ready_of}
use Rattle.node_model.specs.Seats.{installed_of, is_in, promised_of, state_of}
use Rattle.node_model.specs.declared.cluster.Cluster.{Cluster}
use Rattle.node_model.specs.declared.node.UpNode.{UpNode}
use Rattle.node_model.specs.declared.output.Output.{Output}
use Rattle.node_model.specs.declared.seat.Seat.{Seat}
use Rattle.node_model.specs.declared.seat.Seat.TheVariants.{Forming, Member}
use Rattle.refinement.specs.Courses.{Course}
use Rattle.refinement.specs.Courses.Course.{Acts, Keeps, Stops}
use Rattle.refinement.specs.Cuts as cuts
use Rattle.refinement.specs.Cuts.{writing}
use Rattle.refinement.specs.Doings.{changed}
use Rattle.refinement.specs.Doings.Act.{Accepts}
use Rattle.refinement.specs.Doings.Change.{Installs}
use Rattle.run_downs.proofs.Courses.{by_test}
use Rattle.seize.specs.declared.kind.SeizeKind.{SeizeKind}
use Rattle.seize.specs.declared.kind.SeizeKind.TheVariants.{Plain, Vote}
use Rattle.wire.specs.declared.message.Body.{Body}
use Rattle.wire.specs.declared.message.Body.TheVariants as body
use Rattle.wire.specs.declared.message.Install.{Install}
use Rattle.wire.specs.declared.message.Message.{Message}
use Rattle.run_outcomes.specs.saves.Courses.{LeadsTo}
use Rattle.run_outcomes.specs.tasks.Onward.{GoesOut}
use Rattle.run_outcomes.specs.tasks.Own.{IsOfOthers, IsOrdered, Owns}
use Rattle.run_outcomes.proofs.onward.Given.{out_by, out_leads}
use Rattle.run_outcomes.proofs.rests.Beside.{body_kept}
use Rattle.run_outcomes.proofs.rests.Calls.{going_left}
use Rattle.run_outcomes.proofs.rests.Collects.{AreSent}
use Rattle.run_outcomes.proofs.rests.Drops.{is_dropping}
use Rattle.run_outcomes.proofs.rests.Kept.{AreKept, Stays, kept_out}
use Rattle.run_outcomes.proofs.rests.Left.{IsInstalled, IsLeft, alive_left}
use Rattle.run_outcomes.proofs.rests.Ticks.{Anyhow}

abbrev pub IsNoCollect : Body → Type 0
IsNoCollect (body.Collect e members) = ⊥
IsNoCollect _ = Unit {0}

-- ---- a coordinator whose attempt goes on by it, or ends

-- a refusal alone ends an attempt with tasks queued
abbrev pub IsNack : Body → Type 0
IsNack (body.Nack e promised) = Unit {0}
IsNack _ = ⊥

take_leaves : (a : AttemptState) (from : ℕ) (m : Message) (e : AttemptEnd) → HasCause a (Take from m) (turn a (Take from m)).after e → is_dropping e ≡ false → IsNack m.body
take_leaves a from m (end.Superseded q) cause leaves = subst IsNack (sym cause) tt
take_leaves a from m (end.Silent k) cause leaves = absurd cause
take_leaves a from m (end.Votes have need lacking) cause leaves = absurd (false_true (sym leaves))
take_leaves a from m (end.Foreign k) cause leaves = absurd (false_true (sym leaves))
take_leaves a from m (end.Excluded k) cause leaves = absurd (false_true (sym leaves))

module _ (c : Cluster) (n : ℕ) (x : UpNode) (from : ℕ) (m : Message) (a : AttemptState) (at : x.attempt ≡ Some a) (own : coordinator a.plan.epoch ≡ n) where
  -- it has this attempt yet
  abbrev HasIt : UpNode → Type 0
  HasIt y = y.attempt ≡ Some a

  has_left : (os : List Output) (k : Course) → LeadsTo c n HasIt x k → GoesOut c n (IsLeft n (IsNack m.body) x.tasks) x os k
  has_left os k h = out_leads c n HasIt (IsLeft n (IsNack m.body) x.tasks) x os k (λ y more is. alive_left n (IsNack m.body) x.tasks y more a is) h

  took_left : (o : Option AttemptState) → x.attempt ≡ o → IsOrdered n a → Owns n x.tasks a → IsOfOthers a from m.body → GoesOut c n (IsLeft n (IsNack m.body) x.tasks) x [] (cuts.answer_course c n x from m o)
  took_left None none ok h others = absurd (none_is (sym none ∙ at))
    where
      none_is : None ≡ Some a → ⊥
      none_is e = cc
  took_left (Some b) has ok h others =
      subst (λ z. GoesOut c n (IsLeft n (IsNack m.body) x.tasks) x [] (cuts.going_course c n x z (Take from m))) (same (sym at ∙ has))
      (going_left c n (IsNack m.body) x a (Take from m) own tt (ok, h, others) (λ e cause leaves. take_leaves a from m e cause leaves))
    where
      same : Some a ≡ Some b → a ≡ b
      same e = cc

  readying_has : (y z : UpNode) (to : ℕ) → HasIt y → LeadsTo c n HasIt y (cuts.readying_course c z to)
  readying_has y z to h = if_either (LeadsTo c n HasIt y) (joins z.tasks) Stops (writing to (ready_of c z)) h h

  request_has : (kind : SeizeKind) (e members d : ℕ) (o : Option SeizeResult) → LeadsTo c n HasIt x (cuts.request_course x from kind e members d o)
  request_has kind e members d (Some result) = at
  request_has kind e members d None = if_either (LeadsTo c n HasIt x) (installed_of x == e) (writing from (body.Seized e d seized.Fault)) (Acts (Accepts kind e members d) Stops) at at

  seizing_has : (kind : SeizeKind) (e members d : ℕ) → LeadsTo c n HasIt x (cuts.seizing_course x from kind e members d)
  seizing_has kind e members d =
      if_either (LeadsTo c n HasIt x) (is_in x e) (cuts.request_course x from kind e members d (kept_of x.tasks d)) Stops (request_has kind e members d (kept_of x.tasks d)) at

  installed_has : (i : Install) (seat : Seat) → LeadsTo c n HasIt x (cuts.installed_course c n x from i seat)
  installed_has i (Member s) = readying_has x x from at
  installed_has i (Forming s) =
      let y : UpNode = changed c n x (Installs s i) in
      if_either (LeadsTo c n HasIt x) (s.saved.installed == i.epoch) (cuts.readying_course c x from) (Keeps (Installs s i) (cuts.readying_course c y from)) (readying_has x x from at) (readying_has y y from at)

  install_has : (i : Install) → LeadsTo c n HasIt x (cuts.install_course c n x from i)
  install_has i = if_either (LeadsTo c n HasIt x) (is_in x i.epoch) (cuts.installed_course c n x from i x.seat) (writing from (body.Nack i.epoch (promised_of x))) (installed_has i x.seat) at

  kept_left : (k : Course) → AreKept k → GoesOut c n (IsLeft n (IsNack m.body) x.tasks) x [] k
  kept_left k kept =
      out_by c n (Stays n x) (IsLeft n (IsNack m.body) x.tasks) x [] k (λ y more s. alive_left n (IsNack m.body) x.tasks y more a (s.0 ∙ at)) (kept_out c n x x [] k kept (refl, refl, tt))

  pub body_left : (ends : method.Outcome) (b : Body) → IsNoCollect b → IsOrdered n a → Owns n x.tasks a → IsOfOthers a from m.body → GoesOut c n (IsLeft n (IsNack m.body) x.tasks) x [] (cuts.body_course c n ends x from m b)
  body_left ends (body.Collect e members) none ok h others = absurd none
  body_left ends (body.Promise e installed members valid flagged committed pending) none ok h others = took_left x.attempt refl ok h others
  body_left ends (body.Nack e promised) none ok h others = took_left x.attempt refl ok h others
  body_left ends (body.Seized e d r) none ok h others = took_left x.attempt refl ok h others
  body_left ends (body.Ready e devices told) none ok h others = took_left x.attempt refl ok h others
  body_left ends (body.SeizeQuorum e members d) none ok h others = has_left [] (cuts.seizing_course x from Vote e members d) (seizing_has Vote e members d)
  body_left ends (body.SeizeData e members d) none ok h others = has_left [] (cuts.seizing_course x from Plain e members d) (seizing_has Plain e members d)
  body_left ends (body.Install i) none ok h others = has_left [] (cuts.install_course c n x from i) (install_has i)
  body_left ends (body.Heartbeat promised session member) none ok h others = kept_left (cuts.body_course c n ends x from m (body.Heartbeat promised session member)) (body_kept c n ends x from m (body.Heartbeat promised session member) tt)
  body_left ends (body.Start e) none ok h others = kept_left (cuts.body_course c n ends x from m (body.Start e)) (body_kept c n ends x from m (body.Start e) tt)
  body_left ends (body.Excluded e newest) none ok h others = kept_left (cuts.body_course c n ends x from m (body.Excluded e newest)) (body_kept c n ends x from m (body.Excluded e newest) tt)
  body_left ends (body.Prepare e place text) none ok h others = kept_left (cuts.body_course c n ends x from m (body.Prepare e place text)) (body_kept c n ends x from m (body.Prepare e place text) tt)
  body_left ends (body.Prepared e place) none ok h others = kept_left (cuts.body_course c n ends x from m (body.Prepared e place)) (body_kept c n ends x from m (body.Prepared e place) tt)
  body_left ends (body.Commit e place) none ok h others = kept_left (cuts.body_course c n ends x from m (body.Commit e place)) (body_kept c n ends x from m (body.Commit e place) tt)
  body_left ends (body.Order o) none ok h others = kept_left (cuts.body_course c n ends x from m (body.Order o)) (body_kept c n ends x from m (body.Order o) tt)
  body_left ends (body.Done e number ended) none ok h others = kept_left (cuts.body_course c n ends x from m (body.Done e number ended)) (body_kept c n ends x from m (body.Done e number ended) tt)
  body_left ends (body.Request e number text) none ok h others = kept_left (cuts.body_course c n ends x from m (body.Request e number text)) (body_kept c n ends x from m (body.Request e number text) tt)
  body_left ends (body.Answer e number text) none ok h others = kept_left (cuts.body_course c n ends x from m (body.Answer e number text)) (body_kept c n ends x from m (body.Answer e number text) tt)

-- ---- a request to seize

abbrev pub IsAsking : Body → Type 0
IsAsking (body.SeizeQuorum e members d) = Unit {0}
IsAsking (body.SeizeData e members d) = Unit {0}
IsAsking _ = ⊥

abbrev SendsAlone : UpNode → List Output → Type 0
SendsAlone y os = AreSent os

request_sent : (c : Cluster) (n : ℕ) (x : UpNode) (from : ℕ) (kind : SeizeKind) (e members d : ℕ) (o : Option SeizeResult) → GoesOut c n SendsAlone x [] (cuts.request_course x from kind e members d o)
request_sent c n x from kind e members d (Some result) = λ so. tt
request_sent c n x from kind e members d None =
    if_either (GoesOut c n SendsAlone x []) (installed_of x == e) (writing from (body.Seized e d seized.Fault)) (Acts (Accepts kind e members d) Stops) (λ so. tt) (λ so. tt)

seizing_sent : (c : Cluster) (n : ℕ) (x : UpNode) (from : ℕ) (kind : SeizeKind) (e members d : ℕ) → GoesOut c n SendsAlone x [] (cuts.seizing_course x from kind e members d)
seizing_sent c n x from kind e members d =
    if_either (GoesOut c n SendsAlone x []) (is_in x e) (cuts.request_course x from kind e members d (kept_of x.tasks d)) Stops (request_sent c n x from kind e members d (kept_of x.tasks d)) tt

-- it is answered by messages alone, or not at all
pub asked_sent : (c : Cluster) (n : ℕ) (ends : method.Outcome) (x : UpNode) (from : ℕ) (m : Message) (b : Body) → IsAsking b → GoesOut c n (λ y os. AreSent os) x [] (cuts.body_course c n ends x from m b)
asked_sent c n ends x from m (body.SeizeQuorum e members d) is = seizing_sent c n x from Vote e members d
asked_sent c n ends x from m (body.SeizeData e members d) is = seizing_sent c n x from Plain e members d
asked_sent c n ends x from m _ is = absurd is

-- ---- a node without an attempt

-- no request to seize comes in its session
abbrev pub NoRequest : UpNode → Body → Type 0
NoRequest x (body.SeizeQuorum e members d) = is_in x e ≡ true → ⊥
NoRequest x (body.SeizeData e members d) = is_in x e ≡ true → ⊥
NoRequest x _ = Unit {0}

module _ (c : Cluster) (n : ℕ) (x : UpNode) (from : ℕ) (m : Message) (none_has : x.attempt ≡ None) where
  stays_left : (y : UpNode) (more : List Output) → Stays n x y more → IsLeft n Anyhow x.tasks y more
  stays_left y more s none = inl (tt, s.1, s.2)

  rests_left : (k : Course) → AreKept k → GoesOut c n (IsLeft n Anyhow x.tasks) x [] k
  rests_left k kept = out_by c n (Stays n x) (IsLeft n Anyhow x.tasks) x [] k stays_left (kept_out c n x x [] k kept (refl, refl, tt))

  answer_left : (o : Option AttemptState) → x.attempt ≡ o → GoesOut c n (IsLeft n Anyhow x.tasks) x [] (cuts.answer_course c n x from m o)
  answer_left None at = λ none. inl (tt, refl, tt)
  answer_left (Some a) at = absurd (none_is (sym none_has ∙ at))
    where
      none_is : None ≡ Some a → ⊥
      none_is e = cc

  requested_left : (kind : SeizeKind) (e members d : ℕ) → (is_in x e ≡ true → ⊥) → GoesOut c n (IsLeft n Anyhow x.tasks) x [] (cuts.seizing_course x from kind e members d)
  requested_left kind e members d never =
      by_test (GoesOut c n (IsLeft n Anyhow x.tasks) x []) (is_in x e) (cuts.request_course x from kind e members d (kept_of x.tasks d)) Stops (λ is. absurd (never is)) (λ no. λ none. inl (tt, refl, tt))

  readying_kept : (z : UpNode) (to : ℕ) → AreKept (cuts.readying_course c z to)
  readying_kept z to = if_either AreKept (joins z.tasks) Stops (writing to (ready_of c z)) tt (tt, tt)

  installs_left : (i : Install) (s : NodeState) → x.seat ≡ Forming s → is_in x i.epoch ≡ true → GoesOut c n (IsLeft n Anyhow x.tasks) x [] (Keeps (Installs s i) (cuts.readying_course c (changed c n x (Installs s i)) from))
  installs_left i s seat is =
      out_leads c n IsInstalled (IsLeft n Anyhow x.tasks) x [] (Keeps (Installs s i) (cuts.readying_course c y from)) (λ z more k none. inr (inr k))
      (if_either (LeadsTo c n IsInstalled y) (joins y.tasks) Stops (writing from (ready_of c y)) installed installed)
    where
      y : UpNode
      y = changed c n x (Installs s i)

      session : (is_in x i.epoch ≡ true) → s.session ≡ i.epoch
      session k = same_number s.session i.epoch (and_cases (nat_le 1 i.epoch) (s.session == i.epoch) (subst (λ (q : Seat). (nat_le 1 i.epoch && ((state_of q).session == i.epoch)) ≡ true) seat k)).1

      installed : IsInstalled y
      installed = sym (session is)

  install_at : (i : Install) (seat : Seat) → x.seat ≡ seat → is_in x i.epoch ≡ true → GoesOut c n (IsLeft n Anyhow x.tasks) x [] (cuts.installed_course c n x from i seat)
  install_at i (Member s) at is = rests_left (cuts.readying_course c x from) (readying_kept x from)
  install_at i (Forming s) at is =
      if_either (GoesOut c n (IsLeft n Anyhow x.tasks) x []) (s.saved.installed == i.epoch) (cuts.readying_course c x from) (Keeps (Installs s i) (cuts.readying_course c (changed c n x (Installs s i)) from))
      (rests_left (cuts.readying_course c x from) (readying_kept x from)) (installs_left i s at is)

  install_left : (i : Install) → GoesOut c n (IsLeft n Anyhow x.tasks) x [] (cuts.install_course c n x from i)
  install_left i =
      by_test (GoesOut c n (IsLeft n Anyhow x.tasks) x []) (is_in x i.epoch) (cuts.installed_course c n x from i x.seat) (writing from (body.Nack i.epoch (promised_of x)))
      (λ is. install_at i x.seat refl is) (λ no. rests_left (writing from (body.Nack i.epoch (promised_of x))) (tt, tt))

  pub body_rests : (ends : method.Outcome) (b : Body) → IsNoCollect b → NoRequest x b → GoesOut c n (IsLeft n Anyhow x.tasks) x [] (cuts.body_course c n ends x from m b)
  body_rests ends (body.Collect e members) none never = absurd none
  body_rests ends (body.Promise e installed members valid flagged committed pending) none never = answer_left x.attempt refl
  body_rests ends (body.Nack e promised) none never = answer_left x.attempt refl
  body_rests ends (body.Seized e d r) none never = answer_left x.attempt refl
  body_rests ends (body.Ready e devices told) none never = answer_left x.attempt refl
  body_rests ends (body.SeizeQuorum e members d) none never = requested_left Vote e members d never
  body_rests ends (body.SeizeData e members d) none never = requested_left Plain e members d never
  body_rests ends (body.Install i) none never = install_left i
  body_rests ends (body.Heartbeat promised session member) none never = rests_left (cuts.body_course c n ends x from m (body.Heartbeat promised session member)) (body_kept c n ends x from m (body.Heartbeat promised session member) tt)
  body_rests ends (body.Start e) none never = rests_left (cuts.body_course c n ends x from m (body.Start e)) (body_kept c n ends x from m (body.Start e) tt)
  body_rests ends (body.Excluded e newest) none never = rests_left (cuts.body_course c n ends x from m (body.Excluded e newest)) (body_kept c n ends x from m (body.Excluded e newest) tt)
  body_rests ends (body.Prepare e place text) none never = rests_left (cuts.body_course c n ends x from m (body.Prepare e place text)) (body_kept c n ends x from m (body.Prepare e place text) tt)
  body_rests ends (body.Prepared e place) none never = rests_left (cuts.body_course c n ends x from m (body.Prepared e place)) (body_kept c n ends x from m (body.Prepared e place) tt)
  body_rests ends (body.Commit e place) none never = rests_left (cuts.body_course c n ends x from m (body.Commit e place)) (body_kept c n ends x from m (body.Commit e place) tt)
  body_rests ends (body.Order o) none never = rests_left (cuts.body_course c n ends x from m (body.Order o)) (body_kept c n ends x from m (body.Order o) tt)
  body_rests ends (body.Done e number ended) none never = rests_left (cuts.body_course c n ends x from m (body.Done e number ended)) (body_kept c n ends x from m (body.Done e number ended) tt)
  body_rests ends (body.Request e number text) none never = rests_left (cuts.body_course c n ends x from m (body.Request e number text)) (body_kept c n ends x from m (body.Request e number text) tt)
  body_rests ends (body.Answer e number text) none never = rests_left (cuts.body_course c n ends x from m (body.Answer e number text)) (body_kept c n ends x from m (body.Answer e number text) tt)
