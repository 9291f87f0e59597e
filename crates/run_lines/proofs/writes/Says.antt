-- A small step sends a Ready only where its node is ready, and a start is of members that are.
use Rattle.std.specs.Prelude.{ℕ, ◌≡◌, ◌≢◌, ◌<◌, ◌≤◌, true, List, [], ◌∷◌, Some}
use Rattle.std.specs.List.{AllByRecursion}
use Rattle.std.proofs.Common.{refl, sym, ap, subst, ◌∙◌, arith}
use Rattle.attempt_laws.proofs.MachineLemmas.{starts_follow}
use Rattle.attempt_laws.proofs.Stays.{plan_stays}
use Rattle.attempt_laws.specs.Machine.{is_member}
use Rattle.cmm_attempt.specs.Attempts.{AttemptState}
use Rattle.cmm_attempt.specs.Calls.{Call, May as MayTake, turn}
use Rattle.cmm_attempt.specs.declared.phase.Phase.TheVariants.{Installing}
use Rattle.cmm_attempt.specs.declared.plan.Plan.{Plan}
use Rattle.cmm_member.specs.Nodes.{NodeState}
use Rattle.cmm_member.specs.Records.{NodeRecord}
use Rattle.node_model.specs.Seats.{installed_of, promised_of, record_of, state_of}
use Rattle.node_model.specs.declared.cluster.Cluster.{Cluster}
use Rattle.node_model.specs.declared.node.Node.{Node}
use Rattle.node_model.specs.declared.node.Node.TheVariants.{Down, Up}
use Rattle.node_model.specs.declared.node.UpNode.{UpNode}
use Rattle.node_model.specs.declared.output.Output.{Output}
use Rattle.node_model.specs.declared.output.Output.TheVariants.{Sends, Tells}
use Rattle.refinement.proofs.Attempts.{may_be_called}
use Rattle.refinement.specs.Doings.{Act, Change, Doing, Site, acted, changed, effect, first_lines, gives, gone_line, site}
use Rattle.refinement.specs.Doings.Act.{Makes, Spreads, Writes}
use Rattle.refinement.specs.Doings.Change.{Acks, Admits, Commits, Counts, Distrusts, Installs, Leads, Prepares, Promises, Proposes, Sits, Starts}
use Rattle.refinement.specs.Doings.Doing.{Comes_up, Does, Forgets, Goes_down, Loses, Saves}
use Rattle.refinement.specs.Facts.{AttemptFacts, Facts}
use Rattle.refinement.specs.Guards.{May, MayAct, MayChange, MayWrite}
use Rattle.refinement.specs.Ties.{Delivered}
use Rattle.run_history.proofs.Lists.{both}
use Rattle.run_history.specs.Marks.{DoingSo, deed_in, deed_of, first_deed}
use Rattle.wire.specs.declared.message.Body.{Body}
use Rattle.wire.specs.declared.message.Body.TheVariants as body
use Rattle.run_lines.specs.writes.Joins.{SiteDone}
use Rattle.run_lines.specs.writes.Ready.{ActReady, BodyReady, CallReady, ChangeReady, DoingReady}
use Rattle.run_lines.specs.writes.Sites.{ArePlain, AttemptIn, BodySaid, DeedReady, FactsAt, HandReady, NodeReady, OutputReady, PlainBody, PlanIn, Ready}
use Rattle.run_lines.proofs.writes.Done.{own_facts}
use Rattle.run_lines.proofs.writes.Own.{own_ready_so}
use Rattle.run_lines.proofs.writes.Readied.{Started, starts_so}
use Rattle.run_lines.proofs.writes.Tells.{OfPlain, act_tells, first_of_change, saved_change}

-- ---- who is ready

plain_ready : (y : Site) (os : List Output) → ArePlain os → AllByRecursion (OutputReady y) os
plain_ready y [] h = tt
plain_ready y (Tells e ∷ os) h = (tt, plain_ready y os h.1)
plain_ready y (Sends to b ∷ os) h = (by_body b h.0, plain_ready y os h.1)
  where
    by_body : (b : Body) → PlainBody b → BodySaid b y
    by_body (body.Ready p devices report) is = absurd is
    by_body _ is = tt

of_ready : (y : Site) → OfPlain (OutputReady y)
of_ready y = record { plain = plain_ready y; line = λ e. tt }

write_ready : (x : UpNode) (disk : NodeRecord) (b : Body) → Facts x → disk ≡ record_of x → MayWrite x b → BodyReady x b → BodySaid b (site (Up x) disk)
write_ready x disk (body.Ready p devices report) f same may ready =
    let low : p ≤ promised_of x = subst (λ z. z ≤ promised_of x) (sym may.2) f.order in
    record { some = may.0; kept = subst (λ (r : NodeRecord). p ≤ r.promised) (sym same) low; done = (low, (λ at. (sym may.2, ready))) }
write_ready x disk (body.Heartbeat promised session is_one) f same may ready = tt
write_ready x disk (body.Collect p members) f same may ready = tt
write_ready x disk (body.Promise p newest members valid flagged committed pending) f same may ready = tt
write_ready x disk (body.Nack p promised) f same may ready = tt
write_ready x disk (body.SeizeQuorum p members d) f same may ready = tt
write_ready x disk (body.SeizeData p members d) f same may ready = tt
write_ready x disk (body.Seized p d outcome) f same may ready = tt
write_ready x disk (body.Install i) f same may ready = tt
write_ready x disk (body.Start p) f same may ready = tt
write_ready x disk (body.Prepare p place text) f same may ready = tt
write_ready x disk (body.Prepared p place) f same may ready = tt
write_ready x disk (body.Commit p place) f same may ready = tt
write_ready x disk (body.Order o) f same may ready = tt
write_ready x disk (body.Done p number outcome) f same may ready = tt
write_ready x disk (body.Request p number text) f same may ready = tt
write_ready x disk (body.Answer p number text) f same may ready = tt
write_ready x disk (body.Excluded p newest) f same may ready = tt

act_written : (c : Cluster) (n : ℕ) (x : UpNode) (disk : NodeRecord) (a b : Act) → a ≡ b → acted c n x b ≡ x → (P : Site → Type 0) → P (site (Up x) disk) → P (site (Up (acted c n x a)) disk)
act_written c n x disk a b is same P h = subst (λ z. P (site (Up (acted c n x z)) disk)) (sym is) (subst (λ z. P (site (Up z) disk)) (sym same) h)

pub doing_says : (c : Cluster) (n : ℕ) (told : Delivered) (node : Node) (disk : NodeRecord) (d : Doing) → FactsAt n node disk → May c n told (site node disk) d → DoingSo d → DoingReady (site node disk) d
    → AllByRecursion (OutputReady (effect c n (site node disk) d)) (gives c n (site node disk) d)
doing_says c n told node disk Comes_up f may so ready = (tt, tt)
doing_says c n told node disk (Goes_down why) f may so ready = (tt, tt)
doing_says c n told Down disk (Does a) f may so ready = tt
doing_says c n told (Up x) disk (Does a) f may so ready =
    act_tells (OutputReady (effect c n (site (Up x) disk) (Does a))) (of_ready (effect c n (site (Up x) disk) (Does a))) c n told x a may so
    (λ to b is. act_written c n x disk a (Writes to b) is refl (BodySaid b) (write_ready x disk b f.0 f.1 (subst (MayAct c n told x) is may) (subst (ActReady x) is ready)))
    (λ receivers to b is. act_written c n x disk a (Spreads receivers b) is refl (BodySaid b) (write_ready x disk b f.0 f.1 (subst (MayAct c n told x) is may) (subst (ActReady x) is ready)))
doing_says c n told Down disk (Saves ch) f may so ready = tt
doing_says c n told (Up x) disk (Saves ch) f may so ready =
    saved_change (OutputReady (effect c n (site (Up x) disk) (Saves ch))) (of_ready (effect c n (site (Up x) disk) (Saves ch))) c n x ch
doing_says c n told node disk (Loses ch why) f may so ready =
    let y : Site = effect c n (site node disk) (Loses ch why) in
    both (OutputReady y) (first_lines n ch) (gone_line n why) (first_of_change (OutputReady y) (of_ready y) n ch) (tt, tt)
doing_says c n told node disk (Forgets ch why) f may so ready =
    let y : Site = effect c n (site node disk) (Forgets ch why) in
    both (OutputReady y) (first_lines n ch) (gone_line n why) (first_of_change (OutputReady y) (of_ready y) n ch) (tt, tt)

-- ---- a start

start_ready : (K : Ready) (c : Cluster) (n : ℕ) (told : Delivered) (x : UpNode) (a : AttemptState) (k : Call) (s : NodeState) (disk : NodeRecord) → Facts x → PlanIn n x.attempt → HandReady K told
    → MayChange c n told x (Starts a k s) → CallReady x k → AttemptIn K x.tasks x.attempt → promised_of x ≤ disk.promised
    → (m : ℕ) → is_member (turn a k).after.plan.members m ≡ true
    → (m ≢ n → K m (turn a k).after.plan.epoch) × (m ≡ n → SiteDone (site (Up (changed c n x (Starts a k s))) disk) (turn a k).after.plan.epoch)
start_ready K c n told x a k s disk f plan hand may ready h low m member =
    let t : AttemptState = (turn a k).after in
    let g : AttemptFacts s a = own_facts x a s f may.0 may.1 in
    let take : MayTake a k = may_be_called c told a k may.2 in
    let at : a.phase ≡ Installing = starts_follow a k g.reached take may.3 in
    let own : PlanIn n (Some a) = subst (PlanIn n) may.0 plan in
    let go : Started K x.tasks n t = starts_so K c told x.tasks n a k g.reached may.2 hand (own_ready_so x k ready) (subst (λ o. AttemptIn K x.tasks o) may.0 h) may.3 own.0 own.1 in
    let epoch : t.plan.epoch ≡ a.plan.epoch = ap (λ (p : Plan). p.epoch) (plan_stays a k take) in
    let installed : installed_of x ≡ t.plan.epoch = ap (λ z. (state_of z).saved.installed) may.1 ∙ (g.installed at ∙ sym epoch) in
    let below : t.plan.epoch ≤ promised_of x = subst (λ z. z ≤ promised_of x) installed f.order in (
      go.others m member,
      (λ is. record {
        some = subst (λ z. 0 < z) (sym epoch) g.some;
        kept = at_most t.plan.epoch (promised_of x) disk.promised below low;
        done = (
          subst (λ z. t.plan.epoch ≤ z) (ap (λ z. (state_of z).saved.promised) may.1) below,
          (λ here. (ap (λ z. (state_of z).saved.installed) (sym may.1) ∙ installed, go.own)),
        );
      }),
    )
  where
    at_most : (p q r : ℕ) → p ≤ q → q ≤ r → p ≤ r
    at_most p q r l m = omega (arith, l, m)

change_deed : (K : Ready) (c : Cluster) (n : ℕ) (told : Delivered) (x : UpNode) (ch : Change) (disk : NodeRecord) → Facts x → PlanIn n x.attempt → HandReady K told → MayChange c n told x ch → ChangeReady x ch
    → AttemptIn K x.tasks x.attempt → promised_of (changed c n x ch) ≤ disk.promised → AllByRecursion (DeedReady K n (site (Up (changed c n x ch)) disk)) (deed_in ch)
change_deed K c n told x (Starts a k s) disk f plan hand may ready h low =
    (start_ready K c n told x a k s disk f plan hand may ready h (subst (λ z. z ≤ disk.promised) (ap (λ z. (state_of z).saved.promised) (sym may.1)) low), tt)
change_deed K c n told x (Proposes s p text) disk f plan hand may ready h low = (tt, tt)
change_deed K c n told x (Acks s p q left text) disk f plan hand may ready h low = (tt, tt)
change_deed K c n told x (Promises p) disk f plan hand may ready h low = tt
change_deed K c n told x (Leads p members) disk f plan hand may ready h low = tt
change_deed K c n told x (Counts a k s i) disk f plan hand may ready h low = tt
change_deed K c n told x (Installs s i) disk f plan hand may ready h low = tt
change_deed K c n told x (Sits s e) disk f plan hand may ready h low = tt
change_deed K c n told x (Distrusts d) disk f plan hand may ready h low = tt
change_deed K c n told x (Admits at command a d) disk f plan hand may ready h low = tt
change_deed K c n told x (Prepares s text) disk f plan hand may ready h low = tt
change_deed K c n told x (Commits s) disk f plan hand may ready h low = tt

first_ready : (K : Ready) (n : ℕ) (y : Site) (ch : Change) → AllByRecursion (DeedReady K n y) (first_deed ch)
first_ready K n y (Proposes s p text) = (tt, tt)
first_ready K n y _ = tt

pub doing_deed : (K : Ready) (c : Cluster) (n : ℕ) (told : Delivered) (node : Node) (disk : NodeRecord) (d : Doing) → FactsAt n node disk → HandReady K told → May c n told (site node disk) d
    → DoingReady (site node disk) d → NodeReady K node → AllByRecursion (DeedReady K n (effect c n (site node disk) d)) (deed_of d)
doing_deed K c n told node disk Comes_up f hand may ready h = tt
doing_deed K c n told node disk (Goes_down why) f hand may ready h = tt
doing_deed K c n told Down disk (Does a) f hand may ready h = absurd may
doing_deed K c n told (Up x) disk (Does (Makes ch)) f hand may ready h =
    change_deed K c n told x ch disk f.0 f.2 hand may.0 ready h
    (subst (λ (r : NodeRecord). r.promised ≤ disk.promised) (sym may.1) (subst (λ (r : NodeRecord). promised_of x ≤ r.promised) (sym f.1) (no_less (promised_of x))))
  where
    no_less : (a : ℕ) → a ≤ a
    no_less a = omega arith
doing_deed K c n told (Up x) disk (Does _) f hand may ready h = tt
doing_deed K c n told Down disk (Saves ch) f hand may ready h = absurd may
doing_deed K c n told (Up x) disk (Saves ch) f hand may ready h =
    change_deed K c n told x ch (record_of (changed c n x ch)) f.0 f.2 hand may ready h (no_less (promised_of (changed c n x ch)))
  where
    no_less : (a : ℕ) → a ≤ a
    no_less a = omega arith
doing_deed K c n told node disk (Loses ch why) f hand may ready h = first_ready K n (effect c n (site node disk) (Loses ch why)) ch
doing_deed K c n told node disk (Forgets ch why) f hand may ready h = first_ready K n (effect c n (site node disk) (Forgets ch why)) ch
