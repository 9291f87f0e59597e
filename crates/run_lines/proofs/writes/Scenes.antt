-- A step of a node, and what has none, from scene to scene.
use Rattle.std.specs.Prelude.{ℕ, ◌≡◌, ◌≢◌, ◌≤◌, ◌⊎◌, ◌++◌, true, All, List, [], ◌∷◌, Option, None, Some}
use Rattle.std.specs.List.{AllByRecursion}
use Rattle.std.proofs.Common.{refl, sym, subst, ◌∙◌, inl, inr}
use Rattle.attempt_laws.specs.Asking.{AreApart, numbers_of}
use Rattle.attempt_laws.specs.Machine.{is_member}
use Rattle.cl_base.specs.declared.method.Outcome as method
use Rattle.cmm_attempt.specs.Attempts.{AttemptState}
use Rattle.cmm_attempt.specs.Calls.{IsDevice}
use Rattle.cmm_attempt.specs.declared.phase.Readied.{Readied}
use Rattle.device_queue.specs.declared.task.Task.{Task}
use Rattle.history.specs.Deeds.{Acked, Deed, Proposed, Started, deeds}
use Rattle.machine_base.proofs.Puts.{same_or_not}
use Rattle.membership_machine.specs.Events.{Event as Step, Run}
use Rattle.membership_machine.specs.Growth.{Grows}
use Rattle.membership_machine.specs.Invariant.{Holds}
use Rattle.membership_machine.specs.State.{Memberships}
use Rattle.membership_machine.specs.Events.{after}
use Rattle.membership_machine.specs.Votes.{Setting}
use Rattle.node_model.specs.Steps.{Outcome, stepped}
use Rattle.node_model.specs.declared.cluster.Cluster.{Cluster}
use Rattle.node_model.specs.declared.input.Input.{Input}
use Rattle.node_model.specs.declared.input.Input.TheVariants as input
use Rattle.node_model.specs.declared.node.Node.{Node}
use Rattle.node_model.specs.declared.node.Node.TheVariants.{Down, Up}
use Rattle.node_model.specs.declared.output.Output.{Output}
use Rattle.node_model.specs.declared.output.Output.TheVariants.{Sends, Tells}
use Rattle.record_disk.specs.Disks.{DiskState}
use Rattle.refinement.proofs.Facts.{step_may}
use Rattle.refinement.proofs.Handlers.{delivered_by}
use Rattle.refinement.specs.Cuts.{doings}
use Rattle.refinement.specs.Doings.{Doing, Site, after_all, given_all, site}
use Rattle.refinement.specs.Facts.{JoinsIn}
use Rattle.refinement.specs.Guards.{MayAll}
use Rattle.refinement.specs.Runs.{IsAmong, Letter, Nodes, WasSent, letters_of, moved}
use Rattle.refinement.specs.Runs.Move.{Takes as Takes_in}
use Rattle.refinement.specs.Steps.{disk_rules}
use Rattle.refinement.specs.Ties.{Delivered, Known, SiteTied, setting_of}
use Rattle.run_history.proofs.Courses.{doings_so}
use Rattle.run_history.proofs.DeedDoings.{AllPass, doings_pass}
use Rattle.run_history.proofs.StartAttempts.{NodeHolds, node_holds_stay}
use Rattle.run_history.proofs.Steps.{put_all}
use Rattle.run_history.specs.Cuts.{StepCut, step_events}
use Rattle.run_history.specs.DeedLines.{Passes}
use Rattle.run_history.specs.Marks.{AllSo, deeds_on}
use Rattle.run_history.specs.Scenes.{Scene, passing}
use Rattle.run_history.specs.Stages.{site_of}
use Rattle.wire.specs.declared.message.Body.{Body}
use Rattle.wire.specs.declared.message.Body.TheVariants as body
use Rattle.run_lines.specs.writes.Covers.{Covers, HandCovers, LetterCovers, NodeApart, OutputCovers}
use Rattle.run_lines.specs.writes.Joins.{NodeJoins, SiteDone}
use Rattle.run_lines.specs.writes.Scenes.{DeedDone, DoneIn, Settled}
use Rattle.run_lines.specs.writes.Sites.{AllTake, AttemptIn, BodySaid, DeedReady, HandReady, NodeReady, OutputReady, Ready, TellsReady}
use Rattle.run_lines.proofs.writes.Joining.{SaySame, node_same}
use Rattle.run_lines.proofs.writes.Ready.{doings_ready}
use Rattle.run_lines.proofs.writes.Tells.{body_covers_stay}
use Rattle.run_lines.proofs.writes.Walk.{Hand, Mid, Walked, walk}

-- ---- what is ready stays ready

abbrev pub Up_to : Ready → Ready → Type 0
Up_to K L = (n p : ℕ) → K n p → L n p

readies_up : (K L : Ready) → Up_to K L → (e : ℕ) (rs : List Readied) → AllByRecursion (λ (r : Readied). K r.node e) rs → AllByRecursion (λ (r : Readied). L r.node e) rs
readies_up K L more e [] h = tt
readies_up K L more e (r ∷ rs) h = (more r.node e h.0, readies_up K L more e rs h.1)

attempt_up : (K L : Ready) → Up_to K L → (tasks : List Task) (o : Option AttemptState) → AttemptIn K tasks o → AttemptIn L tasks o
attempt_up K L more tasks None h = tt
attempt_up K L more tasks (Some a) h = record { readies = readies_up K L more a.plan.epoch a.readies h.readies; before = h.before; own = h.own }

pub node_up : (K L : Ready) → Up_to K L → (node : Node) → NodeReady K node → NodeReady L node
node_up K L more Down h = tt
node_up K L more (Up x) h = attempt_up K L more x.tasks x.attempt h

tells_up : (K L : Ready) → Up_to K L → (from : ℕ) (b : Body) → TellsReady K from b → TellsReady L from b
tells_up K L more from (body.Ready p devices report) h = more from p h
tells_up K L more from _ h = tt

pub letters_up : (K L : Ready) → Up_to K L → (ls : List Letter) → AllByRecursion (λ (l : Letter). TellsReady K l.from l.body) ls → AllByRecursion (λ (l : Letter). TellsReady L l.from l.body) ls
letters_up K L more [] h = tt
letters_up K L more (l ∷ ls) h = (tells_up K L more l.from l.body h.0, letters_up K L more ls h.1)

-- ---- what was sent

sent_of : (P : ℕ → Body → Type 0) (from : ℕ) (b : Body) (ls : List Letter) → IsAmong from b ls → AllByRecursion (λ (l : Letter). P l.from l.body) ls → P from b
sent_of P from b [] among h = absurd among
sent_of P from b (l ∷ ls) among h = by_place among (λ later. sent_of P from b ls later h.1)
  where
    by_place : ((l.from ≡ from) × (l.body ≡ b)) ⊎ IsAmong from b ls → (IsAmong from b ls → P from b) → P from b
    by_place (inl is) more = subst (λ z. P z b) is.0 (subst (λ z. P l.from z) is.1 h.0)
    by_place (inr later) more = more later

hand_covers : (M : Memberships) (v : Nodes) (i : Input) → WasSent v i → AllByRecursion (LetterCovers M) v.sent → HandCovers M (delivered_by i)
hand_covers M v (input.Packet from m) was h = sent_of (λ k b. Covers M b) from m.body v.sent was h
hand_covers M v input.Boot was h = tt
hand_covers M v input.Crash was h = tt
hand_covers M v input.Tick was h = tt
hand_covers M v input.CommandDue was h = tt
hand_covers M v (input.Answered a) was h = tt
hand_covers M v (input.Wrote d value a) was h = tt
hand_covers M v (input.Commanded words) was h = tt
hand_covers M v (input.Reported r good) was h = tt
hand_covers M v (input.Client name client port) was h = tt

hand_ready : (K : Ready) (v : Nodes) (i : Input) → WasSent v i → AllByRecursion (λ (l : Letter). TellsReady K l.from l.body) v.sent → HandReady K (delivered_by i)
hand_ready K v (input.Packet from m) was h = sent_of (TellsReady K) from m.body v.sent was h
hand_ready K v input.Boot was h = tt
hand_ready K v input.Crash was h = tt
hand_ready K v input.Tick was h = tt
hand_ready K v input.CommandDue was h = tt
hand_ready K v (input.Answered a) was h = tt
hand_ready K v (input.Wrote d value a) was h = tt
hand_ready K v (input.Commanded words) was h = tt
hand_ready K v (input.Reported r good) was h = tt
hand_ready K v (input.Client name client port) was h = tt

letters_cover : (M N : Memberships) (n : ℕ) (os : List Output) (ls : List Letter) → Grows M N → AllByRecursion (OutputCovers N) os → AllByRecursion (LetterCovers M) ls
    → AllByRecursion (LetterCovers N) (letters_of n os ++ ls)
letters_cover M N n [] [] g h k = tt
letters_cover M N n [] (l ∷ ls) g h k = (body_covers_stay M N l.body g k.0, letters_cover M N n [] ls g h k.1)
letters_cover M N n (Tells e ∷ os) ls g h k = letters_cover M N n os ls g h.1 k
letters_cover M N n (Sends to b ∷ os) ls g h k = (h.0, letters_cover M N n os ls g h.1 k)

said_by : (L : Ready) (n : ℕ) (y : Site) → ((p : ℕ) → SiteDone y p → L n p) → (b : Body) → BodySaid b y → TellsReady L n b
said_by L n y own (body.Ready p devices report) h = own p h
said_by L n y own _ h = tt

letters_tell : (L : Ready) (n : ℕ) (y : Site) (os : List Output) (ls : List Letter) → ((p : ℕ) → SiteDone y p → L n p) → AllByRecursion (OutputReady y) os
    → AllByRecursion (λ (l : Letter). TellsReady L l.from l.body) ls → AllByRecursion (λ (l : Letter). TellsReady L l.from l.body) (letters_of n os ++ ls)
letters_tell L n y [] ls own h k = k
letters_tell L n y (Tells e ∷ os) ls own h k = letters_tell L n y os ls own h.1 k
letters_tell L n y (Sends to b ∷ os) ls own h k = (said_by L n y own b h.0, letters_tell L n y os ls own h.1 k)

-- ---- starts

deeds_at : (v : Nodes) (n : ℕ) (ds : List Deed) → AllByRecursion (DeedDone (DoneIn v)) ds → AllByRecursion (DeedReady (DoneIn v) n (site_of v n)) ds
deeds_at v n [] h = tt
deeds_at v n (Started s updates ∷ ds) h =
    ((λ m member. ((λ ne. h.0 m member), (λ is. subst (λ k. DoneIn v k s.epoch) is (h.0 m member)))), deeds_at v n ds h.1)
deeds_at v n (Proposed u ∷ ds) h = (tt, deeds_at v n ds h.1)
deeds_at v n (Acked u ∷ ds) h = (tt, deeds_at v n ds h.1)

deeds_done : (K L : Ready) (n : ℕ) (y : Site) (ds : List Deed) → Up_to K L → ((p : ℕ) → SiteDone y p → L n p) → AllByRecursion (DeedReady K n y) ds → AllByRecursion (DeedDone L) ds
deeds_done K L n y [] more own h = tt
deeds_done K L n y (Started s updates ∷ ds) more own h = ((λ m member. by_node m member (same_or_not m n)), deeds_done K L n y ds more own h.1)
  where
    by_node : (m : ℕ) → is_member s.members m ≡ true → (m ≡ n) ⊎ (m ≢ n) → L m s.epoch
    by_node m member (inl is) = subst (λ k. L k s.epoch) (sym is) (own s.epoch ((h.0 m member).1 is))
    by_node m member (inr ne) = more m s.epoch ((h.0 m member).0 ne)
deeds_done K L n y (Proposed u ∷ ds) more own h = (tt, deeds_done K L n y ds more own h.1)
deeds_done K L n y (Acked u ∷ ds) more own h = (tt, deeds_done K L n y ds more own h.1)

-- ---- what has no step of a node

pub settled_on : (c : Cluster) (M : Memberships) (s t : Scene) → Passes s t [] → ((n : ℕ) → SaySame n s.moments t.moments) → Grows M M → Settled c M s → Settled c M t
settled_on c M s t p say g b = by_nodes t.nodes p.nodes
  where
    by_nodes : (v : Nodes) → v ≡ s.nodes → Settled c M (record t { nodes = v })
    by_nodes v is = subst (λ (z : Nodes). Settled c M (record t { nodes = z })) (sym is) (record {
      closed = p.adds.closed;
      holds = b.holds;
      apart = b.apart;
      joins = λ n. node_same c M M s.moments t.moments n (s.nodes.node n) g (say n) (b.joins n);
      ready = b.ready;
      covers = b.covers;
      tells = b.tells;
      deeds_so = subst (λ ds. AllByRecursion (DeedDone (DoneIn s.nodes)) ds) (sym p.adds.deeds) b.deeds_so;
    })

-- ---- a step of a node

-- the state that a run by these events comes to is one
same_run : (S : Setting) (M : Memberships) (events : List Step) (N L : Memberships) → Run S M events N → Run S M events L → N ≡ L
same_run S M [] N L h k = h ∙ sym k
same_run S M (e ∷ events) N L h k = same_run S (after M e) events N L h.1 k.1

-- what is known where it takes what comes
pub record Takes (c : Cluster) (M : Memberships) (v : Nodes) (n : ℕ) (told : Delivered) : Type 0 where
  pub low : n ≤ 32
  pub fits : All IsDevice c.attached
  pub apart : AreApart (numbers_of c.attached)
  pub holds : Holds (setting_of c) M
  pub known : Known M told
  pub tied : SiteTied c M n (site_of v n)
  pub tasks : JoinsIn (v.node n)

pub step_settles : (c : Cluster) (n now : ℕ) (ends : method.Outcome) (i : Input) (s : Scene) (M N : Memberships) (cut : StepCut c n now ends s.nodes i) → Takes c M s.nodes n (delivered_by i) → WasSent s.nodes i
    → AllTake c n (site_of s.nodes n) (doings c n now ends cut.replies i (s.nodes.node n)) → Run (setting_of c) M (step_events c n now ends s.nodes i cut) N → Settled c M s
    → Settled c N (passing n (stepped disk_rules c n now ends (s.nodes.node n) (s.nodes.disk n) i).given (record s { nodes = moved c s.nodes (Takes_in n now ends i) }))
step_settles c n now ends i s M N cut know was take run b =
    let v : Nodes = s.nodes in
    let o : Outcome DiskState = stepped disk_rules c n now ends (v.node n) (v.disk n) i in
    let told : Delivered = delivered_by i in
    let x : Site = site_of v n in
    let K : Ready = DoneIn v in
    let small : List Doing = doings c n now ends cut.replies i (v.node n) in
    let may : MayAll c n told x small = step_may c M n now ends (v.node n) (v.disk n).kept i cut.replies know.low know.fits know.holds know.tied know.tasks in
    let so : AllSo small = doings_so c n now ends cut.replies i (v.node n) in
    let t : Scene = record s { nodes = moved c v (Takes_in n now ends i) } in
    let u : Scene = passing n o.given t in
    let y : Site = site o.after o.disk.kept in
    let hand : Hand c K n told M = record { holds = know.holds; known = know.known; covers = hand_covers M v i was b.covers; ready = hand_ready K v i was b.tells } in
    let mid : Mid c K n M x t.moments = record { tied = know.tied; tasks = know.tasks; holds = b.holds n; apart = b.apart n; joins = b.joins n; ready = b.ready n } in
    let ds : List Deed = deeds_on (deeds s.moments) small in
    let first : Walked c K n M x (after_all c n x small) (given_all c n x small) (step_events c n now ends v i cut) ds t (passing n (given_all c n x small) t) =
    walk c K n told M x small (deeds s.moments) t know.fits know.apart hand may so take (doings_ready c n now ends cut.replies i (v.node n) (v.disk n).kept) (deeds_at v n (deeds s.moments) b.deeds_so) mid in
    let w : Walked c K n M x y o.given (step_events c n now ends v i cut) ds t u =
    subst (λ z. Walked c K n M x z o.given (step_events c n now ends v i cut) ds t u) cut.comes.left
    (subst (λ os. Walked c K n M x (after_all c n x small) os (step_events c n now ends v i cut) ds t (passing n os t)) cut.comes.given first) in
    let same : w.machine ≡ N = same_run (setting_of c) M (step_events c n now ends v i cut) w.machine N w.run run in
    let grows : Grows M N = subst (λ Z. Grows M Z) same w.grows in
    let after : Mid c K n N y u.moments = subst (λ Z. Mid c K n Z y u.moments) same w.mid in
    let pass : AllPass t u small = subst (λ os. AllPass t (passing n os t) small) cut.comes.given (doings_pass c n told x small t may so b.closed) in
    let L : Ready = DoneIn t.nodes in
    let own : ((p : ℕ) → SiteDone y p → L n p) = λ p. put_all (λ k node disk. (k ≡ n) → SiteDone y p → SiteDone (site node disk) p) v n o.after o.disk (λ is h. h) (λ k ne is h. absurd (ne is)) n refl in
    let more : Up_to K L = λ k p. put_all (λ j node disk. K j p → SiteDone (site node disk) p) v n o.after o.disk (w.done p) (λ j ne h. h) k in
    subst (λ (z : Nodes). Settled c N (record u { nodes = z })) (sym pass.nodes) (record {
      closed = pass.closed;
      holds = put_all (λ k node disk. NodeHolds N node) v n o.after o.disk after.holds (λ k ne. node_holds_stay M N (v.node k) grows (b.holds k));
      apart = put_all (λ k node disk. NodeApart node) v n o.after o.disk after.apart (λ k ne. b.apart k);
      joins = put_all (λ k node disk. NodeJoins c N u.moments k node) v n o.after o.disk after.joins (λ k ne. node_same c M N t.moments u.moments k (v.node k) grows (w.others k ne) (b.joins k));
      ready = put_all (λ k node disk. NodeReady L node) v n o.after o.disk (node_up K L more o.after after.ready) (λ k ne. node_up K L more (v.node k) (b.ready k));
      covers = letters_cover M N n o.given v.sent grows (subst (λ Z. AllByRecursion (OutputCovers Z) o.given) same w.covers) b.covers;
      tells = letters_tell L n y o.given v.sent own w.says (letters_up K L more v.sent b.tells);
      deeds_so = subst (λ z. AllByRecursion (DeedDone L) z) (sym pass.deeds) (deeds_done K L n y ds more own w.deeds);
    })
