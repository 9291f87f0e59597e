-- The lines of each change, one after another, with what stands between those before its save and those after it.
use Rattle.std.specs.Prelude.{ℕ, ◌≡◌, ◌==◌, ◌<◌, ◌+◌, ◌++◌, ◌&&◌, Bool, true, false, List, [], ◌∷◌, length, Some, if◌then◌else◌}
use Rattle.std.specs.List.{list_any}
use Rattle.std.proofs.Common.{refl, sym, ap, subst, ◌∙◌, arith}
use Rattle.std.proofs.lemmas.List.{append_assoc}
use Rattle.attempt_laws.specs.Machine.{is_member}
use Rattle.ccr_commit.specs.Entries.{all_committed, texts_of}
use Rattle.attempt_laws.proofs.Stays.{plan_stays}
use Rattle.cmm_attempt.specs.Attempts.{AttemptState, beginning}
use Rattle.cmm_attempt.specs.Calls.{Call, turn}
use Rattle.cmm_attempt.specs.Seizings.{held_set}
use Rattle.cmm_member.specs.Nodes.{NodeState}
use Rattle.cmm_member.specs.Records.{NodeRecord}
use Rattle.machine_base.specs.Epochs as machine
use Rattle.machine_base.proofs.Puts.{put_here}
use Rattle.membership_machine.specs.Events.{Begin, Run, Start, after}
use Rattle.membership_machine.specs.Growth.{Grows}
use Rattle.membership_machine.specs.State.{Epoch, Memberships}
use Rattle.membership_machine.specs.Steps as step
use Rattle.status_report.specs.declared.attempt_entry.AttemptEntry.TheVariants as attempt_entry
use Rattle.status_report.specs.declared.entry.Entry.{Entry}
use Rattle.status_report.specs.declared.entry.Entry.TheVariants as entry
use Rattle.status_report.specs.declared.update_entry.UpdateEntry.TheVariants as update_entry
use Rattle.status_report.specs.declared.node_entry.NodeEntry.TheVariants as note
use Rattle.status_report.specs.declared.start_entry.StartEntry.TheVariants as start_entry
use Rattle.history.specs.Contact.{IsInstalled, IsReady, IsTold, is_proposal}
use Rattle.history.specs.Letters.{arrived, letter_of}
use Rattle.history.specs.Member.{attempt_of}
use Rattle.history.specs.Moment.{Moment, Told}
use Rattle.history.specs.Seizing.{is_attempt}
use Rattle.history.specs.Setting.{coordinator}
use Rattle.history.specs.Starts.{is_started, members_in, start_of}
use Rattle.history.specs.Trace.{ack, attempt, installed, member, start}
use Rattle.node_model.specs.Attempts.{base_lines, own_promise, started_entry, starting_as}
use Rattle.node_model.specs.declared.presidency.Presidency.{Presidency}
use Rattle.node_model.specs.declared.seat.Seat.TheVariants.{Forming}
use Rattle.node_model.specs.Entries.{unknown_lines}
use Rattle.node_model.specs.Seats.{promising, record_of}
use Rattle.node_model.specs.declared.cluster.Cluster.{Cluster}
use Rattle.node_model.specs.declared.node.Node.TheVariants.{Up}
use Rattle.node_model.specs.declared.node.UpNode.{UpNode}
use Rattle.node_model.specs.declared.output.Output.{Output}
use Rattle.node_model.specs.declared.output.Output.TheVariants.{Tells}
use Rattle.refinement.specs.Doings.{Change, Site, adopted_by, changed, first_lines, last_lines, of_node, site, superseded_lines}
use Rattle.refinement.specs.Doings.Change.{Acks, Admits, Commits, Counts, Distrusts, Installs, Leads, Prepares, Promises, Proposes, Sits, Starts}
use Rattle.refinement.specs.Events.{of_change}
use Rattle.refinement.specs.Guards.{MayChange}
use Rattle.refinement.specs.Runs.{Nodes}
use Rattle.refinement.specs.Ties.{Coordinates, Delivered, SeatTied, setting_of}
use Rattle.refinement.proofs.Attempts.{may_be_called}
use Rattle.run_history.specs.Scenes.{Scene, passing, telling}
use Rattle.run_history.specs.Noted.{AttemptNoted, Laws, Notes}
use Rattle.run_history.proofs.ContactCalm.{Quiet, more_laws, quiet_ack, quiet_installed, quiet_member}
use Rattle.run_history.proofs.Changes.{At, IsNoBeginning, LineTold, acks_line, at_attempt, forming_attempt, install_after, installed_line, noted_of, own_install, sits_line, untried, up_after}
use Rattle.run_history.proofs.Heard.{and_both, begun_noted, is_same, own_of, start_ready}
use Rattle.run_history.proofs.Ups.{up_forming}
use Rattle.run_history.proofs.ContactLines.{AllCalm, adopted_calm, bases_calm, calm_append, calm_can, superseded_calm, unknown_calm}
use Rattle.run_history.proofs.ContactStays.{install_stays, or_left}
use Rattle.run_history.proofs.Walk.{Walks, attempt_walks, calm_walks, line_walks, outputs_walk, passing_append, start_walks, walks_at, walks_grow}

-- the node with its disk, once the change is saved
abbrev pub site_after : Cluster → ℕ → UpNode → Change → Site
site_after c n x ch = site (Up (changed c n x ch)) (record_of (changed c n x ch))

-- what holds once these lines are told
abbrev pub ChangeWalks : Cluster → ℕ → Delivered → Nodes → Nodes → Memberships → UpNode → Change → Scene → List Output → Type 0
ChangeWalks c n told v w N x ch s os = Walks n told v w N (site_after c n x ch) (passing n os s)

notes_after : (c : Cluster) (M : Memberships) (n : ℕ) (told : Delivered) (v w : Nodes) (N : Memberships) (disk : NodeRecord) (x : UpNode) (ch : Change) (s : Scene) → At c M n told disk x → IsNoBeginning ch
    → MayChange c n told x ch → LineTold s.moments ch → Walks n told v w N (site (Up x) disk) s → Notes s.moments n (site_after c n x ch)
notes_after c M n told v w N disk x ch s at is may line h = record {
  installed = install_after c M n told disk x ch s.moments at may h.hand h.here.installed;
  up = up_after c M n told disk x ch s.moments at is may line h.hand h.here.up;
}

-- ---- lines of no attempt, start, install, member or acknowledgement

-- changes with no line that they need
abbrev pub IsPlain : Change → Type 0
IsPlain (Leads p members) = ⊥
IsPlain (Starts a k s) = ⊥
IsPlain (Proposes s p text) = ⊥
IsPlain _ = Unit {0}

plain_so : (ch : Change) (ms : List Moment) → IsPlain ch → IsNoBeginning ch × LineTold ms ch
plain_so (Promises p) ms is = (tt, tt)
plain_so (Leads p members) ms is = absurd is
plain_so (Counts a k t i) ms is = (tt, tt)
plain_so (Installs t i) ms is = (tt, tt)
plain_so (Starts a k t) ms is = absurd is
plain_so (Sits t e) ms is = (tt, tt)
plain_so (Distrusts d) ms is = (tt, tt)
plain_so (Admits on command a d) ms is = (tt, tt)
plain_so (Proposes t p text) ms is = absurd is
plain_so (Acks t p q left text) ms is = (tt, tt)
plain_so (Prepares t text) ms is = (tt, tt)
plain_so (Commits t) ms is = (tt, tt)

plain_lines : (c : Cluster) (M : Memberships) (n : ℕ) (told : Delivered) (v w : Nodes) (N : Memberships) (disk : NodeRecord) (x : UpNode) (ch : Change) (s : Scene) (os : List Output) → At c M n told disk x → IsPlain ch
    → MayChange c n told x ch → Grows M N → AllCalm os → Walks n told v w M (site (Up x) disk) s → ChangeWalks c n told v w N x ch s os
plain_lines c M n told v w N disk x ch s os at is may g calm h =
    let t : Scene = passing n os s in
    let k : Walks n told v w N (site (Up x) disk) t =
    outputs_walk n told v w N (site (Up x) disk) os s (calm_can s.moments n os calm) (walks_grow n told v w M N (site (Up x) disk) s g h) in
    let so : IsNoBeginning ch × LineTold t.moments ch = plain_so ch t.moments is in
    walks_at n told v w N (site (Up x) disk) (site_after c n x ch) t (notes_after c M n told v w N disk x ch t at so.0 may so.1 k) k

around : (first middle last : List Output) → AllCalm first → AllCalm middle → AllCalm last → AllCalm (first ++ (middle ++ last))
around first middle last f m l = calm_append first (middle ++ last) f (calm_append middle last m l)

-- what stands between, and then the rest
after_middle : (n : ℕ) (told : Delivered) (v w : Nodes) (N : Memberships) (y : Site) (s : Scene) (middle rest : List Output) → Walks n told v w N y (passing n rest (passing n middle s)) → Walks n told v w N y (passing n (middle ++ rest) s)
after_middle n told v w N y s middle rest h = subst (λ t. Walks n told v w N y t) (sym (passing_append n middle rest s)) h

-- ---- one line that needs something, after the save

special_line : (c : Cluster) (M : Memberships) (n : ℕ) (told : Delivered) (v w : Nodes) (N : Memberships) (disk : NodeRecord) (x : UpNode) (ch : Change) (s : Scene) (middle : List Output) (e : Entry) → At c M n told disk x → IsPlain ch
    → MayChange c n told x ch → Grows M N → AllCalm middle → ((ms : List Moment) → Quiet ms (Told e)) → ((ms : List Moment) (p : ℕ) → letter_of p (Told e ∷ ms) ≡ letter_of p ms) → ((ms : List Moment) → arrived (Told e ∷ ms) ≡ arrived ms)
    → (Walks n told v w M (site (Up x) disk) (passing n middle s) → Laws (Told e ∷ (passing n middle s).moments))
    → Walks n told v w M (site (Up x) disk) s → ChangeWalks c n told v w N x ch s (middle ++ Tells e ∷ [])
special_line c M n told v w N disk x ch s middle e at is may g calm quiet letters here laws h =
    let t : Scene = passing n middle s in
    let k : Walks n told v w M (site (Up x) disk) t = outputs_walk n told v w M (site (Up x) disk) middle s (calm_can s.moments n middle calm) h in
    let u : Scene = telling e t in
    let l : Walks n told v w N (site (Up x) disk) u =
    walks_grow n told v w M N (site (Up x) disk) u g (line_walks n told v w M (site (Up x) disk) t e (quiet t.moments) (letters t.moments) (here t.moments) (laws k) k) in
    let so : IsNoBeginning ch × LineTold u.moments ch = plain_so ch u.moments is in
    after_middle n told v w N (site_after c n x ch) s middle (Tells e ∷ [])
    (walks_at n told v w N (site (Up x) disk) (site_after c n x ch) u (notes_after c M n told v w N disk x ch u at so.0 may so.1 l) l)

install_lines : (c : Cluster) (M : Memberships) (n e : ℕ) (told : Delivered) (v w : Nodes) (N : Memberships) (disk : NodeRecord) (x : UpNode) (ch : Change) (s : Scene) (middle : List Output) → At c M n told disk x → IsPlain ch
    → MayChange c n told x ch → Grows M N → AllCalm middle → (Walks n told v w M (site (Up x) disk) (passing n middle s) → IsInstalled (passing n middle s).moments (installed n e))
    → Walks n told v w M (site (Up x) disk) s → ChangeWalks c n told v w N x ch s (middle ++ of_node n (note.Installed e) ∷ [])
install_lines c M n e told v w N disk x ch s middle at is may g calm line h =
    special_line c M n told v w N disk x ch s middle (entry.Node n (note.Installed e)) at is may g calm (λ ms. quiet_installed ms n e) (λ ms p. refl) (λ ms. refl)
    (λ k. more_laws (passing n middle s).moments (installed n e) k.laws tt tt (line k) tt tt) h

-- ---- a start

not_true : (b : Bool) → (b ≡ true → ⊥) → b ≡ false
not_true true h = absurd (h refl)
not_true false h = refl

start_new : (c : Cluster) (M : Memberships) (n : ℕ) (told : Delivered) (disk : NodeRecord) (x : UpNode) (a : AttemptState) (k : Call) (s : NodeState) → At c M n told disk x → MayChange c n told x (Starts a k s)
    → (M.epoch (turn a k).after.plan.epoch).started ≡ true → ⊥
start_new c M n told disk x a k s at may started =
    let tied : SeatTied c M n disk (Some a) (Forming s) = forming_attempt c M n told disk x a s at may.0 may.1 in
    let co : Coordinates c M n s a = tied.2 in
    let epoch : (turn a k).after.plan.epoch ≡ a.plan.epoch = ap (λ p. p.epoch) (plan_stays a k (may_be_called c told a k may.2)) in
    let session : (M.node n).session ≡ a.plan.epoch = tied.0.session ∙ sym co.epoch in
    let own : machine.coordinator (M.node n).session ≡ n = ap machine.coordinator session ∙ (sym co.has.coordinator ∙ co.coordinator) in
    let low : 0 < (M.node n).session = subst (λ z. 0 < z) (sym session) ((at.holds.epoch a.plan.epoch).tried_positive co.has.tried) in
    true_false (sym ((at.holds.leads n).sits low own (subst (λ z. (M.epoch z).started ≡ true) (epoch ∙ sym session) started)) ∙ tied.0.member)
  where
    true_false : true ≡ false → ⊥
    true_false h = cc

started_by : (M N : Memberships) (q : ℕ) → N ≡ after M (Start q) → (N.epoch q).started ≡ true
started_by M N q is = ap (λ (L : Memberships). (L.epoch q).started) is ∙ ap (λ (e : Epoch). e.started) (put_here M.epoch q (step.starting (M.epoch q)))

same_of : (a b : ℕ) → a ≡ b → (a == b) ≡ true
same_of a b h = grind arith

-- the line of the start, and then what it adopts, as the node is then
start_lines_walk : (c : Cluster) (M : Memberships) (n : ℕ) (told : Delivered) (v w : Nodes) (N : Memberships) (disk : NodeRecord) (x : UpNode) (a : AttemptState) (k : Call) (q : NodeState) (s : Scene) (middle : List Output)
    (held count : ℕ) (more : List Output) → At c M n told disk x → MayChange c n told x (Starts a k q) → Grows M N → Run (setting_of c) M (of_change n (Starts a k q)) N → AllCalm middle → AllCalm more
    → Walks n told v w M (site (Up x) disk) s
    → ChangeWalks c n told v w N x (Starts a k q) s
    (middle ++ Tells (entry.Start (start_entry.Started (turn a k).after.plan.epoch (turn a k).after.plan.members held count)) ∷ (more ++ of_node n (note.Member (turn a k).after.plan.epoch) ∷ []))
start_lines_walk c M n told v w N disk x a k q s middle held count more at may g run calm last h =
    let p : AttemptState = (turn a k).after in
    let e : ℕ = p.plan.epoch in
    let t : Scene = passing n middle s in
    let l : Walks n told v w M (site (Up x) disk) t = outputs_walk n told v w M (site (Up x) disk) middle s (calm_can s.moments n middle calm) h in
    let new : is_started e t.moments ≡ false = not_true _ (λ old. start_new c M n told disk x a k q at may (l.started e old)) in
    let ready : IsReady t.moments (start e p.plan.members held count) =
    at_attempt c M n told disk x a (IsReady t.moments (start e p.plan.members held count)) at may.0
    (λ z shows co. start_ready c t.moments n M z told a k held count at.holds shows at.known l.hand co may.2 may.3 (noted_of t.moments n x.attempt a may.0 l.here.up.attempt)) in
    let u : Scene = telling (entry.Start (start_entry.Started e p.plan.members held count)) t in
    let j : Walks n told v w N (site (Up x) disk) u =
    start_walks n told v w N (site (Up x) disk) t e p.plan.members held count new (started_by M N e run.1) ready (walks_grow n told v w M N (site (Up x) disk) t g l) in
    let here : is_started e u.moments ≡ true = or_left (e == e) (is_started e t.moments) (is_same e) in
    let first : members_in (start_of e u.moments) ≡ p.plan.members = ap (λ (b : Bool). members_in (if b then Some (record { epoch = e; members = p.plan.members; held = held; count = count }) else start_of e t.moments)) (is_same e) in
    let y : Site = site_after c n x (Starts a k q) in
    let y_walks : Walks n told v w N y u = walks_at n told v w N (site (Up x) disk) y u (notes_after c M n told v w N disk x (Starts a k q) u at tt may (here, first) j) j in
    let z : Scene = passing n more u in
    let m : Walks n told v w N y z = outputs_walk n told v w N y more u (calm_can u.moments n more last) y_walks in
    let tied : SeatTied c M n disk (Some a) (Forming q) = forming_attempt c M n told disk x a q at may.0 may.1 in
    let epoch : e ≡ q.session = ap (λ r. r.epoch) (plan_stays a k (may_be_called c told a k may.2)) ∙ tied.2.epoch in
    let own : coordinator e ≡ n = ap coordinator (ap (λ r. r.epoch) (plan_stays a k (may_be_called c told a k may.2))) ∙ own_of c M n q a tied.2 in
    let joins : IsTold z.moments (member n e) = (subst (λ i. is_started i z.moments ≡ true) (sym epoch) (m.here.up.member refl), or_left (n == coordinator e) _ (same_of n (coordinator e) (sym own))) in
    after_middle n told v w N y s middle (Tells (entry.Start (start_entry.Started e p.plan.members held count)) ∷ (more ++ of_node n (note.Member e) ∷ []))
    (after_middle n told v w N y u more (of_node n (note.Member e) ∷ [])
    (line_walks n told v w N y z (entry.Node n (note.Member e)) (quiet_member z.moments n e) (λ i. refl) refl (more_laws z.moments (member n e) m.laws tt tt tt joins tt) m))

-- ---- a proposal: its line stands before the save

propose_lines : (c : Cluster) (M : Memberships) (n : ℕ) (told : Delivered) (v w : Nodes) (N : Memberships) (disk : NodeRecord) (x : UpNode) (q : NodeState) (p : Presidency) (text : List ℕ) (s : Scene) (middle : List Output)
    → At c M n told disk x → MayChange c n told x (Proposes q p text) → Grows M N → AllCalm middle → Walks n told v w M (site (Up x) disk) s
    → ChangeWalks c n told v w N x (Proposes q p text) s (first_lines n (Proposes q p text) ++ (middle ++ []))
propose_lines c M n told v w N disk x q p text s middle at may g calm h =
    let place : ℕ = length (texts_of q.saved.entries) + 1 in
    let u : Scene = telling (entry.Update (update_entry.Proposed q.session place text)) s in
    let k : Walks n told v w N (site (Up x) disk) u =
    walks_grow n told v w M N (site (Up x) disk) u g (calm_walks n told v w M (site (Up x) disk) s (entry.Update (update_entry.Proposed q.session place text)) tt h) in
    let line : list_any (is_proposal q.session place) u.moments ≡ true =
    or_left ((q.session == q.session) && (place == place)) (list_any (is_proposal q.session place) s.moments) (and_both (q.session == q.session) (place == place) (is_same q.session) (is_same place)) in
    let y : Site = site_after c n x (Proposes q p text) in
    outputs_walk n told v w N y (middle ++ []) u (calm_can u.moments n (middle ++ []) (calm_append middle [] calm tt))
    (walks_at n told v w N (site (Up x) disk) y u (notes_after c M n told v w N disk x (Proposes q p text) u at tt may line k) k)

-- ---- an attempt begins

no_truth : false ≡ true → ⊥
no_truth e = cc

machine_own : (p n : ℕ) → coordinator p ≡ n → machine.coordinator p ≡ n
unfolding machine.coordinator
machine_own p n h = h

begun_tried : (M N : Memberships) (p : ℕ) (members : ℕ → Bool) → N ≡ after M (Begin p members) → (N.epoch p).tried ≡ true
begun_tried M N p members is = ap (λ (L : Memberships). (L.epoch p).tried) is ∙ ap (λ (e : Epoch). e.tried) (put_here M.epoch p (step.beginning (M.epoch p) members))

-- the attempt that begins
abbrev changed_attempt : Cluster → ℕ → UpNode → ℕ → ℕ → AttemptState
changed_attempt c n x p members = (beginning p members (own_promise n (record (promising x p) { greatest = p }) p) c.attached c.id).after

lead_lines : (c : Cluster) (M : Memberships) (n : ℕ) (told : Delivered) (v w : Nodes) (N : Memberships) (disk : NodeRecord) (x : UpNode) (p members : ℕ) (s : Scene) (middle : List Output) → At c M n told disk x
    → MayChange c n told x (Leads p members) → Grows M N → Run (setting_of c) M (of_change n (Leads p members)) N → AllCalm middle → Walks n told v w M (site (Up x) disk) s
    → ChangeWalks c n told v w N x (Leads p members) s (middle ++ Tells (entry.Attempt (attempt_entry.Begun p members)) ∷ unknown_lines n x.requests.waiting)
lead_lines c M n told v w N disk x p members s middle at may g run calm h =
    let t : Scene = passing n middle s in
    let k : Walks n told v w M (site (Up x) disk) t = outputs_walk n told v w M (site (Up x) disk) middle s (calm_can s.moments n middle calm) h in
    let own : coordinator p ≡ n = may.1 in
    let new : list_any (is_attempt p) t.moments ≡ false = not_true _ (λ old. untried c M n told disk x p at (machine_own p n own) may.0 (k.tried p old)) in
    let y : Site = site_after c n x (Leads p members) in
    let z : UpNode = record (promising x p) { greatest = p } in
    let u : Scene = telling (entry.Attempt (attempt_entry.Begun p members)) t in
    let last : AttemptNoted u.moments n (changed_attempt c n x p members) = begun_noted t.moments n p members (own_promise n z p) c.attached c.id own in
    let notes : Notes u.moments n y = record {
      installed = install_stays t.moments n (record_of (changed c n x (Leads p members))).installed (attempt p members) (install_after c M n told disk x (Leads p members) t.moments at may k.hand k.here.installed);
      up = up_forming u.moments n (changed c n x (Leads p members)) last (λ some led. ap (λ (b : Bool). if b then Some p else attempt_of n t.moments) (same_of (coordinator p) n own)) refl;
    } in
    let l : Walks n told v w N y u =
    attempt_walks n told v w N (site (Up x) disk) y t p members own new (begun_tried M N p (is_member members) run.1) notes (walks_grow n told v w M N (site (Up x) disk) t g k) in
    after_middle n told v w N y s middle (Tells (entry.Attempt (attempt_entry.Begun p members)) ∷ unknown_lines n x.requests.waiting)
    (outputs_walk n told v w N y (unknown_lines n x.requests.waiting) u (calm_can u.moments n (unknown_lines n x.requests.waiting) (unknown_calm n x.requests.waiting)) l)

-- ---- each change

pub change_walks : (c : Cluster) (M : Memberships) (n : ℕ) (told : Delivered) (v w : Nodes) (N : Memberships) (disk : NodeRecord) (x : UpNode) (ch : Change) (s : Scene) (middle : List Output) → At c M n told disk x
    → MayChange c n told x ch → Grows M N → Run (setting_of c) M (of_change n ch) N → AllCalm middle → Walks n told v w M (site (Up x) disk) s
    → ChangeWalks c n told v w N x ch s (first_lines n ch ++ (middle ++ last_lines c n x ch))
change_walks c M n told v w N disk x (Promises p) s middle at may g run m h =
    plain_lines c M n told v w N disk x (Promises p) s (middle ++ last_lines c n x (Promises p)) at tt may g
    (calm_append middle (last_lines c n x (Promises p)) m
    (calm_append (superseded_lines p x.attempt) (unknown_lines n x.requests.waiting) (superseded_calm p x.attempt) (unknown_calm n x.requests.waiting))) h
change_walks c M n told v w N disk x (Leads p members) s middle at may g run m h = lead_lines c M n told v w N disk x p members s middle at may g run m h
change_walks c M n told v w N disk x (Counts a k t i) s middle at may g run m h =
    install_lines c M n i.epoch told v w N disk x (Counts a k t i) s middle at tt may g m
    (λ l. or_left _ _ (ap (λ q. n == q) (own_install c M n told disk x a k i at may.0 may.2 may.3) ∙ is_same n)) h
change_walks c M n told v w N disk x (Installs t i) s middle at may g run m h =
    install_lines c M n i.epoch told v w N disk x (Installs t i) s middle at tt may g m (λ l. installed_line (passing n middle s).moments n told i may.1 l.hand) h
change_walks c M n told v w N disk x (Starts a k t) s middle at may g run m h =
    let y : AttemptState = (turn a k).after in
    let bases : List Output = base_lines y.plan.epoch 0 (all_committed t.saved.entries).committed in
    let adopted : List Output = adopted_by c y (starting_as c n x y t) in
    subst (λ os. ChangeWalks c n told v w N x (Starts a k t) s (middle ++ Tells (entry.Start (started_entry y (length (all_committed t.saved.entries).committed))) ∷ os))
    (append_assoc bases adopted (of_node n (note.Member y.plan.epoch) ∷ []))
    (start_lines_walk c M n told v w N disk x a k t s middle (held_set y.devices) (length (all_committed t.saved.entries).committed) (bases ++ adopted) at may g run m
    (calm_append bases adopted (bases_calm y.plan.epoch 0 (all_committed t.saved.entries).committed) (adopted_calm c y (starting_as c n x y t))) h)
change_walks c M n told v w N disk x (Sits t e) s middle at may g run m h =
    special_line c M n told v w N disk x (Sits t e) s middle (entry.Node n (note.Member e)) at tt may g m (λ ms. quiet_member ms n e) (λ ms p. refl) (λ ms. refl)
    (λ k. more_laws (passing n middle s).moments (member n e) k.laws tt tt tt (sits_line (passing n middle s).moments n e told may.1 k.hand) tt) h
change_walks c M n told v w N disk x (Distrusts d) s middle at may g run m h =
    plain_lines c M n told v w N disk x (Distrusts d) s (middle ++ []) at tt may g (calm_append middle [] m tt) h
change_walks c M n told v w N disk x (Admits on command a d) s middle at may g run m h =
    plain_lines c M n told v w N disk x (Admits on command a d) s (first_lines n (Admits on command a d) ++ (middle ++ [])) at tt may g (around (first_lines n (Admits on command a d)) middle [] (tt, tt) m tt) h
change_walks c M n told v w N disk x (Proposes t p text) s middle at may g run m h = propose_lines c M n told v w N disk x t p text s middle at may g m h
change_walks c M n told v w N disk x (Acks t p q left text) s middle at may g run m h =
    let place : ℕ = length (texts_of t.saved.entries) in
    special_line c M n told v w N disk x (Acks t p q left text) s middle (entry.Update (update_entry.Acknowledged t.session place text)) at tt may g m (λ ms. quiet_ack ms t.session place text) (λ ms r. refl) (λ ms. refl)
    (λ k. more_laws (passing n middle s).moments (ack t.session place text) k.laws tt tt tt tt (acks_line c M n told disk x t p left q text (passing n middle s).moments at may k.here.up)) h
change_walks c M n told v w N disk x (Prepares t text) s middle at may g run m h =
    plain_lines c M n told v w N disk x (Prepares t text) s (middle ++ []) at tt may g (calm_append middle [] m tt) h
change_walks c M n told v w N disk x (Commits t) s middle at may g run m h =
    plain_lines c M n told v w N disk x (Commits t) s (middle ++ []) at tt may g (calm_append middle [] m tt) h

-- ---- what stands before a save that is lost

pub first_calm : (n : ℕ) (ch : Change) (more : List Output) → AllCalm more → AllCalm (first_lines n ch ++ more)
first_calm n (Promises p) more m = m
first_calm n (Leads p members) more m = m
first_calm n (Counts a k t i) more m = m
first_calm n (Installs t i) more m = m
first_calm n (Starts a k t) more m = m
first_calm n (Sits t e) more m = m
first_calm n (Distrusts d) more m = m
first_calm n (Admits on command a d) more m = (tt, m)
first_calm n (Proposes t p text) more m = (tt, m)
first_calm n (Acks t p q left text) more m = m
first_calm n (Prepares t text) more m = m
first_calm n (Commits t) more m = m
