-- In the event of a Collect a node that promises its number sends its Promise, where a packet number is left.
use Rattle.std.specs.Prelude.{ℕ, ◌++◌, ◌^◌, ◌&&◌, ◌≡◌, ◌⊎◌, nat_le, nat_lt, Bool, true, false, List, [], ◌∷◌, None, Option, Some, length, if◌then◌else◌}
use Rattle.std.specs.List.{AllByRecursion}
use Rattle.std.proofs.Common.{refl, sym, subst, ◌∙◌, inl, inr}
use Rattle.attempt_laws.proofs.Walk.{if_with}
use Rattle.ccr_commit.specs.Entries.{EntryList, texts_of}
use Rattle.cl_base.specs.declared.header.Header.{Header}
use Rattle.cl_base.specs.declared.method.Outcome as method
use Rattle.cmm_attempt.proofs.Basics.{false_true}
use Rattle.cmm_attempt.specs.Attempts.{AttemptState}
use Rattle.cmm_member.specs.Records.{NodeRecord}
use Rattle.history.specs.Queue.{shown_valid}
use Rattle.node_model.specs.Attempts.{promise_of}
use Rattle.node_model.specs.Members.{hearing, is_foreign, promised_so, rested_by}
use Rattle.node_model.specs.Seats.{is_in, promised_of, promising, record_of, session_of}
use Rattle.node_model.specs.Steps.{at_second}
use Rattle.node_model.specs.declared.cluster.Cluster.{Cluster}
use Rattle.node_model.specs.declared.node.Node.{Node}
use Rattle.node_model.specs.declared.node.Node.TheVariants.{Down, Up}
use Rattle.node_model.specs.declared.node.UpNode.{UpNode}
use Rattle.node_model.specs.declared.output.Output.TheVariants.{Sends}
use Rattle.refinement.specs.Courses.{Course, Reply, under}
use Rattle.refinement.specs.Courses.Course.{Acts, Keeps, Stops}
use Rattle.refinement.specs.Courses.Reply.{Done, Lost_new, Lost_old}
use Rattle.refinement.specs.Cuts as cuts
use Rattle.refinement.specs.Cuts.{doings}
use Rattle.node_model.specs.declared.input.Input.TheVariants as input
use Rattle.run_history.proofs.Walk.{passing_append}
use Rattle.refinement.specs.Doings.{Doing, Site, effect, given_all, gives, site}
use Rattle.refinement.specs.Doings.Act.{Dates, Hears, Writes}
use Rattle.refinement.specs.Doings.Change.{Promises}
use Rattle.refinement.specs.Doings.Doing.{Does, Saves}
use Rattle.refinement.specs.Guards.{MayAll}
use Rattle.refinement.specs.Runs.{Letter, letters_of}
use Rattle.refinement.specs.Ties.{Delivered}
use Rattle.refinement.specs.Worlds.{AllFit}
use Rattle.run_downs.proofs.Packets.{IsNoPacket}
use Rattle.run_history.specs.Guards.{Hand, hand_after}
use Rattle.run_history.specs.Scenes.{Scene, passing, posting}
use Rattle.run_packets.proofs.replies.Promising.{promise_short}
use Rattle.run_packets.specs.prepares.Proposals.{IsShort}
use Rattle.run_packets.specs.fits.Known.{IfUp}
use Rattle.run_packets.specs.fits.Rooms.{HasRoom}
use Rattle.run_seizings.proofs.Asked.{AllMay}
use Rattle.wire.specs.Spelling.{spelling}
use Rattle.wire.specs.declared.message.Body.{Body}
use Rattle.wire.specs.declared.message.Body.TheVariants as body
use Rattle.wire.specs.declared.message.Message.{Message}
use Rattle.world_model.specs.Sends.{is_sent}
use Rattle.run_outcomes.specs.tasks.Shown.{HasShown}
use Rattle.run_outcomes.proofs.shown.Last.{LastSo, NodeLast, UpLast, promise_posted}
use Rattle.run_outcomes.proofs.shown.LastWalk.{LastAll, Parts, all_last, parts_of, then_last}
use Rattle.run_outcomes.proofs.shown.Letters.{one}

-- a packet number is left
abbrev pub IsLeft : Scene → Type 0
IsLeft s = nat_lt s.links.next (2 ^ 63) ≡ true

both_true : (a b : Bool) → a ≡ true → b ≡ true → (a && b) ≡ true
both_true true b h k = k
both_true false b h k = absurd (false_true h)

-- ---- the Promise

rested_entries : (y : UpNode) (o : Option AttemptState) → (record_of (rested_by y o)).entries ≡ (record_of y).entries
rested_entries y None = refl
rested_entries y (Some a) = refl

rested_session : (x : UpNode) (p : ℕ) (o : Option AttemptState) → session_of (rested_by (promising x p) o) ≡ p
rested_session x p None = refl
rested_session x p (Some a) = refl

-- what is so of a course from here, however its saves come out
abbrev Ends : Header → List Letter → Cluster → ℕ → Delivered → Hand → UpNode → NodeRecord → Scene → List Reply → Course → Type 0
Ends h L c n told g x disk t replies k =
    MayAll c n told (site (Up x) disk) (under replies k) → AllMay h c n told g (site (Up x) disk) (under replies k) → AllFit n (given_all c n (site (Up x) disk) (under replies k))
    → AllByRecursion IsNoPacket (given_all c n (site (Up x) disk) (under replies k)) → IsLeft (passing n (given_all c n (site (Up x) disk) (under replies k)) t) → UpLast L n t.moments x
    → LastAll L c n (site (Up x) disk) (under replies k) t

calm_ends : (h : Header) (L : List Letter) (c : Cluster) (n : ℕ) (told : Delivered) (g : Hand) (x : UpNode) (disk : NodeRecord) (t : Scene) (replies : List Reply) (to : ℕ) (b : Body) → Ends h L c n told g x disk t replies (cuts.writing to b)
calm_ends h L c n told g x disk t replies to b may at fits none left last = all_last h L c n told g (site (Up x) disk) (under replies (cuts.writing to b)) t may at (tt, tt) fits none last

-- the Promise is sent
paid : (M : List Letter) (n from p : ℕ) (y : UpNode) (t : Scene) → session_of y ≡ p → AllFit n (Sends from (promise_of y p) ∷ []) → IsShort n (promise_of y p) → IsLeft (passing n (Sends from (promise_of y p) ∷ []) t)
    → UpLast (one n (promise_of y p) ∷ M) n (passing n (Sends from (promise_of y p) ∷ []) t).moments y
paid M n from p y t session fits short left = λ some other. by_side (promise_posted n from b t fits.1 refl)
  where
    b : Body
    b = promise_of y p

    given : HasShown (one n b ∷ M) n (session_of y) (record_of y).valid
    given = subst (λ e. HasShown (one n b ∷ M) n e (record_of y).valid) (sym session) (record { newest = _; members = _; flagged = _; committed = _; pending = _; among = inl (refl, refl) })

    by_side : (shown_valid n (posting n from (record { sender = n; body = b }) t).moments ≡ (record_of y).valid) ⊎ (posting n from (record { sender = n; body = b }) t ≡ t) × (is_sent t.links (record { sender = n; body = b }) ≡ false)
        → LastSo (one n b ∷ M) n (session_of y) (posting n from (record { sender = n; body = b }) t).moments
    by_side (inl posted) = record { valid = (record_of y).valid; shown = given; last = posted }
    by_side (inr still) =
        absurd (false_true (sym still.1 ∙ both_true (nat_le (length (spelling (record { sender = n; body = b }))) 131072) (nat_lt t.links.next (2 ^ 63)) short (subst (λ (z : Scene). nat_lt z.links.next (2 ^ 63) ≡ true) still.0 left)))

promise_ends : (h : Header) (L : List Letter) (c : Cluster) (n : ℕ) (told : Delivered) (g : Hand) (x : UpNode) (disk : NodeRecord) (t : Scene) (replies : List Reply) (from p : ℕ) → HasRoom c.nodes c.devices (texts_of (record_of x).entries)
    → Ends h L c n told g x disk t replies (Keeps (Promises p) (cuts.writing from (promise_of (promised_so x p) p)))
promise_ends h L c n told g x disk t [] from p room may at fits none left last = tt
promise_ends h L c n told g x disk t (Lost_new why ∷ replies) from p room may at fits none left last = tt
promise_ends h L c n told g x disk t (Lost_old why ∷ replies) from p room may at fits none left last = tt
promise_ends h L c n told g x disk t (Done ∷ replies) from p room may at fits none left last =
    let y : UpNode = promised_so x p in
    let b : Body = promise_of y p in
    let z : Site = site (Up x) disk in
    let first : Doing = Saves (Promises p) in
    let next_one : Doing = Does (Writes from b) in
    let w : Site = effect c n z first in
    let M : List Letter = letters_of n (gives c n z first) ++ L in
    let u : Scene = passing n (gives c n z first) t in
    let parts : Parts c n z first (next_one ∷ []) = parts_of c n z first (next_one ∷ []) fits none in
    let room_too : HasRoom c.nodes c.devices (texts_of (record_of y).entries) = subst (λ (e : EntryList). HasRoom c.nodes c.devices (texts_of e)) (sym (rested_entries (promising x p) x.attempt)) room in
    then_last L c n z first (next_one ∷ []) t
    (then_last M c n w next_one [] u
    (paid M n from p y u (rested_session x p x.attempt) parts.rest_fits (promise_short c.nodes c.devices n p (record_of y) _ room_too)
    (subst IsLeft (passing_append n (gives c n z first) (given_all c n w (next_one ∷ [])) t) left)))

-- ---- a Collect

collect_ends : (h : Header) (L : List Letter) (c : Cluster) (n : ℕ) (told : Delivered) (g : Hand) (x : UpNode) (disk : NodeRecord) (t : Scene) (replies : List Reply) (from p : ℕ) → HasRoom c.nodes c.devices (texts_of (record_of x).entries)
    → Ends h L c n told g x disk t replies (cuts.collect_course x from p)
collect_ends h L c n told g x disk t replies from p room =
    let P : Course → Type 0 = Ends h L c n told g x disk t replies in
    let new : Bool = nat_lt (promised_of x) p in
    let own : Bool = is_in x p in
    if_with P new new (Keeps (Promises p) (cuts.writing from (promise_of (promised_so x p) p))) (if own then cuts.writing from (promise_of x p) else cuts.writing from (body.Nack p (promised_of x))) refl
    (λ is. promise_ends h L c n told g x disk t replies from p room)
    (λ is. if_with P own own (cuts.writing from (promise_of x p)) (cuts.writing from (body.Nack p (promised_of x))) refl
    (λ k. calm_ends h L c n told g x disk t replies from (promise_of x p)) (λ k. calm_ends h L c n told g x disk t replies from (body.Nack p (promised_of x))))

heard_ends : (h : Header) (L : List Letter) (c : Cluster) (n : ℕ) (told : Delivered) (g : Hand) (x : UpNode) (disk : NodeRecord) (t : Scene) (replies : List Reply) (ends : method.Outcome) (from : ℕ) (m : Message) (p members : ℕ)
    → HasRoom c.nodes c.devices (texts_of (record_of x).entries)
    → Ends h L c n told g x disk t replies (Acts (Hears from (body.Collect p members)) (cuts.body_course c n ends (hearing x from (body.Collect p members)) from m (body.Collect p members)))
heard_ends h L c n told g x disk t replies ends from m p members room may at fits none left last =
    let b : Body = body.Collect p members in
    let z : Site = site (Up x) disk in
    let d : Doing = Does (Hears from b) in
    let ds : List Doing = under replies (cuts.collect_course (hearing x from b) from p) in
    then_last L c n z d ds t (collect_ends h L c n told (hand_after g d) (hearing x from b) disk t replies from p room may.1 at.1 fits none left last)

packet_ends : (h : Header) (L : List Letter) (c : Cluster) (n : ℕ) (told : Delivered) (g : Hand) (x : UpNode) (disk : NodeRecord) (t : Scene) (replies : List Reply) (ends : method.Outcome) (from : ℕ) (m : Message) (p members : ℕ)
    → m.body ≡ body.Collect p members → HasRoom c.nodes c.devices (texts_of (record_of x).entries) → Ends h L c n told g x disk t replies (cuts.packet_course c n ends x from m)
packet_ends h L c n told g x disk t replies ends from m p members is room =
    subst (λ b. Ends h L c n told g x disk t replies (if is_foreign c n x b then Stops else Acts (Hears from b) (cuts.body_course c n ends (hearing x from b) from m b))) (sym is)
    (if_with (Ends h L c n told g x disk t replies) (is_foreign c n x (body.Collect p members)) (is_foreign c n x (body.Collect p members)) Stops
    (Acts (Hears from (body.Collect p members)) (cuts.body_course c n ends (hearing x from (body.Collect p members)) from m (body.Collect p members))) refl
    (λ k. stops) (λ k. heard_ends h L c n told g x disk t replies ends from m p members room))
  where
    stops : Ends h L c n told g x disk t replies Stops
    stops may at fits none left last = last

pub collect_last : (h : Header) (L : List Letter) (c : Cluster) (n now : ℕ) (ends : method.Outcome) (node : Node) (disk : NodeRecord) (t : Scene) (replies : List Reply) (from : ℕ) (m : Message) (p members : ℕ)
    → m.body ≡ body.Collect p members → IfUp (λ x. HasRoom c.nodes c.devices (texts_of (record_of x).entries)) node
    → MayAll c n (Some (from, m)) (site node disk) (doings c n now ends replies (input.Packet from m) node) → AllMay h c n (Some (from, m)) None (site node disk) (doings c n now ends replies (input.Packet from m) node)
    → AllFit n (given_all c n (site node disk) (doings c n now ends replies (input.Packet from m) node)) → AllByRecursion IsNoPacket (given_all c n (site node disk) (doings c n now ends replies (input.Packet from m) node))
    → IsLeft (passing n (given_all c n (site node disk) (doings c n now ends replies (input.Packet from m) node)) t) → NodeLast L n t.moments node
    → LastAll L c n (site node disk) (doings c n now ends replies (input.Packet from m) node) t
collect_last h L c n now ends Down disk t replies from m p members is room may at fits none left last = tt
collect_last h L c n now ends (Up x) disk t replies from m p members is room may at fits none left last =
    let y : UpNode = at_second now x in
    let d : Doing = Does (Dates now) in
    then_last L c n (site (Up x) disk) d (under replies (cuts.packet_course c n ends y from m)) t
    (packet_ends h L c n (Some (from, m)) None y disk t replies ends from m p members is room may.1 at.1 fits none left last)
