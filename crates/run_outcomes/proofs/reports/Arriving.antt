-- A request to seize and an Install that come to a node are answered, or are work then.
use Rattle.std.specs.Prelude.{ℕ, ◌<◌, ◌≡◌, ◌≢◌, ◌⊎◌, ◌==◌, ◌||◌, ◌&&◌, nat_le, not, Bool, true, false, List, [], ◌∷◌, Some, filter}
use Rattle.std.proofs.Common.{refl, ap, sym, subst, ◌∙◌, inl, inr, arith}
use Rattle.std.proofs.lemmas.Bool.Decides.{nat_tests}
use Rattle.cl_base.specs.Seizings.{SeizeResult}
use Rattle.cl_base.specs.declared.header.Header.{Header}
use Rattle.cl_base.specs.declared.method.Outcome.{Outcome}
use Rattle.cl_base.specs.declared.seizing.SeizeEnd.TheVariants as seized
use Rattle.cmm_attempt.proofs.Basics.{same_some}
use Rattle.device_queue.specs.Queue.{kept_of}
use Rattle.device_queue.specs.Tasks.{is_queued}
use Rattle.history.specs.Letters.{Letter, letter_of, sends}
use Rattle.history.specs.Links.{links_after}
use Rattle.history.specs.Member.{attempt_of}
use Rattle.history.specs.Messages.{is_down_of, is_in_session, onto, replies, sends_or_falls}
use Rattle.history.specs.Moment.{Moment}
use Rattle.history.specs.Names as name
use Rattle.history.specs.Names.{Name, named}
use Rattle.history.specs.Queue as told
use Rattle.history.specs.Setting.{coordinator}
use Rattle.history.specs.Trace.{delivered}
use Rattle.history_setting.specs.Settings.{setting_of}
use Rattle.interconnect.specs.Links.{Links, Packet, packet_of}
use Rattle.node_model.specs.Members.{is_foreign, ready_of}
use Rattle.node_model.specs.declared.input.Input.TheVariants as input
use Rattle.node_model.specs.declared.node.Node.{Node}
use Rattle.node_model.specs.declared.node.Node.TheVariants.{Down, Up}
use Rattle.node_model.specs.declared.node.UpNode.{UpNode}
use Rattle.refinement.specs.Guards.{OfUp}
use Rattle.run_devices.specs.queues.Laws.{Same}
use Rattle.run_history.proofs.ContactFlying.{found_posted, number_found}
use Rattle.run_history.specs.Causes.{Caused, Posted}
use Rattle.run_history.specs.Guards.{request_as}
use Rattle.run_history.specs.Happenings.{given_by, happened, removed}
use Rattle.run_history.specs.Happenings.Happening.{Arrives}
use Rattle.run_history.specs.Scenes.{Scene, adding, telling}
use Rattle.run_packets.proofs.replies.Delivered.{letter_bytes, or_later}
use Rattle.run_packets.specs.prepares.Events.{IsLeft, IsLeftAfter}
use Rattle.run_packets.specs.prepares.Proposals.{IsShort}
use Rattle.run_packets.specs.repeats.Events.{AreSent}
use Rattle.run_packets.specs.admitted.Known.{ResultFew}
use Rattle.seize.specs.declared.kind.SeizeKind.{SeizeKind}
use Rattle.seize.specs.declared.kind.SeizeKind.TheVariants.{Plain, Vote}
use Rattle.status_report.specs.declared.entry.Entry.TheVariants as entry
use Rattle.status_report.specs.declared.packet_entry.PacketEntry.TheVariants as packet
use Rattle.wire.proofs.Lengths.{spellings}
use Rattle.wire.specs.Reads.{whole_of}
use Rattle.wire.specs.declared.message.Body.TheVariants as body
use Rattle.wire.specs.declared.message.Install.{Install}
use Rattle.wire.specs.declared.message.Message.{Message}
use Rattle.wire.specs.declared.report.Report.{Report}
use Rattle.world_model.specs.First.{first_cluster}
use Rattle.world_model.specs.Sends.{name_of}
use Rattle.run_outcomes.specs.reports.Facts.{Facts}
use Rattle.run_outcomes.specs.reports.Laws.{AsksFor, AsksSo, AsksTask, IsToOther, TaskReplies}
use Rattle.run_outcomes.proofs.reports.Asked.{IsQueuedAt, Joins, Sought, install_comes, seize_comes}
use Rattle.run_outcomes.proofs.reports.Ending.{End}
use Rattle.run_outcomes.proofs.reports.Letters.{LineOf, found_line}
use Rattle.run_outcomes.proofs.reports.Own.{in_session}
use Rattle.run_outcomes.proofs.reports.Replies.{IsInstall, IsSeize, OfSession, ended_sent, install_named, name_for, of_session, queue_then, seize_named, seized_short}
use Rattle.run_outcomes.proofs.reports.Tasks.{at_same, joins_work, kept_few}

-- a packet comes to a node that is up
pub record Arrival (h : Header) (cells : ℕ) (s t : Scene) (x : Moment) (rest : List Moment) (number : ℕ) (y : Packet) (w : UpNode) (m : Message) (now : ℕ) (ends : Outcome) : Type 0 where
  pub before : Facts h cells s
  pub after : Facts h cells t
  pub at : packet_of s.links.packets number ≡ Some y
  pub up : s.nodes.node y.to ≡ Up w
  pub reads : whole_of y.bytes ≡ Some m
  pub native : is_foreign (first_cluster h) y.to w m.body ≡ false
  pub is : happened (first_cluster h) (adding x s) (Arrives number y m now ends) ≡ t
  pub are : AreSent cells (delivered number y.from y.to ∷ x ∷ s.moments) y.to (given_by (first_cluster h) y.to now ends (input.Packet y.from m) s.nodes) rest
  pub moments : onto (x ∷ s.moments) (delivered number y.from y.to ∷ rest) ≡ t.moments
  pub left : IsLeftAfter cells (onto (x ∷ s.moments) (delivered number y.from y.to ∷ rest))

-- what its letter says
record Letters (s : Scene) (y : Packet) (m : Message) (l : Letter) : Type 0 where
  called : l.name ≡ named (name_of m.body)
  sender : l.from ≡ y.from
  other : IsToOther l.from y.to l.name
  asks : AsksFor l.before l.from m.body
  caused : Caused l.before l.from m.body

asks_of : (kind : SeizeKind) (before : List Moment) (n e members d : ℕ) → AsksFor before n (request_as kind e members d) → attempt_of n before ≡ Some e
asks_of Vote before n e members d h = h
asks_of Plain before n e members d h = h

other_of : (kind : SeizeKind) (n to d : ℕ) → IsToOther n to (name_for kind d) → to ≢ n
other_of Vote n to d h = h
other_of Plain n to d h = h

ready_name : (e joined : ℕ) (r : Report) → named (name_of (body.Ready e joined r)) ≡ name.Ready
ready_name e joined r = refl

abbrev pub no_report : Report
no_report = record { resources = []; groups = [] }

pub none_short : (n : ℕ) → IsShort n (body.Ready 0 0 no_report)
none_short n = subst (λ size. nat_le size 131072 ≡ true) (sym (spellings (record { sender = n; body = body.Ready 0 0 no_report }))) refl

some_epoch : (e : ℕ) (a : ℕ) → (nat_le 1 e && (a == e)) ≡ true → 0 < e
some_epoch e a h = grind (arith, nat_tests)

module _ (h : Header) (cells : ℕ) (s t : Scene) (x : Moment) (rest : List Moment) (number : ℕ) (y : Packet) (w : UpNode) (m : Message) (now : ℕ) (ends : Outcome) (a : Arrival h cells s t x rest number y w m now ends) where
  -- the node takes it here
  abbrev at_node : Scene
  at_node = telling (entry.Packet (packet.Delivered number y.from y.to)) (removed (adding x s) number)

  letter_says : (l : Letter) → letter_of number s.moments ≡ Some l → Letters s y m l
  letter_says l letter =
      let p : Posted s.moments s.links.next y = found_posted s.moments s.links number y a.before.known.stage.flying a.at in
      let same : p.letter ≡ l = same_some p.letter l (sym p.sent_so ∙ (ap (λ j. letter_of j s.moments) (number_found s.links number y a.at) ∙ letter)) in
      let found : LineOf AsksSo l = found_line AsksSo number s.moments l a.before.at.asks letter in
      let to : l.to ≡ y.to = ap (λ (z : Letter). z.to) (sym same) ∙ p.receiver in
      record {
        called = ap (λ (z : Letter). z.name) (sym same) ∙ (p.says m a.reads).0;
        sender = ap (λ (z : Letter). z.from) (sym same) ∙ p.sender;
        other = subst (λ k. IsToOther l.from k l.name) to (subst (λ q. IsToOther l.from l.to q) (sym found.name_so) found.line_so.0);
        asks = found.line_so.1 m (ap whole_of (letter_bytes s number y l a.before.known.bytes a.at letter) ∙ a.reads);
        caused = subst (λ (z : Letter). Caused z.before z.from m.body) same (subst (λ k. Caused p.letter.before k m.body) (sym p.sender) (p.says m a.reads).1);
      }

  left_then : IsLeft t.links.next
  left_then = subst (λ (z : Links). IsLeft z.next) (sym a.after.linked) (subst (λ ms. IsLeft (links_after cells ms).next) a.moments a.left)

  -- sent behind the delivery
  sent_behind : (l : Letter) (called : Name) → l.from ≡ y.from → sends_or_falls y.to y.from called rest ≡ true → sends_or_falls y.to l.from called (delivered number y.from y.to ∷ rest) ≡ true
  sent_behind l called sender h = or_later (sends y.to l.from called (delivered number y.from y.to) || is_down_of y.to (delivered number y.from y.to)) (sends_or_falls y.to l.from called rest)
      (subst (λ k. sends_or_falls y.to k called rest ≡ true) (sym sender) h)

  abbrev after_all : List Moment
  after_all = onto (x ∷ s.moments) (delivered number y.from y.to ∷ rest)

  abbrev Answered : Letter → Name → Bool → Type 0
  Answered l called works = (works ≡ true) ⊎ (sends_or_falls y.to l.from called (delivered number y.from y.to ∷ rest) ≡ true)

  seize_so : (l : Letter) (kind : SeizeKind) (d : ℕ) → letter_of number s.moments ≡ Some l → l.name ≡ name_for kind d → is_in_session y.to l s.moments ≡ true → Answered l (name.Seized d) (told.is_queued (setting_of h) y.to d after_all)
  seize_so l kind d letter called inside =
      let k : Letters s y m l = letter_says l letter in
      let z : IsSeize m.body kind d = seize_named kind m.body d (sym k.called ∙ called) in
      let e : ℕ = z.epoch in
      let asks : (attempt_of l.from l.before ≡ Some e) × (y.to ≢ l.from) =
      (asks_of kind l.before l.from e z.members d (subst (AsksFor l.before l.from) z.is k.asks), other_of kind l.from y.to d (subst (IsToOther l.from y.to) called k.other)) in
      let native : is_foreign (first_cluster h) y.to w (request_as kind e z.members d) ≡ false = subst (λ b. is_foreign (first_cluster h) y.to w b ≡ false) z.is a.native in
      let o : OfSession h s y.to w y.from e =
      of_session h s y.to y.from e w l (a.before.at.reading.sites y.to).up (a.before.known.seated y.to) a.up k.sender asks.0 (λ same. asks.1 (same ∙ sym k.sender)) (in_session y.to l s.moments inside) in
      let g : Sought (first_cluster h) at_node y.to y.from now e d ends m w = seize_comes (first_cluster h) at_node y.to y.from now e z.members d kind ends m w a.up z.is native o.in_e o.here in
      let ended : End (first_cluster h) y.to y.from (λ v. body.Seized e d g.result) (IsQueuedAt e d) (given_by (first_cluster h) y.to now ends (input.Packet y.from m) s.nodes) (t.nodes.node y.to) =
      subst (λ (v : Scene). End (first_cluster h) y.to y.from (λ q. body.Seized e d g.result) (IsQueuedAt e d) (given_by (first_cluster h) y.to now ends (input.Packet y.from m) s.nodes) (v.nodes.node y.to)) a.is g.ended in
      by_end e l k.sender (some_epoch e _ o.here) o.other
      (ended_sent (first_cluster h) y.to y.from (λ v. body.Seized e d g.result) (IsQueuedAt e d) (name.Seized d) (given_by (first_cluster h) y.to now ends (input.Packet y.from m) s.nodes) rest (t.nodes.node y.to)
      (λ b behind short is. subst (λ q. sends_or_falls y.to y.from q rest ≡ true) is (a.are y.from b behind short a.left))
      (body.Seized e d seized.Fault) (seized_short y.to e d seized.Fault tt) refl (λ v there. seized_short y.to e d g.result (few g.result g.kept)) (λ v. refl) ended)
    where
      few : (r : SeizeResult) → (kept_of w.tasks d ≡ Some r) ⊎ (r ≡ seized.Fault) → ResultFew r
      few r (inl kept) = kept_few d w.tasks r kept (a.before.at.few y.to w a.up)
      few r (inr fault) = subst ResultFew (sym fault) tt

      queued : (e : ℕ) (node : Node) → t.nodes.node y.to ≡ node → 0 < e → (coordinator e == y.to) ≡ false → OfUp (IsQueuedAt e d) node → told.is_queued (setting_of h) y.to d t.moments ≡ true
      queued e Down there some other so = absurd so
      queued e (Up v) there some other so =
          let same : Same (filter is_queued v.tasks) (told.queued_of (setting_of h) y.to t.moments) = queue_then h cells t y.to e v a.after left_then there some so.1 other in
          at_same d v.tasks (told.queued_of (setting_of h) y.to t.moments) same ∙ so.0

      by_end : (e : ℕ) (l : Letter) → l.from ≡ y.from → 0 < e → (coordinator e == y.to) ≡ false → (sends_or_falls y.to y.from (name.Seized d) rest ≡ true) ⊎ OfUp (IsQueuedAt e d) (t.nodes.node y.to)
          → Answered l (name.Seized d) (told.is_queued (setting_of h) y.to d after_all)
      by_end e l sender some other (inl h) = inr (sent_behind l (name.Seized d) sender h)
      by_end e l sender some other (inr so) = inl (subst (λ ms. told.is_queued (setting_of h) y.to d ms ≡ true) (sym a.moments) (queued e (t.nodes.node y.to) refl some other so))

  install_so : (l : Letter) → letter_of number s.moments ≡ Some l → l.name ≡ name.Install → is_in_session y.to l s.moments ≡ true → Answered l name.Ready (told.has_work (setting_of h) y.to after_all)
  install_so l letter called inside =
      let k : Letters s y m l = letter_says l letter in
      let z : IsInstall m.body = install_named m.body (sym k.called ∙ called) in
      let i : Install = z.install in
      let asks : (attempt_of l.from l.before ≡ Some i.epoch) × (y.to ≢ l.from) = ((subst (Caused l.before l.from) z.is k.caused).1, subst (IsToOther l.from y.to) called k.other) in
      let native : is_foreign (first_cluster h) y.to w (body.Install i) ≡ false = subst (λ b. is_foreign (first_cluster h) y.to w b ≡ false) z.is a.native in
      let o : OfSession h s y.to w y.from i.epoch =
      of_session h s y.to y.from i.epoch w l (a.before.at.reading.sites y.to).up (a.before.known.seated y.to) a.up k.sender asks.0 (λ same. asks.1 (same ∙ sym k.sender)) (in_session y.to l s.moments inside) in
      let ended : End (first_cluster h) y.to y.from (ready_of (first_cluster h)) (Joins i.epoch) (given_by (first_cluster h) y.to now ends (input.Packet y.from m) s.nodes) (t.nodes.node y.to) =
      subst (λ (v : Scene). End (first_cluster h) y.to y.from (ready_of (first_cluster h)) (Joins i.epoch) (given_by (first_cluster h) y.to now ends (input.Packet y.from m) s.nodes) (v.nodes.node y.to)) a.is
      (install_comes (first_cluster h) at_node y.to y.from now i ends m w o.seat a.up z.is native o.sits o.in_e o.here) in
      by_end i.epoch l k.sender (some_epoch i.epoch _ o.here) o.other
      (ended_sent (first_cluster h) y.to y.from (ready_of (first_cluster h)) (Joins i.epoch) name.Ready (given_by (first_cluster h) y.to now ends (input.Packet y.from m) s.nodes) rest (t.nodes.node y.to)
      (λ b behind short is. subst (λ q. sends_or_falls y.to y.from q rest ≡ true) is (a.are y.from b behind short a.left))
      (body.Ready 0 0 no_report) (none_short y.to) refl (λ v there. a.after.at.ready y.to v there) (λ v. refl) ended)
    where
      works : (e : ℕ) (node : Node) → t.nodes.node y.to ≡ node → 0 < e → (coordinator e == y.to) ≡ false → OfUp (Joins e) node → told.has_work (setting_of h) y.to t.moments ≡ true
      works e Down there some other so = absurd so
      works e (Up v) there some other so =
          joins_work v.tasks (told.queued_of (setting_of h) y.to t.moments) (queue_then h cells t y.to e v a.after left_then there some so.1 other) so.0

      by_end : (e : ℕ) (l : Letter) → l.from ≡ y.from → 0 < e → (coordinator e == y.to) ≡ false → (sends_or_falls y.to y.from name.Ready rest ≡ true) ⊎ OfUp (Joins e) (t.nodes.node y.to)
          → Answered l name.Ready (told.has_work (setting_of h) y.to after_all)
      by_end e l sender some other (inl h) = inr (sent_behind l name.Ready sender h)
      by_end e l sender some other (inr so) = inl (subst (λ ms. told.has_work (setting_of h) y.to ms ≡ true) (sym a.moments) (works e (t.nodes.node y.to) refl some other so))

  -- ---- as `history` has it

  owed : (inside works sends : Bool) → (inside ≡ true → (works ≡ true) ⊎ (sends ≡ true)) → (not inside || works || sends) ≡ true
  owed true true sends so = refl
  owed true false true so = refl
  owed true false false so = by_cases (so refl)
    where
      by_cases : (false ≡ true) ⊎ (false ≡ true) → false ≡ true
      by_cases (inl h) = h
      by_cases (inr h) = h
  owed false works sends so = refl

  pub arrives_so : TaskReplies (setting_of h) s.moments x (delivered number y.from y.to ∷ rest)
  arrives_so l letter asks = by_name l.name refl asks
    where
      by_name : (q : Name) → l.name ≡ q → AsksTask q → replies (setting_of h) y.to l q s.moments (delivered number y.from y.to ∷ rest) after_all ≡ true
      by_name (name.SeizeQuorum d) called task = owed (is_in_session y.to l s.moments) _ _ (λ inside. seize_so l Vote d letter called inside)
      by_name (name.SeizeData d) called task = owed (is_in_session y.to l s.moments) _ _ (λ inside. seize_so l Plain d letter called inside)
      by_name name.Install called task = owed (is_in_session y.to l s.moments) _ _ (λ inside. install_so l letter called inside)
      by_name _ called task = absurd task
