-- What is known of a node as a step begins, at a point of a run.
use Rattle.std.specs.Prelude.{ℕ, ◌≡◌, ◌==◌, nat_le, true, false, List, Option, None, Some}
use Rattle.std.specs.Option.{option_and_then}
use Rattle.std.proofs.Common.{sym, ap, subst, ◌∙◌}
use Rattle.cl_base.specs.declared.header.Header.{Header}
use Rattle.cl_base.specs.declared.method.Outcome as method
use Rattle.cmm_attempt.proofs.Basics.{and_cases, none_some, same_number, same_some}
use Rattle.cmm_attempt.specs.Attempts.{AttemptState, is_over}
use Rattle.device_queue.specs.Queue.{due_device, next_of}
use Rattle.history.specs.Letters.{letter_of}
use Rattle.history.specs.Member.{attempt_of}
use Rattle.history.specs.Moment.{Moment}
use Rattle.history.specs.Order.{Always}
use Rattle.history.specs.Seizing.{is_number}
use Rattle.history.specs.Setting.{coordinator}
use Rattle.history.specs.UnderWay.{is_under_way}
use Rattle.interconnect.specs.Links.{Packet, packet_of}
use Rattle.machine_base.proofs.Puts.{put_here}
use Rattle.node_model.specs.Seats.{is_in, session_of}
use Rattle.node_model.specs.Steps.{stepped}
use Rattle.node_model.specs.declared.cluster.Cluster.{Cluster}
use Rattle.node_model.specs.declared.input.Input.{Input}
use Rattle.node_model.specs.declared.node.Node.TheVariants.{Up}
use Rattle.node_model.specs.declared.node.UpNode.{UpNode}
use Rattle.pgr_device.specs.declared.command.PrCommand.{PrCommand}
use Rattle.refinement.proofs.Worlds.{all_found}
use Rattle.refinement.specs.Guards.{OfUp}
use Rattle.refinement.specs.Runs.{moved}
use Rattle.refinement.specs.Runs.Move.{Takes as Takes_in}
use Rattle.refinement.specs.Steps.{disk_rules}
use Rattle.run_attempts.specs.endings.Laws.{HaveTheirAttempts, epoch_at, epoch_of}
use Rattle.run_commands.proofs.acknowledged.Askings.{letter_is}
use Rattle.run_devices.specs.queues.Told.{leads}
use Rattle.run_history.proofs.Idle.{passing_nodes}
use Rattle.run_history.specs.Happenings.{given_by, taking}
use Rattle.run_history.specs.Scenes.{Scene}
use Rattle.run_messages.proofs.Reaching.{IsReached, IsSmall}
use Rattle.run_seizings.specs.Sites.{Posted}
use Rattle.wire.specs.Reads.{whole_of}
use Rattle.wire.specs.declared.message.Body.{Body}
use Rattle.wire.specs.declared.message.Message.{Message}
use Rattle.world_model.specs.Devices.{due_at}
use Rattle.run_outcomes.specs.phases.Kept.{In}
use Rattle.run_outcomes.specs.phases.Laws.{HasAttempt, PromisesTold, SeizesTold}
use Rattle.run_outcomes.specs.reports.Laws.{AsksFor, AsksSo}
use Rattle.run_outcomes.specs.saves.Kept.{IsAt, Rests}
use Rattle.run_outcomes.specs.tasks.Outward.{IsOutward, RequestsGoOut, is_request}
use Rattle.run_outcomes.specs.tasks.Own.{IsOrdered, Owned, Owns}
use Rattle.run_outcomes.proofs.others.Asked.{AsksIn, letter_asks}
use Rattle.run_outcomes.proofs.outward.Addressed.{AreAddressed, found_is}
use Rattle.run_outcomes.proofs.outward.Collects.{own_attempt}
use Rattle.run_outcomes.proofs.outward.Resting.{LeadersHave}
use Rattle.run_outcomes.proofs.own_tasks.Grounds.{Ground, ground_at, seizing_at}
use Rattle.run_outcomes.proofs.own_tasks.Runs.{AllOwned}
use Rattle.run_outcomes.proofs.rests.Marks.{LetterOf}
use Rattle.run_outcomes.proofs.rests.Sessions.{SessionSo}

pub record Known (h : Header) (cells : ℕ) (s : Scene) : Type 0 where
  pub size : IsSmall h
  pub reached : IsReached h cells s
  pub ways : HaveTheirAttempts s
  pub out : RequestsGoOut s.moments
  pub to : AreAddressed s.moments
  pub asks : Always AsksSo s.moments
  pub owned : AllOwned s
  pub have : LeadersHave h s
  pub session : (n : ℕ) (w : UpNode) → s.nodes.node n ≡ Up w → leads n s.moments ≡ true → SessionSo n s.moments w
  pub promised : (n : ℕ) (a : AttemptState) → HasAttempt s n a → PromisesTold a s.moments
  pub seizes : (n : ℕ) (a : AttemptState) → HasAttempt s n a → SeizesTold a s.moments
  pub live : (n : ℕ) (a : AttemptState) → HasAttempt s n a → is_over a.phase ≡ false
  pub waits : (n : ℕ) → IsAt Rests (s.nodes.node n)

-- ---- its attempt

pub has_it : (s : Scene) (n : ℕ) (w : UpNode) (a : AttemptState) → s.nodes.node n ≡ Up w → w.attempt ≡ Some a → HasAttempt s n a
has_it s n w a up at = subst (OfUp (λ y. y.attempt ≡ Some a)) (sym up) at

-- by the lines none is under way
pub none_on_way : (h : Header) (cells : ℕ) (s : Scene) (n : ℕ) (w : UpNode) → Known h cells s → s.nodes.node n ≡ Up w → w.attempt ≡ None → (e : ℕ) → coordinator e ≡ n → is_under_way e s.moments ≡ false
none_on_way h cells s n w k up none e own =
    k.ways e ∙ (ap (λ j. is_number e (epoch_at (s.nodes.node j))) own ∙ (ap (λ z. is_number e (epoch_at z)) up ∙ ap (λ o. is_number e (epoch_of o)) none))

pub record OwnSo (n : ℕ) (w : UpNode) (a : AttemptState) (ms : List Moment) : Type 0 where
  pub own : coordinator a.plan.epoch ≡ n
  pub last : attempt_of n ms ≡ Some a.plan.epoch
  pub ordered : IsOrdered n a
  pub owns : Owns n w.tasks a

pub own_so : (h : Header) (cells : ℕ) (s : Scene) (n : ℕ) (w : UpNode) (a : AttemptState) → Known h cells s → s.nodes.node n ≡ Up w → w.attempt ≡ Some a → OwnSo n w a s.moments
own_so h cells s n w a k up at =
    let g : Ground h s n w a = ground_at h cells s n w a k.size k.reached up at in
    record { own = g.so.own; last = g.so.last; ordered = g.ordered; owns = subst (In (Owns n w.tasks)) at (subst (IsAt (Owned n)) up (k.owned n)) }

-- ---- a packet that comes to it

pub record PacketSo (ms : List Moment) (number : ℕ) (p : Packet) (b : Body) : Type 0 where
  pub letter : LetterOf ms number p.to b
  pub asks : AsksFor letter.letter.before letter.letter.from b
  pub goes : IsOutward letter.letter

pub packet_so : (h : Header) (cells : ℕ) (s : Scene) (number : ℕ) (p : Packet) (m : Message) → Known h cells s → packet_of s.links.packets number ≡ Some p → whole_of p.bytes ≡ Some m → PacketSo s.moments number p m.body
packet_so h cells s number p m k here whole =
    record { letter = record { letter = post.letter; here = sent; called = (post.says m whole).0; receiver = post.receiver }; asks = asks m (ap whole_of post.bytes ∙ whole); goes = letter_is IsOutward number post.letter s.moments k.out sent }
  where
    post : Posted h s.moments s.links.next p
    post = all_found (Posted h s.moments s.links.next) (λ (q : Packet). q.number == number) s.links.packets p (seizing_at h cells s k.size k.reached).carried here

    same : p.number ≡ number
    same = same_number p.number number (found_is (λ (q : Packet). q.number == number) s.links.packets p here)

    sent : letter_of number s.moments ≡ Some post.letter
    sent = ap (λ q. letter_of q s.moments) (sym same) ∙ post.sent_so

    asks : AsksIn post.letter
    asks = letter_asks number s.moments post.letter k.asks sent

-- no request to seize comes in the session of a node that leads
pub never_asked : (h : Header) (cells : ℕ) (s : Scene) (number e n : ℕ) (p : Packet) (w : UpNode) (b : Body) → Known h cells s → p.to ≡ n → (z : PacketSo s.moments number p b) → is_request z.letter.letter.name ≡ true
    → attempt_of z.letter.letter.from z.letter.letter.before ≡ Some e → s.nodes.node n ≡ Up w → leads n s.moments ≡ true → is_in w e ≡ true → ⊥
never_asked h cells s number e n p w b k to z asks of up first is =
    z.goes asks (z.letter.receiver ∙ (to ∙ (sym so.led.own ∙ (ap coordinator (sym so.same ∙ same_number (session_of w) e (and_cases (nat_le 1 e) (session_of w == e) is).1) ∙ own_attempt z.letter.letter.from e z.letter.letter.before of))))
  where
    so : SessionSo n s.moments w
    so = k.session n w up first

-- ---- a command that is due

pub due_so : (o : Option ℕ) (q : Option PrCommand) (d : ℕ) (k : PrCommand)
    → option_and_then {U = ℕ × PrCommand} (λ e. option_and_then {U = ℕ × PrCommand} (λ (j : PrCommand). Some (e, j)) q) o ≡ Some (d, k) → (o ≡ Some d) × (q ≡ Some k)
due_so None q d k h = absurd (none_some (d, k) h)
due_so (Some e) None d k h = absurd (none_some (d, k) h)
due_so (Some e) (Some j) d k h =
    let same : (e, j) ≡ (d, k) = same_some (e, j) (d, k) h in
    (ap (λ (z : ℕ × PrCommand). Some z.0) same, ap (λ (z : ℕ × PrCommand). Some z.1) same)

pub due_task : (w : UpNode) (d : ℕ) (k : PrCommand) → due_at (Some (Up w)) ≡ Some (d, k) → (due_device w.tasks ≡ Some d) × (next_of w.tasks ≡ Some k)
due_task w d k h = due_so (due_device w.tasks) (next_of w.tasks) d k h

-- ---- the node after the step

pub step_node : (c : Cluster) (n now : ℕ) (ends : method.Outcome) (i : Input) (t : Scene) → (taking c n now ends i t).nodes.node n ≡ (stepped disk_rules c n now ends (t.nodes.node n) (t.nodes.disk n) i).after
step_node c n now ends i t =
    ap (λ v. v.node n) (passing_nodes n (given_by c n now ends i t.nodes) (record t { nodes = moved c t.nodes (Takes_in n now ends i) }))
    ∙ put_here t.nodes.node n (stepped disk_rules c n now ends (t.nodes.node n) (t.nodes.disk n) i).after
