-- What a president answers to other nodes is settled, in each run.
use Rattle.std.specs.Prelude.{ℕ, ◌≡◌, ◌≤◌, ◌<◌, true, List, [], ◌∷◌, Option, Some, is_some}
use Rattle.std.proofs.Common.{refl, sym, ap, subst, ◌∙◌, arith}
use Rattle.admin_words.specs.Commands.{command_of}
use Rattle.request_queue.specs.Queue.{next_number}
use Rattle.cl_base.specs.declared.header.Header.{Header}
use Rattle.cmm_attempt.proofs.Basics.{none_some, same_some}
use Rattle.status_report.specs.declared.entry.Entry.TheVariants as entry
use Rattle.status_report.specs.declared.node_entry.NodeEntry.TheVariants as note
use Rattle.status_report.specs.declared.packet_entry.PacketEntry.TheVariants as packet
use Rattle.history.specs.Contents.{proposed_at}
use Rattle.history.specs.Member.{member_of}
use Rattle.history.specs.Moment.{Moment, Told}
use Rattle.history.specs.Requests.{requests_of}
use Rattle.history.specs.Setting.{Setting, coordinator}
use Rattle.node_model.specs.Groups.{monitor_asked}
use Rattle.node_model.specs.Requests.{is_idle, numbered}
use Rattle.node_model.specs.Seats.{promised_of, session_of, version_of}
use Rattle.node_model.specs.declared.cluster.Cluster.{Cluster}
use Rattle.node_model.specs.declared.input.Input.{Input}
use Rattle.node_model.specs.declared.input.Input.TheVariants.{Commanded}
use Rattle.node_model.specs.declared.node.UpNode.{UpNode}
use Rattle.node_model.specs.declared.seat.Seat.{Seat}
use Rattle.node_model.specs.declared.seat.Seat.TheVariants.{Forming, Member}
use Rattle.refinement.specs.Courses.{Course}
use Rattle.refinement.specs.Courses.Course.{Acts, Falls, Keeps, Stops}
use Rattle.refinement.specs.Cuts as cuts
use Rattle.refinement.specs.Doings.{Act, Change, acted, changed, gone_line, said}
use Rattle.world_model.specs.First.{first_cluster}
use Rattle.run_history.specs.Happenings.{Happening, MayAllHappen, all_happened}
use Rattle.run_history.specs.Scenes.{Scene, first_scene, telling}
use Rattle.run_messages.proofs.Reaching.{IsSmall}
use Rattle.run_messages.specs.Laws.{membership_in}
use Rattle.run_commands.proofs.carried.Causes.{PresidentAt}
use Rattle.run_commands.proofs.carried.Runs.{FewLines}
use Rattle.run_commands.proofs.acknowledged.Changes.{Bound}
use Rattle.run_commands.proofs.acknowledged.Commands.{Reads}
use Rattle.run_commands.proofs.acknowledged.Carrying.{Carries, EachGoes, GoesAlso, IsOutside, asked_line, change_lines}
use Rattle.run_commands.specs.acknowledged.AnsweringGuards.Due.{Even}
use Rattle.run_commands.proofs.acknowledged.Remote.{IsUntouched, RemoteUp}
use Rattle.run_commands.proofs.acknowledged.Settled.{AcksArePending, AnswersAreSettled}
use Rattle.run_commands.proofs.acknowledged.Fresh.{line_none}
use Rattle.run_commands.proofs.acknowledged.AnsweringCourses.{course_goes}
use Rattle.run_commands.proofs.acknowledged.Numbers.{no_less}
use Rattle.run_commands.proofs.acknowledged.Quiet.{other_quiet, outside_quiet, outside_settled, passing_settled, quiet_more, quiet_same}
use Rattle.run_commands.proofs.acknowledged.RemoteActs.{remote_acts}
use Rattle.run_commands.proofs.acknowledged.ChangeLines.{falls_settled, falls_untouched}
use Rattle.run_commands.proofs.acknowledged.RemoteChanges.{remote_changes}
use Rattle.run_commands.proofs.acknowledged.RemoteGives.{LeavesUp}
use Rattle.run_commands.proofs.acknowledged.RemoteUps.{hand_in, own_of, untouched_stays, up_stays}
use Rattle.run_commands.proofs.acknowledged.AnsweringRuns.{carried_in_each}

-- no further guards
abbrev pub NoNext : ℕ → UpNode → Type 0
NoNext me x = Unit {0}

abbrev pub NoActs : Input → ℕ → Option ℕ → UpNode → Act → Type 0
NoActs i me v x a = Unit {0}

abbrev pub NoChanges : Input → ℕ → Option ℕ → UpNode → Change → Type 0
NoChanges i me v x change = Unit {0}

-- ---- moments in which no node does anything

-- a membership that the node is not of
outside_none : (S : Setting) (k e : ℕ) (m : Moment) (ms : List Moment) → IsOutside m → coordinator e ≡ k → (member_of k ms ≡ Some e → ⊥) → requests_of S e ms ≡ [] → requests_of S e (m ∷ ms) ≡ []
outside_none S k e (Told (entry.Packet (packet.Delivered p b c))) ms out own never h =
    line_none S e (Told (entry.Packet (packet.Delivered p b c))) ms (λ at member. never (subst (λ z. member_of z ms ≡ Some e) (at ∙ own) member)) h
outside_none S k e (Told (entry.Packet (packet.Sent p n b called bytes))) ms out own never h = absurd out
outside_none S k e (Told (entry.Command x)) ms out own never h = absurd out
outside_none S k e _ ms out own never h = h

seat_session : (x : UpNode) (f : ℕ) → membership_in x.seat ≡ Some f → f ≡ session_of x
seat_session x f is = by x.seat refl is
  where
    by : (seat : Seat) → x.seat ≡ seat → membership_in seat ≡ Some f → f ≡ session_of x
    by (Forming s) same at = absurd (none_some f at)
    by (Member s) same at = sym (same_some s.session f at) ∙ sym (ap (λ (z : Seat). session_of (record x { seat = z })) same)

too_high : (p q e : ℕ) → p ≡ q → e ≤ q → p < e → ⊥
too_high p q e is low high = omega (arith, is, low, high)

outside_proposed : (e v : ℕ) (m : Moment) (ms : List Moment) → IsOutside m → proposed_at (Some e) v (m ∷ ms) ≡ proposed_at (Some e) v ms
outside_proposed e v (Told (entry.Update x)) ms out = absurd out
outside_proposed e v _ ms out = refl

remote_outside : (S : Setting) (c : Cluster) (k promised next more : ℕ) (x : UpNode) (m : Moment) (ms : List Moment) → IsOutside m → next ≤ more → member_of k ms ≡ membership_in x.seat → Bound promised x
    → (is_some x.presidency ≡ true → PresidentAt x k) → RemoteUp S c k promised Even x next ms → RemoteUp S c k promised Even x more (m ∷ ms)
remote_outside S c k promised next more x m ms out low seated bound president h = record {
  within = λ e above own. outside_none S k e m ms out own
      (λ member. too_high promised (promised_of x) e bound.promise (subst (λ z. z ≤ promised_of x) (sym (seat_session x e (sym seated ∙ member))) bound.session) above) (h.within e above own);
  forming = λ none some own. outside_none S k (session_of x) m ms out own (λ member. none_some (session_of x) (sym none ∙ (sym seated ∙ member))) (h.forming none some own);
  hand = hand_in S c k (session_of x) Even x.presidency next more ms (m ∷ ms) (λ so. own_of x k (president so)) (outside_quiet S c k m ms out) (λ v own. outside_proposed (session_of x) v m ms out) low (λ p at. tt) h.hand;
}

-- ---- a command

asked_none : (S : Setting) (n q e : ℕ) (ms : List Moment) → coordinator e ≡ n → (member_of n ms ≡ Some e → ⊥) → requests_of S e ms ≡ [] → requests_of S e (asked_line n q ∷ ms) ≡ []
asked_none S n q e ms own never h = line_none S e (asked_line n q) ms (λ at member. never member) h

remote_asks : (S : Setting) (c : Cluster) (n promised q next : ℕ) (x : UpNode) (ms : List Moment) → member_of n ms ≡ membership_in x.seat → Bound promised x → (is_some x.presidency ≡ true → PresidentAt x n)
    → RemoteUp S c n promised Even x next ms → RemoteUp S c n promised Even (numbered x) next (asked_line n q ∷ ms)
remote_asks S c n promised q next x ms seated bound president h = record {
  within = λ e above own. asked_none S n q e ms own
      (λ member. too_high promised (promised_of x) e bound.promise (subst (λ z. z ≤ promised_of x) (sym (seat_session x e (sym seated ∙ member))) bound.session) above) (h.within e above own);
  forming = λ none some own. asked_none S n q (session_of x) ms own (λ member. none_some (session_of x) (sym none ∙ (sym seated ∙ member))) (h.forming none some own);
  hand = hand_in S c n (session_of x) Even x.presidency next next ms (asked_line n q ∷ ms) (λ so. own_of x n (president so)) (quiet_more S c n ms (asked_line n q) ms tt (quiet_same S c n ms)) (λ v own. refl) (no_less next)
      (λ p at. tt) h.hand;
}

-- ---- what is carried

then_above : (p q e : ℕ) → p ≤ q → q < e → p < e
then_above p q e h k = omega (arith, h, k)

none_above : 0 < 0 → ⊥
none_above h = omega (arith, h)

pub remote_carries : (S : Setting) (c : Cluster) → Carries S c (RemoteUp S c) (IsUntouched S) (AnswersAreSettled S c) NoNext NoActs NoChanges
remote_carries S c = record {
  acts = λ n i v o h promised x a d g s k st also inside told. (let r : LeavesUp S c n promised g (acted c n x a) (said c n x a) s = remote_acts S c n i v o h promised x a d g s k st inside told in (r.up, r.told));
  changes = λ n i v o h promised x change d g middle s k saving st after also inside told.
      (let r : LeavesUp S c n (promised_of (changed c n x change)) g (changed c n x change) (change_lines c n x change middle) s = remote_changes S c n i v o h promised x change d g middle s k saving st after inside told in
      (r.up, r.told));
  falls = λ n i v o h promised after x change d g why s k st low inside told.
      (λ e above own. falls_untouched S n promised change why s inside.within e (then_above promised after e low above) own, falls_settled S c n change why s st.good told);
  stops = λ n promised x d why s inside told. (untouched_stays S n n promised (gone_line n why) s (tt, tt) inside.within, passing_settled S c n (gone_line n why) s (tt, tt) (tt, tt) told);
  boots = λ n disk s inside told. (record { within = inside; forming = λ none some own. absurd (none_above some); hand = refl }, (tt, told));
  fails = λ n promised why s inside told.
      (let t : Scene = telling (entry.Node n note.Up) s in (untouched_stays S n n promised (gone_line n why) t (tt, tt) inside, passing_settled S c n (gone_line n why) t (tt, tt) (tt, tt) (tt, told)));
  others = λ k n promised x os s ne apart good president inside. up_stays S c k n promised Even x os s apart (other_quiet S c k n os s ne good) president (λ p at. tt) inside;
  others_down = λ k n promised os s ne apart good inside. untouched_stays S k n promised os s apart inside;
  outside = λ k promised next more x m ms out low seated bound president inside. remote_outside S c k promised next more x m ms out low seated bound president inside;
  outside_down = λ k promised m ms out seated inside. (λ e above own. outside_none S k e m ms out own (λ member. none_some e (sym seated ∙ member)) (inside e above own));
  outside_told = λ m ms out told. outside_settled S c m ms out told;
  dates = λ n promised now next x ms inside. record { within = inside.within; forming = inside.forming; hand = inside.hand };
  asks = λ n promised next words x ms is said seated bound president holds inside told. (remote_asks S c n promised (next_number x.requests) next x ms seated bound president inside, (tt, told));
  nexts = λ n promised next x ms is inside. tt;
  monitors = λ n promised next x ask ms is member calm inside. record { within = inside.within; forming = inside.forming; hand = inside.hand };
  makes = λ n i v x change also. tt;
  first = λ n promised. (λ e above own. refl);
  first_told = tt;
}

also_tt : (c : Cluster) (i : Input) (n : ℕ) (v : Option ℕ) (x : UpNode) (k : Course) → GoesAlso NoActs NoChanges c i n v x k
also_tt c i n v x Stops = tt
also_tt c i n v x (Acts a rest) = (tt, also_tt c i n v (acted c n x a) rest)
also_tt c i n v x (Keeps change rest) = (tt, also_tt c i n v (changed c n x change) rest)
also_tt c i n v x (Falls why) = tt

no_guards : (c : Cluster) → EachGoes c NoNext NoActs NoChanges
no_guards c = record {
  plain = λ n now ends x i none. also_tt c i n (membership_in x.seat) x (cuts.course_at c n now ends x i);
  words = λ n x words next. also_tt c (Commanded words) n (membership_in x.seat) (numbered x) (cuts.worded_course c n (numbered x) (next_number x.requests) (command_of (version_of c) words));
  reports = λ n i x r how. tt;
  works = λ n i x w. tt;
  monitors = λ n i x ask. also_tt c i n (membership_in x.seat) (monitor_asked x ask) (cuts.asking_if_course (is_idle x.requests.waiting) c n (monitor_asked x ask));
}

-- ---- the law of each run

pub settled_in_each : (S : Setting) (h : Header) (cells : ℕ) (hs : List Happening) → Reads (first_cluster h) S → IsSmall h → MayAllHappen (first_cluster h) (first_scene h cells) hs
    → FewLines (all_happened (first_cluster h) (first_scene h cells) hs).moments → AcksArePending (all_happened (first_cluster h) (first_scene h cells) hs).moments
    → AnswersAreSettled S (first_cluster h) (all_happened (first_cluster h) (first_scene h cells) hs).moments
settled_in_each S h cells hs reads size may few acks =
    carried_in_each S h cells (RemoteUp S (first_cluster h)) (IsUntouched S) (AnswersAreSettled S (first_cluster h)) NoNext NoActs NoChanges (remote_carries S (first_cluster h)) (no_guards (first_cluster h)) (course_goes (first_cluster h)) reads size hs may few acks
