-- What is pending is acknowledged: the answer is made after the commit, as before it.
use Rattle.std.proofs.Common.{◌≡◌, ℕ, ◌==◌, Bool, true, false, if◌then◌else◌, List, [], ◌∷◌, ◌++◌, Option, None, Some, Result, Ok, Err, refl, inr, ap, subst, sym, ◌∙◌}
use Rattle.std.specs.Prelude.{IsSome}
use Rattle.std.proofs.lemmas.Option.{none-some}
use Rattle.std.specs.Option.{option_map}
use Rattle.admin_words.specs.Commands.{command_of}
use Rattle.admin_words.specs.declared.error.WordError.{WordError}
use Rattle.ccr_tables.specs.State.{ConfigState}
use Rattle.ccr_tables.specs.declared.command.AdminCommand.{AdminCommand}
use Rattle.ccr_tables.specs.declared.command.AdminCommand.TheVariants.{Change, Act, Status, Rows}
use Rattle.cmm_member.specs.Nodes.{NodeState}
use Rattle.cmm_member.specs.Records.{NodeRecord}
use Rattle.proposals.specs.Arrivals as arrivals
use Rattle.proposals.specs.State.{first_in}
use Rattle.proposals.specs.declared.arrived.Arrived.{Arrived}
use Rattle.request_queue.specs.Queue as queue
use Rattle.request_queue.specs.Queue.{found}
use Rattle.status_report.specs.CommandLines.{reply_text}
use Rattle.status_report.specs.declared.command_entry.Answer.{Answer}
use Rattle.status_report.specs.declared.command_entry.Answer.TheVariants as answer
use Rattle.status_report.specs.declared.entry.Entry.TheVariants as entry
use Rattle.status_report.specs.declared.node_entry.NodeEntry.TheVariants.{Saved}
use Rattle.status_report.specs.declared.update_entry.UpdateEntry.TheVariants as update
use Rattle.wire.specs.declared.message.Body.TheVariants as body
use Rattle.node_model.specs.declared.cluster.Cluster.{Cluster}
use Rattle.node_model.specs.declared.node.UpNode.{UpNode}
use Rattle.node_model.specs.declared.output.Output.{Output}
use Rattle.node_model.specs.declared.output.Output.TheVariants.{Sends}
use Rattle.node_model.specs.declared.presidency.Presidency.{Presidency}
use Rattle.node_model.specs.declared.seat.Seat.{Seat}
use Rattle.node_model.specs.declared.seat.Seat.TheVariants.{Forming, Member}
use Rattle.node_model.specs.declared.stop.Stop.{Stop}
use Rattle.node_model.specs.declared.stop.Stop.TheVariants.{Down, NoMemory}
use Rattle.node_model.specs.Configurations.{in_force}
use Rattle.node_model.specs.Deciding.{deciding}
use Rattle.node_model.specs.Entries.{telling, telling_of}
use Rattle.node_model.specs.Plans.{Plan, Follows, Gives, IsDone, KeepFails}
use Rattle.node_model.specs.Plans.Plan.{Stays, Says, Saves}
use Rattle.node_model.specs.Presidents.{acknowledging, acknowledging_by, acknowledging_so, acknowledging_text, answer_given, answered_by, committing, last_place, others_of, own_answered, own_line, sent_to, taken_up, with_proposals}
use Rattle.node_model.specs.Seats.{record_of, session_of, state_of, version_of, with_state}
use Rattle.record_disk.specs.Savings.{Saving}
use Rattle.node_presidents.specs.Presidents.{acknowledged_line, acknowledgement, acknowledging_then, announcing, answering_at, answering_by, committed_then, pending_at, pending_by, saved_line, taken_under, taking_up}
use Rattle.node_model.proofs.Plans.{gives_follows}
use Rattle.node_presidents.proofs.TakenUp.{taken_presidency}

state_with : (seat : Seat) (s : NodeState) → state_of (with_state seat s) ≡ s
state_with (Forming t) s = refl
state_with (Member t) s = refl

-- an answer changes no record
record_kept : (me : ℕ) (x : UpNode) (p : Presidency) (a : Arrived) (told : Answer) → record_of (answered_by me x p a told) ≡ record_of x
record_kept me x p a told = by_test (a.from == me)
  where
    by_test : (b : Bool) → record_of (if b then own_answered me x p (arrivals.answered p.proposals (reply_text told)) (queue.answered x.requests a.number) else with_proposals x p (arrivals.answered p.proposals (reply_text told))) ≡ record_of x
    by_test true = refl
    by_test false = refl

given_alike : (me : ℕ) (x : UpNode) (a : Arrived) (told : Answer) → answer_given me x a told ≡ answer_given me (committing x) a told
given_alike me x a told =
    ap (λ e. if a.from == me then own_line me told (found x.requests.waiting a.number) else Sends a.from (body.Answer e a.number (reply_text told)) ∷ [])
    (sym (ap (λ s. s.session) (state_with x.seat _)))

-- to take up an update changes no request
requests_kept : (s : ConfigState) (p : Presidency) (command : Result AdminCommand WordError) → (taken_up s p command).proposals ≡ p.proposals
requests_kept s p (Ok (Change u)) = refl
requests_kept s p (Ok (Act a)) = refl
requests_kept s p (Ok (Status q)) = refl
requests_kept s p (Ok (Rows name)) = refl
requests_kept s p (Err e) = refl

-- what follows the answer, whose node has taken up the update
abbrev after_it : ℕ → UpNode → List ℕ → Plan → Plan
after_it me x text rest =
    telling_of me Saved (telling (entry.Update (update.Acknowledged (session_of x) (last_place x) text))
    (Says (sent_to (others_of me x) (body.Commit (session_of x) (last_place x))) rest))

answered_then : (c : Cluster) (me : ℕ) (x : UpNode) (q : Presidency) (a : Arrived) → first_in q.proposals.arrived ≡ Some a
    → answering_by c me (record (committing x) { presidency = Some q }) answer.Ok (Some q) ≡ Says (answer_given me x a answer.Ok) (deciding c me (answered_by me (committing x) q a answer.Ok))
answered_then c me x q a first =
    ap (λ found. answering_at c me (record (committing x) { presidency = Some q }) q answer.Ok found) first
    ∙ ap (λ g. Says g (deciding c me (answered_by me (committing x) q a answer.Ok))) (sym (given_alike me x a answer.Ok))

acknowledged : (c : Cluster) (me : ℕ) (x : UpNode) (q : Presidency) (a : Arrived) (text : List ℕ) → first_in q.proposals.arrived ≡ Some a
    → acknowledging_so c me x a text (answered_by me (committing x) q a answer.Ok)
    ≡ Saves (record_of (committing x)) (after_it me x text (answering_by c me (record (committing x) { presidency = Some q }) answer.Ok (Some q)))
acknowledged c me x q a text first =
    let y = answered_by me (committing x) q a answer.Ok in
    ap (λ r. Saves r (after_it me x text (Says (answer_given me x a answer.Ok) (deciding c me y)))) (record_kept me (committing x) q a answer.Ok)
    ∙ ap (λ (rest : Plan). Saves (record_of (committing x)) (after_it me x text rest)) (sym (answered_then c me x q a first))

same_plan : (c : Cluster) (me : ℕ) (x : UpNode) (p : Presidency) (a : Arrived) (text : List ℕ)
    → x.presidency ≡ Some p → first_in p.proposals.arrived ≡ Some a → (record_of x).entries.pending ≡ Some text → acknowledging_then c me x text ≡ acknowledging c me x
unfolding taking_up
same_plan c me x p a text is first pending =
    let s = in_force c (committing x) in
    let q = taken_under s c text p in
    let kept : first_in q.proposals.arrived ≡ Some a = ap (λ held. first_in held.arrived) (requests_kept s p (command_of (version_of c) text)) ∙ first in
    ap (λ found. Saves (record_of (committing x)) (after_it me x text
    (answering_by c me (record (committing x) { presidency = option_map (taken_under s c text) found }) answer.Ok (option_map (taken_under s c text) found)))) is
    ∙ sym (acknowledged c me x q a text kept)
    ∙ sym (ap (λ found. acknowledging_by c me x found) is ∙ ap (λ found. acknowledging_text c me x p found (record_of x).entries.pending) first ∙ ap (λ found. acknowledging_text c me x p (Some a) found) pending)

-- there is something to acknowledge
acknowledged_by : {K : Type 0} → (saving : K → NodeRecord → Saving K) (c : Cluster) (me : ℕ) (x : UpNode) (text : List ℕ) (found : Option Presidency) (given after : List Output) (disk left : K) (result : Result UpNode Stop)
    → x.presidency ≡ found → pending_by x found ≡ Some text → Follows saving (acknowledging_then c me x text) given disk result after left → Follows saving (acknowledging c me x) given disk result after left
acknowledged_by saving c me x text None given after disk left result is pending h = absurd (none-some text pending)
acknowledged_by saving c me x text (Some p) given after disk left result is pending h = by_first (first_in p.proposals.arrived) refl pending
  where
    by_first : (first : Option Arrived) → first_in p.proposals.arrived ≡ first → pending_at first (record_of x).entries.pending ≡ Some text → Follows saving (acknowledging c me x) given disk result after left
    by_first None at so = absurd (none-some text so)
    by_first (Some a) at so = subst (λ plan. Follows saving plan given disk result after left) (same_plan c me x p a text is at so) h

pub follows_acknowledgement : {K : Type 0} → (saving : K → NodeRecord → Saving K) (c : Cluster) (me : ℕ) (x : UpNode) (text : List ℕ) (found : Option (List ℕ)) (given after : List Output) (disk left : K) (result : Result UpNode Stop)
    → found ≡ pending_by x x.presidency → found ≡ Some text → Follows saving (committed_then c me x text) given disk result after left → Follows saving (acknowledgement c me x) given disk result after left
unfolding committed_then acknowledgement
follows_acknowledgement saving c me x text found given after disk left result is so h = acknowledged_by saving c me x text x.presidency given after disk left result refl (sym is ∙ so) h

-- there is nothing
nothing_by : (c : Cluster) (me : ℕ) (x : UpNode) (found : Option Presidency) → pending_by x found ≡ None → acknowledging_by c me x found ≡ Stays x
nothing_by c me x None none = refl
nothing_by c me x (Some p) none = nothing_at (first_in p.proposals.arrived) (record_of x).entries.pending none
  where
    nothing_at : (first : Option Arrived) (text : Option (List ℕ)) → pending_at first text ≡ None → acknowledging_text c me x p first text ≡ Stays x
    nothing_at None text none = refl
    nothing_at (Some a) None none = refl
    nothing_at (Some a) (Some text) none = absurd (none-some text (sym none))

pub nothing_pending : {K : Type 0} → (saving : K → NodeRecord → Saving K) (c : Cluster) (me : ℕ) (x : UpNode) (found : Option (List ℕ)) (given : List Output) (disk : K)
    → found ≡ pending_by x x.presidency → found ≡ None → Follows saving (acknowledgement c me x) given disk (Ok x) given disk
unfolding acknowledgement
nothing_pending saving c me x found given disk is none =
    subst (λ plan. Follows saving plan given disk (Ok x) given disk) (sym (nothing_by c me x x.presidency (sym is ∙ none))) (refl, refl, refl)

-- what is acknowledged is pending
pending_so : (first : Option Arrived) (text : List ℕ) (pending : Option (List ℕ)) → pending_at first pending ≡ Some text → IsSome pending
pending_so None text pending so = absurd (none-some text so)
pending_so (Some a) text None so = absurd (none-some text so)
pending_so (Some a) text (Some words) so = refl

is_pending_by : (x : UpNode) (text : List ℕ) (found : Option Presidency) → pending_by x found ≡ Some text → IsSome (record_of x).entries.pending
is_pending_by x text None so = absurd (none-some text so)
is_pending_by x text (Some p) so = pending_so (first_in p.proposals.arrived) text (record_of x).entries.pending so

pub is_pending : (x : UpNode) (text : List ℕ) (found : Option (List ℕ)) → found ≡ pending_by x x.presidency → found ≡ Some text → IsSome (state_of x.seat).saved.entries.pending
is_pending x text found is so = is_pending_by x text x.presidency (sym is ∙ so)

-- it is taken up, told, and its request answered
pub announced : (c : Cluster) (me : ℕ) (y z up : UpNode) (epoch place others : ℕ) (text : List ℕ) (given mid after : List Output)
    → z ≡ taking_up c y text → mid ≡ (given ++ acknowledged_line epoch place text ∷ []) ++ sent_to others (body.Commit epoch place)
    → Gives (answering_by c me z answer.Ok z.presidency) mid (Ok up) after → Gives (announcing c me y epoch place others text) given (Ok up) after
unfolding announcing
announced c me y z up epoch place others text given mid after is told h =
    subst (λ w. Gives (answering_by c me w answer.Ok w.presidency) ((given ++ acknowledged_line epoch place text ∷ []) ++ sent_to others (body.Commit epoch place)) (Ok up) after) is
    (subst (λ os. Gives (answering_by c me z answer.Ok z.presidency) os (Ok up) after) told h)

-- the record is saved, and the rest follows
told_then : {K : Type 0} → (saving : K → NodeRecord → Saving K) (c : Cluster) (me : ℕ) (x up : UpNode) (text : List ℕ) (given after : List Output) (disk : K)
    → (saving disk (record_of (committing x))).lost ≡ None → Gives (announcing c me (committing x) (session_of x) (last_place x) (others_of me x) text) (given ++ saved_line me ∷ []) (Ok up) after
    → IsDone saving (acknowledging_then c me x text) given disk up after (saving disk (record_of (committing x))).after
unfolding announcing
told_then saving c me x up text given after disk saved h =
    let y = taking_up c (committing x) text in
    let told = ((given ++ saved_line me ∷ []) ++ acknowledged_line (session_of x) (last_place x) text ∷ []) ++ sent_to (others_of me x) (body.Commit (session_of x) (last_place x)) in
    let r = record_of (committing x) in
    let found = option_map (taken_under (in_force c (committing x)) c text) x.presidency in (
      saved,
      gives_follows saving (answering_by c me y answer.Ok found) told after (Ok up) (saving disk r).after
          (subst (λ q. Gives (answering_by c me y answer.Ok q) told (Ok up) after) (taken_presidency c (committing x) text) h),
    )

pub committed_and_told : {K : Type 0} → (saving : K → NodeRecord → Saving K) (c : Cluster) (me : ℕ) (x up : UpNode) (seat : Seat) (text : List ℕ) (epoch place others : ℕ) (given mid after : List Output) (disk left : K)
    → epoch ≡ session_of x → place ≡ last_place x → others ≡ others_of me x → seat ≡ (committing x).seat
    → (saving disk (state_of seat).saved).lost ≡ None → left ≡ (saving disk (state_of seat).saved).after → mid ≡ given ++ saved_line me ∷ []
    → Gives (announcing c me (record x { seat = seat }) epoch place others text) mid (Ok up) after
    → Follows saving (committed_then c me x text) given disk (Ok up) after left
unfolding committed_then
committed_and_told saving c me x up seat text epoch place others given mid after disk left in_it at to is saved kept told h =
    let r = (state_of seat).saved in
    let same : r ≡ record_of (committing x) = ap (λ s. (state_of s).saved) is in
    let at_told = subst (λ os. Gives (announcing c me (record x { seat = seat }) epoch place others text) os (Ok up) after) told h in
    let at_seat = subst (λ s. Gives (announcing c me (record x { seat = s }) epoch place others text) (given ++ saved_line me ∷ []) (Ok up) after) is at_told in
    let at_epoch = subst (λ n. Gives (announcing c me (committing x) n place others text) (given ++ saved_line me ∷ []) (Ok up) after) in_it at_seat in
    let at_place = subst (λ n. Gives (announcing c me (committing x) (session_of x) n others text) (given ++ saved_line me ∷ []) (Ok up) after) at at_epoch in
    let at_all = subst (λ n. Gives (announcing c me (committing x) (session_of x) (last_place x) n text) (given ++ saved_line me ∷ []) (Ok up) after) to at_place in
    subst (λ d. IsDone saving (acknowledging_then c me x text) given disk up after d) (sym (kept ∙ ap (λ s. (saving disk s).after) same))
    (told_then saving c me x up text given after disk (subst (λ s. (saving disk s).lost ≡ None) same saved) at_all)

-- what follows the save
abbrev after_save : Cluster → ℕ → UpNode → List ℕ → Plan
after_save c me x text = after_it me x text (answering_by c me (taking_up c (committing x) text) answer.Ok (option_map (taken_under (in_force c (committing x)) c text) x.presidency))

-- the save is lost
lost_at : {K : Type 0} → (saving : K → NodeRecord → Saving K) (r : NodeRecord) (rest : Plan) (given after : List Output) (disk left : K) (stop : Stop)
    → KeepFails (saving disk r) given after left stop → Follows saving (Saves r rest) given disk (Err stop) after left
lost_at saving r rest given after disk left (Down why) h = inr h
lost_at saving r rest given after disk left NoMemory h = tt

pub commit_lost : {K : Type 0} → (saving : K → NodeRecord → Saving K) (c : Cluster) (me : ℕ) (x : UpNode) (seat : Seat) (text : List ℕ) (given after : List Output) (disk left : K) (stop : Stop)
    → seat ≡ (committing x).seat → KeepFails (saving disk (state_of seat).saved) given after left stop → Follows saving (committed_then c me x text) given disk (Err stop) after left
unfolding committed_then
commit_lost saving c me x seat text given after disk left stop is fails =
    lost_at saving (record_of (committing x)) (after_save c me x text) given after disk left stop (subst (λ s. KeepFails (saving disk (state_of s).saved) given after left stop) is fails)
