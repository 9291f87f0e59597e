-- Each change of a node, with its lines, keeps what it knows of the requests of others.
use Rattle.std.specs.Prelude.{ℕ, zero, suc, ◌+◌, ◌≡◌, ◌<◌, ◌-◌, ◌++◌, ◌==◌, ◌&&◌, Bool, true, false, if◌then◌else◌, List, [], ◌∷◌, length, replicate, Option, None, Some, is_some, slice_index_or}
use Rattle.std.proofs.Common.{refl, sym, ap, subst, ◌∙◌}
use Rattle.ccr_commit.specs.Entries.{texts_of, with_next}
use Rattle.cl_base.specs.Sets.{set_without}
use Rattle.cmm_attempt.specs.Attempts.{AttemptState}
use Rattle.cmm_attempt.proofs.Basics.{none_some}
use Rattle.cmm_member.specs.Nodes.{NodeState, with_entries, with_joined, with_valid}
use Rattle.proposals.specs.Proposing.{proposing}
use Rattle.proposals.specs.State.{State, kept_at, nothing_yet}
use Rattle.proposals.specs.declared.arrived.Kept.{Kept}
use Rattle.status_report.specs.declared.entry.Entry.{Entry}
use Rattle.status_report.specs.declared.entry.Entry.TheVariants as entry
use Rattle.status_report.specs.declared.update_entry.UpdateEntry.TheVariants as update
use Rattle.update_words.specs.Words.{words_of}
use Rattle.history.specs.Contents.{proposed_at}
use Rattle.history.specs.Moment.{Moment}
use Rattle.history.specs.Requests.{requests_of}
use Rattle.history.specs.Setting.{Setting, coordinator}
use Rattle.history.specs.Trace.{propose}
use Rattle.node_model.specs.Members.{rested_by}
use Rattle.node_model.specs.Presidents.{next_place, others_of}
use Rattle.node_model.specs.Seats.{promised_of, promising, record_of, session_of, state_of}
use Rattle.node_model.specs.declared.cluster.Cluster.{Cluster}
use Rattle.node_model.specs.declared.input.Input.{Input}
use Rattle.node_model.specs.declared.node.UpNode.{UpNode}
use Rattle.node_model.specs.declared.output.Output.{Output}
use Rattle.node_model.specs.declared.presidency.Presidency.{Presidency}
use Rattle.node_model.specs.declared.seat.Seat.{Seat}
use Rattle.node_model.specs.declared.seat.Seat.TheVariants.{Forming, Member}
use Rattle.refinement.proofs.Handlers.{delivered_by}
use Rattle.refinement.specs.Doings.{Change, changed}
use Rattle.refinement.specs.Doings.Change.{Acks, Admits, Commits, Counts, Distrusts, Installs, Leads, Prepares, Promises, Proposes, Sits, Starts}
use Rattle.refinement.specs.Guards.{MayChange}
use Rattle.run_history.proofs.Lists.{both}
use Rattle.run_history.specs.Scenes.{Scene, passing, telling}
use Rattle.run_messages.specs.Laws.{membership_in}
use Rattle.run_messages.specs.Outputs.{AreGood}
use Rattle.run_messages.proofs.Seats.{seat_with}
use Rattle.run_commands.specs.carried.Guards.{Command}
use Rattle.run_commands.proofs.carried.Carried.{IsMute}
use Rattle.run_commands.proofs.carried.Changes.{state_with}
use Rattle.run_commands.proofs.carried.Mute.{AreMute}
use Rattle.run_commands.proofs.carried.Plain.{ArePlain, IsPlainOutput, IsSilent, plains_apart}
use Rattle.run_commands.proofs.acknowledged.Changes.{Bound, below_next, seat_forming, seat_promise, seat_state, with_promise}
use Rattle.run_commands.specs.acknowledged.Guards.{IsOfFirst}
use Rattle.run_commands.proofs.acknowledged.Askings.{is_same, true_two}
use Rattle.run_commands.proofs.acknowledged.Moves.{Takes}
use Rattle.run_commands.proofs.acknowledged.Carrying.{Around, ChangedTo, ChangeStep, IsSaving, change_lines}
use Rattle.run_commands.specs.acknowledged.AnsweringGuards.{ChangeSo, Due}
use Rattle.run_commands.specs.acknowledged.AnsweringGuards.Due.{Even, Gave, Owes}
use Rattle.run_commands.proofs.acknowledged.Remote.{IsOpenTo, Remote, RemoteIn, RemoteUp, WaitAll, place_of}
use Rattle.run_commands.proofs.acknowledged.Settled.{AcksArePending, AnswersAreSettled}
use Rattle.run_commands.proofs.acknowledged.ChangeLines.{lines_mute, lines_plain, saving_mute, saving_plain}
use Rattle.run_commands.proofs.acknowledged.NoAnswers.{mutes_no}
use Rattle.run_commands.proofs.acknowledged.Numbers.{no_less}
use Rattle.run_commands.proofs.acknowledged.Quiet.{Quiet, passing_quiet, passing_settled, quiet_more, quiet_same}
use Rattle.run_commands.proofs.acknowledged.RemoteAcks.{acks_leaves}
use Rattle.run_commands.proofs.acknowledged.RemoteGives.{LeavesUp}
use Rattle.run_commands.proofs.acknowledged.RemoteUps.{own_of, up_seen, up_stays}
use Rattle.run_commands.proofs.acknowledged.Remotes.{Lasts, came_more, kept_more, quiet_lasts}

-- ---- the node after it

-- in the same membership and session, with the same promise and hand
steady : (S : Setting) (c : Cluster) (n promised next : ℕ) (ms : List Moment) (x y : UpNode) → promised ≡ promised_of x → membership_in y.seat ≡ membership_in x.seat → session_of y ≡ session_of x → promised_of y ≡ promised_of x
    → y.presidency ≡ x.presidency → RemoteUp S c n promised Even x next ms → RemoteUp S c n (promised_of y) Even y next ms
steady S c n promised next ms x y at seat session promise presidency h =
    subst (λ k. RemoteUp S c n k Even y next ms) (at ∙ sym promise)
    (up_seen S c n promised Even Even x y next ms seat session (subst (λ o. RemoteIn S c n (session_of x) Even o next ms) (sym presidency) h.hand) h)

-- a number is promised
promises : (S : Setting) (c : Cluster) (n promised p next : ℕ) (ms : List Moment) (x y : UpNode) → promised < p → session_of y ≡ p → promised_of y ≡ p → y.presidency ≡ None → RemoteUp S c n promised Even x next ms
    → RemoteUp S c n (promised_of y) Even y next ms
promises S c n promised p next ms x y above session promise none h = record {
  within = λ e more own. h.within e (below_next e promised p above (subst (λ k. k < e) promise more)) own;
  forming = λ empty some own. h.within (session_of y) (subst (λ k. promised < k) (sym session) above) own;
  hand = subst (λ o. RemoteIn S c n (session_of y) Even o next ms) (sym none) refl;
}

rested_up : (S : Setting) (c : Cluster) (n promised p next : ℕ) (ms : List Moment) (x : UpNode) (o : Option AttemptState) → promised < p → RemoteUp S c n promised Even x next ms
    → RemoteUp S c n (promised_of (rested_by (promising x p) o)) Even (rested_by (promising x p) o) next ms
rested_up S c n promised p next ms x None above h = promises S c n promised p next ms x (rested_by (promising x p) None) above refl refl refl h
rested_up S c n promised p next ms x (Some a) above h = promises S c n promised p next ms x (rested_by (promising x p) (Some a)) above refl refl refl h

-- it is a member
enters : (S : Setting) (c : Cluster) (n promised next : ℕ) (ms : List Moment) (x y : UpNode) (s : NodeState) → promised ≡ promised_of x → membership_in y.seat ≡ Some s.session → promised_of y ≡ promised_of x
    → RemoteIn S c n (session_of y) Even y.presidency next ms → RemoteUp S c n promised Even x next ms → RemoteUp S c n (promised_of y) Even y next ms
enters S c n promised next ms x y s at seat promise hand h = record {
  within = λ e more own. h.within e (subst (λ k. k < e) (promise ∙ sym at) more) own;
  forming = λ none more own. absurd (none_some s.session (sym none ∙ seat));
  hand = hand;
}

none_at : (k n : ℕ) → (let none : Option Kept = None in slice_index_or (replicate n none) k None ≡ None)
none_at k zero = refl
none_at zero (suc n) = refl
none_at (suc k) (suc n) = none_at k n

nothing_kept : (m : ℕ) (k : Kept) → kept_at nothing_yet.answers m ≡ Some k → ⊥
nothing_kept m k at = none_some k (sym (none_at (m - 1) 32) ∙ at)

-- a president at first
first_hand : (S : Setting) (c : Cluster) (n e next : ℕ) (ms : List Moment) → requests_of S e ms ≡ [] → Remote S c n e Even nothing_yet next ms
first_hand S c n e next ms none = record {
  waits = subst (λ rs. WaitAll (IsOpenTo n Even nothing_yet.answers) rs) (sym none) tt;
  kept = λ m k one ne at ok owed can. absurd (nothing_kept m k at);
  came = tt;
  first = λ v is. absurd (no_place v is);
  due = tt;
}
  where
    no_place : (v : ℕ) → place_of None ≡ Some v → ⊥
    no_place v e = cc

-- ---- an update is proposed

if_yes : {X : Type 0} (b : Bool) (x y : X) → b ≡ true → (if b then x else y) ≡ x
if_yes true x y h = refl
if_yes false x y h = cc

some_nat : (a b : ℕ) → Some a ≡ Some b → a ≡ b
some_nat a b e = cc

proposes_hand : (S : Setting) (c : Cluster) (n e place missing next : ℕ) (text : List ℕ) (st : State) (ms : List Moment) → coordinator e ≡ n → Takes c st text → Remote S c n e Even st next ms
    → Remote S c n e Even (proposing st place missing) next (propose e place text ∷ ms)
proposes_hand S c n e place missing next text st ms own takes h =
    let quiet : Quiet S c n ms (propose e place text ∷ ms) = quiet_more S c n ms (propose e place text) ms tt (quiet_same S c n ms) in
    let lasts : Lasts S c n e Even st.answers ms (propose e place text ∷ ms) = quiet_lasts S c n e Even st.answers ms (propose e place text ∷ ms) own quiet in
    record {
      waits = lasts.waits h.waits;
      kept = kept_more S c n e Even st.answers next next ms (propose e place text ∷ ms) lasts (no_less next) h.kept;
      came = came_more n e ms (propose e place text ∷ ms) st.arrived lasts.requested h.came;
      first = λ v is. record {
        request = takes.request;
        first = takes.first;
        update = takes.update;
        read = takes.read;
        words = subst (λ z. proposed_at (Some e) z (propose e place text ∷ ms) ≡ Some (words_of takes.update)) (some_nat place v is)
            (if_yes ((e == e) && (place == place)) (Some text) (proposed_at (Some e) place ms) (true_two (e == e) (place == place) (is_same e) (is_same place)) ∙ ap (λ t. Some t) takes.words);
      };
      due = tt;
    }

-- with its lines
proposes_leaves : (S : Setting) (c : Cluster) (n : ℕ) (i : Input) (v : Option ℕ) (o : Option Command) (h : Option ℕ) (promised : ℕ) (x : UpNode) (z : NodeState) (p : Presidency) (text : List ℕ) (middle : List Output) (s : Scene)
    → Around S c n i v o h promised x s → IsSaving n middle → MayChange c n (delivered_by i) x (Proposes z p text) → IsOfFirst c p text → AreGood n (change_lines c n x (Proposes z p text) middle)
    → ChangedTo n (changed c n x (Proposes z p text)) → RemoteUp S c n promised Even x s.links.next s.moments → AnswersAreSettled S c s.moments
    → LeavesUp S c n (promised_of (changed c n x (Proposes z p text))) Even (changed c n x (Proposes z p text)) (change_lines c n x (Proposes z p text) middle) s
proposes_leaves S c n i v o h promised x z p text middle s k saving may of_first good after inside told =
    let y : UpNode = changed c n x (Proposes z p text) in
    let t : NodeState = with_entries (state_of x.seat) (with_next (record_of x).entries text) in
    let place : ℕ = length (texts_of z.saved.entries) + 1 in
    let line : Entry = entry.Update (update.Proposed z.session place text) in
    let scene : Scene = telling line s in
    let rest : List Output = middle ++ [] in
    let plain : ArePlain rest = both IsPlainOutput middle [] (saving_plain n middle saving) tt in
    let mute : AreMute rest = both IsMute middle [] (saving_mute n middle saving) tt in
    let here : session_of x ≡ z.session = seat_state x (Member z) may.1 in
    let same_place : next_place x ≡ place = ap (λ (w : Seat). length (texts_of (state_of w).saved.entries) + 1) may.1 in
    let session : session_of y ≡ session_of x = ap (λ (w : NodeState). w.session) (state_with x.seat t) in
    let seat : membership_in y.seat ≡ membership_in x.seat = seat_with x.seat t refl in
    let promise : promised_of y ≡ promised = with_promise x t refl ∙ sym k.bound.promise in
    let own : coordinator z.session ≡ n = ap coordinator (sym here) ∙ own_of x n (k.before.president (ap is_some may.0)) in
    let old : Remote S c n z.session Even p.proposals s.links.next s.moments =
    subst (λ e. Remote S c n e Even p.proposals s.links.next s.moments) here (subst (λ w. RemoteIn S c n (session_of x) Even w s.links.next s.moments) may.0 inside.hand) in
    let takes : Takes c p.proposals text = record { request = of_first.request; first = of_first.first; update = of_first.update; read = of_first.read; words = of_first.words; none = may.2 } in
    let hand : Remote S c n z.session Even (proposing p.proposals place (others_of n x)) s.links.next scene.moments =
    proposes_hand S c n z.session place (others_of n x) s.links.next text p.proposals s.moments own takes old in
    let first : RemoteUp S c n promised Even y s.links.next scene.moments = record {
      within = inside.within;
      forming = λ none some mine. absurd (none_some z.session (sym none ∙ (seat ∙ ap membership_in may.1)));
      hand = subst (λ e. RemoteIn S c n e Even y.presidency s.links.next scene.moments) (sym (session ∙ here))
          (subst (λ w. Remote S c n z.session Even (proposing p.proposals w (others_of n x)) s.links.next scene.moments) (sym same_place) hand);
    } in
    let quiet : Quiet S c n scene.moments (passing n rest scene).moments = passing_quiet S c n n rest scene good.1 (mutes_no rest mute) in
    record {
      up = subst (λ w. RemoteUp S c n w Even y (passing n rest scene).links.next (passing n rest scene).moments) (sym promise)
          (up_stays S c n n promised Even y rest scene (plains_apart n rest plain) quiet after.president (λ q at. tt) first);
      told = passing_settled S c n rest scene good.1 (mutes_no rest mute) (tt, told);
    }

-- ---- each change

pub remote_changes : (S : Setting) (c : Cluster) (n : ℕ) (i : Input) (v : Option ℕ) (o : Option Command) (h : Option ℕ) (promised : ℕ) (x : UpNode) (change : Change) (d g : Due) (middle : List Output) (s : Scene)
    → Around S c n i v o h promised x s → IsSaving n middle → ChangeStep c n i v o x change d g (change_lines c n x change middle) s → ChangedTo n (changed c n x change) → RemoteUp S c n promised d x s.links.next s.moments
    → AnswersAreSettled S c s.moments → LeavesUp S c n (promised_of (changed c n x change)) g (changed c n x change) (change_lines c n x change middle) s
remote_changes S c n i v o h promised x change (Gave a reply) g middle s k saving st after inside told = absurd st.so
remote_changes S c n i v o h promised x change (Owes a) g middle s k saving st after inside told = absurd st.so
remote_changes S c n i v o h promised x change Even g middle s k saving st after inside told =
    by change st.may st.so after
    (λ silent. up_stays S c n n promised Even x (change_lines c n x change middle) s (plains_apart n (change_lines c n x change middle) (lines_plain c n x change middle silent saving))
    (passing_quiet S c n n (change_lines c n x change middle) s st.good (mutes_no (change_lines c n x change middle) (lines_mute c n x change middle saving))) k.before.president (λ p at. tt) inside)
    (passing_settled S c n (change_lines c n x change middle) s st.good (mutes_no (change_lines c n x change middle) (lines_mute c n x change middle saving)) told) st.good st.acks
  where
    b : Bound promised x
    b = k.bound

    even : (y : UpNode) (os : List Output) → g ≡ Even → RemoteUp S c n (promised_of y) Even y (passing n os s).links.next (passing n os s).moments → AnswersAreSettled S c (passing n os s).moments → LeavesUp S c n (promised_of y) g y os s
    even y os is up told = subst (λ w. LeavesUp S c n (promised_of y) w y os s) (sym is) (record { up = up; told = told })

    end : Change → Scene
    end z = passing n (change_lines c n x z middle) s

    by : (z : Change) → MayChange c n (delivered_by i) x z → ChangeSo c i n v x Even z g → ChangedTo n (changed c n x z)
        → (IsSilent z → RemoteUp S c n promised Even x (passing n (change_lines c n x z middle) s).links.next (passing n (change_lines c n x z middle) s).moments)
        → AnswersAreSettled S c (passing n (change_lines c n x z middle) s).moments → AreGood n (change_lines c n x z middle) → AcksArePending (passing n (change_lines c n x z middle) s).moments
        → LeavesUp S c n (promised_of (changed c n x z)) g (changed c n x z) (change_lines c n x z middle) s
    by (Promises p) may so after later told good acks =
        even (changed c n x (Promises p)) (change_lines c n x (Promises p) middle) so (rested_up S c n promised p (end (Promises p)).links.next (end (Promises p)).moments x x.attempt (subst (λ w. w < p) (sym b.promise) may.1) (later tt)) told
    by (Leads p members) may so after later told good acks =
        even (changed c n x (Leads p members)) (change_lines c n x (Leads p members) middle) so
        (promises S c n promised p (end (Leads p members)).links.next (end (Leads p members)).moments x (changed c n x (Leads p members)) (subst (λ w. w < p) (sym b.promise) may.0) refl refl refl (later tt)) told
    by (Counts a j z l) may so after later told good acks =
        even (changed c n x (Counts a j z l)) (change_lines c n x (Counts a j z l) middle) so
        (steady S c n promised (end (Counts a j z l)).links.next (end (Counts a j z l)).moments x (changed c n x (Counts a j z l)) b.promise (sym (seat_forming x z may.1)) (sym (seat_state x (Forming z) may.1)) (sym (seat_promise x (Forming z) may.1)) refl (later tt)) told
    by (Installs z l) may so after later told good acks =
        even (changed c n x (Installs z l)) (change_lines c n x (Installs z l) middle) so
        (steady S c n promised (end (Installs z l)).links.next (end (Installs z l)).moments x (changed c n x (Installs z l)) b.promise (sym (seat_forming x z may.0)) (sym (seat_state x (Forming z) may.0)) (sym (seat_promise x (Forming z) may.0)) refl (later tt)) told
    by (Starts a j z) may so after later told good acks =
        let y : UpNode = changed c n x (Starts a j z) in
        let here : session_of x ≡ z.session = seat_state x (Forming z) may.1 in
        let none : requests_of S (session_of x) (end (Starts a j z)).moments ≡ [] = (later tt).forming (seat_forming x z may.1) (subst (λ w. 0 < w) (sym here) (after.session z.session refl)) (ap coordinator here ∙ own_of y n (after.president refl)) in
        even y (change_lines c n x (Starts a j z) middle) so
        (enters S c n promised (end (Starts a j z)).links.next (end (Starts a j z)).moments x y z b.promise refl (sym (seat_promise x (Forming z) may.1)) (first_hand S c n z.session (end (Starts a j z)).links.next (end (Starts a j z)).moments (subst (λ e. requests_of S e (end (Starts a j z)).moments ≡ []) here none)) (later tt)) told
    by (Sits z e) may so after later told good acks =
        let y : UpNode = changed c n x (Sits z e) in
        even y (change_lines c n x (Sits z e) middle) so
        (enters S c n promised (end (Sits z e)).links.next (end (Sits z e)).moments x y z b.promise refl (sym (seat_promise x (Forming z) may.0)) (subst (λ w. RemoteIn S c n z.session Even w (end (Sits z e)).links.next (end (Sits z e)).moments) (sym (b.alone (seat_forming x z may.0))) refl) (later tt)) told
    by (Distrusts j) may so after later told good acks =
        let r : NodeState = with_valid (state_of x.seat) (set_without (record_of x).valid j) in
        even (changed c n x (Distrusts j)) (change_lines c n x (Distrusts j) middle) so
        (steady S c n promised (end (Distrusts j)).links.next (end (Distrusts j)).moments x (changed c n x (Distrusts j)) b.promise (seat_with x.seat r refl) (ap (λ (w : NodeState). w.session) (state_with x.seat r)) (with_promise x r refl) refl (later tt)) told
    by (Admits at command a j) may so after later told good acks =
        let r : NodeState = with_joined (state_of x.seat) j in
        even (changed c n x (Admits at command a j)) (change_lines c n x (Admits at command a j) middle) so
        (steady S c n promised (end (Admits at command a j)).links.next (end (Admits at command a j)).moments x (changed c n x (Admits at command a j)) b.promise (seat_with x.seat r refl) (ap (λ (w : NodeState). w.session) (state_with x.seat r)) (with_promise x r refl) refl (later tt)) told
    by (Proposes z p text) may so after later told_after good acks =
        subst (λ w. LeavesUp S c n (promised_of (changed c n x (Proposes z p text))) w (changed c n x (Proposes z p text)) (change_lines c n x (Proposes z p text) middle) s) (sym so.1)
        (proposes_leaves S c n i v o h promised x z p text middle s k saving may so.0 good after inside told)
    by (Acks z p q left text) may so after later told_after good acks = acks_leaves S c n i v o h promised x z p q left text g middle s k saving may so good acks inside told_after (later tt)
    by (Prepares z text) may so after later told good acks =
        even (changed c n x (Prepares z text)) (change_lines c n x (Prepares z text) middle) so
        (steady S c n promised (end (Prepares z text)).links.next (end (Prepares z text)).moments x (changed c n x (Prepares z text)) b.promise (sym (ap membership_in may.0)) (sym (seat_state x (Member z) may.0)) (sym (seat_promise x (Member z) may.0)) refl (later tt)) told
    by (Commits z) may so after later told good acks =
        even (changed c n x (Commits z)) (change_lines c n x (Commits z) middle) so
        (steady S c n promised (end (Commits z)).links.next (end (Commits z)).moments x (changed c n x (Commits z)) b.promise (sym (ap membership_in may.0)) (sym (seat_state x (Member z) may.0)) (sym (seat_promise x (Member z) may.0)) refl (later tt)) told
