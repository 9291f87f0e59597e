-- A change with its lines keeps what is known of requests.
use Rattle.std.specs.Prelude.{ℕ, zero, suc, ◌+◌, ◌≡◌, ◌≤◌, ◌<◌, ◌⊎◌, ◌++◌, true, List, [], ◌∷◌, length, Option, None, Some, is_some}
use Rattle.std.proofs.Common.{refl, sym, ap, subst, ◌∙◌, arith, inl, inr}
use Rattle.ccr_commit.specs.Entries.{texts_of}
use Rattle.cmm_attempt.proofs.Basics.{none_some}
use Rattle.cmm_member.specs.Nodes.{NodeState}
use Rattle.cmm_member.specs.Records.{NodeRecord}
use Rattle.membership_machine.specs.Invariant.{Holds}
use Rattle.membership_machine.specs.State.{Memberships}
use Rattle.history.specs.Moment.{Moment}
use Rattle.history.specs.Setting.{Setting}
use Rattle.node_model.specs.Seats.{promised_of, session_of, state_of}
use Rattle.node_model.specs.declared.cluster.Cluster.{Cluster}
use Rattle.node_model.specs.declared.input.Input.{Input}
use Rattle.node_model.specs.declared.input.Input.TheVariants.{Packet}
use Rattle.node_model.specs.declared.node.Node.TheVariants.{Up}
use Rattle.node_model.specs.declared.node.UpNode.{UpNode}
use Rattle.node_model.specs.declared.output.Output.{Output}
use Rattle.node_model.specs.declared.output.Output.TheVariants.{Sends, Tells}
use Rattle.node_model.specs.declared.presidency.Presidency.{Presidency}
use Rattle.node_model.specs.declared.seat.Seat.{Seat}
use Rattle.node_model.specs.declared.seat.Seat.TheVariants.{Forming, Member}
use Rattle.refinement.proofs.Changes.{Sees, sees}
use Rattle.refinement.specs.Doings.{Change, changed, first_lines}
use Rattle.refinement.specs.Doings.Change.{Acks, Admits, Commits, Counts, Distrusts, Installs, Leads, Prepares, Promises, Proposes, Sits, Starts}
use Rattle.refinement.specs.Guards.{MayChange}
use Rattle.refinement.specs.Ties.{Delivered, NodeTied, PresidentTied, SeatTied, setting_of}
use Rattle.run_history.proofs.Lists.{both}
use Rattle.run_history.specs.Scenes.{Scene, passing}
use Rattle.run_messages.specs.Laws.{membership_in}
use Rattle.run_messages.specs.Outputs.{AreGood}
use Rattle.run_commands.specs.carried.Guards.{ChangeAsk, Command}
use Rattle.run_commands.proofs.carried.Acts.{Before}
use Rattle.run_commands.proofs.carried.Carried.{IsMute}
use Rattle.run_commands.proofs.carried.Causes.{PresidentAt}
use Rattle.run_commands.proofs.carried.Mute.{AreMute, first_mute}
use Rattle.run_commands.proofs.carried.Plain.{ArePlain, IsPlainOutput, IsSilent, first_plain, plains_apart}
use Rattle.run_commands.specs.acknowledged.Guards.{ChangeHand}
use Rattle.run_commands.specs.acknowledged.Steps.{Frame, Hand, HandIn, ToldSo, UpSo}
use Rattle.run_commands.proofs.acknowledged.Acts.{CameHand, Holding, came_frame, cause_backed, up_stays}
use Rattle.run_commands.proofs.acknowledged.Changes.{Bound, begun, takes_first, up_changes, up_proposes}
use Rattle.run_commands.proofs.acknowledged.Frames.{passing_mute}
use Rattle.run_commands.proofs.acknowledged.Moves.{asked_for, cause_stays}
use Rattle.run_commands.proofs.acknowledged.Saying.{AllSay, passing_told}
use Rattle.run_commands.proofs.acknowledged.Waiting.{ReadsUpdates}

-- ---- what the machine tells of a node

low_session : (a b : ℕ) → (0 < a → a ≡ b) → a ≤ b
low_session zero b h = omega arith
low_session (suc a) b h = le_is (suc a) b (h (omega arith))
  where
    le_is : (x y : ℕ) → x ≡ y → x ≤ y
    le_is x y e = omega (arith, e)

no_office : (M : Memberships) (n : ℕ) (o : Option Presidency) (seat : Seat) → PresidentTied M n o seat → membership_in seat ≡ None → o ≡ None
no_office M n None seat h none = refl
no_office M n (Some p) (Forming s) h none = absurd h
no_office M n (Some p) (Member s) h none = absurd (none_some s.session (sym none))

pub bound_of : (c : Cluster) (M : Memberships) (n : ℕ) (x : UpNode) (disk : NodeRecord) → Holds (setting_of c) M → NodeTied c M n disk (Up x) → Bound disk.promised x
bound_of c M n x disk holds tied =
    let e : Sees M n disk (state_of x.seat) = sees c M n disk x.attempt x.seat tied.0 in
    record {
      promise = ap (λ (r : NodeRecord). r.promised) e.disk_so;
      session = low_session (session_of x) (promised_of x) (λ some. sym e.session ∙ ((holds.node n).session (subst (λ k. 0 < k) (sym e.session) some) ∙ e.promised));
      alone = no_office M n x.presidency x.seat tied.1;
    }

pub member_some : (c : Cluster) (M : Memberships) (n : ℕ) (x : UpNode) (disk : NodeRecord) → Holds (setting_of c) M → NodeTied c M n disk (Up x) → (e : ℕ) → membership_in x.seat ≡ Some e → 0 < session_of x
member_some c M n x disk holds tied e is = by x.seat refl tied.0 is
  where
    by : (seat : Seat) → x.seat ≡ seat → SeatTied c M n disk x.attempt seat → membership_in seat ≡ Some e → 0 < session_of x
    by (Forming s) at h m = absurd (none_some e m)
    by (Member s) at h m =
        subst (λ k. 0 < k) (h.0.session ∙ sym (ap (λ (z : Seat). (state_of z).session) at)) ((holds.node n).member_sits h.0.member)

-- ---- a change, with its lines

record ItProposes (change : Change) : Type 0 where
  state : NodeState
  presidency : Presidency
  text : List ℕ
  is : change ≡ Proposes state presidency text

silent_or : (change : Change) → IsSilent change ⊎ ItProposes change
silent_or (Proposes s p text) = inr (record { state = s; presidency = p; text = text; is = refl })
silent_or (Promises p) = inl tt
silent_or (Leads p members) = inl tt
silent_or (Counts a k s i) = inl tt
silent_or (Installs s i) = inl tt
silent_or (Starts a k s) = inl tt
silent_or (Sits s e) = inl tt
silent_or (Distrusts d) = inl tt
silent_or (Admits at command a d) = inl tt
silent_or (Acks s p q left text) = inl tt
silent_or (Prepares s text) = inl tt
silent_or (Commits s) = inl tt

silent_begun : (ms : List Moment) (change : Change) → IsSilent change → begun ms change ≡ ms
silent_begun ms (Proposes s p text) silent = absurd silent
silent_begun ms (Promises p) silent = refl
silent_begun ms (Leads p members) silent = refl
silent_begun ms (Counts a k s i) silent = refl
silent_begun ms (Installs s i) silent = refl
silent_begun ms (Starts a k s) silent = refl
silent_begun ms (Sits s e) silent = refl
silent_begun ms (Distrusts d) silent = refl
silent_begun ms (Admits at command a d) silent = refl
silent_begun ms (Acks s p q left text) silent = refl
silent_begun ms (Prepares s text) silent = refl
silent_begun ms (Commits s) silent = refl

mutes_say : (S : Setting) (c : Cluster) (n : ℕ) (ms : List Moment) (os : List Output) → AreMute os → AllSay S c n None 0 ms os
mutes_say S c n ms [] h = tt
mutes_say S c n ms (Tells e ∷ os) h = (tt, mutes_say S c n ms os h.1)
mutes_say S c n ms (Sends to b ∷ os) h = absurd h.0

-- what its lines leave, once the line of a proposal stands
pub record Passed (S : Setting) (c : Cluster) (n : ℕ) (change : Change) (rest : List Output) (s : Scene) : Type 0 where
  pub frame : Frame S n (begun s.moments change) (passing n (first_lines n change ++ rest) s).moments
  pub told : ToldSo S c (begun s.moments change) → ToldSo S c (passing n (first_lines n change ++ rest) s).moments

pub passed : (S : Setting) (c : Cluster) (n : ℕ) (change : Change) (rest : List Output) (s : Scene) → ArePlain rest → AreMute rest → AreGood n (first_lines n change ++ rest) → Passed S c n change rest s
passed S c n change rest s plain mute good = by (silent_or change)
  where
    by : IsSilent change ⊎ ItProposes change → Passed S c n change rest s
    by (inl silent) =
        let os : List Output = first_lines n change ++ rest in
        let all : ArePlain os = both IsPlainOutput (first_lines n change) rest (first_plain n change silent) plain in
        let still : AreMute os = both IsMute (first_lines n change) rest (first_mute n change) mute in
        let same : begun s.moments change ≡ s.moments = silent_begun s.moments change silent in
        record {
          frame = subst (λ ms. Frame S n ms (passing n os s).moments) (sym same) (passing_mute S n n os s still (plains_apart n os all));
          told = λ h. passing_told S c n None 0 os s good all (mutes_say S c n s.moments os still) (subst (ToldSo S c) same h);
        }
    by (inr k) =
        subst (λ (y : Change). Passed S c n y rest s) (sym k.is) (proposed k.state k.presidency k.text (subst (λ (y : Change). AreGood n (first_lines n y ++ rest)) k.is good))
      where
        proposed : (state : NodeState) (p : Presidency) (text : List ℕ) → AreGood n (first_lines n (Proposes state p text) ++ rest) → Passed S c n (Proposes state p text) rest s
        proposed state p text fine =
            let t : Scene = record s { moments = begun s.moments (Proposes state p text) } in
            record { frame = passing_mute S n n rest t mute (plains_apart n rest plain); told = λ h. passing_told S c n None 0 rest t fine.1 plain (mutes_say S c n t.moments rest mute) h }

-- the law at the line of a proposal
pub told_begun : (S : Setting) (c : Cluster) (n : ℕ) (told : Delivered) (i : Input) (v : Option ℕ) (promised : ℕ) (x : UpNode) (change : Change) (ms : List Moment) → MayChange c n told x change → ChangeHand c i n v x change
    → UpSo S c n ms promised x → ToldSo S c ms → ToldSo S c (begun ms change)
told_begun S c n told i v promised x (Proposes s p text) ms may hand held_so h =
    let here : session_of x ≡ s.session = ap (λ (z : Seat). (state_of z).session) may.1 in
    let old : Hand S c ms s.session p.proposals = subst (λ e. Hand S c ms e p.proposals) here (subst (λ z. HandIn S c ms (session_of x) z) may.0 held_so.hand) in
    record {
      once = (tt, h.once);
      letters = (tt, h.letters);
      asked = (asked_for S c s.session (length (texts_of s.saved.entries) + 1) text ms p.proposals (takes_first c n told i v x s p text may hand) old, h.asked);
    }
told_begun S c n told i v promised x _ ms may hand held_so h = h

came_begun : (S : Setting) (c : Cluster) (n : ℕ) (v : Option ℕ) (i : Input) (change : Change) (ms : List Moment) → CameHand S c n v i ms → CameHand S c n v i (begun ms change)
came_begun S c n v (Packet from m) (Proposes s p text) ms h = h
came_begun S c n v _ (Proposes s p text) ms h = tt
came_begun S c n v i _ ms h = h

-- ---- what a change leaves

pub change_holds : (S : Setting) (c : Cluster) (n : ℕ) (told : Delivered) (i : Input) (v : Option ℕ) (o : Option Command) (h : Option ℕ) (promised : ℕ) (x : UpNode) (change : Change) (rest : List Output) (s : Scene) → ReadsUpdates c S
    → (1 ≤ n) × (n ≤ 32) → MayChange c n told x change → ChangeAsk o x change → ChangeHand c i n v x change → Bound promised x → ArePlain rest → AreMute rest → AreGood n (first_lines n change ++ rest)
    → (is_some (changed c n x change).presidency ≡ true → PresidentAt (changed c n x change) n) → ((e : ℕ) → membership_in (changed c n x change).seat ≡ Some e → 0 < session_of (changed c n x change))
    → Before S n i o h x s → Holding S c n i v promised x s.moments → Holding S c n i v (promised_of (changed c n x change)) (changed c n x change) (passing n (first_lines n change ++ rest) s).moments
change_holds S c n told i v o h promised x change rest s reads range may ask hand bound plain mute good president some b k = by (silent_or change)
  where
    -- one that proposes nothing
    silently : IsSilent change → Holding S c n i v (promised_of (changed c n x change)) (changed c n x change) (passing n (first_lines n change ++ rest) s).moments
    silently silent =
        let ms : List Moment = (passing n (first_lines n change ++ rest) s).moments in
        let pass : Passed S c n change rest s = passed S c n change rest s plain mute good in
        let same : begun s.moments change ≡ s.moments = silent_begun s.moments change silent in
        let frame : Frame S n s.moments ms = subst (λ z. Frame S n z ms) same pass.frame in
        record {
          up = up_changes S c n told i v o promised x change ms silent may ask hand
              (λ a so cause. cause_stays S c n (session_of x) s.moments ms a frame (cause_backed S c n i v x s.moments reads range k.told k.came (b.president so) b.queued k.up.quiet a cause)) bound president some
              (up_stays S c n promised x s.moments ms b.president frame k.up);
          told = pass.told (subst (ToldSo S c) (sym same) k.told);
          came = came_frame S c n v i s.moments ms frame k.came;
        }

    by : IsSilent change ⊎ ItProposes change → Holding S c n i v (promised_of (changed c n x change)) (changed c n x change) (passing n (first_lines n change ++ rest) s).moments
    by (inl silent) = silently silent
    by (inr it) =
        let z : Change = Proposes it.state it.presidency it.text in
        let ms : List Moment = (passing n (first_lines n change ++ rest) s).moments in
        let pass : Passed S c n change rest s = passed S c n change rest s plain mute good in
        let y : UpNode = changed c n x change in
        let first : UpSo S c n (begun s.moments change) (promised_of y) y =
        subst (λ (w : Change). UpSo S c n (begun s.moments w) (promised_of (changed c n x w)) (changed c n x w)) (sym it.is)
        (up_proposes S c n told i v promised x it.state it.presidency it.text s.moments (subst (λ (w : Change). MayChange c n told x w) it.is may) (subst (λ (w : Change). ChangeHand c i n v x w) it.is hand) bound k.up) in
        record {
          up = up_stays S c n (promised_of y) y (begun s.moments change) ms president pass.frame first;
          told = pass.told (told_begun S c n told i v promised x change s.moments may hand k.up k.told);
          came = came_frame S c n v i (begun s.moments change) ms pass.frame (came_begun S c n v i change s.moments k.came);
        }
