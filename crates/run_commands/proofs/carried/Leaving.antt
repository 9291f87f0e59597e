-- What a change leaves of a node, and what going down leaves.
use Rattle.std.specs.Prelude.{ℕ, ◌+◌, ◌≡◌, ◌≢◌, ◌⊎◌, ◌==◌, ◌&&◌, ◌++◌, Bool, true, false, List, [], ◌∷◌, length, Option, Some, is_some, if◌then◌else◌}
use Rattle.std.specs.List.{AllByRecursion}
use Rattle.std.proofs.Common.{refl, sym, ap, subst, ◌∙◌, inl, inr}
use Rattle.ccr_commit.specs.Entries.{texts_of}
use Rattle.cmm_member.specs.Nodes.{NodeState}
use Rattle.cmm_member.specs.Records.{NodeRecord}
use Rattle.membership_machine.specs.Invariant.{Holds}
use Rattle.membership_machine.specs.State.{Memberships}
use Rattle.status_report.specs.declared.entry.Entry.TheVariants as entry
use Rattle.status_report.specs.declared.node_entry.DownCause.{DownCause}
use Rattle.status_report.specs.declared.node_entry.NodeEntry.TheVariants as note
use Rattle.status_report.specs.declared.update_entry.UpdateEntry.TheVariants as update
use Rattle.history.specs.Moment.{Moment, Told}
use Rattle.history.specs.Setting.{Setting, coordinator}
use Rattle.node_model.specs.declared.cluster.Cluster.{Cluster}
use Rattle.node_model.specs.declared.input.Input.{Input}
use Rattle.node_model.specs.declared.node.Node.{Node}
use Rattle.node_model.specs.declared.node.Node.TheVariants.{Down, Up}
use Rattle.node_model.specs.declared.node.UpNode.{UpNode}
use Rattle.node_model.specs.declared.output.Output.{Output}
use Rattle.node_model.specs.declared.output.Output.TheVariants.{Sends, Tells}
use Rattle.node_model.specs.declared.presidency.Presidency.{Presidency}
use Rattle.refinement.specs.Doings.{Change, changed, first_lines, gone_line, last_lines, of_node}
use Rattle.refinement.specs.Doings.Change.{Acks, Admits, Commits, Counts, Distrusts, Installs, Leads, Prepares, Promises, Proposes, Sits, Starts}
use Rattle.refinement.specs.Guards.{MayChange}
use Rattle.refinement.specs.Ties.{Delivered, Known, NodeTied, setting_of}
use Rattle.run_history.proofs.Heard.{and_both, is_same}
use Rattle.run_history.proofs.Lists.{both}
use Rattle.run_commands.proofs.carried.Flying.{OwnOutput}
use Rattle.run_history.specs.Scenes.{Scene, passing}
use Rattle.run_messages.specs.Laws.{membership_in}
use Rattle.run_commands.specs.carried.Guards.{ChangeAsk, Command, hand_change}
use Rattle.run_commands.specs.carried.Steps.{CarriedSo, PendingSo}
use Rattle.run_commands.proofs.carried.Acts.{Before, hand_each, now_each, pending_each}
use Rattle.run_commands.proofs.carried.Carried.{IsMute, passing_mute}
use Rattle.run_commands.proofs.carried.Causes.{PresidentAt}
use Rattle.run_commands.proofs.carried.Changes.{Changed, LineSo, Was, changed_so}
use Rattle.run_commands.proofs.carried.Lines.{AreApart, SameAsk, SameAsked, passing_ask}
use Rattle.run_commands.proofs.carried.Mute.{first_mute, last_mute}
use Rattle.run_commands.proofs.carried.Plain.{ArePlain, IsPlainOutput, IsSilent, first_plain, last_plain, plains_apart}
use Rattle.run_commands.proofs.carried.Queues.{Queued, queued_stays}

-- what is so of a node, and stays with its moments
pub record UpSo (S : Setting) (n last : ℕ) (x : UpNode) (ms : List Moment) : Type 0 where
  pub last_so : x.requests.asked ≡ last
  pub queued : Queued S n ms (membership_in x.seat) x.requests
  pub pending : PendingSo ms x

abbrev pub NodeSo : Setting → ℕ → ℕ → Node → List Moment → Type 0
NodeSo S n last Down ms = Unit {0}
NodeSo S n last (Up x) ms = UpSo S n last x ms

-- after these outputs of node n, which is so then
pub record Leaves (S : Setting) (n last : ℕ) (node : Node) (os : List Output) (s : Scene) : Type 0 where
  pub own : NodeSo S n last node (passing n os s).moments
  pub carried : CarriedSo S (passing n os s).moments
  pub apart : (k : ℕ) → k ≢ n → AreApart k os
  pub answers : AllByRecursion (OwnOutput n) os

-- lines are no Answers
mutes_own : (n : ℕ) (os : List Output) → AllByRecursion IsMute os → AllByRecursion (OwnOutput n) os
mutes_own n [] h = tt
mutes_own n (Tells e ∷ os) h = (tt, mutes_own n os h.1)
mutes_own n (Sends to b ∷ os) h = absurd h.0

-- ---- the node goes down

none_down : (n k : ℕ) (why : DownCause) → AreApart k (gone_line n why)
none_down n k why = (tt, tt)

pub down_ends : (S : Setting) (n last : ℕ) (os : List Output) (why : DownCause) (s : Scene) → AllByRecursion IsMute os → ((k : ℕ) → k ≢ n → AreApart k os) → CarriedSo S s.moments
    → Leaves S n last Down (os ++ gone_line n why) s
down_ends S n last os why s mute apart carried = record {
  own = tt;
  carried = passing_mute S n (os ++ gone_line n why) s (both IsMute os (gone_line n why) mute (tt, tt)) carried;
  apart = λ k ne. both _ os (gone_line n why) (apart k ne) (none_down n k why);
  answers = mutes_own n (os ++ gone_line n why) (both IsMute os (gone_line n why) mute (tt, tt));
}

-- ---- a change

-- an update that is proposed is the president's own
proposes_own : (c : Cluster) (n : ℕ) (told : Delivered) (x : UpNode) (s : NodeState) (p : Presidency) (text : List ℕ) → MayChange c n told x (Proposes s p text)
    → (is_some x.presidency ≡ true → PresidentAt x n) → coordinator s.session ≡ n
proposes_own c n told x s p text may president =
    let at : PresidentAt x n = president (ap is_some may.0) in
    ap coordinator (same_epoch s.session at.epoch (sym (ap membership_in may.1) ∙ at.member)) ∙ at.own
  where
    same_epoch : (a b : ℕ) → Some a ≡ Some b → a ≡ b
    same_epoch a b e = cc

pub first_apart : (c : Cluster) (n : ℕ) (told : Delivered) (x : UpNode) (change : Change) → MayChange c n told x change → (is_some x.presidency ≡ true → PresidentAt x n) → (k : ℕ) → k ≢ n
    → AreApart k (first_lines n change)
first_apart c n told x (Proposes s p text) may president k ne = (λ same. ne (sym same ∙ proposes_own c n told x s p text may president), tt)
first_apart c n told x (Admits at command a d) may president k ne = (tt, tt)
first_apart c n told x (Promises p) may president k ne = tt
first_apart c n told x (Leads p members) may president k ne = tt
first_apart c n told x (Counts a j s i) may president k ne = tt
first_apart c n told x (Installs s i) may president k ne = tt
first_apart c n told x (Starts a j s) may president k ne = tt
first_apart c n told x (Sits s e) may president k ne = tt
first_apart c n told x (Distrusts d) may president k ne = tt
first_apart c n told x (Acks s p q left text) may president k ne = tt
first_apart c n told x (Prepares s text) may president k ne = tt
first_apart c n told x (Commits s) may president k ne = tt

-- the lines of a change: those before the save, that it was saved, and those after it
abbrev pub change_lines : Cluster → ℕ → UpNode → Change → List Output → List Output
change_lines c n x change middle = first_lines n change ++ (middle ++ last_lines c n x change)

abbrev IsSaving : ℕ → List Output → Type 0
IsSaving n middle = (middle ≡ []) ⊎ (middle ≡ of_node n note.Saved ∷ [])

saving_plain : (n : ℕ) (middle : List Output) → IsSaving n middle → ArePlain middle
saving_plain n middle (inl is) = subst ArePlain (sym is) tt
saving_plain n middle (inr is) = subst ArePlain (sym is) (tt, tt)

saving_mute : (n : ℕ) (middle : List Output) → IsSaving n middle → AllByRecursion IsMute middle
saving_mute n middle (inl is) = subst (AllByRecursion IsMute) (sym is) tt
saving_mute n middle (inr is) = subst (AllByRecursion IsMute) (sym is) (tt, tt)

record After (S : Setting) (n : ℕ) (o : Option Command) (h : Option ℕ) (x : UpNode) (change : Change) (ms : List Moment) : Type 0 where
  was : Was S n o h x ms
  line : LineSo ms x change

plain_after : (S : Setting) (c : Cluster) (n : ℕ) (i : Input) (o : Option Command) (h : Option ℕ) (x : UpNode) (change : Change) (os : List Output) (s : Scene) → IsSilent change → ArePlain os
    → (PendingSo (passing n os s).moments x → LineSo (passing n os s).moments x change) → Before S n i o h x s → After S n o h x change (passing n os s).moments
plain_after S c n i o h x change os s silent plain line b =
    let ms : List Moment = (passing n os s).moments in
    let f : SameAsk S n s.moments ms = passing_ask S n n os s (plains_apart n os plain) in
    record {
      was = record {
        queued = queued_stays S n s.moments ms (membership_in x.seat) x.requests f.asks b.queued;
        now = now_each S n s.moments ms x.requests.asked x.requests.asked o f.asks refl b.now;
        hand = hand_each S n s.moments ms x x h f.asks refl b.hand;
      };
      line = line (pending_each S n s.moments ms x f b.president b.pending);
    }

silent_line : (ms : List Moment) (x : UpNode) (change : Change) → IsSilent change → PendingSo ms x → LineSo ms x change
silent_line ms x (Proposes s p text) silent pend = absurd silent
silent_line ms x (Promises p) silent pend = pend
silent_line ms x (Leads p members) silent pend = pend
silent_line ms x (Counts a k s i) silent pend = pend
silent_line ms x (Installs s i) silent pend = pend
silent_line ms x (Starts a k s) silent pend = pend
silent_line ms x (Sits s e) silent pend = pend
silent_line ms x (Distrusts d) silent pend = pend
silent_line ms x (Admits at command a d) silent pend = pend
silent_line ms x (Acks s p q left text) silent pend = pend
silent_line ms x (Prepares s text) silent pend = pend
silent_line ms x (Commits s) silent pend = pend

-- whether it is an update that is proposed
record ItProposes (change : Change) : Type 0 where
  state : NodeState
  presidency : Presidency
  text : List ℕ
  is : change ≡ Proposes state presidency text

silent_or : (change : Change) → IsSilent change ⊎ ItProposes change
silent_or (Proposes s p text) = inr (record { state = s; presidency = p; text = text; is = refl })
silent_or (Promises p) = inl tt
silent_or (Leads p members) = inl tt
silent_or (Counts a k s i) = inl tt
silent_or (Installs s i) = inl tt
silent_or (Starts a k s) = inl tt
silent_or (Sits s e) = inl tt
silent_or (Distrusts d) = inl tt
silent_or (Admits at command a d) = inl tt
silent_or (Acks s p q left text) = inl tt
silent_or (Prepares s text) = inl tt
silent_or (Commits s) = inl tt

if_so : {X : Type 0} (b : Bool) (x y : X) → b ≡ true → (if b then x else y) ≡ x
if_so true x y h = refl
if_so false x y h = cc

proposed_after : (S : Setting) (c : Cluster) (n : ℕ) (i : Input) (o : Option Command) (h : Option ℕ) (x : UpNode) (t : NodeState) (p : Presidency) (text : List ℕ) (middle : List Output) (s : Scene)
    → coordinator t.session ≡ n → IsSaving n middle → Before S n i o h x s → After S n o h x (Proposes t p text) (passing n (change_lines c n x (Proposes t p text) middle) s).moments
proposed_after S c n i o h x t p text middle s own saving b =
    let e : _ = update.Proposed t.session (length (texts_of t.saved.entries) + 1) text in
    let ms : List Moment = Told (entry.Update e) ∷ s.moments in
    let first : SameAsked S n s.moments ms = record { asking = λ q. refl; asked = λ q. refl; command = λ q. refl } in
    let rest : List Output = middle ++ [] in
    let z : Scene = record s { moments = ms } in
    let f : SameAsk S n ms (passing n rest z).moments = passing_ask S n n rest z (plains_apart n rest (both IsPlainOutput middle [] (saving_plain n middle saving) tt)) in
    record {
      was = record {
        queued = queued_stays S n ms (passing n rest z).moments (membership_in x.seat) x.requests f.asks (queued_stays S n s.moments ms (membership_in x.seat) x.requests first b.queued);
        now = now_each S n ms (passing n rest z).moments x.requests.asked x.requests.asked o f.asks refl (now_each S n s.moments ms x.requests.asked x.requests.asked o first refl b.now);
        hand = hand_each S n ms (passing n rest z).moments x x h f.asks refl (hand_each S n s.moments ms x x h first refl b.hand);
      };
      line = f.proposed t.session (length (texts_of t.saved.entries) + 1) own
          ∙ if_so ((t.session == t.session) && (length (texts_of t.saved.entries) + 1 == length (texts_of t.saved.entries) + 1)) (Some text) _
          (and_both (t.session == t.session) _ (is_same t.session) (is_same (length (texts_of t.saved.entries) + 1)));
    }

after_change : (S : Setting) (c : Cluster) (n : ℕ) (told : Delivered) (i : Input) (o : Option Command) (h : Option ℕ) (x : UpNode) (change : Change) (middle : List Output) (s : Scene)
    → MayChange c n told x change → IsSaving n middle → Before S n i o h x s → After S n o h x change (passing n (change_lines c n x change middle) s).moments
after_change S c n told i o h x change middle s may saving b = by_kind (silent_or change)
  where
    by_kind : IsSilent change ⊎ ItProposes change → After S n o h x change (passing n (change_lines c n x change middle) s).moments
    by_kind (inl silent) =
        plain_after S c n i o h x change (change_lines c n x change middle) s silent
        (both IsPlainOutput (first_lines n change) _ (first_plain n change silent) (both IsPlainOutput middle (last_lines c n x change) (saving_plain n middle saving) (last_plain c n x change)))
        (silent_line (passing n (change_lines c n x change middle) s).moments x change silent) b
    by_kind (inr k) =
        subst (λ (z : Change). After S n o h x z (passing n (change_lines c n x z middle) s).moments) (sym k.is)
        (proposed_after S c n i o h x k.state k.presidency k.text middle s
        (proposes_own c n told x k.state k.presidency k.text (subst (λ (z : Change). MayChange c n told x z) k.is may) b.president) saving b)

pub record ChangeLeaves (S : Setting) (n : ℕ) (o : Option Command) (h : Option ℕ) (last : ℕ) (y : UpNode) (os : List Output) (s : Scene) : Type 0 where
  pub changed_to : Changed S n o h last y (passing n os s).moments
  pub carried : CarriedSo S (passing n os s).moments
  pub apart : (k : ℕ) → k ≢ n → AreApart k os
  pub answers : AllByRecursion (OwnOutput n) os

pub change_leaves : (S : Setting) (c : Cluster) (M : Memberships) (n : ℕ) (told : Delivered) (i : Input) (o : Option Command) (h : Option ℕ) (x : UpNode) (disk : NodeRecord) (change : Change) (middle : List Output) (s : Scene)
    → Holds (setting_of c) M → Known M told → NodeTied c M n disk (Up x) → MayChange c n told x change → ChangeAsk o x change → IsSaving n middle → Before S n i o h x s
    → ChangeLeaves S n o (hand_change x h change) x.requests.asked (changed c n x change) (change_lines c n x change middle) s
change_leaves S c M n told i o h x disk change middle s holds known tied may ask saving b =
    let a : After S n o h x change (passing n (change_lines c n x change middle) s).moments = after_change S c n told i o h x change middle s may saving b in
    record {
      changed_to = changed_so S c M n told o h x disk change (passing n (change_lines c n x change middle) s).moments holds known tied may ask b.president a.was a.line;
      carried = passing_mute S n (change_lines c n x change middle) s
          (both IsMute (first_lines n change) _ (first_mute n change) (both IsMute middle (last_lines c n x change) (saving_mute n middle saving) (last_mute c n x change))) b.carried;
      apart = λ k ne. both _ (first_lines n change) _ (first_apart c n told x change may b.president k ne) (plains_apart k (middle ++ last_lines c n x change)
          (both IsPlainOutput middle (last_lines c n x change) (saving_plain n middle saving) (last_plain c n x change)));
      answers = mutes_own n (change_lines c n x change middle) (both IsMute (first_lines n change) _ (first_mute n change) (both IsMute middle (last_lines c n x change) (saving_mute n middle saving) (last_mute c n x change)));
    }
