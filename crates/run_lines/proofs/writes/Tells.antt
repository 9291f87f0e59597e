-- What a small step tells, output by output; its Installs read all that their attempts hold.
use Rattle.std.specs.Prelude.{ℕ, ◌≡◌, ◌++◌, true, List, [], ◌∷◌, Option, None, Some}
use Rattle.std.specs.List.{AllByRecursion}
use Rattle.std.proofs.Common.{refl, sym, subst, ◌∙◌}
use Rattle.attempt_laws.proofs.Goes.{chosen_reached, goes_by_call}
use Rattle.attempt_laws.specs.Asking.{AreApart, numbers_of}
use Rattle.cmm_attempt.specs.Attempts.{AttemptState, install_in}
use Rattle.cmm_attempt.specs.Calls.{IsReached, May as MayTake, turn}
use Rattle.cmm_attempt.specs.declared.phase.Phase.TheVariants.{Installing}
use Rattle.cmm_member.specs.Records.{NodeRecord}
use Rattle.membership_machine.specs.Growth.{Grows}
use Rattle.membership_machine.specs.State.{Memberships}
use Rattle.node_model.specs.declared.cluster.Cluster.{Cluster}
use Rattle.node_model.specs.declared.node.Node.{Node}
use Rattle.node_model.specs.declared.node.Node.TheVariants.{Down, Up}
use Rattle.node_model.specs.declared.node.UpNode.{UpNode}
use Rattle.node_model.specs.declared.output.Output.{Output}
use Rattle.node_model.specs.declared.output.Output.TheVariants.{Sends, Tells}
use Rattle.refinement.proofs.Attempts.{install_epoch, may_be_called, reached_more}
use Rattle.refinement.specs.Doings.{Act, Change, Doing, changed, first_lines, gives, gone_line, last_lines, of_node, said, site}
use Rattle.refinement.specs.Doings.Act.{Accepts, Dates, Ends, Gives, Goes_on, Hears, Makes, Minds, Notes, Queues, Spreads, Stores, Takes, Ticks, Waits, Works, Writes}
use Rattle.refinement.specs.Doings.Change.{Acks, Admits, Commits, Counts, Distrusts, Installs, Leads, Prepares, Promises, Proposes, Sits, Starts}
use Rattle.refinement.specs.Doings.Doing.{Comes_up, Does, Forgets, Goes_down, Loses, Saves}
use Rattle.refinement.specs.Facts.{Facts}
use Rattle.refinement.specs.Guards.{May, MayAct, MayChange, MayWrite, OfAttempt, Says}
use Rattle.refinement.specs.Ties.{Delivered}
use Rattle.run_history.proofs.Lists.{both}
use Rattle.run_history.proofs.StartAttempts.{AttemptHolds, Counted, NodeHolds}
use Rattle.status_report.specs.declared.entry.Entry.{Entry}
use Rattle.run_history.specs.Marks.{ActSo, DoingSo}
use Rattle.status_report.specs.declared.node_entry.NodeEntry.TheVariants as note
use Rattle.wire.specs.declared.message.Body.{Body}
use Rattle.wire.specs.declared.message.Body.TheVariants as body
use Rattle.wire.specs.declared.message.Install.{Install}
use Rattle.run_lines.specs.writes.Covers.{AttemptApart, Covers, HandCovers, InstallCovers, NodeApart, OutputCovers}
use Rattle.run_lines.specs.writes.Sites.{ArePlain, FactsAt, PlainBody}
use Rattle.run_lines.proofs.writes.Joining.{ChangeCovers}
use Rattle.run_lines.proofs.writes.Own.{reached_by}
use Rattle.run_lines.proofs.writes.Plain.{act_plain, last_plain, spread_all}
use Rattle.run_lines.proofs.writes.Readings.{held_read}

-- ---- installs

covers_stay : (M N : Memberships) (i : Install) → Grows M N → InstallCovers M i → InstallCovers N i
covers_stay M N i g h =
    let counted : (N.epoch i.epoch).counted ≡ true = (g.epoch i.epoch).counted h.counted in
    record { counted = counted; read = λ d is. h.read d (sym ((g.epoch i.epoch).holds h.counted d) ∙ is) }

pub body_covers_stay : (M N : Memberships) (b : Body) → Grows M N → Covers M b → Covers N b
body_covers_stay M N (body.Install i) g h = covers_stay M N i g h
body_covers_stay M N (body.Heartbeat promised session is_one) g h = tt
body_covers_stay M N (body.Collect p members) g h = tt
body_covers_stay M N (body.Promise p newest members valid flagged committed pending) g h = tt
body_covers_stay M N (body.Nack p promised) g h = tt
body_covers_stay M N (body.SeizeQuorum p members d) g h = tt
body_covers_stay M N (body.SeizeData p members d) g h = tt
body_covers_stay M N (body.Seized p d outcome) g h = tt
body_covers_stay M N (body.Ready p devices report) g h = tt
body_covers_stay M N (body.Start p) g h = tt
body_covers_stay M N (body.Prepare p place text) g h = tt
body_covers_stay M N (body.Prepared p place) g h = tt
body_covers_stay M N (body.Commit p place) g h = tt
body_covers_stay M N (body.Order o) g h = tt
body_covers_stay M N (body.Done p number outcome) g h = tt
body_covers_stay M N (body.Request p number text) g h = tt
body_covers_stay M N (body.Answer p number text) g h = tt
body_covers_stay M N (body.Excluded p newest) g h = tt

pub hand_covers_stay : (M N : Memberships) (told : Delivered) → Grows M N → HandCovers M told → HandCovers N told
hand_covers_stay M N None g h = tt
hand_covers_stay M N (Some d) g h = body_covers_stay M N d.1.body g h

pub outputs_cover_stay : (M N : Memberships) (os : List Output) → Grows M N → AllByRecursion (OutputCovers M) os → AllByRecursion (OutputCovers N) os
outputs_cover_stay M N [] g h = tt
outputs_cover_stay M N (Tells e ∷ os) g h = (tt, outputs_cover_stay M N os g h.1)
outputs_cover_stay M N (Sends to b ∷ os) g h = (body_covers_stay M N b g h.0, outputs_cover_stay M N os g h.1)

-- an attempt that installs reads what it holds
own_covers : (M : Memberships) (a : AttemptState) → IsReached a → Counted M a → AttemptApart (Some a) → InstallCovers M (install_in a)
own_covers M a r h apart = record {
  counted = subst (λ q. (M.epoch q).counted ≡ true) (sym (install_epoch a)) h.counted;
  read = λ d is. held_read a d r apart (sym (h.holds d) ∙ subst (λ q. (M.epoch q).holds d ≡ true) (install_epoch a) is);
}

write_covers_by : (M : Memberships) (x : UpNode) (i : Install) (o : Option AttemptState) → x.attempt ≡ o → Facts x → AttemptHolds M o → AttemptApart o → OfAttempt (λ a. (a.phase ≡ Installing) × (i ≡ install_in a)) o
    → InstallCovers M i
write_covers_by M x i None own f h apart may = absurd may
write_covers_by M x i (Some a) own f h apart may = subst (InstallCovers M) (sym may.1) (own_covers M a (reached_by x a f own) (h may.0) apart)

write_covers : (M : Memberships) (x : UpNode) (b : Body) → Facts x → MayWrite x b → AttemptHolds M x.attempt → AttemptApart x.attempt → Covers M b
write_covers M x (body.Install i) f may h apart = write_covers_by M x i x.attempt refl f h apart may
write_covers M x (body.Heartbeat promised session is_one) f may h apart = tt
write_covers M x (body.Collect p members) f may h apart = tt
write_covers M x (body.Promise p newest members valid flagged committed pending) f may h apart = tt
write_covers M x (body.Nack p promised) f may h apart = tt
write_covers M x (body.SeizeQuorum p members d) f may h apart = tt
write_covers M x (body.SeizeData p members d) f may h apart = tt
write_covers M x (body.Seized p d outcome) f may h apart = tt
write_covers M x (body.Ready p devices report) f may h apart = tt
write_covers M x (body.Start p) f may h apart = tt
write_covers M x (body.Prepare p place text) f may h apart = tt
write_covers M x (body.Prepared p place) f may h apart = tt
write_covers M x (body.Commit p place) f may h apart = tt
write_covers M x (body.Order o) f may h apart = tt
write_covers M x (body.Done p number outcome) f may h apart = tt
write_covers M x (body.Request p number text) f may h apart = tt
write_covers M x (body.Answer p number text) f may h apart = tt
write_covers M x (body.Excluded p newest) f may h apart = tt

plain_covers : (M : Memberships) (os : List Output) → ArePlain os → AllByRecursion (OutputCovers M) os
plain_covers M [] h = tt
plain_covers M (Tells e ∷ os) h = (tt, plain_covers M os h.1)
plain_covers M (Sends to b ∷ os) h = (by_body b h.0, plain_covers M os h.1)
  where
    by_body : (b : Body) → PlainBody b → Covers M b
    by_body (body.Install i) is = absurd is
    by_body _ is = tt

-- P of the outputs of a change, where it is of each that is plain and of each line
pub record OfPlain (P : Output → Type 0) : Type 1 where
  pub plain : (os : List Output) → ArePlain os → AllByRecursion P os
  pub line : (e : Entry) → P (Tells e)

pub first_of_change : (P : Output → Type 0) → OfPlain P → (n : ℕ) (ch : Change) → AllByRecursion P (first_lines n ch)
first_of_change P h n (Admits at command a d) = (h.line _, tt)
first_of_change P h n (Proposes s p text) = (h.line _, tt)
first_of_change P h n _ = tt

last_of_change : (P : Output → Type 0) → OfPlain P → (c : Cluster) (n : ℕ) (x : UpNode) (ch : Change) → AllByRecursion P (last_lines c n x ch)
last_of_change P h c n x (Counts a k s i) = (h.line _, tt)
last_of_change P h c n x (Installs s i) = (h.line _, tt)
last_of_change P h c n x (Promises p) = h.plain (last_lines c n x (Promises p)) (last_plain c n x (Promises p) tt)
last_of_change P h c n x (Leads p members) = h.plain (last_lines c n x (Leads p members)) (last_plain c n x (Leads p members) tt)
last_of_change P h c n x (Starts a k s) = h.plain (last_lines c n x (Starts a k s)) (last_plain c n x (Starts a k s) tt)
last_of_change P h c n x (Sits s e) = (h.line _, tt)
last_of_change P h c n x (Acks s p q left text) = (h.line _, tt)
last_of_change P h c n x (Distrusts d) = tt
last_of_change P h c n x (Admits at command a d) = tt
last_of_change P h c n x (Proposes s p text) = tt
last_of_change P h c n x (Prepares s text) = tt
last_of_change P h c n x (Commits s) = tt

pub saved_change : (P : Output → Type 0) → OfPlain P → (c : Cluster) (n : ℕ) (x : UpNode) (ch : Change) → AllByRecursion P (first_lines n ch ++ of_node n note.Saved ∷ last_lines c n x ch)
saved_change P h c n x ch = both P (first_lines n ch) (of_node n note.Saved ∷ last_lines c n x ch) (first_of_change P h n ch) (h.line _, last_of_change P h c n x ch)

made_change : (P : Output → Type 0) → OfPlain P → (c : Cluster) (n : ℕ) (x : UpNode) (ch : Change) → AllByRecursion P (first_lines n ch ++ last_lines c n x ch)
made_change P h c n x ch = both P (first_lines n ch) (last_lines c n x ch) (first_of_change P h n ch) (last_of_change P h c n x ch)

-- .. and of an act, where it is of the message that it may write
pub act_tells : (P : Output → Type 0) → OfPlain P → (c : Cluster) (n : ℕ) (told : Delivered) (x : UpNode) (a : Act) → MayAct c n told x a → ActSo a → ((to : ℕ) (b : Body) → a ≡ Writes to b → P (Sends to b))
    → ((receivers to : ℕ) (b : Body) → a ≡ Spreads receivers b → P (Sends to b)) → AllByRecursion P (said c n x a)
act_tells P h c n told x (Writes to b) may so write spread = (write to b refl, tt)
act_tells P h c n told x (Spreads receivers b) may so write spread = spread_all P receivers b (λ to. spread receivers to b refl)
act_tells P h c n told x (Makes change) may so write spread = made_change P h c n x change
act_tells P h c n told x (Takes at command a) may so write spread = (h.line _, tt)
act_tells P h c n told x (Gives os) may so write spread = h.plain os (act_plain c n x (Gives os) (may, so))
act_tells P h c n told x Ticks may so write spread = h.plain (said c n x Ticks) (act_plain c n x Ticks tt)
act_tells P h c n told x (Ends a e) may so write spread = h.plain (said c n x (Ends a e)) (act_plain c n x (Ends a e) tt)
act_tells P h c n told x (Stores d value a) may so write spread = h.plain (said c n x (Stores d value a)) (act_plain c n x (Stores d value a) tt)
act_tells P h c n told x (Hears from b) may so write spread = tt
act_tells P h c n told x Waits may so write spread = tt
act_tells P h c n told x (Goes_on a k) may so write spread = tt
act_tells P h c n told x (Queues a d kind) may so write spread = tt
act_tells P h c n told x (Accepts kind e members d) may so write spread = tt
act_tells P h c n told x (Minds q p) may so write spread = tt
act_tells P h c n told x (Notes from place p) may so write spread = tt
act_tells P h c n told x (Dates now) may so write spread = tt
act_tells P h c n told x (Works w) may so write spread = tt

of_covers : (M : Memberships) → OfPlain (OutputCovers M)
of_covers M = record { plain = plain_covers M; line = λ e. tt }

pub doing_covers : (c : Cluster) (M : Memberships) (n : ℕ) (told : Delivered) (node : Node) (disk : NodeRecord) (d : Doing) → FactsAt n node disk → May c n told (site node disk) d → DoingSo d
    → NodeHolds M node → NodeApart node → AllByRecursion (OutputCovers M) (gives c n (site node disk) d)
doing_covers c M n told node disk Comes_up f may so h apart = (tt, tt)
doing_covers c M n told node disk (Goes_down why) f may so h apart = (tt, tt)
doing_covers c M n told Down disk (Does a) f may so h apart = tt
doing_covers c M n told (Up x) disk (Does a) f may so h apart =
    act_tells (OutputCovers M) (of_covers M) c n told x a may so
    (λ to b is. write_covers M x b f.0 (subst (MayAct c n told x) is may) h apart) (λ receivers to b is. write_covers M x b f.0 (subst (MayAct c n told x) is may) h apart)
doing_covers c M n told Down disk (Saves ch) f may so h apart = tt
doing_covers c M n told (Up x) disk (Saves ch) f may so h apart = saved_change (OutputCovers M) (of_covers M) c n x ch
doing_covers c M n told node disk (Loses ch why) f may so h apart = both (OutputCovers M) (first_lines n ch) (gone_line n why) (first_of_change (OutputCovers M) (of_covers M) n ch) (tt, tt)
doing_covers c M n told node disk (Forgets ch why) f may so h apart = both (OutputCovers M) (first_lines n ch) (gone_line n why) (first_of_change (OutputCovers M) (of_covers M) n ch) (tt, tt)

-- what an install that is saved covers, in the machine after it
hand_install : (N : Memberships) (told : Delivered) (i : Install) → HandCovers N told → Says (λ b. b ≡ body.Install i) told → InstallCovers N i
hand_install N None i hand may = absurd may
hand_install N (Some d) i hand may = subst (Covers N) may hand

pub change_covers : (c : Cluster) (N : Memberships) (n : ℕ) (told : Delivered) (x : UpNode) (ch : Change) → Facts x → AreApart (numbers_of c.attached) → MayChange c n told x ch → HandCovers N told
    → AttemptHolds N (changed c n x ch).attempt → AttemptApart (changed c n x ch).attempt → ChangeCovers N ch
change_covers c N n told x (Counts a k s i) f apart may hand h sound =
    let r : IsReached a = reached_by x a f may.0 in
    let take : MayTake a k = may_be_called c told a k may.2 in
    let by : ((turn a k).after.phase ≡ Installing) × (i ≡ install_in (turn a k).after) = (goes_by_call a k take (chosen_reached a r)).install i may.3 in
    subst (InstallCovers N) (sym by.1) (own_covers N (turn a k).after (reached_more a k take r) (h by.0) sound)
change_covers c N n told x (Installs s i) f apart may hand h sound = hand_install N told i hand may.1
change_covers c N n told x (Promises p) f apart may hand h sound = tt
change_covers c N n told x (Leads p members) f apart may hand h sound = tt
change_covers c N n told x (Starts a k s) f apart may hand h sound = tt
change_covers c N n told x (Sits s e) f apart may hand h sound = tt
change_covers c N n told x (Distrusts d) f apart may hand h sound = tt
change_covers c N n told x (Admits at command a d) f apart may hand h sound = tt
change_covers c N n told x (Proposes s p text) f apart may hand h sound = tt
change_covers c N n told x (Acks s p q left text) f apart may hand h sound = tt
change_covers c N n told x (Prepares s text) f apart may hand h sound = tt
change_covers c N n told x (Commits s) f apart may hand h sound = tt
