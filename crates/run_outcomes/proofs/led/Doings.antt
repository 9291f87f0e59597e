-- Each small step of a node: the line of an end for votes or for a member comes while it leads.
use Rattle.std.specs.Prelude.{ℕ, ◌≡◌, ◌++◌, List, None}
use Rattle.std.proofs.Common.{refl, sym, subst}
use Rattle.cl_base.specs.declared.header.Header.{Header}
use Rattle.cmm_member.specs.Records.{NodeRecord}
use Rattle.membership_machine.specs.State.{Memberships}
use Rattle.node_model.specs.Seats.{session_of}
use Rattle.node_model.specs.declared.cluster.Cluster.{Cluster}
use Rattle.node_model.specs.declared.node.Node.TheVariants.{Down, Up}
use Rattle.node_model.specs.declared.node.UpNode.{UpNode}
use Rattle.node_model.specs.declared.output.Output.{Output}
use Rattle.refinement.specs.Doings.{Act, Change, Doing, acted, effect, first_lines, gives, gone_line, said, site}
use Rattle.refinement.specs.Doings.Act.{Accepts, Dates, Ends, Gives, Goes_on, Hears, Makes, Minds, Notes, Queues, Spreads, Stores, Takes, Ticks, Waits, Works, Writes}
use Rattle.refinement.specs.Doings.Doing.{Comes_up, Does, Forgets, Goes_down, Loses, Saves}
use Rattle.refinement.specs.Guards.{May, MayAct}
use Rattle.refinement.specs.Ties.{Delivered}
use Rattle.run_attempts.proofs.endings.Stands.{act_stands}
use Rattle.run_attempts.specs.endings.Laws.{epoch_of}
use Rattle.run_history.proofs.Changes.{At}
use Rattle.run_history.proofs.Lists.{both}
use Rattle.run_history.specs.Guards.{Hand}
use Rattle.run_history.specs.Marks.{ActSo, DoingSo}
use Rattle.run_history.specs.Scenes.{Scene, passing}
use Rattle.run_seizings.specs.Sites.{InHand, UpSo}
use Rattle.run_seizings.proofs.Acts.{ActMay}
use Rattle.run_seizings.proofs.Asked.{DoingMay}
use Rattle.run_seizings.proofs.Calls.{attempt_of as attempt_so}
use Rattle.status_report.specs.declared.node_entry.DownCause.{DownCause}
use Rattle.run_outcomes.specs.counts.Ends.{ActFits, DoingFits, Last, last_after, last_by}
use Rattle.run_outcomes.specs.saves.Kept.{OnWay}
use Rattle.run_outcomes.proofs.led.Calls.{LastFresh, call_fresh, ends_led, fresh_stays}
use Rattle.run_outcomes.proofs.led.Lines.{AllStill, IsMild, passing_led, still_leaves, still_mild}
use Rattle.run_outcomes.proofs.led.Outputs.{IsQuiet, first_still, said_still}
use Rattle.run_outcomes.proofs.saves.Ways.{still_on}
use Rattle.run_outcomes.proofs.led.Changes.{Led, makes_led, saves_led}

-- ---- in memory

acted_epoch : (c : Cluster) (n : ℕ) (told : Delivered) (x : UpNode) (a : Act) → IsQuiet a → MayAct c n told x a → epoch_of (acted c n x a).attempt ≡ epoch_of x.attempt
acted_epoch c n told x (Ends a why) quiet may = absurd quiet
acted_epoch c n told x (Makes change) quiet may = absurd quiet
acted_epoch c n told x (Goes_on a k) quiet may = (act_stands c n told x (Goes_on a k) tt may).attempt
acted_epoch c n told x (Queues a d kind) quiet may = (act_stands c n told x (Queues a d kind) tt may).attempt
acted_epoch c n told x (Hears from b) quiet may = refl
acted_epoch c n told x Ticks quiet may = refl
acted_epoch c n told x Waits quiet may = refl
acted_epoch c n told x (Accepts kind e members d) quiet may = refl
acted_epoch c n told x (Takes at command a) quiet may = refl
acted_epoch c n told x (Stores d value a) quiet may = refl
acted_epoch c n told x (Writes to b) quiet may = refl
acted_epoch c n told x (Gives os) quiet may = refl
acted_epoch c n told x (Spreads receivers b) quiet may = refl
acted_epoch c n told x (Minds q p) quiet may = refl
acted_epoch c n told x (Notes from place p) quiet may = refl
acted_epoch c n told x (Dates now) quiet may = refl
acted_epoch c n told x (Works w) quiet may = refl

quiet_led : (c : Cluster) (n : ℕ) (told : Delivered) (x : UpNode) (a : Act) (last : Last) (s : Scene) → IsQuiet a → ActSo a → MayAct c n told x a → LastFresh n (passing n (said c n x a) s).moments (last_by last a)
    → Led n (Up x) last s.moments → Led n (Up (acted c n x a)) (last_by last a) (passing n (said c n x a) s).moments
quiet_led c n told x a last s quiet so may fresh k =
    let os : List Output = said c n x a in
    let still : AllStill os = said_still c n x a quiet so in
    record {
      lines = passing_led n os s (still_mild os still) k.lines;
      way = subst (OnWay n (passing n os s).moments) (sym (acted_epoch c n told x a quiet may)) (still_on n n os s (epoch_of x.attempt) (still_leaves os still) k.way);
      fresh = fresh;
    }

-- ---- each small step

act_led : (h : Header) (c : Cluster) (n : ℕ) (told : Delivered) (g : Hand) (x : UpNode) (a : Act) (last : Last) (s : Scene) → ActSo a → MayAct c n told x a → ActMay h n told g x a → ActFits last x a → UpSo h s.moments n x
    → Led n (Up x) last s.moments → Led n (Up (acted c n x a)) (last_by last a) (passing n (said c n x a) s).moments
act_led h c n told g x (Ends a why) last s so may guard fits up k = record { lines = (ends_led h s.moments n x a why last fits.0 fits.1 up k.fresh, k.lines); way = tt; fresh = tt }
act_led h c n told g x (Makes change) last s so may guard fits up k = makes_led c n told x change last s guard may.0 k
act_led h c n told g x (Goes_on a q) last s so may guard fits up k =
    quiet_led c n told x (Goes_on a q) last s tt so may
    (call_fresh h c s.moments n (session_of x) told a q (attempt_so h s.moments n (session_of x) x.attempt a may.0 up.attempt) may.1) k
act_led h c n told g x (Queues a d kind) last s so may guard fits up k = quiet_led c n told x (Queues a d kind) last s tt so may k.fresh k
act_led h c n told g x (Writes to b) last s so may guard fits up k =
    quiet_led c n told x (Writes to b) last s tt so may (fresh_stays n (said c n x (Writes to b)) s last (tt, tt) k.fresh) k
act_led h c n told g x (Hears from b) last s so may guard fits up k = quiet_led c n told x (Hears from b) last s tt so may tt k
act_led h c n told g x Ticks last s so may guard fits up k = quiet_led c n told x Ticks last s tt so may tt k
act_led h c n told g x Waits last s so may guard fits up k = quiet_led c n told x Waits last s tt so may tt k
act_led h c n told g x (Accepts kind e members d) last s so may guard fits up k = quiet_led c n told x (Accepts kind e members d) last s tt so may tt k
act_led h c n told g x (Takes on command a) last s so may guard fits up k = quiet_led c n told x (Takes on command a) last s tt so may tt k
act_led h c n told g x (Stores d value a) last s so may guard fits up k = quiet_led c n told x (Stores d value a) last s tt so may tt k
act_led h c n told g x (Gives os) last s so may guard fits up k = quiet_led c n told x (Gives os) last s tt so may tt k
act_led h c n told g x (Spreads receivers b) last s so may guard fits up k = quiet_led c n told x (Spreads receivers b) last s tt so may tt k
act_led h c n told g x (Minds q p) last s so may guard fits up k = quiet_led c n told x (Minds q p) last s tt so may tt k
act_led h c n told g x (Notes from place p) last s so may guard fits up k = quiet_led c n told x (Notes from place p) last s tt so may tt k
act_led h c n told g x (Dates now) last s so may guard fits up k = quiet_led c n told x (Dates now) last s tt so may tt k
act_led h c n told g x (Works w) last s so may guard fits up k = quiet_led c n told x (Works w) last s tt so may tt k

-- a save that is lost
lost_led : (n : ℕ) (change : Change) (why : DownCause) (last : Last) (s : Scene) (x : UpNode) → Led n (Up x) last s.moments → Led n Down None (passing n (first_lines n change ++ gone_line n why) s).moments
lost_led n change why last s x k = record {
  lines = passing_led n (first_lines n change ++ gone_line n why) s (both IsMild (first_lines n change) (gone_line n why) (still_mild (first_lines n change) (first_still n change)) (tt, tt)) k.lines;
  way = tt;
  fresh = tt;
}

pub doing_led : (h : Header) (c : Cluster) (M : Memberships) (n : ℕ) (told : Delivered) (disk : NodeRecord) (x : UpNode) (g : Hand) (d : Doing) (last : Last) (s : Scene) → At c M n told disk x
    → May c n told (site (Up x) disk) d → DoingSo d → DoingMay h n told g (site (Up x) disk) d → DoingFits last (site (Up x) disk) d → InHand h s.moments n told → UpSo h s.moments n x → Led n (Up x) last s.moments
    → Led n (effect c n (site (Up x) disk) d).node (last_after last d) (passing n (gives c n (site (Up x) disk) d) s).moments
doing_led h c M n told disk x g (Does a) last s at may so guard fits hand up k = act_led h c n told g x a last s so may guard fits up k
doing_led h c M n told disk x g (Saves change) last s at may so guard fits hand up k = saves_led h c M n told disk x change last s at may guard.1 hand up k
doing_led h c M n told disk x g (Loses change why) last s at may so guard fits hand up k = lost_led n change why last s x k
doing_led h c M n told disk x g (Forgets change why) last s at may so guard fits hand up k = lost_led n change why last s x k
doing_led h c M n told disk x g (Goes_down why) last s at may so guard fits hand up k = record { lines = ((tt, tt), k.lines); way = tt; fresh = tt }
doing_led h c M n told disk x g Comes_up last s at may so guard fits hand up k = absurd may

-- a node that is down comes up, or nothing comes of it
pub down_led : (c : Cluster) (n : ℕ) (told : Delivered) (disk : NodeRecord) (d : Doing) (last : Last) (s : Scene) → May c n told (site Down disk) d → Led n Down last s.moments
    → Led n (effect c n (site Down disk) d).node (last_after last d) (passing n (gives c n (site Down disk) d) s).moments
down_led c n told disk Comes_up last s may k = record { lines = ((tt, tt), k.lines); way = tt; fresh = tt }
down_led c n told disk (Goes_down why) last s may k = absurd may
down_led c n told disk (Does a) last s may k = absurd may
down_led c n told disk (Saves change) last s may k = absurd may
down_led c n told disk (Loses change why) last s may k = absurd may
down_led c n told disk (Forgets change why) last s may k = absurd may
