-- Through the small steps of a node, one after another: no attempt that starts was told of a device without votes that a key is not registered.
use Rattle.std.specs.Prelude.{All, ℕ, ◌≤◌, ◌++◌, List, [], ◌∷◌}
use Rattle.std.proofs.Common.{subst, arith}
use Rattle.cl_base.specs.declared.header.Header.{Header}
use Rattle.cmm_attempt.specs.Calls.{IsDevice}
use Rattle.cmm_member.specs.Records.{NodeRecord}
use Rattle.node_model.specs.Seats.{record_of}
use Rattle.node_model.specs.declared.cluster.Cluster.{Cluster}
use Rattle.node_model.specs.declared.node.Node.{Node}
use Rattle.node_model.specs.declared.node.Node.TheVariants.{Down, Up}
use Rattle.node_model.specs.declared.node.UpNode.{UpNode}
use Rattle.node_model.specs.declared.output.Output.{Output}
use Rattle.refinement.specs.Doings.{Act, Change, Doing, Site, after_all, changed, effect, first_lines, gives, gone_line, saved_lines, site}
use Rattle.refinement.specs.Doings.Act.{Makes}
use Rattle.refinement.specs.Doings.Change.{Acks, Admits, Commits, Counts, Distrusts, Installs, Leads, Prepares, Promises, Proposes, Sits, Starts}
use Rattle.refinement.specs.Doings.Doing.{Comes_up, Does, Forgets, Goes_down, Loses, Saves}
use Rattle.refinement.specs.Guards.{May, MayAct, MayAll, MayChange}
use Rattle.refinement.specs.Runs.{Letter, letters_of}
use Rattle.refinement.specs.Ties.{Delivered}
use Rattle.run_history.specs.Guards.{Hand, hand_after}
use Rattle.run_history.specs.Marks.{AllSo, DoingSo}
use Rattle.run_seizings.proofs.Asked.{AllMay, DoingMay}
use Rattle.status_report.specs.declared.node_entry.DownCause.{DownCause}
use Rattle.run_outcomes.proofs.results.Calm.{saved_mute}
use Rattle.run_outcomes.proofs.shown.Deeds.{AllAdmit, Lows, change_lows}
use Rattle.run_outcomes.proofs.shown.Letters.{older}
use Rattle.run_outcomes.proofs.shown.Now.{Now}
use Rattle.run_outcomes.proofs.shown.Walk.{Done, doing_done, on_all, sent_more}
use Rattle.run_outcomes.proofs.unregistered.Acts.{change_kept, may_call}
use Rattle.run_outcomes.proofs.unregistered.Tells.{AllOther, KeptAt, act_done, after_other, in_step, muted_other, none_above}
use Rattle.run_outcomes.specs.accounts.Unregistered.{AttemptKept, NodeKept, StartKept, StartsKept}
use Rattle.run_outcomes.specs.phases.Kept.{In}
use Rattle.run_outcomes.specs.tasks.Shown.{HandSent}

-- ---- what is given as a change is saved, or lost

saved_other : (c : Cluster) (n : ℕ) (x : UpNode) (ch : Change) → AllOther (first_lines n ch ++ saved_lines c n x ch)
saved_other c n x (Admits on command a d) = (tt, (tt, tt))
saved_other c n x (Promises p) = muted_other (first_lines n (Promises p) ++ saved_lines c n x (Promises p)) (saved_mute c n x (Promises p) tt)
saved_other c n x (Leads p members) = muted_other (first_lines n (Leads p members) ++ saved_lines c n x (Leads p members)) (saved_mute c n x (Leads p members) tt)
saved_other c n x (Starts a q s) = muted_other (first_lines n (Starts a q s) ++ saved_lines c n x (Starts a q s)) (saved_mute c n x (Starts a q s) tt)
saved_other c n x (Counts a q s i) = (tt, (tt, tt))
saved_other c n x (Installs s i) = (tt, (tt, tt))
saved_other c n x (Sits s e) = (tt, (tt, tt))
saved_other c n x (Distrusts d) = (tt, tt)
saved_other c n x (Proposes s p text) = (tt, (tt, tt))
saved_other c n x (Acks s p q left text) = (tt, (tt, tt))
saved_other c n x (Prepares s text) = (tt, tt)
saved_other c n x (Commits s) = (tt, tt)

lost_other : (n : ℕ) (ch : Change) (why : DownCause) → AllOther (first_lines n ch ++ gone_line n why)
lost_other n (Admits on command a d) why = (tt, (tt, tt))
lost_other n (Proposes s p text) why = (tt, (tt, tt))
lost_other n _ why = (tt, tt)

-- ---- each small step

at_most : (a b d : ℕ) → a ≤ b → b ≤ d → a ≤ d
at_most a b d i j = omega (arith, i, j)

-- the record that a change leaves has promised no less
saved_so : (L : List Letter) (c : Cluster) (n : ℕ) (told : Delivered) (g : Hand) (x : UpNode) (disk : NodeRecord) (ch : Change) → All IsDevice c.attached → HandSent L told → MayChange c n told x ch → Now L n (site (Up x) disk) g
    → disk.promised ≤ (record_of (changed c n x ch)).promised
saved_so L c n told g x disk ch fits sent may now =
    let k : Lows x (changed c n x ch) = change_lows L c n told g x disk ch fits sent may now in subst (λ (r : NodeRecord). r.promised ≤ (record_of (changed c n x ch)).promised) now.here.up.0 k.rises

doing_kept : (h : Header) (L : List Letter) (c : Cluster) (n : ℕ) (told : Delivered) (g : Hand) (node : Node) (disk : NodeRecord) (d : Doing) → All IsDevice c.attached → HandSent L told → May c n told (site node disk) d
    → DoingMay h n told g (site node disk) d → DoingSo d → Now L n (site node disk) g → KeptAt L n (site node disk) g
    → KeptAt (letters_of n (gives c n (site node disk) d) ++ L) n (effect c n (site node disk) d) (hand_after g d)
doing_kept h L c n told g (Up x) disk (Does a) fits sent may at so now k = act_done h L c n told g x disk a sent may at so now k
doing_kept h L c n told g (Up x) disk (Saves ch) fits sent may at so now k =
    let rises : disk.promised ≤ (record_of (changed c n x ch)).promised = saved_so L c n told g x disk ch fits sent may now in
    after_other L n (site (Up (changed c n x ch)) (record_of (changed c n x ch))) g (first_lines n ch ++ saved_lines c n x ch) (saved_other c n x ch) (record {
      asked = k.asked;
      here = record {
        low = λ e d keys t. at_most e disk.promised (record_of (changed c n x ch)).promised (k.here.low e d keys t) rises;
        up = change_kept L c n told x ch may (may_call h x ch at.0) (none_above L n x disk g now.here.up.0 k) (in_step L n told x disk g sent now k);
      };
      hand = k.hand;
    })
doing_kept h L c n told g (Up x) disk (Loses ch why) fits sent may at so now k =
    let rises : disk.promised ≤ (record_of (changed c n x ch)).promised = saved_so L c n told g x disk ch fits sent may now in
    after_other L n (site Down (record_of (changed c n x ch))) g (first_lines n ch ++ gone_line n why) (lost_other n ch why) (record {
      asked = k.asked;
      here = record { low = λ e d keys t. at_most e disk.promised (record_of (changed c n x ch)).promised (k.here.low e d keys t) rises; up = tt };
      hand = k.hand;
    })
doing_kept h L c n told g node disk (Forgets ch why) fits sent may at so now k =
    after_other L n (site Down disk) g (first_lines n ch ++ gone_line n why) (lost_other n ch why) (record { asked = k.asked; here = record { low = k.here.low; up = tt }; hand = k.hand })
doing_kept h L c n told g node disk (Goes_down why) fits sent may at so now k =
    after_other L n (site Down disk) g (gone_line n why) (tt, tt) (record { asked = k.asked; here = record { low = k.here.low; up = tt }; hand = k.hand })
doing_kept h L c n told g Down disk Comes_up fits sent may at so now k =
    after_other L n (effect c n (site Down disk) Comes_up) g (gives c n (site Down disk) Comes_up) (tt, tt) (record { asked = k.asked; here = record { low = k.here.low; up = record { tasks = tt; attempt = tt } }; hand = k.hand })
doing_kept h L c n told g (Up x) disk Comes_up fits sent may at so now k = absurd may
doing_kept h L c n told g Down disk (Does a) fits sent may at so now k = absurd may
doing_kept h L c n told g Down disk (Saves ch) fits sent may at so now k = absurd may
doing_kept h L c n told g Down disk (Loses ch why) fits sent may at so now k = absurd may

-- ---- where a membership starts

starts_in : (L : List Letter) (c : Cluster) (n : ℕ) (told : Delivered) (x : UpNode) (ch : Change) → MayChange c n told x ch → In (AttemptKept L n) x.attempt → StartKept (Saves ch)
starts_in L c n told x (Starts a q s) may k = (subst (In (AttemptKept L n)) may.0 k).entries
starts_in L c n told x _ may k = tt

acts_in : (L : List Letter) (c : Cluster) (n : ℕ) (told : Delivered) (x : UpNode) (a : Act) → MayAct c n told x a → In (AttemptKept L n) x.attempt → StartKept (Does a)
acts_in L c n told x (Makes (Starts a q s)) may k = (subst (In (AttemptKept L n)) may.0.0 k).entries
acts_in L c n told x _ may k = tt

start_kept : (L : List Letter) (c : Cluster) (n : ℕ) (told : Delivered) (node : Node) (disk : NodeRecord) (d : Doing) → May c n told (site node disk) d → NodeKept L n node → StartKept d
start_kept L c n told (Up x) disk (Does a) may k = acts_in L c n told x a may k.attempt
start_kept L c n told (Up x) disk (Saves ch) may k = starts_in L c n told x ch may k.attempt
start_kept L c n told Down disk (Does a) may k = absurd may
start_kept L c n told Down disk (Saves ch) may k = absurd may
start_kept L c n told node disk Comes_up may k = tt
start_kept L c n told node disk (Goes_down why) may k = tt
start_kept L c n told node disk (Loses ch why) may k = tt
start_kept L c n told node disk (Forgets ch why) may k = tt

-- ---- one after another

pub record Walked (L : List Letter) (c : Cluster) (n : ℕ) (x : Site) (ds : List Doing) : Type 0 where
  pub starts : StartsKept ds
  pub hand : Hand
  pub kept : KeptAt (on_all n c x ds L) n (after_all c n x ds) hand

pub all_kept : (h : Header) (L : List Letter) (c : Cluster) (n : ℕ) (told : Delivered) (g : Hand) (x : Site) (ds : List Doing) → All IsDevice c.attached → HandSent L told → MayAll c n told x ds → AllMay h c n told g x ds
    → AllAdmit c n x ds → AllSo ds → Now L n x g → KeptAt L n x g → Walked L c n x ds
all_kept h L c n told g x [] fits sent may at admit so now k = record { starts = tt; hand = g; kept = k }
all_kept h L c n told g x (d ∷ ds) fits sent may at admit so now k =
    let os : List Output = gives c n x d in
    let y : Site = effect c n x d in
    let M : List Letter = letters_of n os ++ L in
    let one : Done L c n x g d = doing_done h L c n told g x.node x.disk d fits sent may.0 at.0 admit.0 now in
    let rest : Walked M c n y ds =
    all_kept h M c n told (hand_after g d) y ds fits (sent_more L M told (older n os L) sent) may.1 at.1 admit.1 so.1 one.now (doing_kept h L c n told g x.node x.disk d fits sent may.0 at.0 so.0 now k) in
    record { starts = (start_kept L c n told x.node x.disk d may.0 k.here.up, rest.starts); hand = rest.hand; kept = rest.kept }
