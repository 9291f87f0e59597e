-- A start of the node's own: its base has what it has installed, which is the newest of the records in hand.
use Rattle.std.specs.Prelude.{ℕ, ◌≡◌, ◌<◌, ◌==◌, ◌++◌, Bool, true, false, List, [], ◌∷◌, Option, None, Some, IfSome, is_some, option_map, length}
use Rattle.std.specs.List.{list_all, list_any}
use Rattle.std.specs.Option.{option_to_list}
use Rattle.std.proofs.Common.{refl, sym, ap, subst, ◌∙◌}
use Rattle.std.proofs.lemmas.List.{append-nil}
use Rattle.attempt_laws.proofs.Goes.{ChosenIn, chosen_reached}
use Rattle.attempt_laws.proofs.MachineLemmas.{starts_follow}
use Rattle.attempt_laws.proofs.Stays.{plan_stays}
use Rattle.attempt_laws.proofs.Told.{member_of_plan}
use Rattle.ccr_commit.specs.Entries as entries
use Rattle.ccr_commit.specs.Entries.{listed, texts_of}
use Rattle.cmm_attempt.specs.Attempts.{AttemptState, install_in}
use Rattle.cmm_attempt.specs.Calls.{Call, turn}
use Rattle.cmm_attempt.specs.Promises.{has_promised}
use Rattle.cmm_attempt.specs.Seizings.{held_set}
use Rattle.cmm_attempt.specs.declared.phase.Phase.TheVariants.{Installing}
use Rattle.cmm_member.specs.Nodes.{NodeState, started}
use Rattle.cmm_member.specs.Records.{NodeRecord}
use Rattle.history.specs.Contents.{HasNewestTexts, IsInstalledBase, IsNewestBase}
use Rattle.history.specs.Deeds.{deeds}
use Rattle.history.specs.Member.{installed_of}
use Rattle.history.specs.Moment.{Moment}
use Rattle.history.specs.Order.{before_last}
use Rattle.history.specs.Records.{NodeRecord as Shown, all_committed, base_record, own_record, promises, record_of, records_told}
use Rattle.history.specs.Seizing.{is_start, or_else}
use Rattle.history.specs.Setting.{coordinator}
use Rattle.history.specs.Starts.{Start}
use Rattle.history.specs.Trace.{member}
use Rattle.machine_base.specs.Epochs as machine
use Rattle.membership_machine.proofs.Growth.{grows_same}
use Rattle.membership_machine.specs.Growth.{Grows}
use Rattle.membership_machine.specs.State.{Memberships}
use Rattle.node_model.specs.Attempts.{base_lines}
use Rattle.node_model.specs.Seats.{record_of as kept_record, state_of}
use Rattle.node_model.specs.declared.cluster.Cluster.{Cluster}
use Rattle.node_model.specs.declared.node.Node.TheVariants.{Up}
use Rattle.node_model.specs.declared.node.UpNode.{UpNode}
use Rattle.node_model.specs.declared.output.Output.{Output}
use Rattle.node_model.specs.declared.seat.Seat.TheVariants.{Forming}
use Rattle.refinement.specs.Doings.{changed, site}
use Rattle.refinement.specs.Doings.Change.{Starts}
use Rattle.refinement.specs.Guards.{MayChange}
use Rattle.refinement.specs.Runs.{Nodes}
use Rattle.refinement.specs.Ties.{Coordinates, CountedIn, Delivered, InstallTold, SeatTied, setting_of}
use Rattle.refinement.proofs.Attempts.{install_epoch, may_be_called}
use Rattle.status_report.specs.declared.entry.Entry.TheVariants as entry
use Rattle.status_report.specs.declared.node_entry.NodeEntry.TheVariants as note
use Rattle.status_report.specs.declared.start_entry.StartEntry.TheVariants as start_entry
use Rattle.run_history.specs.Scenes.{Scene, passing, telling}
use Rattle.run_history.proofs.Changes.{At, forming_attempt}
use Rattle.run_history.proofs.Heard.{own_of}
use Rattle.run_messages.specs.records.Kept.{AttemptKept, Goes, HeardFrom, brought_by}
use Rattle.run_messages.specs.records.Losses.{NoUpdate}
use Rattle.run_messages.specs.records.Shown.{IsOf, shown}
use Rattle.run_messages.specs.records.Sound.{AllSound}
use Rattle.run_messages.proofs.records.Bases.{Standing, StartSo, bases_stand, start_stands}
use Rattle.run_messages.proofs.records.Changes.{Tied, disk_is, member_site}
use Rattle.run_messages.proofs.records.Counts.{kept_of}
use Rattle.run_messages.proofs.records.Grow.{judged_more}
use Rattle.run_messages.proofs.records.Heard.{member_heard}
use Rattle.run_messages.proofs.records.InHand.{base_is_newest}
use Rattle.run_messages.proofs.records.Joins.{machine_own, maybe_installed, maybe_record, maybe_rest, maybe_saving, or_so}
use Rattle.run_messages.proofs.records.Own.{Rest, Same, own_member, own_rest, rest_of, with_here}
use Rattle.run_messages.proofs.records.Sends.{if_so, is_same, outputs_go}
use Rattle.run_messages.proofs.records.Outputs.{AreStillLines, lines_record, still_lines}

not_true : (b : Bool) → (b ≡ true → ⊥) → b ≡ false
not_true true h = absurd (h refl)
not_true false h = refl

false_true : false ≡ true → ⊥
false_true h = cc

-- ---- what is known of a start

same_list : (pending : Option (List ℕ)) → listed pending ≡ option_to_list pending
same_list None = refl
same_list (Some text) = refl

record Starting (c : Cluster) (M N : Memberships) (n : ℕ) (ms : List Moment) (disk : NodeRecord) (a : AttemptState) (q : NodeState) : Type 0 where
  own : coordinator a.plan.epoch ≡ n
  installed : q.saved.installed ≡ a.plan.epoch
  base : texts_of q.saved.entries ≡ (M.epoch a.plan.epoch).base
  newest : (o : Shown) → IsOf o ((N.node n).showed a.plan.epoch) → HasNewestTexts (M.epoch a.plan.epoch).base (o ∷ records_told (promises a.plan.epoch ms))

starting_so : (c : Cluster) (M : Memberships) (n : ℕ) (told : Delivered) (N : Memberships) (disk : NodeRecord) (x : UpNode) (a : AttemptState) (k : Call) (q : NodeState) (ms : List Moment) → At c M n told disk x
    → MayChange c n told x (Starts a k q) → AllSound M ms → Grows M N → AttemptKept N ms n (kept_record x) a → Starting c M N n ms disk a q
starting_so c M n told N disk x a k q ms at may sound g kept =
    let tied : SeatTied c M n disk (Some a) (Forming q) = forming_attempt c M n told disk x a q at may.0 may.1 in
    let co : Coordinates c M n q a = tied.2 in
    let phase : a.phase ≡ Installing = starts_follow a k co.reached (may_be_called c told a k may.2) may.3 in
    let counted_in : (q.saved.installed ≡ a.plan.epoch) × InstallTold M (install_in a) × (q.saved.members ≡ a.plan.members) = subst (CountedIn M q a) phase co.counted in
    let e : ℕ = a.plan.epoch in
    let number : (install_in a).epoch ≡ e = install_epoch a in
    let own : coordinator e ≡ n = own_of c M n q a co in
    let counted : (M.epoch e).counted ≡ true = subst (λ z. (M.epoch z).counted ≡ true) number counted_in.1.counted in
    let session : (M.node n).session ≡ e = tied.0.session ∙ sym co.epoch in
    let some : 0 < (M.node n).session = subst (λ z. 0 < z) (sym session) ((at.holds.epoch e).tried_positive co.has.tried) in
    let unstarted : (M.epoch e).started ≡ false =
    not_true (M.epoch e).started (λ is. false_true (sym tied.0.member ∙ (at.holds.leads n).sits some (ap machine.coordinator session ∙ machine_own e n own) (subst (λ z. (M.epoch z).started ≡ true) (sym session) is))) in
    let here : kept_record x ≡ q.saved = ap (λ z. (state_of z).saved) may.1 in
    let texts : texts_of q.saved.entries ≡ (brought_by (install_in a)).texts =
    ap (λ xs. q.saved.entries.committed ++ xs) (same_list q.saved.entries.pending) ∙ ap (λ (r : Shown). r.texts) (ap shown (sym here) ∙ kept.installs phase) in
    let base : (M.epoch e).base ≡ (brought_by (install_in a)).texts =
    ap (λ z. (M.epoch z).base) (sym number) ∙ (counted_in.1.base ∙ ap (λ xs. (install_in a).committed ++ xs) (same_list (install_in a).pending)) in
    let member : (M.epoch e).members n ≡ true = subst (λ z. (M.epoch e).members z ≡ true) (machine_own e n own) ((at.holds.epoch e).tried_member co.has.tried) in
    let answered : (M.node n).answered e ≡ true = (at.holds.epoch e).counted_answered counted n member in
    let among : list_any (λ m. m == (M.epoch e).newest) a.plan.nodes ≡ true =
    member_of_plan M a (M.epoch e).newest co.has ∙ (sym (co.has.members (M.epoch e).newest) ∙ (at.holds.epoch e).newest_member counted) in
    let came : HeardFrom ms n e (M.epoch e).newest = member_heard ms n e (M.epoch e).newest a.promises a.plan.nodes among (all_chosen phase (chosen_reached a co.reached)) kept.heard in
    record {
      own = own;
      installed = counted_in.0;
      base = texts ∙ sym base;
      newest = λ o is.
          base_is_newest (setting_of c) M n e ms o at.holds (grows_same (setting_of c) M at.holds) counted unstarted sound member answered
          (subst (λ z. IsOf o z) ((g.node n).showed e answered) is) came;
    }
  where
    all_chosen : a.phase ≡ Installing → ChosenIn a a.phase → list_all (has_promised a.promises) a.plan.nodes ≡ true
    all_chosen is h = (subst (λ p. ChosenIn a p) is h).0

-- ---- its laws

when : (o : Option Shown) (P : Shown → Type 0) (r : Shown) → o ≡ Some r → IfSome o P → P r
when o P r is h = subst (λ z. IfSome z P) is h

installed_base : (n : ℕ) (ms after : List Moment) (st : Start) (disk : NodeRecord) (all : List (List ℕ)) → coordinator st.epoch ≡ n → before_last (is_start st.epoch) after ≡ ms → IfSome (record_of n ms) (λ r. r ≡ shown disk)
    → all ≡ (shown disk).texts → IsInstalledBase after st all
installed_base n ms after st disk all own last told is =
    subst (λ z. IfSome (record_of (coordinator st.epoch) z) (λ r. r.installed ≡ st.epoch → all ≡ r.texts)) (sym last)
    (subst (λ k. IfSome (record_of k ms) (λ r. r.installed ≡ st.epoch → all ≡ r.texts)) (sym own) (each (record_of n ms) told))
  where
    each : (o : Option Shown) → IfSome o (λ r. r ≡ shown disk) → IfSome o (λ r. r.installed ≡ st.epoch → all ≡ r.texts)
    each None h = tt
    each (Some r) h = λ at. is ∙ ap (λ (z : Shown). z.texts) (sym h)

newest_base : (ms after : List Moment) (st : Start) (all whole : List (List ℕ)) (P : Shown → Type 0) → Same ms after → all ≡ whole → IfSome (own_record st.epoch ms) P → ((o : Shown) → P o → HasNewestTexts whole (o ∷ records_told (promises st.epoch ms)))
    → IsNewestBase after st all
newest_base ms after st all whole P same is first newest =
    subst (λ o. IfSome (option_map (λ own. own ∷ records_told (promises st.epoch after)) o) (λ records. HasNewestTexts all records)) (sym (same.first_so st.epoch))
    (subst (λ ls. IfSome (option_map (λ own. own ∷ records_told ls) (own_record st.epoch ms)) (λ records. HasNewestTexts all records)) (sym (same.promises_so st.epoch)) (each (own_record st.epoch ms) first))
  where
    each : (o : Option Shown) → IfSome o P → IfSome (option_map (λ own. own ∷ records_told (promises st.epoch ms)) o) (λ records. HasNewestTexts all records)
    each None h = tt
    each (Some own) h = subst (λ us. HasNewestTexts us (own ∷ records_told (promises st.epoch ms))) (sym is) (newest own h)

-- ---- the change

maybe_sound : (b : Bool) (n : ℕ) (M : Memberships) (s : Scene) → AllSound M s.moments → AllSound M (maybe_saving b n s).moments
maybe_sound true n M s h = (tt, h)
maybe_sound false n M s h = h

maybe_kept : (b : Bool) (n : ℕ) (N : Memberships) (s : Scene) (r : NodeRecord) (a : AttemptState) → AttemptKept N s.moments n r a → AttemptKept N (maybe_saving b n s).moments n r a
maybe_kept true n N s r a h = record { own = h.own; first = h.first; answered = h.answered; heard = h.heard; epoch = h.epoch; installs = h.installs }
maybe_kept false n N s r a h = h

abbrev pub started_scene : ℕ → ℕ → ℕ → ℕ → List (List ℕ) → List Output → Scene → Scene
started_scene n e members held all adopted s =
    telling (entry.Node n (note.Member e)) (passing n adopted (passing n (base_lines e 0 all) (telling (entry.Start (start_entry.Started e members held (length all))) s)))

pub starts_goes : (c : Cluster) (M : Memberships) (n : ℕ) (told : Delivered) (v : Nodes) (N : Memberships) (disk : NodeRecord) (x : UpNode) (a : AttemptState) (k : Call) (q : NodeState) (adopted : List Output) (s : Scene) (b : Bool) → At c M n told disk x
    → MayChange c n told x (Starts a k q) → NoUpdate told → AllSound M s.moments → Grows M N → Tied c N n (changed c n x (Starts a k q)) → AreStillLines adopted → Goes n told v N (site (Up x) disk) s
    → Goes n told v N (site (Up (changed c n x (Starts a k q))) (kept_record (changed c n x (Starts a k q))))
    (started_scene n (turn a k).after.plan.epoch (turn a k).after.plan.members (held_set (turn a k).after.devices) (entries.all_committed q.saved.entries).committed adopted (maybe_saving b n s))
starts_goes c M n told v N disk x a k q adopted s b at may none sound g t still h =
    let y : UpNode = changed c n x (Starts a k q) in
    let p : AttemptState = (turn a k).after in
    let e : ℕ = p.plan.epoch in
    let all : List (List ℕ) = texts_of q.saved.entries in
    let s0 : Scene = maybe_saving b n s in
    let ms : List Moment = s0.moments in
    let old : AttemptKept N ms n (kept_record x) a = maybe_kept b n N s (kept_record x) a (kept_of N s.moments n (kept_record x) x.attempt a may.0 h.here.up.attempt) in
    let f : Starting c M N n ms disk a q = starting_so c M n told N disk x a k q ms at may (maybe_sound b n M s sound) g old in
    let same : e ≡ a.plan.epoch = ap (λ z. z.epoch) (plan_stays a k (may_be_called c told a k may.2)) in
    let own : coordinator e ≡ n = ap coordinator same ∙ f.own in
    let st : Start = record { epoch = e; members = p.plan.members; held = held_set p.devices; count = length all } in
    let kept : q.saved ≡ disk = sym (ap (λ z. (state_of z).saved) may.1) ∙ disk_is c M n told disk x at in
    let told_so : IfSome (record_of n ms) (λ r. r ≡ shown disk) = subst (λ o. IfSome o (λ r. r ≡ shown disk)) (sym (maybe_record b n told s none h.hand)) h.here.record_so in
    let law : StartSo ms st all = λ after over last. (
      installed_base n ms after st disk all own last told_so (ap (λ xs. q.saved.entries.committed ++ xs) (same_list q.saved.entries.pending) ∙ ap (λ (r : NodeRecord). (shown r).texts) kept),
      newest_base ms after st all (M.epoch a.plan.epoch).base (λ o. IsOf o ((N.node n).showed a.plan.epoch)) over f.base
          (subst (λ z. IfSome (own_record z ms) (λ o. IsOf o ((N.node n).showed a.plan.epoch))) (sym same) old.first)
          (λ o is. subst (λ z. HasNewestTexts (M.epoch a.plan.epoch).base (o ∷ records_told (promises z ms))) (sym same) (f.newest o is)),
    ) in
    let one : Rest n told v N s0 = maybe_rest b n told v N s (rest_of n told v N (site (Up x) disk) s h) in
    let s1 : Scene = telling (entry.Start (start_entry.Started e p.plan.members (held_set p.devices) (length all))) s0 in
    let s2 : Scene = passing n (base_lines e 0 all) s1 in
    let two : Standing n told v N ms st all s2 =
    bases_stand n told v N ms st all own refl law [] all s1 refl (start_stands n told v N e p.plan.members (held_set p.devices) (length all) all s0 own refl law one) in
    let is : record_of n s2.moments ≡ Some (record { installed = e; texts = all; pending = false }) = two.record_so refl in
    let shows : record { installed = e; texts = all; pending = false } ≡ shown (kept_record y) =
    ap (λ z. record { installed = z; texts = all; pending = false }) (same ∙ sym f.installed) ∙ ap (λ xs. record { installed = q.saved.installed; texts = xs; pending = false }) (sym (append-nil all)) in
    let inst : installed_of n s2.moments ≡ installed_of n s.moments = two.installed_so ∙ maybe_installed b n s in
    let three : Goes n told v N (site (Up y) (kept_record y)) s2 =
    with_here n told v N (site (Up y) (kept_record y)) s2 two.rest
    (member_site c N n y (started q) s2.moments refl t (subst (λ o. IfSome o (λ r. r ≡ shown (kept_record y))) (sym is) shows)
    (subst (λ o. IfSome o (λ z. z ≡ q.saved.installed)) (sym inst) (subst (λ (r : NodeRecord). IfSome (installed_of n s.moments) (λ z. z ≡ r.installed)) (sym kept) h.here.installed))) in
    let s3 : Scene = passing n adopted s2 in
    let four : Goes n told v N (site (Up y) (kept_record y)) s3 = outputs_go n told v N (site (Up y) (kept_record y)) adopted s2 (still_lines n adopted still) three in
    let five : Rest n told v N (telling (entry.Node n (note.Member e)) s3) =
    own_rest n told v N s3 (entry.Node n (note.Member e)) (own_member n s3.moments e) (judged_more s3.moments (member n e) tt tt refl four.judged) (rest_of n told v N (site (Up y) (kept_record y)) s3 four) in
    with_here n told v N (site (Up y) (kept_record y)) (telling (entry.Node n (note.Member e)) s3) five
    (member_site c N n y (started q) (member n e ∷ s3.moments) refl t
    (subst (λ o. IfSome o (λ r. r ≡ shown (kept_record y))) (sym (if_so (n == n) (or_else (option_map all_committed (record_of n s3.moments)) (base_record e (deeds s3.moments))) (record_of n s3.moments) (is_same n)))
    (or_so (record_of n s3.moments) (base_record e (deeds s3.moments)) all_committed (shown (kept_record y)) (shown (kept_record y)) (ap is_some (lines_record n adopted s2 still) ∙ ap is_some is) refl four.here.record_so))
    four.here.installed)
