-- Each small step of a node: whom it tells of an exclusion, and why it panics for one.
use Rattle.std.specs.Prelude.{ℕ, ◌≡◌, ◌≢◌, ◌⊎◌, ◌++◌, ◌||◌, Bool, true, false, List, [], ◌∷◌, Option, None, Some}
use Rattle.std.specs.List.{list_any}
use Rattle.std.specs.Option.{unwrap_or}
use Rattle.std.proofs.Common.{refl, sym, subst, ◌∙◌, inl, inr}
use Rattle.cl_base.specs.declared.panic.Panic.TheVariants as panic
use Rattle.cmm_attempt.proofs.Basics.{false_true, none_some, same_some}
use Rattle.cmm_attempt.specs.Attempts.{AttemptState, newest_installed}
use Rattle.cmm_attempt.specs.declared.step.AttemptEnd.{AttemptEnd}
use Rattle.cmm_attempt.specs.declared.step.AttemptEnd.TheVariants as end
use Rattle.cmm_member.specs.Records.{NodeRecord}
use Rattle.history.specs.Downs.{is_excluded_by, is_own_exclusion, is_told_excluded}
use Rattle.history.specs.Moment.{Moment, Told}
use Rattle.history.specs.Order.{so_far}
use Rattle.history.specs.Setting.{coordinator}
use Rattle.history.specs.Trace.{ended_excluded}
use Rattle.machine_base.proofs.Puts.{put_here, put_there, same_or_not}
use Rattle.machine_base.specs.Epochs.{coordinator as machine_coordinator}
use Rattle.machine_base.specs.Put.{put}
use Rattle.membership_machine.specs.Invariant.{Holds}
use Rattle.membership_machine.specs.State.{Memberships}
use Rattle.node_model.specs.Attempts.{ended_entry, resting}
use Rattle.node_model.specs.Seats.{session_of}
use Rattle.node_model.specs.declared.cluster.Cluster.{Cluster}
use Rattle.node_model.specs.declared.node.Node.{Node}
use Rattle.node_model.specs.declared.node.Node.TheVariants.{Down, Up}
use Rattle.node_model.specs.declared.node.UpNode.{UpNode}
use Rattle.node_model.specs.declared.output.Output.{Output}
use Rattle.refinement.specs.Doings.{Act, Doing, Site, acted, effect, first_lines, gives, gone_line, of_node, said, saved_lines, site}
use Rattle.refinement.specs.Doings.Act.{Accepts, Dates, Ends, Gives, Goes_on, Hears, Makes, Minds, Notes as Notes_prepared, Queues, Spreads, Stores, Takes, Ticks, Waits, Works, Writes}
use Rattle.refinement.specs.Doings.Doing.{Comes_up, Does, Forgets, Goes_down, Loses, Saves}
use Rattle.refinement.specs.Guards.{May, MayAct, Says}
use Rattle.refinement.specs.Runs.{Nodes}
use Rattle.refinement.specs.Ties.{Delivered, NodeTied, SiteTied, setting_of}
use Rattle.run_outcomes.specs.counts.Ends.{ActFits, DoingFits, Last}
use Rattle.run_outcomes.proofs.counts.Ended.{Tied, tied_of}
use Rattle.run_outcomes.specs.exclusions.Sites.{LastTied, SiteSo}
use Rattle.run_history.specs.Marks.{ActSo, DoingSo}
use Rattle.run_history.specs.Noted.{Notes}
use Rattle.run_history.specs.Scenes.{Scene, passing}
use Rattle.run_history.specs.Stages.{site_of}
use Rattle.run_messages.specs.Outputs.{AreGood}
use Rattle.run_messages.specs.records.Kept.{HandKept}
use Rattle.run_messages.specs.records.Losses.{DoingApart}
use Rattle.status_report.specs.declared.entry.Entry.TheVariants as entry
use Rattle.status_report.specs.declared.node_entry.DownCause.{DownCause}
use Rattle.status_report.specs.declared.node_entry.DownCause.TheVariants as cause
use Rattle.status_report.specs.declared.node_entry.NodeEntry.TheVariants as note
use Rattle.wire.specs.declared.message.Body.{Body}
use Rattle.wire.specs.declared.message.Body.TheVariants as body
use Rattle.run_outcomes.specs.panics.Laws.{PanicsExcluded}
use Rattle.run_outcomes.specs.panics.Notices.{ActSaid, BodySaid, DoingSaid, FallSaid, FreeAct, IsNoticeIn, IsOwn, Notice, notice_after, notice_of}
use Rattle.run_outcomes.specs.panics.Sites.{AllJudged, BodySo, IsPast, LastNamed, NoticeSo}
use Rattle.run_outcomes.proofs.panics.Calm.{AreCalm, gone_calm, said_calm, saved_calm}
use Rattle.run_outcomes.proofs.panics.Leaving.{Leaves, excludes_itself, leaves_so, session_tied, tells_so}
use Rattle.run_outcomes.proofs.panics.Past.{doing_past}
use Rattle.run_outcomes.proofs.panics.Told.{Onward, all_onward, heard_so, passing_judged, posting_judged}

-- all nodes with their disks, while node n is as x has it
abbrev pub sites_with : Nodes → ℕ → Site → ℕ → Site
sites_with v n x = put (site_of v) n x

-- what is known before the step
pub record Stands (c : Cluster) (M : Memberships) (n : ℕ) (told : Delivered) (v : Nodes) (x : Site) (last : Last) (notice : Option Notice) (s : Scene) : Type 0 where
  pub holds : Holds (setting_of c) M
  pub tied : SiteTied c M n x
  pub ties : (k : ℕ) → k ≢ n → SiteTied c M k (site_of v k)
  pub latest : LastTied M last
  pub named : LastNamed last
  pub notes : Notes s.moments n x
  pub hand : HandKept s.moments n told
  pub here : SiteSo s.moments n x
  pub there : (k : ℕ) → k ≢ n → SiteSo s.moments k (site_of v k)
  pub judged : AllJudged (sites_with v n x) s.moments
  pub notice_so : NoticeSo (sites_with v n x) s.moments n notice

-- what is so where node n comes to this site, and the lines to these
pub record Went (n : ℕ) (v : Nodes) (y : Site) (notice : Option Notice) (after : List Moment) : Type 0 where
  pub judged : AllJudged (sites_with v n y) after
  pub notice_so : NoticeSo (sites_with v n y) after n notice

-- ---- what is past

site_onward : (v : Nodes) (n : ℕ) (x y : Site) → ((e : ℕ) → IsPast x e → IsPast y e) → Onward (sites_with v n x) (sites_with v n y)
site_onward v n x y h k e past = by_node (same_or_not k n)
  where
    by_node : (k ≡ n) ⊎ (k ≢ n) → IsPast (sites_with v n y k) e
    by_node (inl at) =
        subst (λ j. IsPast (sites_with v n y j) e) (sym at)
        (subst (λ z. IsPast z e) (sym (put_here (site_of v) n y)) (h e (subst (λ z. IsPast z e) (put_here (site_of v) n x) (subst (λ j. IsPast (sites_with v n x j) e) at past))))
    by_node (inr ne) = subst (λ z. IsPast z e) (sym (put_there (site_of v) n y k ne)) (subst (λ z. IsPast z e) (put_there (site_of v) n x k ne) past)

moved : (c : Cluster) (M : Memberships) (n : ℕ) (told : Delivered) (v : Nodes) (node : Node) (disk : NodeRecord) (d : Doing) (ms : List Moment) → NodeTied c M n disk node → May c n told (site node disk) d
    → AllJudged (sites_with v n (site node disk)) ms → AllJudged (sites_with v n (effect c n (site node disk) d)) ms
moved c M n told v node disk d ms tied may h =
    all_onward (sites_with v n (site node disk)) (sites_with v n (effect c n (site node disk) d)) ms (site_onward v n (site node disk) (effect c n (site node disk) d) (λ e past. doing_past c M n told node disk d e tied may past)) h

-- ---- where nobody is told, and no node panics for an exclusion

calm_went : (c : Cluster) (M : Memberships) (n : ℕ) (told : Delivered) (v : Nodes) (node : Node) (disk : NodeRecord) (d : Doing) (last : Last) (notice : Option Notice) (os : List Output) (s : Scene) → Stands c M n told v (site node disk) last notice s
    → May c n told (site node disk) d → AreGood n os → AreCalm os → Went n v (effect c n (site node disk) d) None (passing n os s).moments
calm_went c M n told v node disk d last notice os s h may good calm = record {
  judged = passing_judged (sites_with v n (effect c n (site node disk) d)) n os s good calm (moved c M n told v node disk d s.moments h.tied may h.judged);
  notice_so = tt;
}

-- ---- an attempt ends

-- its receiver, wherever it is
receiver_so : (c : Cluster) (M : Memberships) (n : ℕ) (told : Delivered) (v : Nodes) (x : UpNode) (disk : NodeRecord) (a : AttemptState) (last : Last) (notice : Option Notice) (e m f : ℕ) (s : Scene) → Stands c M n told v (site (Up x) disk) last notice s
    → Leaves M s.moments e m f → (let now : List Moment = ended_excluded e m ∷ s.moments in (is_excluded_by f e m (so_far now) now ≡ true) ⊎ IsPast (sites_with v n (site (Up (resting x)) disk) m) e)
receiver_so c M n told v x disk a last notice e m f s h leaves = by_node (same_or_not m n)
  where
    now : List Moment
    now = ended_excluded e m ∷ s.moments

    Tells_so : Site → Type 0
    Tells_so y = (is_excluded_by f e m (so_far now) now ≡ true) ⊎ IsPast y e

    rested : Tells_so (site (Up x) disk) → Tells_so (site (Up (resting x)) disk)
    rested (inl k) = inl k
    rested (inr past) = inr (record { some = past.some; promised = past.promised; elsewhere = past.elsewhere })

    by_node : (m ≡ n) ⊎ (m ≢ n) → Tells_so (sites_with v n (site (Up (resting x)) disk) m)
    by_node (inl at) =
        subst (λ j. Tells_so (sites_with v n (site (Up (resting x)) disk) j)) (sym at)
        (subst Tells_so (sym (put_here (site_of v) n (site (Up (resting x)) disk)))
        (rested (tells_so c M s.moments e m f (Up x) disk h.holds (subst (λ j. NodeTied c M j disk (Up x)) (sym at) h.tied) (subst (λ j. SiteSo s.moments j (site (Up x) disk)) (sym at) h.here) leaves)))
    by_node (inr ne) =
        subst Tells_so (sym (put_there (site_of v) n (site (Up (resting x)) disk) m ne))
        (tells_so c M s.moments e m f (v.node m) (v.disk m).kept h.holds (h.ties m ne) (h.there m ne) leaves)

same_coordinator : (e n : ℕ) → machine_coordinator e ≡ n → coordinator e ≡ n
unfolding machine_coordinator
same_coordinator e n h = h

excludes_so : (c : Cluster) (M : Memberships) (n : ℕ) (told : Delivered) (v : Nodes) (x : UpNode) (disk : NodeRecord) (a : AttemptState) (m : ℕ) (last : Last) (notice : Option Notice) (s : Scene) → Stands c M n told v (site (Up x) disk) last notice s
    → ActFits last x (Ends a (end.Excluded m)) → NoticeSo (sites_with v n (site (Up (resting x)) disk)) (ended_excluded a.plan.epoch m ∷ s.moments) n (notice_of a (end.Excluded m))
excludes_so c M n told v x disk a m last notice s h fits =
    let e : ℕ = a.plan.epoch in
    let f : ℕ = unwrap_or (newest_installed a) 0 in
    let t : Tied c M n a = tied_of c M n disk x a h.tied fits.0 in
    let leaves : Leaves M s.moments e m f = leaves_so c M n x disk a m last s.moments h.holds h.tied fits.0 h.latest h.named fits.1 h.notes h.here in
    let session : session_of x ≡ e = sym (session_tied c M n disk x h.tied) ∙ (t.session ∙ sym t.co.epoch) in
    let own : coordinator e ≡ n = same_coordinator e n (sym t.co.has.coordinator ∙ t.co.coordinator) in (
      receiver_so c M n told v x disk a last notice e m f s h leaves,
      λ at. subst (λ j. (let now : List Moment = ended_excluded e j ∷ s.moments in list_any (is_own_exclusion n f now) (so_far now) ≡ true)) (sym at)
          (excludes_itself c M s.moments e n f disk x h.holds h.tied h.here (subst (λ j. Leaves M s.moments e j f) at leaves) session own),
    )

ended_notice : (c : Cluster) (M : Memberships) (n : ℕ) (told : Delivered) (v : Nodes) (x : UpNode) (disk : NodeRecord) (a : AttemptState) (why : AttemptEnd) (last : Last) (notice : Option Notice) (s : Scene) → Stands c M n told v (site (Up x) disk) last notice s
    → ActFits last x (Ends a why) → NoticeSo (sites_with v n (site (Up (resting x)) disk)) (Told (entry.Attempt (ended_entry a.plan.epoch why)) ∷ s.moments) n (notice_of a why)
ended_notice c M n told v x disk a (end.Excluded m) last notice s h fits = excludes_so c M n told v x disk a m last notice s h fits
ended_notice c M n told v x disk a (end.Votes have need lacking) last notice s h fits = tt
ended_notice c M n told v x disk a (end.Superseded q) last notice s h fits = tt
ended_notice c M n told v x disk a (end.Silent m) last notice s h fits = tt
ended_notice c M n told v x disk a (end.Foreign m) last notice s h fits = tt

ends_went : (c : Cluster) (M : Memberships) (n : ℕ) (told : Delivered) (v : Nodes) (x : UpNode) (disk : NodeRecord) (a : AttemptState) (why : AttemptEnd) (last : Last) (notice : Option Notice) (s : Scene) → Stands c M n told v (site (Up x) disk) last notice s
    → ActFits last x (Ends a why) → Went n v (site (Up (acted c n x (Ends a why))) disk) (notice_of a why) (passing n (said c n x (Ends a why)) s).moments
ends_went c M n told v x disk a why last notice s h fits = record {
  judged = (record { says = tt; panics = tt }, moved c M n told v (Up x) disk (Does (Ends a why)) s.moments h.tied tt h.judged);
  notice_so = ended_notice c M n told v x disk a why last notice s h fits;
}

-- ---- an Excluded is sent

write_so : (v : ℕ → Site) (ms : List Moment) (n to : ℕ) (notice : Option Notice) (b : Body) → NoticeSo v ms n notice → BodySaid notice to b → BodySo v ms to b
write_so v ms n to None (body.Excluded e newest) so said = absurd (none_some _ said)
write_so v ms n to (Some x) (body.Excluded e newest) so said = subst (λ (z : Notice). BodySo v ms z.member (body.Excluded z.epoch z.newest)) (same_some x _ said) so.0
write_so v ms n to notice _ so said = tt

writes_went : (c : Cluster) (M : Memberships) (n : ℕ) (told : Delivered) (v : Nodes) (x : UpNode) (disk : NodeRecord) (to : ℕ) (b : Body) (last : Last) (notice : Option Notice) (s : Scene) → Stands c M n told v (site (Up x) disk) last notice s
    → AreGood n (said c n x (Writes to b)) → BodySaid notice to b → Went n v (site (Up x) disk) None (passing n (said c n x (Writes to b)) s).moments
writes_went c M n told v x disk to b last notice s h good says = record {
  judged = posting_judged (sites_with v n (site (Up x) disk)) n to b s good.0 (write_so (sites_with v n (site (Up x) disk)) s.moments n to notice b h.notice_so says) h.judged;
  notice_so = tt;
}

-- ---- acts

free_act : (notice : Option Notice) (a : Act) → ((to : ℕ) (b : Body) → a ≡ Writes to b → ⊥) → ActSaid notice a → FreeAct a
free_act notice (Writes to b) other h = absurd (other to b refl)
free_act notice (Spreads receivers b) other h = h
free_act notice _ other h = tt

abbrev IsPlainAct : Act → Type 0
IsPlainAct (Ends a why) = ⊥
IsPlainAct (Writes to b) = ⊥
IsPlainAct _ = Unit {0}

no_write : (a : Act) → IsPlainAct a → (to : ℕ) (b : Body) → a ≡ Writes to b → ⊥
no_write a plain to b is = subst IsPlainAct is plain

plain_notice : (a : Act) → IsPlainAct a → notice_after (Does a) ≡ None
plain_notice (Ends a why) plain = absurd plain
plain_notice _ plain = refl

act_went : (c : Cluster) (M : Memberships) (n : ℕ) (told : Delivered) (v : Nodes) (x : UpNode) (disk : NodeRecord) (a : Act) (last : Last) (notice : Option Notice) (s : Scene) → Stands c M n told v (site (Up x) disk) last notice s
    → AreGood n (said c n x a) → MayAct c n told x a → ActFits last x a → ActSo a → ActSaid notice a → IsPlainAct a → Went n v (site (Up (acted c n x a)) disk) (notice_after (Does a)) (passing n (said c n x a) s).moments
act_went c M n told v x disk a last notice s h good may fits so says plain =
    subst (λ o. Went n v (site (Up (acted c n x a)) disk) o (passing n (said c n x a) s).moments) (sym (plain_notice a plain))
    (calm_went c M n told v (Up x) disk (Does a) last notice (said c n x a) s h may good (said_calm c n told x a (free_act notice a (no_write a plain) says) so may))

does_went : (c : Cluster) (M : Memberships) (n : ℕ) (told : Delivered) (v : Nodes) (x : UpNode) (disk : NodeRecord) (a : Act) (last : Last) (notice : Option Notice) (s : Scene) → Stands c M n told v (site (Up x) disk) last notice s
    → AreGood n (said c n x a) → MayAct c n told x a → ActFits last x a → ActSo a → ActSaid notice a → Went n v (site (Up (acted c n x a)) disk) (notice_after (Does a)) (passing n (said c n x a) s).moments
does_went c M n told v x disk (Ends a why) last notice s h good may fits so says = ends_went c M n told v x disk a why last notice s h fits
does_went c M n told v x disk (Writes to b) last notice s h good may fits so says = writes_went c M n told v x disk to b last notice s h good says
does_went c M n told v x disk (Hears from b) last notice s h good may fits so says = act_went c M n told v x disk (Hears from b) last notice s h good may fits so says tt
does_went c M n told v x disk Ticks last notice s h good may fits so says = act_went c M n told v x disk Ticks last notice s h good may fits so says tt
does_went c M n told v x disk Waits last notice s h good may fits so says = act_went c M n told v x disk Waits last notice s h good may fits so says tt
does_went c M n told v x disk (Goes_on a k) last notice s h good may fits so says = act_went c M n told v x disk (Goes_on a k) last notice s h good may fits so says tt
does_went c M n told v x disk (Queues a d kind) last notice s h good may fits so says = act_went c M n told v x disk (Queues a d kind) last notice s h good may fits so says tt
does_went c M n told v x disk (Accepts kind e members d) last notice s h good may fits so says = act_went c M n told v x disk (Accepts kind e members d) last notice s h good may fits so says tt
does_went c M n told v x disk (Takes at command a) last notice s h good may fits so says = act_went c M n told v x disk (Takes at command a) last notice s h good may fits so says tt
does_went c M n told v x disk (Stores d value a) last notice s h good may fits so says = act_went c M n told v x disk (Stores d value a) last notice s h good may fits so says tt
does_went c M n told v x disk (Makes change) last notice s h good may fits so says = act_went c M n told v x disk (Makes change) last notice s h good may fits so says tt
does_went c M n told v x disk (Gives os) last notice s h good may fits so says = act_went c M n told v x disk (Gives os) last notice s h good may fits so says tt
does_went c M n told v x disk (Spreads receivers b) last notice s h good may fits so says = act_went c M n told v x disk (Spreads receivers b) last notice s h good may fits so says tt
does_went c M n told v x disk (Minds q p) last notice s h good may fits so says = act_went c M n told v x disk (Minds q p) last notice s h good may fits so says tt
does_went c M n told v x disk (Notes_prepared from place p) last notice s h good may fits so says = act_went c M n told v x disk (Notes_prepared from place p) last notice s h good may fits so says tt
does_went c M n told v x disk (Dates now) last notice s h good may fits so says = act_went c M n told v x disk (Dates now) last notice s h good may fits so says tt
does_went c M n told v x disk (Works w) last notice s h good may fits so says = act_went c M n told v x disk (Works w) last notice s h good may fits so says tt

-- ---- it goes down

or_first : (a b : Bool) → a ≡ true → (a || b) ≡ true
or_first true b h = refl
or_first false b h = absurd (false_true h)

own_so : (v : ℕ → Site) (ms : List Moment) (n f : ℕ) (notice : Option Notice) → NoticeSo v ms n notice → IsOwn n f notice → is_told_excluded n f ms ≡ true
own_so v ms n f None so h = absurd h
own_so v ms n f (Some x) so h = or_first _ _ (subst (λ k. list_any (is_own_exclusion n k ms) (so_far ms) ≡ true) h.1 (so.1 h.0))

falls_so : (c : Cluster) (M : Memberships) (n : ℕ) (told : Delivered) (v : Nodes) (x : UpNode) (disk : NodeRecord) (why : DownCause) (last : Last) (notice : Option Notice) (s : Scene) → Stands c M n told v (site (Up x) disk) last notice s
    → FallSaid n told notice x why → PanicsExcluded s.moments (Told (entry.Node n (note.Down why)))
falls_so c M n told v x disk (cause.Panic (panic.Excluded f)) last notice s h says = by_source says
  where
    by_source : IsOwn n f notice ⊎ Says (IsNoticeIn x f) told → is_told_excluded n f s.moments ≡ true
    by_source (inl own) = own_so (sites_with v n (site (Up x) disk)) s.moments n f notice h.notice_so own
    by_source (inr heard) =
        heard_so (sites_with v n (site (Up x) disk)) s.moments n f told x h.hand h.judged
        (λ k past. (subst (λ z. IsPast z k) (put_here (site_of v) n (site (Up x) disk)) past).elsewhere) heard
falls_so c M n told v x disk _ last notice s h says = tt

falls_went : (c : Cluster) (M : Memberships) (n : ℕ) (told : Delivered) (v : Nodes) (x : UpNode) (disk : NodeRecord) (why : DownCause) (last : Last) (notice : Option Notice) (s : Scene) → Stands c M n told v (site (Up x) disk) last notice s
    → FallSaid n told notice x why → Went n v (site Down disk) None (passing n (gone_line n why) s).moments
falls_went c M n told v x disk why last notice s h says = record {
  judged = (record { says = tt; panics = falls_so c M n told v x disk why last notice s h says }, moved c M n told v (Up x) disk (Goes_down why) s.moments h.tied tt h.judged);
  notice_so = tt;
}

-- ---- each small step

pub doing_went : (c : Cluster) (M : Memberships) (n : ℕ) (told : Delivered) (v : Nodes) (node : Node) (disk : NodeRecord) (d : Doing) (last : Last) (notice : Option Notice) (s : Scene) → Stands c M n told v (site node disk) last notice s
    → (let x : Site = site node disk in AreGood n (gives c n x d) → May c n told x d → DoingFits last x d → DoingSo d → DoingApart told d → DoingSaid n told notice x d
    → Went n v (effect c n x d) (notice_after d) (passing n (gives c n x d) s).moments)
doing_went c M n told v Down disk Comes_up last notice s h good may fits so apart says = calm_went c M n told v Down disk Comes_up last notice (of_node n note.Up ∷ []) s h may good (tt, tt)
doing_went c M n told v (Up x) disk Comes_up last notice s h good may fits so apart says = absurd may
doing_went c M n told v Down disk (Goes_down why) last notice s h good may fits so apart says = absurd may
doing_went c M n told v (Up x) disk (Goes_down why) last notice s h good may fits so apart says = falls_went c M n told v x disk why last notice s h says
doing_went c M n told v Down disk (Does a) last notice s h good may fits so apart says = absurd may
doing_went c M n told v (Up x) disk (Does a) last notice s h good may fits so apart says = does_went c M n told v x disk a last notice s h good may fits so says
doing_went c M n told v Down disk (Saves change) last notice s h good may fits so apart says = absurd may
doing_went c M n told v (Up x) disk (Saves change) last notice s h good may fits so apart says =
    calm_went c M n told v (Up x) disk (Saves change) last notice (first_lines n change ++ saved_lines c n x change) s h may good (saved_calm c n x change)
doing_went c M n told v node disk (Loses change why) last notice s h good may fits so apart says =
    calm_went c M n told v node disk (Loses change why) last notice (first_lines n change ++ gone_line n why) s h may good (gone_calm n change why apart)
doing_went c M n told v node disk (Forgets change why) last notice s h good may fits so apart says =
    calm_went c M n told v node disk (Forgets change why) last notice (first_lines n change ++ gone_line n why) s h may good (gone_calm n change why apart)
