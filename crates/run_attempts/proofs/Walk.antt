-- The small steps of a node: what it has heard is what the lines tell, and each line and message is judged.
use Rattle.std.specs.Prelude.{ℕ, ◌≡◌, ◌<◌, ◌++◌, List, [], ◌∷◌, length}
use Rattle.std.specs.List.{AllByRecursion}
use Rattle.std.proofs.Common.{sym, ap, subst, ◌∙◌, arith}
use Rattle.cmm_member.specs.Records.{NodeRecord}
use Rattle.history.specs.Moment.{Moment}
use Rattle.history.specs.Setting.{Setting, coordinator}
use Rattle.history.specs.Trace.{attempt, saved}
use Rattle.heartbeats.specs.Peers.{peer_in}
use Rattle.node_model.specs.Entries.{unknown_lines}
use Rattle.node_model.specs.Seats.{promised_of, record_of}
use Rattle.node_model.specs.declared.cluster.Cluster.{Cluster}
use Rattle.node_model.specs.declared.node.Node.{Node}
use Rattle.node_model.specs.declared.node.Node.TheVariants.{Down, Up}
use Rattle.node_model.specs.declared.node.UpNode.{UpNode}
use Rattle.node_model.specs.declared.output.Output.{Output}
use Rattle.refinement.specs.Courses.{Course, Reply, under}
use Rattle.refinement.specs.Courses.Course.{Acts, Falls, Keeps, Stops}
use Rattle.refinement.specs.Courses.Reply.{Done, Lost_new, Lost_old}
use Rattle.refinement.specs.Doings.{Act, Change, Doing, Site, acted, after_all, changed, effect, first_lines, given_all, gives, gone_line, said, saved_lines, site}
use Rattle.refinement.specs.Doings.Act.{Makes}
use Rattle.refinement.specs.Doings.Change.{Acks, Admits, Commits, Counts, Distrusts, Installs, Leads, Prepares, Promises, Proposes, Sits, Starts}
use Rattle.refinement.specs.Doings.Doing.{Comes_up, Does, Forgets, Goes_down, Loses, Saves}
use Rattle.refinement.specs.Guards.{May, MayAct, MayAll, MayChange}
use Rattle.refinement.specs.Ties.{Delivered}
use Rattle.run_history.proofs.Idle.{passing_append}
use Rattle.run_history.proofs.Lists.{both}
use Rattle.run_history.proofs.Small.{AllSmall, IsSmall}
use Rattle.run_history.specs.Scenes.{Scene, passing, telling}
use Rattle.status_report.specs.declared.attempt_entry.AttemptEntry.TheVariants as attempt_entry
use Rattle.status_report.specs.declared.entry.Entry.TheVariants as entry
use Rattle.status_report.specs.declared.node_entry.DownCause.{DownCause}
use Rattle.status_report.specs.declared.node_entry.NodeEntry.TheVariants as note
use Rattle.run_attempts.specs.Heard.{BeatsSo, NodeSo, PeerSo}
use Rattle.run_attempts.specs.Judged.{AllJudged, Judged}
use Rattle.run_attempts.specs.Steps.{AllSo, CalmChange, ChangeSo, DoingSo, Wish}
use Rattle.run_attempts.proofs.Alike.{Alike, alike_self, alike_then, beats_stay, mild_alike, mild_judged, passing_alike, told_alike}
use Rattle.run_attempts.proofs.Mild.{AreMild, IsMild, first_mild, last_mild, said_mild, unknown_mild}
use Rattle.run_attempts.proofs.Views.{SameView, act_same, change_same}

-- what is so where node n goes on to this site, and the lines to these
pub record Went (S : Setting) (n : ℕ) (before : List Moment) (x : Node) (after : List Moment) : Type 0 where
  pub so : AllJudged S after
  pub node : NodeSo after n x
  pub alike : Alike before after

-- Where an attempt begins of which P holds, and K of the lines, its line is judged.
pub record Judges (S : Setting) (n : ℕ) (P : Wish) (K : List Moment → Type 0) : Type 0 where
  pub stays : (before after : List Moment) → Alike before after → K before → K after
  pub begins_so : (ms : List Moment) (x : UpNode) (p members : ℕ) → K ms → BeatsSo ms n x.beats → coordinator p ≡ n → P x p members → Judged S (saved n ∷ ms) (attempt p members)

-- ---- outputs that are mild

seen_beats : (ms : List Moment) (n : ℕ) (x y : UpNode) → SameView x y → BeatsSo ms n x.beats → BeatsSo ms n y.beats
seen_beats ms n x y same h = record {
  me = same.me ∙ h.me;
  room = ap length same.peers ∙ h.room;
  peers = λ m low high. subst (λ peers. PeerSo ms n m (peer_in peers m)) (sym same.peers) (h.peers m low high);
}

mild_up : (S : Setting) (n : ℕ) (x y : UpNode) (os : List Output) (s : Scene) → AreMild os → SameView x y → AllJudged S s.moments → BeatsSo s.moments n x.beats → Went S n s.moments (Up y) (passing n os s).moments
mild_up S n x y os s mild same so h =
    let alike : Alike s.moments (passing n os s).moments = passing_alike n os s (mild_alike os mild) in
    record { so = mild_judged S n os s mild so; node = beats_stay s.moments (passing n os s).moments n y.beats (alike.heard n) (seen_beats s.moments n x y same h); alike = alike }

mild_down : (S : Setting) (n : ℕ) (os : List Output) (s : Scene) → AreMild os → AllJudged S s.moments → Went S n s.moments Down (passing n os s).moments
mild_down S n os s mild so = record { so = mild_judged S n os s mild so; node = tt; alike = passing_alike n os s (mild_alike os mild) }

-- ---- an attempt begins

-- nothing is made of it where the record stays
made_calm : (c : Cluster) (n : ℕ) (told : Delivered) (x : UpNode) (change : Change) → MayChange c n told x change → record_of (changed c n x change) ≡ record_of x → CalmChange change
made_calm c n told x (Leads p members) may same = absurd (not_less (promised_of x) p may.0 (ap (λ r. r.promised) same))
  where
    not_less : (a b : ℕ) → a < b → b ≡ a → ⊥
    not_less a b less same = omega (arith, less, same)
made_calm c n told x (Promises p) may same = tt
made_calm c n told x (Counts a k s i) may same = tt
made_calm c n told x (Installs s i) may same = tt
made_calm c n told x (Starts a k s) may same = tt
made_calm c n told x (Sits s e) may same = tt
made_calm c n told x (Distrusts d) may same = tt
made_calm c n told x (Admits at command a d) may same = tt
made_calm c n told x (Proposes s p text) may same = tt
made_calm c n told x (Acks s p q left text) may same = tt
made_calm c n told x (Prepares s text) may same = tt
made_calm c n told x (Commits s) may same = tt

pub act_calm : (c : Cluster) (n : ℕ) (told : Delivered) (x : UpNode) (a : Act) → MayAct c n told x a → (change : Change) → a ≡ Makes change → CalmChange change
act_calm c n told x a may change is =
    let m : MayAct c n told x (Makes change) = subst (MayAct c n told x) is may in
    made_calm c n told x change m.0 m.1

leads_go : (S : Setting) (P : Wish) (K : List Moment → Type 0) (c : Cluster) (n : ℕ) (told : Delivered) (x : UpNode) (p members : ℕ) (s : Scene) → Judges S n P K → MayChange c n told x (Leads p members) → P x p members
    → K s.moments → AllJudged S s.moments → BeatsSo s.moments n x.beats → Went S n s.moments (Up (changed c n x (Leads p members))) (passing n (saved_lines c n x (Leads p members)) s).moments
leads_go S P K c n told x p members s judges may wish k so h =
    let t : Scene = telling (entry.Node n note.Saved) s in
    let u : Scene = telling (entry.Attempt (attempt_entry.Begun p members)) t in
    let first : Alike s.moments t.moments = told_alike (entry.Node n note.Saved) s.moments tt in
    let second : Alike t.moments u.moments = told_alike (entry.Attempt (attempt_entry.Begun p members)) t.moments tt in
    let rest : Went S n u.moments (Up (changed c n x (Leads p members))) (passing n (unknown_lines n x.requests.waiting) u).moments =
    mild_up S n x (changed c n x (Leads p members)) (unknown_lines n x.requests.waiting) u (unknown_mild n x.requests.waiting) (change_same c n x (Leads p members))
    (judges.begins_so s.moments x p members k h may.1 wish, (record { in_tick = tt; due = tt; begins_so = tt }, so))
    (beats_stay s.moments u.moments n x.beats ((alike_then s.moments t.moments u.moments first second).heard n) h) in
    record { so = rest.so; node = rest.node; alike = alike_then s.moments u.moments _ (alike_then s.moments t.moments u.moments first second) rest.alike }

-- ---- each small step

calm_saved : (S : Setting) (c : Cluster) (n : ℕ) (x : UpNode) (change : Change) (s : Scene) → CalmChange change → AllJudged S s.moments → BeatsSo s.moments n x.beats
    → Went S n s.moments (Up (changed c n x change)) (passing n (first_lines n change ++ saved_lines c n x change) s).moments
calm_saved S c n x change s calm so h =
    mild_up S n x (changed c n x change) (first_lines n change ++ saved_lines c n x change) s
    (both IsMild (first_lines n change) (saved_lines c n x change) (first_mild n change) (tt, last_mild c n x change calm)) (change_same c n x change) so h

saved_goes : (S : Setting) (P : Wish) (K : List Moment → Type 0) (c : Cluster) (n : ℕ) (told : Delivered) (x : UpNode) (change : Change) (s : Scene) → Judges S n P K → MayChange c n told x change → ChangeSo P x change
    → K s.moments → AllJudged S s.moments → BeatsSo s.moments n x.beats → Went S n s.moments (Up (changed c n x change)) (passing n (first_lines n change ++ saved_lines c n x change) s).moments
saved_goes S P K c n told x (Leads p members) s judges may wish k so h = leads_go S P K c n told x p members s judges may wish k so h
saved_goes S P K c n told x (Promises p) s judges may wish k so h = calm_saved S c n x (Promises p) s tt so h
saved_goes S P K c n told x (Counts a call t i) s judges may wish k so h = calm_saved S c n x (Counts a call t i) s tt so h
saved_goes S P K c n told x (Installs t i) s judges may wish k so h = calm_saved S c n x (Installs t i) s tt so h
saved_goes S P K c n told x (Starts a call t) s judges may wish k so h = calm_saved S c n x (Starts a call t) s tt so h
saved_goes S P K c n told x (Sits t e) s judges may wish k so h = calm_saved S c n x (Sits t e) s tt so h
saved_goes S P K c n told x (Distrusts d) s judges may wish k so h = calm_saved S c n x (Distrusts d) s tt so h
saved_goes S P K c n told x (Admits at command a d) s judges may wish k so h = calm_saved S c n x (Admits at command a d) s tt so h
saved_goes S P K c n told x (Proposes t p text) s judges may wish k so h = calm_saved S c n x (Proposes t p text) s tt so h
saved_goes S P K c n told x (Acks t p q left text) s judges may wish k so h = calm_saved S c n x (Acks t p q left text) s tt so h
saved_goes S P K c n told x (Prepares t text) s judges may wish k so h = calm_saved S c n x (Prepares t text) s tt so h
saved_goes S P K c n told x (Commits t) s judges may wish k so h = calm_saved S c n x (Commits t) s tt so h

gone_mild : (n : ℕ) (change : Change) (why : DownCause) → AreMild (first_lines n change ++ gone_line n why)
gone_mild n change why = both IsMild (first_lines n change) (gone_line n why) (first_mild n change) (tt, tt)

-- a node that is up comes up no more
abbrev pub IsUpStep : Doing → Type 0
IsUpStep Comes_up = ⊥
IsUpStep d = Unit {0}

abbrev pub AreUpSteps : List Doing → Type 0
AreUpSteps ds = AllByRecursion IsUpStep ds

pub under_up : (replies : List Reply) (k : Course) → AreUpSteps (under replies k)
under_up replies Stops = tt
under_up replies (Acts a rest) = (tt, under_up replies rest)
under_up [] (Keeps change rest) = (tt, tt)
under_up (Done ∷ replies) (Keeps change rest) = (tt, under_up replies rest)
under_up (Lost_new why ∷ replies) (Keeps change rest) = (tt, tt)
under_up (Lost_old why ∷ replies) (Keeps change rest) = (tt, tt)
under_up replies (Falls why) = (tt, tt)

doing_goes : (S : Setting) (P : Wish) (K : List Moment → Type 0) (c : Cluster) (n : ℕ) (told : Delivered) (node : Node) (disk : NodeRecord) (d : Doing) (s : Scene) → Judges S n P K → May c n told (site node disk) d → IsSmall d
    → DoingSo P node d → IsUpStep d → K s.moments → AllJudged S s.moments → NodeSo s.moments n node
    → Went S n s.moments (effect c n (site node disk) d).node (passing n (gives c n (site node disk) d) s).moments
doing_goes S P K c n told node disk Comes_up s judges may small wish ups k so h = absurd ups
doing_goes S P K c n told node disk (Goes_down why) s judges may small wish ups k so h = mild_down S n (gone_line n why) s (tt, tt) so
doing_goes S P K c n told Down disk (Does a) s judges may small wish ups k so h = absurd may
doing_goes S P K c n told (Up x) disk (Does a) s judges may small wish ups k so h =
    mild_up S n x (acted c n x a) (said c n x a) s (said_mild c n told P x a may small wish (act_calm c n told x a may)) (act_same P c n x a wish) so h
doing_goes S P K c n told Down disk (Saves change) s judges may small wish ups k so h = absurd may
doing_goes S P K c n told (Up x) disk (Saves change) s judges may small wish ups k so h = saved_goes S P K c n told x change s judges may wish k so h
doing_goes S P K c n told node disk (Loses change why) s judges may small wish ups k so h = mild_down S n (first_lines n change ++ gone_line n why) s (gone_mild n change why) so
doing_goes S P K c n told node disk (Forgets change why) s judges may small wish ups k so h = mild_down S n (first_lines n change ++ gone_line n why) s (gone_mild n change why) so

-- one after another
pub all_go : (S : Setting) (P : Wish) (K : List Moment → Type 0) (c : Cluster) (n : ℕ) (told : Delivered) (x : Site) (ds : List Doing) (s : Scene) → Judges S n P K → MayAll c n told x ds → AllSmall ds
    → AllSo P c n x ds → AreUpSteps ds → K s.moments → AllJudged S s.moments → NodeSo s.moments n x.node
    → Went S n s.moments (after_all c n x ds).node (passing n (given_all c n x ds) s).moments
all_go S P K c n told x [] s judges may small wish ups k so h = record { so = so; node = h; alike = alike_self s.moments }
all_go S P K c n told x (d ∷ ds) s judges may small wish ups k so h =
    let os : List Output = gives c n x d in
    let y : Site = effect c n x d in
    let more : List Output = given_all c n y ds in
    let t : Scene = passing n os s in
    let first : Went S n s.moments y.node t.moments = doing_goes S P K c n told x.node x.disk d s judges may.0 small.0 wish.0 ups.0 k so h in
    let rest : Went S n t.moments (after_all c n y ds).node (passing n more t).moments =
    all_go S P K c n told y ds t judges may.1 small.1 wish.1 ups.1 (judges.stays s.moments t.moments first.alike k) first.so first.node in
    subst (λ (z : Scene). Went S n s.moments (after_all c n y ds).node z.moments) (sym (passing_append n os more s))
    (record { so = rest.so; node = rest.node; alike = alike_then s.moments t.moments (passing n more t).moments first.alike rest.alike })
