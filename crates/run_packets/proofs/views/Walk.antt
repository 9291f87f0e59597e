-- The small steps of a node: what it has heard is what the lines tell, and the members of an attempt that begins are its view.
use Rattle.std.specs.Prelude.{ℕ, ◌≡◌, ◌++◌, List, [], ◌∷◌, length}
use Rattle.std.proofs.Common.{sym, ap, subst, ◌∙◌}
use Rattle.cmm_member.specs.Records.{NodeRecord}
use Rattle.heartbeats.specs.Peers.{peer_in}
use Rattle.history.specs.Moment.{Moment}
use Rattle.history.specs.Setting.{Setting, coordinator}
use Rattle.history.specs.Trace.{attempt, saved}
use Rattle.node_model.specs.Entries.{unknown_lines}
use Rattle.node_model.specs.declared.cluster.Cluster.{Cluster}
use Rattle.node_model.specs.declared.node.Node.{Node}
use Rattle.node_model.specs.declared.node.Node.TheVariants.{Down, Up}
use Rattle.node_model.specs.declared.node.UpNode.{UpNode}
use Rattle.node_model.specs.declared.output.Output.{Output}
use Rattle.refinement.specs.Doings.{Change, Doing, Site, acted, after_all, changed, effect, first_lines, given_all, gives, gone_line, said, saved_lines, site}
use Rattle.refinement.specs.Doings.Change.{Acks, Admits, Commits, Counts, Distrusts, Installs, Leads, Prepares, Promises, Proposes, Sits, Starts}
use Rattle.refinement.specs.Doings.Doing.{Comes_up, Does, Forgets, Goes_down, Loses, Saves}
use Rattle.refinement.specs.Guards.{May, MayAll, MayChange}
use Rattle.refinement.specs.Ties.{Delivered}
use Rattle.run_attempts.proofs.Mild.{AreMild, IsMild, first_mild, last_mild, said_mild, unknown_mild}
use Rattle.run_attempts.proofs.Views.{SameView, act_same, change_same}
use Rattle.run_attempts.proofs.Walk.{AreUpSteps, IsUpStep, act_calm}
use Rattle.run_attempts.specs.Steps.{AllSo, CalmChange, ChangeSo, DoingSo, Wish}
use Rattle.run_history.proofs.Idle.{passing_append}
use Rattle.run_history.proofs.Lists.{both}
use Rattle.run_history.proofs.Small.{AllSmall, IsSmall}
use Rattle.run_history.specs.Scenes.{Scene, passing, telling}
use Rattle.status_report.specs.declared.attempt_entry.AttemptEntry.TheVariants as attempt_entry
use Rattle.status_report.specs.declared.entry.Entry.TheVariants as entry
use Rattle.status_report.specs.declared.node_entry.DownCause.{DownCause}
use Rattle.status_report.specs.declared.node_entry.NodeEntry.TheVariants as note
use Rattle.run_packets.specs.views.Heard.{AgeIs, AllViews, BeatsAre, Judged, NodeIs}
use Rattle.run_packets.specs.views.Laws.{Account, heard_age_of}
use Rattle.run_packets.proofs.views.Same.{Alike, Passed, alike_self, alike_then, beats_stay, begun_alike, mild_still, still_passed, told_alike}

-- what is so where node n goes on to this site, and the lines to these
pub record Went (S : Setting) (f : Account) (n : ℕ) (before : List Moment) (x : Node) (after : List Moment) : Type 0 where
  pub so : AllViews S f after
  pub node : NodeIs f after n x
  pub alike : Alike f before after

-- what is so before it
pub record Here (S : Setting) (f : Account) (n : ℕ) (moments : List Moment) (x : Node) : Type 0 where
  pub so : AllViews S f moments
  pub node : NodeIs f moments n x

-- Where an attempt begins of which P holds, and K of the lines, its line is judged.
pub record Judges (S : Setting) (f : Account) (n : ℕ) (P : Wish) (K : List Moment → Type 0) : Type 0 where
  pub stays : (before after : List Moment) → Alike f before after → K before → K after
  pub begins_so : (ms : List Moment) (x : UpNode) (p members : ℕ) → K ms → BeatsAre f ms n x.beats → coordinator p ≡ n → P x p members
      → Judged S f (saved n ∷ ms) (attempt p members)

-- ---- outputs in which no attempt begins

seen_beats : (f : Account) (ms : List Moment) (n : ℕ) (x y : UpNode) → SameView x y → BeatsAre f ms n x.beats → BeatsAre f ms n y.beats
seen_beats f ms n x y same h = record {
  me = same.me ∙ h.me;
  room = ap length same.peers ∙ h.room;
  peers = λ m low high. subst (λ peers. AgeIs (peer_in peers m) (heard_age_of f n m ms)) (sym same.peers) (h.peers m low high);
}

mild_up : (S : Setting) (f : Account) (n : ℕ) (x y : UpNode) (os : List Output) (s : Scene) → AreMild os → SameView x y → Here S f n s.moments (Up x) → Went S f n s.moments (Up y) (passing n os s).moments
mild_up S f n x y os s mild same h =
    let passed : Passed S f s.moments (passing n os s).moments = still_passed S f n os s (mild_still os mild) h.so in
    record {
      so = passed.so;
      node = beats_stay f s.moments (passing n os s).moments n y.beats (passed.alike.ages n) (seen_beats f s.moments n x y same h.node);
      alike = passed.alike;
    }

mild_down : (S : Setting) (f : Account) (n : ℕ) (os : List Output) (s : Scene) → AreMild os → AllViews S f s.moments → Went S f n s.moments Down (passing n os s).moments
mild_down S f n os s mild so =
    let passed : Passed S f s.moments (passing n os s).moments = still_passed S f n os s (mild_still os mild) so in
    record { so = passed.so; node = tt; alike = passed.alike }

-- ---- an attempt begins

leads_go : (S : Setting) (f : Account) (P : Wish) (K : List Moment → Type 0) (c : Cluster) (n : ℕ) (told : Delivered) (x : UpNode) (p members : ℕ) (s : Scene) → Judges S f n P K
    → MayChange c n told x (Leads p members) → P x p members → K s.moments → Here S f n s.moments (Up x)
    → Went S f n s.moments (Up (changed c n x (Leads p members))) (passing n (saved_lines c n x (Leads p members)) s).moments
leads_go S f P K c n told x p members s judges may wish k h =
    let t : Scene = telling (entry.Node n note.Saved) s in
    let u : Scene = telling (entry.Attempt (attempt_entry.Begun p members)) t in
    let y : UpNode = changed c n x (Leads p members) in
    let first : Alike f s.moments u.moments =
    alike_then f s.moments t.moments u.moments (told_alike f (entry.Node n note.Saved) s.moments tt) (begun_alike f p members t.moments) in
    let so : AllViews S f u.moments = (judges.begins_so s.moments x p members k h.node may.1 wish, (record { view = tt; alone = tt }, h.so)) in
    let here : Here S f n u.moments (Up x) = record { so = so; node = beats_stay f s.moments u.moments n x.beats (first.ages n) h.node } in
    let rest : Went S f n u.moments (Up y) (passing n (unknown_lines n x.requests.waiting) u).moments =
    mild_up S f n x y (unknown_lines n x.requests.waiting) u (unknown_mild n x.requests.waiting) (change_same c n x (Leads p members)) here in
    record { so = rest.so; node = rest.node; alike = alike_then f s.moments u.moments _ first rest.alike }

-- ---- each small step

calm_saved : (S : Setting) (f : Account) (c : Cluster) (n : ℕ) (x : UpNode) (change : Change) (s : Scene) → CalmChange change → Here S f n s.moments (Up x)
    → Went S f n s.moments (Up (changed c n x change)) (passing n (first_lines n change ++ saved_lines c n x change) s).moments
calm_saved S f c n x change s calm h =
    mild_up S f n x (changed c n x change) (first_lines n change ++ saved_lines c n x change) s
    (both IsMild (first_lines n change) (saved_lines c n x change) (first_mild n change) (tt, last_mild c n x change calm)) (change_same c n x change) h

saved_goes : (S : Setting) (f : Account) (P : Wish) (K : List Moment → Type 0) (c : Cluster) (n : ℕ) (told : Delivered) (x : UpNode) (change : Change) (s : Scene) → Judges S f n P K
    → MayChange c n told x change → ChangeSo P x change → K s.moments → Here S f n s.moments (Up x)
    → Went S f n s.moments (Up (changed c n x change)) (passing n (first_lines n change ++ saved_lines c n x change) s).moments
saved_goes S f P K c n told x (Leads p members) s judges may wish k h = leads_go S f P K c n told x p members s judges may wish k h
saved_goes S f P K c n told x (Promises p) s judges may wish k h = calm_saved S f c n x (Promises p) s tt h
saved_goes S f P K c n told x (Counts a call t i) s judges may wish k h = calm_saved S f c n x (Counts a call t i) s tt h
saved_goes S f P K c n told x (Installs t i) s judges may wish k h = calm_saved S f c n x (Installs t i) s tt h
saved_goes S f P K c n told x (Starts a call t) s judges may wish k h = calm_saved S f c n x (Starts a call t) s tt h
saved_goes S f P K c n told x (Sits t e) s judges may wish k h = calm_saved S f c n x (Sits t e) s tt h
saved_goes S f P K c n told x (Distrusts d) s judges may wish k h = calm_saved S f c n x (Distrusts d) s tt h
saved_goes S f P K c n told x (Admits at command a d) s judges may wish k h = calm_saved S f c n x (Admits at command a d) s tt h
saved_goes S f P K c n told x (Proposes t p text) s judges may wish k h = calm_saved S f c n x (Proposes t p text) s tt h
saved_goes S f P K c n told x (Acks t p q left text) s judges may wish k h = calm_saved S f c n x (Acks t p q left text) s tt h
saved_goes S f P K c n told x (Prepares t text) s judges may wish k h = calm_saved S f c n x (Prepares t text) s tt h
saved_goes S f P K c n told x (Commits t) s judges may wish k h = calm_saved S f c n x (Commits t) s tt h

gone_mild : (n : ℕ) (change : Change) (why : DownCause) → AreMild (first_lines n change ++ gone_line n why)
gone_mild n change why = both IsMild (first_lines n change) (gone_line n why) (first_mild n change) (tt, tt)

doing_goes : (S : Setting) (f : Account) (P : Wish) (K : List Moment → Type 0) (c : Cluster) (n : ℕ) (told : Delivered) (node : Node) (disk : NodeRecord) (d : Doing) (s : Scene) → Judges S f n P K
    → May c n told (site node disk) d → IsSmall d → DoingSo P node d → IsUpStep d → K s.moments → Here S f n s.moments node
    → Went S f n s.moments (effect c n (site node disk) d).node (passing n (gives c n (site node disk) d) s).moments
doing_goes S f P K c n told node disk Comes_up s judges may small wish ups k h = absurd ups
doing_goes S f P K c n told node disk (Goes_down why) s judges may small wish ups k h = mild_down S f n (gone_line n why) s (tt, tt) h.so
doing_goes S f P K c n told Down disk (Does a) s judges may small wish ups k h = absurd may
doing_goes S f P K c n told (Up x) disk (Does a) s judges may small wish ups k h =
    mild_up S f n x (acted c n x a) (said c n x a) s (said_mild c n told P x a may small wish (act_calm c n told x a may)) (act_same P c n x a wish) h
doing_goes S f P K c n told Down disk (Saves change) s judges may small wish ups k h = absurd may
doing_goes S f P K c n told (Up x) disk (Saves change) s judges may small wish ups k h = saved_goes S f P K c n told x change s judges may wish k h
doing_goes S f P K c n told node disk (Loses change why) s judges may small wish ups k h = mild_down S f n (first_lines n change ++ gone_line n why) s (gone_mild n change why) h.so
doing_goes S f P K c n told node disk (Forgets change why) s judges may small wish ups k h = mild_down S f n (first_lines n change ++ gone_line n why) s (gone_mild n change why) h.so

-- one after another
pub all_go : (S : Setting) (f : Account) (P : Wish) (K : List Moment → Type 0) (c : Cluster) (n : ℕ) (told : Delivered) (x : Site) (ds : List Doing) (s : Scene) → Judges S f n P K → MayAll c n told x ds
    → AllSmall ds → AllSo P c n x ds → AreUpSteps ds → K s.moments → Here S f n s.moments x.node
    → Went S f n s.moments (after_all c n x ds).node (passing n (given_all c n x ds) s).moments
all_go S f P K c n told x [] s judges may small wish ups k h = record { so = h.so; node = h.node; alike = alike_self f s.moments }
all_go S f P K c n told x (d ∷ ds) s judges may small wish ups k h =
    let os : List Output = gives c n x d in
    let y : Site = effect c n x d in
    let more : List Output = given_all c n y ds in
    let t : Scene = passing n os s in
    let first : Went S f n s.moments y.node t.moments = doing_goes S f P K c n told x.node x.disk d s judges may.0 small.0 wish.0 ups.0 k h in
    let rest : Went S f n t.moments (after_all c n y ds).node (passing n more t).moments =
    all_go S f P K c n told y ds t judges may.1 small.1 wish.1 ups.1 (judges.stays s.moments t.moments first.alike k) (record { so = first.so; node = first.node }) in
    subst (λ (z : Scene). Went S f n s.moments (after_all c n y ds).node z.moments) (sym (passing_append n os more s))
    (record { so = rest.so; node = rest.node; alike = alike_then f s.moments t.moments (passing n more t).moments first.alike rest.alike })
