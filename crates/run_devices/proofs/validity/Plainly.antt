-- What a node saves of its updates and its seat.
use Rattle.std.specs.Prelude.{ℕ, ◌≡◌, ◌⊎◌, ◌==◌, ◌&&◌, ◌++◌, Bool, true, false, List, [], ◌∷◌}
use Rattle.std.proofs.Common.{refl, sym, ap, subst, ◌∙◌}
use Rattle.ccr_commit.specs.Entries.{all_committed, with_next}
use Rattle.cl_base.specs.Sets.{has}
use Rattle.cl_base.specs.declared.header.Header.{Header}
use Rattle.cmm_attempt.specs.Attempts.{AttemptState}
use Rattle.cmm_attempt.specs.Calls.{turn}
use Rattle.cmm_member.specs.Nodes.{NodeState, with_entries}
use Rattle.cmm_member.specs.Records.{NodeRecord}
use Rattle.status_report.specs.declared.entry.Entry.TheVariants as entry
use Rattle.status_report.specs.declared.node_entry.NodeEntry.TheVariants as note
use Rattle.history.specs.Member.{in_collect}
use Rattle.history.specs.Moment.{Moment}
use Rattle.history.specs.Trace.{saved}
use Rattle.history.specs.Validated.{moved_on, validity}
use Rattle.node_model.specs.Attempts.{base_lines, starting_as}
use Rattle.node_model.specs.Seats.{installed_of, record_of, session_of, state_of, with_state}
use Rattle.node_model.specs.declared.cluster.Cluster.{Cluster}
use Rattle.node_model.specs.declared.node.Node.TheVariants.{Up}
use Rattle.node_model.specs.declared.node.UpNode.{UpNode}
use Rattle.node_model.specs.declared.output.Output.{Output}
use Rattle.refinement.specs.Doings.{Change, adopted_by, changed, first_lines, last_lines, of_node, site}
use Rattle.refinement.specs.Doings.Change.{Acks, Admits, Commits, Counts, Distrusts, Installs, Leads, Prepares, Promises, Proposes, Sits, Starts}
use Rattle.refinement.specs.Guards.{MayChange}
use Rattle.refinement.specs.Runs.{Nodes}
use Rattle.refinement.specs.Ties.{Delivered}
use Rattle.refinement.specs.Worlds.{AllFit}
use Rattle.run_history.proofs.Ups.{same_state}
use Rattle.run_history.proofs.Walk.{passing_append}
use Rattle.run_history.specs.Scenes.{Scene, passing}
use Rattle.run_seizings.proofs.Changes.{NoCollect, fit_parts, mid}
use Rattle.run_devices.specs.validity.Kept.{NoExcuse, SiteSo}
use Rattle.run_devices.specs.validity.Laws.{Agrees}
use Rattle.run_devices.proofs.validity.Acts.{up_same}
use Rattle.run_devices.proofs.validity.Goes.{AreMild, Goes, goes_at, line_goes, mild_append, outputs_go}
use Rattle.run_devices.proofs.validity.Mild.{adopted_mild, bases_mild}
use Rattle.run_devices.proofs.validity.Stills.{Still, entered_more, or_not, site_stays}

no_truth : false ≡ true → ⊥
no_truth e = cc

-- ---- it is saved

and_not : (a b : Bool) → b ≡ false → (a && b) ≡ false
and_not true b h = h
and_not false b h = refl

pub saved_still : (h : Header) (ms : List Moment) (n : ℕ) → in_collect n ms ≡ false → Still h ms n (saved n)
saved_still h ms n calm = record {
  valid = λ d. refl;
  moved = or_not ((n == n) && in_collect n ms) (moved_on n ms) (and_not (n == n) (in_collect n ms) calm);
  last = refl;
  entered = λ d q k. entered_more ms n d q (saved n) refl k;
}

pub mid_goes : (h : Header) (n : ℕ) (told : Delivered) (v w : Nodes) (x : UpNode) (disk : NodeRecord) (s : Scene) (b : Bool) → (b ≡ true → NoCollect told)
    → Goes h n told v w NoExcuse (site (Up x) disk) s → Goes h n told v w NoExcuse (site (Up x) disk) (passing n (mid b n) s)
mid_goes h n told v w x disk s false calm k = k
mid_goes h n told v w x disk s true calm k =
    line_goes h n told v w NoExcuse NoExcuse (site (Up x) disk) (site (Up x) disk) s (entry.Node n note.Saved) tt (λ j ne same. ne (sym same))
    (site_stays h s.moments (saved n) n NoExcuse (site (Up x) disk) (saved_still h s.moments n (k.hand.calm (calm refl))) k.here) k

-- ---- changes of what is committed, or of the seat

-- all but these: a promise, an install, and which device is valid
abbrev pub IsPlain : Change → Type 0
IsPlain (Starts a k s) = Unit {0}
IsPlain (Sits s e) = Unit {0}
IsPlain (Proposes s p text) = Unit {0}
IsPlain (Acks s p q left text) = Unit {0}
IsPlain (Prepares s text) = Unit {0}
IsPlain (Commits s) = Unit {0}
IsPlain _ = ⊥

record SameState (s t : NodeState) : Type 0 where
  session : t.session ≡ s.session
  installed : t.saved.installed ≡ s.saved.installed
  valid : t.saved.valid ≡ s.saved.valid

with_seat : (x : UpNode) (s : NodeState) (es : _) → s ≡ state_of x.seat → SameState (state_of x.seat) (with_entries s es)
with_seat x s es is = subst (λ z. SameState z (with_entries s es)) is (record { session = refl; installed = refl; valid = refl })

with_same : (x : UpNode) (es : _) → SameState (state_of x.seat) (state_of (with_state x.seat (with_entries (state_of x.seat) es)))
with_same x es =
    subst (λ z. SameState (state_of x.seat) z) (sym (same_state x.seat (with_entries (state_of x.seat) es))) (record { session = refl; installed = refl; valid = refl })

plain_state : (c : Cluster) (n : ℕ) (told : Delivered) (x : UpNode) (ch : Change) → MayChange c n told x ch → IsPlain ch
    → SameState (state_of x.seat) (state_of (changed c n x ch).seat)
plain_state c n told x (Starts a k s) may is = with_seat x s (all_committed s.saved.entries) (sym (ap state_of may.1))
plain_state c n told x (Sits s e) may is = with_seat x s (all_committed s.saved.entries) (sym (ap state_of may.0))
plain_state c n told x (Proposes s p text) may is = with_same x (with_next (record_of x).entries text)
plain_state c n told x (Acks s p q left text) may is = with_same x (all_committed (record_of x).entries)
plain_state c n told x (Prepares s text) may is = with_seat x s (with_next s.saved.entries text) (sym (ap state_of may.0))
plain_state c n told x (Commits s) may is = with_seat x s (all_committed s.saved.entries) (sym (ap state_of may.0))
plain_state c n told x (Promises p) may is = absurd is
plain_state c n told x (Leads p members) may is = absurd is
plain_state c n told x (Counts a k s i) may is = absurd is
plain_state c n told x (Installs s i) may is = absurd is
plain_state c n told x (Distrusts d) may is = absurd is
plain_state c n told x (Admits on command a d) may is = absurd is

plain_tasks : (c : Cluster) (n : ℕ) (x : UpNode) (ch : Change) → IsPlain ch → (changed c n x ch).tasks ≡ x.tasks
plain_tasks c n x (Starts a k s) is = refl
plain_tasks c n x (Sits s e) is = refl
plain_tasks c n x (Proposes s p text) is = refl
plain_tasks c n x (Acks s p q left text) is = refl
plain_tasks c n x (Prepares s text) is = refl
plain_tasks c n x (Commits s) is = refl
plain_tasks c n x (Promises p) is = absurd is
plain_tasks c n x (Leads p members) is = absurd is
plain_tasks c n x (Counts a k s i) is = absurd is
plain_tasks c n x (Installs s i) is = absurd is
plain_tasks c n x (Distrusts d) is = absurd is
plain_tasks c n x (Admits on command a d) is = absurd is

plain_lines : (c : Cluster) (n : ℕ) (x : UpNode) (ch : Change) → IsPlain ch → AreMild (first_lines n ch) × AreMild (last_lines c n x ch)
plain_lines c n x (Starts a k s) is =
    let y : AttemptState = (turn a k).after in
    let bases : List Output = base_lines y.plan.epoch 0 (all_committed s.saved.entries).committed in
    let rest : List Output = adopted_by c y (starting_as c n x y s) in (
      tt,
      (
        tt,
        mild_append bases (rest ++ of_node n (note.Member y.plan.epoch) ∷ []) (bases_mild y.plan.epoch 0 (all_committed s.saved.entries).committed)
            (mild_append rest (of_node n (note.Member y.plan.epoch) ∷ []) (adopted_mild c y (starting_as c n x y s)) (tt, tt)),
      ),
    )
plain_lines c n x (Sits s e) is = (tt, (tt, tt))
plain_lines c n x (Proposes s p text) is = ((tt, tt), tt)
plain_lines c n x (Acks s p q left text) is = (tt, (tt, tt))
plain_lines c n x (Prepares s text) is = (tt, tt)
plain_lines c n x (Commits s) is = (tt, tt)
plain_lines c n x (Promises p) is = absurd is
plain_lines c n x (Leads p members) is = absurd is
plain_lines c n x (Counts a k s i) is = absurd is
plain_lines c n x (Installs s i) is = absurd is
plain_lines c n x (Distrusts d) is = absurd is
plain_lines c n x (Admits on command a d) is = absurd is

-- the node goes on with the same valid devices, session, installed epoch and tasks
site_same : (h : Header) (ms : List Moment) (n : ℕ) (x y : UpNode) (disk new : NodeRecord) → new.valid ≡ disk.valid → session_of y ≡ session_of x → installed_of y ≡ installed_of x
    → y.tasks ≡ x.tasks → SiteSo h ms n NoExcuse (site (Up x) disk) → SiteSo h ms n NoExcuse (site (Up y) new)
site_same h ms n x y disk new valid session here tasks k = record {
  valid = λ d is. subst (λ s. Agrees (validity h n d ms) (has s d) ⊎ ⊥) (sym valid) (k.valid d is);
  up = up_same ms n x y session here tasks k.up;
}

pub plain_goes : (h : Header) (c : Cluster) (n : ℕ) (told : Delivered) (v w : Nodes) (disk new : NodeRecord) (x : UpNode) (ch : Change) (b : Bool) (s : Scene) → disk ≡ record_of x
    → new ≡ record_of (changed c n x ch) → MayChange c n told x ch → IsPlain ch → (b ≡ true → NoCollect told) → AllFit n (first_lines n ch ++ (mid b n ++ last_lines c n x ch))
    → Goes h n told v w NoExcuse (site (Up x) disk) s
    → Goes h n told v w NoExcuse (site (Up (changed c n x ch)) new) (passing n (first_lines n ch ++ (mid b n ++ last_lines c n x ch)) s)
plain_goes h c n told v w disk new x ch b s same is_new may is calm fit k =
    let y : UpNode = changed c n x ch in
    let state : SameState (state_of x.seat) (state_of y.seat) = plain_state c n told x ch may is in
    let mildly : AreMild (first_lines n ch) × AreMild (last_lines c n x ch) = plain_lines c n x ch is in
    let parts : AllFit n (first_lines n ch) × AllFit n (mid b n ++ last_lines c n x ch) = fit_parts n (first_lines n ch) (mid b n ++ last_lines c n x ch) fit in
    let last : AllFit n (last_lines c n x ch) = (fit_parts n (mid b n) (last_lines c n x ch) parts.1).1 in
    let t : Scene = passing n (first_lines n ch) s in
    let first : Goes h n told v w NoExcuse (site (Up x) disk) t = outputs_go h n told v w NoExcuse (site (Up x) disk) (first_lines n ch) s parts.0 mildly.0 k in
    let u : Scene = passing n (mid b n) t in
    let all : Goes h n told v w NoExcuse (site (Up x) disk) (passing n (last_lines c n x ch) u) =
    outputs_go h n told v w NoExcuse (site (Up x) disk) (last_lines c n x ch) u last mildly.1 (mid_goes h n told v w x disk t b calm first) in
    let z : Scene = passing n (last_lines c n x ch) u in
    subst (λ m. Goes h n told v w NoExcuse (site (Up y) new) m)
    (sym (passing_append n (first_lines n ch) (mid b n ++ last_lines c n x ch) s ∙ passing_append n (mid b n) (last_lines c n x ch) t))
    (goes_at h n told v w NoExcuse NoExcuse (site (Up x) disk) (site (Up y) new) z
    (site_same h z.moments n x y disk new (ap (λ (r : NodeRecord). r.valid) is_new ∙ (state.valid ∙ sym (ap (λ (r : NodeRecord). r.valid) same))) state.session state.installed
    (plain_tasks c n x ch is) all.here) all)
