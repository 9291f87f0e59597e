-- An install is a count that the machine allows, and a start comes where every member is ready.
use Rattle.std.proofs.Common.{◌≡◌, ℕ, ◌+◌, ◌<◌, ◌≤◌, ◌⊎◌, List, [], ◌∷◌, ◌++◌, length, refl, sym, ap, subst, ◌∙◌, arith}
use Rattle.std.specs.Prelude.{All, Contains, ◌==◌, ◌||◌, Bool, true, false, Option, Some, None, option_map}
use Rattle.std.specs.List.{find, filter_map, list_any, list_all}
use Rattle.std.proofs.lemmas.List.{length-append}
use Rattle.std.proofs.lemmas.List.Elements.{All-nil, All-cons, All-head, All-tail, All-contains}
use Rattle.ccr_commit.specs.declared.summary.Summary.{Summary}
use Rattle.ccr_commit.specs.Entries.{listed}
use Rattle.membership_machine.specs.Records.{Saved, IsBehind}
use Rattle.membership_machine.specs.State.{Memberships}
use Rattle.membership_machine.specs.Events.{HasNewest}
use Rattle.wire.specs.declared.lists.Reading.{Reading}
use Rattle.wire.specs.declared.message.Body.{Body}
use Rattle.wire.specs.declared.message.Body.TheVariants as body
use Rattle.wire.specs.declared.message.Install.{Install}
use Rattle.wire.specs.declared.message.Message.{Message}
use Rattle.cmm_attempt.specs.declared.phase.Phase.TheVariants.{Installing}
use Rattle.cmm_attempt.specs.declared.plan.Plan.{Plan}
use Rattle.cmm_attempt.specs.declared.promised.Promised.{Promised}
use Rattle.cmm_attempt.specs.declared.promised.Shown.{Shown}
use Rattle.cmm_attempt.specs.Promises.{pending_count, shown_by, promised_by, has_promised, is_from, newest_shown}
use Rattle.cmm_attempt.specs.Seizings.{reading_of}
use Rattle.cmm_attempt.specs.Calls.{turn, IsReached}
use Rattle.attempt_laws.specs.Laws.{HasVotes, CountsHeld}
use Rattle.attempt_laws.specs.Machine.{is_member, record_in, IsAnswer, MachineHas, NewestPromise, NewestIsShown, InstallsAreCounts, StartsAreReady, StartsFollow, InstallsComeFirst}
use Rattle.cmm_attempt.proofs.Basics.{none_some, false_true, same_some, or_cases, and_cases, either_of, same_number}
use Rattle.cmm_attempt.proofs.NewestLemmas.{IsNotBehind}
use Rattle.attempt_laws.proofs.NewestTaken.{newest_is_taken}
use Rattle.attempt_laws.proofs.Starts.{Sound, SoundIn, kept_by_call, sound_from}
use Rattle.attempt_laws.proofs.VotesAgree.{counted_with_held}
use Rattle.attempt_laws.proofs.Numbered.{numbered_by_call}
use Rattle.attempt_laws.proofs.Told.{member_of_plan}
use Rattle.attempt_laws.proofs.Goes.{IsChosen, ChosenIn, Goes, goes_by_call, chosen_reached}
use Rattle.cmm_attempt.specs.Installs.{committed_in, pending_in, install_by}
use Rattle.cmm_attempt.specs.Attempts.{AttemptState, has_readied, all_ready, install_in}

-- what all have, the one that is found has
pub of_any : {X : Type 0} (p : X → Bool) (P : X → Type 0) (Q : Type 0) (xs : List X) → list_any p xs ≡ true → All P xs → ((x : X) → p x ≡ true → P x → Q) → Q
of_any p P Q [] h all f = absurd (false_true h)
of_any p P Q (x ∷ xs) h all f =
    either_of (or_cases (p x) (list_any p xs) h) (λ e. f x e (All-head P x xs all)) (λ e. of_any p P Q xs e (All-tail P x xs all) f)

pub of_all : (f : ℕ → Bool) (n : ℕ) (ns : List ℕ) → list_all f ns ≡ true → list_any (λ m. m == n) ns ≡ true → f n ≡ true
of_all f n [] all h = absurd (false_true h)
of_all f n (m ∷ ns) all h =
    let two : (f m ≡ true) × (list_all f ns ≡ true) = and_cases (f m) (list_all f ns) all in
    either_of (or_cases (m == n) (list_any (λ k. k == n) ns) h) (λ e. subst (λ k. f k ≡ true) (same_number m n e) two.0) (λ e. of_all f n ns two.1 e)

-- The newest record.

-- the summary of this record
record IsSummary (x : Summary) (r : Saved) : Type 0 where
  installed : x.installed ≡ r.installed
  all : x.all ≡ length r.entries
  committed : x.committed ≡ r.committed

counted_pending : (o : Option (List ℕ)) → pending_count o ≡ length (listed o)
counted_pending None = refl
counted_pending (Some text) = refl

is_summary : (m : Message) (n : ℕ) (b : Body) (p : Promised) → promised_by m (shown_by n b) ≡ Some p → IsSummary p.shown.summary (record_in b)
is_summary m n (body.Promise epoch installed members valid flagged committed pending) p h =
    let b : Body = body.Promise epoch installed members valid flagged committed pending in
    subst (λ x. IsSummary x.shown.summary (record_in b)) (same_some _ p h) (record {
      installed = refl;
      all = ap (λ k. length committed + k) (counted_pending pending) ∙ sym (length-append committed (listed pending));
      committed = refl;
    })
is_summary m n _ p h = absurd (none_some p h)

behind : (a b : Summary) (r s : Saved) → IsSummary a r → IsSummary b s → IsNotBehind b a → IsBehind r s
behind a b r s x y h = behind_by r.installed (length r.entries) r.committed s.installed (length s.entries) s.committed a b x.installed x.all x.committed y.installed y.all y.committed h
  where
    behind_by : (ri ra rc si sa sc : ℕ) (a b : Summary) → a.installed ≡ ri → a.all ≡ ra → a.committed ≡ rc → b.installed ≡ si → b.all ≡ sa → b.committed ≡ sc → IsNotBehind b a
        → (ri < si) ⊎ ((ri ≡ si) × ((ra < sa) ⊎ ((ra ≡ sa) × (rc ≤ sc))))
    behind_by ri ra rc si sa sc a b e1 e2 e3 e4 e5 e6 h = grind arith

-- the record that is shown by an answer
showed_behind : (w : Memberships) (q members : ℕ) (best p : Promised) → IsAnswer w q members best → IsAnswer w q members p → IsNotBehind best.shown.summary p.shown.summary
    → IsBehind ((w.node p.shown.summary.node).showed q) ((w.node best.shown.summary.node).showed q)
showed_behind w q members best p b a h =
    subst (λ r. IsBehind r ((w.node best.shown.summary.node).showed q)) (sym a.showed)
    (subst (λ r. IsBehind (record_in p.message.body) r) (sym b.showed)
    (behind p.shown.summary best.shown.summary (record_in p.message.body) (record_in best.message.body)
    (is_summary p.message p.shown.summary.node p.message.body p a.shown) (is_summary best.message best.shown.summary.node best.message.body best b.shown) h))

member_of : (w : Memberships) (s : AttemptState) (m : ℕ) → MachineHas w s → (w.epoch s.plan.epoch).members m ≡ true → list_any (λ k. k == m) s.plan.nodes ≡ true
member_of w s m h member = member_of_plan w s m h ∙ (sym (h.members m) ∙ member)

promised : (w : Memberships) (s : AttemptState) (m : ℕ) → MachineHas w s → list_all (has_promised s.promises) s.plan.nodes ≡ true
    → (w.epoch s.plan.epoch).members m ≡ true → has_promised s.promises m ≡ true
promised w s m h all member = of_all (has_promised s.promises) m s.plan.nodes all (member_of w s m h member)

-- one of the Promises shows a record than which no other is newer
record Best (s : AttemptState) (n : ℕ) : Type 0 where
  best : Promised
  node : best.shown.summary.node ≡ n
  taken : Contains s.promises best
  first : All (λ p. IsNotBehind best.shown.summary p.shown.summary) s.promises

best_by : (s : AttemptState) (n : ℕ) (o : Option Shown) → newest_shown s.promises ≡ o → option_map (λ x. x.summary.node) o ≡ Some n → Best s n
best_by s n None is h = absurd (none_some n h)
best_by s n (Some newest) is h =
    let two : ((p : Promised) × Contains s.promises p × (p.shown ≡ newest)) × All (λ p. IsNotBehind newest.summary p.shown.summary) s.promises = newest_is_taken s.promises newest is in
    record {
      best = two.0.0;
      node = ap (λ x. x.summary.node) two.0.2 ∙ same_some newest.summary.node n h;
      taken = two.0.1;
      first = subst (λ x. All (λ p. IsNotBehind x.summary p.shown.summary) s.promises) (sym two.0.2) two.1;
    }

all_two : {X : Type 0} (P Q : X → Type 0) (xs : List X) → All P xs → All Q xs → All (λ x. P x × Q x) xs
all_two P Q [] h k = All-nil (λ x. P x × Q x)
all_two P Q (x ∷ xs) h k =
    All-cons (λ y. P y × Q y) x xs (All-head P x xs h, All-head Q x xs k) (all_two P Q xs (All-tail P x xs h) (All-tail Q x xs k))

has_newest : (w : Memberships) (s : AttemptState) (n : ℕ) → MachineHas w s → list_all (has_promised s.promises) s.plan.nodes ≡ true → Best s n
    → HasNewest w s.plan.epoch n
has_newest w s n h all b =
    let q : ℕ = s.plan.epoch in
    let best : IsAnswer w q s.plan.members b.best = All-contains (IsAnswer w q s.plan.members) s.promises b.best h.answers b.taken in
    record {
      all_answered = λ m member.
          of_any (λ p. p.shown.summary.node == m) (IsAnswer w q s.plan.members) ((w.node m).answered q ≡ true) s.promises (promised w s m h all member) h.answers
          (λ p e a. subst (λ k. (w.node k).answered q ≡ true) (same_number p.shown.summary.node m e) a.answered);
      of_member = h.members n ∙ (ap (is_member s.plan.members) (sym b.node) ∙ best.member);
      none_newer = λ m member.
          of_any (λ p. p.shown.summary.node == m) (λ p. IsAnswer w q s.plan.members p × IsNotBehind b.best.shown.summary p.shown.summary)
          (IsBehind ((w.node m).showed q) ((w.node n).showed q)) s.promises (promised w s m h all member)
          (all_two (IsAnswer w q s.plan.members) (λ p. IsNotBehind b.best.shown.summary p.shown.summary) s.promises h.answers b.first)
          (λ p e a. subst (λ k. IsBehind ((w.node m).showed q) ((w.node k).showed q)) b.node
          (subst (λ k. IsBehind ((w.node k).showed q) ((w.node b.best.shown.summary.node).showed q)) (same_number p.shown.summary.node m e)
          (showed_behind w q s.plan.members b.best p best a.0 a.1)));
    }

-- What the install carries.

record Found (w : Memberships) (q members : ℕ) (ps : List Promised) (n : ℕ) : Type 0 where
  promise : Promised
  found : find (is_from n) ps ≡ Some promise
  answer : IsAnswer w q members promise
  node : promise.shown.summary.node ≡ n

found_by : (w : Memberships) (q members : ℕ) (p : Promised) (ps : List Promised) (n : ℕ) (b : Bool) → is_from n p ≡ b → IsAnswer w q members p
    → (list_any (is_from n) ps ≡ true → Found w q members ps n) → (b || list_any (is_from n) ps) ≡ true → Found w q members (p ∷ ps) n
found_by w q members p ps n true e a rest h = record { promise = p; found = rw e refl; answer = a; node = same_number p.shown.summary.node n e }
found_by w q members p ps n false e a rest h =
    let f : Found w q members ps n = rest h in
    record { promise = f.promise; found = rw e f.found; answer = f.answer; node = f.node }

found_in : (w : Memberships) (q members : ℕ) (ps : List Promised) (n : ℕ) → list_any (is_from n) ps ≡ true → All (IsAnswer w q members) ps → Found w q members ps n
found_in w q members [] n h all = absurd (false_true h)
found_in w q members (p ∷ ps) n h all =
    found_by w q members p ps n (is_from n p) refl (All-head (IsAnswer w q members) p ps all) (λ k. found_in w q members ps n k (All-tail (IsAnswer w q members) p ps all)) h

carried : (b : Body) → committed_in b ++ listed (pending_in b) ≡ (record_in b).entries
carried (body.Promise epoch installed members valid flagged committed pending) = refl
carried _ = refl

carried_committed : (b : Body) → length (committed_in b) ≡ (record_in b).committed
carried_committed (body.Promise epoch installed members valid flagged committed pending) = refl
carried_committed _ = refl

-- the install by a Promise carries what its sender showed
record Carries (w : Memberships) (plan : Plan) (n : ℕ) (i : Install) : Type 0 where
  entries : i.committed ++ listed i.pending ≡ ((w.node n).showed plan.epoch).entries
  committed : length i.committed ≡ ((w.node n).showed plan.epoch).committed
  epoch : i.epoch ≡ plan.epoch
  members : i.members ≡ plan.members

carries_by : (w : Memberships) (plan : Plan) (readings : List Reading) (p : Promised) → IsAnswer w plan.epoch plan.members p
    → Carries w plan p.shown.summary.node (install_by plan readings (Some p))
carries_by w plan readings p a = record {
  entries = carried p.message.body ∙ ap (λ r. r.entries) (sym a.showed);
  committed = carried_committed p.message.body ∙ ap (λ r. r.committed) (sym a.showed);
  epoch = refl;
  members = refl;
}

-- every member promised, and so did the newest, which is one
carries : (w : Memberships) (s : AttemptState) (n : ℕ) → MachineHas w s → has_promised s.promises n ≡ true → n ≡ s.newest → Carries w s.plan n (install_in s)
carries w s n h some is =
    let f : Found w s.plan.epoch s.plan.members s.promises n = found_in w s.plan.epoch s.plan.members s.promises n some h.answers in
    let readings : List Reading = filter_map (reading_of s.devices) s.plan.attached in
    let by : Carries w s.plan n (install_by s.plan readings (Some f.promise)) =
    subst (λ k. Carries w s.plan k (install_by s.plan readings (Some f.promise))) f.node (carries_by w s.plan readings f.promise f.answer) in
    let found_newest : find (is_from s.newest) s.promises ≡ Some f.promise = subst (λ k. find (is_from k) s.promises ≡ Some f.promise) is f.found in
    subst (λ o. Carries w s.plan n (install_by s.plan readings o)) (sym found_newest) by

-- The laws.

enough_in : (s : AttemptState) → Sound s → s.phase ≡ Installing → HasVotes s.votes s.plan.members s.counted × CountsHeld s.counted s.devices
enough_in s sound is = subst (SoundIn s.votes s.plan.members s.counted s.devices) is sound

sound_reached : (s : AttemptState) → IsReached s → Sound s
sound_reached s r = sound_from r.p r.members r.own r.attached r.cluster r.calls s r.run

pub installs_are_counts : InstallsAreCounts
installs_are_counts S w s c i both reached may gives h given votes =
    let t : AttemptState = (turn s c).after in
    let goes : Goes s.phase (turn s c) = goes_by_call s c may (chosen_reached s reached) in
    let here : (t.phase ≡ Installing) × (i ≡ install_in t) = goes.install i gives in
    let chosen : IsChosen t.promises t.plan.nodes t.newest = subst (ChosenIn t) here.0 goes.chosen in
    let enough : HasVotes t.votes t.plan.members t.counted × CountsHeld t.counted t.devices = enough_in t (kept_by_call s c (sound_reached s reached)).sound here.0 in
    let best : Best t t.newest = best_by t t.newest (newest_shown t.promises) refl chosen.1 in
    let newest : HasNewest w t.plan.epoch t.newest = has_newest w t t.newest h chosen.0 best in
    let carried_all : Carries w t.plan t.newest i = subst (λ x. Carries w t.plan t.newest x) (sym here.1) (carries w t t.newest h (promised w t t.newest h chosen.0 newest.of_member) refl) in
    record {
      newest = newest;
      votes =
          counted_with_held S ((w.node t.newest).showed t.plan.epoch) both t.plan.members t.counted t.devices (w.epoch t.plan.epoch).members votes h.members enough.1
          (numbered_by_call s c reached may) (subst (λ o. HasVotes o t.plan.members t.counted) given enough.0);
      entries = carried_all.entries;
      committed = carried_all.committed;
      epoch = carried_all.epoch;
      members = carried_all.members;
    }

newest_promise : (w : Memberships) (s : AttemptState) → MachineHas w s → has_promised s.promises s.newest ≡ true → NewestPromise w s
newest_promise w s h some =
    let f : Found w s.plan.epoch s.plan.members s.promises s.newest = found_in w s.plan.epoch s.plan.members s.promises s.newest some h.answers in
    record {
      promise = f.promise;
      found = f.found;
      node = f.node;
      showed = subst (λ k. (w.node k).showed s.plan.epoch ≡ record_in f.promise.message.body) f.node f.answer.showed;
    }

pub newest_is_shown : NewestIsShown
newest_is_shown w s reached h is =
    let chosen : IsChosen s.promises s.plan.nodes s.newest = subst (ChosenIn s) is (chosen_reached s reached) in
    let best : Best s s.newest = best_by s s.newest (newest_shown s.promises) refl chosen.1 in
    let newest : HasNewest w s.plan.epoch s.newest = has_newest w s s.newest h chosen.0 best in
    (newest, newest_promise w s h (promised w s s.newest h chosen.0 newest.of_member))

ready_by : (w : Memberships) (s : AttemptState) (m : ℕ) → MachineHas w s → s.own_ready ≡ true → ((m == s.plan.coordinator) || has_readied s.readies m) ≡ true
    → (w.node m).ready s.plan.epoch ≡ true
ready_by w s m h own is =
    either_of (or_cases (m == s.plan.coordinator) (has_readied s.readies m) is)
    (λ e. subst (λ k. (w.node k).ready s.plan.epoch ≡ true) (sym (same_number m s.plan.coordinator e)) (h.own_ready own))
    (λ e. of_any (λ r. r.node == m) (λ r. (w.node r.node).ready s.plan.epoch ≡ true) ((w.node m).ready s.plan.epoch ≡ true) s.readies e h.ready
    (λ r k a. subst (λ n. (w.node n).ready s.plan.epoch ≡ true) (same_number r.node m k) a))

pub starts_are_ready : StartsAreReady
starts_are_ready w s c reached may starts h m member =
    let t : AttemptState = (turn s c).after in
    let start : (s.phase ≡ Installing) × (t.own_ready ≡ true) × (all_ready t ≡ true) = (goes_by_call s c may (chosen_reached s reached)).start starts in
    ready_by w t m h start.1 (of_all (λ n. (n == t.plan.coordinator) || has_readied t.readies n) m t.plan.nodes start.2 (member_of w t m h member))

pub starts_follow : StartsFollow
starts_follow s c reached may starts = ((goes_by_call s c may (chosen_reached s reached)).start starts).0

pub installs_come_first : InstallsComeFirst
installs_come_first s c reached may is = (goes_by_call s c may (chosen_reached s reached)).entered is
