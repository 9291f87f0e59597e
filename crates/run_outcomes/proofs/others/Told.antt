-- Where a node does not lead, and its queue is not open, its tasks are told: of the lines alone.
use Rattle.std.specs.Prelude.{ℕ, ◌≡◌, ◌≢◌, ◌==◌, ◌&&◌, ◌||◌, ◌⊎◌, not, Bool, true, false, List, [], ◌∷◌, length, Option, None, Some, is_some, option_map, if◌then◌else◌}
use Rattle.std.specs.List.{list_any}
use Rattle.std.proofs.Common.{refl, sym, ap, subst, ◌∙◌, inl, inr}
use Rattle.cl_base.specs.Sets.{has}
use Rattle.cmm_attempt.proofs.Basics.{and_cases, false_true, same_number}
use Rattle.status_report.specs.declared.attempt_entry.AttemptEntry.{AttemptEntry}
use Rattle.status_report.specs.declared.attempt_entry.AttemptEntry.TheVariants as tried
use Rattle.status_report.specs.declared.device_entry.DeviceEntry.{DeviceEntry}
use Rattle.status_report.specs.declared.device_entry.DeviceEntry.TheVariants as device_entry
use Rattle.status_report.specs.declared.entry.Entry.{Entry}
use Rattle.status_report.specs.declared.entry.Entry.TheVariants as entry
use Rattle.status_report.specs.declared.node_entry.NodeEntry.{NodeEntry}
use Rattle.status_report.specs.declared.node_entry.NodeEntry.TheVariants as note
use Rattle.status_report.specs.declared.packet_entry.PacketEntry.{PacketEntry}
use Rattle.status_report.specs.declared.packet_entry.PacketEntry.TheVariants as packet
use Rattle.history.specs.Letters.{Letter, letter_of}
use Rattle.history.specs.Member as member
use Rattle.history.specs.Member.{attempt_of, in_collect, number_of}
use Rattle.history.specs.Moment.{Moment, Part, Said, Told}
use Rattle.history.specs.Names as name
use Rattle.history.specs.Names.{Name}
use Rattle.history.specs.Order.{Always}
use Rattle.history.specs.Queue as told
use Rattle.history.specs.Queue.{Task, answer_told, is_open, is_write, joinings, moved, requested}
use Rattle.history.specs.Seizing.{acts_for, is_number}
use Rattle.history.specs.Setting.{Setting, all_to, coordinator, paths_of}
use Rattle.history.specs.Trace.{installed}
use Rattle.history.specs.UnderWay.{is_under_way}
use Rattle.history.specs.Validated.{validity}
use Rattle.run_seizings.proofs.Promising.{same_so}
use Rattle.run_devices.specs.queues.Told.{acts_in, is_plain, is_trusted, leads, leads_for, unless}
use Rattle.run_devices.specs.queues.Views.{brought, joined, leaves_open, sought, told_after, told_tasks}
use Rattle.run_devices.proofs.queues.Alone.{besides_of}
use Rattle.run_outcomes.specs.tasks.Others.{InstallsUnderWay, IsPlainly, LeadsOwn, is_asking}
use Rattle.run_outcomes.specs.tasks.Quiet.{IsQuiet}
use Rattle.run_outcomes.proofs.reports.Own.{number_so}
use Rattle.run_outcomes.proofs.told_tasks.Closed.{closed_before, quiet_clears, same_acts}
use Rattle.run_outcomes.proofs.told_tasks.Quiet.{same_number_of}
use Rattle.run_outcomes.specs.tasks.Lasting.{drops, lasts_open}

-- ---- a moment that tells nothing of it leaves whether it leads

for_same : (n : ℕ) (o : Option ℕ) (ms : List Moment) (x : Moment) → IsQuiet n ms x → leads_for n o (x ∷ ms) ≡ leads_for n o ms
for_same n None ms x k = refl
for_same n (Some e) ms x k = same_acts n e ms (x ∷ []) (k, tt)

quiet_leads : (n : ℕ) (ms : List Moment) (x : Moment) → IsQuiet n ms x → leads n (x ∷ ms) ≡ leads n ms
quiet_leads n ms x k = ap (λ o. leads_for n o (x ∷ ms)) (same_number_of n ms (x ∷ []) (k, tt)) ∙ for_same n (attempt_of n ms) ms x k

for_so : (n : ℕ) (o : Option ℕ) (ms : List Moment) (x : Moment) → ((e : ℕ) → acts_for n e (x ∷ ms) ≡ acts_for n e ms) → leads_for n o (x ∷ ms) ≡ leads_for n o ms
for_so n None ms x k = refl
for_so n (Some e) ms x k = k e

-- so does one behind which it has the same attempt and acts for the same
off_before : (n : ℕ) (x : Moment) (ms : List Moment) → attempt_of n (x ∷ ms) ≡ attempt_of n ms → ((e : ℕ) → acts_for n e (x ∷ ms) ≡ acts_for n e ms) → leads n (x ∷ ms) ≡ false
    → leads n ms ≡ false
off_before n x ms last acts off = sym (ap (λ o. leads_for n o (x ∷ ms)) last ∙ for_so n (attempt_of n ms) ms x acts) ∙ off

-- ---- tests

unlike : (m n : ℕ) → (m == n) ≡ false → m ≢ n
unlike m n off is = false_true (sym off ∙ same_so m n is)

dropped : (b : Bool) (o : Option (List Task)) → (b ≡ false → is_some o ≡ true) → is_some (if b then Some [] else o) ≡ true
dropped true o f = refl
dropped false o f = f refl

mapped : (f : List Task → List Task) (o : Option (List Task)) → is_some o ≡ true → is_some (option_map f o) ≡ true
mapped f None k = absurd (false_true k)
mapped f (Some ts) k = refl

which_off : (a b : Bool) → (a && b) ≡ false → (a ≡ false) ⊎ (b ≡ false)
which_off true b off = inr off
which_off false b off = inl refl

any_off : (b : Bool) → (b ≡ true → ⊥) → b ≡ false
any_off true ban = absurd (ban refl)
any_off false ban = refl

-- ---- a request

sought_some : (S : Setting) (n : ℕ) (l : Letter) (ms : List Moment) (o : Option (List Task)) → (is_asking l.name ≡ true → is_plain S n l ms ≡ true) → is_some o ≡ true
    → is_some (sought (besides_of S) n l ms l.name o) ≡ true
sought_some S n l ms o spelled k = by_name l.name spelled
  where
    f : List Task → List Task
    f = requested S n (Some l) ms

    quorum : (p q : Bool) → p ≡ true → is_some (if p && (true || q) then option_map f o else None) ≡ true
    quorum true q is = mapped f o k
    quorum false q is = absurd (false_true is)

    plainly : (p : Bool) → p ≡ true → is_some (if p then option_map f o else None) ≡ true
    plainly true is = mapped f o k
    plainly false is = absurd (false_true is)

    by_name : (z : Name) → (is_asking z ≡ true → is_plain S n l ms ≡ true) → is_some (sought (besides_of S) n l ms z o) ≡ true
    by_name (name.SeizeQuorum d) g = quorum (is_plain S n l ms) (is_trusted S n d ms || not (acts_in n (number_of l) ms)) (g refl)
    by_name (name.SeizeData d) g = plainly (is_plain S n l ms) (g refl)
    by_name name.Heartbeat g = k
    by_name name.Collect g = k
    by_name name.Promise g = k
    by_name name.Nack g = k
    by_name (name.Seized d) g = k
    by_name name.Install g = k
    by_name name.Ready g = k
    by_name name.Start g = k
    by_name (name.Prepare d) g = k
    by_name (name.Prepared d) g = k
    by_name (name.Commit d) g = k
    by_name (name.Order d) g = k
    by_name (name.Done d) g = k
    by_name (name.Request d) g = k
    by_name (name.Answer d) g = k
    by_name name.Excluded g = k

brought_some : (S : Setting) (n : ℕ) (l : Option Letter) (ms : List Moment) (o : Option (List Task)) → IsPlainly S n ms l → is_some o ≡ true
    → is_some (brought (besides_of S) n l ms o) ≡ true
brought_some S n None ms o spelled k = k
brought_some S n (Some l) ms o spelled k = sought_some S n l ms o spelled k

-- ---- an install

none_any : (f : ℕ → Bool) (xs : List ℕ) → list_any (λ d. false && f d) xs ≡ false
none_any f [] = refl
none_any f (x ∷ xs) = none_any f xs

neither : (a b : Bool) → (a || b) ≡ false → a ≡ false
neither true b k = absurd (false_true (sym k))
neither false b k = refl

not_all : (a b c d : Bool) → a ≡ true → b ≡ true → d ≡ true → (a && b && (c || d)) ≡ false → ⊥
not_all true true true d f g h k = false_true (sym k)
not_all true true false d f g h k = false_true (sym k ∙ h)
not_all true false c d f g h k = false_true g
not_all false b c d f g h k = false_true f

installed_some : (S : Setting) (n e : ℕ) (ms : List Moment) → InstallsUnderWay ms (installed n e) → lasts_open S n (installed n e ∷ ms) ≡ false
    → is_some (joined (besides_of S) n e ms) ≡ true
installed_some S n e ms own closed = by_any (list_any (leaves_open (besides_of S) n e ms) xs) (by_own (coordinator e == n) refl)
  where
    xs : List ℕ
    xs = all_to (length S.header.devices)

    after : List Moment
    after = installed n e ∷ ms

    opens : ℕ → Bool
    opens d = has (paths_of S.header d) n && is_open (validity S.header n d after)

    never : (coordinator e == n) ≡ true → list_any opens xs ≡ true → ⊥
    never is on =
        let at : coordinator e ≡ n = same_number (coordinator e) n is in
        let two : (is_number e (member.session_of n ms) ≡ true) × (is_under_way e ms ≡ true) = own at in
        let last : attempt_of n after ≡ Some e =
        ap (λ k. attempt_of k ms) (sym at) ∙ number_so e (attempt_of (coordinator e) ms) (and_cases (is_number e (attempt_of (coordinator e) ms)) _ two.1).0 in
        not_all (is_number e (member.session_of n after)) (is_under_way e after) _ (list_any opens xs) two.0 two.1 on
        (subst (λ o. told.is_untold S n o after ≡ false) last (neither (told.is_untold S n (attempt_of n after) after) _ closed))

    by_own : (b : Bool) → (coordinator e == n) ≡ b → list_any (leaves_open (besides_of S) n e ms) xs ≡ false
    by_own true is = subst (λ b. list_any (λ d. b && opens d) xs ≡ false) (sym is) (any_off (list_any opens xs) (never is))
    by_own false is = subst (λ b. list_any (λ d. b && opens d) xs ≡ false) (sym is) (none_any opens xs)

    by_any : (b : Bool) → b ≡ false → is_some (if b then None else Some (joinings S n e ms)) ≡ true
    by_any true off = absurd (false_true (sym off))
    by_any false off = refl

-- ---- each moment

-- what was told before is told, where it did not lead and this leaves its tasks
abbrev Before : Setting → ℕ → Moment → List Moment → Option (List Task) → Type 0
Before S n x ms o = drops n ms x ≡ false → leads n ms ≡ false → is_some o ≡ true

abbrev Goal : Setting → ℕ → Moment → List Moment → Option (List Task) → Type 0
Goal S n x ms o = Before S n x ms o → leads n (x ∷ ms) ≡ false → LeadsOwn S ms x → lasts_open S n (x ∷ ms) ≡ false → is_some (told_after (besides_of S) n x ms o) ≡ true

quiet : (S : Setting) (n : ℕ) (x : Moment) (ms : List Moment) (o : Option (List Task)) → IsQuiet n ms x → Before S n x ms o → leads n (x ∷ ms) ≡ false → is_some o ≡ true
quiet S n x ms o k before off = before (quiet_clears n ms x k) (sym (quiet_leads n ms x k) ∙ off)

node_some : (S : Setting) (n m : ℕ) (e : NodeEntry) (ms : List Moment) (o : Option (List Task)) → Goal S n (Told (entry.Node m e)) ms o
node_some S n m note.Up ms o before off own closed = dropped (m == n) o (λ is. quiet S n (Told (entry.Node m note.Up)) ms o (unlike m n is) before off)
node_some S n m (note.Down why) ms o before off own closed = dropped (m == n) o (λ is. quiet S n (Told (entry.Node m (note.Down why))) ms o (unlike m n is) before off)
node_some S n m note.Saved ms o before off own closed =
    dropped ((m == n) && in_collect n ms) o (λ is. quiet S n (Told (entry.Node m note.Saved)) ms o (either (which_off (m == n) (in_collect n ms) is)) before off)
  where
    either : ((m == n) ≡ false) ⊎ (in_collect n ms ≡ false) → (m ≢ n) ⊎ (in_collect n ms ≡ false)
    either (inl is) = inl (unlike m n is)
    either (inr is) = inr is
node_some S n m (note.Installed e) ms o before off own closed = by_test (m == n) refl
  where
    by_test : (b : Bool) → (m == n) ≡ b → is_some (if b then joined (besides_of S) n e ms else o) ≡ true
    by_test true is =
        let same : m ≡ n = same_number m n is in
        installed_some S n e ms (subst (λ z. InstallsUnderWay ms (installed z e)) same own.1) (subst (λ z. lasts_open S n (installed z e ∷ ms) ≡ false) same closed)
    by_test false is = quiet S n (Told (entry.Node m (note.Installed e))) ms o (unlike m n is) before off
node_some S n m (note.Member e) ms o before off own closed = quiet S n (Told (entry.Node m (note.Member e))) ms o tt before off
node_some S n m note.Ticked ms o before off own closed = quiet S n (Told (entry.Node m note.Ticked)) ms o tt before off

-- it ends while it leads
ended_some : (n e : ℕ) (ms : List Moment) (o : Option (List Task)) → leads (coordinator e) ms ≡ true → leads n ms ≡ false → ((coordinator e == n) ≡ false → is_some o ≡ true)
    → is_some (if coordinator e == n then None else o) ≡ true
ended_some n e ms o led off rest = by_test (coordinator e == n) refl
  where
    by_test : (b : Bool) → (coordinator e == n) ≡ b → is_some (if b then None else o) ≡ true
    by_test true is = absurd (false_true (sym off ∙ subst (λ k. leads k ms ≡ true) (same_number (coordinator e) n is) led))
    by_test false is = rest is

attempt_some : (S : Setting) (n : ℕ) (e : AttemptEntry) (ms : List Moment) (o : Option (List Task)) → Goal S n (Told (entry.Attempt e)) ms o
attempt_some S n (tried.Begun e members) ms o before off own closed =
    dropped (coordinator e == n) o (λ is. quiet S n (Told (entry.Attempt (tried.Begun e members))) ms o (unlike (coordinator e) n is) before off)
attempt_some S n (tried.Votes e have need lacking) ms o before off own closed =
    ended_some n e ms o own.2 (off_before n (Told (entry.Attempt (tried.Votes e have need lacking))) ms refl (λ f. refl) off) (λ is. quiet S n (Told (entry.Attempt (tried.Votes e have need lacking))) ms o (unlike (coordinator e) n is) before off)
attempt_some S n (tried.Superseded e q) ms o before off own closed = quiet S n (Told (entry.Attempt (tried.Superseded e q))) ms o tt before off
attempt_some S n (tried.Silent e m) ms o before off own closed = quiet S n (Told (entry.Attempt (tried.Silent e m))) ms o tt before off
attempt_some S n (tried.Excluded e m) ms o before off own closed =
    ended_some n e ms o own.2 (off_before n (Told (entry.Attempt (tried.Excluded e m))) ms refl (λ f. refl) off) (λ is. quiet S n (Told (entry.Attempt (tried.Excluded e m))) ms o (unlike (coordinator e) n is) before off)
attempt_some S n (tried.Foreign e m) ms o before off own closed =
    ended_some n e ms o own.2 (off_before n (Told (entry.Attempt (tried.Foreign e m))) ms refl (λ f. refl) off) (λ is. quiet S n (Told (entry.Attempt (tried.Foreign e m))) ms o (unlike (coordinator e) n is) before off)

packet_some : (S : Setting) (n : ℕ) (e : PacketEntry) (ms : List Moment) (o : Option (List Task)) → Goal S n (Told (entry.Packet e)) ms o
packet_some S n (packet.Delivered p a m) ms o before off own closed = by_test (m == n) refl
  where
    was : is_some o ≡ true
    was = before refl (off_before n (Told (entry.Packet (packet.Delivered p a m))) ms refl (λ f. refl) off)

    by_test : (b : Bool) → (m == n) ≡ b → is_some (if b then brought (besides_of S) n (letter_of p ms) ms o else o) ≡ true
    by_test true is = brought_some S n (letter_of p ms) ms o (subst (λ z. IsPlainly S z ms (letter_of p ms)) (same_number m n is) own.0) was
    by_test false is = was
packet_some S n (packet.Sent p a m called bytes) ms o before off own closed = before refl (off_before n (Told (entry.Packet (packet.Sent p a m called bytes))) ms refl (λ f. refl) off)
packet_some S n (packet.Lost p) ms o before off own closed = before refl (off_before n (Told (entry.Packet (packet.Lost p))) ms refl (λ f. refl) off)
packet_some S n (packet.Repeated p copy) ms o before off own closed = before refl (off_before n (Told (entry.Packet (packet.Repeated p copy))) ms refl (λ f. refl) off)
packet_some S n (packet.Dropped p why) ms o before off own closed = before refl (off_before n (Told (entry.Packet (packet.Dropped p why))) ms refl (λ f. refl) off)

device_some : (S : Setting) (n : ℕ) (e : DeviceEntry) (ms : List Moment) (o : Option (List Task)) → Goal S n (Told (entry.Device e)) ms o
device_some S n (device_entry.Command m d done reply) ms o before off own closed = by_test ((m == n) && not (is_write done)) (before refl (off_before n (Told (entry.Device (device_entry.Command m d done reply))) ms refl (λ f. refl) off))
  where
    by_test : (b : Bool) → is_some o ≡ true → is_some (if b then option_map (moved (answer_told reply)) o else o) ≡ true
    by_test true k = mapped (moved (answer_told reply)) o k
    by_test false k = k
device_some S n (device_entry.Accepted e m d value) ms o before off own closed = before refl (off_before n (Told (entry.Device (device_entry.Accepted e m d value))) ms refl (λ f. refl) off)
device_some S n (device_entry.Refused m d value why) ms o before off own closed = before refl (off_before n (Told (entry.Device (device_entry.Refused m d value why))) ms refl (λ f. refl) off)

entry_some : (S : Setting) (n : ℕ) (e : Entry) (ms : List Moment) (o : Option (List Task)) → Goal S n (Told e) ms o
entry_some S n (entry.Node m e) ms o before off own closed = node_some S n m e ms o before off own closed
entry_some S n (entry.Attempt e) ms o before off own closed = attempt_some S n e ms o before off own closed
entry_some S n (entry.Packet e) ms o before off own closed = packet_some S n e ms o before off own closed
entry_some S n (entry.Device e) ms o before off own closed = device_some S n e ms o before off own closed
entry_some S n e ms o before off own closed = before refl (off_before n (Told e) ms refl (λ f. refl) off)

moment_some : (S : Setting) (n : ℕ) (x : Moment) (ms : List Moment) (o : Option (List Task)) → Goal S n x ms o
moment_some S n (Told e) ms o before off own closed = entry_some S n e ms o before off own closed
moment_some S n (Said l) ms o before off own closed = before refl (off_before n (Said l) ms refl (λ f. refl) off)
moment_some S n (Part e) ms o before off own closed = before refl (off_before n (Part e) ms refl (λ f. refl) off)

pub told_some : (S : Setting) (n : ℕ) (ms : List Moment) → Always (LeadsOwn S) ms → leads n ms ≡ false → lasts_open S n ms ≡ false → is_some (told_tasks (besides_of S) n ms) ≡ true
told_some S n [] own off closed = refl
told_some S n (x ∷ ms) own off closed =
    subst (λ b. is_some (unless b (told_after (besides_of S) n x ms (told_tasks (besides_of S) n ms))) ≡ true) (sym off)
    (moment_some S n x ms (told_tasks (besides_of S) n ms) (λ calm out. told_some S n ms own.1 out (closed_before S n ms x calm closed)) off own.0 closed)
