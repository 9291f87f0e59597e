-- What each Excluded tells of its receiver stays so, while nodes give lines and messages; and a node that panics at one was told so.
use Rattle.std.specs.Prelude.{ℕ, ◌≡◌, ◌≢◌, ◌≤◌, ◌⊎◌, ◌==◌, ◌&&◌, ◌||◌, nat_le, Bool, true, false, List, [], ◌∷◌, length, Option, None, Some, option_map, if◌then◌else◌}
use Rattle.std.specs.List.{list_any}
use Rattle.std.proofs.Common.{refl, sym, subst, ◌∙◌, arith, inl, inr}
use Rattle.attempt_laws.proofs.Walk.{if_with}
use Rattle.cl_base.specs.declared.packet.DropCause.{DropCause}
use Rattle.cl_base.specs.declared.panic.Panic.TheVariants as panic
use Rattle.cmm_attempt.proofs.Basics.{and_cases, false_true, none_some, same_number, same_some}
use Rattle.history.specs.Downs.{is_excluded_by, is_notice, is_own_exclusion, is_told_excluded}
use Rattle.history.specs.Letters.{Letter, arrived, is_letter, letter_of, passes, says}
use Rattle.history.specs.Moment.{Moment, Part, Said, Told}
use Rattle.history.specs.Names as name
use Rattle.history.specs.Names.{Name, named, same_name}
use Rattle.history.specs.Order.{so_far}
use Rattle.interconnect.specs.Links as links
use Rattle.interconnect.specs.Links.{sending}
use Rattle.node_model.specs.Seats.{is_in, session_of}
use Rattle.node_model.specs.declared.node.UpNode.{UpNode}
use Rattle.node_model.specs.declared.output.Output.{Output}
use Rattle.node_model.specs.declared.output.Output.TheVariants.{Sends, Tells}
use Rattle.refinement.proofs.node_widths.Lengths.{sent_messages_fit}
use Rattle.refinement.specs.Doings.{Site}
use Rattle.refinement.specs.Guards.{Says}
use Rattle.refinement.specs.Ties.{Delivered}
use Rattle.refinement.specs.Widths.{LetterFits}
use Rattle.run_history.specs.Scenes.{Scene, dropped_so, passing, posting, sent_as, telling, with_links}
use Rattle.run_messages.specs.Outputs.{AreGood, NoPacket}
use Rattle.run_messages.specs.records.Kept.{Came, HandKept}
use Rattle.status_report.specs.declared.entry.Entry.{Entry}
use Rattle.status_report.specs.declared.entry.Entry.TheVariants as entry
use Rattle.status_report.specs.declared.node_entry.DownCause.TheVariants as cause
use Rattle.status_report.specs.declared.node_entry.NodeEntry.TheVariants as note
use Rattle.status_report.specs.declared.packet_entry.PacketEntry.TheVariants as packet
use Rattle.wire.proofs.Messages.{whole_again}
use Rattle.wire.specs.Reads.{whole_of}
use Rattle.wire.specs.Spelling.{Fits, spelling}
use Rattle.wire.specs.declared.message.Body.{Body}
use Rattle.wire.specs.declared.message.Body.TheVariants as body
use Rattle.wire.specs.declared.message.Message.{Message}
use Rattle.world_model.specs.Sends.{is_sent, name_of}
use Rattle.run_outcomes.specs.panics.Notices.{IsNoticeIn, NoNotice}
use Rattle.run_outcomes.specs.panics.Sites.{AllJudged, BodySo, IsPast, Judged, SaysSo}
use Rattle.run_outcomes.proofs.panics.Calm.{AreCalm, IsCalmLine}

-- ---- as nodes go on

-- what is past stays past
abbrev pub Onward : (ℕ → Site) → (ℕ → Site) → Type 0
Onward v w = (k e : ℕ) → IsPast (v k) e → IsPast (w k) e

body_onward : (v w : ℕ → Site) (before : List Moment) (to : ℕ) (b : Body) → Onward v w → BodySo v before to b → BodySo w before to b
body_onward v w before to (body.Excluded e newest) on (inl h) = inl h
body_onward v w before to (body.Excluded e newest) on (inr past) = inr (on to e past)
body_onward v w before to _ on h = tt

says_onward : (v w : ℕ → Site) (before : List Moment) (x : Moment) → Onward v w → SaysSo v before x → SaysSo w before x
says_onward v w before (Told (entry.Packet (packet.Sent p n to called bytes))) on h = λ m is. body_onward v w before to m.body on (h m is)
says_onward v w before _ on h = tt

pub all_onward : (v w : ℕ → Site) (ms : List Moment) → Onward v w → AllJudged v ms → AllJudged w ms
all_onward v w [] on h = tt
all_onward v w (x ∷ before) on h = (record { says = says_onward v w before x on h.0.says; panics = h.0.panics }, all_onward v w before on h.1)

-- ---- each moment

size : (k : ℕ) → nat_le k 131072 ≡ true → k ≤ 131072
size k e = grind arith

read_so : (v : ℕ → Site) (ms : List Moment) (n to : ℕ) (b : Body) → Fits (record { sender = n; body = b }) → BodySo v ms to b → (m : Message) → whole_of (spelling (record { sender = n; body = b })) ≡ Some m → BodySo v ms to m.body
read_so v ms n to b fits so m is = subst (λ (z : Message). BodySo v ms to z.body) (same_some _ m (sym (whole_again (record { sender = n; body = b }) fits) ∙ is)) so

pub dropped_judged : (v : ℕ → Site) (o : Option (ℕ × DropCause)) (s : Scene) → AllJudged v s.moments → AllJudged v (dropped_so o s).moments
dropped_judged v None s h = h
dropped_judged v (Some drop) s h = (record { says = tt; panics = tt }, h)

pub posting_judged : (v : ℕ → Site) (n to : ℕ) (b : Body) (s : Scene) → LetterFits (record { from = n; body = b }) → BodySo v s.moments to b → AllJudged v s.moments → AllJudged v (posting n to (record { sender = n; body = b }) s).moments
posting_judged v n to b s fits so h =
    let m : Message = record { sender = n; body = b } in
    let o : links.Outcome = sending s.links n to (spelling m) in
    if_with (λ (t : Scene). AllJudged v t.moments) (is_sent s.links m) (is_sent s.links m) (sent_as n to m o s) s refl
    (λ e. dropped_judged v o.sent.dropped (telling (entry.Packet (packet.Sent s.links.next n to (name_of m.body) (spelling m))) (with_links s o.after))
    (record { says = read_so v s.moments n to b (sent_messages_fit m fits.0 fits.1 (size (length (spelling m)) (and_cases _ _ e).0)) so; panics = tt }, h))
    (λ e. h)

line_judged : (v : ℕ → Site) (e : Entry) (ms : List Moment) → NoPacket e → IsCalmLine e → Judged v ms (Told e)
line_judged v (entry.Packet e) ms good calm = absurd good
line_judged v (entry.Node m (note.Down (cause.Panic (panic.Excluded f)))) ms good calm = absurd calm
line_judged v _ ms good calm = record { says = tt; panics = tt }

no_notice : (v : ℕ → Site) (ms : List Moment) (to : ℕ) (b : Body) → NoNotice b → BodySo v ms to b
no_notice v ms to (body.Excluded e newest) h = absurd h
no_notice v ms to _ h = tt

pub passing_judged : (v : ℕ → Site) (n : ℕ) (os : List Output) (s : Scene) → AreGood n os → AreCalm os → AllJudged v s.moments → AllJudged v (passing n os s).moments
passing_judged v n [] s good calm h = h
passing_judged v n (Tells e ∷ os) s good calm h = passing_judged v n os (telling e s) good.1 calm.1 (line_judged v e s.moments good.0 calm.0, h)
passing_judged v n (Sends to b ∷ os) s good calm h =
    passing_judged v n os (posting n to (record { sender = n; body = b }) s) good.1 calm.1 (posting_judged v n to b s good.0 (no_notice v s.moments to b calm.0) h)

-- ---- the letter that has arrived

abbrev LetterSo : (ℕ → Site) → Letter → Type 0
LetterSo v l = (m : Message) → whole_of l.bytes ≡ Some m → BodySo v l.before l.to m.body

letter_so : (v : ℕ → Site) (p : ℕ) (ms : List Moment) (l : Letter) → AllJudged v ms → letter_of p ms ≡ Some l → LetterSo v l
letter_so v p [] l h is = absurd (none_some l is)
letter_so v p (Told (entry.Packet (packet.Sent q a b called bytes)) ∷ ms) l h is = by_number (q == p) is (λ at. letter_so v p ms l h.1 at)
  where
    by_number : (t : Bool) → (if t then Some (record { from = a; to = b; name = named called; bytes = bytes; before = ms }) else letter_of p ms) ≡ Some l → (letter_of p ms ≡ Some l → LetterSo v l) → LetterSo v l
    by_number true e next = subst (LetterSo v) (same_some _ l e) h.0.says
    by_number false e next = next e
letter_so v p (Told (entry.Packet (packet.Repeated q copy)) ∷ ms) l h is = letter_so v (if copy == p then q else p) ms l h.1 is
letter_so v p (_ ∷ ms) l h is = letter_so v p ms l h.1 is

arrived_so : (v : ℕ → Site) (ms : List Moment) (l : Letter) → AllJudged v ms → arrived ms ≡ Some l → LetterSo v l
arrived_so v [] l h is = absurd (none_some l is)
arrived_so v (Said line ∷ ms) l h is = absurd (none_some l is)
arrived_so v (Part event ∷ ms) l h is = absurd (none_some l is)
arrived_so v (Told (entry.Packet (packet.Delivered p a b)) ∷ ms) l h is = letter_so v p ms l h.1 is
arrived_so v (_ ∷ ms) l h is = arrived_so v ms l h.1 is

-- ---- a panic at an Excluded

and_both : (a b : Bool) → a ≡ true → b ≡ true → (a && b) ≡ true
and_both true b h k = k
and_both false b h k = absurd (false_true h)

or_second : (a b : Bool) → b ≡ true → (a || b) ≡ true
or_second true b h = refl
or_second false b h = h

itself : (a b : ℕ) → a ≡ b → (a == b) ≡ true
itself a b e = grind arith

in_session : (x : UpNode) (e : ℕ) → is_in x e ≡ true → session_of x ≡ e
in_session x e h = same_number (session_of x) e (and_cases (nat_le 1 e) (session_of x == e) h).1

-- what its receiver, which is in the session of the attempt, can rely on
told_so : (v : ℕ → Site) (l : Letter) (e newest f n : ℕ) (x : UpNode) → LetterSo v l → says l.bytes ≡ Some (body.Excluded e newest) → l.to ≡ n → ((k : ℕ) → IsPast (v n) k → session_of x ≢ k) → is_in x e ≡ true → newest ≡ f
    → is_notice n f l (says l.bytes) ≡ true
told_so v l e newest f n x so says_it receiver gone here same = subst (λ o. is_notice n f l o ≡ true) (sym says_it) (and_both (newest == f) _ (itself newest f same) (by_whole (whole_of l.bytes) refl says_it))
  where
    by_body : (b : Body) → b ≡ body.Excluded e newest → BodySo v l.before l.to b → is_excluded_by f e n (so_far l.before) l.before ≡ true
    by_body b is h = by_so (subst (BodySo v l.before n) is (subst (λ k. BodySo v l.before k b) receiver h))
      where
        by_so : (is_excluded_by newest e n (so_far l.before) l.before ≡ true) ⊎ IsPast (v n) e → is_excluded_by f e n (so_far l.before) l.before ≡ true
        by_so (inl k) = subst (λ g. is_excluded_by g e n (so_far l.before) l.before ≡ true) same k
        by_so (inr past) = absurd (gone e past (in_session x e here))

    by_whole : (o : Option Message) → whole_of l.bytes ≡ o → option_map (λ (m : Message). m.body) o ≡ Some (body.Excluded e newest) → is_excluded_by f e n (so_far l.before) l.before ≡ true
    by_whole None at is = absurd (none_some (body.Excluded e newest) is)
    by_whole (Some m) at is = by_body m.body (same_some m.body (body.Excluded e newest) is) (so m at)

came_so : (v : ℕ → Site) (ms : List Moment) (n from f : ℕ) (b : Body) (x : UpNode) → Came ms n from b → AllJudged v ms → ((k : ℕ) → IsPast (v n) k → session_of x ≢ k) → IsNoticeIn x f b
    → passes (λ l. is_letter name.Excluded l.from n l && is_notice n f l (says l.bytes)) (arrived ms) ≡ true
came_so v ms n from f (body.Excluded e newest) x came judged gone h =
    let l : Letter = came.letter in
    subst (λ o. passes (λ z. is_letter name.Excluded z.from n z && is_notice n f z (says z.bytes)) o ≡ true) (sym came.here)
    (and_both (is_letter name.Excluded l.from n l) _
    (and_both (same_name l.name name.Excluded && (l.from == l.from)) (l.to == n)
    (and_both (same_name l.name name.Excluded) (l.from == l.from) (subst (λ z. same_name z name.Excluded ≡ true) (sym came.called) refl) (itself l.from l.from refl)) (itself l.to n came.receiver))
    (told_so v l e newest f n x (arrived_so v ms l judged came.here) came.read came.receiver gone h.0 h.1))
came_so v ms n from f _ x came judged gone h = absurd h

pub heard_so : (v : ℕ → Site) (ms : List Moment) (n f : ℕ) (told : Delivered) (x : UpNode) → HandKept ms n told → AllJudged v ms → ((k : ℕ) → IsPast (v n) k → session_of x ≢ k) → Says (IsNoticeIn x f) told → is_told_excluded n f ms ≡ true
heard_so v ms n f None x hand judged gone h = absurd h
heard_so v ms n f (Some d) x hand judged gone h = or_second (list_any (is_own_exclusion n f ms) (so_far ms)) _ (came_so v ms n d.0 f d.1.body x hand judged gone h)
