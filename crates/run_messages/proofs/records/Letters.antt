-- Letters are sound, and so are the Promises that a coordinator has in hand: each shows what a member of the attempt showed.
use Rattle.std.specs.Prelude.{ℕ, ◌≡◌, ◌==◌, ◌++◌, ◌+◌, ◌||◌, Bool, true, false, List, [], ◌∷◌, Option, None, Some, is_some, option_map, length, if◌then◌else◌}
use Rattle.std.specs.List.{AllByRecursion, list_any}
use Rattle.std.specs.Option.{option_to_list}
use Rattle.std.proofs.lemmas.List.{append-nil, length-append}
use Rattle.ccr_commit.specs.Entries.{listed}
use Rattle.std.proofs.Common.{refl, sym, ap, subst, ◌∙◌, arith}
use Rattle.attempt_laws.specs.Machine.{record_in as machine_record}
use Rattle.cmm_attempt.proofs.Basics.{and_cases, same_some, same_number}
use Rattle.history.specs.Letters.{Letter, arrived, arriving, letter_of, says}
use Rattle.history.specs.Member.{promised_to}
use Rattle.history.specs.Moment.{Moment, Part, Said, Told}
use Rattle.history.specs.Names as name
use Rattle.history.specs.Names.{Name, named, same_name}
use Rattle.history.specs.Records.{NodeRecord as Shown, is_promise_of, promise_among, promises, record_in, records_told}
use Rattle.history.specs.Seizing.{is_attempt, is_number}
use Rattle.membership_machine.specs.Records.{Saved}
use Rattle.membership_machine.specs.State.{Memberships}
use Rattle.status_report.specs.declared.entry.Entry.TheVariants as entry
use Rattle.status_report.specs.declared.packet_entry.PacketEntry.{PacketEntry}
use Rattle.status_report.specs.declared.packet_entry.PacketEntry.TheVariants as packet_entry
use Rattle.wire.specs.Reads.{whole_of}
use Rattle.wire.specs.declared.message.Body.{Body}
use Rattle.wire.specs.declared.message.Body.TheVariants as body
use Rattle.wire.specs.declared.message.Message.{Message}
use Rattle.world_model.specs.Sends.{name_of}
use Rattle.run_messages.specs.records.Kept.{shows_from}
use Rattle.run_messages.specs.records.Shown.{IsOf, flag}
use Rattle.run_messages.specs.records.Sound.{AllSound, BodySound, LetterSound, PromiseSound}

no_truth : false ≡ true → ⊥
no_truth h = cc

none_is : {X : Type 0} (x : X) → None ≡ Some x → ⊥
none_is x h = cc

-- ---- letters

by_packet : (M : Memberships) (p : ℕ) (before : List Moment) (e : PacketEntry) (l : Letter) → AllSound M (Told (entry.Packet e) ∷ before) → letter_of p (Told (entry.Packet e) ∷ before) ≡ Some l
    → ((q : ℕ) → letter_of q before ≡ Some l → LetterSound M l) → LetterSound M l
by_packet M p before (packet_entry.Sent q a b called bytes) l h is next = by_number (q == p) is
  where
    by_number : (t : Bool) → (if t then Some (record { from = a; to = b; name = named called; bytes = bytes; before = before }) else letter_of p before) ≡ Some l → LetterSound M l
    by_number true e = subst (LetterSound M) (same_some _ l e) h.0
    by_number false e = next p e
by_packet M p before (packet_entry.Repeated q copy) l h is next = next (if copy == p then q else p) is
by_packet M p before (packet_entry.Delivered q a b) l h is next = next p is
by_packet M p before (packet_entry.Lost q) l h is next = next p is
by_packet M p before (packet_entry.Dropped q why) l h is next = next p is

pub letter_sound : (M : Memberships) (p : ℕ) (ms : List Moment) (l : Letter) → AllSound M ms → letter_of p ms ≡ Some l → LetterSound M l
letter_sound M p [] l h is = absurd (none_is l is)
letter_sound M p (Told (entry.Packet e) ∷ before) l h is = by_packet M p before e l h is (λ q at. letter_sound M q before l h.1 at)
letter_sound M p (Said line ∷ before) l h is = letter_sound M p before l h.1 is
letter_sound M p (Part event ∷ before) l h is = letter_sound M p before l h.1 is
letter_sound M p (Told (entry.Node n e) ∷ before) l h is = letter_sound M p before l h.1 is
letter_sound M p (Told (entry.Attempt e) ∷ before) l h is = letter_sound M p before l h.1 is
letter_sound M p (Told (entry.Start e) ∷ before) l h is = letter_sound M p before l h.1 is
letter_sound M p (Told (entry.Update e) ∷ before) l h is = letter_sound M p before l h.1 is
letter_sound M p (Told entry.Powered ∷ before) l h is = letter_sound M p before l h.1 is
letter_sound M p (Told (entry.Answered e) ∷ before) l h is = letter_sound M p before l h.1 is
letter_sound M p (Told (entry.Device e) ∷ before) l h is = letter_sound M p before l h.1 is
letter_sound M p (Told (entry.Call e) ∷ before) l h is = letter_sound M p before l h.1 is
letter_sound M p (Told (entry.Command e) ∷ before) l h is = letter_sound M p before l h.1 is
letter_sound M p (Told (entry.Status e) ∷ before) l h is = letter_sound M p before l h.1 is
letter_sound M p (Told (entry.Address e) ∷ before) l h is = letter_sound M p before l h.1 is
letter_sound M p (Told (entry.Schedule e) ∷ before) l h is = letter_sound M p before l h.1 is

arriving_packet : (M : Memberships) (before : List Moment) (e : PacketEntry) (l : Letter) → AllSound M before → arriving before (Told (entry.Packet e)) ≡ Some l → LetterSound M l
arriving_packet M before (packet_entry.Delivered q a b) l h is = letter_sound M q before l h is
arriving_packet M before (packet_entry.Sent q a b called bytes) l h is = absurd (none_is l is)
arriving_packet M before (packet_entry.Repeated q copy) l h is = absurd (none_is l is)
arriving_packet M before (packet_entry.Lost q) l h is = absurd (none_is l is)
arriving_packet M before (packet_entry.Dropped q why) l h is = absurd (none_is l is)

arriving_sound : (M : Memberships) (before : List Moment) (x : Moment) (l : Letter) → AllSound M before → arriving before x ≡ Some l → LetterSound M l
arriving_sound M before (Told (entry.Packet e)) l h is = arriving_packet M before e l h is
arriving_sound M before (Said line) l h is = absurd (none_is l is)
arriving_sound M before (Part event) l h is = absurd (none_is l is)
arriving_sound M before (Told (entry.Node n e)) l h is = absurd (none_is l is)
arriving_sound M before (Told (entry.Attempt e)) l h is = absurd (none_is l is)
arriving_sound M before (Told (entry.Start e)) l h is = absurd (none_is l is)
arriving_sound M before (Told (entry.Update e)) l h is = absurd (none_is l is)
arriving_sound M before (Told entry.Powered) l h is = absurd (none_is l is)
arriving_sound M before (Told (entry.Answered e)) l h is = absurd (none_is l is)
arriving_sound M before (Told (entry.Device e)) l h is = absurd (none_is l is)
arriving_sound M before (Told (entry.Call e)) l h is = absurd (none_is l is)
arriving_sound M before (Told (entry.Command e)) l h is = absurd (none_is l is)
arriving_sound M before (Told (entry.Status e)) l h is = absurd (none_is l is)
arriving_sound M before (Told (entry.Address e)) l h is = absurd (none_is l is)
arriving_sound M before (Told (entry.Schedule e)) l h is = absurd (none_is l is)

arrived_packet : (M : Memberships) (before : List Moment) (e : PacketEntry) (l : Letter) → AllSound M before → arrived (Told (entry.Packet e) ∷ before) ≡ Some l → (arrived before ≡ Some l → LetterSound M l) → LetterSound M l
arrived_packet M before (packet_entry.Delivered q a b) l h is next = letter_sound M q before l h is
arrived_packet M before (packet_entry.Sent q a b called bytes) l h is next = next is
arrived_packet M before (packet_entry.Repeated q copy) l h is next = next is
arrived_packet M before (packet_entry.Lost q) l h is next = next is
arrived_packet M before (packet_entry.Dropped q why) l h is next = next is

pub arrived_sound : (M : Memberships) (ms : List Moment) (l : Letter) → AllSound M ms → arrived ms ≡ Some l → LetterSound M l
arrived_sound M [] l h is = absurd (none_is l is)
arrived_sound M (Said line ∷ before) l h is = absurd (none_is l is)
arrived_sound M (Part event ∷ before) l h is = absurd (none_is l is)
arrived_sound M (Told (entry.Packet e) ∷ before) l h is = arrived_packet M before e l h.1 is (λ at. arrived_sound M before l h.1 at)
arrived_sound M (Told (entry.Node n e) ∷ before) l h is = arrived_sound M before l h.1 is
arrived_sound M (Told (entry.Attempt e) ∷ before) l h is = arrived_sound M before l h.1 is
arrived_sound M (Told (entry.Start e) ∷ before) l h is = arrived_sound M before l h.1 is
arrived_sound M (Told (entry.Update e) ∷ before) l h is = arrived_sound M before l h.1 is
arrived_sound M (Told entry.Powered ∷ before) l h is = arrived_sound M before l h.1 is
arrived_sound M (Told (entry.Answered e) ∷ before) l h is = arrived_sound M before l h.1 is
arrived_sound M (Told (entry.Device e) ∷ before) l h is = arrived_sound M before l h.1 is
arrived_sound M (Told (entry.Call e) ∷ before) l h is = arrived_sound M before l h.1 is
arrived_sound M (Told (entry.Command e) ∷ before) l h is = arrived_sound M before l h.1 is
arrived_sound M (Told (entry.Status e) ∷ before) l h is = arrived_sound M before l h.1 is
arrived_sound M (Told (entry.Address e) ∷ before) l h is = arrived_sound M before l h.1 is
arrived_sound M (Told (entry.Schedule e) ∷ before) l h is = arrived_sound M before l h.1 is

-- what a letter says can be read
pub read_letter : (M : Memberships) (l : Letter) (b : Body) → LetterSound M l → says l.bytes ≡ Some b → (l.name ≡ named (name_of b)) × BodySound M l.before l.from l.to b
read_letter M l b h is = by_whole (whole_of l.bytes) refl is
  where
    by_whole : (o : Option Message) → whole_of l.bytes ≡ o → option_map (λ (m : Message). m.body) o ≡ Some b → (l.name ≡ named (name_of b)) × BodySound M l.before l.from l.to b
    by_whole None at e = absurd (none_is b e)
    by_whole (Some m) at e = subst (λ z. (l.name ≡ named (name_of z)) × BodySound M l.before l.from l.to z) (same_some m.body b e) (h m at)

-- ---- Promises in hand

pub record Had (M : Memberships) (e : ℕ) (l : Letter) : Type 0 where
  pub sound : LetterSound M l
  pub promise : is_promise_of e l ≡ true

abbrev AllHad : Memberships → ℕ → List Letter → Type 0
AllHad M e ls = AllByRecursion (Had M e) ls

among_had : (M : Memberships) (e : ℕ) (o : Option Letter) → ((l : Letter) → o ≡ Some l → LetterSound M l) → AllHad M e (promise_among e o)
among_had M e None h = tt
among_had M e (Some l) h = by_test (is_promise_of e l) refl
  where
    by_test : (t : Bool) → is_promise_of e l ≡ t → AllHad M e (if t then l ∷ [] else [])
    by_test true is = (record { sound = h l refl; promise = is }, tt)
    by_test false is = tt

both_had : (M : Memberships) (e : ℕ) (ls more : List Letter) → AllHad M e ls → AllHad M e more → AllHad M e (ls ++ more)
both_had M e [] more h k = k
both_had M e (l ∷ ls) more h k = (h.0, both_had M e ls more h.1 k)

pub promises_had : (M : Memberships) (e : ℕ) (ms : List Moment) → AllSound M ms → AllHad M e (promises e ms)
promises_had M e [] h = tt
promises_had M e (x ∷ before) h = by_test (is_attempt e x) (promises_had M e before h.1)
  where
    by_test : (t : Bool) → AllHad M e (promises e before) → AllHad M e (if t then [] else promise_among e (arriving before x) ++ promises e before)
    by_test true k = tt
    by_test false k = both_had M e (promise_among e (arriving before x)) (promises e before) (among_had M e (arriving before x) (λ l is. arriving_sound M before x l h.1 is)) k

-- a member's Promise of e showed this
pub record Shows (M : Memberships) (e : ℕ) (r : Shown) : Type 0 where
  pub node : ℕ
  pub before : List Moment
  pub saved : Saved
  pub promise : PromiseSound M before node e saved
  pub is : IsOf r saved

no_more : (xs : List (List ℕ)) → length xs ≡ length xs + 0
no_more xs = grind arith

pending_count : (committed : List (List ℕ)) (pending : Option (List ℕ)) → length (committed ++ listed pending) ≡ length committed + flag (is_some pending)
pending_count committed None = ap length (append-nil committed) ∙ no_more committed
pending_count committed (Some text) = length-append committed (text ∷ [])

same_list : (pending : Option (List ℕ)) → option_to_list pending ≡ listed pending
same_list None = refl
same_list (Some text) = refl

pub shown_of : (newest : ℕ) (committed : List (List ℕ)) (pending : Option (List ℕ))
    → IsOf (record { installed = newest; texts = committed ++ option_to_list pending; pending = is_some pending }) (record { installed = newest; entries = committed ++ listed pending; committed = length committed })
shown_of newest committed pending = record { installed = refl; texts = ap (λ xs. committed ++ xs) (same_list pending); pending = pending_count committed pending }

number_so : (e : ℕ) (o : Option ℕ) (p : ℕ) → o ≡ Some p → is_number e o ≡ true → p ≡ e
number_so e o p at is = same_number p e (subst (λ z. is_number e z ≡ true) at is)

not_promise : (l : Letter) (e : ℕ) (called : Name) → l.name ≡ called → same_name called name.Promise ≡ false → is_promise_of e l ≡ true → ⊥
not_promise l e called at other is =
    no_truth (sym other ∙ subst (λ z. same_name z name.Promise ≡ true) at (and_cases _ _ (and_cases _ _ (and_cases _ _ is).0).0).0)

-- .. of node k
pub record ShowsFrom (M : Memberships) (e k : ℕ) (r : Shown) : Type 0 where
  pub shows : Shows M e r
  pub from : shows.node ≡ k

letter_record : (M : Memberships) (e : ℕ) (l : Letter) (r : Shown) → Had M e l → record_in (says l.bytes) ≡ Some r → ShowsFrom M e l.from r
letter_record M e l r h is = by_says (says l.bytes) refl is
  where
    by_body : (b : Body) → says l.bytes ≡ Some b → record_in (Some b) ≡ Some r → ShowsFrom M e l.from r
    by_body (body.Promise p newest members valid flagged committed pending) at e2 =
        let so : (l.name ≡ name.Promise) × PromiseSound M l.before l.from p (machine_record (body.Promise p newest members valid flagged committed pending)) =
        read_letter M l (body.Promise p newest members valid flagged committed pending) h.sound at in
        let same : p ≡ e = number_so e (promised_to l.before) p so.1.asked (and_cases _ _ h.promise).1 in
        subst (λ z. ShowsFrom M e l.from z) (same_some _ r e2) (record {
          shows = record {
            node = l.from;
            before = l.before;
            saved = machine_record (body.Promise p newest members valid flagged committed pending);
            promise = subst (λ z. PromiseSound M l.before l.from z (machine_record (body.Promise p newest members valid flagged committed pending))) same so.1;
            is = shown_of newest committed pending;
          };
          from = refl;
        })
    by_body (body.Install i) at e2 = absurd (not_promise l e name.Install (read_letter M l (body.Install i) h.sound at).0 refl h.promise)
    by_body (body.Heartbeat promised session is_one) at e2 = absurd (none_is r e2)
    by_body (body.Collect p members) at e2 = absurd (none_is r e2)
    by_body (body.Nack p promised) at e2 = absurd (none_is r e2)
    by_body (body.SeizeQuorum p members d) at e2 = absurd (none_is r e2)
    by_body (body.SeizeData p members d) at e2 = absurd (none_is r e2)
    by_body (body.Seized p d outcome) at e2 = absurd (none_is r e2)
    by_body (body.Ready p joined report) at e2 = absurd (none_is r e2)
    by_body (body.Start p) at e2 = absurd (none_is r e2)
    by_body (body.Prepare p place text) at e2 = absurd (none_is r e2)
    by_body (body.Prepared p place) at e2 = absurd (none_is r e2)
    by_body (body.Commit p place) at e2 = absurd (none_is r e2)
    by_body (body.Order o) at e2 = absurd (none_is r e2)
    by_body (body.Done p number outcome) at e2 = absurd (none_is r e2)
    by_body (body.Request p number text) at e2 = absurd (none_is r e2)
    by_body (body.Answer p number text) at e2 = absurd (none_is r e2)
    by_body (body.Excluded p newest) at e2 = absurd (none_is r e2)

    by_says : (o : Option Body) → says l.bytes ≡ o → record_in o ≡ Some r → ShowsFrom M e l.from r
    by_says None at e2 = absurd (none_is r e2)
    by_says (Some b) at e2 = by_body b at e2

-- each record in hand is a member's
pub told_records : (M : Memberships) (e : ℕ) (ls : List Letter) → AllHad M e ls → AllByRecursion (Shows M e) (records_told ls)
told_records M e [] h = tt
told_records M e (l ∷ ls) h = by_record (record_in (says l.bytes)) (λ r is. (letter_record M e l r h.0 is).shows) (told_records M e ls h.1)
  where
    by_record : (o : Option Shown) → ((r : Shown) → o ≡ Some r → Shows M e r) → AllByRecursion (Shows M e) (records_told ls) → AllByRecursion (Shows M e) (option_to_list o ++ records_told ls)
    by_record None f k = k
    by_record (Some r) f k = (f r refl, k)

-- one of node k is among them
pub record HasShown (M : Memberships) (e k : ℕ) (records : List Shown) : Type 0 where
  pub shown : Shown
  pub shows : ShowsFrom M e k shown
  pub among : (test : Shown → Bool) → list_any test records ≡ false → test shown ≡ false

or_parts : (a b : Bool) → (a || b) ≡ false → (a ≡ false) × (b ≡ false)
or_parts true b h = absurd (no_truth (sym h))
or_parts false b h = (refl, h)

has_later : (M : Memberships) (e k : ℕ) (o : Option Shown) (rs : List Shown) → HasShown M e k rs → HasShown M e k (option_to_list o ++ rs)
has_later M e k None rs h = h
has_later M e k (Some r) rs h = record { shown = h.shown; shows = h.shows; among = λ test none. h.among test (or_parts (test r) _ none).1 }

pub has_from : (M : Memberships) (e k : ℕ) (ls : List Letter) → AllHad M e ls → list_any (shows_from k) ls ≡ true → HasShown M e k (records_told ls)
has_from M e k [] h is = absurd (no_truth is)
has_from M e k (l ∷ ls) h is = by_test (shows_from k l) refl is (has_from M e k ls h.1)
  where
    here : (o : Option Shown) → record_in (says l.bytes) ≡ o → is_some o ≡ true → l.from ≡ k → HasShown M e k (option_to_list o ++ records_told ls)
    here None at some from = absurd (no_truth some)
    here (Some r) at some from =
        let so : ShowsFrom M e l.from r = letter_record M e l r h.0 at in
        record { shown = r; shows = record { shows = so.shows; from = so.from ∙ from }; among = λ test none. (or_parts (test r) _ none).0 }

    by_test : (t : Bool) → shows_from k l ≡ t → (t || list_any (shows_from k) ls) ≡ true → (list_any (shows_from k) ls ≡ true → HasShown M e k (records_told ls)) → HasShown M e k (records_told (l ∷ ls))
    by_test true at e2 next =
        let parts : ((l.from == k) ≡ true) × (is_some (record_in (says l.bytes)) ≡ true) = and_cases (l.from == k) _ at in
        here (record_in (says l.bytes)) refl parts.1 (same_number l.from k parts.0)
    by_test false at e2 next = has_later M e k (record_in (says l.bytes)) (records_told ls) (next e2)
