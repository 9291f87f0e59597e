-- From the deeds of a trace to its starts, each where it is complete.
use Rattle.std.specs.Prelude.{ℕ, ◌≡◌, ◌==◌, ◌||◌, Bool, true, false, List, [], ◌∷◌, length, Option, None, Some, IfSome, if◌then◌else◌}
use Rattle.std.specs.List.{AllByRecursion, list_any}
use Rattle.std.specs.Option.{option_and_then}
use Rattle.std.proofs.Common.{refl, sym, ap, subst, ◌∙◌, arith}
use Rattle.cmm_attempt.proofs.Basics.{none_some, same_some}
use Rattle.history.specs.Deeds.{Acked, Deed, Proposed, Started, base_in, deeds, has_started, once_complete, start_numbers}
use Rattle.history.specs.Lineage.{AllDiffer}
use Rattle.history.specs.Moment.{Moment, Part, Said, Told}
use Rattle.history.specs.Starts.{EachStart, Start, base_so_far, completed, start_so_far, starts}
use Rattle.status_report.specs.declared.entry.Entry.TheVariants as entry
use Rattle.status_report.specs.declared.start_entry.StartEntry.TheVariants as start_entry
use Rattle.status_report.specs.declared.update_entry.UpdateEntry.TheVariants as update

-- P of each start of a deed, with its base
abbrev pub OfDeed : (Start → List (List ℕ) → Type 0) → Deed → Type 0
OfDeed P (Started s updates) = P s updates
OfDeed P (Proposed u) = Unit {0}
OfDeed P (Acked u) = Unit {0}

abbrev pub OfDeeds : (Start → List (List ℕ) → Type 0) → List Deed → Type 0
OfDeeds P ds = AllByRecursion (OfDeed P) ds

-- ---- the start whose lines stand last is a start

pub last_start : (Q : Start → Type 0) (ms : List Moment) (s : Start) → start_so_far ms ≡ Some s → AllByRecursion Q (starts ms) → Q s
last_start Q [] s is h = absurd (none_some s is)
last_start Q (Told (entry.Start (start_entry.Started q members held count)) ∷ before) s is h = subst Q (same_some _ s is) h.0
last_start Q (Told (entry.Start (start_entry.Base q v words)) ∷ before) s is h = last_start Q before s is h
last_start Q (Told entry.Powered ∷ before) s is h = absurd (none_some s is)
last_start Q (Told (entry.Answered e) ∷ before) s is h = absurd (none_some s is)
last_start Q (Told (entry.Node n e) ∷ before) s is h = absurd (none_some s is)
last_start Q (Told (entry.Packet e) ∷ before) s is h = absurd (none_some s is)
last_start Q (Told (entry.Device e) ∷ before) s is h = absurd (none_some s is)
last_start Q (Told (entry.Attempt e) ∷ before) s is h = absurd (none_some s is)
last_start Q (Told (entry.Call e) ∷ before) s is h = absurd (none_some s is)
last_start Q (Told (entry.Command e) ∷ before) s is h = absurd (none_some s is)
last_start Q (Told (entry.Status e) ∷ before) s is h = absurd (none_some s is)
last_start Q (Told (entry.Address e) ∷ before) s is h = absurd (none_some s is)
last_start Q (Told (entry.Schedule e) ∷ before) s is h = absurd (none_some s is)
last_start Q (Told (entry.Start (start_entry.Adopted q n resource flags)) ∷ before) s is h = absurd (none_some s is)
last_start Q (Said l ∷ before) s is h = absurd (none_some s is)
last_start Q (Part e ∷ before) s is h = absurd (none_some s is)
last_start Q (Told (entry.Update (update.Proposed q v words)) ∷ before) s is h = absurd (none_some s is)
last_start Q (Told (entry.Update (update.Acknowledged q v words)) ∷ before) s is h = absurd (none_some s is)

-- ---- each start, where it is complete

-- once complete it is a deed
one_complete : (P : Start → List (List ℕ) → Type 0) (o : Option Start) (updates : List (List ℕ)) (before : List Deed) → OfDeeds P (once_complete o updates before) → IfSome o (λ s. P s updates)
one_complete P None updates before h = tt
one_complete P (Some s) updates before h = h.0

earlier : (P : Start → List (List ℕ) → Type 0) (o : Option Start) (updates : List (List ℕ)) (before : List Deed) → OfDeeds P (once_complete o updates before) → OfDeeds P before
earlier P None updates before h = h
earlier P (Some s) updates before h = h.1

pub each_start : (P : Start → List (List ℕ) → Type 0) (ms : List Moment) → OfDeeds P (deeds ms) → EachStart (λ moments s updates. P s updates) ms
each_start P [] h = tt
each_start P (Told (entry.Start (start_entry.Started q members held count)) ∷ before) h =
    let x : Moment = Told (entry.Start (start_entry.Started q members held count)) in
    (one_complete P (completed (x ∷ before)) [] (deeds before) h, each_start P before (earlier P (completed (x ∷ before)) [] (deeds before) h))
each_start P (Told (entry.Start (start_entry.Base q v words)) ∷ before) h =
    let x : Moment = Told (entry.Start (start_entry.Base q v words)) in
    (one_complete P (completed (x ∷ before)) (base_so_far (x ∷ before)) (deeds before) h, each_start P before (earlier P (completed (x ∷ before)) (base_so_far (x ∷ before)) (deeds before) h))
each_start P (Told entry.Powered ∷ before) h = (tt, each_start P before h)
each_start P (Told (entry.Answered e) ∷ before) h = (tt, each_start P before h)
each_start P (Told (entry.Node n e) ∷ before) h = (tt, each_start P before h)
each_start P (Told (entry.Packet e) ∷ before) h = (tt, each_start P before h)
each_start P (Told (entry.Device e) ∷ before) h = (tt, each_start P before h)
each_start P (Told (entry.Attempt e) ∷ before) h = (tt, each_start P before h)
each_start P (Told (entry.Call e) ∷ before) h = (tt, each_start P before h)
each_start P (Told (entry.Command e) ∷ before) h = (tt, each_start P before h)
each_start P (Told (entry.Status e) ∷ before) h = (tt, each_start P before h)
each_start P (Told (entry.Address e) ∷ before) h = (tt, each_start P before h)
each_start P (Told (entry.Schedule e) ∷ before) h = (tt, each_start P before h)
each_start P (Told (entry.Start (start_entry.Adopted q n resource flags)) ∷ before) h = (tt, each_start P before h)
each_start P (Said l ∷ before) h = (tt, each_start P before h)
each_start P (Part e ∷ before) h = (tt, each_start P before h)
each_start P (Told (entry.Update (update.Proposed q v words)) ∷ before) h = (tt, each_start P before h.1)
each_start P (Told (entry.Update (update.Acknowledged q v words)) ∷ before) h = (tt, each_start P before h.1)

-- ---- what holds of the starts holds of the deeds

once_of : (Q : Start → Type 0) (o : Option Start) (updates : List (List ℕ)) (before : List Deed) → ((s : Start) → o ≡ Some s → Q s) → OfDeeds (λ s us. Q s) before → OfDeeds (λ s us. Q s) (once_complete o updates before)
once_of Q None updates before f h = h
once_of Q (Some s) updates before f h = (f s refl, h)

-- a complete start is the one whose lines stand last
complete_is : (o : Option Start) (k : ℕ) (s : Start) → option_and_then (λ (r : Start). if k == r.count then Some r else None) o ≡ Some s → o ≡ Some s
complete_is None k s is = absurd (none_some s is)
complete_is (Some r) k s is = by_count (k == r.count) is
  where
    by_count : (b : Bool) → (if b then Some r else None) ≡ Some s → Some r ≡ Some s
    by_count true e = e
    by_count false e = absurd (none_some s e)

pub starts_of : (Q : Start → Type 0) (ms : List Moment) → AllByRecursion Q (starts ms) → OfDeeds (λ s us. Q s) (deeds ms)
starts_of Q [] h = tt
starts_of Q (Told (entry.Start (start_entry.Started q members held count)) ∷ before) h =
    let x : Moment = Told (entry.Start (start_entry.Started q members held count)) in
    once_of Q (completed (x ∷ before)) [] (deeds before) (λ s is. last_start Q (x ∷ before) s (complete_is (start_so_far (x ∷ before)) (length (base_so_far (x ∷ before))) s is) h) (starts_of Q before h.1)
starts_of Q (Told (entry.Start (start_entry.Base q v words)) ∷ before) h =
    let x : Moment = Told (entry.Start (start_entry.Base q v words)) in
    once_of Q (completed (x ∷ before)) (base_so_far (x ∷ before)) (deeds before) (λ s is. last_start Q (x ∷ before) s (complete_is (start_so_far (x ∷ before)) (length (base_so_far (x ∷ before))) s is) h)
    (starts_of Q before h)
starts_of Q (Told entry.Powered ∷ before) h = starts_of Q before h
starts_of Q (Told (entry.Answered e) ∷ before) h = starts_of Q before h
starts_of Q (Told (entry.Node n e) ∷ before) h = starts_of Q before h
starts_of Q (Told (entry.Packet e) ∷ before) h = starts_of Q before h
starts_of Q (Told (entry.Device e) ∷ before) h = starts_of Q before h
starts_of Q (Told (entry.Attempt e) ∷ before) h = starts_of Q before h
starts_of Q (Told (entry.Call e) ∷ before) h = starts_of Q before h
starts_of Q (Told (entry.Command e) ∷ before) h = starts_of Q before h
starts_of Q (Told (entry.Status e) ∷ before) h = starts_of Q before h
starts_of Q (Told (entry.Address e) ∷ before) h = starts_of Q before h
starts_of Q (Told (entry.Schedule e) ∷ before) h = starts_of Q before h
starts_of Q (Told (entry.Start (start_entry.Adopted q n resource flags)) ∷ before) h = starts_of Q before h
starts_of Q (Said l ∷ before) h = starts_of Q before h
starts_of Q (Part e ∷ before) h = starts_of Q before h
starts_of Q (Told (entry.Update (update.Proposed q v words)) ∷ before) h = (tt, starts_of Q before h)
starts_of Q (Told (entry.Update (update.Acknowledged q v words)) ∷ before) h = (tt, starts_of Q before h)

-- ---- the base of each deed is that of its number

no_truth : true ≡ false → ⊥
no_truth e = cc

or_second : (a b : Bool) → b ≡ true → (a || b) ≡ true
or_second true b h = refl
or_second false b h = h

same_number : (k : ℕ) → (k == k) ≡ true
same_number k = grind arith

first_of : (a b : Bool) → a ≡ true → (a || b) ≡ true
first_of true b h = refl
first_of false b h = absurd (no_truth (sym h))

if_so : {X : Type 0} (b : Bool) (x y : X) → b ≡ true → (if b then x else y) ≡ x
if_so true x y h = refl
if_so false x y h = absurd (no_truth (sym h))

if_not : {X : Type 0} (b : Bool) (x y : X) → b ≡ false → (if b then x else y) ≡ y
if_not true x y h = absurd (no_truth h)
if_not false x y h = refl

-- a number that started before is another
other_number : (e q : ℕ) (numbers : List ℕ) → list_any (λ f. f == e) numbers ≡ false → list_any (λ f. f == q) numbers ≡ true → (e == q) ≡ false
other_number e q numbers new old = by_test (e == q) refl
  where
    same : (e == q) ≡ true → e ≡ q
    same h = grind arith

    by_test : (b : Bool) → (e == q) ≡ b → b ≡ false
    by_test false is = refl
    by_test true is = absurd (no_truth (sym old ∙ (ap (λ k. list_any (λ f. f == k) numbers) (sym (same is)) ∙ new)))

pub bases_of : (P : ℕ → List (List ℕ) → Type 0) (ds : List Deed) → AllDiffer (start_numbers ds) → ((q : ℕ) → has_started q ds ≡ true → P q (base_in q ds)) → OfDeeds (λ s updates. P s.epoch updates) ds
bases_of P [] differ f = tt
bases_of P (Proposed u ∷ before) differ f = (tt, bases_of P before differ f)
bases_of P (Acked u ∷ before) differ f = (tt, bases_of P before differ f)
bases_of P (Started s updates ∷ before) differ f = (
  subst (P s.epoch) (if_so (s.epoch == s.epoch) updates (base_in s.epoch before) (same_number s.epoch)) (f s.epoch (first_of (s.epoch == s.epoch) (has_started s.epoch before) (same_number s.epoch))),
  bases_of P before differ.1
      (λ q is. subst (P q) (if_not (s.epoch == q) updates (base_in q before) (other_number s.epoch q (start_numbers before) differ.0 is)) (f q (or_second (s.epoch == q) (has_started q before) is))),
)

-- two facts of each
pub both_of : (P Q R : Start → List (List ℕ) → Type 0) (ds : List Deed) → ((s : Start) (us : List (List ℕ)) → P s us → Q s us → R s us) → OfDeeds P ds → OfDeeds Q ds → OfDeeds R ds
both_of P Q R [] f h k = tt
both_of P Q R (Started s updates ∷ before) f h k = (f s updates h.0 k.0, both_of P Q R before f h.1 k.1)
both_of P Q R (Proposed u ∷ before) f h k = (tt, both_of P Q R before f h.1 k.1)
both_of P Q R (Acked u ∷ before) f h k = (tt, both_of P Q R before f h.1 k.1)
