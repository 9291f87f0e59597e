-- The lines of a start: each completes it, or leaves the next one due; and of what has not started nothing is proposed or acknowledged.
use Rattle.std.specs.Prelude.{ℕ, ◌+◌, ◌≡◌, ◌⊎◌, ◌==◌, ◌&&◌, ◌||◌, ◌++◌, nat_lt, Bool, true, false, List, [], ◌∷◌, Option, None, Some, if◌then◌else◌}
use Rattle.std.specs.List.{list_any}
use Rattle.std.specs.Option.{option_and_then}
use Rattle.std.proofs.Common.{refl, sym, ap, ◌∙◌, inl, inr, arith}
use Rattle.std.proofs.lemmas.List.{append-nil}
use Rattle.cmm_attempt.proofs.Basics.{none_some, same_some}
use Rattle.machine_base.proofs.Puts.{true_or_false}
use Rattle.history.specs.Deeds.{Acked, Deed, OfEach, Proposed, Started, acked_in, deeds, has_started, once_complete, proposed_in}
use Rattle.history.specs.Lineage.{Lineage}
use Rattle.history.specs.Moment.{Moment}
use Rattle.history.specs.Placed.{Placed}
use Rattle.history.specs.Requests.{is_ack}
use Rattle.history.specs.Starts.{Start, base_so_far, completed}
use Rattle.history.specs.Trace.{ack, base, propose, start}
use Rattle.run_commands.proofs.acknowledged.Askings.{is_equal, two_true}

-- ---- the lines of a start

-- the start that is complete with so many `base` lines, and the line that is due behind them
abbrev pub complete_at : Option Start → ℕ → Option Start
complete_at o k = option_and_then (λ (s : Start). if k == s.count then Some s else None) o

abbrev pub due_at : Option Start → ℕ → Option (ℕ × ℕ)
due_at o k = option_and_then (λ (s : Start). if nat_lt k s.count then Some (s.epoch, k + 1) else None) o

-- e is complete
pub record IsLast (e : ℕ) (o : Option Start) (k : ℕ) : Type 0 where
  pub whole : Start
  pub epoch : whole.epoch ≡ e
  pub complete : complete_at o k ≡ Some whole

-- a line of e is due
pub record IsDue (e : ℕ) (o : Option Start) (k : ℕ) : Type 0 where
  pub place : ℕ
  pub due : due_at o k ≡ Some (e, place)
  pub none : complete_at o k ≡ None

if_yes : {X : Type 0} (b : Bool) (x y : X) → b ≡ true → (if b then x else y) ≡ x
if_yes true x y h = refl
if_yes false x y h = cc

if_no : {X : Type 0} (b : Bool) (x y : X) → b ≡ false → (if b then x else y) ≡ y
if_no true x y h = cc
if_no false x y h = refl

is_whole : (count : ℕ) → nat_lt 0 count ≡ false → (0 == count) ≡ true
is_whole count h = grind arith

is_open : (k count : ℕ) → nat_lt k count ≡ true → (k == count) ≡ false
is_open k count h = grind arith

is_more : (k count : ℕ) → nat_lt k count ≡ true → (k + 1 == count) ≡ false → nat_lt (k + 1) count ≡ true
is_more k count h i = grind arith

pub start_goes : (s : Start) → IsLast s.epoch (Some s) 0 ⊎ IsDue s.epoch (Some s) 0
start_goes s = by (true_or_false (nat_lt 0 s.count))
  where
    by : (nat_lt 0 s.count ≡ true) ⊎ (nat_lt 0 s.count ≡ false) → IsLast s.epoch (Some s) 0 ⊎ IsDue s.epoch (Some s) 0
    by (inl y) = inr (record { place = 1; due = if_yes (nat_lt 0 s.count) (Some (s.epoch, 0 + 1)) None y; none = if_no (0 == s.count) (Some s) None (is_open 0 s.count y) })
    by (inr n) = inl (record { whole = s; epoch = refl; complete = if_yes (0 == s.count) (Some s) None (is_whole s.count n) })

pub base_goes : (e v : ℕ) (o : Option Start) (k : ℕ) → due_at o k ≡ Some (e, v) → IsLast e o (k + 1) ⊎ IsDue e o (k + 1)
base_goes e v None k due = absurd (none_some (e, v) due)
base_goes e v (Some s) k due = by (true_or_false (nat_lt k s.count)) (true_or_false (k + 1 == s.count))
  where
    by : (nat_lt k s.count ≡ true) ⊎ (nat_lt k s.count ≡ false) → (k + 1 == s.count ≡ true) ⊎ (k + 1 == s.count ≡ false) → IsLast e (Some s) (k + 1) ⊎ IsDue e (Some s) (k + 1)
    by (inr n) which = absurd (none_some (e, v) (sym (if_no (nat_lt k s.count) (Some (s.epoch, k + 1)) None n) ∙ due))
    by (inl y) which = go which
      where
        epoch : s.epoch ≡ e
        epoch = ap (λ (p : ℕ × ℕ). p.0) (same_some (s.epoch, k + 1) (e, v) (sym (if_yes (nat_lt k s.count) (Some (s.epoch, k + 1)) None y) ∙ due))

        go : (k + 1 == s.count ≡ true) ⊎ (k + 1 == s.count ≡ false) → IsLast e (Some s) (k + 1) ⊎ IsDue e (Some s) (k + 1)
        go (inl last) = inl (record { whole = s; epoch = epoch; complete = if_yes (k + 1 == s.count) (Some s) None last })
        go (inr more) = inr (record {
          place = (k + 1) + 1;
          due = if_yes (nat_lt (k + 1) s.count) (Some (s.epoch, (k + 1) + 1)) None (is_more k s.count y more) ∙ ap (λ f. Some (f, (k + 1) + 1)) epoch;
          none = if_no (k + 1 == s.count) (Some s) None more;
        })

-- ---- deeds, with a start or without

pub placed_below : (o : Option Start) (updates : List (List ℕ)) (ds : List Deed) → Placed (once_complete o updates ds) → Placed ds
placed_below None updates ds h = h
placed_below (Some s) updates ds h = h.1

pub lineage_below : (o : Option Start) (updates : List (List ℕ)) (ds : List Deed) → OfEach Lineage (once_complete o updates ds) → OfEach Lineage ds
lineage_below None updates ds h = h
lineage_below (Some s) updates ds h = h.1

or_right : (a b : Bool) → b ≡ true → (a || b) ≡ true
or_right true b h = refl
or_right false b h = h

started_above : (e : ℕ) (o : Option Start) (updates : List (List ℕ)) (ds : List Deed) → has_started e ds ≡ true → has_started e (once_complete o updates ds) ≡ true
started_above e None updates ds h = h
started_above e (Some s) updates ds h = or_right (s.epoch == e) (has_started e ds) h

-- ---- what has not started

-- nothing is done in it
pub record IsFresh (e : ℕ) (ds : List Deed) : Type 0 where
  pub proposed : proposed_in e ds ≡ []
  pub acked : acked_in e ds ≡ []

neither : (a b : Bool) → (a || b) ≡ false → b ≡ false
neither true b h = cc
neither false b h = h

true_false : true ≡ false → ⊥
true_false h = cc

-- an update of another membership adds nothing
pub none_more : (e f : ℕ) (all : List (List ℕ)) (words : List ℕ) → (f == e) ≡ false → all ++ (if f == e then words ∷ [] else []) ≡ all
none_more e f all words h = ap (λ (b : Bool). all ++ (if b then words ∷ [] else [])) h ∙ append-nil all

unstarted : (e f : ℕ) (ds : List Deed) → has_started e ds ≡ false → has_started f ds ≡ true → (f == e) ≡ false
unstarted e f ds none some = by (true_or_false (f == e))
  where
    by : (f == e ≡ true) ⊎ (f == e ≡ false) → (f == e) ≡ false
    by (inl same) = absurd (true_false (sym some ∙ (ap (λ k. has_started k ds) (is_equal f e same) ∙ none)))
    by (inr other) = other

pub is_fresh : (e : ℕ) (ds : List Deed) → Placed ds → has_started e ds ≡ false → IsFresh e ds
is_fresh e [] placed none = record { proposed = refl; acked = refl }
is_fresh e (Started s updates ∷ ds) placed none =
    let h : IsFresh e ds = is_fresh e ds placed.1 (neither (s.epoch == e) (has_started e ds) none) in
    record { proposed = h.proposed; acked = h.acked }
is_fresh e (Proposed u ∷ ds) placed none =
    let h : IsFresh e ds = is_fresh e ds placed.1 none in
    record { proposed = none_more e u.epoch (proposed_in e ds) u.words (unstarted e u.epoch ds none placed.0.started) ∙ h.proposed; acked = h.acked }
is_fresh e (Acked u ∷ ds) placed none =
    let h : IsFresh e ds = is_fresh e ds placed.1 none in
    record { proposed = h.proposed; acked = none_more e u.epoch (acked_in e ds) u.words (unstarted e u.epoch ds none placed.0.started) ∙ h.acked }

-- what is acknowledged is of a membership that started
pub acked_started : (e w : ℕ) (ms : List Moment) → Placed (deeds ms) → list_any (is_ack e w) ms ≡ true → has_started e (deeds ms) ≡ true
acked_started e w [] placed h = cc
acked_started e w (start f members held count ∷ ms) placed h =
    let o : Option Start = completed (start f members held count ∷ ms) in
    started_above e o [] (deeds ms) (acked_started e w ms (placed_below o [] (deeds ms) placed) h)
acked_started e w (base f v words ∷ ms) placed h =
    let x : Moment = base f v words in
    started_above e (completed (x ∷ ms)) (base_so_far (x ∷ ms)) (deeds ms) (acked_started e w ms (placed_below (completed (x ∷ ms)) (base_so_far (x ∷ ms)) (deeds ms) placed) h)
acked_started e w (propose f v words ∷ ms) placed h = acked_started e w ms placed.1 h
acked_started e w (ack f v words ∷ ms) placed h = by (true_or_false ((f == e) && (v == w))) (acked_started e w ms placed.1)
  where
    by : (((f == e) && (v == w)) ≡ true) ⊎ (((f == e) && (v == w)) ≡ false) → (list_any (is_ack e w) ms ≡ true → has_started e (deeds ms) ≡ true) → has_started e (deeds ms) ≡ true
    by (inl is) before = ap (λ k. has_started k (deeds ms)) (sym (is_equal f e (two_true (f == e) (v == w) is).0)) ∙ placed.0.started
    by (inr other) before = before (ap (λ z. z || list_any (is_ack e w) ms) (sym other) ∙ h)
acked_started e w (_ ∷ ms) placed h = acked_started e w ms placed h
