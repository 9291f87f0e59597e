-- What a membership has in hand, by the places of its updates: what is proposed and not acknowledged is the last that was proposed.
use Rattle.std.specs.Prelude.{ℕ, ◌+◌, ◌≡◌, ◌≢◌, ◌≤◌, ◌<◌, ◌⊎◌, ◌==◌, ◌&&◌, ◌||◌, ◌++◌, Bool, true, false, List, [], ◌∷◌, Option, None, Some, length, slice_get, if◌then◌else◌}
use Rattle.std.specs.List.{list_any}
use Rattle.std.proofs.Common.{refl, sym, ap, subst, ◌∙◌, inl, inr, arith}
use Rattle.std.proofs.lemmas.List.{append-nil, length-append}
use Rattle.std.proofs.lemmas.Option.{slice_get_within}
use Rattle.cmm_attempt.proofs.Basics.{none_some, same_some}
use Rattle.machine_base.proofs.Puts.{same_or_not, true_or_false}
use Rattle.status_report.specs.declared.entry.Entry.TheVariants as entry
use Rattle.status_report.specs.declared.start_entry.StartEntry.TheVariants as start_entry
use Rattle.status_report.specs.declared.update_entry.UpdateEntry.TheVariants as update
use Rattle.history.proofs.Ordered.{get_seam}
use Rattle.history.specs.Deeds.{Acked, Deed, Proposed, Started, Update, acked_in, base_in, deeds, has_started, once_complete, proposed_in}
use Rattle.history.specs.Moment.{Moment, Told}
use Rattle.history.specs.Placed.{IsAcked, IsProposed, Placed}
use Rattle.history.specs.Requests.{is_ack}
use Rattle.history.specs.Starts.{Start}
use Rattle.history.specs.Trace.{ack, propose}
use Rattle.run_commands.proofs.acknowledged.Askings.{is_equal, is_same, two_true}
use Rattle.run_commands.proofs.acknowledged.Pending.{IsPending, KeepsHand, NoAck, pending_stays, proposed_pending}
use Rattle.run_commands.proofs.acknowledged.Begun.{IsFresh, acked_started, is_fresh}

-- so many updates are acknowledged, one more at most is proposed, and that one is in hand
pub record Stands (e : ℕ) (proposed : List (List ℕ)) (acked start : ℕ) (ms : List Moment) : Type 0 where
  pub pending : (words : List ℕ) → slice_get proposed acked ≡ Some words → IsPending e (record { place = start + acked + 1; words = words }) ms
  pub few : length proposed ≤ acked + 1
  pub low : (w : ℕ) → list_any (is_ack e w) ms ≡ true → w ≤ start + acked

abbrev pub StandsSo : ℕ → List Deed → List Moment → Type 0
StandsSo e ds ms = Stands e (proposed_in e ds) (length (acked_in e ds)) (length (base_in e ds)) ms

same_stands : (e : ℕ) (ps qs : List (List ℕ)) (a b s t : ℕ) (ms : List Moment) → qs ≡ ps → b ≡ a → t ≡ s → Stands e ps a s ms → Stands e qs b t ms
same_stands e ps qs a b s t ms p k l h =
    subst (λ xs. Stands e xs b t ms) (sym p) (subst (λ j. Stands e ps j t ms) (sym k) (subst (λ j. Stands e ps a j ms) (sym l) h))

-- ---- a line of no update of e, and of no start of it

abbrev pub IsOther : ℕ → Moment → Type 0
IsOther e (Told (entry.Start (start_entry.Started f members held count))) = f ≢ e
IsOther e (Told (entry.Update (update.Proposed f v words))) = f ≢ e
IsOther e (Told (entry.Update (update.Acknowledged f v words))) = f ≢ e
IsOther e _ = Unit {0}

keeps_hand : (e : ℕ) (x : Moment) → IsOther e x → KeepsHand e x
keeps_hand e (Told (entry.Start (start_entry.Started f members held count))) h = h
keeps_hand e (Told (entry.Update (update.Proposed f v words))) h = h
keeps_hand e (Told (entry.Update (update.Acknowledged f v words))) h = tt
keeps_hand e _ h = tt

ack_of_other : (e f v w : ℕ) → f ≢ e → ((f == e) && (v == w)) ≡ false
ack_of_other e f v w h = by (true_or_false ((f == e) && (v == w)))
  where
    by : (((f == e) && (v == w)) ≡ true) ⊎ (((f == e) && (v == w)) ≡ false) → ((f == e) && (v == w)) ≡ false
    by (inl is) = absurd (h (is_equal f e (two_true (f == e) (v == w) is).0))
    by (inr other) = other

no_ack : (e w : ℕ) (x : Moment) → IsOther e x → NoAck e w x
no_ack e w (Told (entry.Update (update.Acknowledged f v words))) h = ack_of_other e f v w h
no_ack e w _ h = tt

none_acked : (e w : ℕ) (x : Moment) → IsOther e x → is_ack e w x ≡ false
none_acked e w (Told (entry.Update (update.Acknowledged f v words))) h = ack_of_other e f v w h
none_acked e w _ h = refl

pub other_stands : (e : ℕ) (ps : List (List ℕ)) (a s : ℕ) (x : Moment) (ms : List Moment) → IsOther e x → Stands e ps a s ms → Stands e ps a s (x ∷ ms)
other_stands e ps a s x ms other h = record {
  pending = λ words is. pending_stays e (record { place = s + a + 1; words = words }) x ms (keeps_hand e x other) (no_ack e (s + a + 1) x other) (h.pending words is);
  few = h.few;
  low = λ w is. h.low w (ap (λ z. z || list_any (is_ack e w) ms) (sym (none_acked e w x other)) ∙ is);
}

-- ---- where nothing is done in e

pub nothing_stands : (e : ℕ) (ps : List (List ℕ)) (a s : ℕ) (ms : List Moment) → ps ≡ [] → ((w : ℕ) → list_any (is_ack e w) ms ≡ true → ⊥) → Stands e ps a s ms
nothing_stands e ps a s ms none unacked = record {
  pending = λ words is. absurd (none_some words (ap (λ (xs : List (List ℕ)). slice_get xs a) (sym none) ∙ is));
  few = subst (λ (xs : List (List ℕ)). length xs ≤ a + 1) (sym none) (is_low a);
  low = λ w is. absurd (unacked w is);
}
  where
    is_low : (k : ℕ) → 0 ≤ k + 1
    is_low k = omega arith

true_false : true ≡ false → ⊥
true_false h = cc

-- it starts
pub fresh_stands : (e : ℕ) (s : Start) (updates : List (List ℕ)) (x : Moment) (ms : List Moment) → s.epoch ≡ e → Placed (deeds ms) → has_started s.epoch (deeds ms) ≡ false → ((w : ℕ) → is_ack e w x ≡ false)
    → StandsSo e (Started s updates ∷ deeds ms) (x ∷ ms)
fresh_stands e s updates x ms same placed none unacked =
    let fresh : has_started e (deeds ms) ≡ false = ap (λ k. has_started k (deeds ms)) (sym same) ∙ none in
    let h : IsFresh e (deeds ms) = is_fresh e (deeds ms) placed fresh in
    nothing_stands e (proposed_in e (deeds ms)) (length (acked_in e (deeds ms))) (length (base_in e (Started s updates ∷ deeds ms))) (x ∷ ms) h.proposed
    (λ w is. true_false (sym (acked_started e w ms placed (ap (λ z. z || list_any (is_ack e w) ms) (sym (unacked w)) ∙ is)) ∙ fresh))

if_other : {X : Type 0} (a b : ℕ) (x y : X) → a ≢ b → (if a == b then x else y) ≡ y
if_other a b x y h = by (true_or_false (a == b))
  where
    by : ((a == b) ≡ true) ⊎ ((a == b) ≡ false) → (if a == b then x else y) ≡ y
    by (inl is) = absurd (h (is_equal a b is))
    by (inr not) = ap (λ (c : Bool). if c then x else y) not

-- another one starts
pub beside_stands : (e : ℕ) (o : Option Start) (updates : List (List ℕ)) (ds : List Deed) (ms : List Moment) → ((s : Start) → o ≡ Some s → s.epoch ≢ e) → StandsSo e ds ms → StandsSo e (once_complete o updates ds) ms
beside_stands e None updates ds ms other h = h
beside_stands e (Some s) updates ds ms other h =
    same_stands e (proposed_in e ds) (proposed_in e ds) (length (acked_in e ds)) (length (acked_in e ds)) (length (base_in e ds)) (length (base_in e (Started s updates ∷ ds))) ms refl refl
    (ap (λ (xs : List (List ℕ)). length xs) (if_other s.epoch e updates (base_in e ds) (other s refl))) h

-- ---- updates

pub one_longer : (xs : List (List ℕ)) (x : List ℕ) → length (xs ++ x ∷ []) ≡ length xs + 1
one_longer xs x = length-append xs (x ∷ [])

if_here : (e : ℕ) (words : List ℕ) → (if e == e then words ∷ [] else []) ≡ words ∷ []
if_here e words = ap (λ (b : Bool). if b then words ∷ [] else []) (is_same e)

proposed_here : (e v : ℕ) (words : List ℕ) (ps : List (List ℕ)) (a s : ℕ) (ms : List Moment) → v ≡ s + length ps + 1 → length ps ≡ a → Stands e ps a s ms → Stands e (ps ++ words ∷ []) a s (propose e v words ∷ ms)
proposed_here e v words ps a s ms place none h = record {
  pending = λ found is. pends found (same_some words found (sym (get_seam ps words []) ∙ (ap (λ k. slice_get (ps ++ words ∷ []) k) none ∙ is)));
  few = few_so (length ps) (length (ps ++ words ∷ [])) a (one_longer ps words) none;
  low = h.low;
}
  where
    at : v ≡ s + a + 1
    at = place ∙ ap (λ k. s + k + 1) none

    above : (k : ℕ) → k ≤ s + a → k ≢ s + a + 1
    above k l = grind arith

    unacked : list_any (is_ack e v) ms ≡ false
    unacked = by (true_or_false (list_any (is_ack e v) ms))
      where
        by : (list_any (is_ack e v) ms ≡ true) ⊎ (list_any (is_ack e v) ms ≡ false) → list_any (is_ack e v) ms ≡ false
        by (inl is) = absurd (above v (h.low v is) at)
        by (inr not) = not

    pends : (found : List ℕ) → words ≡ found → IsPending e (record { place = s + a + 1; words = found }) (propose e v words ∷ ms)
    pends found same =
        subst (λ (z : List ℕ). IsPending e (record { place = s + a + 1; words = z }) (propose e v words ∷ ms)) same
        (subst (λ (k : ℕ). IsPending e (record { place = k; words = words }) (propose e v words ∷ ms)) at (proposed_pending e v words ms unacked))

    few_so : (n k b : ℕ) → k ≡ n + 1 → n ≡ b → k ≤ b + 1
    few_so n k b i j = omega (arith, i, j)

acked_here : (e v : ℕ) (words found : List ℕ) (ps : List (List ℕ)) (a b s : ℕ) (ms : List Moment) → v ≡ s + a + 1 → b ≡ a + 1 → slice_get ps a ≡ Some found → Stands e ps a s ms → Stands e ps b s (ack e v words ∷ ms)
acked_here e v words found ps a b s ms place more there h = record {
  pending = λ next is. absurd (none_left (length ps) a b more h.few (slice_get_within ps b next is));
  few = few_so (length ps) a b more h.few;
  low = λ w is. by w (true_or_false ((e == e) && (v == w))) is;
}
  where
    none_left : (n k l : ℕ) → l ≡ k + 1 → n ≤ k + 1 → l < n → ⊥
    none_left n k l i j m = omega (arith, i, j, m)

    few_so : (n k l : ℕ) → l ≡ k + 1 → n ≤ k + 1 → n ≤ l + 1
    few_so n k l i j = omega (arith, i, j)

    this_low : (w k l : ℕ) → k ≡ s + l + 1 → k ≡ w → w ≤ s + (l + 1)
    this_low w k l i j = omega (arith, i, j)

    older_low : (w l : ℕ) → w ≤ s + l → w ≤ s + (l + 1)
    older_low w l i = omega (arith, i)

    by : (w : ℕ) → (((e == e) && (v == w)) ≡ true) ⊎ (((e == e) && (v == w)) ≡ false) → list_any (is_ack e w) (ack e v words ∷ ms) ≡ true → w ≤ s + b
    by w (inl this) is = subst (λ k. w ≤ s + k) (sym more) (this_low w v a place (is_equal v w (two_true (e == e) (v == w) this).1))
    by w (inr older) is = subst (λ k. w ≤ s + k) (sym more) (older_low w a (h.low w (ap (λ z. z || list_any (is_ack e w) ms) (sym older) ∙ is)))

pub propose_stands : (e f v : ℕ) (words : List ℕ) (ds : List Deed) (ms : List Moment) → IsProposed ds (record { epoch = f; place = v; words = words }) → StandsSo e ds ms
    → StandsSo e (Proposed (record { epoch = f; place = v; words = words }) ∷ ds) (propose f v words ∷ ms)
propose_stands e f v words ds ms is h = by (same_or_not f e)
  where
    u : Update
    u = record { epoch = f; place = v; words = words }

    at : (k : ℕ) → k ≡ e → IsProposed ds (record { epoch = k; place = v; words = words }) → StandsSo e (Proposed (record { epoch = k; place = v; words = words }) ∷ ds) (propose k v words ∷ ms)
    at k same p =
        subst (λ (j : ℕ). StandsSo e (Proposed (record { epoch = j; place = v; words = words }) ∷ ds) (propose j v words ∷ ms)) (sym same)
        (here (subst (λ (j : ℕ). IsProposed ds (record { epoch = j; place = v; words = words })) same p))
      where
        here : IsProposed ds (record { epoch = e; place = v; words = words }) → StandsSo e (Proposed (record { epoch = e; place = v; words = words }) ∷ ds) (propose e v words ∷ ms)
        here p =
            subst (λ (more : List (List ℕ)). Stands e (proposed_in e ds ++ more) (length (acked_in e ds)) (length (base_in e ds)) (propose e v words ∷ ms)) (sym (if_here e words))
            (proposed_here e v words (proposed_in e ds) (length (acked_in e ds)) (length (base_in e ds)) ms p.place p.none_pending h)

    by : (f ≡ e) ⊎ (f ≢ e) → StandsSo e (Proposed u ∷ ds) (propose f v words ∷ ms)
    by (inl same) = at f same is
    by (inr other) =
        same_stands e (proposed_in e ds) (proposed_in e (Proposed u ∷ ds)) (length (acked_in e ds)) (length (acked_in e ds)) (length (base_in e ds)) (length (base_in e ds)) (propose f v words ∷ ms)
        (ap (λ (more : List (List ℕ)). proposed_in e ds ++ more) (if_other f e (words ∷ []) [] other) ∙ append-nil (proposed_in e ds)) refl refl
        (other_stands e (proposed_in e ds) (length (acked_in e ds)) (length (base_in e ds)) (propose f v words) ms other h)

pub ack_stands : (e f v : ℕ) (words : List ℕ) (ds : List Deed) (ms : List Moment) → IsAcked ds (record { epoch = f; place = v; words = words }) → StandsSo e ds ms
    → StandsSo e (Acked (record { epoch = f; place = v; words = words }) ∷ ds) (ack f v words ∷ ms)
ack_stands e f v words ds ms is h = by (same_or_not f e)
  where
    u : Update
    u = record { epoch = f; place = v; words = words }

    at : (k : ℕ) → k ≡ e → IsAcked ds (record { epoch = k; place = v; words = words }) → StandsSo e (Acked (record { epoch = k; place = v; words = words }) ∷ ds) (ack k v words ∷ ms)
    at k same p =
        subst (λ (j : ℕ). StandsSo e (Acked (record { epoch = j; place = v; words = words }) ∷ ds) (ack j v words ∷ ms)) (sym same)
        (here (subst (λ (j : ℕ). IsAcked ds (record { epoch = j; place = v; words = words })) same p))
      where
        here : IsAcked ds (record { epoch = e; place = v; words = words }) → StandsSo e (Acked (record { epoch = e; place = v; words = words }) ∷ ds) (ack e v words ∷ ms)
        here p =
            subst (λ (more : List (List ℕ)). Stands e (proposed_in e ds) (length (acked_in e ds ++ more)) (length (base_in e ds)) (ack e v words ∷ ms)) (sym (if_here e words))
            (acked_here e v words words (proposed_in e ds) (length (acked_in e ds)) (length (acked_in e ds ++ words ∷ [])) (length (base_in e ds)) ms p.place (one_longer (acked_in e ds) words) p.words h)

    by : (f ≡ e) ⊎ (f ≢ e) → StandsSo e (Acked u ∷ ds) (ack f v words ∷ ms)
    by (inl same) = at f same is
    by (inr other) =
        same_stands e (proposed_in e ds) (proposed_in e ds) (length (acked_in e ds)) (length (acked_in e (Acked u ∷ ds))) (length (base_in e ds)) (length (base_in e ds)) (ack f v words ∷ ms) refl
        (ap (λ (more : List (List ℕ)). length (acked_in e ds ++ more)) (if_other f e (words ∷ []) [] other) ∙ ap (λ (xs : List (List ℕ)). length xs) (append-nil (acked_in e ds))) refl
        (other_stands e (proposed_in e ds) (length (acked_in e ds)) (length (base_in e ds)) (ack f v words) ms other h)
