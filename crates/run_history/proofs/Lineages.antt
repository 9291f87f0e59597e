-- The lines of a state of the machine whose devices meet have Lineage.
use Rattle.std.specs.Prelude.{ℕ, zero, suc, ◌+◌, ◌≡◌, ◌≢◌, ◌<◌, ◌≤◌, ◌⊎◌, ◌++◌, Bool, true, false, List, [], length, take, Option, None, Some}
use Rattle.std.proofs.Common.{refl, sym, ap, subst, ◌∙◌, arith, inl, inr, take_all}
use Rattle.std.proofs.lemmas.List.{append-nil}
use Rattle.std.proofs.Math.Seq.{take-append-add}
use Rattle.history.specs.Deeds.{Deed, acked_in, base_in, has_started, proposed_in, start_numbers}
use Rattle.history.specs.Lineage.{Continues, Lineage, StandsOn, last_below}
use Rattle.machine_base.specs.Epochs.{coordinator}
use Rattle.membership_machine.specs.Growth.{Grows}
use Rattle.membership_machine.specs.Invariant.{Holds}
use Rattle.membership_machine.specs.Starts.{DevicesMeet, Follows, HasVotes, Meeting, last_start}
use Rattle.membership_machine.specs.State.{Memberships}
use Rattle.membership_machine.specs.Votes.{Setting}
use Rattle.membership_machine.proofs.Before.{last_below as start_below, last_greatest, last_started}
use Rattle.membership_machine.proofs.Lineages.{first_empty, follows}
use Rattle.run_history.specs.Book.{Booked, TellsAt, story}
use Rattle.run_history.proofs.Below.{all_among, is_among, last_is, last_same, none_last}
use Rattle.run_history.proofs.Calm.{above_zero}
use Rattle.run_history.proofs.Stories.{false_true, true_false}

-- ---- where devices meet, they met before

votes_stay : (S : Setting) (M N : Memberships) (q d : ℕ) → Grows M N → (M.epoch q).counted ≡ true → HasVotes S (M.epoch q) d → HasVotes S (N.epoch q) d
votes_stay S M N q d g c (inl h) =
    inl (subst (λ (r : List (List ℕ)). 0 < (S.config r).of_device d) (sym (ap (λ n. take n (N.epoch q).base) ((g.epoch q).settled c) ∙ ap (λ xs. take (M.epoch q).settled xs) ((g.epoch q).base c))) h)
votes_stay S M N q d g c (inr h) = inr (subst (λ (r : List (List ℕ)). 0 < (S.config r).of_device d) (sym ((g.epoch q).base c)) h)

meeting_before : (S : Setting) (M N : Memberships) (e q : ℕ) → Holds S M → Grows M N → (M.epoch e).counted ≡ true → (M.epoch q).counted ≡ true → Meeting N e q → Meeting M e q
meeting_before S M N e q i g ce cq m =
    let later : (M.epoch q).members m.node ≡ true = sym ((g.epoch q).members ((i.epoch q).counted_tried cq) m.node) ∙ m.later_member in
    record { node = m.node; later_member = later; knows = go later m.knows }
  where
    go : (M.epoch q).members m.node ≡ true → ((N.epoch e).members m.node ≡ true) ⊎ (e < ((N.node m.node).showed q).installed)
        → ((M.epoch e).members m.node ≡ true) ⊎ (e < ((M.node m.node).showed q).installed)
    go later (inl k) = inl (sym ((g.epoch e).members ((i.epoch e).counted_tried ce) m.node) ∙ k)
    go later (inr k) = inr (subst (λ r. e < r.installed) ((g.node m.node).showed q ((i.epoch q).counted_answered cq m.node later)) k)

pub met_before : (S : Setting) (M N : Memberships) → Holds S M → Grows M N → DevicesMeet S N → DevicesMeet S M
met_before S M N i g meet e q d below ce cq he hq votes =
    meeting_before S M N e q i g ce cq
    (meet e q d below ((g.epoch e).counted ce) ((g.epoch q).counted cq) ((g.epoch e).holds ce d ∙ he) ((g.epoch q).holds cq d ∙ hq) (votes_stay S M N q d g cq votes))

-- ---- lineage

-- this base stands on the number before it
abbrev BaseStands : List Deed → List (List ℕ) → Option ℕ → Type 0
BaseStands ds base None = base ≡ []
BaseStands ds base (Some f) = Continues (base_in f ds) (proposed_in f ds) (length (acked_in f ds)) base

number_stands : (ds : List Deed) (q : ℕ) (o : Option ℕ) → BaseStands ds (base_in q ds) o → StandsOn ds q o
number_stands ds q None h = h
number_stands ds q (Some f) h = h

-- so many updates are those of the line, and then those that were proposed
first_of : (whole log base proposed : List (List ℕ)) (n k : ℕ) → whole ≡ take n log → log ≡ base ++ proposed → n ≡ length base + k → whole ≡ base ++ take k proposed
first_of whole log base proposed n k is parts many =
    is ∙ (ap (λ m. take m log) many ∙ (ap (λ xs. take (length base + k) xs) parts ∙ take-append-add base proposed k))

one_of : (n b a acked log : ℕ) → b + a ≤ acked → log ≤ b + a + 1 → acked ≤ n → n ≤ log → (n ≡ b + a) ⊎ (n ≡ b + (a + 1))
one_of n b a acked log h i j k = grind arith

-- f has its line: the base goes on from it
on_line : (S : Setting) (M : Memberships) (ds : List Deed) (q f : ℕ) → Holds S M → Booked M ds → (M.epoch f).started ≡ true → has_started f ds ≡ true → Follows M q f
    → BaseStands ds (M.epoch q).base (Some f)
on_line S M ds q f i h started line on = go (one_of n (length (M.epoch f).base) (length (acked_in f ds)) (M.epoch f).acked (length (M.epoch f).log) (t.low started) (t.one started) on.acknowledged on.proposed)
  where
    n : ℕ
    n = length (M.epoch q).base

    t : TellsAt M f (story f ds)
    t = h.told f

    same : base_in f ds ≡ (M.epoch f).base
    same = (t.line line).1

    part : (k : ℕ) → n ≡ length (M.epoch f).base + k → (M.epoch q).base ≡ base_in f ds ++ take k (proposed_in f ds)
    part k many =
        first_of (M.epoch q).base (M.epoch f).log (M.epoch f).base (proposed_in f ds) n k on.begins t.log many ∙ ap (λ xs. xs ++ take k (proposed_in f ds)) (sym same)

    go : (n ≡ length (M.epoch f).base + length (acked_in f ds)) ⊎ (n ≡ length (M.epoch f).base + (length (acked_in f ds) + 1)) → BaseStands ds (M.epoch q).base (Some f)
    go (inl e) = inl (part (length (acked_in f ds)) e)
    go (inr e) = inr (part (length (acked_in f ds) + 1) e)

-- the lines have started in the machine
line_started : (M : Memberships) (ds : List Deed) (k : ℕ) → Booked M ds → is_among k (start_numbers ds) ≡ true → (M.epoch k).started ≡ true
line_started M ds k h line = ((h.told k).line line).0

-- f has no line, since its save was lost: the base is the same
same_base : (S : Setting) (M : Memberships) (ds : List Deed) (q f : ℕ) → Holds S M → Booked M ds → (M.epoch f).started ≡ true → proposed_in f ds ≡ [] → Follows M q f
    → (M.epoch q).base ≡ (M.epoch f).base
same_base S M ds q f i h started none on =
    let log : (M.epoch f).log ≡ (M.epoch f).base = (h.told f).log ∙ (ap (λ xs. (M.epoch f).base ++ xs) none ∙ append-nil (M.epoch f).base) in
    let many : length (M.epoch f).log ≡ length (M.epoch f).base = ap length log in
    on.begins ∙ (take_all (length (M.epoch q).base) (M.epoch f).log (omega (arith, many, on.acknowledged, (i.epoch f).base_acked started)) ∙ log)

unlined_between : (S : Setting) (M : Memberships) (ds : List Deed) (q : ℕ) → Booked M ds → has_started (last_start M q) ds ≡ false
    → (k : ℕ) → is_among k (start_numbers ds) ≡ true → k < q → k < last_start M q
unlined_between S M ds q h none k line below = less k (last_start M q) (last_greatest M q k (line_started M ds k h line) below) (λ e. true_false (sym line ∙ (ap (λ j. is_among j (start_numbers ds)) e ∙ none)))
  where
    less : (k f : ℕ) → k ≤ f → (k ≡ f → ⊥) → k < f
    less k f h ne = grind arith

-- by induction over the starts below, n bounding the number
base_stands : (S : Setting) (M : Memberships) (ds : List Deed) → Holds S M → DevicesMeet S M → Booked M ds → (n q : ℕ) → q < n → (M.epoch q).counted ≡ true
    → BaseStands ds (M.epoch q).base (last_below q (start_numbers ds))
base_stands S M ds i meet h zero q below counted = absurd (omega arith)
base_stands S M ds i meet h (suc n) q below counted = go (zero_or f) (base_stands S M ds i meet h n)
  where
    f : ℕ
    f = last_start M q

    on : Follows M q f
    on = follows S M i meet q counted

    zero_or : (k : ℕ) → (k ≡ 0) ⊎ (0 < k)
    zero_or k = grind arith

    positive : 0 < q
    positive = (i.epoch q).tried_positive ((i.epoch q).counted_tried counted)

    none : f ≡ 0 → (k : ℕ) → is_among k (start_numbers ds) ≡ true → k < q → ⊥
    none z k line less =
        let started : (M.epoch k).started ≡ true = line_started M ds k h line in
        omega (arith, z, last_greatest M q k started less, above_zero S M k i started)

    Earlier : Type 0
    Earlier = (p : ℕ) → p < n → (M.epoch p).counted ≡ true → BaseStands ds (M.epoch p).base (last_below p (start_numbers ds))

    lined : (M.epoch f).started ≡ true → f < q → (b : Bool) → has_started f ds ≡ b → Earlier → BaseStands ds (M.epoch q).base (last_below q (start_numbers ds))
    lined started less true line earlier =
        subst (λ o. BaseStands ds (M.epoch q).base o) (sym (last_is q f (start_numbers ds) less line (λ k l b. last_greatest M q k (line_started M ds k h l) b)))
        (on_line S M ds q f i h started line on)
    lined started less false line earlier = at_earlier ((h.told f).lined started)
      where
        at_earlier : (has_started f ds ≡ true) ⊎ ((proposed_in f ds ≡ []) × ((M.node (coordinator f)).session ≢ f)) → BaseStands ds (M.epoch q).base (last_below q (start_numbers ds))
        at_earlier (inl l) = absurd (false_true (sym line ∙ l))
        at_earlier (inr l) =
            subst (λ o. BaseStands ds (M.epoch q).base o) (sym (last_same q f (start_numbers ds) (omega (arith, less)) (unlined_between S M ds q h line)))
            (subst (λ xs. BaseStands ds xs (last_below f (start_numbers ds))) (sym (same_base S M ds q f i h started l.0 on))
            (earlier f (omega (arith, less, below)) ((i.epoch f).started_counted started)))

    go : (f ≡ 0) ⊎ (0 < f) → Earlier → BaseStands ds (M.epoch q).base (last_below q (start_numbers ds))
    go (inl z) earlier = subst (λ o. BaseStands ds (M.epoch q).base o) (sym (none_last q (start_numbers ds) (none z))) (first_empty S M i meet q counted z)
    go (inr p) earlier = lined (last_started M q p) (start_below M q positive) (has_started f ds) refl earlier

pub lineage_of : (S : Setting) (M : Memberships) (ds : List Deed) → Holds S M → DevicesMeet S M → Booked M ds → Lineage ds
lineage_of S M ds i meet h = record {
  once = h.differ;
  stands = all_among (λ q. StandsOn ds q (last_below q (start_numbers ds))) (start_numbers ds) (λ q line. stands q line);
}
  where
    stands : (q : ℕ) → is_among q (start_numbers ds) ≡ true → StandsOn ds q (last_below q (start_numbers ds))
    stands q line =
        number_stands ds q (last_below q (start_numbers ds))
        (subst (λ xs. BaseStands ds xs (last_below q (start_numbers ds))) (sym ((h.told q).line line).1)
        (base_stands S M ds i meet h (suc q) q (omega arith) ((i.epoch q).started_counted (line_started M ds q h line))))
