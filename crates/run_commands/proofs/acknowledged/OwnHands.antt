-- A president's queue goes with its hand: its numbers rise, what waits has no answer, and a request of its own in hand is the oldest.
use Rattle.std.specs.Prelude.{ℕ, ◌-◌, ◌≡◌, ◌≢◌, ◌≤◌, ◌<◌, ◌==◌, ◌||◌, ◌++◌, nat_le, Bool, true, false, if◌then◌else◌, List, [], ◌∷◌, length, Option, None, Some, option_map, slice_set, slice_index_or}
use Rattle.std.specs.List.{AllByRecursion, list_any}
use Rattle.std.proofs.Common.{refl, sym, ap, subst, ◌∙◌, arith, inl, inr}
use Rattle.std.proofs.lemmas.List.{get_or-set_other, get_or-set_same}
use Rattle.cmm_attempt.proofs.Basics.{if_either, none_some, same_some}
use Rattle.proposals.specs.Arrivals.{answer_first, answered, is_from}
use Rattle.proposals.specs.State.{State, first_in, kept_at}
use Rattle.proposals.specs.declared.arrived.Arrived.{Arrived}
use Rattle.proposals.specs.declared.arrived.Kept.{Kept}
use Rattle.request_queue.specs.Queue as queue
use Rattle.request_queue.specs.Queue.{Queue, oldest_in}
use Rattle.request_queue.specs.declared.request.Request.{Request}
use Rattle.node_model.specs.declared.input.Input.{Input}
use Rattle.node_model.specs.declared.node.UpNode.{UpNode}
use Rattle.run_history.proofs.Idle.{if_true}
use Rattle.run_history.proofs.Lists.{all_and}
use Rattle.run_commands.specs.carried.Guards.{pair_of}
use Rattle.run_commands.specs.acknowledged.Guards.{IsRequested}
use Rattle.run_commands.specs.acknowledged.Hands.{AreApart, IsLater, Sound, Stays_or_comes, is_reached}
use Rattle.run_commands.proofs.acknowledged.Askings.{is_equal, is_same}
use Rattle.run_commands.proofs.acknowledged.Own.{IsFirstOf, IsUnanswered, OwnCause, OwnHand, Rises}

-- ---- lists

pub all_of : {X : Type 0} (P Q : X → Type 0) (xs : List X) → ((x : X) → P x → Q x) → AllByRecursion P xs → AllByRecursion Q xs
all_of P Q [] so h = tt
all_of P Q (x ∷ xs) so h = (so x h.0, all_of P Q xs so h.1)

none_from : (n : ℕ) (P : Arrived → Type 0) (xs : List Arrived) → list_any (is_from n) xs ≡ false → ((a : Arrived) → a.from ≢ n → P a) → AllByRecursion P xs
none_from n P [] h so = tt
none_from n P (a ∷ xs) h so =
    let two : _ = or_none (a.from == n) (list_any (is_from n) xs) h in
    (so a (λ e. differ a.from n two.0 e), none_from n P xs two.1 so)
  where
    or_none : (b d : Bool) → (b || d) ≡ false → (b ≡ false) × (d ≡ false)
    or_none true d k = cc
    or_none false d k = (refl, k)

    differ : (j k : ℕ) → (j == k) ≡ false → j ≡ k → ⊥
    differ j k h e = grind arith

-- ---- the queue

pub rises_more : (rs : List Request) (r : Request) → Rises rs → AllByRecursion (λ (k : Request). k.number < r.number) rs → Rises (rs ++ r ∷ [])
rises_more [] r h above = (tt, tt)
rises_more (k ∷ rs) r h above = (all_and (λ (z : Request). k.number < z.number) rs r h.0 above.0, rises_more rs r h.1 above.1)

pub left_rises : (q : Queue) (k : ℕ) → Rises q.waiting → Rises (queue.answered q k).waiting
left_rises q k h = by q.waiting h h
  where
    by : (rs : List Request) → Rises rs → Rises q.waiting → Rises (queue.left_of q rs k).waiting
    by [] all whole = whole
    by (r ∷ rs) all whole = if_either (λ (z : Queue). Rises z.waiting) (r.number == k) (record q { waiting = rs; age = 0 }) q all.1 whole

-- the oldest stays the oldest
pub first_more : (me : ℕ) (rs : List Request) (r : Request) (a : Arrived) → IsFirstOf me rs a → IsFirstOf me (rs ++ r ∷ []) a
first_more me [] r a h own = absurd (none_some (a.number, a.text) (h own))
first_more me (k ∷ rs) r a h own = h own

-- ---- the last answers

same_slot : (a b : ℕ) → 1 ≤ a → 1 ≤ b → a - 1 ≡ b - 1 → a ≡ b
same_slot a b h k e = omega (arith, h, k, e)

in_slots : (a k : ℕ) → 1 ≤ a → a ≤ 32 → k ≡ 32 → a - 1 < k
in_slots a k low high is = omega (arith, low, high, is)

abbrev answers_after : List (Option Kept) → Arrived → List ℕ → List (Option Kept)
answers_after answers a text = slice_set answers (a.from - 1) (Some (record { number = a.number; text = text }))

kept_here : (answers : List (Option Kept)) (a : Arrived) (text : List ℕ) (me : ℕ) → a.from ≡ me → (1 ≤ me) × (me ≤ 32) → length answers ≡ 32
    → kept_at (answers_after answers a text) me ≡ Some (record { number = a.number; text = text })
kept_here answers a text me own range slots =
    ap (λ j. slice_index_or (answers_after answers a text) (j - 1) None) (sym own)
    ∙ get_or-set_same answers (a.from - 1) (Some (record { number = a.number; text = text })) None
    (in_slots a.from (length answers) (subst (λ j. 1 ≤ j) (sym own) range.0) (subst (λ j. j ≤ 32) (sym own) range.1) slots)

kept_there : (answers : List (Option Kept)) (a : Arrived) (text : List ℕ) (me : ℕ) → a.from ≢ me → 1 ≤ a.from → 1 ≤ me → kept_at (answers_after answers a text) me ≡ kept_at answers me
kept_there answers a text me other low range =
    get_or-set_other answers (a.from - 1) (me - 1) (Some (record { number = a.number; text = text })) None (λ e. other (sym (same_slot me a.from range low e)))

above_no : (k r b : ℕ) → r < k → r ≡ b → nat_le k b ≡ false
above_no k r b h e = grind (arith, h, e)

last_no : (k last r b : ℕ) → last < k → r ≤ last → r ≡ b → nat_le k b ≡ false
last_no k last r b h low e = grind (arith, h, low, e)

-- ---- the first is answered

some_pair : (r : Request) (a : Arrived) → Some (pair_of r) ≡ Some (a.number, a.text) → r.number ≡ a.number
some_pair r a e = ap (λ (p : ℕ × List ℕ). p.0) (same_some (pair_of r) (a.number, a.text) e)

-- one of its own, which is the oldest
own_answered : (me last : ℕ) (q : Queue) (rs : List Request) (s : State) (b : Arrived) (rest : List Arrived) (text : List ℕ) → (1 ≤ me) × (me ≤ 32) → length s.answers ≡ 32 → b.from ≡ me
    → list_any (is_from b.from) rest ≡ false → Rises rs → AllByRecursion (λ (r : Request). r.number ≤ last) rs → option_map pair_of (oldest_in rs) ≡ Some (b.number, b.text)
    → OwnHand me last (queue.left_of q rs b.number).waiting (answer_first s (b ∷ rest) text)
own_answered me last q [] s b rest text range slots own apart rises low first = absurd (none_some (b.number, b.text) first)
own_answered me last q (r ∷ rs) s b rest text range slots own apart rises low first =
    let same : r.number ≡ b.number = some_pair r b first in
    let kept : kept_at (answers_after s.answers b text) me ≡ Some (record { number = b.number; text = text }) = kept_here s.answers b text me own range slots in
    subst (λ (z : Queue). OwnHand me last z.waiting (answer_first s (b ∷ rest) text))
    (sym (if_true (r.number == b.number) (record q { waiting = rs; age = 0 }) q (ap (λ k. k == b.number) same ∙ is_same b.number))) (record {
      later = all_of (λ (k : Request). r.number < k.number) (λ (k : Request). IsUnanswered (answers_after s.answers b text) me k.number) rs
          (λ k above. ap (λ o. is_reached o k.number) kept ∙ above_no k.number r.number b.number above same) rises.0;
      below = λ k above. ap (λ o. is_reached o k) kept ∙ last_no k last r.number b.number above low.0 same;
      first = none_from b.from (IsFirstOf me rs) rest apart (λ a other it. absurd (other (it ∙ sym own)));
    })

-- one of another node
other_answered : (me last : ℕ) (q : Queue) (s : State) (b : Arrived) (rest : List Arrived) (text : List ℕ) → 1 ≤ me → 1 ≤ b.from → b.from ≢ me → AllByRecursion (IsFirstOf me q.waiting) rest → OwnHand me last q.waiting s
    → OwnHand me last q.waiting (answer_first s (b ∷ rest) text)
other_answered me last q s b rest text range low other firsts h =
    let kept : kept_at (answers_after s.answers b text) me ≡ kept_at s.answers me = kept_there s.answers b text me other low range in
    record {
      later = all_of (λ (k : Request). IsUnanswered s.answers me k.number) (λ (k : Request). IsUnanswered (answers_after s.answers b text) me k.number) q.waiting (λ k at. ap (λ o. is_reached o k.number) kept ∙ at) h.later;
      below = λ k above. ap (λ o. is_reached o k) kept ∙ h.below k above;
      first = firsts;
    }

first_answered : (me last : ℕ) (q : Queue) (s : State) (b : Arrived) (rest : List Arrived) (text : List ℕ) (own : Bool) → (b.from == me) ≡ own → (1 ≤ me) × (me ≤ 32) → length s.answers ≡ 32 → 1 ≤ b.from
    → list_any (is_from b.from) rest ≡ false → Rises q.waiting → AllByRecursion (λ (r : Request). r.number ≤ last) q.waiting → IsFirstOf me q.waiting b → AllByRecursion (IsFirstOf me q.waiting) rest
    → OwnHand me last q.waiting s → (let z : Queue = if own then queue.answered q b.number else q in OwnHand me last z.waiting (answer_first s (b ∷ rest) text))
first_answered me last q s b rest text true is range slots low apart rises few first firsts h =
    own_answered me last q q.waiting s b rest text range slots (is_equal b.from me is) apart rises few (first (is_equal b.from me is))
first_answered me last q s b rest text false is range slots low apart rises few first firsts h =
    other_answered me last q s b rest text range.0 low (λ e. no_other (sym is ∙ (ap (λ k. k == me) e ∙ is_same me))) firsts h
  where
    no_other : false ≡ true → ⊥
    no_other e = cc

pub answered_hand : (me last : ℕ) (q : Queue) (s : State) (a : Arrived) (text : List ℕ) → (1 ≤ me) × (me ≤ 32) → Sound s → Rises q.waiting → AllByRecursion (λ (r : Request). r.number ≤ last) q.waiting
    → first_in s.arrived ≡ Some a → OwnHand me last q.waiting s → (let z : Queue = if a.from == me then queue.answered q a.number else q in OwnHand me last z.waiting (answered s text))
answered_hand me last q s a text range sound rises few is h = by s.arrived sound.later sound.apart is h.first
  where
    by : (xs : List Arrived) → AllByRecursion (IsLater s.answers) xs → AreApart xs → first_in xs ≡ Some a → AllByRecursion (IsFirstOf me q.waiting) xs
        → (let z : Queue = if a.from == me then queue.answered q a.number else q in OwnHand me last z.waiting (answer_first s xs text))
    by [] later apart none firsts = absurd (none_some a none)
    by (b ∷ rest) later apart at firsts =
        subst (λ (k : Arrived). let z : Queue = if k.from == me then queue.answered q k.number else q in OwnHand me last z.waiting (answer_first s (b ∷ rest) text)) (same_some b a at)
        (first_answered me last q s b rest text (b.from == me) refl range sound.slots later.0.low apart.0 rises few firsts.0 firsts.1 h)

-- ---- one comes

pub comes_hand : (i : Input) (me : ℕ) (v : Option ℕ) (x : UpNode) (q : Queue) (last : ℕ) (s t : State) → ((a : Arrived) → IsRequested i v x a → a.from ≢ me) → Stays_or_comes (OwnCause i me v x q) s t
    → OwnHand me last q.waiting s → OwnHand me last q.waiting t
comes_hand i me v x q last s t other (inl f) h = record {
  later = subst (λ os. AllByRecursion (λ (k : Request). IsUnanswered os me k.number) q.waiting) (sym f.1) h.later;
  below = λ k above. ap (λ os. is_reached (kept_at os me) k) f.1 ∙ h.below k above;
  first = subst (λ xs. AllByRecursion (IsFirstOf me q.waiting) xs) (sym f.0) h.first;
}
comes_hand i me v x q last s t other (inr k) h =
    subst (λ (z : State). OwnHand me last q.waiting z) (sym k.is) (record { later = h.later; below = h.below; first = all_and (IsFirstOf me q.waiting) s.arrived k.request h.first (own k.cause) })
  where
    own : OwnCause i me v x q k.request → IsFirstOf me q.waiting k.request
    own (inl asked) from = absurd (other k.request asked from)
    own (inr it) from = subst (λ (a : Arrived). option_map pair_of (oldest_in q.waiting) ≡ Some (a.number, a.text)) (sym it.is) (ap (λ o. option_map pair_of o) it.first)

-- ---- one joins the queue

pub joined_hand : (me last : ℕ) (rs : List Request) (r : Request) (s : State) → IsUnanswered s.answers me r.number → OwnHand me last rs s → OwnHand me last (rs ++ r ∷ []) s
joined_hand me last rs r s later h = record {
  later = all_and (λ (k : Request). IsUnanswered s.answers me k.number) rs r h.later later;
  below = h.below;
  first = all_of (IsFirstOf me rs) (IsFirstOf me (rs ++ r ∷ [])) s.arrived (λ a at. first_more me rs r a at) h.first;
}

-- ---- the numbers go on

further : (last more k : ℕ) → last ≤ more → more < k → last < k
further last more k h above = omega (arith, h, above)

pub more_hand : (me last more : ℕ) (rs : List Request) (s : State) → last ≤ more → OwnHand me last rs s → OwnHand me more rs s
more_hand me last more rs s up h = record { later = h.later; below = λ k above. h.below k (further last more k up above); first = h.first }
