-- What a president knows of the requests of other nodes stays: with quiet lines, as requests come, and as the first is answered.
use Rattle.std.specs.Prelude.{ℕ, ◌-◌, ◌≡◌, ◌≢◌, ◌≤◌, ◌<◌, ◌⊎◌, ◌==◌, ◌&&◌, nat_le, nat_lt, ◌^◌, Bool, true, false, List, [], ◌∷◌, ◌++◌, length, Option, None, Some, slice_set, slice_index_or}
use Rattle.std.specs.List.{AllByRecursion}
use Rattle.std.proofs.Common.{refl, sym, ap, subst, ◌∙◌, arith, inl, inr}
use Rattle.std.proofs.lemmas.List.{get_or-set_other, get_or-set_same}
use Rattle.answer_words.specs.Answers.{answer_in}
use Rattle.proposals.specs.Arrivals.{answer_first, answered, with_arrival}
use Rattle.proposals.specs.State.{State, first_in, kept_at}
use Rattle.proposals.specs.declared.arrived.Arrival.TheVariants.{New}
use Rattle.proposals.specs.declared.arrived.Arrived.{Arrived}
use Rattle.proposals.specs.declared.arrived.Kept.{Kept}
use Rattle.status_report.specs.declared.command_entry.Answer.TheVariants as answer
use Rattle.wire.specs.declared.message.Body.{Body}
use Rattle.wire.specs.declared.message.Body.TheVariants as body
use Rattle.history.specs.Contents.{proposed_at}
use Rattle.history.specs.Moment.{Moment}
use Rattle.history.specs.Requests.{requests_of}
use Rattle.history.specs.Setting.{Setting, coordinator}
use Rattle.node_model.specs.declared.cluster.Cluster.{Cluster}
use Rattle.run_commands.specs.acknowledged.Hands.{IsLater, Sound, Stays_or_comes, is_reached}
use Rattle.run_commands.proofs.acknowledged.Askings.{is_equal, true_two, two_true}
use Rattle.run_commands.specs.acknowledged.AnsweringGuards.{Due}
use Rattle.run_commands.specs.acknowledged.AnsweringGuards.Due.{Even, Gave, Owes}
use Rattle.run_commands.proofs.acknowledged.Remote.{DueSo, IsFirsts, IsNotGiven, IsNotOwed, IsOpenTo, KeptSettled, Remote, WaitAll, can_send, place_of}
use Rattle.run_commands.specs.acknowledged.Requested.{HasRequested}
use Rattle.run_commands.proofs.acknowledged.Settled.{IsSettled}
use Rattle.run_commands.proofs.acknowledged.Fresh.{fewer_wait}
use Rattle.run_commands.proofs.acknowledged.Quiet.{Quiet}

-- ---- lines

less_before : (a b k : ℕ) → a ≤ b → nat_lt b k ≡ true → nat_lt a k ≡ true
less_before a b k h e = grind (arith, h, e)

-- what can be sent later can be sent now
pub can_before : (next more n : ℕ) (b : Body) → next ≤ more → can_send more n b ≡ true → can_send next n b ≡ true
can_before next more n b low h = let two : _ = two_true _ (nat_lt more (2 ^ 63)) h in true_two _ (nat_lt next (2 ^ 63)) two.0 (less_before next more (2 ^ 63) low two.1)

pub came_more : (n e : ℕ) (before after : List Moment) (xs : List Arrived) → ((m q : ℕ) (text : List ℕ) → HasRequested m q e text before → HasRequested m q e text after)
    → AllByRecursion (λ a. a.from ≢ n → HasRequested a.from a.number e a.text before) xs → AllByRecursion (λ a. a.from ≢ n → HasRequested a.from a.number e a.text after) xs
came_more n e before after [] f h = tt
came_more n e before after (a ∷ xs) f h = (λ ne. f a.from a.number a.text (h.0 ne), came_more n e before after xs f h.1)

-- what lines leave of requests in e, at node n
pub record Lasts (S : Setting) (c : Cluster) (n e : ℕ) (d : Due) (answers : List (Option Kept)) (before after : List Moment) : Type 0 where
  pub requested : (m q : ℕ) (text : List ℕ) → HasRequested m q e text before → HasRequested m q e text after
  pub settled : (m q : ℕ) → IsSettled S c e m q before → IsSettled S c e m q after
  pub waits : WaitAll (IsOpenTo n d answers) (requests_of S e before) → WaitAll (IsOpenTo n d answers) (requests_of S e after)

pub quiet_lasts : (S : Setting) (c : Cluster) (n e : ℕ) (d : Due) (answers : List (Option Kept)) (before after : List Moment) → coordinator e ≡ n → Quiet S c n before after → Lasts S c n e d answers before after
quiet_lasts S c n e d answers before after own quiet = record { requested = λ m q text h. quiet.requested m q e text h; settled = λ m q h. quiet.settled e m q h; waits = λ h. quiet.waits d answers e own h }

pub kept_more : (S : Setting) (c : Cluster) (n e : ℕ) (d : Due) (answers : List (Option Kept)) (next more : ℕ) (before after : List Moment) → Lasts S c n e d answers before after → next ≤ more → KeptSettled S c n e d answers next before
    → KeptSettled S c n e d answers more after
kept_more S c n e d answers next more before after lasts low h m k one ne at ok owed can = lasts.settled m k.number (h m k one ne at ok owed (can_before next more n (body.Answer e k.number k.text) low can))

first_more : (c : Cluster) (e : ℕ) (s : State) (v : ℕ) (before after : List Moment) → proposed_at (Some e) v after ≡ proposed_at (Some e) v before → IsFirsts c e s v before → IsFirsts c e s v after
first_more c e s v before after same f = record { request = f.request; first = f.first; update = f.update; read = f.read; words = same ∙ f.words }

pub remote_more : (S : Setting) (c : Cluster) (k e : ℕ) (d : Due) (s : State) (next more : ℕ) (before after : List Moment) → Lasts S c k e d s.answers before after
    → ((v : ℕ) → proposed_at (Some e) v after ≡ proposed_at (Some e) v before) → next ≤ more → DueSo S c k e d s after → Remote S c k e d s next before → Remote S c k e d s more after
remote_more S c k e d s next more before after lasts same low due h = record {
  waits = lasts.waits h.waits;
  kept = kept_more S c k e d s.answers next more before after lasts low h.kept;
  came = came_more k e before after s.arrived lasts.requested h.came;
  first = λ v is. first_more c e s v before after (same v) (h.first v is);
  due = due;
}

-- ---- a request comes

end_came : (P : Arrived → Type 0) (xs : List Arrived) (y : Arrived) → AllByRecursion P xs → P y → AllByRecursion P (xs ++ y ∷ [])
end_came P [] y h p = (p, tt)
end_came P (x ∷ xs) y h p = (h.0, end_came P xs y h.1 p)

still_first : (xs : List Arrived) (y a : Arrived) → first_in xs ≡ Some a → first_in (xs ++ y ∷ []) ≡ Some a
still_first [] y a h = cc
still_first (x ∷ xs) y a h = h

due_same : (S : Setting) (c : Cluster) (n e : ℕ) (d : Due) (s t : State) (ms : List Moment) → t.answers ≡ s.answers → DueSo S c n e d s ms → DueSo S c n e d t ms
due_same S c n e Even s t ms same h = tt
due_same S c n e (Gave a reply) s t ms same h = h
due_same S c n e (Owes a) s t ms same h = record { update = h.update; read = h.read; acked = h.acked; opens = h.opens; kept = λ ne. ap (λ (os : List (Option Kept)). kept_at os a.from) same ∙ h.kept ne }

same_firsts : (c : Cluster) (e : ℕ) (s t : State) (v : ℕ) (ms : List Moment) → ((a : Arrived) → first_in s.arrived ≡ Some a → first_in t.arrived ≡ Some a) → IsFirsts c e s v ms → IsFirsts c e t v ms
same_firsts c e s t v ms so f = record { request = f.request; first = so f.request f.first; update = f.update; read = f.read; words = f.words }

-- the same, or a new one comes for a cause that is a Request; what is proposed is no more than it was
pub remote_goes : (S : Setting) (c : Cluster) (n e : ℕ) (d : Due) (C : Arrived → Type 0) (s t : State) (next : ℕ) (ms : List Moment) → ((a : Arrived) → C a → a.from ≢ n → HasRequested a.from a.number e a.text ms)
    → ((v : ℕ) → place_of t.proposed ≡ Some v → place_of s.proposed ≡ Some v) → Stays_or_comes C s t → Remote S c n e d s next ms → Remote S c n e d t next ms
remote_goes S c n e d C s t next ms cause place (inl same) h = record {
  waits = subst (λ os. WaitAll (IsOpenTo n d os) (requests_of S e ms)) (sym same.1) h.waits;
  kept = subst (λ os. KeptSettled S c n e d os next ms) (sym same.1) h.kept;
  came = subst (λ xs. AllByRecursion (λ (a : Arrived). a.from ≢ n → HasRequested a.from a.number e a.text ms) xs) (sym same.0) h.came;
  first = λ v is. same_firsts c e s t v ms (λ a at. ap first_in same.0 ∙ at) (h.first v (place v is));
  due = due_same S c n e d s t ms same.1 h.due;
}
remote_goes S c n e d C s t next ms cause place (inr k) h =
    subst (λ (z : State). Remote S c n e d z next ms) (sym k.is) (record {
      waits = h.waits;
      kept = h.kept;
      came = end_came (λ (a : Arrived). a.from ≢ n → HasRequested a.from a.number e a.text ms) s.arrived k.request h.came (cause k.request k.cause);
      first = λ v is. same_firsts c e s (with_arrival s k.request New) v ms (λ a at. still_first s.arrived k.request a at) (h.first v is);
      due = due_same S c n e d s (with_arrival s k.request New) ms refl h.due;
    })

-- what is proposed is the same, but for the members that are missing
pub remote_same : (S : Setting) (c : Cluster) (n e : ℕ) (d : Due) (s t : State) (next : ℕ) (ms : List Moment) → t.arrived ≡ s.arrived → t.answers ≡ s.answers → ((v : ℕ) → place_of t.proposed ≡ Some v → place_of s.proposed ≡ Some v)
    → Remote S c n e d s next ms → Remote S c n e d t next ms
remote_same S c n e d s t next ms arrived answers place h = record {
  waits = subst (λ os. WaitAll (IsOpenTo n d os) (requests_of S e ms)) (sym answers) h.waits;
  kept = subst (λ os. KeptSettled S c n e d os next ms) (sym answers) h.kept;
  came = subst (λ xs. AllByRecursion (λ (a : Arrived). a.from ≢ n → HasRequested a.from a.number e a.text ms) xs) (sym arrived) h.came;
  first = λ v is. same_firsts c e s t v ms (λ a at. ap first_in arrived ∙ at) (h.first v (place v is));
  due = due_same S c n e d s t ms answers h.due;
}

-- ---- the first is answered

same_slot : (a b : ℕ) → 1 ≤ a → 1 ≤ b → a - 1 ≡ b - 1 → a ≡ b
same_slot a b h k e = omega (arith, h, k, e)

in_slots : (a k : ℕ) → 1 ≤ a → a ≤ 32 → k ≡ 32 → a - 1 < k
in_slots a k low high is = omega (arith, low, high, is)

not_equal : (a b : ℕ) → a ≢ b → (a == b) ≡ false
not_equal a b ne = grind arith

pub slot_or : (a b : ℕ) → (a ≡ b) ⊎ (a ≢ b)
slot_or a b = by (a == b) refl
  where
    not_from : (x y : ℕ) → (x == y) ≡ false → x ≡ y → ⊥
    not_from x y h e = grind arith

    by : (t : Bool) → (a == b) ≡ t → (a ≡ b) ⊎ (a ≢ b)
    by true is = inl (is_equal a b is)
    by false is = inr (λ e. not_from a b is e)

-- the answers once a is answered
abbrev pub answers_after : List (Option Kept) → Arrived → List ℕ → List (Option Kept)
answers_after answers a text = slice_set answers (a.from - 1) (Some (record { number = a.number; text = text }))

pub slot_here : (answers : List (Option Kept)) (a : Arrived) (text : List ℕ) (m : ℕ) → m - 1 ≡ a.from - 1 → 1 ≤ a.from → a.from ≤ 32 → length answers ≡ 32
    → kept_at (answers_after answers a text) m ≡ Some (record { number = a.number; text = text })
slot_here answers a text m same low high slots =
    ap (λ i. slice_index_or (answers_after answers a text) i None) same
    ∙ get_or-set_same answers (a.from - 1) (Some (record { number = a.number; text = text })) None (in_slots a.from (length answers) low high slots)

slot_there : (answers : List (Option Kept)) (a : Arrived) (text : List ℕ) (m : ℕ) → m - 1 ≢ a.from - 1 → kept_at (answers_after answers a text) m ≡ kept_at answers m
slot_there answers a text m ne = get_or-set_other answers (a.from - 1) (m - 1) (Some (record { number = a.number; text = text })) None ne

above : (q a k : ℕ) → nat_le q a ≡ false → nat_le a k ≡ false → nat_le q k ≡ false
above q a k h j = grind arith

reached_not : (o : Option Kept) (q a : ℕ) → nat_le q a ≡ false → is_reached o a ≡ false → is_reached o q ≡ false
reached_not None q a h j = refl
reached_not (Some k) q a h j = above q a k.number h j

no_left : (a b : Bool) → a ≡ false → (a && b) ≡ false
no_left true b h = cc
no_left false b h = refl

no_right : (a b : Bool) → b ≡ false → (a && b) ≡ false
no_right true b h = h
no_right false b h = refl

not_this : (a q : ℕ) → nat_le q a ≡ false → (a == q) ≡ false
not_this a q h = grind arith

-- what is not past then was not before, and was not given
abbrev pub IsBefore : Due → Arrived → Type 0
IsBefore Even a = Unit {0}
IsBefore (Gave b reply) a = b ≡ a
IsBefore (Owes b) a = ⊥

not_given : (d : Due) (a : Arrived) (m q : ℕ) → IsBefore d a → ((a.from == m) && (a.number == q)) ≡ false → IsNotGiven d m q
not_given Even a m q is h = tt
not_given (Gave b reply) a m q is h = subst (λ (z : Arrived). ((z.from == m) && (z.number == q)) ≡ false) (sym is) h
not_given (Owes b) a m q is h = absurd is

not_past : (n : ℕ) (d g : Due) (answers : List (Option Kept)) (a : Arrived) (text : List ℕ) (m q : ℕ) → IsBefore d a → is_reached (kept_at answers a.from) a.number ≡ false → 1 ≤ a.from → a.from ≤ 32 → length answers ≡ 32
    → IsOpenTo n g (answers_after answers a text) m q → IsOpenTo n d answers m q
not_past n d g answers a text m q is later low high slots h = by (slot_or (m - 1) (a.from - 1))
  where
    by : ((m - 1 ≡ a.from - 1) ⊎ (m - 1 ≢ a.from - 1)) → IsOpenTo n d answers m q
    by (inl e) =
        let up : nat_le q a.number ≡ false = ap (λ o. is_reached o q) (sym (slot_here answers a text m e low high slots)) ∙ h.later in
        record {
          other = h.other;
          later = ap (λ i. is_reached (slice_index_or answers i None) q) e ∙ reached_not (kept_at answers a.from) q a.number up later;
          given = not_given d a m q is (no_right (a.from == m) (a.number == q) (not_this a.number q up));
        }
    by (inr ne) = record {
      other = h.other;
      later = ap (λ o. is_reached o q) (sym (slot_there answers a text m ne)) ∙ h.later;
      given = not_given d a m q is (no_left (a.from == m) (a.number == q) (not_equal a.from m (λ same. ne (ap (λ z. z - 1) (sym same)))));
    }

some_kept : (x y : Kept) → Some x ≡ Some y → x ≡ y
some_kept x y e = cc

-- what is known of the answer that is kept then
abbrev pub NewKept : Setting → Cluster → ℕ → ℕ → Due → Arrived → List ℕ → List Moment → Type 0
NewKept S c n e g a text ms = a.from ≢ n → answer_in text ≡ Some answer.Ok → IsNotOwed g a.from → IsSettled S c e a.from a.number ms

not_owed : (d : Due) (a : Arrived) (m : ℕ) → IsBefore d a → IsNotOwed d m
not_owed Even a m is = tt
not_owed (Gave b reply) a m is = tt
not_owed (Owes b) a m is = absurd is

kept_after : (S : Setting) (c : Cluster) (n e : ℕ) (d g : Due) (answers : List (Option Kept)) (a : Arrived) (text : List ℕ) (next : ℕ) (ms : List Moment) → IsBefore d a → 1 ≤ a.from → a.from ≤ 32 → length answers ≡ 32
    → NewKept S c n e g a text ms → KeptSettled S c n e d answers next ms → KeptSettled S c n e g (answers_after answers a text) next ms
kept_after S c n e d g answers a text next ms is low high slots new h m k one ne at ok owed can = by (slot_or (m - 1) (a.from - 1))
  where
    by : ((m - 1 ≡ a.from - 1) ⊎ (m - 1 ≢ a.from - 1)) → IsSettled S c e m k.number ms
    by (inl same) =
        let it : m ≡ a.from = same_slot m a.from one low same in
        let this : record { number = a.number; text = text } ≡ k = some_kept (record { number = a.number; text = text }) k (sym (slot_here answers a text m same low high slots) ∙ at) in
        subst (λ (z : Kept). IsSettled S c e m z.number ms) this
        (subst (λ z. IsSettled S c e z a.number ms) (sym it)
        (new (λ z. ne (it ∙ z)) (ap (λ (z : Kept). answer_in z.text) this ∙ ok) (subst (λ z. IsNotOwed g z) it owed)))
    by (inr other) = h m k one ne (sym (slot_there answers a text m other) ∙ at) ok (not_owed d a m is) can

rest_came : (P : Arrived → Type 0) (s : State) (text : List ℕ) → AllByRecursion P s.arrived → AllByRecursion P (answered s text).arrived
rest_came P s text h = by s.arrived h
  where
    by : (xs : List Arrived) → AllByRecursion P xs → AllByRecursion P (answer_first s xs text).arrived
    by [] k = h
    by (a ∷ rest) k = k.1

none_place : (v : ℕ) → place_of None ≡ Some v → ⊥
none_place v e = cc

pub remote_answered : (S : Setting) (c : Cluster) (n e : ℕ) (d g : Due) (s : State) (a : Arrived) (text : List ℕ) (next : ℕ) (ms : List Moment) → first_in s.arrived ≡ Some a → IsBefore d a → Sound s → NewKept S c n e g a text ms
    → DueSo S c n e g (answered s text) ms → Remote S c n e d s next ms → Remote S c n e g (answered s text) next ms
remote_answered S c n e d g s a text next ms first is sound new due h = by s.arrived refl first sound.later
  where
    same_first : (x y : Arrived) → Some x ≡ Some y → x ≡ y
    same_first x y z = cc

    by : (xs : List Arrived) → s.arrived ≡ xs → first_in xs ≡ Some a → AllByRecursion (IsLater s.answers) xs → Remote S c n e g (answered s text) next ms
    by [] at z later = cc
    by (b ∷ rest) at z later =
        let same : b ≡ a = same_first b a z in
        let l : IsLater s.answers a = subst (IsLater s.answers) same later.0 in
        let answers : (answered s text).answers ≡ answers_after s.answers a text = ap (λ ys. (answer_first s ys text).answers) at ∙ ap (λ (y : Arrived). answers_after s.answers y text) same in
        record {
          waits = subst (λ os. WaitAll (IsOpenTo n g os) (requests_of S e ms)) (sym answers)
              (fewer_wait (IsOpenTo n d s.answers) (IsOpenTo n g (answers_after s.answers a text)) (requests_of S e ms) (λ m q k. not_past n d g s.answers a text m q is l.later l.low l.high sound.slots k) h.waits);
          kept = subst (λ os. KeptSettled S c n e g os next ms) (sym answers) (kept_after S c n e d g s.answers a text next ms is l.low l.high sound.slots new h.kept);
          came = rest_came (λ (y : Arrived). y.from ≢ n → HasRequested y.from y.number e y.text ms) s text h.came;
          first = λ v k. absurd (none_place v (ap (λ ys. place_of (answer_first s ys text).proposed) (sym at) ∙ k));
          due = due;
        }

-- ---- what was owed is given

pub remote_given : (S : Setting) (c : Cluster) (n e : ℕ) (a : Arrived) (s : State) (next more : ℕ) (before after : List Moment) → Lasts S c n e (Owes a) s.answers before after
    → ((v : ℕ) → proposed_at (Some e) v after ≡ proposed_at (Some e) v before) → next ≤ more
    → (a.from ≢ n → (k : Kept) → kept_at s.answers a.from ≡ Some k → can_send more n (body.Answer e k.number k.text) ≡ true → IsSettled S c e a.from k.number after) → Remote S c n e (Owes a) s next before
    → Remote S c n e Even s more after
remote_given S c n e a s next more before after lasts same low given h = record {
  waits = fewer_wait (IsOpenTo n (Owes a) s.answers) (IsOpenTo n Even s.answers) (requests_of S e after) (λ m q z. record { other = z.other; later = z.later; given = tt }) (lasts.waits h.waits);
  kept = λ m k one ne at ok owed can. by m k one ne at ok can (slot_or a.from m);
  came = came_more n e before after s.arrived lasts.requested h.came;
  first = λ v is. first_more c e s v before after (same v) (h.first v is);
  due = tt;
}
  where
    by : (m : ℕ) (k : Kept) → 1 ≤ m → m ≢ n → kept_at s.answers m ≡ Some k → answer_in k.text ≡ Some answer.Ok → can_send more n (body.Answer e k.number k.text) ≡ true → ((a.from ≡ m) ⊎ (a.from ≢ m)) → IsSettled S c e m k.number after
    by m k one ne at ok can (inl it) = subst (λ z. IsSettled S c e z k.number after) it (given (λ own. ne (sym it ∙ own)) k (ap (λ z. kept_at s.answers z) it ∙ at) can)
    by m k one ne at ok can (inr other) = kept_more S c n e (Owes a) s.answers next more before after lasts low h.kept m k one ne at ok other can
