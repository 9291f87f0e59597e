-- What a president has in hand of other nodes has come, as it goes on.
use Rattle.std.specs.Prelude.{ℕ, ◌-◌, ◌≡◌, ◌≢◌, ◌≤◌, ◌⊎◌, ◌++◌, ◌==◌, ◌&&◌, Bool, true, List, [], ◌∷◌, length, slice_set, Option, None, Some}
use Rattle.std.specs.List.{AllByRecursion}
use Rattle.std.proofs.Common.{refl, ap, sym, subst, ◌∙◌, inl, inr, arith}
use Rattle.std.proofs.lemmas.List.{get_or-set_other}
use Rattle.cmm_attempt.proofs.Basics.{same_some}
use Rattle.history.specs.Letters.{Letter, is_letter, says}
use Rattle.history.specs.Moment.{Moment}
use Rattle.history.specs.Names as name
use Rattle.history.specs.Names.{named, same_name}
use Rattle.node_model.specs.Seats.{session_of}
use Rattle.node_model.specs.Updates.{later_presidency}
use Rattle.node_model.specs.declared.input.Input.{Input}
use Rattle.node_model.specs.declared.node.UpNode.{UpNode}
use Rattle.node_model.specs.declared.presidency.Presidency.{Presidency}
use Rattle.proposals.specs.Arrivals.{answer_first, answered}
use Rattle.proposals.specs.State.{State, first_in, kept_at}
use Rattle.proposals.specs.declared.arrived.Arrived.{Arrived}
use Rattle.proposals.specs.declared.arrived.Kept.{Kept}
use Rattle.refinement.proofs.Worlds.{all_append}
use Rattle.run_commands.proofs.acknowledged.Asides.{of_member}
use Rattle.run_commands.proofs.acknowledged.Carrying.{CameFrom, FromLetter}
use Rattle.run_commands.proofs.acknowledged.Remotes.{slot_here, slot_or}
use Rattle.run_commands.proofs.carried.Causes.{ArrivedSo, CameSo}
use Rattle.run_commands.specs.acknowledged.Askings.{is_request}
use Rattle.run_commands.specs.acknowledged.AnsweringGuards.{Answers, OfBoth}
use Rattle.run_commands.specs.acknowledged.Guards.{CauseOf}
use Rattle.run_commands.specs.acknowledged.Hands.{IsLater, Sound, Stays_or_comes}
use Rattle.run_packets.proofs.prepares.Lines.{same_number as is_itself}
use Rattle.status_report.specs.declared.command_entry.Answer.{Answer}
use Rattle.wire.specs.declared.message.Body.{Body}
use Rattle.wire.specs.declared.message.Body.TheVariants as body
use Rattle.world_model.specs.Sends.{name_of}
use Rattle.run_packets.specs.again.Coming.{HandOf, HasCome, OfficeHas, is_asking}
use Rattle.run_packets.proofs.again.Coming.{arrived_reached}

-- ---- a request comes

both_true : (a b : Bool) → a ≡ true → b ≡ true → (a && b) ≡ true
both_true a b h k = cc

is_asking_so : (m n q e : ℕ) (text : List ℕ) (l : Letter) → l.name ≡ name.Request q → l.from ≡ m → l.to ≡ n → says l.bytes ≡ Some (body.Request e q text) → is_asking m n q e l ≡ true
is_asking_so m n q e text l called from to said =
    both_true (is_letter (name.Request q) m n l) (is_request q e (says l.bytes))
    (both_true (same_name l.name (name.Request q) && (l.from == m)) (l.to == n)
    (both_true (same_name l.name (name.Request q)) (l.from == m) (subst (λ z. same_name z (name.Request q) ≡ true) (sym called) (is_itself q)) (ap (λ z. z == m) from ∙ is_itself m))
    (ap (λ z. z == n) to ∙ is_itself n))
    (ap (λ o. is_request q e o) said ∙ both_true (e == e) (q == q) (is_itself e) (is_itself q))

pub cause_come : (i : Input) (n : ℕ) (v : Option ℕ) (x : UpNode) (ms : List Moment) → CameFrom i ms → CameSo i n ms → (a : Arrived) → CauseOf i n v x a → a.from ≢ n → HasCome a.from n a.number (session_of x) ms
cause_come i n v x ms from came a (inl k) ne =
    let l : FromLetter a.from k.message ms = subst (λ (z : Input). CameFrom z ms) k.input from in
    let z : ArrivedSo ms n a.from k.message = subst (λ (y : Input). CameSo y n ms) k.input came in
    let one : l.letter ≡ z.letter = same_some l.letter z.letter (sym l.here ∙ z.here) in
    let session : session_of x ≡ k.epoch = (of_member x a.from k.epoch k.here).1 in
    let said : k.message.body ≡ body.Request (session_of x) a.number a.text = k.says ∙ ap (λ e. body.Request e a.number a.text) (sym session) in
    arrived_reached (is_asking a.from n a.number (session_of x)) l.letter ms l.here
    (is_asking_so a.from n a.number (session_of x) a.text l.letter (ap (λ (y : Letter). y.name) one ∙ (z.called ∙ ap (λ (b : Body). named (name_of b)) said)) l.sender (ap (λ (y : Letter). y.to) one ∙ z.to)
    (l.says_so ∙ ap (λ b. Some b) said))
cause_come i n v x ms from came a (inr k) ne = absurd (ne (ap (λ (z : Arrived). z.from) k.is))

-- ---- what is in hand

some_kept : (x y : Kept) → Some x ≡ Some y → x ≡ y
some_kept x y e = cc

same_slot : (a b : ℕ) → 1 ≤ a → 1 ≤ b → a - 1 ≡ b - 1 → a ≡ b
same_slot a b h k e = omega (arith, h, k, e)

module _ (n e : ℕ) (ms : List Moment) where
  pub hand_same : (s t : State) → t.arrived ≡ s.arrived → t.answers ≡ s.answers → HandOf n e ms s → HandOf n e ms t
  hand_same s t arrived answers h = record {
    arrived = subst (λ xs. AllByRecursion (λ (a : Arrived). a.from ≢ n → HasCome a.from n a.number e ms) xs) (sym arrived) h.arrived;
    kept = λ m k one other is. h.kept m k one other (sym (ap (λ os. kept_at os m) answers) ∙ is);
  }

  hand_goes : (C : Arrived → Type 0) (s t : State) → ((a : Arrived) → C a → a.from ≢ n → HasCome a.from n a.number e ms) → Stays_or_comes C s t → HandOf n e ms s → HandOf n e ms t
  hand_goes C s t cause (inl same) h = hand_same s t same.0 same.1 h
  hand_goes C s t cause (inr comes) h =
      hand_same (record s { arrived = s.arrived ++ comes.request ∷ [] }) t (ap (λ (z : State). z.arrived) comes.is) (ap (λ (z : State). z.answers) comes.is)
      (record { arrived = all_append (λ (a : Arrived). a.from ≢ n → HasCome a.from n a.number e ms) s.arrived comes.request h.arrived (λ other. cause comes.request comes.cause other); kept = h.kept })

  -- the first of them
  pub first_came : (s : State) (a : Arrived) → first_in s.arrived ≡ Some a → HandOf n e ms s → a.from ≢ n → HasCome a.from n a.number e ms
  first_came s a first h = by s.arrived first h.arrived
    where
      same_first : (x y : Arrived) → Some x ≡ Some y → x ≡ y
      same_first x y z = cc

      by : (xs : List Arrived) → first_in xs ≡ Some a → AllByRecursion (λ (b : Arrived). b.from ≢ n → HasCome b.from n b.number e ms) xs → a.from ≢ n → HasCome a.from n a.number e ms
      by [] z all = cc
      by (b ∷ rest) z all = subst (λ (y : Arrived). y.from ≢ n → HasCome y.from n y.number e ms) (same_first b a z) all.0

  -- .. is answered
  answered_kept : (s : State) (a : Arrived) (text : List ℕ) (answers : List (Option Kept)) → answers ≡ slice_set s.answers (a.from - 1) (Some (record { number = a.number; text = text })) → 1 ≤ a.from → a.from ≤ 32 → length s.answers ≡ 32
      → (a.from ≢ n → HasCome a.from n a.number e ms) → HandOf n e ms s → (m : ℕ) (k : Kept) → 1 ≤ m → m ≢ n → kept_at answers m ≡ Some k → HasCome m n k.number e ms
  answered_kept s a text answers is low high slots came h m k one other at = by (slot_or (m - 1) (a.from - 1))
    where
      found : kept_at (slice_set s.answers (a.from - 1) (Some (record { number = a.number; text = text }))) m ≡ Some k
      found = sym (ap (λ os. kept_at os m) is) ∙ at

      by : ((m - 1 ≡ a.from - 1) ⊎ (m - 1 ≢ a.from - 1)) → HasCome m n k.number e ms
      by (inl same) =
          let it : m ≡ a.from = same_slot m a.from one low same in
          let this : record { number = a.number; text = text } ≡ k = some_kept (record { number = a.number; text = text }) k (sym (slot_here s.answers a text m same low high slots) ∙ found) in
          subst (λ (z : Kept). HasCome m n z.number e ms) this (subst (λ z. HasCome z n a.number e ms) (sym it) (came (λ z. other (it ∙ z))))
      by (inr apart) = h.kept m k one other (sym (get_or-set_other s.answers (a.from - 1) (m - 1) (Some (record { number = a.number; text = text })) None apart) ∙ found)

  hand_answered : (s : State) (a : Arrived) (text : List ℕ) → first_in s.arrived ≡ Some a → Sound s → HandOf n e ms s → HandOf n e ms (answered s text)
  hand_answered s a text first sound h = by s.arrived refl first sound.later h.arrived
    where
      same_first : (x y : Arrived) → Some x ≡ Some y → x ≡ y
      same_first x y z = cc

      by : (xs : List Arrived) → s.arrived ≡ xs → first_in xs ≡ Some a → AllByRecursion (IsLater s.answers) xs → AllByRecursion (λ (b : Arrived). b.from ≢ n → HasCome b.from n b.number e ms) xs → HandOf n e ms (answer_first s xs text)
      by [] at z later all = cc
      by (b ∷ rest) at z later all =
          let same : b ≡ a = same_first b a z in
          let l : IsLater s.answers b = later.0 in
          record { arrived = all.1; kept = λ m k one other is. answered_kept s b text (answer_first s (b ∷ rest) text).answers refl l.low l.high sound.slots all.0 h m k one other is }

  -- ---- of a president

  pub office_goes : (C : Arrived → Type 0) (o p : Option Presidency) → ((a : Arrived) → C a → a.from ≢ n → HasCome a.from n a.number e ms) → OfBoth (Stays_or_comes C) o p → OfficeHas n e ms o → OfficeHas n e ms p
  office_goes C None None cause goes h = tt
  office_goes C (Some p) (Some q) cause goes h = hand_goes C p.proposals q.proposals cause goes h
  office_goes C None (Some q) cause goes h = absurd goes
  office_goes C (Some p) None cause goes h = absurd goes

  pub hand_answers : (C : Arrived → Type 0) (a : Arrived) (reply : Answer) (s t : State) → ((b : Arrived) → C b → b.from ≢ n → HasCome b.from n b.number e ms) → Answers C a reply s t → Sound s → HandOf n e ms s → HandOf n e ms t
  hand_answers C a reply s t cause goes sound h = hand_goes C _ t cause goes.then (hand_answered s a _ goes.first sound h)

  pub later_has : (o : Option Presidency) → OfficeHas n e ms o → OfficeHas n e ms (later_presidency o)
  later_has None h = tt
  later_has (Some p) h = record { arrived = h.arrived; kept = h.kept }
