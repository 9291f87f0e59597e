-- One number's story, as an epoch and its coordinator change.
use Rattle.std.specs.Prelude.{ℕ, ◌+◌, ◌≡◌, ◌≢◌, ◌<◌, ◌≤◌, ◌⊎◌, ◌++◌, Bool, true, false, List, [], ◌∷◌, length}
use Rattle.std.proofs.Common.{refl, sym, ap, ◌∙◌, arith, inl, inr}
use Rattle.std.proofs.lemmas.List.{append-nil, append_assoc, length-append}
use Rattle.membership_machine.specs.State.{Epoch}
use Rattle.membership_machine.specs.Steps.{acknowledging, beginning, proposing, starting}
use Rattle.run_history.specs.Book.{Story, Tells}

pub false_true : false ≡ true → ⊥
false_true h = cc

-- nothing has started, and no line tells of it
pub fresh : (e : Epoch) (q s : ℕ) (b : Bool) (t : Story) → e.started ≡ false → e.log ≡ e.base → (t.acked ≡ []) × (t.proposed ≡ []) → (t.started ≡ true → ⊥)
    → (b ≡ true → s ≡ q → ⊥) → Tells e q s b t
fresh e q s b t not log silent line sits = record {
  log = log ∙ (sym (append-nil e.base) ∙ ap (λ xs. e.base ++ xs) (sym silent.1));
  low = λ h. absurd (false_true (sym not ∙ h));
  one = λ h. absurd (false_true (sym not ∙ h));
  silent = λ h. silent;
  exact = λ h k. absurd (sits h k);
  lined = λ h. absurd (false_true (sym not ∙ h));
  line = λ h. absurd (line h);
}

-- the coordinator is in another session now, or in none, and is no member of q's
pub moved : (e : Epoch) (q s : ℕ) (b : Bool) (t : Story) (r : ℕ) (k : Bool) → (k ≡ true → r ≡ q → ⊥) → (e.started ≡ true → r ≢ q) → Tells e q s b t → Tells e q r k t
moved e q s b t r k out other h = record {
  log = h.log;
  low = h.low;
  one = h.one;
  silent = h.silent;
  exact = λ m is. absurd (out m is);
  lined = λ m. go m (h.lined m);
  line = h.line;
}
  where
    go : e.started ≡ true → (t.started ≡ true) ⊎ ((t.proposed ≡ []) × (s ≢ q)) → (t.started ≡ true) ⊎ ((t.proposed ≡ []) × (r ≢ q))
    go m (inl l) = inl l
    go m (inr l) = inr (l.0, other m)

-- it is in the same session, and is no member of q's
pub seated : (e : Epoch) (q s : ℕ) (b : Bool) (t : Story) (k : Bool) → (k ≡ true → s ≡ q → ⊥) → Tells e q s b t → Tells e q s k t
seated e q s b t k out h = record {
  log = h.log;
  low = h.low;
  one = h.one;
  silent = h.silent;
  exact = λ m is. absurd (out m is);
  lined = h.lined;
  line = h.line;
}

-- it starts: its line has its base
pub start_told : (e : Epoch) (q s : ℕ) (b : Bool) (t : Story) (k : Bool) (u : Story) → e.started ≡ false → e.log ≡ e.base → Tells e q s b t
    → u.started ≡ true → u.base ≡ e.base → u.proposed ≡ t.proposed → u.acked ≡ t.acked → Tells (starting e) q s k u
start_told e q s b t k u not log h started base proposed acked =
    let none : (u.acked ≡ []) × (u.proposed ≡ []) = (acked ∙ (h.silent not).0, proposed ∙ (h.silent not).1) in
    let zero_acked : length u.acked ≡ 0 = ap length none.0 in
    record {
      log = log ∙ (sym (append-nil e.base) ∙ ap (λ xs. e.base ++ xs) (sym none.1));
      low = λ m. omega (arith, zero_acked);
      one = λ m. omega (arith, zero_acked, ap length log);
      silent = λ m. none;
      exact = λ m is. omega (arith, zero_acked);
      lined = λ m. inl started;
      line = λ m. (refl, base);
    }

-- it starts, and its coordinator goes down in the save
pub start_unlined : (e : Epoch) (q s : ℕ) (b : Bool) (t : Story) → 0 < q → e.started ≡ false → e.log ≡ e.base → Tells e q s b t → Tells (starting e) q 0 false t
start_unlined e q s b t low not log h =
    let none : (t.acked ≡ []) × (t.proposed ≡ []) = h.silent not in
    let zero_acked : length t.acked ≡ 0 = ap length none.0 in
    record {
      log = log ∙ (sym (append-nil e.base) ∙ ap (λ xs. e.base ++ xs) (sym none.1));
      low = λ m. omega (arith, zero_acked);
      one = λ m. omega (arith, zero_acked, ap length log);
      silent = λ m. none;
      exact = λ m is. absurd (false_true m);
      lined = λ m. inr (none.1, λ is. above low is);
      line = λ m. absurd (false_true (sym not ∙ (h.line m).0));
    }
  where
    above : 0 < q → 0 ≡ q → ⊥
    above l is = grind arith

-- an attempt is begun with it
pub begun : (e : Epoch) (members : ℕ → Bool) (q s : ℕ) (b : Bool) (t : Story) → Tells e q s b t → Tells (beginning e members) q s b t
begun e members q s b t h = record { log = h.log; low = h.low; one = h.one; silent = h.silent; exact = h.exact; lined = h.lined; line = h.line }

one_longer : (xs : List (List ℕ)) (w : List ℕ) → length (xs ++ w ∷ []) ≡ length xs + 1
one_longer xs w = length-append xs (w ∷ [])

pub true_false : true ≡ false → ⊥
true_false h = cc

-- where its coordinator is a member of it, it has its line
pub has_line : (e : Epoch) (q s : ℕ) (b : Bool) (t : Story) → e.started ≡ true → s ≡ q → Tells e q s b t → t.started ≡ true
has_line e q s b t started here h = go (h.lined started)
  where
    go : (t.started ≡ true) ⊎ ((t.proposed ≡ []) × (s ≢ q)) → t.started ≡ true
    go (inl l) = l
    go (inr l) = absurd (l.1 here)

joined_more : (whole base more : List (List ℕ)) (w : List ℕ) → whole ≡ base ++ more → whole ++ w ∷ [] ≡ base ++ (more ++ w ∷ [])
joined_more whole base more w h = ap (λ xs. xs ++ w ∷ []) h ∙ append_assoc base more (w ∷ [])

-- its president, which has nothing pending, proposes an update
pub propose_told : (e : Epoch) (q s : ℕ) (b : Bool) (t u : Story) (w : List ℕ) → e.started ≡ true → b ≡ true → s ≡ q → length e.log ≡ e.acked → Tells e q s b t
    → u.started ≡ t.started → u.base ≡ t.base → u.proposed ≡ t.proposed ++ w ∷ [] → u.acked ≡ t.acked → Tells (proposing e w) q s b u
propose_told e q s b t u w started member here all h same base proposed acked =
    let exact : e.acked ≡ length e.base + length t.acked = h.exact member here in
    let count : length u.acked ≡ length t.acked = ap length acked in
    let more : length (e.log ++ w ∷ []) ≡ length e.log + 1 = one_longer e.log w in
    record {
      log = joined_more e.log e.base t.proposed w h.log ∙ ap (λ xs. e.base ++ xs) (sym proposed);
      low = λ m. omega (arith, exact, count);
      one = λ m. omega (arith, exact, count, more, all);
      silent = λ m. absurd (true_false (sym started ∙ m));
      exact = λ m is. omega (arith, exact, count);
      lined = λ m. inl (same ∙ has_line e q s b t started here h);
      line = λ m. (started, base ∙ (h.line (sym same ∙ m)).1);
    }

-- it acknowledges what it had pending
pub ack_told : (e : Epoch) (q s : ℕ) (b : Bool) (t u : Story) (w : List ℕ) → e.started ≡ true → b ≡ true → s ≡ q → length e.log ≡ e.acked + 1 → Tells e q s b t
    → u.started ≡ t.started → u.base ≡ t.base → u.proposed ≡ t.proposed → u.acked ≡ t.acked ++ w ∷ [] → Tells (acknowledging e) q s b u
ack_told e q s b t u w started member here all h same base proposed acked =
    let exact : e.acked ≡ length e.base + length t.acked = h.exact member here in
    let count : length u.acked ≡ length t.acked + 1 = ap length acked ∙ one_longer t.acked w in
    record {
      log = h.log ∙ ap (λ xs. e.base ++ xs) (sym proposed);
      low = λ m. omega (arith, exact, count, all);
      one = λ m. omega (arith, exact, count, all);
      silent = λ m. absurd (true_false (sym started ∙ m));
      exact = λ m is. omega (arith, exact, count, all);
      lined = λ m. inl (same ∙ has_line e q s b t started here h);
      line = λ m. (started, base ∙ (h.line (sym same ∙ m)).1);
    }

-- .. and goes down in the save
pub ack_unlined : (e : Epoch) (q s : ℕ) (b : Bool) (t : Story) → e.started ≡ true → s ≡ q → e.acked ≤ length e.log → Tells e q s b t → Tells (acknowledging e) q 0 false t
ack_unlined e q s b t started here within h = record {
  log = h.log;
  low = λ m. omega (arith, h.low m);
  one = h.one;
  silent = h.silent;
  exact = λ m is. absurd (false_true m);
  lined = λ m. inl (has_line e q s b t started here h);
  line = h.line;
}
