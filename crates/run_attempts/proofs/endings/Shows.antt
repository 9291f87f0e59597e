-- What shows that an attempt is superseded: the Collect or the Nack that has just come.
use Rattle.std.specs.Prelude.{ℕ, ◌<◌, ◌≡◌, ◌≤◌, ◌⊎◌, ◌==◌, ◌&&◌, ◌||◌, nat_lt, Bool, true, false, List}
use Rattle.std.specs.List.{list_any}
use Rattle.std.proofs.Common.{refl, sym, ap, subst, ◌∙◌, arith, inl, inr}
use Rattle.cmm_attempt.proofs.Basics.{false_true, less}
use Rattle.history.specs.Attempts.{is_collect_of, is_nack, is_nack_of, is_own_nack, stands_against, stops_of}
use Rattle.history.specs.Letters.{Letter, is_letter, reached_since}
use Rattle.history.specs.Member.{number_of}
use Rattle.history.specs.Moment.{Moment}
use Rattle.history.specs.Names as name
use Rattle.history.specs.Names.{Name, same_name}
use Rattle.history.specs.Order.{since}
use Rattle.history.specs.Seizing.{is_attempt, is_boot, is_number}
use Rattle.history.specs.Setting.{coordinator}
use Rattle.wire.specs.declared.message.Body.TheVariants as body
use Rattle.run_attempts.specs.endings.Nacks.{HasBooted, IsMade, IsTried}
use Rattle.run_attempts.specs.endings.Sites.{Came}
use Rattle.run_attempts.proofs.endings.Ways.{itself, or_first, or_second}

and_both : (a b : Bool) → a ≡ true → b ≡ true → (a && b) ≡ true
and_both true b h k = k
and_both false b h k = absurd (false_true h)

lesser : (a b : ℕ) → a < b → nat_lt a b ≡ true
lesser a b h = grind arith

is_to : (called : Name) (l : Letter) (n e : ℕ) → same_name l.name called ≡ true → l.to ≡ n → coordinator e ≡ n → is_letter called l.from (coordinator e) l ≡ true
is_to called l n e same to own =
    and_both (same_name l.name called && (l.from == l.from)) (l.to == coordinator e) (and_both (same_name l.name called) (l.from == l.from) same (itself l.from l.from refl)) (itself l.to (coordinator e) (to ∙ sym own))

made_so : (ms : List Moment) (q : ℕ) → IsMade ms q → (list_any (is_attempt q) ms || list_any (stops_of (coordinator q)) ms) ≡ true
made_so ms q (inl tried) = or_first (list_any (is_attempt q) ms) (list_any (stops_of (coordinator q)) ms) tried
made_so ms q (inr stopped) = or_second (list_any (is_attempt q) ms) (list_any (stops_of (coordinator q)) ms) stopped

-- a greater number
greater : (ms : List Moment) (e q : ℕ) → e < q → IsMade ms q → reached_since (is_attempt e) (λ l. is_collect_of (coordinator e) q l || is_nack_of (coordinator e) e q l) ms ≡ true → stands_against e q ms ≡ true
greater ms e q less made near =
    or_first _ ((q == e) && reached_since (is_attempt e) (is_own_nack (coordinator e) e ms) ms)
    (and_both (nat_lt e q && (list_any (is_attempt q) ms || list_any (stops_of (coordinator q)) ms)) _ (and_both (nat_lt e q) _ (lesser e q less) (made_so ms q made)) near)

pub by_collect : (ms : List Moment) (n from e p members : ℕ) → Came ms n from (body.Collect p members) → coordinator e ≡ n → e < p → IsTried ms p → stands_against e p ms ≡ true
by_collect ms n from e p members h own less tried =
    greater ms e p less (inl tried) (h.near e (λ l. is_collect_of (coordinator e) p l || is_nack_of (coordinator e) e p l)
    (or_first (is_collect_of (coordinator e) p h.letter) (is_nack_of (coordinator e) e p h.letter)
    (and_both (is_letter name.Collect h.letter.from (coordinator e) h.letter) (is_number p (number_of h.letter))
    (is_to name.Collect h.letter n e (ap (λ z. same_name z name.Collect) h.called ∙ collect_same) h.receiver own) (ap (is_number p) h.numbered ∙ itself p p refl))))
  where
    collect_same : same_name name.Collect name.Collect ≡ true
    collect_same = refl

-- the Nack that has come is one to the coordinator of e
nack_here : (ms : List Moment) (n from e q : ℕ) → (h : Came ms n from (body.Nack e q)) → coordinator e ≡ n → is_nack_of (coordinator e) e q h.letter ≡ true
nack_here ms n from e q h own =
    and_both (is_letter name.Nack h.letter.from (coordinator e) h.letter) _
    (is_to name.Nack h.letter n e (ap (λ z. same_name z name.Nack) h.called ∙ nack_same) h.receiver own)
    (ap (is_nack e q) h.read ∙ and_both (e == e) (q == q) (itself e e refl) (itself q q refl))
  where
    nack_same : same_name name.Nack name.Nack ≡ true
    nack_same = refl

least_or : (e q : ℕ) → e ≤ q → (e < q) ⊎ (e ≡ q)
least_or e q h = by_test (nat_lt e q) refl
  where
    same : (a b : ℕ) → a ≤ b → nat_lt a b ≡ false → a ≡ b
    same a b most is = grind arith

    by_test : (t : Bool) → nat_lt e q ≡ t → (e < q) ⊎ (e ≡ q)
    by_test true is = inl (less e q is)
    by_test false is = inr (same e q h is)

some_above : (e q : ℕ) → e < q → 0 < q
some_above e q h = omega (arith, h)

-- .. or the own number
own_number : (ms : List Moment) (n from e q : ℕ) → Came ms n from (body.Nack e q) → coordinator e ≡ n → e ≡ q → HasBooted ms from e → stands_against e q ms ≡ true
own_number ms n from e q h own same booted =
    or_second _ ((q == e) && reached_since (is_attempt e) (is_own_nack (coordinator e) e ms) ms)
    (and_both (q == e) (reached_since (is_attempt e) (is_own_nack (coordinator e) e ms) ms) (itself q e (sym same)) (h.near e (is_own_nack (coordinator e) e ms)
    (and_both (is_nack_of (coordinator e) e e h.letter) (list_any (is_boot h.letter.from) (since (is_attempt e) ms))
    (subst (λ k. is_nack_of (coordinator e) e k h.letter ≡ true) (sym same) (nack_here ms n from e q h own))
    (subst (λ k. HasBooted ms k e) (sym h.sender) booted))))

pub by_nack : (ms : List Moment) (n from e q : ℕ) → Came ms n from (body.Nack e q) → coordinator e ≡ n → stands_against e q ms ≡ true
by_nack ms n from e q h own = by_number (least_or e q h.stands.most)
  where
    by_number : (e < q) ⊎ (e ≡ q) → stands_against e q ms ≡ true
    by_number (inl less) =
        greater ms e q less (h.stands.made (some_above e q less)) (h.near e (λ l. is_collect_of (coordinator e) q l || is_nack_of (coordinator e) e q l)
        (or_second (is_collect_of (coordinator e) q h.letter) (is_nack_of (coordinator e) e q h.letter) (nack_here ms n from e q h own)))
    by_number (inr same) = own_number ms n from e q h own same (h.stands.booted same)
