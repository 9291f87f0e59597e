-- The attempt that is under way is that of its coordinator; the lines of one node leave those of the others.
use Rattle.std.specs.Prelude.{ℕ, ◌+◌, ◌≡◌, ◌≢◌, ◌==◌, ◌&&◌, ◌||◌, not, Bool, true, false, List, [], ◌∷◌, Option, None, Some, if◌then◌else◌}
use Rattle.std.specs.List.{list_any}
use Rattle.std.proofs.Common.{refl, sym, ap, ◌∙◌, arith}
use Rattle.cmm_attempt.proofs.Basics.{false_true, none_some, same_number, same_some}
use Rattle.history.specs.Member.{attempt_of}
use Rattle.history.specs.Moment.{Moment, Told}
use Rattle.history.specs.Order.{since}
use Rattle.history.specs.Seizing.{is_attempt, is_number}
use Rattle.history.specs.Setting.{coordinator}
use Rattle.history.specs.Trace.{attempt, down, ended_excluded, ended_foreign, ended_silent, ended_superseded, ended_votes, start}
use Rattle.history.specs.UnderWay.{is_over, is_under_way}
use Rattle.run_history.proofs.Idle.{if_false}
use Rattle.status_report.specs.declared.attempt_entry.AttemptEntry.TheVariants as attempt_entry
use Rattle.status_report.specs.declared.entry.Entry.{Entry}
use Rattle.status_report.specs.declared.entry.Entry.TheVariants as entry
use Rattle.status_report.specs.declared.node_entry.NodeEntry.TheVariants as note
use Rattle.status_report.specs.declared.start_entry.StartEntry.TheVariants as start_entry
use Rattle.run_attempts.specs.endings.Laws.{ticks_of}
use Rattle.run_attempts.specs.endings.Nacks.{IsTried}
use Rattle.run_attempts.specs.endings.Ways.{IsOwn, way_of, without}

pub apart : (a b : ℕ) → a ≢ b → (a == b) ≡ false
apart a b ne = grind arith

pub itself : (a b : ℕ) → a ≡ b → (a == b) ≡ true
itself a b e = grind arith

pub or_second : (b c : Bool) → c ≡ true → (b || c) ≡ true
or_second true c h = refl
or_second false c h = h

pub or_first : (b c : Bool) → b ≡ true → (b || c) ≡ true
or_first true c h = refl
or_first false c h = absurd (false_true h)

-- ---- what is over

three : (k f e : ℕ) → (f == e) ≡ true → (k == f) ≡ false → (k == e) ≡ false
three k f e same other = grind arith

and_none : (b : Bool) → (b && false) ≡ false
and_none true = refl
and_none false = refl

and_all : (b : Bool) → (b && true) ≡ b
and_all true = refl
and_all false = refl

without_same : (e f : ℕ) (w : Option ℕ) → (f == e) ≡ true → is_number e (without f w) ≡ false
without_same e f None same = refl
without_same e f (Some k) same = by_test (k == f) refl
  where
    by_test : (t : Bool) → (k == f) ≡ t → is_number e (if t then None else Some k) ≡ false
    by_test true is = refl
    by_test false is = three k f e same is

not_both : (k f e : ℕ) → (f == e) ≡ false → (k == f) ≡ true → (k == e) ≡ false
not_both k f e other same = grind arith

without_other : (e f : ℕ) (w : Option ℕ) → (f == e) ≡ false → is_number e (without f w) ≡ is_number e w
without_other e f None other = refl
without_other e f (Some k) other = by_test (k == f) refl
  where
    by_test : (t : Bool) → (k == f) ≡ t → is_number e (if t then None else Some k) ≡ (k == e)
    by_test true is = sym (not_both k f e other is)
    by_test false is = refl

ended_so : (e f : ℕ) (a r : Bool) (w : Option ℕ) → (a && not r) ≡ is_number e w → (a && not ((f == e) || r)) ≡ is_number e (without f w)
ended_so e f a r w h = by_test (f == e) refl
  where
    by_test : (t : Bool) → (f == e) ≡ t → (a && not (t || r)) ≡ is_number e (without f w)
    by_test true is = and_none a ∙ sym (without_same e f w is)
    by_test false is = h ∙ sym (without_other e f w is)

down_so : (e : ℕ) (t a r : Bool) (w : Option ℕ) → (a && not r) ≡ is_number e w → (a && not (t || r)) ≡ is_number e (if t then None else w)
down_so e true a r w h = and_none a
down_so e false a r w h = h

begun_so : (e f members : ℕ) (ms : List Moment) (t u : Bool) → (f == e) ≡ t → (coordinator f == coordinator e) ≡ u → is_under_way e ms ≡ is_number e (way_of (coordinator e) ms)
    → (is_number e (if u then Some f else attempt_of (coordinator e) ms) && not (list_any (is_over e) (if t then [] else attempt f members ∷ since (is_attempt e) ms)))
    ≡ is_number e (if u then Some f else way_of (coordinator e) ms)
begun_so e f members ms true true is here h = and_all (f == e)
begun_so e f members ms true false is here h = absurd (false_true (sym here ∙ itself (coordinator f) (coordinator e) (ap coordinator (same_number f e is))))
begun_so e f members ms false true is here h = ap (λ b. b && not (list_any (is_over e) (attempt f members ∷ since (is_attempt e) ms))) is ∙ sym is
begun_so e f members ms false false is here h = h

pub under_way_so : (e : ℕ) (ms : List Moment) → is_under_way e ms ≡ is_number e (way_of (coordinator e) ms)
under_way_so e [] = refl
under_way_so e (attempt f members ∷ ms) = begun_so e f members ms (f == e) (coordinator f == coordinator e) refl refl (under_way_so e ms)
under_way_so e (ended_votes f have need lacking ∷ ms) = ended_so e f (is_number e (attempt_of (coordinator e) ms)) (list_any (is_over e) (since (is_attempt e) ms)) (way_of (coordinator e) ms) (under_way_so e ms)
under_way_so e (ended_superseded f q ∷ ms) = ended_so e f (is_number e (attempt_of (coordinator e) ms)) (list_any (is_over e) (since (is_attempt e) ms)) (way_of (coordinator e) ms) (under_way_so e ms)
under_way_so e (ended_silent f m ∷ ms) = ended_so e f (is_number e (attempt_of (coordinator e) ms)) (list_any (is_over e) (since (is_attempt e) ms)) (way_of (coordinator e) ms) (under_way_so e ms)
under_way_so e (ended_excluded f m ∷ ms) = ended_so e f (is_number e (attempt_of (coordinator e) ms)) (list_any (is_over e) (since (is_attempt e) ms)) (way_of (coordinator e) ms) (under_way_so e ms)
under_way_so e (ended_foreign f m ∷ ms) = ended_so e f (is_number e (attempt_of (coordinator e) ms)) (list_any (is_over e) (since (is_attempt e) ms)) (way_of (coordinator e) ms) (under_way_so e ms)
under_way_so e (start f members held count ∷ ms) = ended_so e f (is_number e (attempt_of (coordinator e) ms)) (list_any (is_over e) (since (is_attempt e) ms)) (way_of (coordinator e) ms) (under_way_so e ms)
under_way_so e (down m why ∷ ms) = down_so e (m == coordinator e) (is_number e (attempt_of (coordinator e) ms)) (list_any (is_over e) (since (is_attempt e) ms)) (way_of (coordinator e) ms) (under_way_so e ms)
under_way_so e (_ ∷ ms) = under_way_so e ms

-- where it is the node's, it is under way
pub is_on : (n e : ℕ) (ms : List Moment) → coordinator e ≡ n → way_of n ms ≡ Some e → is_under_way e ms ≡ true
is_on n e ms own is = under_way_so e ms ∙ (ap (λ k. is_number e (way_of k ms)) own ∙ (ap (is_number e) is ∙ itself e e refl))

-- ---- it has its line

without_some : (e f : ℕ) (w : Option ℕ) → without f w ≡ Some e → w ≡ Some e
without_some e f w = by_test (is_number f w)
  where
    by_test : (t : Bool) → (if t then None else w) ≡ Some e → w ≡ Some e
    by_test true is = absurd (none_some e is)
    by_test false is = is

pub way_tried : (n e : ℕ) (ms : List Moment) → way_of n ms ≡ Some e → IsTried ms e
way_tried n e [] is = absurd (none_some e is)
way_tried n e (attempt f members ∷ ms) is = by_test (λ at. way_tried n e ms at) (coordinator f == n) is
  where
    by_test : (way_of n ms ≡ Some e → IsTried ms e) → (t : Bool) → (if t then Some f else way_of n ms) ≡ Some e → ((f == e) || list_any (is_attempt e) ms) ≡ true
    by_test rest true is = or_first (f == e) (list_any (is_attempt e) ms) (itself f e (same_some f e is))
    by_test rest false is = or_second (f == e) (list_any (is_attempt e) ms) (rest is)
way_tried n e (ended_votes f have need lacking ∷ ms) is = way_tried n e ms (without_some e f (way_of n ms) is)
way_tried n e (ended_superseded f q ∷ ms) is = way_tried n e ms (without_some e f (way_of n ms) is)
way_tried n e (ended_silent f m ∷ ms) is = way_tried n e ms (without_some e f (way_of n ms) is)
way_tried n e (ended_excluded f m ∷ ms) is = way_tried n e ms (without_some e f (way_of n ms) is)
way_tried n e (ended_foreign f m ∷ ms) is = way_tried n e ms (without_some e f (way_of n ms) is)
way_tried n e (start f members held count ∷ ms) is = way_tried n e ms (without_some e f (way_of n ms) is)
way_tried n e (down m why ∷ ms) is = by_test (λ at. way_tried n e ms at) (m == n) is
  where
    by_test : (way_of n ms ≡ Some e → IsTried ms e) → (t : Bool) → (if t then None else way_of n ms) ≡ Some e → IsTried ms e
    by_test rest true is = absurd (none_some e is)
    by_test rest false is = rest is
way_tried n e (_ ∷ ms) is = way_tried n e ms is

-- ---- lines of node n, and those that tell nothing of attempts

abbrev pub IsOwnLine : ℕ → Entry → Type 0
IsOwnLine n (entry.Attempt (attempt_entry.Begun e members)) = coordinator e ≡ n
IsOwnLine n (entry.Attempt (attempt_entry.Votes e have need lacking)) = coordinator e ≡ n
IsOwnLine n (entry.Attempt (attempt_entry.Superseded e q)) = coordinator e ≡ n
IsOwnLine n (entry.Attempt (attempt_entry.Silent e m)) = coordinator e ≡ n
IsOwnLine n (entry.Attempt (attempt_entry.Foreign e m)) = coordinator e ≡ n
IsOwnLine n (entry.Attempt (attempt_entry.Excluded e m)) = coordinator e ≡ n
IsOwnLine n (entry.Start (start_entry.Started e members held count)) = coordinator e ≡ n
IsOwnLine n (entry.Node m (note.Down why)) = m ≡ n
IsOwnLine n (entry.Node m note.Ticked) = m ≡ n
IsOwnLine n _ = Unit {0}

of_another : (k n e f : ℕ) → k ≢ n → coordinator e ≡ n → coordinator f ≡ k → (f == e) ≡ false
of_another k n e f ne own other = apart f e (λ same. ne (sym other ∙ (ap coordinator same ∙ own)))

others_end : (k n e : ℕ) (w : Option ℕ) → k ≢ n → coordinator e ≡ n → IsOwn k w → without e w ≡ w
others_end k n e None ne own h = refl
others_end k n e (Some f) ne own h = if_false (f == e) None (Some f) (of_another k n e f ne own h)

pub others_stay : (n k : ℕ) (e : Entry) (ms : List Moment) → k ≢ n → IsOwnLine n e → IsOwn k (way_of k ms) → way_of k (Told e ∷ ms) ≡ way_of k ms
others_stay n k (entry.Attempt (attempt_entry.Begun e members)) ms ne own h =
    if_false (coordinator e == k) (Some e) (way_of k ms) (apart (coordinator e) k (λ same. ne (sym same ∙ own)))
others_stay n k (entry.Attempt (attempt_entry.Votes e have need lacking)) ms ne own h = others_end k n e (way_of k ms) ne own h
others_stay n k (entry.Attempt (attempt_entry.Superseded e q)) ms ne own h = others_end k n e (way_of k ms) ne own h
others_stay n k (entry.Attempt (attempt_entry.Silent e m)) ms ne own h = others_end k n e (way_of k ms) ne own h
others_stay n k (entry.Attempt (attempt_entry.Foreign e m)) ms ne own h = others_end k n e (way_of k ms) ne own h
others_stay n k (entry.Attempt (attempt_entry.Excluded e m)) ms ne own h = others_end k n e (way_of k ms) ne own h
others_stay n k (entry.Start (start_entry.Started e members held count)) ms ne own h = others_end k n e (way_of k ms) ne own h
others_stay n k (entry.Node m (note.Down why)) ms ne own h = if_false (m == k) None (way_of k ms) (apart m k (λ same. ne (sym same ∙ own)))
others_stay n k _ ms ne own h = refl

-- the attempt that ends is the one under way
pub ended_none : (e : ℕ) (w : Option ℕ) → w ≡ Some e → without e w ≡ None
ended_none e w is = ap (without e) is ∙ by_test (e == e) (itself e e refl)
  where
    by_test : (t : Bool) → t ≡ true → (if t then None else Some e) ≡ None
    by_test true k = refl
    by_test false k = absurd (false_true k)

-- ---- another node's attempt

pub others_tick : (n k e : ℕ) (x : Entry) (ms : List Moment) → k ≢ n → coordinator e ≡ k → IsOwnLine n x → ticks_of e (Told x ∷ ms) ≡ ticks_of e ms
others_tick n k e (entry.Node m note.Ticked) ms ne own line = if_false (m == coordinator e) (ticks_of e ms + 1) (ticks_of e ms) (apart m (coordinator e) (λ same. ne (sym own ∙ (sym same ∙ line))))
others_tick n k e (entry.Attempt (attempt_entry.Begun f members)) ms ne own line = if_false (f == e) 0 (ticks_of e ms) (apart f e (λ same. ne (sym own ∙ (sym (ap coordinator same) ∙ line))))
others_tick n k e _ ms ne own line = refl
