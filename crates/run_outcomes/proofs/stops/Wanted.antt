-- Where a node is to begin an attempt it wants one, by all lines that tell nothing more of it.
use Rattle.std.specs.Prelude.{ℕ, ◌≡◌, ◌==◌, ◌&&◌, ◌||◌, not, Bool, true, false, List, [], ◌∷◌, Option, None, Some, filter, slice_get, IfSome, if◌then◌else◌}
use Rattle.std.specs.List.{list_any}
use Rattle.std.proofs.Common.{refl, sym, ap, subst, ◌∙◌, arith}
use Rattle.history.specs.Attempts.{breaks, configured_for, configured_in, has_reason, is_recent, last_heartbeat, sees, set_of, view_of}
use Rattle.history.specs.Member.{member_of, members_of}
use Rattle.history.specs.Moment.{Moment}
use Rattle.history.specs.Saves.{wants}
use Rattle.history.specs.Seizing.{is_number}
use Rattle.history.specs.Setting.{Setting, all_to, nodes_of}
use Rattle.run_outcomes.specs.stops.Known.{IsLed, StillOn, Wants}

-- ---- lists

-- two tests that agree
pub agreeing : (P Q : ℕ → Bool) (ns : List ℕ) → ((m : ℕ) → P m ≡ Q m) → filter P ns ≡ filter Q ns
agreeing P Q [] h = refl
agreeing P Q (n ∷ ns) h =
    ap (λ t. if t then n ∷ filter P ns else filter P ns) (h n) ∙ ap (λ (ms : List ℕ). if Q n then n ∷ ms else ms) (agreeing P Q ns h)

any_agreeing : (P Q : ℕ → Bool) (ns : List ℕ) → ((m : ℕ) → P m ≡ Q m) → list_any P ns ≡ list_any Q ns
any_agreeing P Q [] h = refl
any_agreeing P Q (n ∷ ns) h = ap (λ t. t || list_any P ns) (h n) ∙ ap (λ t. Q n || t) (any_agreeing P Q ns h)

-- ---- the reason

pub same_reason : (n members : ℕ) (a b : List Moment) (o : Option ℕ) → ((e : ℕ) → members_of e a ≡ members_of e b) → ((m : ℕ) → last_heartbeat n m a ≡ last_heartbeat n m b)
    → has_reason n members a o ≡ has_reason n members b o
same_reason n members a b None h k = refl
same_reason n members a b (Some e) h k =
    ap (λ set. not (set == members) || list_any (λ m. not (m == n) && breaks e (last_heartbeat n m a)) (nodes_of set)) (h e)
    ∙ ap (λ t. not (members_of e b == members) || t)
    (any_agreeing (λ m. not (m == n) && breaks e (last_heartbeat n m a)) (λ m. not (m == n) && breaks e (last_heartbeat n m b)) (nodes_of (members_of e b)) (λ m. ap (λ o. not (m == n) && breaks e o) (k m)))

-- ---- the view

both_so : (a b : Bool) → a ≡ true → b ≡ true → (a && b) ≡ true
both_so true true h k = refl
both_so true false h k = cc
both_so false b h k = cc

same_self : (n : ℕ) → (n == n) ≡ true
same_self n = grind arith

-- it sees the same, where the lines go on
view_is : (nodes n members : ℕ) (conf : ℕ → Bool) (base ms : List Moment) → nodes_of members ≡ view_of nodes conf n base → StillOn n base ms → view_of nodes conf n ms ≡ nodes_of members
view_is nodes n members conf base ms view still =
    agreeing (sees conf n ms) (sees conf n base) (all_to nodes) (λ m. ap (λ o. (m == n) || (is_recent o && (conf m || not (conf n)))) ((still.alike.heard n).ages m)) ∙ sym view

-- ---- together

pub led_wants : (S : Setting) (n members : ℕ) (base : List Moment) → set_of (nodes_of members) ≡ members → IsLed S n members base → Wants S n base
led_wants S n members base set led ms still =
    subst (λ o. wants S n ms o ≡ true) (sym (ap (λ r. configured_in S S.header.version r) still.kept)) (by_conf (configured_for S n base) led.view)
  where
    reason : has_reason n (set_of (nodes_of members)) ms (member_of n ms) ≡ true
    reason =
        subst (λ k. has_reason n k ms (member_of n ms) ≡ true) (sym set)
        (subst (λ o. has_reason n members ms o ≡ true) (sym still.seat) (same_reason n members ms base (member_of n base) still.members (λ m. (still.alike.heard n).beats m) ∙ led.reason))

    first : is_number n (slice_get (nodes_of members) 0) ≡ true
    first = subst (λ o. is_number n o ≡ true) (sym led.least) (same_self n)

    by_conf : (o : Option (ℕ → Bool)) → IfSome o (λ conf. nodes_of members ≡ view_of S.header.nodes conf n base) → wants S n ms o ≡ true
    by_conf None view = refl
    by_conf (Some conf) view =
        subst (λ v. (is_number n (slice_get v 0) && has_reason n (set_of v) ms (member_of n ms)) ≡ true) (sym (view_is S.header.nodes n members conf base ms view still))
        (both_so (is_number n (slice_get (nodes_of members) 0)) (has_reason n (set_of (nodes_of members)) ms (member_of n ms)) first reason)
