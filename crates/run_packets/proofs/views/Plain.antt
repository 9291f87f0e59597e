-- Where no packet is foreign each packet counts.
use Rattle.std.specs.Prelude.{ℕ, ◌+◌, ◌≡◌, ◌≤◌, ◌==◌, ◌&&◌, ◌||◌, not, Bool, true, false, if◌then◌else◌, List, [], ◌∷◌, Option, None, Some, option_map, IfSome}
use Rattle.std.specs.List.{AllByRecursion, filter}
use Rattle.std.proofs.Common.{refl, ap, subst, ◌∙◌}
use Rattle.cl_base.specs.Limits.{most_nodes}
use Rattle.history.specs.Attempts.{age_of, before_tick, configured_for, is_recent, sees}
use Rattle.history.specs.Moment.{Moment, Told}
use Rattle.history.specs.Order.{Always}
use Rattle.history.specs.Setting.{Setting, all_to, coordinator, nodes_of}
use Rattle.status_report.specs.declared.attempt_entry.AttemptEntry.TheVariants as attempt
use Rattle.status_report.specs.declared.entry.Entry.TheVariants as entry
use Rattle.status_report.specs.declared.node_entry.NodeEntry.TheVariants as note
use Rattle.status_report.specs.declared.packet_entry.PacketEntry.TheVariants as packet
use Rattle.run_packets.specs.views.Laws.{HasView, IsViewOf, PlainViewIs, ViewIs, heard_age_of, sees_by}
use Rattle.run_packets.proofs.views.Lists.{cut_at}

counted : (a b : Bool) → (a && b && not false) ≡ (a && b)
counted true true = refl
counted true false = refl
counted false b = refl

same_age : (c m : ℕ) (ms : List Moment) → heard_age_of (λ before. false) c m ms ≡ age_of c m ms
same_age c m [] = refl
same_age c m (Told (entry.Node n note.Up) ∷ before) = ap (λ (o : Option ℕ). if n == c then None else o) (same_age c m before)
same_age c m (Told (entry.Node n note.Ticked) ∷ before) = ap (λ (o : Option ℕ). if n == c then option_map (λ k. k + 1) o else o) (same_age c m before)
same_age c m (Told (entry.Packet (packet.Delivered p a b)) ∷ before) =
    ap (λ t. if t then Some 0 else heard_age_of (λ moments. false) c m before) (counted (a == m) (b == c)) ∙ ap (λ (o : Option ℕ). if (a == m) && (b == c) then Some 0 else o) (same_age c m before)
same_age c m (_ ∷ before) = same_age c m before

same_sees : (configured : ℕ → Bool) (c : ℕ) (ms : List Moment) (m : ℕ) → sees_by (λ before. false) configured c ms m ≡ sees configured c ms m
same_sees configured c ms m = ap (λ (o : Option ℕ). (m == c) || (is_recent o && (configured m || not (configured c)))) (same_age c m ms)

-- two tests that agree
agreeing : (P Q : ℕ → Bool) (ns : List ℕ) → ((m : ℕ) → P m ≡ Q m) → filter P ns ≡ filter Q ns
agreeing P Q [] h = refl
agreeing P Q (n ∷ ns) h =
    ap (λ t. if t then n ∷ filter P ns else filter P ns) (h n) ∙ ap (λ (ms : List ℕ). if Q n then n ∷ ms else ms) (agreeing P Q ns h)

is_view : (S : Setting) (before : List Moment) (c members : ℕ) (configured : ℕ → Bool) → HasView (λ ms. false) before c members configured → IsViewOf S before c members configured
is_view S before c members configured h =
    let so : nodes_of members ≡ filter (sees configured c before) (all_to most_nodes) =
    h ∙ agreeing (sees_by (λ ms. false) configured c before) (sees configured c before) (all_to most_nodes) (λ m. same_sees configured c before m) in
    record {
      view = so;
      of_header = λ all few. so ∙ cut_at (sees configured c before) S.header.nodes most_nodes few (subst (AllByRecursion (λ m. m ≤ S.header.nodes)) so all);
    }

if_some_with : (o : Option (ℕ → Bool)) (P Q : (ℕ → Bool) → Type 0) → ((test : ℕ → Bool) → P test → Q test) → IfSome o P → IfSome o Q
if_some_with None P Q f h = tt
if_some_with (Some test) P Q f h = f test h

plain_here : (S : Setting) (before : List Moment) (x : Moment) → ViewIs S (λ ms. false) before x → PlainViewIs S before x
plain_here S before (Told (entry.Attempt (attempt.Begun e members))) h =
    if_some_with (configured_for S (coordinator e) (before_tick (coordinator e) before)) (HasView (λ ms. false) before (coordinator e) members) (IsViewOf S before (coordinator e) members)
    (λ test view. is_view S before (coordinator e) members test view) h
plain_here S before _ h = tt

pub all_plain : (S : Setting) (ms : List Moment) → Always (ViewIs S (λ before. false)) ms → Always (PlainViewIs S) ms
all_plain S [] h = tt
all_plain S (x ∷ before) h = (plain_here S before x h.0, all_plain S before h.1)
