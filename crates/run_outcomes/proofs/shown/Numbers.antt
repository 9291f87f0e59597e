-- No more packets are numbered than there are lines, so one number more is left where these are few.
use Rattle.std.specs.Prelude.{ℕ, suc, ◌+◌, ◌^◌, ◌≡◌, ◌<◌, ◌≤◌, nat_lt, true, List, [], ◌∷◌, None, Option, Some, length}
use Rattle.std.proofs.Common.{refl, subst, sym, arith}
use Rattle.cl_base.specs.declared.header.Header.{Header}
use Rattle.cl_base.specs.declared.packet.DropCause.TheVariants.{Down}
use Rattle.history.specs.Links.{links_after}
use Rattle.history.specs.Moment.{Moment}
use Rattle.history.specs.Trace.{delivered, dropped, lost, repeated, sent}
use Rattle.cmm_attempt.proofs.Basics.{if_either}
use Rattle.cl_base.specs.Limits.{most_packets}
use Rattle.interconnect.specs.Links as net
use Rattle.interconnect.specs.Links.{Links, Packet, appending, count_on, crowding, dropping, oldest_on, packet_of, refusing, resending, sending}
use Rattle.run_history.proofs.LinksRun.{links_of_each_run}
use Rattle.run_history.specs.Happenings.{Happening, MayAllHappen, all_happened}
use Rattle.run_history.specs.Scenes.{Scene, first_scene}
use Rattle.world_model.specs.First.{first_cluster}
use Rattle.run_outcomes.proofs.shown.Pays.{IsLeft}

dropping_next : (l : Links) (number : ℕ) (o : Option ℕ) → (dropping l number o).after.next ≡ l.next
dropping_next l number None = refl
dropping_next l number (Some oldest) = refl

crowding_next : (l : Links) (number from to : ℕ) → (crowding l number from to).after.next ≡ l.next
crowding_next l number from to =
    if_either (λ (o : net.Outcome). o.after.next ≡ l.next) (nat_lt most_packets (count_on l.packets from to)) (dropping l number (oldest_on l.packets from to)) _
    (dropping_next l number (oldest_on l.packets from to)) refl

sending_next : (l : Links) (from to : ℕ) (bytes : List ℕ) → (sending l from to bytes).after.next ≡ l.next + 1
sending_next l from to bytes =
    if_either (λ (o : net.Outcome). o.after.next ≡ l.next + 1) _ (refusing l) (crowding (appending l from to bytes) l.next from to) refl (crowding_next (appending l from to bytes) l.next from to)

one_more : (a b l k : ℕ) → a ≡ b + 1 → k ≡ suc l → b ≤ l + 1 → a ≤ k + 1
one_more a b l k e s h = omega (arith, e, s, h)

no_more : (b l k : ℕ) → k ≡ suc l → b ≤ l + 1 → b ≤ k + 1
no_more b l k s h = omega (arith, s, h)

again_low : (l : Links) (o : Option Packet) (count k : ℕ) → k ≡ suc count → l.next ≤ count + 1 → (resending l o).next ≤ k + 1
again_low l None count k s h = no_more l.next count k s h
again_low l (Some p) count k s h = one_more (sending l p.from p.to p.bytes).after.next l.next count k (sending_next l p.from p.to p.bytes) s h

pub next_low : (cells : ℕ) (ms : List Moment) → (links_after cells ms).next ≤ length ms + 1
next_low cells [] = omega arith
next_low cells (sent p a b message bytes ∷ ms) =
    one_more (sending (links_after cells ms) a b bytes).after.next (links_after cells ms).next (length ms) (length (sent p a b message bytes ∷ ms)) (sending_next (links_after cells ms) a b bytes) refl (next_low cells ms)
next_low cells (repeated p copy ∷ ms) =
    again_low (links_after cells ms) (packet_of (links_after cells ms).packets p) (length ms) (length (repeated p copy ∷ ms)) refl (next_low cells ms)
next_low cells (delivered p a b ∷ ms) = no_more (links_after cells ms).next (length ms) (length (delivered p a b ∷ ms)) refl (next_low cells ms)
next_low cells (lost p ∷ ms) = no_more (links_after cells ms).next (length ms) (length (lost p ∷ ms)) refl (next_low cells ms)
next_low cells (dropped p Down ∷ ms) = no_more (links_after cells ms).next (length ms) (length (dropped p Down ∷ ms)) refl (next_low cells ms)
next_low cells (x ∷ ms) = no_more (links_after cells ms).next (length ms) (length (x ∷ ms)) refl (next_low cells ms)

below : (a b k : ℕ) → a ≤ b + 1 → b + 1 < k → nat_lt a k ≡ true
below a b k h e = grind arith

-- a number is left where there are fewer lines
pub few_lines : (h : Header) (cells : ℕ) (hs : List Happening) → MayAllHappen (first_cluster h) (first_scene h cells) hs → length (all_happened (first_cluster h) (first_scene h cells) hs).moments + 1 < 2 ^ 63
    → IsLeft (all_happened (first_cluster h) (first_scene h cells) hs)
few_lines h cells hs may few =
    let s : Scene = all_happened (first_cluster h) (first_scene h cells) hs in
    below s.links.next (length s.moments) (2 ^ 63) (subst (λ (l : Links). l.next ≤ length s.moments + 1) (sym (links_of_each_run h cells hs may).links) (next_low cells s.moments)) few
