-- A header with one more device, and the numbers of a line.
use Rattle.std.proofs.Common.{◌≡◌, ◌==◌, ◌<◌, ℕ, ◌&&◌, not, if◌then◌else◌, List, ◌++◌, [], ◌∷◌, length, map, Ok, Err, Some, None, refl, sym, ap, subst, arith, length-append, Bor}
use Rattle.std.specs.List.{list_all}
use Rattle.std.proofs.lemmas.List.{length-map}
use Rattle.schedule_text.specs.declared.kind.Kind.TheVariants as kind
use Rattle.schedule_text.specs.declared.number.Numeral.{Numeral}
use Rattle.schedule_text.specs.Headers.{described, is_next, is_server, attached, ascending, numbers_in, in_order}
use Rattle.schedule_text.specs.Versions.{most_nodes_of}
use Rattle.schedule_text.specs.Words.{is_decimal, decimal_in}
use Rattle.schedule_text.proofs.WordLemmas.{all_map}
use Rattle.std.proofs.lemmas.List.Elements.{All-push}
use Rattle.cl_base.specs.declared.header.DeviceKind.{DeviceKind}
use Rattle.cl_base.specs.declared.header.Header.{Header}
use Rattle.cl_base.specs.declared.header.HeaderDevice.{HeaderDevice}
use Rattle.schedule_text.specs.Allowed.{IsHeader, IsAttached}

pub header_more : (h : Header) (d : HeaderDevice) (new : Header) → new ≡ record h { devices = h.devices ++ (d ∷ []) }
    → IsHeader h → length h.devices < 16 → IsAttached h.nodes d → IsHeader new
header_more h d new is given room attached = subst IsHeader (sym is) (record {
  cluster_low = given.cluster_low;
  cluster_high = given.cluster_high;
  nodes_low = given.nodes_low;
  nodes_high = given.nodes_high;
  configured = given.configured;
  devices = omega (arith, length-append h.devices (d ∷ []), room);
  attached = All-push (IsAttached h.nodes) h.devices d given.attached attached;
})

pub map_twice : (ws : List (Bor (List ℕ))) → map decimal_in (map (λ w. w.now) ws) ≡ map (λ w. decimal_in w.now) ws
map_twice [] = refl
map_twice (w ∷ ws) = ap (λ ds. decimal_in w.now ∷ ds) (map_twice ws)

pub numbered_behind : (h : Header) (number : Numeral) (purpose : DeviceKind) (ws : List (Bor (List ℕ)))
    → described h (Some number) (Some purpose) (map (λ w. w.now) ws) ≡ (if not (length ws == 0) && list_all (λ w. is_decimal w.now) ws
    then (if is_server purpose then Err kind.NotBuilt
    else if is_next h number then attached h purpose (ascending (most_nodes_of h.version) 0 0 (map (λ w. decimal_in w.now) ws)) else Err kind.Number)
    else Ok None)
numbered_behind h number purpose ws = rw (length-map ws (λ (w : Bor (List ℕ)). w.now), all_map is_decimal ws, map_twice ws) refl

-- the numbers of a line that lists nodes
pub numbers_behind : (most : ℕ) (ws : List (Bor (List ℕ))) → numbers_in most (map (λ w. w.now) ws) ≡ (if not (length ws == 0) && list_all (λ w. is_decimal w.now) ws
    then in_order (ascending most 0 0 (map (λ w. decimal_in w.now) ws)) else Err kind.Header)
numbers_behind most ws = rw (length-map ws (λ (w : Bor (List ℕ)). w.now), all_map is_decimal ws, map_twice ws) refl
