-- Devices are taken in one after another.
use Rattle.std.proofs.Common.{◌≡◌, ℕ, ◌+◌, ◌<◌, ◌++◌, List, [], ◌∷◌, length, take, get_or, sym, ap, ◌∙◌, arith}
use Rattle.std.proofs.lemmas.List.{take_more, length-take-le}
use Rattle.cl_base.specs.declared.header.HeaderDevice.{HeaderDevice}
use Rattle.cmm_attempt.specs.declared.attached.AttachedDevice.{AttachedDevice}
use Rattle.world_model.specs.First.{attached_from, quorum_from, with_quorum}

quorum_then : (n s m : ℕ) (xs : List HeaderDevice) (x : HeaderDevice) → n + length xs ≡ m → quorum_from n (xs ++ x ∷ []) s ≡ with_quorum x.kind m (quorum_from n xs s)
quorum_then n s m [] x e = let z : n ≡ m = omega arith in ap (λ (k : ℕ). with_quorum x.kind k s) z
quorum_then n s m (y ∷ xs) x e = quorum_then (n + 1) (with_quorum y.kind n s) m xs x (omega arith)

-- one more device
pub quorum_more : (xs : List HeaderDevice) (i n set new : ℕ) (d : HeaderDevice) → set ≡ quorum_from 1 (take i xs) 0 → i < length xs → n ≡ i + 1
    → new ≡ with_quorum (get_or xs i d).kind n set → new ≡ quorum_from 1 (take (i + 1) xs) 0
quorum_more xs i n set new d e l m f =
    let size : length (take i xs) ≡ i = length-take-le i xs (omega arith) in
    f ∙ ap (λ (s : ℕ). with_quorum (get_or xs i d).kind n s) e
    ∙ sym (quorum_then 1 0 n (take i xs) (get_or xs i d) (omega arith))
    ∙ ap (λ (ys : List HeaderDevice). quorum_from 1 ys 0) (sym (take_more xs i d l))

attached_then : (n m : ℕ) (xs : List HeaderDevice) (x : HeaderDevice) → n + length xs ≡ m
    → attached_from n (xs ++ x ∷ []) ≡ attached_from n xs ++ record { device = m; nodes = x.attached } ∷ []
attached_then n m [] x e = let z : n ≡ m = omega arith in ap (λ (k : ℕ). let l : List AttachedDevice = record { device = k; nodes = x.attached } ∷ [] in l) z
attached_then n m (y ∷ xs) x e =
    ap (λ (l : List AttachedDevice). record { device = n; nodes = y.attached } ∷ l) (attached_then (n + 1) m xs x (omega arith))

pub attached_more : (xs : List HeaderDevice) (i n : ℕ) (old new : List AttachedDevice) (d : HeaderDevice) → old ≡ attached_from 1 (take i xs) → i < length xs → n ≡ i + 1
    → new ≡ old ++ record { device = n; nodes = (get_or xs i d).attached } ∷ [] → new ≡ attached_from 1 (take (i + 1) xs)
attached_more xs i n old new d e l m f =
    let size : length (take i xs) ≡ i = length-take-le i xs (omega arith) in
    f ∙ ap (λ (o : List AttachedDevice). o ++ record { device = n; nodes = (get_or xs i d).attached } ∷ []) e
    ∙ sym (attached_then 1 n (take i xs) (get_or xs i d) (omega arith))
    ∙ ap (λ (ys : List HeaderDevice). attached_from 1 ys) (sym (take_more xs i d l))
