-- Known bytes that grow or shrink twice.
use Rattle.std.proofs.Common.{◌≡◌, ℕ, ◌+◌, ◌-◌, ◌≤◌, List, [], ◌++◌, length, take, drop, Option, None, Some, sym, ap, ◌∙◌, append_assoc, append-nil, arith, length-drop}
use Rattle.std.specs.Io.KnownBytes.{Appends, Consumes, Keeps}
use Rattle.std.proofs.Math.Seq.{take-add}
use Rattle.std.proofs.lemmas.List.{take_all}

pub appends_then : (a b c : Option (List ℕ)) (xs ys : List ℕ) → Appends a b xs → Appends b c ys → Appends a c (xs ++ ys)
appends_then None b c xs ys first then = tt
appends_then (Some x) None c xs ys first then = absurd first
appends_then (Some x) (Some y) None xs ys first then = absurd then
appends_then (Some x) (Some y) (Some z) xs ys first then = then ∙ ap (λ (t : List ℕ). t ++ ys) first ∙ append_assoc x xs ys

pub consumes_then : (a b c : Option (List ℕ)) (xs ys : List ℕ) → Consumes a b xs → Consumes b c ys → Consumes a c (xs ++ ys)
consumes_then None b c xs ys first then = tt
consumes_then (Some x) None c xs ys first then = absurd first
consumes_then (Some x) (Some y) None xs ys first then = absurd then
consumes_then (Some x) (Some y) (Some z) xs ys first then = first ∙ ap (λ (t : List ℕ). xs ++ t) then ∙ sym (append_assoc xs ys z)

pub keeps_appends : (a b : Option (List ℕ)) → Keeps a b → Appends a b []
keeps_appends None b keeps = tt
keeps_appends (Some x) None keeps = absurd keeps
keeps_appends (Some x) (Some y) keeps = keeps ∙ sym (append-nil x)

pub keeps_consumes : (a b : Option (List ℕ)) → Keeps a b → Consumes a b []
keeps_consumes None b keeps = tt
keeps_consumes (Some x) None keeps = absurd keeps
keeps_consumes (Some x) (Some y) keeps = sym keeps

-- a front of the bytes was written, and then more of them
pub front_then : (a b c : Option (List ℕ)) (bytes : List ℕ) (done count : ℕ) → Appends a b (take done bytes)
    → count ≤ length bytes - done → Appends b c (take count (take (length bytes - done) (drop done bytes))) → Appends a c (take (done + count) bytes)
front_then a b c bytes done count first fits then =
    let rest : take (length bytes - done) (drop done bytes) ≡ drop done bytes = take_all (length bytes - done) (drop done bytes) (omega (arith, length-drop done bytes)) in
    rw (take-add done count bytes) (appends_then a b c (take done bytes) (take count (drop done bytes)) first (rw rest at then))
