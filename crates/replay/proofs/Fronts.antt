-- A read into the front of a buffer.
use Rattle.std.proofs.Common.{ℕ, ◌<◌, List, ◌++◌, length, Option, Result, Ok, Err, subst, sym, ap, ◌∙◌, arith, length-append}
use Rattle.std.specs.Io.{ReadsAtMost}
use Rattle.std.specs.Io.KnownBytes.{Consumes, ReadConsumes}
use Rattle.std.proofs.lemmas.List.{take-append-le}

pub consumes_front : {E : Type 0} → (result : Result ℕ E) (old new : Option (List ℕ)) (front rest : List ℕ) → 0 < length front → ReadsAtMost result front → ReadConsumes old new result front → ReadConsumes old new result (front ++ rest)
consumes_front (Ok n) old new front rest some most h =
    (subst (λ (piece : List ℕ). Consumes old new piece) (sym (take-append-le n front rest most.0)) h.0, λ none more. h.1 none some)
consumes_front (Err e) old new front rest some most h = h

pub reads_front : {E : Type 0} → (result : Result ℕ E) (front rest : List ℕ) → ReadsAtMost result front → ReadsAtMost result (front ++ rest)
reads_front (Ok n) front rest most = (omega (arith, most.0, length-append front rest), most.1 ∙ ap length (sym (take-append-le n front rest most.0)))
reads_front (Err e) front rest most = tt
