-- What a save and a delivery leave of the seizings.
use Rattle.std.specs.Prelude.{ℕ, ◌≡◌, ◌==◌, ◌&&◌, Bool, true, false, List, [], ◌∷◌, if◌then◌else◌}
use Rattle.std.proofs.Common.{refl, ap, ◌∙◌}
use Rattle.cl_base.specs.declared.header.Header.{Header}
use Rattle.history.specs.Member.{in_collect, members_of}
use Rattle.history.specs.Moment.{Moment}
use Rattle.history.specs.Seizing.{keys_in, keys_seized, left_from, or_else, progress_of, seizing_among, seizing_by, seizing_of}
use Rattle.history.specs.Setting.{nodes_of}
use Rattle.history.specs.Trace.{delivered, saved}
use Rattle.run_devices.proofs.valid.Lines.{left_keys}

saved_keys : (h : Header) (k e d m : ℕ) (ms : List Moment) → keys_seized h k e d (saved m ∷ ms) ≡ keys_seized h k e d ms
saved_keys h k e d m ms = by_test ((m == k) && in_collect k ms)
  where
    by_test : (b : Bool) → keys_in (if b then left_from (progress_of h k e d ms) else progress_of h k e d ms) ≡ keys_in (progress_of h k e d ms)
    by_test true = left_keys (progress_of h k e d ms)
    by_test false = refl

same_among : (h : Header) (e d : ℕ) (one two : List Moment) (ns : List ℕ) → ((k : ℕ) → keys_seized h k e d one ≡ keys_seized h k e d two)
    → seizing_among h e d one ns ≡ seizing_among h e d two ns
same_among h e d one two [] f = refl
same_among h e d one two (k ∷ ns) f =
    ap (λ o. or_else (seizing_by k o) (seizing_among h e d one ns)) (f k) ∙ ap (or_else (seizing_by k (keys_seized h k e d two))) (same_among h e d one two ns f)

pub saved_seizing : (h : Header) (e d m : ℕ) (ms : List Moment) → seizing_of h e d (saved m ∷ ms) ≡ seizing_of h e d ms
saved_seizing h e d m ms = same_among h e d (saved m ∷ ms) ms (nodes_of (members_of e ms)) (λ k. saved_keys h k e d m ms)

pub delivered_seizing : (h : Header) (e d p a b : ℕ) (ms : List Moment) → seizing_of h e d (delivered p a b ∷ ms) ≡ seizing_of h e d ms
delivered_seizing h e d p a b ms = same_among h e d (delivered p a b ∷ ms) ms (nodes_of (members_of e ms)) (λ k. refl)
