use Rattle.std.proofs.Common.{◌≡◌, ℕ, ◌+◌, ◌-◌, ◌<◌, length, List, take, drop, replicate, set, refl, arith, ◌∙◌, sym, ap, length-set}
use Rattle.std.proofs.lemmas.List.{drop-replicate, drop-set-lt, drop-drop, length-take-le}
use Rattle.cl_base.specs.Padded.{IsPadded}
use Rattle.pgr_device.proofs.key_list.KeyList.push.Goals as goal

used_is : (places : List ℕ) (used : ℕ) → IsPadded places used → length (take used places) ≡ used
used_is places used h = length-take-le used places (omega (arith, h.whole, h.most))

shorter : (used n : ℕ) → n ≡ 32 - used → n - 1 ≡ 32 - (used + 1)
shorter used n e = omega arith

padded_more : (places : List ℕ) (used key : ℕ) → used < 32 → IsPadded places used → IsPadded (set places used key) (used + 1)
padded_more places used key room h = record {
  whole = length-set places used key ∙ h.whole;
  most = omega arith;
  zeros = drop-set-lt (used + 1) places used key (omega arith) ∙ sym (drop-drop 1 used places) ∙ ap (drop 1) h.zeros ∙ drop-replicate 1 (32 - used) 0 ∙ ap (λ n. replicate n 0) (shorter used (32 - used) refl);
}

pub invariant_of-self : goal.invariant_of-self
invariant_of-self c =
    let used : length (take c.self.inside.len c.self.inside.places) ≡ c.self.inside.len = used_is c.self.inside.places c.self.inside.len c.self.invariant in
    padded_more c.self.inside.places c.self.inside.len c.args.key (omega (arith, ap length c.self.view_is, c.requires)) c.self.invariant
