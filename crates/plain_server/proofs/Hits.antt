-- What a hit makes of a player's state, in numbers.
use Rattle.std.proofs.Common.{◌≡◌, ℕ, ◌+◌, ◌<◌, ◌≤◌, nat_le, Bool, true, false, cond, ap, arith}
use Rattle.std.proofs.lemmas.Bool.Decides.{nat_tests}
use Rattle.shot_rules.specs.Shots.{state_after_hit}
use Rattle.plain_server.specs.Hits.{state_when_hit}

-- a player is hit in this frame: it isn't down before that, and has this state after it
pub record IsHitState (frame before after : ℕ) : Type 0 where
  pub standing : before < 100
  pub state_is : after ≡ state_when_hit frame before

-- who had less than 75 has 25 more
pub wounded : (frame before : ℕ) → before + 25 < 100 → state_when_hit frame before ≡ before + 25
wounded frame before few = ap (λ (t : Bool). cond t (100 + (frame + 40)) (before + 25)) (test before few)
  where
    test : (s : ℕ) → s + 25 < 100 → nat_le 100 (s + 25) ≡ false
    test s h = grind (arith, nat_tests)

-- and who had more is down
pub fallen : (frame before : ℕ) → 100 ≤ before + 25 → state_when_hit frame before ≡ 100 + (frame + 40)
fallen frame before many = ap (λ (t : Bool). cond t (100 + (frame + 40)) (before + 25)) (test before many)
  where
    test : (s : ℕ) → 100 ≤ s + 25 → nat_le 100 (s + 25) ≡ true
    test s h = grind (arith, nat_tests)

-- the state that a shot makes of one that stands
pub hit_state : (state frame : ℕ) → state < 100 → IsHitState frame state (state_after_hit state frame)
hit_state state frame few = record {
  standing = few;
  state_is = ap (λ (down : ℕ). cond (nat_le 100 (state + 25)) down (state + 25)) (from_this_frame frame);
}
  where
    from_this_frame : (frame : ℕ) → 100 + frame + 40 ≡ 100 + (frame + 40)
    from_this_frame n = omega arith
