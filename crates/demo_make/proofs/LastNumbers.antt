-- The number of the newest command that came before a frame.
use Rattle.std.proofs.Common.{◌≡◌, ℕ, zero, suc, ◌+◌, ◌-◌, ◌%◌, ◌≤◌, ◌<◌, Bool, true, false, eqb, cond, ◌||◌, refl, ap, ◌∙◌, subst, arith}
use Rattle.std.proofs.lemmas.Bool.{or_parts}
use Rattle.std.proofs.lemmas.Bool.Decides.{nat_tests}
use Rattle.std.proofs.Math.Bool.{or-true}
use Rattle.demo_make.specs.ResentFrames.{arrives}
use Rattle.demo_make.specs.Repeating.{last_before}

-- ---- the last number before a frame

-- what a frame leaves of it
pub last-next : (frames port frame : ℕ)
    → last_before frames port (frame + 1) ≡ cond (arrives frames frame port) (frame + 1) (last_before frames port frame)
last-next frames port frame = let e : frame + 1 ≡ suc frame = omega arith in ap (last_before frames port) e

pub last-come : (frames port frame : ℕ) → arrives frames frame port ≡ true → last_before frames port (frame + 1) ≡ frame + 1
last-come frames port frame come =
    last-next frames port frame ∙ ap (λ b. cond b (frame + 1) (last_before frames port frame)) come

pub last-lost : (frames port frame : ℕ) → arrives frames frame port ≡ false
    → last_before frames port (frame + 1) ≡ last_before frames port frame
last-lost frames port frame lost =
    last-next frames port frame ∙ ap (λ b. cond b (frame + 1) (last_before frames port frame)) lost

-- it is at most that of the frame
pub last-low : (frames port frame : ℕ) → last_before frames port frame ≤ frame
last-low frames port zero = omega arith
last-low frames port (suc frame) = by (arrives frames frame port) (last-low frames port frame)
  where
    by : (b : Bool) → last_before frames port frame ≤ frame → cond b (frame + 1) (last_before frames port frame) ≤ suc frame
    by true low = omega arith
    by false low = omega (arith, low)

eqb-no : (n : ℕ) → eqb (n % 3) 0 ≡ false → 0 < n % 3
eqb-no n h = grind (arith, nat_tests)

-- a packet that doesn't arrive isn't the third
lost-third : (frames port frame : ℕ) → arrives frames frame port ≡ false → 0 < (frame + port) % 3
lost-third frames port frame lost =
    eqb-no (frame + port) ((or_parts (eqb ((frame + port) % 3) 0) (eqb (frame + 1) frames) lost).0)

-- and it is at most two commands behind
last-near : (frames port frame : ℕ) → frame ≤ last_before frames port frame + (frame + port + 2) % 3
last-near frames port zero = omega arith
last-near frames port (suc frame) = by (arrives frames frame port) refl (last-near frames port frame)
  where
    by : (b : Bool) → arrives frames frame port ≡ b → frame ≤ last_before frames port frame + (frame + port + 2) % 3
        → suc frame ≤ cond b (frame + 1) (last_before frames port frame) + (suc frame + port + 2) % 3
    by true come near = omega arith
    by false lost near = let third = lost-third frames port frame lost in omega (arith, third, near)

pub last-high : (frames port frame : ℕ) → frame ≤ last_before frames port frame + 2
last-high frames port frame = let near = last-near frames port frame in omega (arith, near)

third-or-last : (frames port frame : ℕ) → suc frame < frames → arrives frames frame port ≡ true → (frame + port) % 3 ≡ 0
third-or-last frames port frame early come = by (eqb ((frame + port) % 3) 0) refl come
  where
    not-last : eqb (frame + 1) frames ≡ false
    not-last = grind (arith, nat_tests)

    third : eqb ((frame + port) % 3) 0 ≡ true → (frame + port) % 3 ≡ 0
    third h = grind (arith, nat_tests)

    by : (b : Bool) → eqb ((frame + port) % 3) 0 ≡ b → (b || eqb (frame + 1) frames) ≡ true → (frame + port) % 3 ≡ 0
    by true e h = third e
    by false e h = let f = not-last in cc

-- before the last frame it is as the thirds say
pub last-is : (frames port frame : ℕ) → frame < frames → last_before frames port frame ≡ frame - (frame + port + 2) % 3
last-is frames port zero early = omega arith
last-is frames port (suc frame) early = by (arrives frames frame port) refl (last-is frames port frame (omega (arith, early)))
  where
    by : (b : Bool) → arrives frames frame port ≡ b → last_before frames port frame ≡ frame - (frame + port + 2) % 3
        → cond b (frame + 1) (last_before frames port frame) ≡ suc frame - (suc frame + port + 2) % 3
    by true come before = let third = third-or-last frames port frame early come in omega (arith, third)
    by false lost before = let third = lost-third frames port frame lost in omega (arith, third, before)

pub last-all : (frames port : ℕ) → 1 ≤ frames → last_before frames port frames ≡ frames
last-all zero port some = absurd (omega (arith, some))
last-all (suc n) port some =
    let last : eqb (n + 1) (suc n) ≡ true = grind (arith, nat_tests) in
    let come = ap (λ b. eqb ((n + port) % 3) 0 || b) last ∙ or-true (eqb ((n + port) % 3) 0) in
    let e : n + 1 ≡ suc n = omega arith in
    ap (λ b. cond b (n + 1) (last_before (suc n) port n)) come ∙ e

-- ---- from frame to frame

-- the last number never falls
last-grows : (frames port frame : ℕ) → last_before frames port frame ≤ last_before frames port (frame + 1)
last-grows frames port frame = by (arrives frames frame port) refl
  where
    by : (b : Bool) → arrives frames frame port ≡ b → last_before frames port frame ≤ last_before frames port (frame + 1)
    by true come =
        let low = last-low frames port frame in
        let next = last-come frames port frame come in
        omega (arith, low, next)
    by false lost = let next = last-lost frames port frame lost in omega (arith, next)

pub last-grows-by : (frames port frame n : ℕ) → last_before frames port frame ≤ last_before frames port (frame + n)
last-grows-by frames port frame zero =
    let e : frame ≡ frame + 0 = omega arith in
    subst (λ k. last_before frames port frame ≤ last_before frames port k) e (omega arith)
last-grows-by frames port frame (suc n) =
    let e : frame + n + 1 ≡ frame + suc n = omega arith in
    let more = last-grows-by frames port frame n in
    let next = last-grows frames port (frame + n) in
    subst (λ k. last_before frames port frame ≤ last_before frames port k) e (omega (arith, more, next))
