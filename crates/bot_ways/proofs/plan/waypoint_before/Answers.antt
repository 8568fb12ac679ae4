use Rattle.std.proofs.Common.{◌≡◌, ℕ, length, List, IsTrue, sym, ap, subst, inl, inr, arith}
use Rattle.std.proofs.lemmas.Bool.{cases_lt}
use Rattle.arena_geo.specs.declared.vec3.Vec3.{Vec3}
use Rattle.bot_ways.specs.Ways.{IsBefore}
use Rattle.bot_ways.proofs.EdgeParts.{from_within}
use Rattle.bot_ways.proofs.Searching.{not_both}
use Rattle.bot_ways.proofs.plan.waypoint_before.Goals as goal

pub returns-then-is_before : goal.returns-then-is_before
returns-then-is_before c =
    let to : ℕ → Type 0 = λ v. IsBefore c.args.map.now c.args.least.now c.loop-from.from v in
    record {
      before = subst to c.from.ensures (c.is_before.ensures.0 c.if-is_before.true);
      first = λ w before. elim (cases_lt w c.loop-from.from) [
        | inl under ↦ absurd (c.loop-from.invariant w under before)
        | inr past ↦ past
      ];
    }

pub loop-from-preserved : goal.loop-from-preserved
loop-from-preserved c = λ u lt before.
    let to : ℕ → Type 0 = λ v. IsBefore c.args.map.now c.args.least.now c.loop-from.from v in
    let from : ℕ → Type 0 = λ w. IsBefore c.args.map.now c.args.least.now w c.args.waypoint in
    elim (cases_lt u c.loop-from.from) [
      | inl under ↦ c.loop-from.invariant u under before
      | inr past ↦
          let same : u ≡ c.loop-from.from = omega arith in
          let found : IsTrue c.is_before.result = c.is_before.ensures.1 (subst to (sym c.from.ensures) (subst from same before)) in
          not_both c.is_before.result found c.if-is_before.false
    ]

pub returns : goal.returns
returns c = λ has.
    let b = has.before in
    let within = from_within c.args.map.now has.waypoint c.args.waypoint b.step b.edge_is in
    let end = ap (λ (xs : List Vec3). length xs) c.spawns-from-end.ensures.value in
    c.loop-from.invariant has.waypoint (omega arith) b
