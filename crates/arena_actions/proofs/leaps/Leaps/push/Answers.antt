use Rattle.std.proofs.Common.{rules, zero, suc, ◌<◌, [], ◌∷◌, length, take, All, IfSome, Option, sym, subst, arith}
use Rattle.std.proofs.lemmas.List.{take_more_set}
use Rattle.std.proofs.lemmas.List.Elements.{All-append}
use Rattle.arena_actions.specs.declared.leaps.Leap.{Leap}
use Rattle.arena_actions.specs.Leaps.{IsNearLeap}
use Rattle.arena_actions.proofs.leaps.Leaps.push.Goals as goal

one : (leap : Leap) → IsNearLeap leap → All IsNearLeap (leap ∷ [])
one leap near zero d below = near
one leap near (suc k) d below = absurd (omega (arith, below))

pub invariant_of-self : goal.invariant_of-self
invariant_of-self c =
    let leaps = c.self.inside.leaps in
    let len = c.self.inside.len in
    let leap = c.in-Some.leap in
    let below : len < length leaps = search rules in
    let near : IsNearLeap leap = subst (λ (o : Option Leap). IfSome o IsNearLeap) c.in-Some.is c.requires.near in
    (subst (All IsNearLeap) (sym (take_more_set leaps len leap below)) (All-append IsNearLeap (take len leaps) (leap ∷ []) c.self.invariant.0 (one leap near)), search rules, search rules)
