use Rattle.std.proofs.Common.{◌≡◌, ◌+◌, ◌++◌, ◌∷◌, [], None, length, drop, option_to_list, sym, subst, arith}
use Rattle.std.proofs.lemmas.Grind.{common_steps}
use Rattle.arena_map.specs.Positions.{shaft_of}
use Rattle.arena_map.specs.Things.{record_of}
use Rattle.arena_map.specs.Maps.{MapView, map_of}
use Rattle.arena_map.specs.Rules.{broken_rule}
use Rattle.arena_map.proofs.Keeping.{keeps_all, thick-lift, with_thing-is_map}
use Rattle.arena_map.proofs.Kept.{few_things, kept-with_thing}
use Rattle.arena_map.proofs.map.ArenaMap.put_thing.Goals as goal

pub overflow_cast-id : goal.overflow_cast-id
overflow_cast-id c =
    let map = map_of c.self.inside.bounds (drop 6 c.self.inside.solids.items) c.self.inside.spawns.items c.self.inside.things.items c.self.inside.settings in
    let few = few_things map c.self.invariant.is_map in
    let len : c.len.result ≡ length c.self.inside.things.items = grind (arith, common_steps) in
    omega (arith, few, len)

pub overflow_add-id : goal.overflow_add-id
overflow_add-id c =
    let map = map_of c.self.inside.bounds (drop 6 c.self.inside.solids.items) c.self.inside.spawns.items c.self.inside.things.items c.self.inside.settings in
    let few = few_things map c.self.invariant.is_map in
    let len : c.len.result ≡ length c.self.inside.things.items = grind (arith, common_steps) in
    omega (arith, few, len)

pub push_shaft-requires-clause-thick : goal.push_shaft-requires-clause-thick
push_shaft-requires-clause-thick c = thick-lift c.args.self.now.bounds c.args.l.now (keeps_all c.args.self.now c.args.l.now c.requires.kept).inside

pub invariant_of-self-2 : goal.invariant_of-self-2
invariant_of-self-2 c =
    let old = map_of c.self.inside.bounds (drop 6 c.self.inside.solids.items) c.self.inside.spawns.items c.self.inside.things.items c.self.inside.settings in
    let Keeps : MapView → Type 0 = λ m. broken_rule m c.args.l.now ≡ None in
    let keeps : broken_rule old c.args.l.now ≡ None = subst Keeps (sym c.self.view_is) c.requires.kept in
    let is = with_thing-is_map old c.args.l.now c.self.invariant.is_map c.requires.thing c.requires.limits (keeps_all old c.args.l.now keeps) in
    let id : 64 + c.len.result ≡ 64 + length c.self.inside.things.items = grind (arith, common_steps) in
    let things : c.push_reserved-2.new.self.items ≡ c.self.inside.things.items ++ c.args.l.now ∷ [] = grind (arith, common_steps) in
    let entities : c.push_reserved.new.self.items ≡ c.self.inside.entities.items ++ record_of (64 + c.len.result) c.args.l.now ∷ [] = grind (arith, common_steps) in
    let shafts : c.push_shaft.new.shafts.items ≡ c.self.inside.shafts.items ++ option_to_list (shaft_of c.args.l.now) = grind (arith, common_steps) in
    kept-with_thing c.self.inside.bounds c.self.inside.solids.items c.self.inside.spawns.items c.self.inside.things.items c.self.inside.entities.items
    c.self.inside.shafts.items c.self.inside.settings c.args.l.now (64 + c.len.result) c.push_reserved-2.new.self.items c.push_reserved.new.self.items c.push_shaft.new.shafts.items
    c.self.invariant is id things entities shafts
