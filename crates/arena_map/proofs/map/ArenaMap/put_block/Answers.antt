use Rattle.std.proofs.Common.{◌≡◌, ◌++◌, ◌∷◌, [], None, drop, sym, subst, arith}
use Rattle.std.proofs.lemmas.Grind.{common_steps}
use Rattle.arena_geo.specs.Bounds.{bounds}
use Rattle.arena_map.specs.declared.map_line.MapLine.TheVariants.{Block}
use Rattle.arena_map.specs.Maps.{MapView, map_of}
use Rattle.arena_map.specs.Rules.{broken_rule}
use Rattle.arena_map.proofs.Keeping.{with_line-is_map}
use Rattle.arena_map.proofs.Kept.{kept-with_block}
use Rattle.arena_map.proofs.map.ArenaMap.put_block.Goals as goal

pub invariant_of-self-2 : goal.invariant_of-self-2
invariant_of-self-2 c =
    let line = Block c.args.lo c.args.hi in
    let old = map_of c.self.inside.bounds (drop 6 c.self.inside.solids.items) c.self.inside.spawns.items c.self.inside.things.items c.self.inside.settings in
    let Keeps : MapView → Type 0 = λ m. broken_rule m line ≡ None in
    let keeps : broken_rule old line ≡ None = subst Keeps (sym c.self.view_is) c.requires.kept in
    let pushed : c.push.new.self.items ≡ c.self.inside.solids.items ++ bounds c.args.lo c.args.hi ∷ [] = grind (arith, common_steps) in
    kept-with_block c.self.inside.bounds c.self.inside.solids.items c.self.inside.spawns.items c.self.inside.things.items c.self.inside.entities.items
    c.self.inside.shafts.items c.self.inside.settings (bounds c.args.lo c.args.hi) c.push.new.self.items c.self.invariant
    (with_line-is_map old line c.self.invariant.is_map (c.requires.lo, c.requires.hi) keeps) pushed
