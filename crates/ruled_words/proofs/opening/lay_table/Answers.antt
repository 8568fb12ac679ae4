use Rattle.std.proofs.Common.{refl, slice_index, arith}
use Rattle.core_steps.specs.Nodes.{Fixed}
use Rattle.core_steps.specs.Stands.{IsLawful}
use Rattle.ruled_words.specs.Starts.{fixed_by}
use Rattle.ruled_words.proofs.Starting.{start_is_ruled}
use Rattle.ruled_words.proofs.Openings.{words_laid}
use Rattle.ruled_words.proofs.opening.lay_table.Goals as goal

pub of_words-requires : goal.of_words-requires
of_words-requires g c =
    let action = c.args.action.now in
    let world = c.args.world.now in
    let F : Fixed = fixed_by g.A.Action.meaning action world in
    let laws = g.met.A.Action g.world.𝓛 g.world.𝓜 g.world.𝓡 ((λ s x. x), (λ x. x), (λ x. x), λ x. x) in
    let lawful : IsLawful F = record { validity = laws.validity action; locality = laws.locality action; footprint = laws.footprint action } in
    rw (c.of.ensures, c.of-2.ensures, c.rooms_of-rooms.ensures, c.as_slice.ensures.value)
    (start_is_ruled F c.args.room.now c.in_ok-words.words.items lawful c.requires.start c.requires.linked.depth c.requires.rooms.0 c.requires.rooms.1
    (let fits = c.type_inv.room 0 in omega (arith, fits))
    (words_laid F world c.in_ok-words.words.items (slice_index c.args.room.now 0) refl refl c.in_ok-words.ensures))
