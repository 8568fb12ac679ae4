use Rattle.std.proofs.Common.{sym, ◌∙◌, ap}
use Rattle.entity_recs.specs.declared.rec.Rec.{Rec}
use Rattle.ruled_words.proofs.Worlds.{start_some, start_none, state_at_start}
use Rattle.ruled_words.proofs.opening.start.state_at_start.Goals as goal

pub returns-in-Some : goal.returns-in-Some
returns-in-Some c = ap (λ (r : Rec). r.state) (sym (start_some c.args.world.now c.args.id c.in-Some.r c.get.ensures.linked (sym c.get.ensures.record ∙ c.in-Some.is))) ∙ state_at_start c.args.world.now c.args.id

pub returns-in-None : goal.returns-in-None
returns-in-None c = ap (λ (r : Rec). r.state) (sym (start_none c.args.world.now c.args.id c.get.ensures.linked (sym c.get.ensures.record ∙ c.in-None.is))) ∙ state_at_start c.args.world.now c.args.id
