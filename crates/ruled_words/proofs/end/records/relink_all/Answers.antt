use Rattle.std.proofs.Common.{◌≡◌, ℕ, sym, ◌∙◌, subst, arith}
use Rattle.entity_recs.specs.declared.limits.TheConstants.{IDS}
use Rattle.ruled_words.proofs.Relinking.{IsRelinkedBelow, relinked_next, relinked_all}
use Rattle.ruled_words.proofs.end.records.relink_all.Goals as goal

pub relink-requires : goal.relink-requires
relink-requires c = record {
  entry = λ r at. c.requires.entries c.loop-id.id r (sym (c.loop-id.invariant.left c.loop-id.id (omega arith)) ∙ at);
}

pub loop-id-preserved : goal.loop-id-preserved
loop-id-preserved c =
    let done = c.relink.ensures in
    relinked_next c.loop-id.id c.args.words.now c.args.world.now c.loop-id.world c.relink.new.world c.loop-id.invariant done.here done.others done.tree done.linked

pub returns-clause-records : goal.returns-clause-records
returns-clause-records c =
    let all : c.loop-id.id ≡ IDS = omega arith in
    relinked_all c.args.words.now c.args.world.now c.loop-id.world (subst (λ (n : ℕ). IsRelinkedBelow n c.args.words.now c.args.world.now c.loop-id.world) all c.loop-id.invariant)
