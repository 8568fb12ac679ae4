use Rattle.std.proofs.Common.{◌++◌, ◌∷◌, [], sym, ◌∙◌, ap, subst, List, Vec, Global, All, ◌≡◌}
use Rattle.std.proofs.lemmas.List.Elements.{All-push}
use Rattle.entity_recs.specs.declared.rec.Rec.{Rec}
use Rattle.ruled_words.specs.Numbers.{HasSmallNumbers}
use Rattle.ruled_words.proofs.Worlds.{read_some, read_none, read_all}
use Rattle.ruled_words.proofs.opening.live_records.Goals as goal
use Rattle.ruled_words.proofs.opening.live_records.Goals.{in-Some+in_ok-push, in_default}

pub loop-id-preserved : goal.loop-id-preserved
loop-id-preserved c =
    let w = c.args.world.now in
    let ids = c.live_ids-id-items.result.now in
    let so_far = c.loop-id.invariant in
    elim c.match-read.branch [
      | in-Some+in_ok-push b ↦
          let items : c.match-read.records.items ≡ c.loop-id.records.items ++ b.in-Some.r ∷ [] = ap (λ (v : Vec Rec Global). v.items) b.records-is ∙ b.in_ok-push.ensures.items in
          record {
            so_far = items ∙ ap (λ (rs : List Rec). rs ++ b.in-Some.r ∷ []) so_far.so_far
                ∙ sym (read_some w ids c.loop-id.id-index b.in-Some.r c.live_ids-id-items.ensures.ids c.loop-id-test.true (sym b.in-Some.is ∙ c.read.ensures.record));
            small = subst (All HasSmallNumbers) (sym items) (All-push HasSmallNumbers c.loop-id.records.items b.in-Some.r so_far.small b.in-Some.ensures.small);
          }
      | in_default b ↦
          let items : c.match-read.records.items ≡ c.loop-id.records.items = ap (λ (v : Vec Rec Global). v.items) b.records-is in
          record {
            so_far = items ∙ so_far.so_far ∙ sym (read_none w ids c.loop-id.id-index c.live_ids-id-items.ensures.ids c.loop-id-test.true (sym b.in_default.is ∙ c.read.ensures.record));
            small = subst (All HasSmallNumbers) (sym items) so_far.small;
          }
    ]

pub returns-clause-records : goal.returns-clause-records
returns-clause-records c =
    c.loop-id.invariant.so_far ∙ read_all c.args.world.now c.live_ids-id-items.result.now c.loop-id.id-index c.live_ids-id-items.ensures.linked c.live_ids-id-items.ensures.ids c.loop-id-test.false
