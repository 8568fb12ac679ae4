use Rattle.std.proofs.Common.{rules, ◌≡◌, [], ◌∷◌, sym, subst}
use Rattle.atomic_table.specs.Table.{opening}
use Rattle.crew.specs.Views.{alone}
use Rattle.crew.specs.Turns.{IsRuled}
use Rattle.crew.proofs.Keeping.{rules_opening}
use Rattle.crew.proofs.post.Post.new.Goals as goal

pub new-requires : goal.new-requires
new-requires g c =
    let one : c.push_reserved.new.self.items ≡ c.args.spare ∷ [] = search rules in
    subst (λ xs. IsRuled g.T.Task.may_run g.T.Task.changes (opening (0 ∷ []) xs alone)) (sym one)
    (rules_opening g.T.Task.may_run g.T.Task.changes c.args.spare)
