use Rattle.std.proofs.Common.{rules, ap, ◌∙◌}
use Rattle.crew.specs.Views.{new}
use Rattle.crew.proofs.Keeping.{hires, opens}
use Rattle.crew.proofs.post.Post.open.Goals as goal

pub split_seat-helper-requires : goal.split_seat-helper-requires
split_seat-helper-requires g c =
    (c.requires.table, search rules, hires g.T.Task.may_run g.T.Task.changes _ _ c.requires.alone)

pub store-requires : goal.store-requires
store-requires g c =
    (search rules, search rules, opens g.T.Task.may_run g.T.Task.changes _ _ _ (c.split_seat-helper.ensures.2 ∙ ap (λ m. (new, m.1)) c.requires.alone))
