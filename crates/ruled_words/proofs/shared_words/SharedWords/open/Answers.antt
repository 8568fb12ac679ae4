use Rattle.std.proofs.Common.{◌≡◌, List, ◌∷◌, length, All, refl, sym, ap, ◌∙◌, subst}
use Rattle.areanode.specs.Trees.{IsTreeDepth}
use Rattle.world_tree.specs.Worlds.{WorldView}
use Rattle.core_steps.specs.Nodes.{Fixed}
use Rattle.ruled_words.specs.Passes.{PassView, IsPassOf, fixed_in, setting_of}
use Rattle.ruled_words.specs.declared.setting.Setting.{Setting}
use Rattle.ruled_words.specs.NewPasses.{first_pass, new_passes}
use Rattle.ruled_words.proofs.NewPasses.{all_own, new_hand}
use Rattle.ruled_words.proofs.shared_words.SharedWords.open.Goals as goal

pub returns-clause-hands : goal.returns-clause-hands
returns-clause-hands g c =
    let words = c.in_ok-words.words in
    let made = c.in_ok-words.ensures in
    let setting : Setting = setting_of (fixed_in g.A.Action.meaning words) in
    let first : c.make_others.new.first ≡ first_pass words.table setting c.args.room.now =
    new_hand c.make_others.new.first words.table setting _ (c.make_others.ensures.table ∙ made.first.0) (c.make_others.ensures.setting ∙ made.setting) c.in_ok-hands.ensures.first refl c.make_others.ensures.plain in
    c.in_ok-insert.ensures.items
    ∙ ap (λ (p : PassView). p ∷ c.in_ok-hands.hands.items) first
    ∙ ap (λ (xs : List PassView). first_pass words.table setting c.args.room.now ∷ xs) c.in_ok-hands.ensures.hands

pub returns-clause-own : goal.returns-clause-own
returns-clause-own g c =
    let words = c.in_ok-words.words in
    let made = c.in_ok-words.ensures in
    let F : Fixed = fixed_in g.A.Action.meaning words in
    let depth : IsTreeDepth words.world.tree.depth = subst (λ (w : WorldView). IsTreeDepth w.tree.depth) (sym made.table.1) made.linked.depth in
    let items : c.insert.new.self.items ≡ new_passes words.table (setting_of F) words.rooms =
    returns-clause-hands g c ∙ ap (new_passes words.table (setting_of F)) (sym made.table.2) in
    subst (All (IsPassOf F (length words.rooms) words.table)) (sym items) (all_own F words.table words.rooms depth)
