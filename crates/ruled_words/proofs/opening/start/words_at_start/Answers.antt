use Rattle.std.proofs.Common.{◌≡◌, ℕ, List, ◌++◌, ap, ◌∙◌}
use Rattle.ruled_words.proofs.FirstWords.{nodes_first, links_next}
use Rattle.ruled_words.proofs.opening.start.words_at_start.Goals as goal

pub add_bodies-requires : goal.add_bodies-requires
add_bodies-requires c =
    c.in_ok-extend_from_slice-2.ensures.items
    ∙ ap (λ (xs : List ℕ). xs ++ c.links_at_start.result) (c.in_ok-extend_from_slice.ensures.items ∙ ap (λ (xs : List ℕ). xs ++ _) c.in_ok-words.ensures.items ∙ nodes_first c.args.world.now)
    ∙ links_next c.args.world.now c.links_at_start.result c.links_at_start.ensures.size c.links_at_start.ensures.words
