-- The words `play` and `1`.
use Rattle.std.proofs.Common.{◌≡◌, ℕ, List, [], ◌∷◌, codes, decimal, refl, sym, ap, ◌∙◌, arith}
use Rattle.std.specs.Fmt.{digits}
use Rattle.arena_engine.specs.declared.command.Command.TheVariants.{Play}
use Rattle.arena_engine.specs.Commands.{Spells}

one_is_spelled : decimal 1 ≡ codes "1"
unfolding digits
one_is_spelled = refl

pub is_play : (texts : List (List ℕ)) → texts ≡ codes "play" ∷ codes "1" ∷ [] → Spells texts (Play 1)
is_play texts are = record { words_are = are ∙ ap (λ one. codes "play" ∷ one ∷ []) (sym one_is_spelled); ranges = (omega arith, omega arith) }
