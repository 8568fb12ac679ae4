-- What the words `make` or `resend`, `7`, `2` and `1` ask for, and how their call ends where the recording has room.
use Rattle.std.proofs.Common.{◌≡◌, inl, inr, ℕ, List, [], ◌∷◌, codes, refl, sym, ◌∙◌, arith}
use Rattle.std.specs.Fmt.{digits}
use Rattle.arena_engine.specs.declared.command.Command.TheVariants.{Make, Resend}
use Rattle.arena_engine.specs.Commands.{Spells, words_of}
use Rattle.arena_engine.specs.Making.{IsOfWriting}
use Rattle.arena_engine.specs.Endings.{IsOrMemory}
use Rattle.demo_make.specs.GeneratedFrames.{IsInRange}

pub in_range : IsInRange 2 1
in_range = record { some_players = omega arith; few_players = omega arith; some_frames = omega arith; few_frames = omega arith }

spelled : words_of (Make 7 2 1) ≡ codes "make" ∷ codes "7" ∷ codes "2" ∷ codes "1" ∷ []
unfolding digits
spelled = refl

pub is_make : (texts : List (List ℕ)) → texts ≡ codes "make" ∷ codes "7" ∷ codes "2" ∷ codes "1" ∷ [] → Spells texts (Make 7 2 1)
is_make texts are = record { words_are = are ∙ sym spelled; ranges = (omega arith, in_range) }

resend-spelled : words_of (Resend 7 2 1) ≡ codes "resend" ∷ codes "7" ∷ codes "2" ∷ codes "1" ∷ []
unfolding digits
resend-spelled = refl

pub is_resend : (texts : List (List ℕ)) → texts ≡ codes "resend" ∷ codes "7" ∷ codes "2" ∷ codes "1" ∷ [] → Spells texts (Resend 7 2 1)
is_resend texts are = record { words_are = are ∙ sym resend-spelled; ranges = (omega arith, in_range) }

pub ended_well : (status : ℕ) → IsOfWriting status → (status ≡ 4 → ⊥) → IsOrMemory status 0
ended_well status (inl done) sure = inr done
ended_well status (inr (inl memory)) sure = inl memory
ended_well status (inr (inr cut)) sure = absurd (sure cut)
