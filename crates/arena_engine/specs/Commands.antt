-- The commands that words ask for.
use Rattle.std.specs.Prelude.{◌≡◌, ◌⊎◌, ℕ, ◌<◌, ◌≤◌, ◌^◌, List, [], ◌∷◌, map, codes, decimal, ⊤}
use Rattle.std.specs.Borrow.{Bor}
use Rattle.move_phase.specs.Serving.{AreWorkers}
use Rattle.demo_make.specs.GeneratedFrames.{IsInRange}
use Rattle.match_play.specs.Matches.{IsMatch}
use Rattle.arena_engine.specs.declared.command.Command.{Command}
use Rattle.arena_engine.specs.declared.command.Command.TheVariants.{Play, Feed, Make, Resend, Walk, Match, Bots, Check, Audit, Help, Version}

-- the texts of words
abbrev pub contents : List (Bor (List ℕ)) → List (List ℕ)
contents words = map (λ word. word.now) words

-- the words of a command: its name, and its numbers in decimal digits
abbrev pub words_of : Command → List (List ℕ)
words_of (Play workers) = codes "play" ∷ decimal workers ∷ []
words_of (Feed workers) = codes "feed" ∷ decimal workers ∷ []
words_of (Make seed players frames) =
    codes "make" ∷ decimal seed ∷ decimal players ∷ decimal frames ∷ []
words_of (Resend seed players frames) =
    codes "resend" ∷ decimal seed ∷ decimal players ∷ decimal frames ∷ []
words_of (Walk seed players frames) =
    codes "walk" ∷ decimal seed ∷ decimal players ∷ decimal frames ∷ []
words_of (Match seed players frames workers) =
    codes "match" ∷ decimal seed ∷ decimal players ∷ decimal frames ∷ decimal workers ∷ []
words_of (Bots target) = codes "bots" ∷ decimal target ∷ []
words_of Check = codes "check" ∷ []
words_of Audit = codes "audit" ∷ []
words_of Help = codes "help" ∷ []
words_of Version = codes "version" ∷ []

-- the words are those of this command, of which two have a second name
abbrev pub AreWordsOf : List (List ℕ) → Command → Type 0
AreWordsOf words Help = (words ≡ words_of Help) ⊎ (words ≡ codes "--help" ∷ [])
AreWordsOf words Version = (words ≡ words_of Version) ⊎ (words ≡ codes "--version" ∷ [])
AreWordsOf words c = words ≡ words_of c

-- a seed of 64 bits
abbrev pub IsSeed : ℕ → Type 0
IsSeed seed = seed < 2 ^ 64

-- the number of a spawn
abbrev pub IsTarget : ℕ → Type 0
IsTarget target = target ≤ 63

-- the numbers of a command are in their ranges
abbrev pub HasRanges : Command → Type 0
HasRanges (Play workers) = AreWorkers workers
HasRanges (Feed workers) = AreWorkers workers
HasRanges (Make seed players frames) = IsSeed seed × IsInRange players frames
HasRanges (Resend seed players frames) = IsSeed seed × IsInRange players frames
HasRanges (Walk seed players frames) = IsSeed seed × IsInRange players frames
HasRanges (Match seed players frames workers) = IsSeed seed × IsMatch players frames × AreWorkers workers
HasRanges (Bots target) = IsTarget target
HasRanges Check = ⊤
HasRanges Audit = ⊤
HasRanges Help = ⊤
HasRanges Version = ⊤

-- these words ask for this command
pub record Spells (words : List (List ℕ)) (c : Command) : Type 0 where
  pub words_are : AreWordsOf words c
  pub ranges : HasRanges c
