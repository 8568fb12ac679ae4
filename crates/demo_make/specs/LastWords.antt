-- The words of a player's last commands.
use Rattle.std.specs.Prelude.{◌≡◌, ℕ, ◌+◌, ◌-◌, ◌*◌, List, [], ◌∷◌, ◌++◌, map, Option, Some, None, option_to_list}
use Rattle.std.specs.Prelude.{Bool, nat_le, if◌then◌else◌}
use Rattle.packet_read.specs.declared.block_list.CmdBlock.{CmdBlock}
use Rattle.demo_make.specs.declared.last_words.LastWords.{LastWords}
use Rattle.demo_make.specs.Words.{word_of, next_state, word_at}
use Rattle.demo_make.specs.GeneratedFrames.{command_of}

-- the word that is drawn where words are, and the state after it
abbrev pub word_if : Bool → ℕ → Option ℕ
word_if draws state = if draws then Some (word_of state) else None

abbrev pub state_if : Bool → ℕ → ℕ
state_if draws state = if draws then next_state state else state

-- the word of a player so many frames before this one, where there is such a frame
abbrev pub word_back : ℕ → ℕ → ℕ → ℕ → ℕ → Option ℕ
word_back seed players frame port back =
    if nat_le back frame then Some (word_at seed ((frame - back) * players + (port - 1))) else None

-- the commands that the words give, the oldest first
abbrev pub commands_by : LastWords → List CmdBlock
commands_by words =
    map command_of (option_to_list words.two_back ++ (option_to_list words.one_back ++ words.newest ∷ []))

-- the words are those of a player in a frame and in the two before it
pub record AreLast (seed players frame port : ℕ) (words : LastWords) : Type 0 where
  pub newest : words.newest ≡ word_at seed (frame * players + (port - 1))
  pub one : words.one_back ≡ word_back seed players frame port 1
  pub two : words.two_back ≡ word_back seed players frame port 2
