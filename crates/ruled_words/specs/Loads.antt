-- How a pass loads a player's record, word after word.
use Rattle.std.specs.Prelude.{◌≡◌, ℕ, ◌<◌, true, List, [], ◌∷◌, length, Option, Some, None}
use Rattle.atomic_table.specs.Seated.{TableId}
use Rattle.entity_recs.specs.declared.rec.Rec.{Rec}
use Rattle.core_steps.specs.Nodes.{Fixed}
use Rattle.core_steps.specs.Reads.{View, record_read}
use Rattle.core_steps.specs.Machine.{Next, Begin, LoadOwn, LoadAgain, ReadPlayer}
use Rattle.core_seats.specs.Nexts.{the_next}
use Rattle.ruled_words.specs.Passes.{PassView, next_of_pass, pass_after, IsPassOf}

-- a word of a player's record: whose it is, and the words before it, which were loaded
pub record PlayerWord : Type 0 where
  pub slot : ℕ
  pub before : List ℕ

-- the word of a player's record that a step loads
abbrev pub player_word : View → Next → Option PlayerWord
player_word view (Begin c) = Some (record { slot = c.slot; before = [] })
player_word view LoadOwn = Some (record { slot = view.cmd.slot; before = view.own })
player_word view LoadAgain = Some (record { slot = view.cmd.slot; before = view.again })
player_word view (ReadPlayer node part slot players plan) = Some (record { slot = slot; before = part })
player_word _ _ = None

-- the same of what comes next, if anything does
abbrev pub player_word_next : View → Option Next → Option PlayerWord
player_word_next view None = None
player_word_next view (Some next) = player_word view next

-- whose record it is, where the word is the first
abbrev pub slot_of_first : ℕ → List ℕ → Option ℕ
slot_of_first slot [] = Some slot
slot_of_first slot (word ∷ before) = None

-- the same of a word, if there is one
abbrev pub slot_begun : Option PlayerWord → Option ℕ
slot_begun None = None
slot_begun (Some word) = slot_of_first word.slot word.before

-- the player whose record is loaded whole next, of which nothing is loaded yet
abbrev pub record_loaded_next : View → Option Next → Option ℕ
record_loaded_next view next = slot_begun (player_word_next view next)

-- the pass after its next steps, where these words were found
abbrev pub after_loads : Fixed → PassView → List ℕ → PassView
after_loads F p [] = p
after_loads F p (word ∷ words) = after_loads F (pass_after F (the_next (next_of_pass F p)) word p) words

-- the six words of the record of the player in this slot were loaded, one step after another: they make this record,
-- which is one that the action takes
pub record HasLoaded (F : Fixed) (old new : PassView) (slot : ℕ) (r : Rec) : Type 0 where
  pub words : List ℕ
  pub six : length words ≡ 6
  pub pass : new ≡ after_loads F old words
  pub is_record : r ≡ record_read slot words
  pub taken : F.takes r ≡ true

-- these words of that record were loaded so far
pub record IsLoading (F : Fixed) (passes : ℕ) (table : TableId) (old now : PassView) (slot : ℕ) (words : List ℕ) :
    Type 0 where
  pub own : IsPassOf F passes table now
  pub pass : now ≡ after_loads F old words
  pub next : length words < 6 → player_word_next now.view (next_of_pass F now) ≡ Some
      (record { slot = slot; before = words })
  pub taken : length words ≡ 6 → F.takes (record_read slot words) ≡ true
