-- What a table gives that is closed.
use Rattle.std.specs.Prelude.{◌≡◌, true, List, [], ◌∷◌, All, None}
use Rattle.std.specs.List.{flat_map}
use Rattle.std.specs.List.Sorted.{IsPermutation, IsStrictlyIncreasing}
use Rattle.entity_recs.specs.declared.rec.Rec.{Rec}
use Rattle.entity_recs.specs.Histories.{Item, run, IsLegal, places_of}
use Rattle.move_journal.specs.Lists.{IsWorldOf}
use Rattle.move_journal.specs.Logs.{JournalView, journal_view}
use Rattle.world_tree.specs.Live.{live_in}
use Rattle.world_tree.specs.Worlds.{WorldView}
use Rattle.core_steps.specs.Nodes.{Fixed}
use Rattle.core_steps.specs.Points.{Idle}
use Rattle.core_seats.specs.Logs.{entries_of}
use Rattle.ruled_words.specs.Sights.{Tally, no_tally, tally_of_both, SightView, no_sight, with_one_ended}
use Rattle.ruled_words.specs.Passes.{PassView, RefusalIsListed, sight_of}

-- the pass has no command in hand
pub record HasNoCommand (p : PassView) : Type 0 where
  pub given : p.given ≡ None
  pub idle : p.view.point ≡ Idle

-- the sight of seat 0 after the seats of these passes are ended into it, one after another
abbrev pub with_passes_ended : List PassView → SightView → SightView
with_passes_ended [] sight = sight
with_passes_ended (p ∷ passes) sight = with_passes_ended passes (with_one_ended sight (sight_of p))

-- the sight of the first of these passes after the others are ended into it
abbrev pub sight_at_end : List PassView → SightView
sight_at_end [] = no_sight
sight_at_end (p ∷ passes) = with_passes_ended passes (sight_of p)

-- what all passes did
abbrev pub tally_of_all : List PassView → Tally
tally_of_all [] = no_tally
tally_of_all (p ∷ passes) = tally_of_both p.tally (tally_of_all passes)

-- the word that each pass keeps of its last refused take is one with which a pass took that node
abbrev pub AreRefusalsHeld : List PassView → Type 0
AreRefusalsHeld passes = All (λ (p : PassView). RefusalIsListed p.view.refused (tally_of_all passes).served) passes

-- the entries of a pass's log, with the pass's room
abbrev pub log_from : PassView → JournalView
log_from p = journal_view (entries_of p.view.log) p.view.room

-- ---- a table that is closed

-- of passes with these logs: their items, each at its place, are a legal history from the start, in each log the places
-- rise, and the live records of the world are those of the history's run, which the action takes
pub record IsClosed (F : Fixed) (logs : List (List Item)) (world : WorldView) : Type 0 where
  pub history : List Item
  pub legal : IsLegal F.effect_of F.start history
  pub items : IsPermutation history (flat_map (λ (log : List Item). log) logs)
  pub rising : All (λ (log : List Item). IsStrictlyIncreasing (places_of log)) logs
  pub run_is : IsWorldOf (run F.effect_of F.start history) (live_in world.records)
  pub taken : All (λ (r : Rec). F.takes r ≡ true) (live_in world.records)
