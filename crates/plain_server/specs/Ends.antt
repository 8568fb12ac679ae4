-- Where the moves of a frame leave the players: the last entry of each, and a record that is as an entry reports it.
use Rattle.std.specs.Prelude.{◌≡◌, ◌≢◌, ℕ, ◌<◌, List, ◌∷◌, ◌++◌, Option, Some, All}
use Rattle.std.specs.Option.{option_map}
use Rattle.entity_recs.specs.declared.rec.Rec.{Rec}
use Rattle.entity_recs.specs.Records.{with_state}
use Rattle.entity_recs.specs.declared.effect.Entry.{Entry}
use Rattle.world_tree.specs.Live.{record_at}

-- a record, if it is there, without its state: what it is but for what others did to it
abbrev pub unhurt : Option Rec → Option Rec
unhurt o = option_map (λ (r : Rec). with_state r 0) o

-- no entry of the journal is of this slot
abbrev pub HasNoEntryOf : ℕ → List Entry → Type 0
HasNoEntryOf slot journal = All (λ (e : Entry). e.slot ≢ slot) journal

-- the entry is in the journal, and none after it is of its slot
pub record IsLastEntry (journal : List Entry) (e : Entry) : Type 0 where
  pub before : List Entry
  pub after : List Entry
  pub journal_is : journal ≡ before ++ e ∷ after
  pub last : HasNoEntryOf e.slot after

-- the entry is that of a player, which is live and where the entry reports it, and the entry's number is its last one
pub record IsAsReported (records : List (Option Rec)) (e : Entry) : Type 0 where
  pub slot : e.slot < 64
  pub now : Rec
  pub live : record_at records e.slot ≡ Some now
  pub origin : now.origin ≡ e.reply.origin
  pub seq : now.seq ≡ e.seq
