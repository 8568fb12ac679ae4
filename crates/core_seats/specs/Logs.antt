-- The entries of a seat's log.
use Rattle.std.specs.Prelude.{List, map}
use Rattle.entity_recs.specs.declared.effect.Entry.{Entry}
use Rattle.entity_recs.specs.Histories.{Item}

-- the entries of items
abbrev pub entries_of : List Item → List Entry
entries_of = map (λ (item : Item). item.entry)
