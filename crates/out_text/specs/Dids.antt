-- What a `did` line reports of a move that was done.
use Rattle.std.specs.Prelude.{ℕ, ◌+◌, List, [], ◌∷◌}
use Rattle.arena_geo.specs.declared.vec3.Vec3.{Vec3}
use Rattle.entity_recs.specs.declared.effect.Entry as journal

-- whose move it was and its number, and the reply: where the player is, and what it got
pub record Did : Type 0 where
  pub slot : ℕ
  pub seq : ℕ
  pub origin : Vec3
  pub got : List ℕ

-- what is reported of an entry
abbrev pub did_of : journal.Entry → Did
did_of e = record { slot = e.slot; seq = e.seq; origin = e.reply.origin; got = e.reply.got }

-- the entry at this place that is reported so
abbrev pub entry_at : ℕ → Did → journal.Entry
entry_at place d =
    record { place = place; slot = d.slot; seq = d.seq; reply = record { origin = d.origin; got = d.got } }

-- the journal that is reported so, whose first entry has this place
abbrev pub journal_from : ℕ → List Did → List journal.Entry
journal_from place [] = []
journal_from place (d ∷ dids) = entry_at place d ∷ journal_from (place + 1) dids
