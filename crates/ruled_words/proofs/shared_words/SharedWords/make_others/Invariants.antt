use Rattle.std.proofs.Common.{◌≡◌, ◌-◌, ◌≤◌, map}
use Rattle.std.specs.Prelude.{slice_index}
use Rattle.std.specs.List.{range_with_len}
use Rattle.ruled_words.specs.Sights.{no_tally}
use Rattle.ruled_words.specs.Hands.{IsPlain}
use Rattle.ruled_words.specs.Passes.{fixed_in, setting_of, sight_of}
use Rattle.ruled_words.specs.NewPasses.{other_pass, view_with_made}
use Rattle.ruled_words.proofs.shared_words.SharedWords.make_others.Given as goal

abbrev pub invariant-loop-i : goal.invariant-loop-i
invariant-loop-i g l =
    (l.hands.items ≡ map (other_pass l.self.table (setting_of (fixed_in g.A.Action.meaning l.self)) l.room) (range_with_len 1 (l.i - 1)))
    × (sight_of l.first ≡ record { number = 0; view = view_with_made (slice_index l.room 0) l.i; tally = no_tally })
    × (l.first.table ≡ l.self.table) × (1 ≤ l.i) × (l.first.setting ≡ setting_of (fixed_in g.A.Action.meaning l.self))
    × IsPlain l.first
