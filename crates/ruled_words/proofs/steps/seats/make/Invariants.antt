use Rattle.ruled_words.proofs.steps.seats.make.Given as goal

-- the room that was asked for
abbrev pub ghosts-make_as : goal.ghosts-make_as
ghosts-make_as g a = record { room = a.room }
