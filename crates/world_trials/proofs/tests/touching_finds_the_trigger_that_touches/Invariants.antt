use Rattle.world_trials.proofs.tests.touching_finds_the_trigger_that_touches.Given as goal

abbrev pub ghosts-touched : goal.ghosts-touched
ghosts-touched g a = record { name = a.blank.name; parts = a.blank.parts }
