use Rattle.core_steps.specs.Stands.{start_words}
use Rattle.core_machine.specs.Tables.{words_in}
use Rattle.core_machine.specs.Seats.{view_of, given_of}
use Rattle.core_seats.specs.Shown.{fixed_of}
use Rattle.core_seats.specs.Nexts.{next_with, the_next}
use Rattle.core_machine.proofs.StepsMade.{index_is, found_is, index_in_table, count_fits, sound_after, stepped, may_leave, left_is}
use Rattle.core_machine.proofs.stepping.make_next.Goals as goal

pub get-found-requires : goal.get-found-requires
get-found-requires g c =
    let F = fixed_of g.A.Action.meaning c.args.rules.now in
    let s = c.args.seat.now in
    let N = the_next (next_with F (view_of s) (given_of s) s.quits c.args.effect.now) in
    let at = index_is (view_of s) N c.args.s c.from-index.result c.requires.same c.from-index.ensures in
    index_in_table F (words_in c.args.words.now (start_words F)) (view_of s) N c.from-index.result c.requires.word at

pub word_left-requires-after_bounds : goal.word_left-requires-after_bounds
word_left-requires-after_bounds g c κs within =
    let F = fixed_of g.A.Action.meaning c.args.rules.now in
    let s = c.args.seat.now in
    let words = words_in c.args.words.now (start_words F) in
    let N = the_next (next_with F (view_of s) (given_of s) s.quits c.args.effect.now) in
    let at = index_is (view_of s) N c.args.s c.from-index.result c.requires.same c.from-index.ensures in
    let is = found_is F words (view_of s) N c.from-index.result c.get-found.result c.requires.word at (c.get-found.ensures (start_words F)) in
    may_leave F words (view_of s) (given_of s) c.args.effect.now s.quits c.args.s c.get-found.result c.requires.ready.sound c.requires.comes c.requires.word c.requires.same is

pub set-requires : goal.set-requires
set-requires g c =
    let F = fixed_of g.A.Action.meaning c.args.rules.now in
    let s = c.args.seat.now in
    let N = the_next (next_with F (view_of s) (given_of s) s.quits c.args.effect.now) in
    let at = index_is (view_of s) N c.args.s c.from-index.result c.requires.same c.from-index.ensures in
    index_in_table F (words_in c.args.words.now (start_words F)) (view_of s) N c.from-index.result c.requires.word at

pub go-requires-clause-after : goal.go-requires-clause-after
go-requires-clause-after g c κs within =
    let F = fixed_of g.A.Action.meaning c.args.rules.now in
    let s = c.args.seat.now in
    let words = words_in c.args.words.now (start_words F) in
    let N = the_next (next_with F (view_of s) (given_of s) s.quits c.args.effect.now) in
    let at = index_is (view_of s) N c.args.s c.from-index.result c.requires.same c.from-index.ensures in
    let is = found_is F words (view_of s) N c.from-index.result c.get-found.result c.requires.word at (c.get-found.ensures (start_words F)) in
    sound_after F words (view_of s) N c.get-found.result c.requires.word is

pub go-requires-clause-count : goal.go-requires-clause-count
go-requires-clause-count g c κs within =
    let F = fixed_of g.A.Action.meaning c.args.rules.now in
    let s = c.args.seat.now in
    let words = words_in c.args.words.now (start_words F) in
    let N = the_next (next_with F (view_of s) (given_of s) s.quits c.args.effect.now) in
    let at = index_is (view_of s) N c.args.s c.from-index.result c.requires.same c.from-index.ensures in
    let is = found_is F words (view_of s) N c.from-index.result c.get-found.result c.requires.word at (c.get-found.ensures (start_words F)) in
    count_fits F words (view_of s) N c.get-found.result c.requires.word is

pub returns-clause-stepped : goal.returns-clause-stepped
returns-clause-stepped g c =
    let F = fixed_of g.A.Action.meaning c.args.rules.now in
    let s = c.args.seat.now in
    let words = words_in c.args.words.now (start_words F) in
    let N = the_next (next_with F (view_of s) (given_of s) s.quits c.args.effect.now) in
    let at = index_is (view_of s) N c.args.s c.from-index.result c.requires.same c.from-index.ensures in
    let is = found_is F words (view_of s) N c.from-index.result c.get-found.result c.requires.word at (c.get-found.ensures (start_words F)) in
    stepped F c.args.s words (words_in c.set.new.self (start_words F)) (view_of s) c.go.new.self N c.from-index.result c.get-found.result c.word_left.result c.is_done.result
    c.requires.same at is
    (left_is F (view_of s) (given_of s) c.args.effect.now s.quits c.args.s c.get-found.result c.word_left.result c.requires.ready.sound c.requires.comes c.requires.same c.word_left.ensures)
    (c.set.ensures (start_words F)) c.go.ensures.view c.go.ensures.given c.go.ensures.quits c.is_done.ensures
