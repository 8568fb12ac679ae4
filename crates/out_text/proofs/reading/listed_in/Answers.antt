use Rattle.std.proofs.Common.{◌≡◌, [], ◌∷◌, ◌++◌, ◌<◌, ◌≤◌, length, Some, None, ap, sym, ◌∙◌, rules}
use Rattle.edge_io.specs.Numbers.{natural_up_to}
use Rattle.out_text.specs.Reading.{few_ids, parts_of, listed_in}
use Rattle.out_text.proofs.Ids.{after_nothing, bad_part, full_part, next_part, last_part}
use Rattle.out_text.proofs.reading.listed_in.Goals as goal

pub loop-part-init : goal.loop-part-init
loop-part-init c = rw c.new-ids.ensures (ap few_ids (after_nothing (listed_in c.args.text.now)))

pub loop-part-preserved : goal.loop-part-preserved
loop-part-preserved c =
    let part = c.in-Some.part.now in
    let id = c.in_ok-id.id in
    let some : natural_up_to 65535 part ≡ Some id = sym c.natural.ensures.value ∙ c.in_ok-id.was in
    let pushed : c.push.new.self ≡ c.loop-part.ids ++ id ∷ [] = search rules in
    rw pushed
    (next_part c.args.text.now c.loop-part.ids c.loop-part.rest.now part c.in-Some.after.now id c.loop-part.invariant
    c.in-Some.ensures.some some)

pub returns-in_err-id : goal.returns-in_err-id
returns-in_err-id c =
    let part = c.in-Some.part.now in
    let none : natural_up_to 65535 part ≡ None = sym c.natural.ensures.value ∙ c.in_err-id.was in
    c.from_residual.ensures
    ∙ sym (bad_part c.args.text.now c.loop-part.ids c.loop-part.rest.now part _ c.loop-part.invariant c.in-Some.ensures.some none)

pub returns-then-not-push : goal.returns-then-not-push
returns-then-not-push c =
    let part = c.in-Some.part.now in
    let some : natural_up_to 65535 part ≡ Some c.in_ok-id.id = sym c.natural.ensures.value ∙ c.in_ok-id.was in
    let full : 8 ≤ length c.loop-part.ids = search rules in
    sym (full_part c.args.text.now c.loop-part.ids c.loop-part.rest.now part _ c.in_ok-id.id c.loop-part.invariant
    c.in-Some.ensures.some some full)

pub returns-in_err-last : goal.returns-in_err-last
returns-in_err-last c =
    let rest = c.loop-part.rest.now in
    let split : parts_of rest ≡ rest ∷ [] = search rules in
    let none : natural_up_to 65535 rest ≡ None = sym c.natural-2.ensures.value ∙ c.in_err-last.was in
    c.from_residual-in_err-last.ensures
    ∙ sym (bad_part c.args.text.now c.loop-part.ids rest rest [] c.loop-part.invariant split none)

pub returns-then-not-push-2 : goal.returns-then-not-push-2
returns-then-not-push-2 c =
    let rest = c.loop-part.rest.now in
    let split : parts_of rest ≡ rest ∷ [] = search rules in
    let some : natural_up_to 65535 rest ≡ Some c.in_ok-last.last = sym c.natural-2.ensures.value ∙ c.in_ok-last.was in
    let full : 8 ≤ length c.loop-part.ids = search rules in
    sym (full_part c.args.text.now c.loop-part.ids rest rest [] c.in_ok-last.last c.loop-part.invariant split some full)

pub returns : goal.returns
returns c =
    let rest = c.loop-part.rest.now in
    let last = c.in_ok-last.last in
    let split : parts_of rest ≡ rest ∷ [] = search rules in
    let some : natural_up_to 65535 rest ≡ Some last = sym c.natural-2.ensures.value ∙ c.in_ok-last.was in
    let room : length c.loop-part.ids < 8 = search rules in
    let pushed : c.push-2.new.self ≡ c.loop-part.ids ++ last ∷ [] = search rules in
    rw pushed (last_part c.args.text.now c.loop-part.ids rest last c.loop-part.invariant split some room)
