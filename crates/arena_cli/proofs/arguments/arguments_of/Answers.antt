-- The arguments that are collected are those that were left.
use Rattle.std.proofs.Common.{◌≡◌, length, refl, sym, subst, IfOk, IsOkAnd, vec_len}
use Rattle.std.specs.Vec.Iter.{into_iter_items}
use Rattle.std.proofs.lemmas.Iterator.Adapters.{YieldsList-from_vec, fact_from_collect}
use Rattle.arena_cli.proofs.arguments.arguments_of.Goals as goal

pub returns-clause-all : goal.returns-clause-all
returns-clause-all c =
    let given = c.in_ok-arguments.field-0 in
    let all = fact_from_collect (λ xs v. (v.items ≡ xs) × (vec_len v ≡ length xs)) c.collect.result c.collect.ensures.ran
    (YieldsList-from_vec {s = given} (into_iter_items given) refl given.rest.ok.0) in
    let here = subst (λ r. IfOk r (λ v. (v.items ≡ into_iter_items given) × (vec_len v ≡ length (into_iter_items given)))) c.in_ok-collect.was all in
    subst (λ a. IsOkAnd a (λ args. c.in_ok-collect.field-0.items ≡ into_iter_items args)) (sym c.in_ok-arguments.was) here.0
