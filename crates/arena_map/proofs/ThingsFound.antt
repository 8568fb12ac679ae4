-- The line of the thing with an id.
use Rattle.std.proofs.Common.{◌≡◌, ℕ, ◌-◌, ◌<◌, ◌≤◌, true, cond, nat_lt, nat_le, List, length, get_or, Option, Some, None, is_some, IfSome, option_copied, slice_get, unwrap_or, inl, inr, refl, sym, ap, ◌∙◌, arith, Bor}
use Rattle.std.proofs.lemmas.Bool.Decides.{nat_tests}
use Rattle.std.proofs.lemmas.Option.{slice_get_past, slice_get_cases, unwrap_or-slice_get, none-some}
use Rattle.arena_map.specs.declared.map_line.MapLine.{MapLine}
use Rattle.arena_map.specs.Maps.{MapView, thing_of}

-- an element that is there
there : (things : List MapLine) (i : ℕ) (x : MapLine) (o : Option MapLine) → slice_get things i ≡ o → i < length things → x ≡ get_or things i x → Some x ≡ o
there things i x None e within is = elim (slice_get_cases things i).1 [
  | inl found ↦ absurd (none-some found.0 (sym e ∙ found.2))
  | inr past ↦ absurd (omega (arith, within, past.0))
]
there things i x (Some y) e within is = ap Some (is ∙ sym (unwrap_or-slice_get things i x) ∙ ap (λ o. unwrap_or o x) e)

-- a copy of the element at a place, where there is one
pub copied-get : (r : Option (Bor MapLine)) (things : List MapLine) (i : ℕ) → is_some r ≡ nat_lt i (length things) → IfSome r (λ x. x.now ≡ get_or things i x.now)
    → option_copied r ≡ slice_get things i
copied-get None things i some is =
    let past : length things ≤ i = grind (arith, nat_tests) in
    sym (slice_get_past things i past)
copied-get (Some x) things i some is =
    let within : i < length things = grind (arith, nat_tests) in
    there things i x.now (slice_get things i) refl within is

-- the thing at the place of its id
pub thing-found : (map : MapView) (id place : ℕ) (o : Option MapLine) → 64 ≤ id → place ≡ id - 64 → o ≡ slice_get map.things place → o ≡ thing_of map id
thing-found map id place o from at is =
    let low : nat_le 64 id ≡ true = grind (arith, nat_tests) in
    is ∙ ap (slice_get map.things) at ∙ sym (ap (λ b. cond b (slice_get map.things (id - 64)) None) low)
