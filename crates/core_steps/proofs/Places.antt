-- The places of a legal history are its numbers in order, and each is in one log.
use Rattle.std.proofs.Common.{◌≡◌, ℕ, ◌+◌, List, [], ◌∷◌, ◌++◌, length, refl, sym, ap, ◌∙◌, subst, append_assoc, length-append}
use Rattle.std.specs.List.{range_with_len}
use Rattle.std.specs.List.Sorted.{IsStrictlyIncreasing, IsPermutation}
use Rattle.std.proofs.lemmas.List.Elements.{All-weaker}
use Rattle.std.proofs.lemmas.List.Sorted.{IsPermutation-map}
use Rattle.entity_recs.specs.Worlds.{World}
use Rattle.entity_recs.specs.Histories.{Action, Item, IsLegal, places_of}
use Rattle.core_steps.specs.Reads.{Ended}
use Rattle.core_steps.specs.Stands.{IsLogWithin, items_of}
use Rattle.core_steps.specs.MachineLaws.{EachPlaceIsLoggedOnce}

-- the rest of a legal history has the places from the number of the items before it on
places_from : (act : Action) (start : World) (history before rest : List Item) → IsLegal act start history → history ≡ before ++ rest → places_of rest ≡ range_with_len (length before) (length rest)
places_from act start history before [] is split = refl
places_from act start history before (item ∷ rest) is split =
    let here = ap (λ e. e.place) (is.each before item rest split) in
    let longer : history ≡ (before ++ item ∷ []) ++ rest = split ∙ sym (append_assoc before (item ∷ []) rest) in
    let more = places_from act start history (before ++ item ∷ []) rest is longer in
    let next : length (before ++ item ∷ []) ≡ length before + 1 = length-append before (item ∷ []) in
    ap (λ (n : ℕ). n ∷ places_of rest) here ∙ ap (λ (ns : List ℕ). length before ∷ ns) (more ∙ ap (λ (n : ℕ). range_with_len n (length rest)) next)

pub each_place_is_logged_once : EachPlaceIsLoggedOnce
each_place_is_logged_once F core history now is =
    let in_order : places_of history ≡ range_with_len 0 core.words.commits =
    places_from F.effect_of F.start history [] history is.legal refl ∙ ap (range_with_len 0) (sym is.count) in
    record {
      in_order = in_order;
      in_logs = subst (λ (ns : List ℕ). IsPermutation ns (places_of (items_of core.view))) in_order
          (IsPermutation-map (λ (item : Item). item.entry.place) history (items_of core.view) is.items);
      rising = λ i. (is.seats i).counted.within.rising;
      rising_ended = All-weaker (λ (e : Ended). IsLogWithin core.words.commits e.room e.log) (λ (e : Ended). IsStrictlyIncreasing (places_of e.log)) (λ e within. within.rising) (core.view 0).ended is.ended;
    }
