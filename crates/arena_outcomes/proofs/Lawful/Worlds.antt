-- The records that are taken are those of valid worlds.
use Rattle.std.proofs.Common.{◌≡◌, ℕ, ◌<◌, ◌≤◌, true, false, ◌&&◌, ℤ, ◌+ℤ◌, ◌≤ℤ◌, int_le, Option, Some, None, is_some, refl, sym, ap, ◌∙◌, subst, arith}
use Rattle.std.proofs.lemmas.Bool.{eq-eqb}
use Rattle.std.proofs.lemmas.Bool.Decides.{Decides-int_eq}
use Rattle.std.proofs.lemmas.Int.{ints}
use Rattle.entity_recs.specs.declared.kind.Kind.{Kind}
use Rattle.entity_recs.specs.declared.kind.Kind.TheVariants.{Player, Ammo, Gem, Teleporter, Goal, Lift}
use Rattle.entity_recs.specs.declared.rec.Rec.{Rec}
use Rattle.entity_recs.specs.Kinds.{number_of}
use Rattle.entity_recs.specs.Records.{IsIdOf, IsRecord}
use Rattle.arena_map.specs.declared.lift.Lift as lifts
use Rattle.arena_map.specs.MapLines as lines
use Rattle.arena_map.specs.Maps.{MapView, lift_of}
use Rattle.arena_map.specs.Validity.{IsSameThing, IsSameLift, IsAsItsLine, IsThing, IsValidRecord}
use Rattle.arena_map.specs.Laws.{HasData}
use Rattle.arena_map.proofs.ThingData.{data_follow_kinds, live_records_have_data}
use Rattle.arena_outcomes.specs.Takes.{has_numbers, has_shape_of, is_thing, is_lift, thing_with, is_one_of, takes}
use Rattle.arena_outcomes.specs.Worlds.{ValidRecordsAreTaken, TakenRecordsAreValid}
use Rattle.arena_outcomes.proofs.Lawful.Taking.{HasNumbers, test_of_numbers, test_of_same, taken_as, thing_of_test, lift_of_test, IsThingsRecord, IsLiftsRecord, thing_has_id, taken_is_record, taken_is_player, player_is_taken}

-- ---- valid records are taken

test_of_shape : (thing r : Rec) → r.kind ≡ thing.kind → r.mins ≡ thing.mins → r.maxs ≡ thing.maxs
    → has_shape_of thing r ≡ true
test_of_shape thing r kind mins maxs =
    rw (eq-eqb (number_of r.kind) (number_of thing.kind) (ap number_of kind), test_of_same r.mins thing.mins mins, test_of_same r.maxs thing.maxs maxs) refl

test_of_thing : (thing r : Rec) → IsSameThing thing r → is_thing (Some thing) r ≡ true
test_of_thing thing r same =
    rw (test_of_shape thing r same.kind same.mins same.maxs, test_of_same r.origin thing.origin same.origin) refl

test_of_lift : (lift : lifts.Lift) (thing r : Rec) → IsSameLift lift thing r → is_lift (Some lift) (Some thing) r ≡ true
test_of_lift lift thing r same =
    rw (test_of_shape thing r same.kind same.mins same.maxs, (Decides-int_eq r.origin.x thing.origin.x).1 same.x, (Decides-int_eq r.origin.y thing.origin.y).1 same.y, at_most lift.low r.origin.z same.low, at_most r.origin.z (lift.low +ℤ lift.rise) same.high)
    refl
  where
    at_most : (m n : ℤ) → m ≤ℤ n → int_le m n ≡ true
    at_most m n h = grind (arith, ints)

-- what is as the line of a thing that is no lift passes the test of things
passes_thing : (arena : MapView) (r : Rec) (o : Option Rec)
    → ((thing : Rec) → o ≡ Some thing → lift_of arena thing.id ≡ None) → IsThing arena o (Some r) → is_thing o r ≡ true
passes_thing arena r None none as_line = absurd as_line
passes_thing arena r (Some thing) none as_line =
    test_of_thing thing r (subst (λ (l : Option lifts.Lift). IsAsItsLine l thing r) (none thing refl) as_line)

-- and that of a lift the test of lifts
passes_lift : (arena : MapView) (r : Rec) (l : Option lifts.Lift) (o : Option Rec) → is_some l ≡ true
    → ((thing : Rec) → o ≡ Some thing → lift_of arena thing.id ≡ l) → IsThing arena o (Some r) → is_lift l o r ≡ true
passes_lift arena r None o some same as_line = cc
passes_lift arena r (Some lift) None some same as_line = absurd as_line
passes_lift arena r (Some lift) (Some thing) some same as_line =
    test_of_lift lift thing r (subst (λ (l : Option lifts.Lift). IsAsItsLine l thing r) (same thing refl) as_line)

no_lift : (l : Option lifts.Lift) → is_some l ≡ false → l ≡ None
no_lift None e = refl
no_lift (Some lift) e = cc

pub valid_is_taken : ValidRecordsAreTaken
unfolding takes
valid_is_taken arena records id r is_map valid at score seq = by r.kind refl
  where
    each : IsValidRecord arena id r
    each = valid.each id r at

    numbers : HasNumbers r
    numbers = record {
      origin = each.is_record.origin;
      vel = each.is_record.vel;
      flags = each.is_record.flags;
      ammo = each.is_record.ammo;
      carry = each.is_record.carry;
      score = score;
      seq = seq;
    }

    -- its thing
    as_line : 64 ≤ r.id → IsThing arena (thing_with arena r.id) (Some r)
    as_line low =
        let low_id : 64 ≤ id = omega (arith, low, each.own_id) in
        subst (λ (n : ℕ). IsThing arena (thing_with arena n) (Some r)) (sym each.own_id) (subst (IsThing arena (thing_with arena id)) at (valid.things id low_id))

    lift_is : is_some (lift_of arena r.id) ≡ lines.is_lift r.kind
    lift_is =
        subst (λ (n : ℕ). is_some (lift_of arena n)
        ≡ lines.is_lift r.kind) (sym each.own_id) (live_records_have_data arena records id r is_map valid at).2

    with : is_one_of r.kind arena r ≡ true → (has_numbers r && is_one_of r.kind arena r) ≡ true
    with one = rw (test_of_numbers r numbers, one) refl

    thing : (k : Kind) → r.kind ≡ k → lines.is_lift k ≡ false → 64 ≤ r.id → is_thing (thing_with arena r.id) r ≡ true
    thing k kind none low =
        let none_there = no_lift (lift_of arena r.id) (lift_is ∙ ap lines.is_lift kind ∙ none) in
        passes_thing arena r (thing_with arena r.id) (λ t found. ap (lift_of arena) (thing_has_id arena r.id t is_map found) ∙ none_there) (as_line low)

    of : (k : Kind) → r.kind ≡ k → is_one_of k arena r ≡ true → takes arena r ≡ true
    of k kind one = with (subst (λ (j : Kind). is_one_of j arena r ≡ true) (sym kind) one)

    low_of : (k : Kind) → r.kind ≡ k → (IsIdOf k r.id → 64 ≤ r.id) → 64 ≤ r.id
    low_of k kind low = low (subst (λ (j : Kind). IsIdOf j r.id) kind each.is_record.id)

    by : (k : Kind) → r.kind ≡ k → takes arena r ≡ true
    by Player kind =
        player_is_taken arena r (record {
          kind = kind;
          is_record = each.is_record;
          score = omega (arith, score);
          inside = each.inside kind;
        }) seq
    by Ammo kind = of Ammo kind (thing Ammo kind refl (low_of Ammo kind (λ is. is.least)))
    by Gem kind = of Gem kind (thing Gem kind refl (low_of Gem kind (λ is. is.least)))
    by Teleporter kind = of Teleporter kind (thing Teleporter kind refl (low_of Teleporter kind (λ is. is.least)))
    by Goal kind = of Goal kind (thing Goal kind refl (low_of Goal kind (λ is. is.least)))
    by Lift kind =
        of Lift kind
        (passes_lift arena r (lift_of arena r.id) (thing_with arena r.id) (lift_is
        ∙ ap lines.is_lift kind) (λ t found. ap (lift_of arena) (thing_has_id arena r.id t is_map found)) (as_line (low_of Lift kind (λ is. is.least))))

-- ---- taken records are valid

pub taken_is_valid : TakenRecordsAreValid
taken_is_valid arena r is_map h state = record {
  valid = record {
    is_record = is;
    own_id = refl;
    state = state;
    inside = λ kind. (taken_is_player arena r is_map h kind).inside;
  };
  thing = by r.kind refl (taken_as arena r h).one;
}
  where
    is : IsRecord r
    is = taken_is_record arena r is_map h

    -- the thing is that of a line without the data of a lift, where the record is no lift's
    has_data : (thing : Rec) → thing_with arena r.id ≡ Some thing → HasData arena r.id (Some thing)
    has_data thing found = subst (HasData arena r.id) found (data_follow_kinds arena r.id is_map)

    of_thing : (k : Kind) → r.kind ≡ k → lines.is_lift k ≡ false → IsThingsRecord arena r
        → IsThing arena (thing_with arena r.id) (Some r)
    of_thing k kind none t =
        let none_there : lift_of arena r.id ≡ None =
        no_lift (lift_of arena r.id) ((has_data t.thing t.found).2 ∙ ap lines.is_lift (sym t.same.kind ∙ kind)
        ∙ none) in
        let none_here : lift_of arena t.thing.id ≡ None =
        ap (lift_of arena) (thing_has_id arena r.id t.thing is_map t.found) ∙ none_there in
        subst (λ (o : Option Rec). IsThing arena o (Some r)) (sym t.found) (subst (λ (l : Option lifts.Lift). IsAsItsLine l t.thing r) (sym none_here) t.same)

    of_lift : IsLiftsRecord arena r → IsThing arena (thing_with arena r.id) (Some r)
    of_lift t =
        let here : lift_of arena t.thing.id ≡ Some t.lift =
        ap (lift_of arena) (thing_has_id arena r.id t.thing is_map t.found) ∙ t.data_are in
        subst (λ (o : Option Rec). IsThing arena o (Some r)) (sym t.found) (subst (λ (l : Option lifts.Lift). IsAsItsLine l t.thing r) (sym here) t.same)

    slot : r.kind ≡ Player → 64 ≤ r.id → ⊥
    slot kind low = let below : r.id < 64 = subst (λ (k : Kind). IsIdOf k r.id) kind is.id in omega (arith, below, low)

    by : (k : Kind) → r.kind ≡ k → is_one_of k arena r ≡ true → 64 ≤ r.id
        → IsThing arena (thing_with arena r.id) (Some r)
    by Player kind one low = absurd (slot kind low)
    by Ammo kind one low = of_thing Ammo kind refl (thing_of_test arena r (thing_with arena r.id) refl one)
    by Gem kind one low = of_thing Gem kind refl (thing_of_test arena r (thing_with arena r.id) refl one)
    by Teleporter kind one low = of_thing Teleporter kind refl (thing_of_test arena r (thing_with arena r.id) refl one)
    by Goal kind one low = of_thing Goal kind refl (thing_of_test arena r (thing_with arena r.id) refl one)
    by Lift kind one low = of_lift (lift_of_test arena r (lift_of arena r.id) (thing_with arena r.id) refl refl one)
