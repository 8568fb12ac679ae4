-- What a snapshot shows, in numbers.
use Rattle.std.proofs.Common.{◌≡◌, ◌≢◌, ◌⊎◌, ℕ, ◌+◌, ◌==◌, Bool, true, false, List, Option, inl, inr, ℤ, pos, ◌+ℤ◌, ◌-ℤ◌, refl, sym, ap, ◌∙◌, subst, arith}
use Rattle.std.proofs.lemmas.Int.{ints}
use Rattle.std.proofs.lemmas.Bool.{eq-eqb, eqb-true, eqb-false, ne_eqb}
use Rattle.arena_geo.specs.declared.vec3.Vec3.{Vec3}
use Rattle.arena_geo.specs.Vectors.{vector}
use Rattle.arena_geo.specs.Boxes.{touches_on, touches, box_grown_by}
use Rattle.arena_geo.proofs.Containment.{three_pass, all_three}
use Rattle.entity_recs.specs.declared.kind.Kind.{Kind}
use Rattle.entity_recs.specs.declared.kind.Kind.TheVariants.{Player, Ammo, Gem, Teleporter, Goal, Lift}
use Rattle.entity_recs.specs.declared.rec.Rec.{Rec}
use Rattle.entity_recs.specs.Laws.{IsItem}
use Rattle.entity_recs.specs.Bodies.{growth_of, body_of, abs_of}
use Rattle.world_tree.specs.Live.{AreEntries}
use Rattle.snapshot_write.specs.declared.seen.Seen.{Seen}
use Rattle.snapshot_write.specs.Snapshots.{view_of}
use Rattle.snapshot_write.specs.Shown.{is_here, IsInSight}
use Rattle.snapshot_write.specs.InSight.{ComesWithin, IsBodyWithin, IsWithinSight, IsOfOneInSight, ShowWhatIsWithinSight}
use Rattle.snapshot_write.proofs.Sights.{in_sight, sight_in}

-- ---- one axis

-- what is larger by so much touches a view that is so much shorter
within-of : (far grow sight : ℕ) (place lo hi : ℤ) → far ≡ sight + grow → touches_on (lo -ℤ pos grow) (hi +ℤ pos grow) (place -ℤ pos sight) (place +ℤ pos sight) ≡ true
    → ComesWithin far place lo hi
within-of far grow sight place lo hi far_is h = record { begins_soon = grind (arith, ints); ends_late = grind (arith, ints) }

touches-of : (far grow sight : ℕ) (place lo hi : ℤ) → far ≡ sight + grow → ComesWithin far place lo hi
    → touches_on (lo -ℤ pos grow) (hi +ℤ pos grow) (place -ℤ pos sight) (place +ℤ pos sight) ≡ true
touches-of far grow sight place lo hi far_is near =
    let soon = near.begins_soon in
    let late = near.ends_late in
    grind (arith, ints)

-- ---- the growths

item_growth : (kind : Kind) → IsItem kind → growth_of kind ≡ vector (pos 3840) (pos 3840) (pos 0)
item_growth kind (inl is) = ap growth_of is
item_growth kind (inr is) = ap growth_of is

other_growth : (kind : Kind) → kind ≢ Ammo → kind ≢ Gem → growth_of kind ≡ vector (pos 256) (pos 256) (pos 256)
other_growth Player not_ammo not_gem = refl
other_growth Ammo not_ammo not_gem = absurd (not_ammo refl)
other_growth Gem not_ammo not_gem = absurd (not_gem refl)
other_growth Teleporter not_ammo not_gem = refl
other_growth Goal not_ammo not_gem = refl
other_growth Lift not_ammo not_gem = refl

-- an item, or something else
item_or_not : (kind : Kind) → IsItem kind ⊎ ((kind ≢ Ammo) × (kind ≢ Gem))
item_or_not Player = inr (λ e. cc, λ e. cc)
item_or_not Ammo = inl (inl refl)
item_or_not Gem = inl (inr refl)
item_or_not Teleporter = inr (λ e. cc, λ e. cc)
item_or_not Goal = inr (λ e. cc, λ e. cc)
item_or_not Lift = inr (λ e. cc, λ e. cc)

-- ---- the three axes

module _ (flat high grow_flat grow_high : ℕ) (me it : Rec) (flat_is : flat ≡ 262144 + grow_flat) (high_is : high ≡ 131072 + grow_high)
    (growth_is : growth_of it.kind ≡ vector (pos grow_flat) (pos grow_flat) (pos grow_high)) where
  body_within : touches (abs_of it) (view_of me.origin) ≡ true → IsBodyWithin flat high me it
  body_within h =
      let grown_so = subst (λ (growth : Vec3). touches (box_grown_by (body_of it) growth) (view_of me.origin) ≡ true) growth_is h in
      let t = three_pass _ _ _ grown_so in
      record {
        x = within-of flat grow_flat 262144 me.origin.x _ _ flat_is t.x;
        y = within-of flat grow_flat 262144 me.origin.y _ _ flat_is t.y;
        z = within-of high grow_high 131072 me.origin.z _ _ high_is t.z;
      }

  body_touches : IsBodyWithin flat high me it → touches (abs_of it) (view_of me.origin) ≡ true
  body_touches near =
      subst (λ (growth : Vec3). touches (box_grown_by (body_of it) growth) (view_of me.origin) ≡ true) (sym growth_is)
      (all_three
      (touches-of flat grow_flat 262144 me.origin.x _ _ flat_is near.x)
      (touches-of flat grow_flat 262144 me.origin.y _ _ flat_is near.y)
      (touches-of high grow_high 131072 me.origin.z _ _ high_is near.z))

near_of : (me it : Rec) → touches (abs_of it) (view_of me.origin) ≡ true → IsWithinSight me it
near_of me it h = record {
  item = λ is. body_within 265984 131072 3840 0 me it refl refl (item_growth it.kind is) h;
  other = λ not_ammo not_gem. body_within 262400 131328 256 256 me it refl refl (other_growth it.kind not_ammo not_gem) h;
}

touched_of : (me it : Rec) → IsWithinSight me it → touches (abs_of it) (view_of me.origin) ≡ true
touched_of me it near = by (item_or_not it.kind)
  where
    by : IsItem it.kind ⊎ ((it.kind ≢ Ammo) × (it.kind ≢ Gem)) → touches (abs_of it) (view_of me.origin) ≡ true
    by (inl is) = body_touches 265984 131072 3840 0 me it refl refl (item_growth it.kind is) (near.item is)
    by (inr not) = body_touches 262400 131328 256 256 me it refl refl (other_growth it.kind not.0 not.1) (near.other not.0 not.1)

-- ---- whether it is there

item_here : (kind : Kind) (state : ℕ) → IsItem kind → is_here kind state ≡ (state == 0)
item_here kind state (inl is) = ap (λ k. is_here k state) is
item_here kind state (inr is) = ap (λ k. is_here k state) is

other_here : (kind : Kind) (state : ℕ) → kind ≢ Ammo → kind ≢ Gem → is_here kind state ≡ true
other_here Player state not_ammo not_gem = refl
other_here Ammo state not_ammo not_gem = absurd (not_ammo refl)
other_here Gem state not_ammo not_gem = absurd (not_gem refl)
other_here Teleporter state not_ammo not_gem = refl
other_here Goal state not_ammo not_gem = refl
other_here Lift state not_ammo not_gem = refl

is_zero : (n : ℕ) → n ≡ 0 → (n == 0) ≡ true
is_zero n e = eq-eqb n 0 e

not_zero : (n : ℕ) → n ≢ 0 → (n == 0) ≡ false
not_zero n apart = ne_eqb n 0 apart

-- ---- what is shown

in_numbers : (records : List (Option Rec)) (me : Rec) (s : Seen) → IsInSight records me s → IsOfOneInSight records me s
in_numbers records me s sight =
    let it = sight.it in
    let here : s.here ≡ is_here it.kind it.state = ap (λ (t : Seen). t.here) sight.is in
    record {
      it = it;
      live = sight.live;
      other = sight.other;
      near = near_of me it sight.touched;
      kind_is = ap (λ (t : Seen). t.kind) sight.is;
      origin_is = ap (λ (t : Seen). t.origin) sight.is;
      away = λ is apart. here ∙ item_here it.kind it.state is ∙ not_zero it.state apart;
      item_there = λ is e. here ∙ item_here it.kind it.state is ∙ is_zero it.state e;
      there = λ not_ammo not_gem. here ∙ other_here it.kind it.state not_ammo not_gem;
    }

module _ (records : List (Option Rec)) (me : Rec) (s : Seen) (one : IsOfOneInSight records me s) where
  here_is : s.here ≡ is_here one.it.kind one.it.state
  here_is = by (item_or_not one.it.kind)
    where
      with_state : (b : Bool) → (one.it.state == 0) ≡ b → IsItem one.it.kind → s.here ≡ is_here one.it.kind one.it.state
      with_state true e is =
          let zero_is = eqb-true one.it.state 0 e in
          one.item_there is zero_is ∙ sym (item_here one.it.kind one.it.state is ∙ e)
      with_state false e is =
          let apart : one.it.state ≢ 0 = eqb-false one.it.state 0 e in
          one.away is apart ∙ sym (item_here one.it.kind one.it.state is ∙ e)

      by : IsItem one.it.kind ⊎ ((one.it.kind ≢ Ammo) × (one.it.kind ≢ Gem)) → s.here ≡ is_here one.it.kind one.it.state
      by (inl is) = with_state (one.it.state == 0) refl is
      by (inr not) = one.there not.0 not.1 ∙ sym (other_here one.it.kind one.it.state not.0 not.1)

  of_numbers : AreEntries records → IsInSight records me s
  of_numbers entries =
      let own : s.id ≡ one.it.id = sym (entries s.id one.it one.live).own_id in
      record {
        it = one.it;
        live = one.live;
        other = one.other;
        touched = touched_of me one.it one.near;
        is = λ i. record { id = own i; kind = one.kind_is i; here = here_is i; origin = one.origin_is i };
      }

pub show_what_is_within_sight : ShowWhatIsWithinSight
show_what_is_within_sight records frame slot me entries live s = (
  λ shows. in_numbers records me s (in_sight records me entries s shows),
  λ one. sight_in records me s (of_numbers records me s one entries),
)
