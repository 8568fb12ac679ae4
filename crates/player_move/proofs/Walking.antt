-- What the stairs and a walk are, step by step.
use Rattle.std.proofs.Common.{◌≡◌, ℕ, Bool, true, false, not, ◌&&◌, if◌then◌else◌, List, refl, sym, ap, ◌∙◌, subst}
use Rattle.arena_geo.specs.declared.vec3.Vec3.{Vec3}
use Rattle.arena_geo.specs.Vectors.{plus}
use Rattle.arena_geo.specs.Bounds.{Bounds}
use Rattle.arena_geo.specs.Boxes.{box_moved_by}
use Rattle.box_trace.specs.declared.hit.Hit.{Hit}
use Rattle.box_trace.specs.Steps.{shift_at}
use Rattle.box_trace.specs.Traces.{trace_of}
use Rattle.slide_move.specs.declared.slid.Slid.{Slid}
use Rattle.slide_move.specs.Slides.{slide_of}
use Rattle.player_move.specs.declared.walk.Walked.{Walked}
use Rattle.player_move.specs.Walks.{upwards, downwards, level, stairs_of, are_taken, walk_of}

-- the stairs out of their steps
pub stairs_by_steps : (body : Bounds) (vel : Vec3) (ms : ℕ) (solids : List Bounds) (rise : Vec3) (first : Hit) (up : Vec3) (above : Bounds) (flat : Vec3) (along : Slid) (shift : Vec3) (there : Bounds) (fall : Vec3) (last : Hit) (down end left : Vec3)
    → rise ≡ upwards 4608 → first ≡ trace_of body rise solids → up ≡ shift_at rise first.steps → above ≡ box_moved_by body up → flat ≡ level vel → along ≡ slide_of above flat ms solids → shift ≡ plus up along.shift → there ≡ box_moved_by body shift → fall ≡ downwards first.steps → last ≡ trace_of there fall solids → down ≡ shift_at fall last.steps → end ≡ plus shift down → left ≡ level along.vel
    → record { shift = end; vel = left } ≡ stairs_of body vel ms solids
unfolding stairs_of
stairs_by_steps body vel ms solids rise first up above flat along shift there fall last down end left rise_is first_is up_is above_is flat_is along_is shift_is there_is fall_is last_is down_is end_is left_is = cc

-- the slide, without whether it ran into something
abbrev pub plain_of : Slid → Walked
plain_of slid = record { shift = slid.shift; vel = slid.vel }

choose_first : (b : Bool) (stairs plain : Walked) → b ≡ true → stairs ≡ (if b then stairs else plain)
choose_first true stairs plain is = refl
choose_first false stairs plain is = cc

choose_second : (b : Bool) (stairs plain : Walked) → b ≡ false → plain ≡ (if b then stairs else plain)
choose_second true stairs plain is = cc
choose_second false stairs plain is = refl

not_first : (a b c : Bool) → a ≡ false → (a && b && c) ≡ false
not_first true b c is = cc
not_first false b c is = refl

not_second : (a b c : Bool) → not b ≡ true → (a && b && c) ≡ false
not_second true true c is = cc
not_second true false c is = refl
not_second false b c is = refl

not_third : (a b c : Bool) → c ≡ false → (a && b && c) ≡ false
not_third true true c is = is
not_third true false c is = refl
not_third false b c is = refl

all_three : (a b c : Bool) → a ≡ true → not b ≡ false → c ≡ true → (a && b && c) ≡ true
all_three true true c p q r = r
all_three true false c p q r = cc
all_three false b c p q r = cc

module _ (walks : Bool) (body : Bounds) (vel : Vec3) (ms : ℕ) (solids : List Bounds) where
  plain : Slid
  plain = slide_of body vel ms solids

  stairs : Walked
  stairs = stairs_of body vel ms solids

  -- whether the stairs are taken
  takes : Bool
  takes = walks && plain.side && are_taken body stairs.shift plain.shift solids

  plain_where_not : takes ≡ false → plain_of plain ≡ walk_of walks body vel ms solids
  unfolding walk_of takes plain stairs
  plain_where_not is = choose_second _ stairs (plain_of plain) is

  stairs_where : takes ≡ true → stairs ≡ walk_of walks body vel ms solids
  unfolding walk_of takes plain stairs
  stairs_where is = choose_first _ stairs (plain_of plain) is

  pub plain_where_flying : (slid : Slid) → walks ≡ false → slid ≡ slide_of body vel ms solids → plain_of slid ≡ walk_of walks body vel ms solids
  unfolding takes plain
  plain_where_flying slid flies is = ap plain_of is ∙ plain_where_not (not_first walks _ _ flies)

  pub plain_without_side : (slid : Slid) → not slid.side ≡ true → slid ≡ slide_of body vel ms solids → plain_of slid ≡ walk_of walks body vel ms solids
  unfolding takes plain
  plain_without_side slid none is =
      let P : Slid → Type 0 = λ s. not s.side ≡ true in
      ap plain_of is ∙ plain_where_not (not_second walks plain.side _ (subst P is none))

  module _ (slid : Slid) (climbed : Walked) (taken : Bool) where
    taken_is : slid ≡ slide_of body vel ms solids → climbed ≡ stairs_of body vel ms solids → taken ≡ are_taken body climbed.shift slid.shift solids → taken ≡ are_taken body stairs.shift plain.shift solids
    unfolding plain stairs
    taken_is slid_is climbed_is is =
        is
        ∙ ap (λ (w : Walked). are_taken body w.shift slid.shift solids) climbed_is
        ∙ ap (λ (s : Slid). are_taken body (stairs_of body vel ms solids).shift s.shift solids) slid_is

    pub stairs_taken : walks ≡ true → not slid.side ≡ false → slid ≡ slide_of body vel ms solids → climbed ≡ stairs_of body vel ms solids → taken ≡ are_taken body climbed.shift slid.shift solids → taken ≡ true → climbed ≡ walk_of walks body vel ms solids
    unfolding takes plain stairs
    stairs_taken walking some slid_is climbed_is is holds =
        let P : Slid → Type 0 = λ s. not s.side ≡ false in
        climbed_is ∙ stairs_where (all_three walks plain.side _ walking (subst P slid_is some) (sym (taken_is slid_is climbed_is is) ∙ holds))

    pub stairs_left : slid ≡ slide_of body vel ms solids → climbed ≡ stairs_of body vel ms solids → taken ≡ are_taken body climbed.shift slid.shift solids → taken ≡ false → plain_of slid ≡ walk_of walks body vel ms solids
    unfolding takes plain stairs
    stairs_left slid_is climbed_is is fails =
        ap plain_of slid_is ∙ plain_where_not (not_third walks plain.side _ (sym (taken_is slid_is climbed_is is) ∙ fails))
