-- What a player has in the end: its ammunition, and the gems that it carries and has brought in.
use Rattle.std.proofs.Common.{◌≡◌, ◌≢◌, ℕ, ◌+◌, ◌-◌, ◌*◌, ◌<◌, ◌≤◌, ◌==◌, min, Bool, true, false, if◌then◌else◌, List, [], ◌∷◌, ◌++◌, fold, refl, sym, ap, ◌∙◌, subst, inl, inr, arith}
use Rattle.std.proofs.lemmas.List.Elements.{recursion_from_All}
use Rattle.std.proofs.lemmas.List.Sums.{fold-append}
use Rattle.arena_geo.specs.Bounds.{Bounds}
use Rattle.entity_recs.specs.declared.kind.Kind.{Kind}
use Rattle.entity_recs.specs.declared.kind.Kind.TheVariants.{Player, Ammo, Gem, Teleporter, Goal, Lift}
use Rattle.entity_recs.specs.declared.rec.Rec.{Rec}
use Rattle.entity_recs.specs.Kinds.{number_of}
use Rattle.arena_map.specs.Maps.{MapView}
use Rattle.item_rules.specs.Items.{may_take, with_item, after_item}
use Rattle.trigger_rules.specs.Touching.{touched_by, solids_among, Walk, walk_of, first_walk, player_after_goal, after_kind, after_trigger, touched}
use Rattle.trigger_rules.specs.Laws.{HasFewThings, count_got, AmmunitionIsCounted, IsScoreOf, ScoresAreCounted, NoGemIsLost, HaveNoGoal, AreCarried, GoalsTakeWhatIsCarried}
use Rattle.trigger_rules.proofs.Steps.{IsTake, Step, step, item-change, true-false}
use Rattle.trigger_rules.proofs.Taken.{few-through, score-through, Rises, IsBelow, below-step, touched-rise, none-below}
use Rattle.trigger_rules.proofs.Counting.{IsOther, counted-between, counted, each}
use Rattle.trigger_rules.proofs.Doing.{good-before, on-step}

-- ---- what an item gives

with-item : (me item : Rec) → may_take me item ≡ true → after_item me item ≡ with_item me item.kind
with-item me item may = ap (λ (b : Bool). if b then with_item me item.kind else me) may

ammo-more : (me : Rec) (k : Kind) → number_of k ≡ 1 → (with_item me k).ammo ≡ min 100 (me.ammo + 20)
ammo-more me Player e = absurd (omega (arith, e))
ammo-more me Ammo e = refl
ammo-more me Gem e = absurd (omega (arith, e))
ammo-more me Teleporter e = absurd (omega (arith, e))
ammo-more me Goal e = absurd (omega (arith, e))
ammo-more me Lift e = absurd (omega (arith, e))

ammo-same : (me : Rec) (k : Kind) → (number_of k == 1) ≡ false → (with_item me k).ammo ≡ me.ammo
ammo-same me Player e = refl
ammo-same me Ammo e = absurd (true-false e)
ammo-same me Gem e = refl
ammo-same me Teleporter e = refl
ammo-same me Goal e = refl
ammo-same me Lift e = refl

carry-more : (me : Rec) (k : Kind) → number_of k ≡ 2 → (with_item me k).carry ≡ me.carry + 1
carry-more me Player e = absurd (omega (arith, e))
carry-more me Ammo e = absurd (omega (arith, e))
carry-more me Gem e = refl
carry-more me Teleporter e = absurd (omega (arith, e))
carry-more me Goal e = absurd (omega (arith, e))
carry-more me Lift e = absurd (omega (arith, e))

carry-same : (me : Rec) (k : Kind) → (number_of k == 2) ≡ false → (with_item me k).carry ≡ me.carry
carry-same me Player e = refl
carry-same me Ammo e = refl
carry-same me Gem e = absurd (true-false e)
carry-same me Teleporter e = refl
carry-same me Goal e = refl
carry-same me Lift e = refl

module _ (map : MapView) (solids : List Bounds) (frame : ℕ) (w next : Walk) (r : Rec) (t : IsTake map frame w r next) where
  taken-me : next.me ≡ with_item w.me r.kind
  taken-me = ap (λ (v : Walk). v.me) t.is ∙ with-item w.me r t.may

  taken-ammo : number_of r.kind ≡ 1 → next.me.ammo ≡ min 100 (w.me.ammo + 20)
  taken-ammo e = ap (λ (m : Rec). m.ammo) taken-me ∙ ammo-more w.me r.kind e

  kept-ammo : (number_of r.kind == 1) ≡ false → next.me.ammo ≡ w.me.ammo
  kept-ammo e = ap (λ (m : Rec). m.ammo) taken-me ∙ ammo-same w.me r.kind e

  taken-carry : number_of r.kind ≡ 2 → next.me.carry ≡ w.me.carry + 1
  taken-carry e = ap (λ (m : Rec). m.carry) taken-me ∙ carry-more w.me r.kind e

  kept-carry : (number_of r.kind == 2) ≡ false → next.me.carry ≡ w.me.carry
  kept-carry e = ap (λ (m : Rec). m.carry) taken-me ∙ carry-same w.me r.kind e

  kept-score : next.me.score ≡ w.me.score
  kept-score = ap (λ (v : Walk). v.me.score) t.is ∙ (item-change w.me r).score

-- ---- ammunition

same-ammo : (map : MapView) (solids : List Bounds) (frame : ℕ) (w next : Walk) (r : Rec) → IsOther Ammo map solids frame w r next → next.me.ammo ≡ w.me.ammo
same-ammo map solids frame w next r (inl e) = ap (λ (v : Walk). v.me.ammo) e
same-ammo map solids frame w next r (inr (inl t)) = kept-ammo map solids frame w next r t.0 t.1
same-ammo map solids frame w next r (inr (inr (inl goal))) = ap (λ (v : Walk). v.me.ammo) goal.is
same-ammo map solids frame w next r (inr (inr (inr l))) = ap (λ (v : Walk). v.me.ammo) l.is

-- over triggers whose ids rise
pub armed-of : (map : MapView) (solids : List Bounds) (frame : ℕ) (me : Rec) (rs : List Rec) → Rises 0 rs → HasFewThings me
    → let w = fold (after_trigger map solids frame) (first_walk me) rs in w.me.ammo ≡ min 100 (me.ammo + 20 * count_got Ammo rs w)
armed-of map solids frame me rs up few =
    let most = (few-through map solids frame me rs few).ammo in
    counted map solids frame Ammo (λ r. Unit {0}) (λ v. v.me.ammo) (λ c x y. y ≡ min 100 (x + 20 * c))
    (λ w next r t kind c y is. let e = taken-ammo map solids frame w next r t kind in omega (arith, e, is))
    (λ w next r q other. same-ammo map solids frame w next r other)
    0 (first_walk me) rs up none-below (each rs) (omega (arith, most))

pub ammunition_counted : AmmunitionIsCounted
unfolding touched
ammunition_counted map frame me near rise few = armed-of map (solids_among map near) frame me (touched_by me near) (touched-rise me near rise) few

-- ---- scores

-- what a player has in the end, where it takes so many gems from here on
record Scores (gems : ℕ) (me last : Rec) : Type 0 where
  carried : last.carry ≤ me.carry + gems
  score : last.score ≡ min 4294967295 (me.score + me.carry + gems - last.carry)

scores-more : (gems : ℕ) (me next last : Rec) → next.carry ≡ me.carry + 1 → next.score ≡ me.score → Scores gems next last → Scores (gems + 1) me last
scores-more gems me next last carry score is = record {
  carried = omega (arith, carry, is.carried);
  score = omega (arith, carry, score, is.carried, is.score);
}

scores-same : (gems : ℕ) (me next last : Rec) → next.carry ≡ me.carry → next.score ≡ me.score → Scores gems next last → Scores gems me last
scores-same gems me next last carry score is = record {
  carried = omega (arith, carry, is.carried);
  score = omega (arith, carry, score, is.carried, is.score);
}

-- at a goal the player leaves what it carries
scores-goal : (gems : ℕ) (me last : Rec) → Scores gems (player_after_goal me) last → Scores gems me last
scores-goal gems me last is = record {
  carried = omega (arith, is.carried);
  score = omega (arith, is.carried, is.score);
}

scores-other : (map : MapView) (solids : List Bounds) (frame gems : ℕ) (w next final : Walk) (r : Rec) → IsOther Gem map solids frame w r next → Scores gems next.me final.me → Scores gems w.me final.me
scores-other map solids frame gems w next final r (inl e) is = subst (λ (v : Walk). Scores gems v.me final.me) e is
scores-other map solids frame gems w next final r (inr (inl t)) is =
    scores-same gems w.me next.me final.me (kept-carry map solids frame w next r t.0 t.1) (kept-score map solids frame w next r t.0) is
scores-other map solids frame gems w next final r (inr (inr (inl goal))) is = scores-goal gems w.me final.me (subst (λ (v : Walk). Scores gems v.me final.me) goal.is is)
scores-other map solids frame gems w next final r (inr (inr (inr l))) is =
    scores-same gems w.me next.me final.me (ap (λ (v : Walk). v.me.carry) l.is) (ap (λ (v : Walk). v.me.score) l.is) is

scores-last : (me : Rec) → me.score ≤ 4294967295 → Scores 0 me me
scores-last me high = record { carried = omega arith; score = omega (arith, high) }

pub scores_counted : ScoresAreCounted
unfolding touched
scores_counted map frame me near rise high =
    let solids = solids_among map near in
    let rs = touched_by me near in
    let final = fold (after_trigger map solids frame) (first_walk me) rs in
    let is : Scores (count_got Gem rs final) me final.me =
    counted-between map solids frame Gem (λ r. Unit {0}) (λ c u v. Scores c u.me v.me)
    (λ w next r t kind c last. scores-more c w.me next.me last.me (taken-carry map solids frame w next r t kind) (kept-score map solids frame w next r t))
    (λ w next r q other c last. scores-other map solids frame c w next last r other)
    0 (first_walk me) rs (touched-rise me near rise) none-below (each rs) (scores-last final.me (score-through map solids frame me rs high).high) in
    record { carried = omega (arith, is.carried); score = is.score }

-- ---- gems

-- the score is below its end
IsBelowEnd : Walk → Type 0
IsBelowEnd w = w.me.score < 4294967295

below_end-step : (map : MapView) (solids : List Bounds) (frame : ℕ) (w next : Walk) (r : Rec) → Step map solids frame w r next → IsBelowEnd next → IsBelowEnd w
unfolding IsBelowEnd
below_end-step map solids frame w next r (inl same) good = subst IsBelowEnd same good
below_end-step map solids frame w next r (inr (inl t)) good = omega (arith, kept-score map solids frame w next r t, good)
below_end-step map solids frame w next r (inr (inr (inl goal))) good = omega (arith, subst IsBelowEnd goal.is good)
below_end-step map solids frame w next r (inr (inr (inr l))) good = subst IsBelowEnd l.is good

-- a score below its end is all that was brought in
none-lost : (gems : ℕ) (me : Rec) → IsScoreOf gems me → me.score < 4294967295 → me.score + me.carry ≡ gems
none-lost gems me is below = omega (arith, is.carried, is.score, below)

pub gems_kept : NoGemIsLost
unfolding touched IsBelowEnd
gems_kept map frame me near rise below =
    let f = after_trigger map (solids_among map near) frame in
    let before : me.score < 4294967295 = good-before f IsBelowEnd (λ v r good. below_end-step map (solids_among map near) frame v (f v r) r (step map (solids_among map near) frame v r) good) (first_walk me) (touched_by me near) below in
    let w = touched map frame me near in
    none-lost (me.score + me.carry + count_got Gem (touched_by me near) w) w.me (scores_counted map frame me near rise (omega (arith, before))) below

-- ---- goals

same-carry : (map : MapView) (solids : List Bounds) (frame : ℕ) (w next : Walk) (r : Rec) → r.kind ≢ Goal → IsOther Gem map solids frame w r next → next.me.carry ≡ w.me.carry
same-carry map solids frame w next r other (inl e) = ap (λ (v : Walk). v.me.carry) e
same-carry map solids frame w next r other (inr (inl t)) = kept-carry map solids frame w next r t.0 t.1
same-carry map solids frame w next r other (inr (inr (inl goal))) = absurd (other goal.kind)
same-carry map solids frame w next r other (inr (inr (inr l))) = ap (λ (v : Walk). v.me.carry) l.is

-- over triggers without a goal the gems that are got are carried
carried : (map : MapView) (solids : List Bounds) (frame n : ℕ) (w : Walk) (rs : List Rec) → Rises n rs → IsBelow n w.got → HaveNoGoal rs
    → let final = fold (after_trigger map solids frame) w rs in final.me.carry ≡ w.me.carry + count_got Gem rs final
carried map solids frame n w rs up is none =
    counted map solids frame Gem (λ r. r.kind ≢ Goal) (λ v. v.me.carry) (λ c x y. y ≡ x + c)
    (λ w next r t kind c y is. omega (arith, taken-carry map solids frame w next r t kind, is))
    (λ w next r q other. same-carry map solids frame w next r q other)
    n w rs up is (recursion_from_All (λ r. r.kind ≢ Goal) rs none) (omega arith)

-- the ids that follow rise above those that were got
pub record Follow (w : Walk) (rest : List Rec) : Type 0 where
  pub from : ℕ
  pub rise : Rises from rest
  pub below : IsBelow from w.got

pub follow : (map : MapView) (solids : List Bounds) (frame n : ℕ) (w : Walk) (before rest : List Rec) → Rises n (before ++ rest) → IsBelow n w.got → Follow (fold (after_trigger map solids frame) w before) rest
unfolding Rises
follow map solids frame n w [] rest up is = record { from = n; rise = up; below = is }
follow map solids frame n w (r ∷ before) rest up is =
    let next = after_trigger map solids frame w r in
    follow map solids frame (r.id + 1) next before rest up.1 (below-step map solids frame n w next r (step map solids frame w r) up.0 is)

at-goal : (map : MapView) (solids : List Bounds) (frame : ℕ) (w : Walk) (goal : Rec) → w.ended ≡ false → goal.kind ≡ Goal → after_trigger map solids frame w goal ≡ walk_of (player_after_goal w.me) w.states w.got w.ended
at-goal map solids frame w goal on kind =
    ap (λ (b : Bool). if b then w else after_kind goal.kind map solids frame w goal) on ∙ ap (λ (k : Kind). after_kind k map solids frame w goal) kind

-- after a goal
carried-after : (map : MapView) (solids : List Bounds) (frame : ℕ) (w : Walk) (goal : Rec) (after : List Rec) → Follow w (goal ∷ after) → w.ended ≡ false → goal.kind ≡ Goal → HaveNoGoal after
    → let final = fold (after_trigger map solids frame) w (goal ∷ after) in final.me.carry ≡ count_got Gem after final
unfolding Rises
carried-after map solids frame w goal after at on kind none =
    let next = after_trigger map solids frame w goal in
    let empty : next.me.carry ≡ 0 = ap (λ (v : Walk). v.me.carry) (at-goal map solids frame w goal on kind) in
    let is = carried map solids frame (goal.id + 1) next after at.rise.1 (below-step map solids frame at.from w next goal (step map solids frame w goal) at.rise.0 at.below) none in
    omega (arith, empty, is)

carried-since : (map : MapView) (solids : List Bounds) (frame : ℕ) (me : Rec) (before : List Rec) (goal : Rec) (after : List Rec) → Rises 0 (before ++ goal ∷ after)
    → let w = fold (after_trigger map solids frame) (first_walk me) (before ++ goal ∷ after) in
    w.ended ≡ false → goal.kind ≡ Goal → HaveNoGoal after → w.me.carry ≡ count_got Gem after w
carried-since map solids frame me before goal after up on kind none =
    let f = after_trigger map solids frame in
    let On : Walk → Type 0 = λ u. u.ended ≡ false in
    let v = fold f (first_walk me) before in
    let whole : fold f (first_walk me) (before ++ goal ∷ after) ≡ fold f v (goal ∷ after) = fold-append f (first_walk me) before (goal ∷ after) in
    let still : v.ended ≡ false = good-before f On (λ u r good. on-step map solids frame u (f u r) r (step map solids frame u r) good) v (goal ∷ after) (subst On whole on) in
    let ready = follow map solids frame 0 (first_walk me) before (goal ∷ after) up none-below in
    subst (λ (u : Walk). u.me.carry ≡ count_got Gem after u) (sym whole) (carried-after map solids frame v goal after ready still kind none)

pub carried-of : (map : MapView) (solids : List Bounds) (frame : ℕ) (me : Rec) (rs : List Rec) → Rises 0 rs
    → let w = fold (after_trigger map solids frame) (first_walk me) rs in w.ended ≡ false → AreCarried w.me.carry me rs w
carried-of map solids frame me rs up on =
    let whole = fold (after_trigger map solids frame) (first_walk me) in
    record {
      after_a_goal = λ before goal after are kind none.
          subst (λ (l : List Rec). (whole l).me.carry ≡ count_got Gem after (whole l)) (sym are)
          (carried-since map solids frame me before goal after (subst (Rises 0) are up) (subst (λ (l : List Rec). (whole l).ended ≡ false) are on) kind none);
      without_a_goal = λ none. carried map solids frame 0 (first_walk me) rs up none-below none;
    }

pub goals_take : GoalsTakeWhatIsCarried
unfolding touched
goals_take map frame me near rise on = carried-of map (solids_among map near) frame me (touched_by me near) (touched-rise me near rise) on
