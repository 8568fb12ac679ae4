-- What the action may be asked: the records that a seat has loaded meet its conditions.
use Rattle.std.proofs.Common.{◌≡◌, ℕ, ◌<◌, Bool, true, false, not, List, [], ◌∷◌, ◌++◌, length, map, refl, sym, ap, ◌∙◌, subst, inl, inr, arith}
use Rattle.std.specs.Prelude.{◌==◌, filter}
use Rattle.std.specs.List.Sorted.{IsStrictlyIncreasing}
use Rattle.std.proofs.lemmas.Bool.{cases_Bool, eq-eqb, or_left, or_right, cond-true, cond-false}
use Rattle.std.proofs.lemmas.List.Elements.{All-filter}
use Rattle.std.proofs.lemmas.List.Kept.{IsStrictlyIncreasing-filter}
use Rattle.entity_recs.specs.declared.rec.Rec.{Rec}
use Rattle.entity_recs.specs.Records.{with_state}
use Rattle.entity_recs.specs.Worlds.{others_of}
use Rattle.entity_recs.specs.Actions.{IsCall, records_touching}
use Rattle.core_steps.specs.Encoding.{words_of, nth_word}
use Rattle.core_steps.specs.Cells.{word_in, cell_of}
use Rattle.core_steps.specs.Nodes.{has}
use Rattle.core_steps.specs.Points.{Point, stage_of, is_settled, is_read_again}
use Rattle.core_steps.specs.Reads.{region_in, record_read}
use Rattle.core_steps.specs.Stands.{touches_own}
use Rattle.core_steps.specs.MachineLaws.{RegionMayBeAsked, LoadedRecordIsTaken, EffectMayBeAsked}
use Rattle.core_steps.proofs.Lists.{has_filter}
use Rattle.core_steps.proofs.Runs.{is_call}
use Rattle.core_steps.proofs.Exclusion.{now_world, own_record_is, player_from_words, settled_seat}
use Rattle.core_steps.proofs.Held.{held_words}
use Rattle.core_steps.proofs.Owned.{longer}
use Rattle.core_steps.proofs.Committing.{open_busy}
use Rattle.core_steps.proofs.Players.{part_words}
use Rattle.core_steps.proofs.Resolved.{again_is, near_is}

pub region_may_be_asked : RegionMayBeAsked
region_may_be_asked F core history now i lawful start open' whole is =
    let view = core.view i in
    let seat = is.seats i in
    let given = seat.hand (open_busy (stage_of view.point) open') in
    let world = now_world F core history now lawful start is in
    let same = own_record_is F now view.cmd (stage_of view.point) view.own view.wanted lawful world given open' whole seat.own in
    record {
      command = given.command;
      own = refl;
      taken = ap F.takes same ∙ lawful.validity.any_state (now.record_of view.cmd.slot) (nth_word view.own 5) (world.taken view.cmd.slot given.live);
    }

pub loaded_record_is_taken : LoadedRecordIsTaken
loaded_record_is_taken F core history now i node p part players plan lawful start e five is =
    let load = held_words F core history now i node p part players plan lawful start is e in
    let world = now_world F core history now lawful start is in
    let x = word_in core.words (cell_of p (length part)) in
    let words = part ++ x ∷ [] in
    let long = longer part x in
    let matches : (k : ℕ) → k < 5 → nth_word words k ≡ nth_word (words_of (now.record_of p)) k =
    λ k below. sym (part_words F core history now i node p part players plan is e k (omega (arith, long, five)) below) ∙ load.words k below in
    let made : record_read p words ≡ with_state (now.record_of p) (nth_word words 5) =
    player_from_words F now p (nth_word words 5) words lawful world load.slot load.live (record {
      zeroth = matches 0 (omega arith);
      first = matches 1 (omega arith);
      second = matches 2 (omega arith);
      third = matches 3 (omega arith);
      fourth = matches 4 (omega arith);
    }) in
    ap (λ (m : ℕ). F.takes (record_read p (part ++ word_in core.words (cell_of p m) ∷ []))) (sym five)
    ∙ ap F.takes made ∙ lawful.validity.any_state (now.record_of p) (nth_word words 5) (world.taken p load.live)

-- the ids of the records that pass a test
ids_passing : (test : Rec → Bool) (g : ℕ → Rec) (xs : List ℕ) → ((v : ℕ) → has xs v ≡ true → (g v).id ≡ v)
    → map (λ (r : Rec). r.id) (filter test (map g xs)) ≡ filter (λ v. test (g v)) xs
ids_passing test g [] own = refl
ids_passing test g (x ∷ xs) own =
    let rest = ids_passing test g xs (λ v there. own v (or_right _ _ there)) in
    let head = own x (or_left _ _ (eq-eqb x x refl)) in
    elim (cases_Bool (test (g x))) [
      | inl e ↦ ap (map (λ (r : Rec). r.id)) (cond-true (test (g x)) (g x ∷ filter test (map g xs)) (filter test (map g xs)) e)
          ∙ ap (λ (n : ℕ). n ∷ map (λ (r : Rec). r.id) (filter test (map g xs))) head ∙ ap (λ (ns : List ℕ). x ∷ ns) rest
          ∙ sym (cond-true (test (g x)) (x ∷ filter (λ v. test (g v)) xs) (filter (λ v. test (g v)) xs) e)
      | inr e ↦ ap (map (λ (r : Rec). r.id)) (cond-false (test (g x)) (g x ∷ filter test (map g xs)) (filter test (map g xs)) e) ∙ rest
          ∙ sym (cond-false (test (g x)) (x ∷ filter (λ v. test (g v)) xs) (filter (λ v. test (g v)) xs) e)
    ]

pub effect_may_be_asked : EffectMayBeAsked
effect_may_be_asked F core history now i lawful start e is =
    let view = core.view i in
    let slot = view.cmd.slot in
    let region = region_in F view.cmd view.own in
    let settled : is_settled (stage_of view.point) ≡ true = ap (λ (p : Point). is_settled (stage_of p)) e in
    let read : is_read_again (stage_of view.point) ≡ true = ap (λ (p : Point). is_read_again (stage_of p)) e in
    let mine = settled_seat F core history now i lawful start is settled in
    let world = now_world F core history now lawful start is in
    let call = is_call F now view.cmd start world mine.given in
    let kept = filter (λ other. not (other == slot)) now.ids in
    let own : (v : ℕ) → has kept v ≡ true → (now.record_of v).id ≡ v =
    λ v there. world.own v (subst (λ (ids : List ℕ). has ids v ≡ true) world.ids (has_filter (λ other. not (other == slot)) now.ids v there).listed) in
    let rising : IsStrictlyIncreasing kept = IsStrictlyIncreasing-filter (λ other. not (other == slot)) now.ids (subst IsStrictlyIncreasing (sym world.ids) start.rising) in
    let near : IsCall F.takes (now.record_of slot) (records_touching region (others_of now slot)) view.cmd = record {
      player = call.player;
      others = All-filter (touches_own region) (λ (r : Rec). F.takes r ≡ true) (others_of now slot) call.others;
      rising = subst IsStrictlyIncreasing (sym (ids_passing (touches_own region) now.record_of kept own))
          (IsStrictlyIncreasing-filter (λ v. touches_own region (now.record_of v)) kept rising);
      none_is_me = All-filter (touches_own region) (λ (r : Rec). (r.id == (now.record_of slot).id) ≡ false) (others_of now slot) call.none_is_me;
    } in
    subst (λ (rs : List Rec). IsCall F.takes (record_read slot view.again) rs view.cmd) (sym (near_is F core history now i lawful start is e))
    (subst (λ (r : Rec). IsCall F.takes r (records_touching region (others_of now slot)) view.cmd) (sym (again_is F core history now i lawful start is settled read)) near)
