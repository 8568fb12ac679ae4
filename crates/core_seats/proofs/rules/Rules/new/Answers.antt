use Rattle.std.proofs.Common.{◌≡◌, ℕ, true, ◌-◌, List, take, drop, length, map, sym, ap, ◌∙◌, subst, arith}
use Rattle.std.specs.Prelude.{filter, nat_le, All}
use Rattle.std.proofs.lemmas.List.{length-map}
use Rattle.arena_geo.specs.Bounds.{Bounds}
use Rattle.arena_geo.specs.Boxes.{contains}
use Rattle.entity_recs.specs.declared.rec.Rec.{Rec}
use Rattle.entity_recs.specs.Actions.{HasValidity}
use Rattle.entity_recs.specs.Bodies.{abs_of}
use Rattle.entity_recs.specs.Records.{IsRecord}
use Rattle.areanode.specs.Depths.{sizes_of_depth}
use Rattle.box_strips.specs.Strips.{IsIndexOf}
use Rattle.core_seats.specs.Shown.{RulesView, fixed_of, IsRuledWith}
use Rattle.core_seats.proofs.SlotBits.{things_after_players}
use Rattle.core_seats.proofs.ThingsLoaded.{whole_rest, few_high, things_are_records}
use Rattle.core_seats.proofs.rules.Rules.new.Goals as goal

pub abs_boxes-requires : goal.abs_boxes-requires
abs_boxes-requires g c =
    let start = c.args.start.now in
    let first = c.count_players-first_thing.result in
    let rules : RulesView _ = record { action = c.args.action.now; tree = c.args.tree.now; start = start } in
    let F = fixed_of g.A.Action.meaning rules in
    let met = g.met.A.Action g.world.𝓛 g.world.𝓜 g.world.𝓡 ((λ s x. x), (λ x. x), (λ x. x), λ x. x) in
    let validity : HasValidity F.takes F.effect_of = met.validity c.args.action.now in
    let things : drop first start ≡ filter (λ (r : Rec). nat_le 64 r.id) start = ap (λ (n : ℕ). drop n start) c.count_players-first_thing.ensures.count ∙ things_after_players start c.requires.rising in
    subst (λ (rs : List Rec). All IsRecord rs) (sym (whole_rest first start ∙ things)) (things_are_records g.A.Action.meaning rules validity c.requires)

pub index_of-requires : goal.index_of-requires
index_of-requires g c =
    let start = c.args.start.now in
    let first = c.count_players-first_thing.result in
    let rules : RulesView _ = record { action = c.args.action.now; tree = c.args.tree.now; start = start } in
    let F = fixed_of g.A.Action.meaning rules in
    let met = g.met.A.Action g.world.𝓛 g.world.𝓜 g.world.𝓡 ((λ s x. x), (λ x. x), (λ x. x), λ x. x) in
    let validity : HasValidity F.takes F.effect_of = met.validity c.args.action.now in
    let things : drop first start ≡ filter (λ (r : Rec). nat_le 64 r.id) start = ap (λ (n : ℕ). drop n start) c.count_players-first_thing.ensures.count ∙ things_after_players start c.requires.rising in
    let few = few_high g.A.Action.meaning rules validity c.requires in
    let same = ap (λ (rs : List Rec). length rs) (whole_rest first start ∙ things) in
    let boxed = ap (λ (bs : List Bounds). length bs) (c.as_slice-2.ensures.value ∙ c.in_ok-boxes.ensures) ∙ length-map (take (length start - first) (drop first start)) abs_of in
    omega (arith, few, same, boxed)

pub invariant_of-result : goal.invariant_of-result
invariant_of-result g c =
    let start = c.args.start.now in
    let first = c.count_players-first_thing.result in
    let boxes = c.in_ok-boxes.boxes.items in
    let index = c.in_ok-index.index in
    let is = c.first_leaf-first_leaf.ensures.value in
    let sizes = sizes_of_depth c.args.tree.now.depth c.first_leaf-first_leaf.ensures.range in
    let leaves = sizes.leaves in
    let some = sizes.some in
    subst (λ (rs : List Rec). IsRuledWith (fixed_of g.A.Action.meaning (record { action = c.args.action.now; tree = c.args.tree.now; start = rs })) rs c.first_leaf-first_leaf.result c.player_bits.result first boxes c.area_of-area.result index)
    (sym c.in_ok-from_slice.ensures.items)
    (record {
      depth = c.first_leaf-first_leaf.ensures.range;
      start = c.requires;
      leaf_is = is;
      leaf_few = omega (arith, is, leaves, some);
      slots = c.player_bits.ensures;
      fits = c.count_players-first_thing.ensures.few;
      things = ap (λ (n : ℕ). drop n start) c.count_players-first_thing.ensures.count ∙ things_after_players start c.requires.rising;
      boxed = c.in_ok-boxes.ensures ∙ ap (λ (rs : List Rec). map abs_of rs) (whole_rest first start);
      around = subst (λ (bs : List Bounds). All (λ b. contains c.area_of-area.result b ≡ true) bs) c.as_slice.ensures.value c.area_of-area.ensures;
      placed = subst (λ (bs : List Bounds). IsIndexOf index bs) c.as_slice-2.ensures.value c.in_ok-index.ensures;
    })
