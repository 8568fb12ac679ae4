use Rattle.std.proofs.Common.{◌≡◌, ℕ, Some, refl, sym, ap, ◌∙◌, subst, arith}
use Rattle.std.specs.Option.{option_map, IsSome}
use Rattle.entity_recs.specs.declared.rec.Rec.{Rec}
use Rattle.entity_recs.specs.Records.{IsRecord}
use Rattle.world_tree.specs.Worlds.{WorldView, record_of}
use Rattle.world_tree.proofs.Links.{id-below}
use Rattle.ruled_words.specs.Ends.{record_in}
use Rattle.ruled_words.proofs.Relinking.{put_here, put_elsewhere}
use Rattle.ruled_words.proofs.end.records.relink.Goals as goal

pub record_in-requires : goal.record_in-requires
record_in-requires c =
    let entry = c.get.ensures.linked.entries c.args.id c.in-Some.old (sym c.in-Some.ensures.record) in
    id-below c.in-Some.old entry.is_record

pub is_same_thing-requires : goal.is_same_thing-requires
is_same_thing-requires c =
    let entry = c.get.ensures.linked.entries c.args.id c.in-Some.old (sym c.in-Some.ensures.record) in
    id-below c.in-Some.old entry.is_record

pub relink-requires-clause-record : goal.relink-requires-clause-record
relink-requires-clause-record c =
    let entry = c.requires.entry c.in-Some.old (sym c.in-Some.ensures.record) in
    subst IsRecord (sym c.record_in.ensures) entry.is_record

pub relink-requires-clause-live : goal.relink-requires-clause-live
relink-requires-clause-live c =
    let at = sym c.in-Some.ensures.record in
    let entry = c.requires.entry c.in-Some.old at in
    let live = c.get.ensures.linked.entries c.args.id c.in-Some.old at in
    let own : c.record_in.result.id ≡ c.args.id = ap (λ (r : Rec). r.id) c.record_in.ensures ∙ entry.own_id ∙ live.own_id in
    subst IsSome (sym (ap (record_of c.args.world.now) own ∙ at)) refl

pub returns-then-not-is_same_thing-clause-others : goal.returns-then-not-is_same_thing-clause-others
returns-then-not-is_same_thing-clause-others c = λ other apart.
    let entry = c.requires.entry c.in-Some.old (sym c.in-Some.ensures.record) in
    let at = c.get.ensures.linked.entries c.args.id c.in-Some.old (sym c.in-Some.ensures.record) in
    let own = ap (λ (r : Rec). r.id) c.record_in.ensures ∙ entry.own_id ∙ at.own_id in
    ap (λ (w : WorldView). record_of w other) c.relink.ensures.world
    ∙ put_elsewhere c.args.world.now c.args.id c.record_in.result own other apart

pub returns-then-not-is_same_thing-clause-here : goal.returns-then-not-is_same_thing-clause-here
returns-then-not-is_same_thing-clause-here c =
    let w = c.args.world.now in
    let at = sym c.in-Some.ensures.record in
    let entry = c.requires.entry c.in-Some.old at in
    let live = c.get.ensures.linked.entries c.args.id c.in-Some.old at in
    let below = id-below c.in-Some.old live.is_record in
    let places = c.get.ensures.linked.places in
    let own = ap (λ (r : Rec). r.id) c.record_in.ensures ∙ entry.own_id ∙ live.own_id in
    ap (λ (v : WorldView). record_of v c.args.id) c.relink.ensures.world
    ∙ put_here w c.args.id c.record_in.result own (omega (arith, below, places, live.own_id))
    ∙ ap (λ (r : Rec). Some r) c.record_in.ensures
    ∙ ap (option_map (record_in c.args.words.now)) c.in-Some.ensures.record

pub returns-else-not-is_same_thing-clause-here : goal.returns-else-not-is_same_thing-clause-here
returns-else-not-is_same_thing-clause-here c =
    let still = c.is_same_thing.ensures c.if-not-is_same_thing.false in
    sym c.in-Some.ensures.record ∙ ap (λ (r : Rec). Some r) (sym still) ∙ ap (option_map (record_in c.args.words.now)) c.in-Some.ensures.record
