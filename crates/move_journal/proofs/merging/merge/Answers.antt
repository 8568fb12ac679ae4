use Rattle.std.proofs.Common.{rules, ◌≡◌, ap, sym, ◌∙◌, subst, List, length}
use Rattle.std.specs.List.{range_with_len}
use Rattle.std.specs.List.Sorted.{IsPermutation}
use Rattle.std.proofs.lemmas.List.Sorted.{IsPermutation-map, IsPermutation-sym, IsPermutation-trans, length_permutation}
use Rattle.entity_recs.specs.declared.effect.Entry.{Entry}
use Rattle.move_journal.specs.ByPlace.{entries_in, places_of}
use Rattle.move_journal.proofs.SortedRanges.{sorted_range}
use Rattle.move_journal.proofs.merging.merge.Goals as goal

pub returns-clause-by_place : goal.returns-clause-by_place
returns-clause-by_place c =
    let journal = c.sort_by_place.new.self.entries in
    let all = entries_in c.args.logs.now in
    let same : IsPermutation all journal = subst (λ (es : List Entry). IsPermutation es journal) (search rules) c.sort_by_place.ensures.entries in
    let long : length journal ≡ length all = length_permutation all journal same in
    let numbers : IsPermutation (range_with_len 0 (length all)) (places_of journal) =
    IsPermutation-trans _ _ _ (IsPermutation-sym _ _ c.requires.numbered) (IsPermutation-map _ all journal same) in
    record {
      all = same;
      places = sorted_range (λ (e : Entry). e.place) journal 0 (length all) c.sort_by_place.ensures.sorted numbers ∙ ap (range_with_len 0) (sym long);
    }
