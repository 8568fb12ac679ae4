-- A world whose records are made those of a table's words, id by id.
use Rattle.std.proofs.Common.{◌≡◌, ◌≢◌, ℕ, ◌+◌, ◌<◌, ◌≤◌, List, length, Some, None, sym, ap, ◌∙◌, subst, inl, inr, arith, slice_set, get_or, length-set, get_or-set_same, get_or-set_other}
use Rattle.std.specs.Option.{option_map}
use Rattle.std.proofs.lemmas.Bool.{cases_eq, cases_lt}
use Rattle.std.proofs.lemmas.List.{get_or_past}
use Rattle.entity_recs.specs.declared.limits.TheConstants.{IDS}
use Rattle.entity_recs.specs.declared.rec.Rec.{Rec}
use Rattle.world_tree.specs.Worlds.{WorldView, record_of, IsLinked, with_record, without_id}
use Rattle.ruled_words.specs.Ends.{record_in}

-- the records below an id are made those of the words
pub record IsRelinkedBelow (n : ℕ) (words : List ℕ) (before after : WorldView) : Type 0 where
  pub done : (id : ℕ) → id < n → record_of after id ≡ option_map (record_in words) (record_of before id)
  pub left : (id : ℕ) → n ≤ id → record_of after id ≡ record_of before id
  pub tree : after.tree ≡ before.tree
  pub linked : 0 < n → IsLinked after

pub relinked_next : (n : ℕ) (words : List ℕ) (before after next : WorldView) → IsRelinkedBelow n words before after
    → record_of next n ≡ option_map (record_in words) (record_of after n)
    → ((other : ℕ) → other ≢ n → record_of next other ≡ record_of after other) → next.tree ≡ after.tree → IsLinked next
    → IsRelinkedBelow (n + 1) words before next
relinked_next n words before after next is here others tree linked = record {
  done = λ id below. elim (cases_eq id n) [
    | inl same ↦ subst (λ (k : ℕ). record_of next k ≡ option_map (record_in words) (record_of before k)) (sym same)
        (here ∙ ap (option_map (record_in words)) (is.left n (omega arith)))
    | inr apart ↦ others id apart ∙ is.done id (below_next id below apart)
  ];
  left = λ id above. others id (λ same. absurd (omega (arith, above, same))) ∙ is.left id (omega (arith, above));
  tree = tree ∙ is.tree;
  linked = λ _. linked;
}
  where
    below_next : (id : ℕ) → id < n + 1 → (id ≡ n → ⊥) → id < n
    below_next id below apart = omega (arith, below, apart)

-- once all ids are done, the rest has no record
pub relinked_all : (words : List ℕ) (before after : WorldView) → IsRelinkedBelow IDS words before after → (id : ℕ)
    → record_of after id ≡ option_map (record_in words) (record_of before id)
relinked_all words before after is id = elim (cases_lt id IDS) [
  | inl below ↦ is.done id below
  | inr past ↦
      let places = (is.linked (omega arith)).places in
      let none : record_of after id ≡ None = get_or_past after.records id None (omega (arith, past, places)) in
      none ∙ ap (option_map (record_in words)) (sym none ∙ is.left id past)
]

-- the record that is put in place of a live one leaves those of other ids
pub put_elsewhere : (w : WorldView) (id : ℕ) (new : Rec) → new.id ≡ id → (other : ℕ) → other ≢ id
    → record_of (with_record (without_id w new.id) new) other ≡ record_of w other
put_elsewhere w id new own other apart =
    let far : other ≢ new.id = λ same. apart (same ∙ own) in
    get_or-set_other (slice_set w.records new.id None) new.id other (Some new) None far ∙ get_or-set_other w.records new.id other None None far

-- and it stands at its own id
pub put_here : (w : WorldView) (id : ℕ) (new : Rec) → new.id ≡ id → id < length w.records → record_of (with_record (without_id w new.id) new) id ≡ Some new
put_here w id new own within =
    let long = length-set w.records id None in
    ap (λ (n : ℕ). get_or (slice_set (slice_set w.records n None) n (Some new)) id None) own
    ∙ get_or-set_same (slice_set w.records id None) id (Some new) None (omega (arith, long, within))
