-- Records whose ids are their places have their ids apart, and each is found at its id.
use Rattle.std.proofs.Common.{◌≡◌, ℕ, ◌+◌, ◌<◌, ◌==◌, false, List, [], ◌∷◌, map, refl, arith}
use Rattle.std.specs.List.{IsDistinct, AllByRecursion}
use Rattle.std.proofs.lemmas.Bool.{eq-eqb, ne_eqb, cond-true, cond-false}
use Rattle.entity_recs.specs.declared.rec.Rec.{Rec}
use Rattle.entity_recs.specs.Worlds.{record_with}
use Rattle.move_journal.specs.Lists.{HaveIdsApart, AreNumbered}

-- an id below the first place is none of the ids
differs_from_numbered : (m n : ℕ) (rs : List Rec) → m < n → AreNumbered n rs
    → AllByRecursion (λ r. (m == r.id) ≡ false) rs
differs_from_numbered m n [] below numbered = tt
differs_from_numbered m n (r ∷ rs) below numbered =
    let at : r.id ≡ n = numbered.0 in
    (ne_eqb m r.id (λ same. omega arith), differs_from_numbered m (n + 1) rs (omega arith) numbered.1)

-- records whose ids are their places have their ids apart
pub apart_where_numbered : (n : ℕ) (rs : List Rec) → AreNumbered n rs → HaveIdsApart rs
unfolding IsDistinct
apart_where_numbered n [] numbered = tt
apart_where_numbered n (r ∷ rs) numbered =
    let at : r.id ≡ n = numbered.0 in
    (differs_from_numbered r.id (n + 1) rs (omega arith) numbered.1, apart_where_numbered (n + 1) rs numbered.1)

-- a record that differs in its id from the others doesn't hide them
found_after : (r : Rec) (before rs : List Rec) → AllByRecursion (λ other. (r.id == other.id) ≡ false) rs
    → map (record_with (r ∷ before)) (map (λ other. other.id) rs)
    ≡ map (record_with before) (map (λ other. other.id) rs)
found_after r before [] differs = refl
found_after r before (x ∷ rs) differs =
    let head : record_with (r ∷ before) x.id ≡ record_with before x.id =
    cond-false (r.id == x.id) r (record_with before x.id) differs.0 in
    let tail = found_after r before rs differs.1 in
    cc

-- each of the records is found at its id, where their ids are apart
pub found_at_ids : (rs : List Rec) → HaveIdsApart rs → map (record_with rs) (map (λ r. r.id) rs) ≡ rs
unfolding IsDistinct
found_at_ids [] apart = refl
found_at_ids (r ∷ rs) apart =
    let head : record_with (r ∷ rs) r.id ≡ r =
    cond-true (r.id == r.id) r (record_with rs r.id) (eq-eqb r.id r.id refl) in
    let skipped = found_after r rs rs apart.0 in
    let tail = found_at_ids rs apart.1 in
    cc

-- the first record is what the function gives at its id
pub first_given : (f : ℕ → Rec) (r : Rec) (rs : List Rec) → map f (map (λ r. r.id) (r ∷ rs)) ≡ r ∷ rs → f r.id ≡ r
first_given f r rs given = cc

-- the others are what it gives at theirs
pub others_given : (f : ℕ → Rec) (r : Rec) (rs : List Rec) → map f (map (λ r. r.id) (r ∷ rs)) ≡ r ∷ rs
    → map f (map (λ r. r.id) rs) ≡ rs
others_given f r rs given = cc
