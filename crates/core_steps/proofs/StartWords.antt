-- The words at the start over a list of records: those of the records, and 0 where there is none.
use Rattle.std.proofs.Common.{◌≡◌, ℕ, zero, suc, ◌<◌, Bool, true, false, if◌then◌else◌, List, [], ◌∷◌, get_or, map, refl, sym, ap, ◌∙◌}
use Rattle.std.specs.Prelude.{◌==◌, ◌&&◌}
use Rattle.std.proofs.lemmas.Bool.{lt-ltb, or_parts, cond-false}
use Rattle.entity_recs.specs.declared.rec.Rec.{Rec}
use Rattle.entity_recs.specs.Worlds.{record_with, nobody}
use Rattle.core_steps.specs.Encoding.{words_of, nth_word}
use Rattle.core_steps.specs.Nodes.{Fixed, has}
use Rattle.core_steps.specs.Stands.{is_player}

-- an id that isn't among those of the records has the record of nobody
pub dead_record : (rs : List Rec) (id : ℕ) → has (map (λ (r : Rec). r.id) rs) id ≡ false → record_with rs id ≡ nobody
dead_record [] id dead = refl
dead_record (x ∷ rs) id dead =
    let parts = or_parts (x.id == id) (has (map (λ (r : Rec). r.id) rs) id) dead in
    cond-false (x.id == id) x (record_with rs id) parts.0 ∙ dead_record rs id parts.1

-- a player that isn't live isn't among the ids
pub dead_player : (F : Fixed) (slot : ℕ) → slot < 64 → is_player F slot ≡ false → has F.start.ids slot ≡ false
dead_player F slot below dead = ap (λ (b : Bool). b && has F.start.ids slot) (sym (lt-ltb slot 64 below)) ∙ dead

-- ---- the words of a record, and 0 where it isn't live

pub nobody_words : (k : ℕ) → nth_word (words_of nobody) k ≡ 0
nobody_words zero = refl
nobody_words (suc zero) = refl
nobody_words (suc (suc zero)) = refl
nobody_words (suc (suc (suc zero))) = refl
nobody_words (suc (suc (suc (suc zero)))) = refl
nobody_words (suc (suc (suc (suc (suc k))))) = refl

pub words_if_live : (live : Bool) (r : Rec) (k : ℕ) → (live ≡ false → r ≡ nobody) → nth_word (words_of r) k ≡ (if live then nth_word (words_of r) k else 0)
words_if_live true r k dead = refl
words_if_live false r k dead = ap (λ (r : Rec). nth_word (words_of r) k) (dead refl) ∙ nobody_words k

pub state_if_live : (live : Bool) (r : Rec) → (live ≡ false → r ≡ nobody) → r.state ≡ (if live then r.state else 0)
state_if_live true r dead = refl
state_if_live false r dead = ap (λ (r : Rec). r.state) (dead refl)

-- so many zeros
abbrev pub zeros : ℕ → List ℕ
zeros zero = []
zeros (suc n) = 0 ∷ zeros n

pub zeros_at : (n k : ℕ) → get_or (zeros n) k 0 ≡ 0
zeros_at zero k = refl
zeros_at (suc n) zero = refl
zeros_at (suc n) (suc k) = zeros_at n k
