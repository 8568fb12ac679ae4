-- Fields that have their forms are texts of these forms, each after a space.
use Rattle.std.proofs.Common.{◌≡◌, ℕ, ◌<◌, ◌==◌, Bool, true, false, not, ◌&&◌, cond, List, [], ◌∷◌, ◌++◌, Option, Some, None, is_some, codes, bytes_eq, refl, sym, ap, ◌∙◌, subst, arith}
use Rattle.std.proofs.lemmas.Bool.Decides.{nat_tests}
use Rattle.std.proofs.lemmas.Bool.{and_parts}
use Rattle.entity_recs.specs.declared.kind.Kind.{Kind}
use Rattle.edge_io.specs.Numbers.{is_digit, are_digits, is_natural, is_integer}
use Rattle.edge_io.specs.Fields.{field_at, field_text}
use Rattle.edge_io.proofs.FieldTexts.{AreAbove, IsEnd, field_at-field, field_at-whole, digit_above}
use Rattle.arena_map.specs.declared.map_word.MapField.{MapField}
use Rattle.arena_map.specs.declared.map_word.MapField.TheVariants.{Number, ItemKind}
use Rattle.arena_map.specs.Words.{item_kind}
use Rattle.arena_map.specs.Reading.{is_field, is_field_first, has_fields}
use Rattle.arena_map.specs.TextFaults.{texts_after_spaces, AreOfForm, IsOfFields}
use Rattle.arena_map.specs.Laws.{FieldsAreSpaced}
use Rattle.arena_map.proofs.LinesSound.{kind-spelled}
use Rattle.arena_map.proofs.LinesBack.{kind-above}

-- ---- no field has a space

digits_above : (ds : List ℕ) → are_digits ds ≡ true → AreAbove 32 ds
digits_above [] h = tt
digits_above (d ∷ ds) h = let parts = and_parts (is_digit d) (are_digits ds) h in (digit_above d parts.0, digits_above ds parts.1)

natural_above : (text : List ℕ) → is_natural text ≡ true → AreAbove 32 text
natural_above [] h = tt
natural_above (d ∷ []) h = digits_above (d ∷ []) h
natural_above (d ∷ e ∷ ds) h = digits_above (d ∷ e ∷ ds) (and_parts (not (d == 48)) (are_digits (d ∷ e ∷ ds)) h).1

number_above : (text : List ℕ) → is_integer text ≡ true → AreAbove 32 text
number_above [] h = tt
number_above (b ∷ bs) h = by (b == 45) refl h
  where
    minus : (b == 45) ≡ true → 32 < b
    minus e = grind (arith, nat_tests)

    by : (m : Bool) → (b == 45) ≡ m → cond m (is_natural bs && not (bytes_eq bs (codes "0"))) (is_natural (b ∷ bs)) ≡ true → AreAbove 32 (b ∷ bs)
    by true e k = (minus e, natural_above bs (and_parts (is_natural bs) (not (bytes_eq bs (codes "0"))) k).0)
    by false e k = natural_above (b ∷ bs) k

kind_above : (text : List ℕ) (o : Option Kind) → item_kind text ≡ o → is_some o ≡ true → AreAbove 32 text
kind_above text None e h = cc
kind_above text (Some kind) e h =
    let spelled = kind-spelled text kind e in
    subst (AreAbove 32) (sym spelled.0) (kind-above kind spelled.1)

field_above : (field : MapField) (text : List ℕ) → is_field field text ≡ true → AreAbove 32 text
field_above Number text h = number_above text h
field_above ItemKind text h = kind_above text (item_kind text) refl h

-- fields begin with a space
spaced_end : (texts : List (List ℕ)) → IsEnd (texts_after_spaces texts)
spaced_end [] = tt
spaced_end (text ∷ texts) = refl

-- ---- both ways

of_fields : (fields : List MapField) (rest : List ℕ) → has_fields fields rest ≡ true → IsOfFields fields rest
of_fields [] [] h = record { texts = []; forms = tt; spelled = refl }
of_fields [] (b ∷ bytes) h = cc
of_fields (field ∷ fields) rest h = by (λ after is. of_fields fields after is) (field_at rest) refl h
  where
    by : ((after : List ℕ) → has_fields fields after ≡ true → IsOfFields fields after) → (o : Option (List ℕ × List ℕ)) → field_at rest ≡ o → is_field_first field o (has_fields fields) ≡ true → IsOfFields (field ∷ fields) rest
    by later None e k = cc
    by later (Some parts) e k =
        let both = and_parts (is_field field parts.0) (has_fields fields parts.1) k in
        let more = later parts.1 both.1 in
        record {
          texts = parts.0 ∷ more.texts;
          forms = (both.0, more.forms);
          spelled = field_at-whole rest parts e ∙ ap (λ after. field_text parts.0 ++ after) more.spelled;
        }

have_form : (fields : List MapField) (texts : List (List ℕ)) → AreOfForm fields texts → has_fields fields (texts_after_spaces texts) ≡ true
have_form [] [] forms = refl
have_form [] (text ∷ texts) forms = absurd forms
have_form (field ∷ fields) [] forms = absurd forms
have_form (field ∷ fields) (text ∷ texts) forms =
    let at = field_at-field text (texts_after_spaces texts) (field_above field text forms.0) (spaced_end texts) in
    ap (λ o. is_field_first field o (has_fields fields)) at ∙ ap (λ b. b && has_fields fields (texts_after_spaces texts)) forms.0 ∙ have_form fields texts forms.1

pub fields_are_spaced : FieldsAreSpaced
fields_are_spaced fields rest = (of_fields fields rest, λ is. ap (has_fields fields) is.spelled ∙ have_form fields is.texts is.forms)
