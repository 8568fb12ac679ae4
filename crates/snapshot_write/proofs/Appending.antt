-- Bytes put at the end of a list in turn.
use Rattle.std.proofs.Common.{◌≡◌, List, ◌++◌, ap, ◌∙◌, append_assoc}

-- what two calls put at the end is one list
pub two_in_turn : {X : Type 0} (old a b x y : List X) → x ≡ old ++ a → y ≡ x ++ b → y ≡ old ++ (a ++ b)
two_in_turn old a b x y first second = second ∙ ap (λ l. l ++ b) first ∙ append_assoc old a b

pub three_in_turn : {X : Type 0} (old a b c x y z : List X) → x ≡ old ++ a → y ≡ x ++ b → z ≡ y ++ c → z ≡ old ++ (a ++ b ++ c)
three_in_turn old a b c x y z first second third = two_in_turn old (a ++ b) c y z (two_in_turn old a b x y first second) third

pub four_in_turn : {X : Type 0} (old a b c d x y z w : List X) → x ≡ old ++ a → y ≡ x ++ b → z ≡ y ++ c → w ≡ z ++ d → w ≡ old ++ (a ++ b ++ c ++ d)
four_in_turn old a b c d x y z w first second third fourth =
    two_in_turn old (a ++ b ++ c) d z w (three_in_turn old a b c x y z first second third) fourth
