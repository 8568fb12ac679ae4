use Rattle.out_text.proofs.Runs.{right-push, right-split_last, in_order-push, in_order-split_last}
use Rattle.out_text.proofs.laws.journals_are_in_turn.Goals as goal

pub returns : goal.returns
returns c = record {
  right = λ map frame state frames journals arrivals journal same. (
    right-split_last map frame state frames arrivals journals journal same,
    λ both. right-push map frame state frames arrivals journals journal both.0 both.1,
  );
  order = λ map frame state frames journals arrivals journal same. (
    in_order-split_last map frame state frames arrivals journals journal same,
    λ both. in_order-push map frame state frames arrivals journals journal both.0 both.1,
  );
}
