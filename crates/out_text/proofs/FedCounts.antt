-- As many packets arrive in a frame as were sent, and a frame stays small.
use Rattle.std.proofs.Common.{◌≡◌, ℕ, suc, ◌==◌, Bool, true, false, cond, All, List, [], ◌∷◌, length, filter, refl, sym, ap, ◌∙◌, subst, arith}
use Rattle.std.proofs.lemmas.Bool.Decides.{nat_tests}
use Rattle.std.proofs.lemmas.List.Elements.{All-from_recursion}
use Rattle.std.proofs.lemmas.Bool.{eq-eqb}
use Rattle.packet_read.specs.declared.arrival.Arrival.{Arrival}
use Rattle.packet_read.specs.Orders.{is_from}
use Rattle.out_text.specs.Feeds.{IsFeedOf, AreFeedsOf}
use Rattle.out_text.proofs.Fitting.{IsShort, HasLine}
use Rattle.out_text.proofs.SmallFrames.{HasPort, IsSmallFrame, AreSmallFrames}
use Rattle.out_text.proofs.FedRuns.{feed_keeps, by_recursion}

-- the packets without the first from this port
abbrev without_first : ℕ → List Arrival → List Arrival
without_first port [] = []
without_first port (x ∷ xs) = cond (is_from port x) xs (x ∷ without_first port xs)

-- the first from a port was taken out
record IsFirstOut (port : ℕ) (xs more rest : List Arrival) : Type 0 where
  count : length xs ≡ suc (length rest)
  same : filter (is_from port) rest ≡ more

first_out : (port : ℕ) (xs : List Arrival) (a : Arrival) (more : List Arrival) → filter (is_from port) xs ≡ a ∷ more → IsFirstOut port xs more (without_first port xs)
first_out port [] a more is = cc
first_out port (x ∷ xs) a more is = by (is_from port x) refl is (first_out port xs a more)
  where
    by : (b : Bool) → is_from port x ≡ b → cond b (x ∷ filter (is_from port) xs) (filter (is_from port) xs) ≡ a ∷ more
        → (filter (is_from port) xs ≡ a ∷ more → IsFirstOut port xs more (without_first port xs)) → IsFirstOut port (x ∷ xs) more (cond b xs (x ∷ without_first port xs))
    by true own e later = record { count = refl; same = cc }
    by false other e later =
        let rest = later e in
        record {
          count = ap suc rest.count;
          same = ap (λ b. cond b (x ∷ filter (is_from port) (without_first port xs)) (filter (is_from port) (without_first port xs))) other ∙ rest.same;
        }

-- the packets of the other ports stay
others_stay : (port other : ℕ) (xs : List Arrival) → (port == other) ≡ false → filter (is_from other) (without_first port xs) ≡ filter (is_from other) xs
others_stay port other [] apart = refl
others_stay port other (x ∷ xs) apart = by (is_from port x) refl (others_stay port other xs apart)
  where
    by : (b : Bool) → is_from port x ≡ b → filter (is_from other) (without_first port xs) ≡ filter (is_from other) xs
        → filter (is_from other) (cond b xs (x ∷ without_first port xs)) ≡ filter (is_from other) (x ∷ xs)
    by true own later =
        let not_other : is_from other x ≡ false = grind (arith, nat_tests, own, apart) in
        sym (ap (λ b. cond b (x ∷ filter (is_from other) xs) (filter (is_from other) xs)) not_other)
    by false apart_too later = ap (λ ys. cond (is_from other x) (x ∷ ys) ys) later

-- the packets from its own port begin with this one
own_first : (a : Arrival) (sent : List Arrival) → filter (is_from a.port) (a ∷ sent) ≡ a ∷ filter (is_from a.port) sent
own_first a sent = ap (λ b. cond b (a ∷ filter (is_from a.port) sent) (filter (is_from a.port) sent)) (eq-eqb a.port a.port refl)

-- the packets after the first were fed without it
rest_is_fed : (a : Arrival) (sent fed : List Arrival) → IsFeedOf (a ∷ sent) fed → IsFeedOf sent (without_first a.port fed)
rest_is_fed a sent fed feed port = by (a.port == port) refl
  where
    by : (b : Bool) → (a.port == port) ≡ b → filter (is_from port) (without_first a.port fed) ≡ filter (is_from port) sent
    by true own =
        let same : a.port ≡ port = grind (arith, nat_tests, own) in
        let out = first_out a.port fed a (filter (is_from a.port) sent) (feed a.port ∙ own_first a sent) in
        subst (λ (p : ℕ). filter (is_from p) (without_first a.port fed) ≡ filter (is_from p) sent) same out.same
    by false apart =
        others_stay a.port port fed apart ∙ feed port
        ∙ ap (λ b. cond b (a ∷ filter (is_from port) sent) (filter (is_from port) sent)) apart

length-feed : (sent fed : List Arrival) → IsFeedOf sent fed → length fed ≡ length sent
length-feed [] [] feed = refl
length-feed [] (x ∷ fed) feed = let never = sym (own_first x fed) ∙ feed x.port in cc
length-feed (a ∷ sent) fed feed =
    let out = first_out a.port fed a (filter (is_from a.port) sent) (feed a.port ∙ own_first a sent) in
    out.count ∙ ap suc (length-feed sent (without_first a.port fed) (rest_is_fed a sent fed feed))

-- ---- small frames

feed_keeps_all : (P : Arrival → Type 0) (sent fed : List Arrival) → IsFeedOf sent fed → All P sent → All P fed
feed_keeps_all P sent fed feed all = All-from_recursion P fed (feed_keeps P sent fed feed (by_recursion P sent all))

small_feed : (sent fed : List Arrival) → IsFeedOf sent fed → IsSmallFrame sent → IsSmallFrame fed
small_feed sent fed feed small =
    let few = small.few in
    record {
      few = omega (arith, length-feed sent fed feed, few);
      ports = feed_keeps_all HasPort sent fed feed small.ports;
      short = feed_keeps_all IsShort sent fed feed small.short;
      room = feed_keeps_all HasLine sent fed feed small.room;
    }

-- the frames that arrive are small, where those that were sent are
pub feeds_are_small : (frames feeds : List (List Arrival)) → AreFeedsOf frames feeds → AreSmallFrames frames → AreSmallFrames feeds
feeds_are_small [] [] are small = tt
feeds_are_small [] (fed ∷ feeds) are small = absurd are
feeds_are_small (sent ∷ frames) [] are small = absurd are
feeds_are_small (sent ∷ frames) (fed ∷ feeds) are small = (small_feed sent fed are.0 small.0, feeds_are_small frames feeds are.1 small.1)
