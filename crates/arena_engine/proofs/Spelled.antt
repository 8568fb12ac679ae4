-- Numbers as they are printed.
use Rattle.std.proofs.Common.{◌≡◌, ◌≢◌, ℕ, zero, suc, ◌<◌, ◌≤◌, ◌^◌, List, Option, Some, None, IfSome, decimal, ap, sym, ◌∙◌, arith, refl}
use Rattle.arena_engine.specs.Numbers.{SpellsUpTo}
use Rattle.edge_io.specs.Numbers.{natural_up_to}
use Rattle.edge_io.proofs.Decimals.{natural-spelled, natural-decimal}

-- a word that is read is that number as it is printed
pub some-printed : (limit : ℕ) (word : List ℕ) (read : Option ℕ) → limit < 2 ^ 64 → read ≡ natural_up_to limit word → IfSome read (λ n. word ≡ decimal n)
some-printed limit word None low is = tt
some-printed limit word (Some n) low is = (natural-spelled limit n word low (sym is)).0

-- and a number that is printed is read
pub printed-read : (limit n : ℕ) (word : List ℕ) (read : Option ℕ) → n < 2 ^ 64 → n ≤ limit → read ≡ natural_up_to limit word → word ≡ decimal n → read ≡ Some n
printed-read limit n word read small few is printed = is ∙ ap (natural_up_to limit) printed ∙ natural-decimal limit n small few

-- ---- a number from 1 to most of 32 bits, read up to a limit that is most, from bytes that are those of the word

module _ (most limit : ℕ) (word bytes : List ℕ) (read : Option ℕ) (low : most < 2 ^ 32) (limit_is : limit ≡ most) (bytes_are : bytes ≡ word)
    (read_is : read ≡ natural_up_to limit bytes) where
  read_of_word : read ≡ natural_up_to most word
  read_of_word = read_is ∙ ap (λ l. natural_up_to l bytes) limit_is ∙ ap (natural_up_to most) bytes_are

  pub spelled-read : (n : ℕ) → SpellsUpTo most word n → read ≡ Some n
  spelled-read n spells = printed-read most n word read (omega (arith, low, spells.few)) spells.few read_of_word spells.digits_are

  pub read-spelled : (n : ℕ) → n ≢ 0 → read ≡ Some n → SpellsUpTo most word n
  read-spelled n some is =
      let spelled = natural-spelled most n word (omega (arith, low)) (sym read_of_word ∙ is) in
      record { digits_are = spelled.0; some = least n some; few = spelled.1 }
    where
      least : (n : ℕ) → n ≢ 0 → 1 ≤ n
      least zero some = absurd (some refl)
      least (suc n) some = omega arith
