-- Reads that follow each other.
use Rattle.std.proofs.Common.{◌≡◌, ℕ, ◌+◌, ◌≤◌, true, false, List, [], ◌∷◌, ◌++◌, length, ◌⊎◌, inl, inr, Option, Some, None, IfSome, cond, refl, sym, ap, ◌∙◌, subst, append_assoc, append-nil, length-append, arith}
use Rattle.std.specs.List.{AllByRecursion}
use Rattle.std.specs.Io.KnownBytes.{Consumes, IsAtEnd}
use Rattle.std.proofs.KnownBytes.{Consumes-trans, prepend_known-nil}
use Rattle.edge_io.specs.Lines.{HasNoLineFeed, GivesLine, GivesLongFront, GivesFront, GivesLastPart, ahead}
use Rattle.edge_io.specs.WholeLines.{all_but_last, unlines}
use Rattle.edge_io.proofs.Feeds.{unlines-push, AllByRecursion-push, all_but_last-push}
use Rattle.demo_lines.specs.declared.stage.Stage.TheVariants.{Map, Refused}
use Rattle.demo_lines.specs.declared.line_fault.LineFault.{LineFault}
use Rattle.demo_lines.specs.declared.line_fault.LineFault.TheVariants as faults
use Rattle.demo_lines.specs.declared.event.Event.{Event}
use Rattle.demo_lines.specs.Known.{Reading, is_over, is_refused}
use Rattle.demo_lines.specs.Lines.{is_end}
use Rattle.demo_lines.specs.Recording.{next, events_of_line, after, events_of}
use Rattle.demo_lines.specs.Bytes.{LineRefusal, refusal, lines_of}
use Rattle.demo_lines.specs.Reads.{Reads, ReadsFront, ReadsQuietly, TakesCutEnd, EndsWithoutFeed, Refuses, IsRefusedLine, IsLongFront, IsLastPart, EndsAt}
use Rattle.demo_lines.proofs.Machines.{run_of-append, outputs_of-append}
use Rattle.demo_lines.proofs.Parts.{lines_of-unlines, lines_of-none}
use Rattle.demo_lines.proofs.Ends.{next-counts, ends_after, ends_where_first, ends_long, ends_cut}

-- whole lines that the reading goes on after
pub record ReadsWhole (old new : Reading) (before later : Option (List ℕ)) (given : List Event) : Type 0 where
  pub lines : List (List ℕ)
  pub each : AllByRecursion HasNoLineFeed lines
  pub consumed : Consumes before later (unlines lines)
  pub reached : new ≡ after old lines
  pub events : events_of old lines ≡ given
  pub going : is_over (after old (all_but_last lines)).stage ≡ false

pub reads-whole : (r s : Reading) (a b : Option (List ℕ)) (es : List Event) → ReadsWhole r s a b es → Reads r s a b es
reads-whole r s a b es whole = record {
  lines = whole.lines;
  text = unlines whole.lines;
  each = whole.each;
  spelled = inl refl;
  consumed = whole.consumed;
  reached = whole.reached;
  events = whole.events;
  going = whole.going;
}

events-push : (r s : Reading) (lines : List (List ℕ)) (line : List ℕ) (es : List Event) → s ≡ after r lines → events_of r lines ≡ es
    → events_of r (lines ++ line ∷ []) ≡ es ++ events_of_line s line
events-push r s lines line es reached given =
    outputs_of-append next events_of_line r lines (line ∷ [])
    ∙ ap (λ t. events_of r lines ++ events_of t (line ∷ [])) (sym reached)
    ∙ ap (λ xs. events_of r lines ++ xs) (append-nil (events_of_line s line))
    ∙ ap (λ xs. xs ++ events_of_line s line) given

length-push : (lines : List (List ℕ)) (line : List ℕ) → 1 ≤ length (lines ++ line ∷ [])
length-push lines line = omega (arith, length-append lines (line ∷ []))

reached-push : (r s : Reading) (lines : List (List ℕ)) (line : List ℕ) → s ≡ after r lines → next s line ≡ after r (lines ++ line ∷ [])
reached-push r s lines line reached = ap (λ t. next t line) reached ∙ sym (run_of-append next events_of_line r lines (line ∷ []))

going-push : (r s : Reading) (lines : List (List ℕ)) (line : List ℕ) → s ≡ after r lines → is_over s.stage ≡ false
    → is_over (after r (all_but_last (lines ++ line ∷ []))).stage ≡ false
going-push r s lines line reached going =
    ap (λ ls. is_over (after r ls).stage) (all_but_last-push lines line) ∙ ap (λ (t : Reading). is_over t.stage) (sym reached) ∙ going

-- one more line
pub whole-line : (r s : Reading) (a b c : Option (List ℕ)) (es : List Event) (line : List ℕ) → ReadsWhole r s a b es → is_over s.stage ≡ false → GivesLine b c line
    → ReadsWhole r (next s line) a c (es ++ events_of_line s line)
whole-line r s a b c es line reads going gives = record {
  lines = reads.lines ++ line ∷ [];
  each = AllByRecursion-push HasNoLineFeed reads.lines line reads.each gives.one_line;
  consumed = subst (Consumes a c) (sym (unlines-push reads.lines line)) (Consumes-trans a b c _ _ reads.consumed gives.consumed);
  reached = reached-push r s reads.lines line reads.reached;
  events = events-push r s reads.lines line es reads.reached reads.events;
  going = going-push r s reads.lines line reads.reached going;
}

-- an end without a line feed, which the input ended with
ends_without_feed : (lines : List (List ℕ)) (line : List ℕ) (c : Option (List ℕ)) → is_end line ≡ true → IsAtEnd c
    → EndsWithoutFeed (lines ++ line ∷ []) (unlines lines ++ line) c
ends_without_feed lines line c is at_end = record { front = lines; last = line; lines_are = refl; text_is = refl; is_the_end = is; at_end = at_end }

pub Reads-cut : (r s : Reading) (a b c : Option (List ℕ)) (es : List Event) (line pending : List ℕ) → ReadsWhole r s a b es → is_over s.stage ≡ false
    → GivesLastPart b c line pending → is_end line ≡ true → Reads r (next s line) a c (es ++ events_of_line s line)
Reads-cut r s a b c es line pending reads going gives is = record {
  lines = reads.lines ++ line ∷ [];
  text = unlines reads.lines ++ line;
  each = AllByRecursion-push HasNoLineFeed reads.lines line reads.each gives.front.one_line;
  spelled = inr (ends_without_feed reads.lines line c is gives.at_end);
  consumed = Consumes-trans a b c _ _ reads.consumed gives.front.consumed;
  reached = reached-push r s reads.lines line reads.reached;
  events = events-push r s reads.lines line es reads.reached reads.events;
  going = going-push r s reads.lines line reads.reached going;
}

pub takes_cut_end : (r s : Reading) (a b c : Option (List ℕ)) (es : List Event) (line pending : List ℕ) → ReadsWhole r s a b es → GivesLastPart b c line pending
    → is_end line ≡ true → TakesCutEnd a c
takes_cut_end r s a b c es line pending reads gives is = record {
  lines = reads.lines ++ line ∷ [];
  text = unlines reads.lines ++ line;
  each = AllByRecursion-push HasNoLineFeed reads.lines line reads.each gives.front.one_line;
  cut = ends_without_feed reads.lines line c is gives.at_end;
  consumed = Consumes-trans a b c _ _ reads.consumed gives.front.consumed;
}

-- whole lines that gave no event, and then one more that gave none and is taken into the map
pub quiet-line : (r s : Reading) (a b c : Option (List ℕ)) (line : List ℕ) → ReadsWhole r s a b [] → is_over s.stage ≡ false → GivesLine b c line
    → events_of_line s line ≡ [] → (next s line).stage ≡ Map → ReadsQuietly r a c
unfolding whole-line
quiet-line r s a b c line reads going gives none of_map =
    let more = whole-line r s a b c [] line reads going gives in
    record {
      lines = reads.lines ++ line ∷ [];
      some = length-push reads.lines line;
      each = more.each;
      consumed = more.consumed;
      events = more.events ∙ none;
      of_map = ap (λ (t : Reading). t.stage) (sym more.reached) ∙ of_map;
    }

-- the front of a line after them
pub ReadsFront-of : (r s : Reading) (a b c : Option (List ℕ)) (es : List Event) (line pending : List ℕ) → ReadsWhole r s a b es → is_over s.stage ≡ false
    → GivesFront b c line pending → ReadsFront r a c es
ReadsFront-of r s a b c es line pending reads going gives = record {
  lines = reads.lines;
  front = line;
  each = reads.each;
  one_line = gives.one_line;
  fits = gives.fits;
  consumed = Consumes-trans a b c _ _ reads.consumed gives.consumed;
  events = reads.events;
  going = ap (λ (t : Reading). is_over t.stage) (sym reads.reached) ∙ going;
}

-- where nothing is buffered what is ahead is what the source has left
pub ReadsFront-drained : (r s : Reading) (a b left : Option (List ℕ)) (pending line : List ℕ) → ReadsWhole r s a b [] → is_over s.stage ≡ false
    → GivesFront b (ahead pending left) line pending → ReadsFront r a left []
ReadsFront-drained r s a b left pending line reads going gives =
    let P : Option (List ℕ) → Type 0 = λ c. ReadsFront r a c [] in
    subst P (ap (λ p. ahead p left) gives.drained ∙ prepend_known-nil left) (ReadsFront-of r s a b (ahead pending left) [] line pending reads going gives)

-- ---- what is taken where a recording is refused

-- the last of what was taken is refused
abbrev IsRefusedPart : Reading → List ℕ → Option (List ℕ) → Type 0 → Type 0 → Type 0
IsRefusedPart r last later P Q = ((IsRefusedLine r last ⊎ IsLongFront last) × P) ⊎ (IsLastPart last later × Q)

refuses : (r s : Reading) (a b c : Option (List ℕ)) (last : List ℕ) (number : ℕ) (P Q : Type 0) → ReadsWhole r s a b [] → is_over s.stage ≡ false
    → Consumes b c last → number ≡ s.lines + 1 → IsRefusedPart s last c P Q → Refuses r a c number P Q
refuses r s a b c last number P Q reads going consumed is refused =
    let R : Reading → Type 0 = λ t. IsRefusedPart t last c P Q in
    record {
      lines = reads.lines;
      last = last;
      each = reads.each;
      consumed = Consumes-trans a b c _ _ reads.consumed consumed;
      events = reads.events;
      going = ap (λ (t : Reading). is_over t.stage) (sym reads.reached) ∙ going;
      counted = is ∙ ap (λ (t : Reading). t.lines + 1) reads.reached;
      refused = subst R reads.reached refused;
    }

pub Refuses-line : (r s : Reading) (a b c : Option (List ℕ)) (line : List ℕ) (P Q : Type 0) → ReadsWhole r s a b [] → is_over s.stage ≡ false → GivesLine b c line
    → is_refused (next s line).stage ≡ true → P → Refuses r a c (next s line).lines P Q
Refuses-line r s a b c line P Q reads going gives stops p =
    let refused : IsRefusedLine s (line ++ 10 ∷ []) = record { line = line; one_line = gives.one_line; whole = refl; refused = stops } in
    refuses r s a b c (line ++ 10 ∷ []) (next s line).lines P Q reads going gives.consumed (next-counts s line going) (inl (inl refused, p))

pub Refuses-long : (r s : Reading) (a b c : Option (List ℕ)) (line : List ℕ) (P Q : Type 0) → ReadsWhole r s a b [] → is_over s.stage ≡ false → GivesLongFront b c line
    → P → Refuses r a c (s.lines + 1) P Q
Refuses-long r s a b c line P Q reads going gives p =
    let long : IsLongFront line = record { one_line = gives.one_line; long = gives.long } in
    refuses r s a b c line (s.lines + 1) P Q reads going gives.consumed refl (inl (inr long, p))

pub Refuses-end : (r s : Reading) (a b c : Option (List ℕ)) (line pending : List ℕ) (P Q : Type 0) → ReadsWhole r s a b [] → is_over s.stage ≡ false
    → GivesLastPart b c line pending → Q → Refuses r a c (s.lines + 1) P Q
Refuses-end r s a b c line pending P Q reads going gives q =
    let last : IsLastPart line c = record { one_line = gives.front.one_line; fits = gives.front.fits; at_end = gives.at_end } in
    refuses r s a b c line (s.lines + 1) P Q reads going gives.front.consumed refl (inr (last, q))

-- ---- the ways in which what is ahead is refused

of_known_bytes : (a b : Option (List ℕ)) (bytes : List ℕ) (P : List ℕ → Type 0) → Consumes a b bytes → ((rest : List ℕ) → b ≡ Some rest → P (bytes ++ rest)) → IfSome a P
of_known_bytes None b bytes P consumed h = tt
of_known_bytes (Some x) None bytes P consumed h = absurd consumed
of_known_bytes (Some x) (Some y) bytes P consumed h = subst P (sym consumed) (h y refl)

ends_all : (r s : Reading) (a c : Option (List ℕ)) (lines : List (List ℕ)) (part : List ℕ) (why : LineRefusal) → AllByRecursion HasNoLineFeed lines
    → events_of r lines ≡ [] → s ≡ after r lines → Consumes a c (unlines lines ++ part)
    → ((rest : List ℕ) → c ≡ Some rest → EndsAt s why (part ++ rest)) → IfSome a (EndsAt r why)
ends_all r s a c lines part why each quiet reached consumed ends =
    of_known_bytes a c (unlines lines ++ part) (EndsAt r why) consumed (λ rest is.
    let then = subst (λ (t : Reading). EndsAt t why (part ++ rest)) reached (ends rest is) in
    subst (EndsAt r why) (sym (append_assoc (unlines lines) part rest)) (ends_after r lines why (part ++ rest) each quiet then))

line-first : (line rest : List ℕ) → HasNoLineFeed line → lines_of ((line ++ 10 ∷ []) ++ rest) ≡ line ∷ lines_of rest
line-first line rest none =
    ap (λ text. lines_of (text ++ rest)) (sym (append-nil (line ++ 10 ∷ []))) ∙ lines_of-unlines (line ∷ []) rest (none, tt)

-- by a line
pub refused_by_line : (r s : Reading) (a b c : Option (List ℕ)) (line : List ℕ) (why : LineFault) → ReadsWhole r s a b [] → GivesLine b c line
    → (next s line).stage ≡ Refused why → IfSome a (EndsAt r (refusal (next s line).lines why))
refused_by_line r s a b c line why reads gives refused =
    ends_all r s a c reads.lines (line ++ 10 ∷ []) (refusal (next s line).lines why) reads.each reads.events reads.reached
    (Consumes-trans a b c _ _ reads.consumed gives.consumed)
    (λ rest is. ends_where_first s _ line (lines_of rest) why (line-first line rest gives.one_line) refused)

-- by a line that is too long
pub refused_by_length : (r s : Reading) (a b c : Option (List ℕ)) (line : List ℕ) → ReadsWhole r s a b [] → GivesLongFront b c line
    → is_over s.stage ≡ false → IfSome a (EndsAt r (refusal (s.lines + 1) faults.Long))
refused_by_length r s a b c line reads gives going =
    ends_all r s a c reads.lines line (refusal (s.lines + 1) faults.Long) reads.each reads.events reads.reached
    (Consumes-trans a b c _ _ reads.consumed gives.consumed) (λ rest is. ends_long s line rest going gives.one_line gives.long)

at_end_is_nil : (c : Option (List ℕ)) (rest : List ℕ) → IsAtEnd c → c ≡ Some rest → rest ≡ []
at_end_is_nil None rest at_end is = cc
at_end_is_nil (Some x) rest at_end is = cc

-- by the end of the input, where it isn't an end
pub refused_by_end : (r s : Reading) (a b c : Option (List ℕ)) (line pending : List ℕ) → ReadsWhole r s a b [] → GivesLastPart b c line pending
    → is_over s.stage ≡ false → is_end line ≡ false → IfSome a (EndsAt r (refusal (s.lines + 1) faults.NoEnd))
refused_by_end r s a b c line pending reads gives going no_end =
    ends_all r s a c reads.lines line (refusal (s.lines + 1) faults.NoEnd) reads.each reads.events reads.reached
    (Consumes-trans a b c _ _ reads.consumed gives.front.consumed)
    (λ rest is.
    let nothing = at_end_is_nil c rest gives.at_end is in
    subst (λ bytes. EndsAt s (refusal (s.lines + 1) faults.NoEnd) (line ++ bytes)) (sym nothing)
    (subst (EndsAt s (refusal (s.lines + 1) faults.NoEnd)) (sym (append-nil line)) (ends_cut s line going gives.front.one_line gives.front.fits no_end)))

-- by an end without a line feed that isn't allowed there
pub refused_by_cut_end : (r s : Reading) (a b c : Option (List ℕ)) (line pending : List ℕ) (why : LineFault) → ReadsWhole r s a b [] → GivesLastPart b c line pending
    → is_end line ≡ true → (next s line).stage ≡ Refused why → IfSome a (EndsAt r (refusal (next s line).lines why))
refused_by_cut_end r s a b c line pending why reads gives is_the_end refused =
    ends_all r s a c reads.lines line (refusal (next s line).lines why) reads.each reads.events reads.reached
    (Consumes-trans a b c _ _ reads.consumed gives.front.consumed)
    (λ rest is.
    let nothing = at_end_is_nil c rest gives.at_end is in
    let lines = lines_of-none line gives.front.one_line ∙ ap (λ b. cond b (line ∷ []) []) is_the_end in
    subst (λ bytes. EndsAt s (refusal (next s line).lines why) (line ++ bytes)) (sym nothing)
    (subst (EndsAt s (refusal (next s line).lines why)) (sym (append-nil line)) (ends_where_first s line line [] why lines refused)))
