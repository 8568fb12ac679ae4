-- What a reader read after its map was given out, as if it were still there.
use Rattle.std.proofs.Common.{◌≡◌, ℕ, ◌+◌, Bool, true, false, List, ◌⊎◌, inl, inr, Option, Some, option_map, cond, refl, sym, ap, ◌∙◌, subst}
use Rattle.edge_io.specs.WholeLines.{all_but_last}
use Rattle.demo_lines.specs.declared.event.Event.{Event}
use Rattle.demo_lines.specs.declared.stage.Stage.{Stage}
use Rattle.demo_lines.specs.declared.stage.Stage.TheVariants.{Start, Map, Playing, Ended, Refused}
use Rattle.demo_lines.specs.declared.line_fault.LineFault.{LineFault}
use Rattle.demo_lines.specs.declared.line_fault.LineFault.TheVariants as faults
use Rattle.demo_lines.specs.Lines.{text_of, first_word, rest_of}
use Rattle.demo_lines.specs.Faults.{is_long, is_cut, has_strange_byte, fault_of_words}
use Rattle.demo_lines.specs.Known.{Reading, without_map, having_map, is_map_whole, is_over, is_refused}
use Rattle.demo_lines.specs.Recording.{after}
use Rattle.demo_lines.specs.Bytes.{LineRefusal, refusal, refused_at, refused_where, lines_of, last_part}
use Rattle.demo_lines.specs.Reads.{Reads, ReadsFront, Refuses, IsRefusedLine, IsLongFront, IsLastPart, EndsAt}
use Rattle.demo_lines.proofs.MapGiven.{nothing_needs_the_map, same_without, after-whole, after-kept, next-without}

cut-fault : (long cut : Bool) (x y : Option LineFault) → cond long (Some faults.Long) x ≡ cond long (Some faults.Long) y
    → cond long (Some faults.Long) (cond cut (Some faults.NoEnd) x) ≡ cond long (Some faults.Long) (cond cut (Some faults.NoEnd) y)
cut-fault true cut x y same = refl
cut-fault false true x y same = refl
cut-fault false false x y same = same

-- the tests after those of the length and the end of the input
abbrev rest_fault : Reading → List ℕ → Option LineFault
rest_fault r raw = cond (has_strange_byte raw) (Some faults.Byte) (fault_of_words r (first_word (text_of raw)) (rest_of (text_of raw)))

-- what the bytes end with is refused for the same
refused_at-given : (stage : Stage) (t : Reading) (part : List ℕ) → t.stage ≡ stage → is_map_whole stage ≡ true → refused_at stage t part ≡ refused_at stage (without_map t) part
refused_at-given Start t part is there = cc
refused_at-given Map t part is there = cc
refused_at-given Playing t part is there =
    let same = (same_without t part (ap is_map_whole is)).fault (ap is_over is) in
    ap (option_map (refusal (t.lines + 1))) (cut-fault (is_long part) (is_cut true part) (rest_fault t part) (rest_fault (without_map t) part) (sym same))
refused_at-given Ended t part is there = refl
refused_at-given (Refused why) t part is there = refl

module _ (r : Reading) (whole : is_map_whole r.stage ≡ true) where
  with_its_map : (lines : List (List ℕ)) → having_map r.map (after (without_map r) lines) ≡ after r lines
  with_its_map lines =
      ap (having_map r.map) (nothing_needs_the_map r lines whole).reached ∙ ap (λ m. having_map m (after r lines)) (sym (after-kept r lines whole))

  same_stage : (lines : List (List ℕ)) → is_over (after r lines).stage ≡ is_over (after (without_map r) lines).stage
  same_stage lines = ap (λ (t : Reading). is_over t.stage) (sym (nothing_needs_the_map r lines whole).reached)

  pub Reads-given : (s : Reading) (a b : Option (List ℕ)) (es : List Event) → Reads (without_map r) s a b es → Reads r (having_map r.map s) a b es
  Reads-given s a b es reads = record {
    lines = reads.lines;
    text = reads.text;
    each = reads.each;
    spelled = reads.spelled;
    consumed = reads.consumed;
    reached = ap (having_map r.map) reads.reached ∙ with_its_map reads.lines;
    events = sym (nothing_needs_the_map r reads.lines whole).events ∙ reads.events;
    going = same_stage (all_but_last reads.lines) ∙ reads.going;
  }

  -- the reader has no map then either
  pub Reads-no_map : (s : Reading) (a b : Option (List ℕ)) (es : List Event) → Reads (without_map r) s a b es → s ≡ without_map (having_map r.map s)
  Reads-no_map s a b es reads =
      let here = reads.reached ∙ (nothing_needs_the_map r reads.lines whole).reached in
      here ∙ sym (ap without_map here)

  pub ReadsFront-given : (a b : Option (List ℕ)) (es : List Event) → ReadsFront (without_map r) a b es → ReadsFront r a b es
  ReadsFront-given a b es reads = record {
    lines = reads.lines;
    front = reads.front;
    each = reads.each;
    one_line = reads.one_line;
    fits = reads.fits;
    consumed = reads.consumed;
    events = sym (nothing_needs_the_map r reads.lines whole).events ∙ reads.events;
    going = same_stage reads.lines ∙ reads.going;
  }

  refused-given : (t : Reading) (part : List ℕ) → is_map_whole t.stage ≡ true → refused_where t part ≡ refused_where (without_map t) part
  refused-given t part there = refused_at-given t.stage t part refl there

  pub EndsAt-given : (why : LineRefusal) (bytes : List ℕ) → EndsAt (without_map r) why bytes → EndsAt r why bytes
  EndsAt-given why bytes ends =
      let lines = lines_of bytes in
      record {
        events = sym (nothing_needs_the_map r lines whole).events ∙ ends.events;
        fault = refused-given (after r lines) (last_part bytes) (after-whole r lines whole)
            ∙ ap (λ t. refused_where t (last_part bytes)) (sym (nothing_needs_the_map r lines whole).reached)
            ∙ ends.fault;
      }

  refused_line-given : (t : Reading) (last : List ℕ) → is_map_whole t.stage ≡ true → IsRefusedLine (without_map t) last → IsRefusedLine t last
  refused_line-given t last there is = record {
    line = is.line;
    one_line = is.one_line;
    whole = is.whole;
    refused = ap (λ (u : Reading). is_refused u.stage) (sym (next-without t is.line there)) ∙ is.refused;
  }

  part-given : (t : Reading) (last : List ℕ) (later : Option (List ℕ)) (P Q : Type 0) → is_map_whole t.stage ≡ true
      → ((IsRefusedLine (without_map t) last ⊎ IsLongFront last) × P) ⊎ (IsLastPart last later × Q)
      → ((IsRefusedLine t last ⊎ IsLongFront last) × P) ⊎ (IsLastPart last later × Q)
  part-given t last later P Q there (inl (inl is, p)) = inl (inl (refused_line-given t last there is), p)
  part-given t last later P Q there (inl (inr long, p)) = inl (inr long, p)
  part-given t last later P Q there (inr q) = inr q

  pub Refuses-given : (a b : Option (List ℕ)) (n : ℕ) (P Q : Type 0) → Refuses (without_map r) a b n P Q → Refuses r a b n P Q
  Refuses-given a b n P Q refuses =
      let reached = (nothing_needs_the_map r refuses.lines whole).reached in
      let R : Reading → Type 0 = λ t. ((IsRefusedLine t refuses.last ⊎ IsLongFront refuses.last) × P) ⊎ (IsLastPart refuses.last b × Q) in
      record {
        lines = refuses.lines;
        last = refuses.last;
        each = refuses.each;
        consumed = refuses.consumed;
        events = sym (nothing_needs_the_map r refuses.lines whole).events ∙ refuses.events;
        going = same_stage refuses.lines ∙ refuses.going;
        counted = refuses.counted ∙ ap (λ (t : Reading). t.lines + 1) reached;
        refused = part-given (after r refuses.lines) refuses.last b P Q (after-whole r refuses.lines whole) (subst R reached refuses.refused);
      }
