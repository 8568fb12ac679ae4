-- The frames of a right log are there, before its last line, which opens no frame.
use Rattle.std.proofs.Common.{◌≡◌, ℕ, ◌≤◌, ◌<◌, List, [], ◌∷◌, ◌++◌, length, refl, ap, ◌∙◌, arith, append_assoc, length-append}
use Rattle.arena_map.specs.Maps.{MapView}
use Rattle.plain_server.specs.RecordsById.{opening}
use Rattle.out_text.specs.Feeds.{fed_lines}
use Rattle.out_text.specs.MatchLogs.{IsLog}
use Rattle.out_text.specs.OutLines.{OutLine, FrameLine, EndLine, line_spelling, printed_line, text_of}
use Rattle.out_text.proofs.Lengths.{frame_line-long, end_line-long}
use Rattle.out_text.proofs.Runs.{text_of-append}
use Rattle.transcript_check.proofs.OneFeed.{AreThere}
use Rattle.transcript_check.proofs.Texts.{one_line, text_of-one}

pub line-first : (l : OutLine) (after : List ℕ) → printed_line l ++ after ≡ line_spelling l ++ 10 ∷ after
line-first l after = append_assoc (line_spelling l) (10 ∷ []) after

abbrev first_byte : List ℕ → ℕ
first_byte [] = 0
first_byte (b ∷ bytes) = b

-- the last line opens no frame
pub end-is-no-frame : (n k : ℕ) → line_spelling (EndLine n) ≡ line_spelling (FrameLine k) → ⊥
end-is-no-frame n k same = let first : 101 ≡ 102 = ap first_byte same in omega (arith, first)

pub end-short : (n : ℕ) → n ≤ 100000 → length (line_spelling (EndLine n)) ≤ 16
end-short n few = let long = end_line-long n few in let own = length-append (line_spelling (EndLine n)) (10 ∷ []) in omega (arith, long, own)

pub frame-short : (n : ℕ) → n < 100000 → length (line_spelling (FrameLine n)) ≤ 16
frame-short n few = let long = frame_line-long n few in let own = length-append (line_spelling (FrameLine n)) (10 ∷ []) in omega (arith, long, own)

module _ (arena : MapView) (bytes : List ℕ) (t : IsLog arena bytes) where
  -- its last line, and what follows
  abbrev pub last_of_log : List ℕ
  last_of_log = printed_line (EndLine (length t.feeds)) ++ t.begins.after

  pub log-there : AreThere arena 0 (opening arena) t.feeds t.journals bytes last_of_log
  log-there =
      let lines = fed_lines arena 0 (opening arena) t.feeds t.journals in
      let last = EndLine (length t.feeds) in
      record {
        each = t.recorded.each;
        right = t.right;
        is = t.begins.is ∙ ap (λ x. x ++ t.begins.after) (text_of-append lines (last ∷ [])) ∙ append_assoc (text_of lines) (text_of (last ∷ [])) t.begins.after
            ∙ ap (λ x. text_of lines ++ (x ++ t.begins.after)) (text_of-one last);
        whole = λ more. record {
          line = line_spelling last;
          after = t.begins.after;
          is = line-first last t.begins.after;
          one_line = one_line last;
          fits = (let short = end-short (length t.feeds) (let few = t.recorded.few in omega (arith, few)) in omega (arith, short));
          other = refl;
        };
      }
