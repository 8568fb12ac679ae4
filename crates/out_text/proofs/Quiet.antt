-- The lines of a text, and what each is to the journals that are read off it.
use Rattle.std.proofs.Common.{◌≡◌, ℕ, zero, suc, ◌+◌, ◌/◌, ◌%◌, ◌==◌, Bool, true, false, not, cond, List, [], ◌∷◌, ◌++◌, length, take, drop, map, codes, bytes_eq, if◌then◌else◌, Some, None, unwrap_or, nat_lt, slice_index, ℤ, pos, negsuc, refl, sym, ap, ◌∙◌, arith, append-nil}
use Rattle.std.specs.Bool.{⊤}
use Rattle.std.specs.List.{AllByRecursion, position_or_len, join_with_byte}
use Rattle.std.specs.Fmt.{digits, digits_onto, digit_glyph, decimal, signed_decimal}
use Rattle.std.proofs.lemmas.Bool.Decides.{nat_tests}
use Rattle.std.proofs.lemmas.List.Elements.{All-from_recursion}
use Rattle.std.proofs.lemmas.List.Folds.{flat_map-map}
use Rattle.hex.specs.Hex.{encode_with, encode_lower, lower_digits}
use Rattle.edge_io.specs.Lines.{HasNoLineFeed}
use Rattle.edge_io.specs.Fields.{is_space, cut}
use Rattle.edge_io.specs.WholeLines.{is_line_feed, whole_lines, unlines}
use Rattle.edge_io.proofs.Feeds.{whole_lines-unlines}
use Rattle.client_ports.specs.declared.refusal.Refusal.{Refusal}
use Rattle.client_ports.specs.declared.refusal.Refusal.TheVariants.{Packet, Already, Full, Crowded, NotJoined, Leaving, Old, Many}
use Rattle.packet_read.specs.declared.packet_fault.PacketFault.{PacketFault}
use Rattle.packet_read.specs.declared.packet_fault.PacketFault.TheVariants.{Empty, Version, Kind, Short, Long, Time, Buttons, Count}
use Rattle.out_text.specs.Dids.{Did, journal_from}
use Rattle.out_text.specs.OutLines.{OutLine, FrameLine, FromLine, NoLine, JoinedLine, DidLine, ToLine, EndLine, fault_name_of, name_of, ids_text, line_spelling, text_of}
use Rattle.demo_lines.specs.Spelling.{packet_text}
use Rattle.out_text.specs.Journals.{Mark, Other, frame_mark, did_mark, number_at, did_in, mark_of, Split, onto, split_at_frames, dids}

-- ---- bytes among which none passes a test

-- whether none does
abbrev pub none_passes : (ℕ → Bool) → List ℕ → Bool
none_passes p [] = true
none_passes p (b ∷ bytes) = cond (p b) false (none_passes p bytes)

both_where : (first rest : Bool) → cond first false rest ≡ true → (first ≡ false) × (rest ≡ true)
both_where true rest e = cc
both_where false rest e = (refl, e)

pub none_where : (p : ℕ → Bool) (bytes : List ℕ) → none_passes p bytes ≡ true → AllByRecursion (λ b. p b ≡ false) bytes
none_where p [] none = tt
none_where p (b ∷ bytes) none =
    let both = both_where (p b) (none_passes p bytes) none in
    (both.0, none_where p bytes both.1)

-- ---- no line has a line feed in it

-- no byte is a line feed, by recursion
abbrev Unbroken : List ℕ → Type 0
Unbroken bytes = AllByRecursion (λ b. (b == 10) ≡ false) bytes

Unbroken-append : (xs ys : List ℕ) → Unbroken xs → Unbroken ys → Unbroken (xs ++ ys)
Unbroken-append [] ys p q = q
Unbroken-append (x ∷ xs) ys p q = (p.0, Unbroken-append xs ys p.1 q)

Unbroken-cond : (b : Bool) (xs ys : List ℕ) → Unbroken xs → Unbroken ys → Unbroken (cond b xs ys)
Unbroken-cond true xs ys p q = p
Unbroken-cond false xs ys p q = q

glyph_is_no_feed : (upper : Bool) (d : ℕ) → (digit_glyph upper d == 10) ≡ false
glyph_is_no_feed true d = grind (arith, nat_tests)
glyph_is_no_feed false d = grind (arith, nat_tests)

Unbroken-digits_onto : (k base : ℕ) (upper : Bool) (n : ℕ) (acc : List ℕ) → Unbroken acc → Unbroken (digits_onto k base upper n acc)
Unbroken-digits_onto zero base upper n acc none = none
Unbroken-digits_onto (suc k) base upper n acc none =
    let longer = digit_glyph upper (n % base) ∷ acc in
    let none_longer : Unbroken longer = (glyph_is_no_feed upper (n % base), none) in
    Unbroken-cond (n / base == 0) longer (digits_onto k base upper (n / base) longer) none_longer (Unbroken-digits_onto k base upper (n / base) longer none_longer)

Unbroken-decimal : (n : ℕ) → Unbroken (decimal n)
unfolding digits
Unbroken-decimal n = Unbroken-digits_onto 64 10 false n [] tt

Unbroken-signed : (z : ℤ) → Unbroken (signed_decimal z)
Unbroken-signed (pos n) = Unbroken-decimal n
Unbroken-signed (negsuc n) = (refl, Unbroken-decimal (suc n))

Unbroken-joined : (id : ℕ) (ids : List ℕ) → Unbroken (join_with_byte 44 (map decimal (id ∷ ids)))
Unbroken-joined id [] = Unbroken-decimal id
Unbroken-joined id (next ∷ ids) =
    Unbroken-append (decimal id) (44 ∷ join_with_byte 44 (map decimal (next ∷ ids))) (Unbroken-decimal id) (refl, Unbroken-joined next ids)

Unbroken-ids : (ids : List ℕ) → Unbroken (ids_text ids)
Unbroken-ids [] = (refl, tt)
Unbroken-ids (id ∷ ids) = Unbroken-joined id ids

-- an element of such a list, or 0 past its end
read_is_no_feed : (t : List ℕ) (i : ℕ) → Unbroken t → (slice_index t i == 10) ≡ false
read_is_no_feed [] i none = refl
read_is_no_feed (b ∷ t) zero none = none.0
read_is_no_feed (b ∷ t) (suc i) none = read_is_no_feed t i none.1

Unbroken-encode : (t bytes : List ℕ) → Unbroken t → Unbroken (encode_with t bytes)
unfolding encode_with
Unbroken-encode t [] none = tt
Unbroken-encode t (b ∷ bytes) none = (read_is_no_feed t (b / 16) none, (read_is_no_feed t (b % 16) none, Unbroken-encode t bytes none))

Unbroken-packet : (bytes : List ℕ) → Unbroken (packet_text bytes)
Unbroken-packet [] = (refl, tt)
Unbroken-packet (b ∷ bytes) = Unbroken-encode lower_digits (b ∷ bytes) (none_where is_line_feed lower_digits refl)

Unbroken-fault : (fault : PacketFault) → Unbroken (fault_name_of fault)
Unbroken-fault Empty = none_where is_line_feed (codes "Empty") refl
Unbroken-fault Version = none_where is_line_feed (codes "Version") refl
Unbroken-fault Kind = none_where is_line_feed (codes "Kind") refl
Unbroken-fault Short = none_where is_line_feed (codes "Short") refl
Unbroken-fault Long = none_where is_line_feed (codes "Long") refl
Unbroken-fault Time = none_where is_line_feed (codes "Time") refl
Unbroken-fault Buttons = none_where is_line_feed (codes "Buttons") refl
Unbroken-fault Count = none_where is_line_feed (codes "Count") refl

Unbroken-name : (why : Refusal) → Unbroken (name_of why)
Unbroken-name (Packet fault) = Unbroken-fault fault
Unbroken-name Already = none_where is_line_feed (codes "Already") refl
Unbroken-name Full = none_where is_line_feed (codes "Full") refl
Unbroken-name Crowded = none_where is_line_feed (codes "Crowded") refl
Unbroken-name NotJoined = none_where is_line_feed (codes "NotJoined") refl
Unbroken-name Leaving = none_where is_line_feed (codes "Leaving") refl
Unbroken-name Old = none_where is_line_feed (codes "Old") refl
Unbroken-name Many = none_where is_line_feed (codes "Many") refl

-- a space between two
Unbroken-spaced : (xs ys : List ℕ) → Unbroken xs → Unbroken ys → Unbroken (xs ++ codes " " ++ ys)
Unbroken-spaced xs ys p q = Unbroken-append (xs ++ codes " ") ys (Unbroken-append xs (codes " ") p (refl, tt)) q

-- literal bytes and a number
Unbroken-numbered : (word : List ℕ) (n : ℕ) → none_passes is_line_feed word ≡ true → Unbroken (word ++ decimal n)
Unbroken-numbered word n none = Unbroken-append word (decimal n) (none_where is_line_feed word none) (Unbroken-decimal n)

Unbroken-did : (e : Did) → Unbroken (line_spelling (DidLine e))
Unbroken-did e =
    let slot = codes "did " ++ decimal e.slot in
    let seq = slot ++ codes " " ++ decimal e.seq in
    let x = seq ++ codes " " ++ signed_decimal e.origin.x in
    let y = x ++ codes " " ++ signed_decimal e.origin.y in
    let z = y ++ codes " " ++ signed_decimal e.origin.z in
    let to_seq = Unbroken-spaced slot (decimal e.seq) (Unbroken-numbered (codes "did ") e.slot refl) (Unbroken-decimal e.seq) in
    let to_x = Unbroken-spaced seq (signed_decimal e.origin.x) to_seq (Unbroken-signed e.origin.x) in
    let to_y = Unbroken-spaced x (signed_decimal e.origin.y) to_x (Unbroken-signed e.origin.y) in
    let to_z = Unbroken-spaced y (signed_decimal e.origin.z) to_y (Unbroken-signed e.origin.z) in
    Unbroken-spaced z (ids_text e.got) to_z (Unbroken-ids e.got)

Unbroken-spelled : (line : OutLine) → Unbroken (line_spelling line)
Unbroken-spelled (FrameLine frame) = Unbroken-numbered (codes "frame ") frame refl
Unbroken-spelled (FromLine port bytes) =
    Unbroken-spaced (codes "from " ++ decimal port) (packet_text bytes) (Unbroken-numbered (codes "from ") port refl) (Unbroken-packet bytes)
Unbroken-spelled (NoLine place why) =
    Unbroken-spaced (codes "no " ++ decimal place) (name_of why) (Unbroken-numbered (codes "no ") place refl) (Unbroken-name why)
Unbroken-spelled (JoinedLine port slot) =
    Unbroken-spaced (codes "joined " ++ decimal port) (decimal slot) (Unbroken-numbered (codes "joined ") port refl) (Unbroken-decimal slot)
Unbroken-spelled (DidLine e) = Unbroken-did e
Unbroken-spelled (ToLine slot bytes) =
    Unbroken-spaced (codes "to " ++ decimal slot) (encode_lower bytes) (Unbroken-numbered (codes "to ") slot refl)
    (Unbroken-encode lower_digits bytes (none_where is_line_feed lower_digits refl))
Unbroken-spelled (EndLine frames) = Unbroken-numbered (codes "end ") frames refl

pub each_unbroken : (lines : List OutLine) → AllByRecursion HasNoLineFeed (map line_spelling lines)
each_unbroken [] = tt
each_unbroken (line ∷ lines) = (All-from_recursion (λ b. (b == 10) ≡ false) (line_spelling line) (Unbroken-spelled line), each_unbroken lines)

-- the whole lines of a text are its lines, spelled
pub whole_lines-text : (lines : List OutLine) → whole_lines (text_of lines) ≡ map line_spelling lines
whole_lines-text lines =
    ap whole_lines (sym (flat_map-map (λ line. line ++ 10 ∷ []) line_spelling lines) ∙ sym (append-nil (unlines (map line_spelling lines))))
    ∙ whole_lines-unlines (map line_spelling lines) [] (each_unbroken lines)
    ∙ append-nil (map line_spelling lines)

-- ---- the first word of a line

pub one_more : (m n : ℕ) → m ≡ n → 1 + m ≡ suc n
one_more m n e = omega arith

-- the first space after a word without one
position-space : (word rest : List ℕ) → AllByRecursion (λ b. is_space b ≡ false) word → position_or_len is_space (word ++ 32 ∷ rest) ≡ length word
position-space [] rest none = refl
position-space (b ∷ word) rest none =
    ap (λ t. cond (not t) (1 + position_or_len is_space (word ++ 32 ∷ rest)) 0) none.0
    ∙ one_more (position_or_len is_space (word ++ 32 ∷ rest)) (length word) (position-space word rest none.1)

is_inside : (word rest : List ℕ) → nat_lt (length word) (length (word ++ 32 ∷ rest)) ≡ true
is_inside [] rest = grind (arith, nat_tests)
is_inside (b ∷ word) rest = grind (arith, nat_tests, is_inside word rest)

position_is : (place size n : ℕ) → place ≡ n → nat_lt n size ≡ true → unwrap_or (cond (nat_lt place size) (Some place) None) size ≡ n
position_is place size n e inside = ap (λ k. unwrap_or (cond (nat_lt k size) (Some k) None) size) e ∙ ap (λ t. unwrap_or (cond t (Some n) None) size) inside

take-front : (xs ys : List ℕ) → take (length xs) (xs ++ ys) ≡ xs
take-front [] ys = refl
take-front (x ∷ xs) ys = ap (λ l. x ∷ l) (take-front xs ys)

drop-front : (xs ys : List ℕ) → drop (length xs) (xs ++ ys) ≡ ys
drop-front [] ys = refl
drop-front (x ∷ xs) ys = drop-front xs ys

abbrev cut_at : ℕ → List ℕ → List ℕ × List ℕ
cut_at n bytes = (take n bytes, drop n bytes)

-- a word is cut off at the space after it
pub cut-word : (word rest : List ℕ) → AllByRecursion (λ b. is_space b ≡ false) word → cut (word ++ 32 ∷ rest) ≡ (word, 32 ∷ rest)
cut-word word rest none =
    let bytes = word ++ 32 ∷ rest in
    ap (λ n. cut_at n bytes) (position_is (position_or_len is_space bytes) (length bytes) (length word) (position-space word rest none) (is_inside word rest))
    ∙ (λ i. (take-front word (32 ∷ rest) i, drop-front word (32 ∷ rest) i))

-- what a line is to the journals by its first word and the rest
abbrev mark_by : List ℕ → List ℕ × List ℕ → Mark
mark_by line parts =
    if bytes_eq parts.0 (codes "frame") then frame_mark line (number_at 4294967295 parts.1)
    else if bytes_eq parts.0 (codes "did") then did_mark line (did_in parts.1)
    else Other

pub mark-word : (word rest : List ℕ) → AllByRecursion (λ b. is_space b ≡ false) word → mark_of (word ++ 32 ∷ rest) ≡ mark_by (word ++ 32 ∷ rest) (word, 32 ∷ rest)
mark-word word rest none = ap (mark_by (word ++ 32 ∷ rest)) (cut-word word rest none)

-- the line opens no frame and reports no move
abbrev pub IsSilent : OutLine → Type 0
IsSilent (FrameLine frame) = ⊥
IsSilent (FromLine port bytes) = ⊤
IsSilent (NoLine place why) = ⊤
IsSilent (JoinedLine port slot) = ⊤
IsSilent (DidLine did) = ⊥
IsSilent (ToLine slot bytes) = ⊤
IsSilent (EndLine frames) = ⊤

mark-silent : (line : OutLine) → IsSilent line → mark_of (line_spelling line) ≡ Other
mark-silent (FrameLine frame) silent = absurd silent
mark-silent (FromLine port bytes) silent = mark-word (codes "from") (decimal port ++ codes " " ++ packet_text bytes) (none_where is_space (codes "from") refl)
mark-silent (NoLine place why) silent = mark-word (codes "no") (decimal place ++ codes " " ++ name_of why) (none_where is_space (codes "no") refl)
mark-silent (JoinedLine port slot) silent = mark-word (codes "joined") (decimal port ++ codes " " ++ decimal slot) (none_where is_space (codes "joined") refl)
mark-silent (DidLine did) silent = absurd silent
mark-silent (ToLine slot bytes) silent = mark-word (codes "to") (decimal slot ++ codes " " ++ encode_lower bytes) (none_where is_space (codes "to") refl)
mark-silent (EndLine frames) silent = mark-word (codes "end") (decimal frames) (none_where is_space (codes "end") refl)

-- ---- the journals of lines

-- the moves that lines report, frame by frame
abbrev pub split_of : List OutLine → Split
split_of lines = split_at_frames (map mark_of (map line_spelling lines))

-- silent lines say nothing to the journals
pub split-silent : (lines more : List OutLine) → AllByRecursion IsSilent lines → split_of (lines ++ more) ≡ split_of more
split-silent [] more silent = refl
split-silent (line ∷ lines) more silent =
    ap (λ mark. onto mark (split_of (lines ++ more))) (mark-silent line silent.0) ∙ split-silent lines more silent.1

pub silent_both : (lines more : List OutLine) → AllByRecursion IsSilent lines → AllByRecursion IsSilent more → AllByRecursion IsSilent (lines ++ more)
silent_both [] more p q = q
silent_both (line ∷ lines) more p q = (p.0, silent_both lines more p.1 q)

pub silent_each : {X : Type 0} (f : X → OutLine) (xs : List X) → ((x : X) → IsSilent (f x)) → AllByRecursion IsSilent (map f xs)
silent_each f [] silent = tt
silent_each f (x ∷ xs) silent = (silent x, silent_each f xs silent)

-- the journals of a text are those of its lines
pub dids-text : (lines : List OutLine) (reports : List (List Did)) → split_of lines ≡ record { before = []; frames = reports } → dids (text_of lines) ≡ map (journal_from 0) reports
dids-text lines reports is = ap (λ ls. map (journal_from 0) (split_at_frames (map mark_of ls)).frames) (whole_lines-text lines) ∙ ap (λ (s : Split). map (journal_from 0) s.frames) is
