-- Lines that were written are read as what was written.
use Rattle.std.proofs.Common.{◌≡◌, ℕ, suc, ◌+◌, ◌*◌, ◌^◌, ◌≤◌, ◌<◌, ◌&&◌, Bool, true, false, not, List, [], ◌∷◌, ◌++◌, length, Option, Some, None, Result, Ok, Err, is_some, option_map, cond, codes, bytes_eq, refl, sym, ap, ◌∙◌, subst, arith, ℤ, ◌≤ℤ◌, pos, negsuc, unsigned_abs, decimal, append-nil, length-append, rules}
use Rattle.std.specs.Option.{ok_or}
use Rattle.std.specs.Fmt.{signed_decimal}
use Rattle.std.proofs.lemmas.Int.{ints}
use Rattle.std.proofs.lemmas.Fmt.{length-decimal-le}
use Rattle.hex.specs.Hex.{lower_digits}
use Rattle.hex.proofs.HexLemmas.{length-encode_with}
use Rattle.edge_io.specs.Lines.{AreBytes}
use Rattle.edge_io.specs.Numbers.{natural_up_to, is_integer}
use Rattle.edge_io.specs.Fields.{◌>>=◌, cut, field_at, field_text}
use Rattle.edge_io.proofs.Decimals.{natural-decimal, natural-integer}
use Rattle.edge_io.proofs.FieldTexts.{decimal_above, cut-field, field_at-field}
use Rattle.arena_geo.specs.declared.vec3.Vec3.{Vec3}
use Rattle.arena_geo.specs.Vectors.{IsNear}
use Rattle.arena_map.specs.declared.map_line.MapLine.{MapLine}
use Rattle.arena_map.specs.declared.map_line.MapLine.TheVariants.{Arena, Block, Spawn, Item, Teleport, Goal, Lift, Depth, Shots, Blocks}
use Rattle.arena_map.specs.declared.map_word.MapWord.{MapWord}
use Rattle.arena_map.specs.declared.map_word.MapWord.TheVariants as map_words
use Rattle.entity_recs.specs.declared.kind.Kind.{Kind}
use Rattle.entity_recs.specs.declared.kind.Kind.TheVariants as kinds
use Rattle.entity_recs.specs.Kinds.{is_item}
use Rattle.arena_map.specs.MapLines.{IsWithinLimits, is_arena}
use Rattle.arena_map.specs.Words.{map_word, fields_of, word_text, kind_text}
use Rattle.arena_map.specs.Reading.{has_fields, line_within, line_of_first}
use Rattle.arena_map.specs.Spelling.{word_of, point_text, fields_text, map_line_text}
use Rattle.arena_map.proofs.LinesBack.{line-back}
use Rattle.packet_read.specs.declared.arrival.Arrival.{Arrival}
use Rattle.demo_lines.specs.declared.stage.Stage.{Stage}
use Rattle.demo_lines.specs.declared.stage.Stage.TheVariants.{Start, Map, Playing, Ended, Refused}
use Rattle.demo_lines.specs.declared.word.Word.{Word}
use Rattle.demo_lines.specs.declared.word.Word.TheVariants as words
use Rattle.demo_lines.specs.declared.line.Line.{Line}
use Rattle.demo_lines.specs.declared.line.Line.TheVariants.{OfMap, Frame, From, End}
use Rattle.demo_lines.specs.declared.line_fault.LineFault.{LineFault}
use Rattle.demo_lines.specs.declared.line_fault.LineFault.TheVariants as faults
use Rattle.demo_lines.specs.Packets.{packet_bytes}
use Rattle.demo_lines.specs.Words.{word_in, is_arena_word, is_nothing, from_fields, has_form, is_allowed}
use Rattle.demo_lines.specs.Lines.{are_printable, first_word, rest_of, from_of}
use Rattle.demo_lines.specs.Lines as lines
use Rattle.demo_lines.specs.Said.{of_map, packet_said, port_said, from_said, word_said, first_said, line_said}
use Rattle.demo_lines.specs.Spelling.{packet_text, line_text, IsArrival, IsLine}
use Rattle.demo_lines.specs.Laws.{PacketsHaveRoom, IsReadAs}
use Rattle.demo_lines.specs.Readings.{IsOfMap}
use Rattle.demo_lines.proofs.OnePass.{short_line}
use Rattle.demo_lines.proofs.Taking.{IsTaken}
use Rattle.demo_lines.proofs.MapWords.{IsKind, within-kind}
use Rattle.demo_lines.proofs.Prefixes.{bytes_eq-same}
use Rattle.demo_lines.proofs.Spellings.{packet_bytes-lower}
use Rattle.demo_lines.proofs.Ink.{AreInk, ink-append, packet_above, field-ink, decimal-ink, packet-ink, map_line-ink, are-printable, own_text}

-- ---- how long they are

number-long : (z : ℤ) → unsigned_abs z ≤ 1048576 → length (field_text (signed_decimal z)) ≤ 9
number-long (pos n) near = omega (arith, length-decimal-le 7 n (omega arith) (omega arith) (omega arith))
number-long (negsuc n) near = omega (arith, length-decimal-le 7 (suc n) (omega arith) (omega arith) (omega arith))

pub point-long : (p : Vec3) → IsNear 1048576 p → length (point_text p) ≤ 27
point-long p near =
    let x = field_text (signed_decimal p.x) in
    let y = field_text (signed_decimal p.y) in
    let z = field_text (signed_decimal p.z) in
    omega (arith, length-append (x ++ y) z, length-append x y, number-long p.x near.x, number-long p.y near.y, number-long p.z near.z)

pub corners-long : (lo hi : Vec3) → IsNear 1048576 lo → IsNear 1048576 hi → length (point_text lo ++ point_text hi) ≤ 54
corners-long lo hi near_lo near_hi = omega (arith, length-append (point_text lo) (point_text hi), point-long lo near_lo, point-long hi near_hi)

pub kind-long : (kind : Kind) → is_item kind ≡ true → length (kind_text kind) ≤ 4
kind-long kinds.Ammo is = omega arith
kind-long kinds.Gem is = omega arith
kind-long kind is = cc

small : (z : ℤ) (n : ℕ) → pos 1 ≤ℤ z → z ≤ℤ pos n → n ≤ 1048576 → unsigned_abs z ≤ 1048576
small (pos m) n low high few = omega (arith, ints, low, high)
small (negsuc m) n low high few = absurd (omega (arith, ints, low))

fields-long : (line : MapLine) → IsWithinLimits line → length (fields_text line) ≤ 81
fields-long (Arena lo hi) is = omega (arith, corners-long lo hi is.0 is.1)
fields-long (Block lo hi) is = omega (arith, corners-long lo hi is.0 is.1)
fields-long (Spawn at) is = omega (arith, point-long at is)
fields-long (Item at kind delay) is =
    let k = field_text (kind_text kind) in
    let d = field_text (decimal delay) in
    omega (
      arith,
      length-append (point_text at ++ k) d,
      length-append (point_text at) k,
      point-long at is.0,
      kind-long kind is.1,
      length-decimal-le 5 delay (omega arith) (omega (arith, is.3)) (omega (arith, is.3)),
    )
fields-long (Teleport lo hi dest) is =
    omega (arith, length-append (point_text lo ++ point_text hi) (point_text dest), corners-long lo hi is.0 is.1, point-long dest is.2)
fields-long (Goal lo hi) is = omega (arith, corners-long lo hi is.0 is.1)
fields-long (Lift lo hi rise speed) is =
    let c = point_text lo ++ point_text hi in
    let r = field_text (signed_decimal rise) in
    let s = field_text (signed_decimal speed) in
    omega (
      arith,
      length-append (c ++ r) s,
      length-append c r,
      corners-long lo hi is.0 is.1,
      number-long rise (small rise 1048576 is.2 is.3 (omega arith)),
      number-long speed (small speed 2560 is.4 is.5 (omega arith)),
    )
fields-long (Depth depth) is = omega (arith, length-decimal-le 1 depth (omega arith) (omega (arith, is.most)) (omega (arith, is.most)))
fields-long Shots is = omega arith
fields-long (Blocks most) is = omega (arith, length-decimal-le 4 most (omega arith) (omega (arith, is.most)) (omega (arith, is.most)))

word-long : (word : MapWord) → length (word_text word) ≤ 8
word-long map_words.Arena = omega arith
word-long map_words.Block = omega arith
word-long map_words.Spawn = omega arith
word-long map_words.Item = omega arith
word-long map_words.Teleport = omega arith
word-long map_words.Goal = omega arith
word-long map_words.Lift = omega arith
word-long map_words.Depth = omega arith
word-long map_words.Shots = omega arith
word-long map_words.Blocks = omega arith

map_line-long : (line : MapLine) → IsWithinLimits line → length (map_line_text line) ≤ 512
map_line-long line is = omega (arith, length-append (word_text (word_of line)) (fields_text line), word-long (word_of line), fields-long line is)

packet-long : (n : ℕ) (bytes : List ℕ) → 0 < n → length bytes ≤ n → length (packet_text bytes) ≤ 2 * n
packet-long n [] some few = omega arith
packet-long n (b ∷ bytes) some few = omega (arith, length-encode_with lower_digits (b ∷ bytes))

from-long : (a : Arrival) → length (line_text (From a)) ≡ 6 + (length (decimal a.port) + length (packet_text a.bytes))
from-long a = omega (arith, length-append (field_text (decimal a.port)) (field_text (packet_text a.bytes)))

-- so many bytes after a port of so many digits
room : (digits bytes : ℕ) (a : Arrival) → 0 < digits → a.port < 10 ^ digits → a.port < 2 ^ 64 → 0 < bytes → length a.bytes ≤ bytes → 6 + digits + 2 * bytes ≤ 512
    → length (line_text (From a)) ≤ 512
room digits bytes a some port small any few fits = omega (arith, from-long a, packet-long bytes a.bytes any few, length-decimal-le digits a.port some port small)

pub packets_have_room : PacketsHaveRoom
packets_have_room = record {
  each = λ a port few. room 5 250 a (omega arith) (omega arith) (omega arith) (omega arith) few (omega arith);
  low = λ a port few. room 4 251 a (omega arith) (omega arith) (omega arith) (omega arith) few (omega arith);
  lowest = λ a port few. room 2 252 a (omega arith) (omega arith) (omega arith) (omega arith) few (omega arith);
}

-- ---- lines of the map

-- a map line that is read has a word, its form, and its values within their limits
pub record IsMapRead (first : Option MapWord) (rest : List ℕ) (line : MapLine) : Type 0 where
  pub word : MapWord
  pub is : first ≡ Some word
  pub form : has_fields (fields_of word) rest ≡ true
  pub within : line_within word rest ≡ Some line

map_read-within : (word : MapWord) (form : Bool) (within : Option MapLine) (line : MapLine) → cond form (ok_or {E = ℕ} within 6) (Err 4) ≡ Ok line
    → (form ≡ true) × (within ≡ Some line)
map_read-within word false within line h = cc
map_read-within word true None line h = cc
map_read-within word true (Some l) line h = let same : l ≡ line = cc in (refl, ap Some same)

pub map_read : (first : Option MapWord) (rest : List ℕ) (line : MapLine) → line_of_first first rest ≡ Ok line → IsMapRead first rest line
map_read None rest line h = cc
map_read (Some word) rest line h =
    let parts = map_read-within word (has_fields (fields_of word) rest) (line_within word rest) line h in
    record { word = word; is = refl; form = parts.0; within = parts.1 }

not_play : (text play : List ℕ) (b : Bool) (word : MapWord) → map_word play ≡ None → map_word text ≡ Some word → bytes_eq text play ≡ b → b ≡ false
not_play text play true word none some is = let same = ap map_word (bytes_eq-same text play is) in let both : None ≡ Some word = sym none ∙ sym same ∙ some in cc
not_play text play false word none some is = refl

-- a word of the map is no other word
word_in-map : (text : List ℕ) (word : MapWord) → map_word text ≡ Some word → word_in text ≡ Some (words.OfMap word)
word_in-map text word is =
    let frame = not_play text (codes "frame") (bytes_eq text (codes "frame")) word refl is refl in
    let from = not_play text (codes "from") (bytes_eq text (codes "from")) word refl is refl in
    let end = not_play text (codes "end") (bytes_eq text (codes "end")) word refl is refl in
    let rest = option_map words.OfMap (map_word text) in
    let last = cond (bytes_eq text (codes "end")) (Some words.End) rest in
    ap (λ b. cond b (Some words.Frame) (cond (bytes_eq text (codes "from")) (Some words.From) last)) frame
    ∙ ap (λ b. cond b (Some words.From) last) from
    ∙ ap (λ b. cond b (Some words.End) rest) end
    ∙ ap (option_map words.OfMap) is

-- ---- what a written line is read as, text by text

-- the text of the line is all of it, and its word, its form and what it says are these
pub record Reads_as (raw : List ℕ) (line : Line) : Type 0 where
  pub ink : AreInk raw
  pub fits : length raw ≤ 512
  pub word : Word
  pub first : first_word raw ≡ Some word
  pub form : has_form word (rest_of raw) ≡ true
  pub says : lines.line_of word (rest_of raw) ≡ Some line
  pub here : (stage : Stage) → IsTaken stage line → is_allowed stage word ≡ true

map_line-here : (stage : Stage) (word : MapWord) (line : MapLine) → is_arena line ≡ is_arena_word word → IsOfMap stage line → is_allowed stage (words.OfMap word) ≡ true
map_line-here Start word line kind taken = sym kind ∙ taken
map_line-here Map word line kind taken = ap not (sym kind) ∙ taken
map_line-here Playing word line kind taken = absurd taken
map_line-here Ended word line kind taken = absurd taken
map_line-here (Refused why) word line kind taken = absurd taken

map_line-reads : (line : MapLine) → IsWithinLimits line → Reads_as (map_line_text line) (OfMap line)
map_line-reads line is =
    let text = map_line_text line in
    let read = map_read (map_word (cut text).0) (cut text).1 line (line-back line is) in
    record {
      ink = map_line-ink line is;
      fits = map_line-long line is;
      word = words.OfMap read.word;
      first = word_in-map (cut text).0 read.word read.is;
      form = read.form;
      says = ap (option_map OfMap) read.within;
      here = λ stage taken. map_line-here stage read.word line (subst (IsKind (is_arena_word read.word)) read.within (within-kind read.word (cut text).1)) taken;
    }

packet-read : (bytes : List ℕ) → AreBytes bytes → packet_bytes (packet_text bytes) ≡ Some bytes
packet-read [] are = refl
packet-read (b ∷ bytes) are = packet_bytes-lower (b ∷ bytes) are (omega arith)

-- the port and the packet of a written line
from_fields-read : (a : Arrival) → a.port < 65536 → AreBytes a.bytes
    → from_fields (field_text (decimal a.port) ++ field_text (packet_text a.bytes)) ≡ Some (decimal a.port, packet_text a.bytes)
from_fields-read a port are =
    let text = packet_text a.bytes in
    let Fields : Option (List ℕ × List ℕ) → Option (List ℕ × List ℕ) =
    λ o. o >>= (λ p. field_at p.1 >>= (λ q. cond (is_integer p.0 && is_nothing q.1) (Some (p.0, q.0)) None)) in
    let Packet : Option (List ℕ × List ℕ) → Option (List ℕ × List ℕ) =
    λ o. o >>= (λ q. cond (is_integer (decimal a.port) && is_nothing q.1) (Some (decimal a.port, q.0)) None) in
    let last : field_at (field_text text) ≡ Some (text, []) = ap field_at (sym (append-nil (field_text text))) ∙ field_at-field text [] (packet_above a.bytes are) tt in
    let number : is_integer (decimal a.port) ≡ true = natural-integer 65535 a.port (decimal a.port) (natural-decimal 65535 a.port (omega arith) (omega arith)) (omega arith) in
    ap Fields (field_at-field (decimal a.port) (field_text text) (decimal_above a.port (omega arith)) refl)
    ∙ ap Packet last
    ∙ ap (λ b. cond (b && true) (Some (decimal a.port, text)) None) number

from_of-read : (a : Arrival) (fields : Option (List ℕ × List ℕ)) → a.port < 65536 → AreBytes a.bytes → fields ≡ Some (decimal a.port, packet_text a.bytes)
    → (fields >>= (λ f. natural_up_to 65535 f.0)) >>= (λ p. (fields >>= (λ f. packet_bytes f.1)) >>= (λ b. Some (From (record { port = p; bytes = b })))) ≡ Some (From a)
from_of-read a fields port are is =
    let Read : Option (List ℕ × List ℕ) → Option Line =
    λ fs. (fs >>= (λ f. natural_up_to 65535 f.0)) >>= (λ p. (fs >>= (λ f. packet_bytes f.1)) >>= (λ b. Some (From (record { port = p; bytes = b })))) in
    let Port : Option ℕ → Option Line = λ o. o >>= (λ p. packet_bytes (packet_text a.bytes) >>= (λ b. Some (From (record { port = p; bytes = b })))) in
    let Bytes : Option (List ℕ) → Option Line = λ o. o >>= (λ b. Some (From (record { port = a.port; bytes = b }))) in
    ap Read is ∙ ap Port (natural-decimal 65535 a.port (omega arith) (omega arith)) ∙ ap Bytes (packet-read a.bytes are)

from-reads : (a : Arrival) → IsArrival a → Reads_as (line_text (From a)) (From a)
from-reads a is =
    let rest = field_text (decimal a.port) ++ field_text (packet_text a.bytes) in
    let parts : cut (line_text (From a)) ≡ (codes "from", rest) = cut-field (codes "from") rest (search rules) refl in
    let fields = from_fields-read a is.port is.bytes in
    let after : rest_of (line_text (From a)) ≡ rest = ap (λ (p : List ℕ × List ℕ). p.1) parts in
    record {
      ink = ink-append (codes "from") rest (search rules)
          (ink-append (field_text (decimal a.port)) (field_text (packet_text a.bytes)) (field-ink _ (decimal-ink a.port (omega (arith, is.port)))) (field-ink _ (packet-ink a.bytes is.bytes)));
      fits = is.fits;
      word = words.From;
      first = ap (λ (p : List ℕ × List ℕ). word_in p.0) parts;
      form = ap (λ r. is_some (from_fields r)) after ∙ ap is_some fields;
      says = ap from_of after ∙ from_of-read a (from_fields rest) is.port is.bytes fields;
      here = λ stage taken. taken;
    }

pub line_reads : (line : Line) → IsLine line → Reads_as (line_text line) line
line_reads (OfMap line) is = map_line-reads line is
line_reads Frame is = record { ink = search rules; fits = omega arith; word = words.Frame; first = refl; form = refl; says = refl; here = λ stage taken. taken }
line_reads (From a) is = from-reads a is
line_reads End is = record { ink = search rules; fits = omega arith; word = words.End; first = refl; form = refl; says = refl; here = λ stage taken. taken }

-- ---- by the definitions

pub is_read_as : (raw : List ℕ) (line : Line) → Reads_as raw line → IsReadAs raw line
is_read_as raw line reads =
    let own = own_text raw reads.ink in
    record {
      word = reads.word;
      whole = own;
      short = short_line raw reads.fits;
      printable = ap are_printable own ∙ are-printable raw reads.ink;
      first = ap first_word own ∙ reads.first;
      form = ap (λ text. has_form reads.word (rest_of text)) own ∙ reads.form;
      says = ap (λ text. lines.line_of_first (first_word text) (rest_of text)) own ∙ ap (λ o. lines.line_of_first o (rest_of raw)) reads.first ∙ reads.says;
    }

of_map-by : (within : Option MapLine) (line : Line) → option_map OfMap within ≡ Some line → of_map (ok_or within faults.Limit) ≡ Ok line
of_map-by None line h = cc
of_map-by (Some l) line h = cc

packet-by : (bytes : Option (List ℕ)) (port : ℕ) (line : Line) → bytes >>= (λ b. Some (From (record { port = port; bytes = b }))) ≡ Some line → packet_said bytes port ≡ Ok line
packet-by None port line h = cc
packet-by (Some bytes) port line h = cc

port-by : (port : Option ℕ) (packet : List ℕ) (line : Line) → port >>= (λ p. packet_bytes packet >>= (λ b. Some (From (record { port = p; bytes = b })))) ≡ Some line
    → port_said port packet ≡ Ok line
port-by None packet line h = cc
port-by (Some port) packet line h = packet-by (packet_bytes packet) port line h

from-by : (stage : Stage) (fields : Option (List ℕ × List ℕ)) (line : Line) → is_allowed stage words.From ≡ true
    → (fields >>= (λ f. natural_up_to 65535 f.0)) >>= (λ p. (fields >>= (λ f. packet_bytes f.1)) >>= (λ b. Some (From (record { port = p; bytes = b })))) ≡ Some line
    → from_said stage fields ≡ Ok line
from-by stage None line here h = cc
from-by stage (Some fields) line here h =
    ap (λ b. cond b (port_said (natural_up_to 65535 fields.0) fields.1) (Err faults.NotAllowed)) here ∙ port-by (natural_up_to 65535 fields.0) fields.1 line h

abbrev ok_line : Line → Result Line LineFault
ok_line line = Ok line

some_ok : (a b : Line) → Some a ≡ Some b → ok_line a ≡ ok_line b
some_ok a b h = cc

word_said-by : (stage : Stage) (word : Word) (rest : List ℕ) (line : Line) → has_form word rest ≡ true → is_allowed stage word ≡ true → lines.line_of word rest ≡ Some line
    → word_said stage word rest ≡ Ok line
word_said-by stage (words.OfMap word) rest line form here says =
    let value = ok_or (line_within word rest) faults.Limit in
    ap (λ b. of_map (cond b (cond (is_allowed stage (words.OfMap word)) value (Err faults.NotAllowed)) (Err faults.Form))) form
    ∙ ap (λ b. of_map (cond b value (Err faults.NotAllowed))) here
    ∙ of_map-by (line_within word rest) line says
word_said-by stage words.Frame rest line form here says =
    ap (λ b. cond b (cond (is_allowed stage words.Frame) (Ok Frame) (Err faults.NotAllowed)) (Err faults.Form)) form
    ∙ ap (λ b. cond b (Ok Frame) (Err faults.NotAllowed)) here ∙ some_ok Frame line says
word_said-by stage words.From rest line form here says = from-by stage (from_fields rest) line here says
word_said-by stage words.End rest line form here says =
    ap (λ b. cond b (cond (is_allowed stage words.End) (Ok End) (Err faults.NotAllowed)) (Err faults.Form)) form
    ∙ ap (λ b. cond b (Ok End) (Err faults.NotAllowed)) here ∙ some_ok End line says

-- at a stage that allows it a written line says what was written
pub line_said-back : (stage : Stage) (line : Line) → IsLine line → IsTaken stage line → line_said stage (line_text line) ≡ Ok line
line_said-back stage line is taken =
    let raw = line_text line in
    let reads = line_reads line is in
    ap (λ text. cond (are_printable text) (first_said stage (first_word text) (rest_of text)) (Err faults.Byte)) (own_text raw reads.ink)
    ∙ ap (λ b. cond b (first_said stage (first_word raw) (rest_of raw)) (Err faults.Byte)) (are-printable raw reads.ink)
    ∙ ap (λ o. first_said stage o (rest_of raw)) reads.first
    ∙ word_said-by stage reads.word (rest_of raw) line reads.form (reads.here stage taken) reads.says
