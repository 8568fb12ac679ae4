-- What a source and a sink in memory are seen as.
use Rattle.std.specs.Prelude.{◌≡◌, ℕ, ◌-◌, ◌≤◌, ◌<◌, ◌↔◌, ◌++◌, Bool, ◌==◌, ◌&&◌, ◌||◌, nat_lt, List, All, Contains, length, take, drop, min}
use Rattle.std.specs.Prelude.{Result, IsErr, IfOk, OnErr}
use Rattle.edge_io.specs.Counts.{one_more}

-- a source in memory: the bytes that are left, the most that a read gives, the numbers of the calls that fail, how many
-- calls were made, how many of them failed, how many bytes the last read that succeeded gave, and whether the end of
-- input was given
pub record MemSourceView : Type 0 where
  pub left : List ℕ
  pub most : ℕ
  pub fails : List ℕ
  pub calls : ℕ
  pub faults : ℕ
  pub last : ℕ
  pub ended : Bool

-- how many bytes a read gives to a buffer of this length
abbrev pub read_count : MemSourceView → ℕ → ℕ
read_count source room = min source.most (min room (length source.left))

-- the source after a read with a buffer of this length that gave this many bytes
abbrev pub after_read : MemSourceView → ℕ → ℕ → MemSourceView
after_read source room count = record {
  left = drop count source.left;
  most = source.most;
  fails = source.fails;
  calls = one_more source.calls;
  faults = source.faults;
  last = count;
  ended = source.ended || (count == 0 && nat_lt 0 room);
}

-- the source after a read that failed
abbrev pub after_failed_read : MemSourceView → MemSourceView
after_failed_read source = record {
  left = source.left;
  most = source.most;
  fails = source.fails;
  calls = one_more source.calls;
  faults = one_more source.faults;
  last = source.last;
  ended = source.ended;
}

-- a read with a buffer of this length gave this: it fails at the calls that are chosen, and else gives what is left, as
-- far as the buffer and the most that a read gives allow
pub record IsReadOf {E : Type 0} (old new : MemSourceView) (room : ℕ) (result : Result ℕ E) : Type 0 where
  pub fails : IsErr result ↔ Contains old.fails old.calls
  pub count : IfOk result (λ n. n ≡ read_count old room)
  pub ok : IfOk result (λ n. new ≡ after_read old room n)
  pub err : OnErr result (new ≡ after_failed_read old)

-- no call from here on fails
abbrev pub HasNoFailingCall : MemSourceView → Type 0
HasNoFailingCall source = All (λ call. call < source.calls) source.fails

-- a sink in memory: the bytes that it has taken, how many it can take in all, the most that a write takes, and how many
-- writes failed
pub record MemSinkView : Type 0 where
  pub taken : List ℕ
  pub room : ℕ
  pub most : ℕ
  pub faults : ℕ

-- how many more bytes the sink can take
abbrev pub room_left : MemSinkView → ℕ
room_left sink = sink.room - length sink.taken

-- how many bytes a write takes of a piece of this length
abbrev pub write_count : MemSinkView → ℕ → ℕ
write_count sink len = min sink.most (min (room_left sink) len)

-- the sink after a write that took these bytes
abbrev pub after_write : MemSinkView → List ℕ → MemSinkView
after_write sink bytes = record {
  taken = sink.taken ++ bytes;
  room = sink.room;
  most = sink.most;
  faults = sink.faults;
}

-- the sink after a write that failed
abbrev pub after_failed_write : MemSinkView → MemSinkView
after_failed_write sink = record {
  taken = sink.taken;
  room = sink.room;
  most = sink.most;
  faults = one_more sink.faults;
}

-- a write of this piece gave this: it fails where there is no room, and else takes the front of the piece, as far as the
-- room and the most that a write takes allow
pub record IsWriteOf {E : Type 0} (old new : MemSinkView) (piece : List ℕ) (result : Result ℕ E) : Type 0 where
  pub full : IsErr result ↔ ((0 < length piece) × (old.room ≤ length old.taken))
  pub count : IfOk result (λ n. n ≡ write_count old (length piece))
  pub ok : IfOk result (λ n. new ≡ after_write old (take n piece))
  pub err : OnErr result (new ≡ after_failed_write old)
