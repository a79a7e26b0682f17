-- The forms in memory: what each holds, and what one call does to it.
use Rattle.std.specs.Prelude.{◌≡◌, ℕ, ◌+◌, Bool, true, false, List, [], ◌∷◌, ◌++◌, length, take, min, Option, Some, None, is_none, if◌then◌else◌, not, ◌==◌, ◌&&◌, ◌||◌, nat_lt, nat_le}
use Rattle.lx_outside.specs.declared.calls.Pair.{Pair}
use Rattle.lx_outside.specs.declared.calls.Fail.{Fail}
use Rattle.lx_outside.specs.Calls.{pair, greatest}

-- one more, up to the greatest count
abbrev pub one_more : ℕ → ℕ
one_more n = min (n + 1) greatest

abbrev pub up_if : Bool → ℕ → ℕ
up_if b n = if b then one_more n else n

-- the call of this number is listed
abbrev pub is_listed : List ℕ → ℕ → Bool
is_listed [] call = false
is_listed (k ∷ ks) call = (k == call) || is_listed ks call

-- how many bytes the call of this number takes, where it is listed as one that fails
abbrev pub taken_by : List Fail → ℕ → Option ℕ
taken_by [] call = None
taken_by (f ∷ fs) call = if f.call == call then Some f.taken else taken_by fs call

-- the files, the numbers of the calls that fail, how many calls came, and how many failed
pub record SourceState : Type 0 where
  pub files : List Pair
  pub fails : List ℕ
  pub calls : ℕ
  pub faults : ℕ

-- the load that comes next is to fail
abbrev pub fails_next : SourceState → Bool
fails_next s = is_listed s.fails (one_more s.calls)

abbrev pub after_load : SourceState → SourceState
after_load s = record s { calls = one_more s.calls; faults = up_if (fails_next s) s.faults }

-- The pairs stored, how many there is room for, their bytes with the names', how many there is room for,
-- the calls that fail, how many calls came, and how many failed.
pub record SinkState : Type 0 where
  pub pairs : List Pair
  pub pair_room : ℕ
  pub used : ℕ
  pub byte_room : ℕ
  pub fails : List Fail
  pub calls : ℕ
  pub faults : ℕ

-- the bytes of which so many are taken, or all
abbrev pub front_of : Option ℕ → List ℕ → List ℕ
front_of None bytes = bytes
front_of (Some k) bytes = take k bytes

-- there is room for one more pair, and for so many bytes
abbrev pub has_room : SinkState → ℕ → Bool
has_room s n = nat_lt (length s.pairs) s.pair_room && nat_le (s.used + n) s.byte_room

-- what the store that comes next takes of these bytes
abbrev pub store_front : SinkState → List ℕ → List ℕ
store_front s bytes = front_of (taken_by s.fails (one_more s.calls)) bytes

abbrev pub store_fits : SinkState → List ℕ → List ℕ → Bool
store_fits s name bytes = has_room s (length name + length (store_front s bytes))

-- the store that comes next is not listed, and there is room for it
abbrev pub store_succeeds : SinkState → List ℕ → List ℕ → Bool
store_succeeds s name bytes = is_none (taken_by s.fails (one_more s.calls)) && store_fits s name bytes

abbrev pub after_store : SinkState → List ℕ → List ℕ → SinkState
after_store s name bytes = record s {
  pairs = if store_fits s name bytes then s.pairs ++ pair name (store_front s bytes) ∷ [] else s.pairs;
  used = if store_fits s name bytes then s.used + (length name + length (store_front s bytes)) else s.used;
  calls = one_more s.calls;
  faults = up_if (not (store_succeeds s name bytes)) s.faults;
}

-- The bytes said, how many there is room for, the calls that fail, how many calls came, and how many failed.
pub record ConsoleState : Type 0 where
  pub bytes : List ℕ
  pub room : ℕ
  pub fails : List Fail
  pub calls : ℕ
  pub faults : ℕ

-- what the say that comes next takes of these bytes
abbrev pub say_front : ConsoleState → List ℕ → List ℕ
say_front s bytes = front_of (taken_by s.fails (one_more s.calls)) bytes

abbrev pub say_fits : ConsoleState → List ℕ → Bool
say_fits s bytes = nat_le (length s.bytes + length (say_front s bytes)) s.room

abbrev pub say_succeeds : ConsoleState → List ℕ → Bool
say_succeeds s bytes = is_none (taken_by s.fails (one_more s.calls)) && say_fits s bytes

abbrev pub after_say : ConsoleState → List ℕ → ConsoleState
after_say s bytes = record s {
  bytes = if say_fits s bytes then s.bytes ++ say_front s bytes else s.bytes;
  calls = one_more s.calls;
  faults = up_if (not (say_succeeds s bytes)) s.faults;
}
