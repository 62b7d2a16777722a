-- What a host in memory is: a host that tells its files, and whose calls fail where it was told so.
use Rattle.std.specs.Prelude.{◌≡◌, ℕ, ◌+◌, ◌-◌, ◌^◌, ◌<◌, min, length, true, false, [], ◌∷◌, ◌++◌, List, Contains, is_some}
use Rattle.std.specs.Option.{option_map_or}
use Rattle.std.specs.FinMap.{insert, empty}
use Rattle.mr_values.specs.declared.memory_host.MemoryHost.{MemoryHost}
use Rattle.mr_values.specs.Host.{HostState}
use Rattle.mr_values.specs.NamedFiles.{files_of, name_at, bytes_at, capacity_at, ends_in}

abbrev pub host_state : MemoryHost → HostState
host_state host = record {
  tells = true;
  has_input = is_some host.input;
  has_output = is_some host.output;
  faults = host.faults;
  struck = host.strikes.struck;
  files = files_of host.files.items;
  input = option_map_or (λ reading. name_at host.files.items reading.file) host.input [];
  place = option_map_or (λ reading. reading.place) host.input 0;
  output = option_map_or (λ at. name_at host.files.items at) host.output [];
  ends = ends_in host.files.items;
}

-- a host in memory: as a host, the numbers of the calls that are to fail, how many calls there were,
-- and the greatest count of bytes of one `next`
pub record MemoryState : Type 0 where
  pub host : HostState
  pub failing : List ℕ
  pub calls : ℕ
  pub piece : ℕ

abbrev pub memory_state : MemoryHost → MemoryState
memory_state host = record {
  host = host_state host;
  failing = host.strikes.failing.items;
  calls = host.strikes.calls;
  piece = host.piece;
}

-- a new host
abbrev pub fresh : MemoryState
fresh = record {
  host = record {
    tells = true;
    has_input = false;
    has_output = false;
    faults = record { open_input = 0; next = 0; open_output = 0; put = 0 };
    struck = 0;
    files = empty;
    input = [];
    place = 0;
    output = [];
    ends = λ name. 0;
  };
  failing = [];
  calls = 0;
  piece = 2 ^ 64 - 1;
}

-- the host with a file of these bytes
abbrev pub with_file : List ℕ → List ℕ → MemoryState → MemoryState
with_file name bytes s = record s { host = record s.host { files = insert s.host.files name bytes } }

-- the host with one more call that is to fail
abbrev pub with_failing : ℕ → MemoryState → MemoryState
with_failing number s = record s { failing = s.failing ++ number ∷ [] }

abbrev pub with_piece : ℕ → MemoryState → MemoryState
with_piece size s = record s { piece = size }

-- the next call is to fail
abbrev pub IsToFail : MemoryState → Type 0
IsToFail s = Contains s.failing s.calls

-- a call counts, and changes neither which calls are to fail nor the size of pieces
pub record TakesTurn (old new : MemoryState) : Type 0 where
  pub failing : new.failing ≡ old.failing
  pub calls : new.calls ≡ min (old.calls + 1) (2 ^ 64 - 1)
  pub piece : new.piece ≡ old.piece

-- the memory that holds the output has no room for so many more bytes
abbrev pub LacksRoom : ℕ → MemoryHost → Type 0
LacksRoom more host = option_map_or (λ at. capacity_at host.files.items at) host.output 0 < option_map_or (λ at. length (bytes_at host.files.items at)) host.output 0 + more
