-- Models of the stores in memory.
use Rattle.std.specs.Prelude.{ℕ, ◌-◌, Bool, ◌&&◌, ◌==◌, nat_lt, if◌then◌else◌, Result, IsOk, IsErr}
use Rattle.work_terms.specs.Disk.{Files, HasCause}
use Rattle.shelf.specs.declared.memory.device.Device.{Device}
use Rattle.shelf.specs.declared.memory.sources.MemoryShelf.{MemoryShelf}
use Rattle.shelf.specs.declared.memory.bench.MemoryBench.{MemoryBench}
use Rattle.shelf.specs.Files.{files_of}
use Rattle.shelf.specs.History.{History, history_by, read_of}

-- the number of calls that succeed, and the number of calls after those that fail
abbrev pub stretch_of : Device → ℕ × ℕ
stretch_of device = (device.well, device.failing)

-- the next call must fail
abbrev pub fails_now : ℕ × ℕ → Bool
fails_now stretch = stretch.0 == 0 && nat_lt 0 stretch.1

-- the stretch after one more call
abbrev pub after_call : ℕ × ℕ → ℕ × ℕ
after_call stretch = if nat_lt 0 stretch.0 then (stretch.0 - 1, stretch.1) else (0, stretch.1 - 1)

-- contents of the files of a shelf
abbrev pub shelf_files : MemoryShelf → Files
shelf_files shelf = files_of shelf.files

-- number of failures of a shelf
abbrev pub shelf_failures : MemoryShelf → ℕ
shelf_failures shelf = shelf.device.failures

-- calls of a shelf that fail
abbrev pub shelf_stretch : MemoryShelf → ℕ × ℕ
shelf_stretch shelf = stretch_of shelf.device

-- recorded calls of a bench
abbrev pub bench_history : MemoryBench → History
bench_history bench = history_by (files_of bench.record.start) bench.record.calls.items

-- contents of the files of a bench
abbrev pub bench_files : MemoryBench → Files
bench_files bench = read_of (bench_history bench)

-- number of failures of a bench
abbrev pub bench_failures : MemoryBench → ℕ
bench_failures bench = bench.device.failures

-- effect of a call on the failure count: one more if it fails
abbrev pub CountsFault : {X E : Type 0} → MemoryBench → MemoryBench → Result X E → Type 0
CountsFault old new result = HasCause (bench_failures old) (bench_failures new) (IsOk result) (IsErr result)

-- calls of a bench that fail
abbrev pub bench_stretch : MemoryBench → ℕ × ℕ
bench_stretch bench = stretch_of bench.device

-- number of bytes that the first failing call writes
abbrev pub bench_part : MemoryBench → ℕ
bench_part bench = bench.part
