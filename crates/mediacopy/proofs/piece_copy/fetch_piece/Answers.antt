use Rattle.std.proofs.Common.{◌≡◌, ◌∙◌, Err, ap, arith, refl}
use Rattle.list_terms.specs.Heard.{sounds_of}
use Rattle.devices.specs.declared.fault.ShelfFault.{ShelfFault}
use Rattle.devices.specs.declared.fault.ShelfFault.TheVariants.{Device, NotFound}
use Rattle.mediacopy.proofs.Located.{inside_source, range_bytes}
use Rattle.mediacopy.proofs.piece_copy.fetch_piece.Goals as goal

-- The only fault of an existing source is a device failure.
told_device : (fault : ShelfFault) → (fault ≡ NotFound → ⊥) → fault ≡ Device
told_device Device there = refl
told_device NotFound there = absurd (there refl)

pub overflow_add-run : goal.overflow_add-run
overflow_add-run g c =
    let inside = inside_source (sounds_of c.args.bound.now) c.args.runs.now c.args.job c.requires.piece in
    let few = rw c.source_of-sound.ensures at c.channels.ensures.within.few_frames in
    rw c.run_of-run.ensures (omega (arith, inside, few))

pub read_bytes-requires : goal.read_bytes-requires
read_bytes-requires g c =
    let inside = inside_source (sounds_of c.args.bound.now) c.args.runs.now c.args.job c.requires.piece in
    rw (c.source_of-sound.ensures, c.run_of-run.ensures)
    (record { whole = (c.args.job.frames, c.requires.room, inside) })

pub returns-in-Ok-clause-fetched : goal.returns-in-Ok-clause-fetched
returns-in-Ok-clause-fetched g c = λ honest.
    let range = rw (c.source_of-sound.ensures, c.run_of-run.ensures) at (c.in-Ok.ensures.bytes honest) in
    range_bytes _ _ _ c.read_bytes.new.bytes range (c.read_bytes.auto.bytes ∙ c.requires.room)

pub returns-in-Err-clause-only_reads : goal.returns-in-Err-clause-only_reads
returns-in-Err-clause-only_reads g c =
    let only = c.in-Err.ensures.only_reads in
    let device = told_device c.in-Err.field-0 (λ missing. c.in-Err.ensures.not_missing (ap Err missing)) in
    record {
      same = only.same;
      honest_same = only.honest_same;
      cause = record {
        later = only.cause.later;
        left = λ quiet. absurd (quiet tt);
        rose = λ told few. only.cause.rose device few;
      };
      keeps = only.keeps;
      failed_there = λ told. rw c.source_of-sound.ensures at (only.failed_there device);
    }
