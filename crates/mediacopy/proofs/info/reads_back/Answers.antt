use Rattle.mediacopy.proofs.Medium.{is_medium}
use Rattle.mediacopy.proofs.info.reads_back.Goals as goal

pub returns-clause-medium : goal.returns-clause-medium
returns-clause-medium c = λ inside source has.
    let fits = rw c.info_of-info.ensures at (c.reads_back.ensures.short (rw c.info_of-info.ensures c.requires.short)) in
    let reads = rw c.info_of-info.ensures at c.reads_back.ensures.reads_back in
    let stands = rw c.info_of-info.ensures at c.reads_back.ensures.data_stands in
    is_medium c.args.sound.now source c.args.run.now c.args.base
    (λ name samples counted. reads name samples fits counted) stands inside has
