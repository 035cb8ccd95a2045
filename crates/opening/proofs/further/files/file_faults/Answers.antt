use Rattle.std.proofs.Common.{[], rules}
use Rattle.opening.proofs.further.files.file_faults.Goals as goal

pub returns-clause-of_files : goal.returns-clause-of_files
returns-clause-of_files g c = λ honest.
    let noted = c.in_ok-note_files.ensures [] c.new-paths.ensures in
    let told = c.tell_files.ensures.reported honest _ noted in
    search rules
