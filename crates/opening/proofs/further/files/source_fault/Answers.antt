use Rattle.std.proofs.Common.{Some, rules}
use Rattle.opening.specs.declared.fault.Fault.TheVariants.{SameName}
use Rattle.opening.proofs.MoreTold.{named_one, told_one}
use Rattle.opening.proofs.further.files.source_fault.Goals as goal

pub returns-in-First-clause-noted : goal.returns-in-First-clause-noted
returns-in-First-clause-noted g c = λ named knows.
    let noted = c.in_ok-note.ensures.noted named knows in
    let one = named_one c.args.used.now c.args.source.now c.in-Some.location (search rules) (search rules) in
    search rules

pub returns-clause-reported : goal.returns-clause-reported
returns-clause-reported g c = λ honest named knows.
    told_one (g.S.Shelf.stored c.args.shelf.now) named c.args.used.now c.args.source.now
    (Some (SameName c.number-in-ByOtherPath.result)) (search rules) (search rules)
