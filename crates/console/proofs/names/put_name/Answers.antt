use Rattle.std.proofs.Common.{[], ◌∙◌, ap, subst, sym}
use Rattle.std.specs.List.{flat_map}
use Rattle.std.proofs.lemmas.List.{flat_map_more, map-id}
use Rattle.std.proofs.lemmas.Iterator.{YieldsList-from_chars}
use Rattle.std.proofs.lemmas.Iterator.Consumers.{YieldsList-end}
use Rattle.console.specs.Lines.{printed_character}
use Rattle.console.specs.Printing.{Prints}
use Rattle.console.specs.PrintingLaws.{prints_more, prints_nothing}
use Rattle.console.proofs.names.put_name.Goals as goal

pub loop-character-init : goal.loop-character-init
loop-character-init g c = prints_nothing g.C.Console.contents g.C.Console.failures _

pub loop-character-preserved : goal.loop-character-preserved
loop-character-preserved g c =
    subst (Prints g.C.Console.contents g.C.Console.failures _ _)
    (flat_map_more printed_character [] c.loop-character.yielded c.in-Some.character)
    (prints_more g.C.Console.contents g.C.Console.failures c.loop-character.invariant c.put_character.ensures)

pub returns : goal.returns
returns g c =
    let yields = YieldsList-from_chars c.args.name.now c.utf8.name cc in
    let all = YieldsList-end yields c.loop-character.yielded _ c.loop-character.yielded_by _ _ c.in-None.is
    c.next.ensures.steps in
    subst (Prints g.C.Console.contents g.C.Console.failures _ _)
    (ap (flat_map printed_character) (sym (map-id c.loop-character.yielded) ∙ all.0)) c.loop-character.invariant
