use Rattle.std.proofs.Common.{[], ◌∙◌, ap, subst, sym}
use Rattle.std.specs.List.{flat_map}
use Rattle.std.proofs.lemmas.List.{flat_map_more, map-id}
use Rattle.std.proofs.lemmas.Iterator.{YieldsList-from_chars}
use Rattle.std.proofs.lemmas.Iterator.Consumers.{YieldsList-end}
use Rattle.checkreport.specs.Printed.{printed_in_string}
use Rattle.console.specs.Printing.{Prints}
use Rattle.console.specs.PrintingLaws.{prints_more, prints_nothing}
use Rattle.checkreport.proofs.values.put_characters.Goals as goal

pub loop-character-init : goal.loop-character-init
loop-character-init g c = prints_nothing g.O.Console.contents g.O.Console.failures _

pub loop-character-preserved : goal.loop-character-preserved
loop-character-preserved g c =
    subst (Prints g.O.Console.contents g.O.Console.failures _ _)
    (flat_map_more printed_in_string [] c.loop-character.yielded c.in-Some.character)
    (prints_more g.O.Console.contents g.O.Console.failures c.loop-character.invariant c.put_character.ensures)

pub returns : goal.returns
returns g c =
    let yields = YieldsList-from_chars c.args.text.now c.utf8.text cc in
    let all = YieldsList-end yields c.loop-character.yielded _ c.loop-character.yielded_by _ _ c.in-None.is
    c.next.ensures.steps in
    subst (Prints g.O.Console.contents g.O.Console.failures _ _)
    (ap (flat_map printed_in_string) (sym (map-id c.loop-character.yielded) ∙ all.0)) c.loop-character.invariant
