use Rattle.std.proofs.lemmas.Result.{on_ok_weaker}
use Rattle.checkreport.proofs.Listed.{report_of_sources, report_of_text}
use Rattle.checkreport.proofs.printed.put_faults.Goals as goal

pub returns-in-List-clause-printed : goal.returns-in-List-clause-printed
returns-in-List-clause-printed g c =
    on_ok_weaker c.put_lines.result
    (report_of_text g.S.Shelf c.args.shelf.now c.args.shelf.now c.args.list.now g.O.Console c.args.out.now
    c.put_lines.new.out c.args.first.now c.in-List.fault c.in-List.is)
    c.put_lines.ensures.printed

pub returns-in_default-clause-printed : goal.returns-in_default-clause-printed
returns-in_default-clause-printed g c =
    on_ok_weaker c.put_sources.result
    (report_of_sources g.S.Shelf c.args.shelf.now c.put_sources.new.shelf c.args.list.now g.O.Console c.args.out.now
    c.put_sources.new.out c.args.first.now c.in_default.not-List)
    c.put_sources.ensures.printed
