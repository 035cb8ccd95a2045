use Rattle.std.proofs.Common.{false, map, rules}
use Rattle.serde_json.specs.View.{items_of}
use Rattle.checkreport.specs.Printed.{printed_items}
use Rattle.report_terms.specs.Report.{notice_data}
use Rattle.checkreport.proofs.Arrays.{none_printed, some_printed}
use Rattle.checkreport.proofs.Parts.{notices_text}
use Rattle.checkreport.proofs.accepted.put_notices_of_files.Goals as goal

pub returns-in-Some : goal.returns-in-Some
returns-in-Some g c =
    some_printed g.O.Console.contents g.O.Console.failures (λ xs. printed_items false (items_of (map notice_data xs)))
    c.args.notices.now c.in-Some.first.now c.in-Some.rest.now (search (rules, c.in-Some.ensures.cases))
    (notices_text c.in-Some.first.now c.in-Some.rest.now) c.put_notice.ensures c.put_further_notices.ensures c.put.ensures

pub returns-in-None : goal.returns-in-None
returns-in-None g c =
    none_printed g.O.Console.contents g.O.Console.failures (λ xs. printed_items false (items_of (map notice_data xs)))
    c.args.notices.now c.in-None.ensures.cases c.put-in-None.ensures
