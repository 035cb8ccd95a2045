use Rattle.std.proofs.Common.{false, rules}
use Rattle.checkreport.specs.Printed.{printed_members}
use Rattle.checkreport.specs.Explained.{members_of}
use Rattle.checkreport.proofs.Arrays.{none_printed, some_printed}
use Rattle.checkreport.proofs.Parts.{members_text_of}
use Rattle.checkreport.proofs.explained.put_members.Goals as goal

pub returns-in-Some : goal.returns-in-Some
returns-in-Some g c =
    some_printed g.O.Console.contents g.O.Console.failures (λ xs. printed_members false (members_of xs))
    c.args.members.now c.in-Some.first.now c.in-Some.rest.now (search (rules, c.in-Some.ensures.cases))
    (members_text_of c.in-Some.first.now c.in-Some.rest.now) c.put_member.ensures c.put_further_members.ensures c.put.ensures

pub returns-in-None : goal.returns-in-None
returns-in-None g c =
    none_printed g.O.Console.contents g.O.Console.failures (λ xs. printed_members false (members_of xs))
    c.args.members.now c.in-None.ensures.cases c.put-in-None.ensures
